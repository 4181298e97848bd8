use Rattle.std.proofs.Common.{◌≡◌, ℕ, ◌∷◌, Err, subst}
use Rattle.std.specs.Str.Lines.{lines}
use Rattle.std.proofs.lemmas.Result.{err_from_is_err_and}
use Rattle.job_lang.specs.Reading.{commands_from}
use Rattle.job_lang.proofs.reading.commands_from.Goals as goal

pub returns-in_err-take_line-clause-fault : goal.returns-in_err-take_line-clause-fault
returns-in_err-take_line-clause-fault c fault is =
    let p = err_from_is_err_and c.from_residual.result c.from_residual.ensures.1 in
    let fails = c.in_err-take_line.ensures.fault fault (lines c.in-Some.behind.now) (cc (p.1, p.2, is)) in
    let same_depth = subst (λ (d : ℕ). commands_from d c.loop-line.accepted.commands c.loop-line.number (c.in-Some.line.now ∷ lines c.in-Some.behind.now) ≡ Err fault) c.loop-line.invariant.depth fails in
    rw (← c.loop-line.invariant.reading, c.in-Some.ensures.first) same_depth
