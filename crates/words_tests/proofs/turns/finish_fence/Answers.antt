use Rattle.std.proofs.Common.{refl, sym, subst, ◌∙◌}
use Rattle.std.proofs.lemmas.Bool.{not-false}
use Rattle.words_tests.specs.Turns.{HasRows}
use Rattle.words_tests.specs.declared.turns.ThreeRows.{ThreeRows}
use Rattle.words_tests.proofs.ReceiptTurnLemmas.{more_rows, same_rows}
use Rattle.words_tests.proofs.turns.finish_fence.Goals as goal

pub receive-requires-clause-first : goal.receive-requires-clause-first
receive-requires-clause-first g c =
    let f = c.args.fence in
    let known = more_rows f 1 _ _ _ c.args.zero.now.seen _ (c.read_all.ensures.knew _ c.in-Some.is 1) c.requires.rows in
    let same = same_rows c.args.first.now c.in-Some.second (not-false _ (sym c.ne.ensures ∙ c.if-ne.false)) in
    (0, refl, subst (λ (r : ThreeRows). HasRows f 1 r.zero r.one r.two c.read_all.new.zero.seen) same known)
