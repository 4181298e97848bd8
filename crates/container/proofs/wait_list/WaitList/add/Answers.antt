use Rattle.std.proofs.Common.{◌≡◌, ◌++◌, ◌∷◌, [], Some, ◌∙◌, sym, ap, length, rules, arith}
use Rattle.container.specs.WaitLog.{left_in}
use Rattle.container.proofs.WaitLemmas.{left_in-push, passed, placed_more}
use Rattle.container.proofs.wait_list.WaitList.add.Goals as goal

pub invariant_of-self-else-is_err-2 : goal.invariant_of-self-else-is_err-2
invariant_of-self-else-is_err-2 c =
    let log = c.self.inside.log.items in
    let grown : c.push.new.self.items ≡ log ++ Some c.args.look_up ∷ [] = search rules in
    let place : c.len-place.result ≡ length log = omega (arith, c.len-place.ensures, c.self.inside.log.ok.0) in
    placed_more log c.push.new.self.items c.self.inside.places c.add_place.new.places c.args.look_up c.len-place.result place grown c.self.invariant
    (passed c.add_place.result (sym c.is_err-2.ensures.value ∙ c.if-is_err-2.false) c.add_place.ensures.ok)

pub returns-clause-ok : goal.returns-clause-ok
returns-clause-ok c =
    let log = c.self.inside.log.items in
    let grown : c.push.new.self.items ≡ log ++ Some c.args.look_up ∷ [] = search rules in
    ap left_in grown ∙ left_in-push log c.args.look_up ∙ ap (λ ls. ls ++ c.args.look_up ∷ []) c.self.view_is
