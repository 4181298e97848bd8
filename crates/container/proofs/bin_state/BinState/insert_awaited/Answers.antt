use Rattle.std.proofs.Common.{◌≡◌, [], sym, ◌∙◌}
use Rattle.container.specs.LookUps.{others}
use Rattle.container.proofs.LookUpLemmas.{missing_after_insert, others_are_all, empty_list}
use Rattle.container.proofs.bin_state.BinState.insert_awaited.Given.{Over}
use Rattle.container.proofs.bin_state.BinState.insert_awaited.Goals as goal

-- nothing waits for the name
all_stay : (g : Over) (c : goal.Then-is_empty g) → others c.args.name c.self.inside.waiting ≡ c.self.inside.waiting
all_stay g c =
    let none : c.in-Ok.callbacks ≡ [] = empty_list c.in-Ok.callbacks (sym c.if-is_empty.ensures) in
    others_are_all c.args.name c.self.inside.waiting (sym c.in-Ok.ensures ∙ none)

pub invariant_of-self-then-is_empty : goal.invariant_of-self-then-is_empty
invariant_of-self-then-is_empty g c =
    rw (c.in_ok-insert.ensures.ok, ← all_stay g c) (missing_after_insert _ c.args.name c.args.cell _ c.self.invariant)

pub returns-then-is_empty-clause-waiting : goal.returns-then-is_empty-clause-waiting
returns-then-is_empty-clause-waiting g c = rw (← c.self.view_is) (sym (all_stay g c))

pub invariant_of-self-2 : goal.invariant_of-self-2
invariant_of-self-2 g c = rw (c.in_ok-insert.ensures.ok, c.leave_others.ensures) (missing_after_insert _ c.args.name c.args.cell _ c.self.invariant)
