use Rattle.std.proofs.Common.{◌≡◌, sym, subst, ◌∙◌}
use Rattle.std.specs.Prelude.{Some, None}
use Rattle.event_lists.specs.declared.mark.Item.{Item}
use Rattle.event_lists.specs.Futures.{due_of}
use Rattle.event_rules.specs.Shown.{ShowsItem}
use Rattle.event_tables.proofs.DueLemmas.{unmade_due}
use Rattle.event_tables.proofs.lanes.due_taken.Goals as goal

pub returns-in-None : goal.returns-in-None
returns-in-None c = λ log keeps d t.
    let is : Some c.in_ok-item.item ≡ Some d = sym c.in_ok-item.was ∙ c.takes.ensures ∙ t in
    let same : c.in_ok-item.item ≡ d = cc in
    let unmade = subst (ShowsItem log c.in_ok-item.item) (sym c.get.ensures ∙ c.in-None.is) (keeps c.in_ok-item.item) in
    sym (subst (λ (z : Item). due_of z log ≡ None) same (unmade_due c.in_ok-item.item log unmade))
