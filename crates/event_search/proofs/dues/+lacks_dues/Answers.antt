use Rattle.std.proofs.Common.{◌≡◌, true, reverse}
use Rattle.std.specs.List.{list_any}
use Rattle.std.proofs.lemmas.List.{reverse-append}
use Rattle.app_core.specs.declared.label.Label.{Label}
use Rattle.app_core.specs.Outlines.{same_label}
use Rattle.event_lists.specs.Futures.{spawned_needs, was_due}
use Rattle.event_search.proofs.LackingLemmas.{lacking_before}
use Rattle.event_search.proofs.dues.+lacks_dues.Goals as goal

pub returns-else-lacks_one : goal.returns-else-lacks_one
returns-else-lacks_one t c =
    let none : (d : Label) → list_any (λ m. same_label d m) (spawned_needs c.in-Some.newest.now.event) ≡ true → was_due c.args.bringer d (reverse c.args.all.now) ≡ true = rw (← c.spawned_needs-needs.ensures, ← c.labels.ensures) (c.lacks_one.ensures.0 c.if-lacks_one.false) in
    rw (c.in-Some.ensures.cases.0, reverse-append) (lacking_before c.args.bringer c.in-Some.newest.now (reverse c.in-Some.before.now) (reverse c.args.all.now) c.lacks_dues-else-lacks_one.result none c.lacks_dues-else-lacks_one.ensures)
