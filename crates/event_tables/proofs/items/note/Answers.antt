use Rattle.std.proofs.Common.{sym, ap, ◌∙◌}
use Rattle.event_rules.specs.Listed.{on}
use Rattle.event_tables.specs.Items.{taken_once}
use Rattle.event_tables.proofs.ItemLemmas.{items_kept}
use Rattle.event_tables.proofs.items.note.Goals as goal

pub returns-in-Some : goal.returns-in-Some
returns-in-Some c = λ ranks workers log h shown keeps.
    items_kept ranks workers log (on c.args.lane c.args.event.now) c.args.state.now h shown c.args.items.now c.set.new.self c.in-Some.item c.made_after.result (sym c.item_of.ensures ∙ c.in-Some.is) keeps c.made_after.ensures.made
    (λ none. c.made_after.ensures.taken none ∙ ap taken_once c.get-made.ensures) c.set.ensures.values
