use Rattle.std.proofs.Common.{◌<◌, List, ◌∷◌, reverse, length, sym, ap, subst, rules, arith}
use Rattle.std.proofs.lemmas.List.{length-reverse}
use Rattle.event_lists.specs.declared.mark.Mark.{Mark}
use Rattle.event_lists.specs.Legal.{May}
use Rattle.event_lists.specs.Quiet.{Quiet}
use Rattle.event_lists.proofs.ListLemmas.{begins_refl}
use Rattle.event_lists.proofs.ReceiptLemmas.{quiet}
use Rattle.event_rules.specs.Listed.{on}
use Rattle.event_rules.specs.Shown.{ShowsLane}
use Rattle.event_tables.specs.Contents.{max_events}
use Rattle.event_tables.specs.Indexed.{IsKept}
use Rattle.event_tables.proofs.IndexLemmas.{same_keeps, same_kept, one_more, newest}
use Rattle.event_core.proofs.list.EventList.add.Goals as goal

pub invariant_of-self : goal.invariant_of-self
invariant_of-self c = same_kept c.self.inside.ranks c.self.inside.workers (reverse c.self.inside.marks.items) c.self.inside.indexes c.room.new.self c.room.ensures.values c.self.invariant

pub invariant_of-self-in-Ok : goal.invariant_of-self-in-Ok
invariant_of-self-in-Ok c =
    one_more c.self.inside.ranks c.self.inside.workers c.self.inside.marks.items c.push.new.self.items c.room.new.self c.note.new.self (on c.args.lane c.args.event.now) c.in-Ok.ensures.items
    (same_kept c.self.inside.ranks c.self.inside.workers log c.self.inside.indexes c.room.new.self c.room.ensures.values c.self.invariant) may short
    (c.note.ensures c.self.inside.ranks c.self.inside.workers log (may, c.self.invariant.legal) (let w = length-reverse c.self.inside.marks.items in omega (arith, w, short))
    (subst (ShowsLane log c.args.lane) (sym c.get-state.ensures) (c.self.invariant.keeps.lanes c.args.lane))
    (same_keeps log c.self.inside.indexes c.room.new.self c.room.ensures.values c.self.invariant.keeps))
  where
    log : List Mark
    log = reverse c.self.inside.marks.items

    may : May c.self.inside.ranks c.self.inside.workers log (on c.args.lane c.args.event.now)
    may = subst (λ v. May v.ranks v.workers v.log (on c.args.lane c.args.event.now)) (sym c.self.view_is) (search (rules, c.allows.ensures, c.if-not-allows.false))

    short : length c.self.inside.marks.items < max_events
    short = search (rules, arith)

pub invariant_of-self-in-Err : goal.invariant_of-self-in-Err
invariant_of-self-in-Err c =
    subst (λ ms. IsKept c.self.inside.ranks c.self.inside.workers (reverse ms) c.room.new.self) (sym c.in-Err.ensures.items)
    (same_kept c.self.inside.ranks c.self.inside.workers (reverse c.self.inside.marks.items) c.self.inside.indexes c.room.new.self c.room.ensures.values c.self.invariant)

pub returns-in-Ok-clause-quiet : goal.returns-in-Ok-clause-quiet
returns-in-Ok-clause-quiet c = λ added r is.
    subst (λ whole. Quiet whole c.args.self.now.log r) (sym (newest c.self.inside.marks.items c.push.new.self.items (on c.args.lane c.args.event.now) c.in-Ok.ensures.items))
    (subst (λ before. Quiet (on c.args.lane c.args.event.now ∷ log) before r) (ap (λ v. v.log) c.self.view_is)
    (quiet c.self.inside.ranks c.self.inside.workers (on c.args.lane c.args.event.now ∷ log) log (on c.args.lane c.args.event.now) r (may, c.self.invariant.legal) (begins_refl (on c.args.lane c.args.event.now ∷ log)) is))
  where
    log : List Mark
    log = reverse c.self.inside.marks.items

    may : May c.self.inside.ranks c.self.inside.workers log (on c.args.lane c.args.event.now)
    may = subst (λ v. May v.ranks v.workers v.log (on c.args.lane c.args.event.now)) (sym c.self.view_is) (search (rules, c.allows.ensures, c.if-not-allows.false))
