use Rattle.std.proofs.Common.{◌≡◌, true, false, take, Some}
use Rattle.event_lists.specs.declared.future.Future.{Future}
use Rattle.event_lists.specs.Futures.{same_future}
use Rattle.event_tables.specs.Tables.{has_place}
use Rattle.event_tables.specs.Futures.{is_need_of, HasRoom, Notes}
use Rattle.event_tables.proofs.futures.note_needs.Given as goal

abbrev pub invariant-loop-label : goal.invariant-loop-label
invariant-loop-label l =
    Notes (λ f. false) (is_need_of (Some l.by) (take l.label-index l.label-items)) (λ f. false) l.initial.futures l.futures
    × ((f : Future) → has_place same_future l.initial.futures f ≡ true → has_place same_future l.futures f ≡ true)
    × HasRoom l.futures (is_need_of (Some l.by) l.label-items)
