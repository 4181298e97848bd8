use Rattle.std.proofs.Common.{◌≡◌, true, take, Some}
use Rattle.event_lists.specs.declared.future.Future.{Future}
use Rattle.event_lists.specs.Futures.{same_future}
use Rattle.event_tables.specs.Tables.{value_at, has_place}
use Rattle.event_tables.specs.Futures.{is_need_of, HasRoom}
use Rattle.event_tables.proofs.futures.room_for_needs.Given as goal

abbrev pub invariant-loop-label : goal.invariant-loop-label
invariant-loop-label l =
    ((f : Future) → value_at same_future l.futures f ≡ value_at same_future l.initial.futures f)
    × ((f : Future) → has_place same_future l.initial.futures f ≡ true → has_place same_future l.futures f ≡ true)
    × HasRoom l.futures (is_need_of (Some l.by) (take l.label-index l.label-items))
