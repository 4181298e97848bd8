use Rattle.std.proofs.Common.{◌≡◌, ◌⊎◌, length, Contains}
use Rattle.std.specs.Vec.Iter.{into_iter_items, into_iter_len}
use Rattle.event_lists.specs.Events.{Begins}
use Rattle.world_words.specs.Lanes.{ToldView}
use Rattle.lane_tasks.proofs.taking.learn_all.Given as goal

abbrev pub invariant-loop-told : goal.invariant-loop-told
invariant-loop-told g l = record {
  lane : l.lane ≡ record l.initial.lane { seen = l.lane.seen };
  seen : Begins l.initial.lane.seen l.lane.seen;
  tables : (told : ToldView) → Contains (into_iter_items l.told-iterator) told → told.table ≡ l.words.table;
  learnt : (told : ToldView) → Contains (into_iter_items l.initial.told-iterator) told → Contains (into_iter_items l.told-iterator) told ⊎ Begins told.seen l.lane.seen;
  len : into_iter_len l.told-iterator ≡ length (into_iter_items l.told-iterator);
}
