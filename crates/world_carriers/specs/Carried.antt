-- A load beside its carrier, and what carriers of messages and tasks say of their loads.
use Rattle.std.specs.Prelude.{◌≡◌, ℕ, Option}
use Rattle.app_core.specs.declared.label.Label.{Label}
use Rattle.event_lists.specs.declared.event.Parcel.TheVariants.{Unit as Spawned, Give}
use Rattle.event_lists.specs.declared.event.TaskName.{TaskName}
use Rattle.event_lists.specs.declared.mark.Item.TheVariants.{Message, Task}
use Rattle.event_lists.specs.Events.{IsSent, IsSubmitted}
use Rattle.world_rule.specs.declared.view.Pending.TheVariants.{Counted}
use Rattle.world_rule.specs.declared.view.Load.TheVariants.{OfMessage, OfTask}
use Rattle.world_rule.specs.Owing.{owed}
use Rattle.world_words.specs.Lanes.{CarrierView}

pub record CarriedView (L : Type 0) : Type 0 where
  pub load : L
  pub carrier : CarrierView

-- a message that was sent with this unit, to be submitted with this due at the rank that it goes to
abbrev pub CarriesUnit : Label → Option Label → CarrierView → Type 0
CarriesUnit u due c = (r : ℕ) × (n : ℕ) × (c.owed ≡ owed (Counted (Message r n)) c.owed.to (OfMessage (Spawned u due))) × IsSent r n c.owed.to (Spawned u due) c.seen

-- a message that was sent with the value of this future, which is kept at the rank that it goes to
abbrev pub CarriesValue : Label → CarrierView → Type 0
CarriesValue f c = (r : ℕ) × (n : ℕ) × (c.owed ≡ owed (Counted (Message r n)) c.owed.to (OfMessage (Give f))) × IsSent r n c.owed.to (Give f) c.seen

-- the task of this number, which was submitted under this name at the rank that it goes to
abbrev pub CarriesTask : ℕ → TaskName → CarrierView → Type 0
CarriesTask n t c = (c.owed ≡ owed (Counted (Task c.owed.to n)) c.owed.to (OfTask t)) × IsSubmitted c.owed.to n t c.seen
