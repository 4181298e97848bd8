use Rattle.std.proofs.Common.{subst}
use Rattle.event_lists.specs.Fences.{Fences}
use Rattle.event_lists.specs.Events.{part}
use Rattle.event_lists.proofs.ListLemmas.{begins_refl}
use Rattle.event_lists.proofs.OwnLemmas.{allowed, makes_for, reading_is_next, reading_of}
use Rattle.event_lists.proofs.lasting.conditions_were_met.Goals as goal

pub returns-clause-sees : goal.returns-clause-sees
returns-clause-sees c = λ log l. record { begins = begins_refl log; own = λ i. part l log; whole = λ i. part l log }

pub returns-clause-hands : goal.returns-clause-hands
returns-clause-hands c = λ ranks workers log x h. allowed ranks log x.lane (part x.lane log) x.event h.0.counting h.0.fences

pub returns-clause-spawners : goal.returns-clause-spawners
returns-clause-spawners c = λ ranks workers log x h k b m i. makes_for ranks log x.lane (part x.lane log) x.event k b h.0.counting m i

pub returns-clause-next : goal.returns-clause-next
returns-clause-next c = λ ranks workers log x h k v f p i. reading_is_next ranks log x.lane (part x.lane log) k v f p (subst (Fences ranks log x.lane (part x.lane log)) i h.0.fences)

pub returns-clause-readings : goal.returns-clause-readings
returns-clause-readings c = λ e. reading_of e
