-- Futures: who created them, which task or message has one as its due, which task needs them, and who gave them.
use Rattle.std.specs.Prelude.{◌≡◌, ◌⊎◌, ℕ, ◌+◌, Bool, true, false, not, ◌&&◌, ◌||◌, ◌==◌, if◌then◌else◌, List, [], ◌∷◌, Option, Some, None, map}
use Rattle.std.specs.List.{list_any}
use Rattle.app_core.specs.declared.label.Label.{Label}
use Rattle.app_core.specs.Outlines.{same_label, is_due}
use Rattle.event_lists.specs.declared.future.Bringer.{Bringer}
use Rattle.event_lists.specs.declared.future.Bringer.TheVariants.{Main as main_at, Task as task_of}
use Rattle.event_lists.specs.declared.future.Future.{Future}
use Rattle.event_lists.specs.declared.event.Event.{Event}
use Rattle.event_lists.specs.declared.event.Event.TheVariants.{Sent, TookMessage, TookTask, Submitted, Gave}
use Rattle.event_lists.specs.declared.event.Parcel.TheVariants.{Unit as Spawned, Give}
use Rattle.event_lists.specs.declared.mark.Item.{Item}
use Rattle.event_lists.specs.declared.mark.Item.TheVariants.{Message, Task}
use Rattle.event_lists.specs.declared.mark.Mark.{Mark}
use Rattle.event_lists.specs.Events.{part, in_hand, is_item, makes}

abbrev pub same_bringer : Bringer → Bringer → Bool
same_bringer (task_of r n) (task_of q m) = (r == q) && (n == m)
same_bringer (main_at r) (main_at q) = r == q
same_bringer _ _ = false

abbrev pub same_future : Future → Future → Bool
same_future f g = same_bringer f.by g.by && same_label f.label g.label

abbrev pub is_future : Future → Option Future → Bool
is_future f None = false
is_future f (Some g) = same_future f g

-- who spawns on a lane of this rank, with this in hand; with a message in hand nobody does
abbrev pub bringer : ℕ → Option Item → Option Bringer
bringer r None = Some (main_at r)
bringer r (Some (Task q n)) = Some (task_of q n)
bringer r (Some (Message q n)) = None

abbrev pub future_by : Option Bringer → Label → Option Future
future_by None d = None
future_by (Some b) d = Some (record { by = b; label = d })

abbrev pub futures_by : Option Bringer → List Label → List Future
futures_by None ds = []
futures_by (Some b) ds = map (λ d. record { by = b; label = d }) ds

-- the due with which an event spawns
abbrev pub spawned_due : Event → Option Label
spawned_due (Sent n to (Spawned u d)) = d
spawned_due (Submitted n t) = t.due
spawned_due _ = None

-- the needs with which an event spawns
abbrev pub spawned_needs : Event → List Label
spawned_needs (Submitted n t) = t.needs
spawned_needs _ = []

-- whether this is the label of the due of what is in hand
abbrev pub is_own : Label → Option Future → Bool
is_own d None = false
is_own d (Some f) = same_label d f.label

-- the future of a spawn's due, on a lane of this rank with this in hand, whose own due is this: the own due where it has
-- its label or a message is in hand, and else one that is created
abbrev pub due_of_spawn : ℕ → Option Item → Option Future → Option Label → Option Future
due_of_spawn r (Some (Message q m)) own d = own
due_of_spawn r h own None = None
due_of_spawn r h own (Some d) = if is_own d own then own else future_by (bringer r h) d

-- the due of the message or task that an event makes
abbrev pub due_made : ℕ → Option Item → Option Future → Event → Option Future
due_made r h own (Sent n to (Spawned u d)) = due_of_spawn r h own d
due_made r h own (Sent n to (Give d)) = own
due_made r h own (Submitted n t) = due_of_spawn r h own t.due
due_made r h own _ = None

abbrev pub of_item : Option Item → (Item → Option Future) → Option Future
of_item None f = None
of_item (Some c) f = f c

-- the future that a message or task has as its due, kept as it was when it was sent or submitted
abbrev pub due_of : Item → List Mark → Option Future
due_of c [] = None
due_of c (x ∷ log) =
    if is_item c (makes x.lane.rank x.event) then due_made x.lane.rank (in_hand (part x.lane log)) (of_item (in_hand (part x.lane log)) (λ d. due_of d log)) x.event else due_of c log

-- the due of what is in hand
abbrev pub own_due : Option Item → List Mark → Option Future
own_due h log = of_item h (λ c. due_of c log)

-- the futures that a task needs
abbrev pub needs_of : Item → List Mark → List Future
needs_of c [] = []
needs_of c (x ∷ log) =
    if is_item c (makes x.lane.rank x.event) then futures_by (bringer x.lane.rank (in_hand (part x.lane log))) (spawned_needs x.event) else needs_of c log

abbrev pub is_bringer : Bringer → Option Bringer → Bool
is_bringer b None = false
is_bringer b (Some c) = same_bringer b c

-- whether this bringer spawned with this due
abbrev pub was_due : Bringer → Label → List Mark → Bool
was_due b d [] = false
was_due b d (x ∷ log) = (is_bringer b (bringer x.lane.rank (in_hand (part x.lane log))) && is_due d (spawned_due x.event)) || was_due b d log

-- whether this bringer spawned with this need
abbrev pub was_needed : Bringer → Label → List Mark → Bool
was_needed b d [] = false
was_needed b d (x ∷ log) =
    (is_bringer b (bringer x.lane.rank (in_hand (part x.lane log))) && list_any (λ m. same_label d m) (spawned_needs x.event)) || was_needed b d log

-- whether an event gives, sends or spawns on the due of this label
abbrev pub passes_on : Label → Event → Bool
passes_on d (Sent n to (Spawned u o)) = is_due d o
passes_on d (Sent n to (Give f)) = same_label d f
passes_on d (Submitted n t) = is_due d t.due
passes_on d (Gave f) = same_label d f
passes_on d _ = false

-- whether a lane took a task and didn't pass on the due of this label since
abbrev pub is_kept : Label → List Event → Bool
is_kept d [] = false
is_kept d (TookTask r n ∷ es) = true
is_kept d (e ∷ es) = not (passes_on d e) && is_kept d es

-- whether a lane took a message, and neither submitted nor gave since
abbrev pub is_fresh : List Event → Bool
is_fresh [] = false
is_fresh (TookMessage r n ∷ es) = true
is_fresh (Submitted n t ∷ es) = false
is_fresh (Gave f ∷ es) = false
is_fresh (_ ∷ es) = is_fresh es

-- the future that an event gives, where this is the due of what is in hand
abbrev pub gives : Option Future → Event → Option Future
gives own (Gave d) = own
gives own _ = None

-- how often a future was given
abbrev pub times_given : Future → List Mark → ℕ
times_given f [] = 0
times_given f (x ∷ log) = (if is_future f (gives (own_due (in_hand (part x.lane log)) log) x.event) then 1 else 0) + times_given f log

-- the future is one of these
abbrev pub IsIn : Future → List Future → Type 0
IsIn f [] = ⊥
IsIn f (g ∷ fs) = (g ≡ f) ⊎ IsIn f fs
