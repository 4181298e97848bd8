-- What was sent or submitted as a message or task, in a legal list: the one event that made it.
use Rattle.std.proofs.Common.{◌≡◌, ℕ, Bool, true, false, List, [], ◌∷◌, refl, ap, ◌∙◌, subst, inl, inr, arith}
use Rattle.std.specs.Prelude.{if◌then◌else◌, Some}
use Rattle.event_lists.specs.declared.lane.LaneName.{LaneName}
use Rattle.event_lists.specs.declared.event.Event.{Event}
use Rattle.event_lists.specs.declared.event.Event.TheVariants.{Sent, Submitted}
use Rattle.event_lists.specs.declared.event.Parcel.{Parcel}
use Rattle.event_lists.specs.declared.event.TaskName.{TaskName}
use Rattle.event_lists.specs.declared.mark.Item.{Item}
use Rattle.event_lists.specs.declared.mark.Item.TheVariants.{Message, Task}
use Rattle.event_lists.specs.declared.mark.Mark.{Mark}
use Rattle.event_lists.specs.Events.{part, StandsOn, in_hand, is_item, makes, IsSent, IsSubmitted}
use Rattle.event_lists.specs.Futures.{bringer, futures_by, spawned_needs, needs_of}
use Rattle.event_lists.specs.Legal.{Legal}
use Rattle.event_lists.proofs.ItemLemmas.{is_item_some, some_is_item, made_here, new_item}
use Rattle.event_rules.specs.declared.values.Load.{Load}
use Rattle.event_rules.specs.declared.values.Load.TheVariants as of
use Rattle.event_rules.specs.Shown.{load_made, load_of, spawner_of}

-- what is in the list is what was made
pub stands_load : (ranks workers : ℕ) (log : List Mark) → Legal ranks workers log → (l : LaneName) (e : Event) (c : Item) → makes l.rank e ≡ Some c → StandsOn l e log → load_of c log ≡ load_made e
stands_load ranks workers [] h l e c m s = absurd s
stands_load ranks workers (x ∷ log) h l e c m s = go s (stands_load ranks workers log h.1 l e c m) (is_item c (makes x.lane.rank x.event)) refl
  where
    go : StandsOn l e (x ∷ log) → (StandsOn l e log → load_of c log ≡ load_made e) → (b : Bool) → is_item c (makes x.lane.rank x.event) ≡ b → (if b then load_made x.event else load_of c log) ≡ load_made e
    go (inl i) rest true t = ap load_made i.1
    go (inr s) rest true t = absurd (omega (arith, new_item ranks workers log x h c (is_item_some c (makes x.lane.rank x.event) t), made_here c l e log m s))
    go (inl i) rest false t =
        let made : makes x.lane.rank x.event ≡ Some c = ap (λ (k : LaneName). makes k.rank x.event) i.0 ∙ ap (makes l.rank) i.1 ∙ m in
        let yes = some_is_item c (makes x.lane.rank x.event) made in
        absurd (cc)
    go (inr s) rest false t = rest s

-- what was made is in the list
pub load_stands : (c : Item) (d : Load) (log : List Mark) → load_of c log ≡ Some d → (l : LaneName) × (e : Event) × (makes l.rank e ≡ Some c) × (load_made e ≡ Some d) × StandsOn l e log
load_stands c d [] i = absurd (cc)
load_stands c d (x ∷ log) i = go (load_stands c d log) (is_item c (makes x.lane.rank x.event)) refl i
  where
    go : (load_of c log ≡ Some d → (l : LaneName) × (e : Event) × (makes l.rank e ≡ Some c) × (load_made e ≡ Some d) × StandsOn l e log) → (b : Bool) → is_item c (makes x.lane.rank x.event) ≡ b → (if b then load_made x.event else load_of c log) ≡ Some d
        → (l : LaneName) × (e : Event) × (makes l.rank e ≡ Some c) × (load_made e ≡ Some d) × StandsOn l e (x ∷ log)
    go rest true t i = (x.lane, x.event, is_item_some c (makes x.lane.rank x.event) t, i, inl (refl, refl))
    go rest false t i = let r = rest i in (r.0, r.1, r.2, r.3, inr r.4)

-- the message that was sent
pub sent_load : (ranks workers : ℕ) (log : List Mark) → Legal ranks workers log → (r n to : ℕ) (p : Parcel) → IsSent r n to p log → load_of (Message r n) log ≡ Some (of.Message to p)
sent_load ranks workers log h r n to p s = stands_load ranks workers log h s.0 (Sent n to p) (Message r n) (ap (λ (q : ℕ). Some (Message q n)) s.1) s.2

pub load_sent : (log : List Mark) (r n to : ℕ) (p : Parcel) → load_of (Message r n) log ≡ Some (of.Message to p) → IsSent r n to p log
load_sent log r n to p i =
    let s = load_stands (Message r n) (of.Message to p) log i in
    let g = go s.1 s.0 s.2 s.3 s.4 in
    (s.0, g.0, g.1)
  where
    go : (e : Event) (l : LaneName) → makes l.rank e ≡ Some (Message r n) → load_made e ≡ Some (of.Message to p) → StandsOn l e log → (l.rank ≡ r) × StandsOn l (Sent n to p) log
    go (Sent m q o) l a b s =
        let rank : l.rank ≡ r = cc in
        let number : m ≡ n = cc in
        let goes : q ≡ to = cc in
        let parcel : o ≡ p = cc in
        (rank, subst (λ (e : Event). StandsOn l e log) (λ i. Sent (number i) (goes i) (parcel i)) s)
    go (Submitted m t) l a b s = absurd (cc)
    go e l a b s = absurd (cc)

-- the task that was submitted
pub submitted_load : (ranks workers : ℕ) (log : List Mark) → Legal ranks workers log → (r n : ℕ) (t : TaskName) → IsSubmitted r n t log → load_of (Task r n) log ≡ Some (of.Task t)
submitted_load ranks workers log h r n t s = stands_load ranks workers log h s.0 (Submitted n t) (Task r n) (ap (λ (q : ℕ). Some (Task q n)) s.1) s.2

pub load_submitted : (log : List Mark) (r n : ℕ) (t : TaskName) → load_of (Task r n) log ≡ Some (of.Task t) → IsSubmitted r n t log
load_submitted log r n t i =
    let s = load_stands (Task r n) (of.Task t) log i in
    let g = go s.1 s.0 s.2 s.3 s.4 in
    (s.0, g.0, g.1)
  where
    go : (e : Event) (l : LaneName) → makes l.rank e ≡ Some (Task r n) → load_made e ≡ Some (of.Task t) → StandsOn l e log → (l.rank ≡ r) × StandsOn l (Submitted n t) log
    go (Submitted m u) l a b s =
        let rank : l.rank ≡ r = cc in
        let number : m ≡ n = cc in
        let task : u ≡ t = cc in
        (rank, subst (λ (e : Event). StandsOn l e log) (λ i. Submitted (number i) (task i)) s)
    go (Sent m q o) l a b s = absurd (cc)
    go e l a b s = absurd (cc)

-- no message is a task, and no task a message
pub no_task : (log : List Mark) (r n : ℕ) (t : TaskName) → load_of (Message r n) log ≡ Some (of.Task t) → ⊥
no_task log r n t i = let s = load_stands (Message r n) (of.Task t) log i in go s.1 s.0 s.2 s.3
  where
    go : (e : Event) (l : LaneName) → makes l.rank e ≡ Some (Message r n) → load_made e ≡ Some (of.Task t) → ⊥
    go (Sent m q o) l a b = absurd (cc)
    go (Submitted m u) l a b = absurd (cc)
    go e l a b = absurd (cc)

pub no_message : (log : List Mark) (r n to : ℕ) (p : Parcel) → load_of (Task r n) log ≡ Some (of.Message to p) → ⊥
no_message log r n to p i = let s = load_stands (Task r n) (of.Message to p) log i in go s.1 s.0 s.2 s.3
  where
    go : (e : Event) (l : LaneName) → makes l.rank e ≡ Some (Task r n) → load_made e ≡ Some (of.Message to p) → ⊥
    go (Sent m q o) l a b = absurd (cc)
    go (Submitted m u) l a b = absurd (cc)
    go e l a b = absurd (cc)

-- a task needs the futures of its spawner that have the labels of its name
pub needs_spawned : (log : List Mark) (r n : ℕ) (t : TaskName) → load_of (Task r n) log ≡ Some (of.Task t) → needs_of (Task r n) log ≡ futures_by (spawner_of (Task r n) log) t.needs
needs_spawned [] r n t i = absurd (cc)
needs_spawned (x ∷ log) r n t i = go (needs_spawned log r n t) (is_item (Task r n) (makes x.lane.rank x.event)) refl i
  where
    here : (e : Event) → makes x.lane.rank e ≡ Some (Task r n) → load_made e ≡ Some (of.Task t) → spawned_needs e ≡ t.needs
    here (Submitted m u) a b = let task : u ≡ t = cc in ap (λ (z : TaskName). z.needs) task
    here (Sent m q o) a b = absurd (cc)
    here e a b = absurd (cc)

    go : (load_of (Task r n) log ≡ Some (of.Task t) → needs_of (Task r n) log ≡ futures_by (spawner_of (Task r n) log) t.needs) → (b : Bool) → is_item (Task r n) (makes x.lane.rank x.event) ≡ b → (if b then load_made x.event else load_of (Task r n) log) ≡ Some (of.Task t)
        → (if b then futures_by (bringer x.lane.rank (in_hand (part x.lane log))) (spawned_needs x.event) else needs_of (Task r n) log) ≡ futures_by (if b then bringer x.lane.rank (in_hand (part x.lane log)) else spawner_of (Task r n) log) t.needs
    go rest true a i = ap (futures_by (bringer x.lane.rank (in_hand (part x.lane log)))) (here x.event (is_item_some (Task r n) (makes x.lane.rank x.event) a) i)
    go rest false a i = rest i
