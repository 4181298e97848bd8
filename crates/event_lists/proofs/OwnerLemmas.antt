-- Who owns a future: at any moment at most one message or task that is yet to give it or pass it on.
use Rattle.std.proofs.Common.{◌≡◌, ◌⊎◌, ℕ, Bool, true, false, not, ◌&&◌, ◌||◌, List, [], ◌∷◌, refl, sym, ap, ◌∙◌, subst, inl, inr, ⊎_elim}
use Rattle.std.specs.Prelude.{if◌then◌else◌, Option, Some, None}
use Rattle.std.proofs.lemmas.Bool.{and_parts, and_from, both_ways, or_left, or_right}
use Rattle.app_core.specs.declared.label.Label.{Label}
use Rattle.app_core.specs.Outlines.{same_label, is_due}
use Rattle.event_lists.specs.declared.lane.LaneName.{LaneName}
use Rattle.event_lists.specs.declared.event.Event.{Event}
use Rattle.event_lists.specs.declared.event.Event.TheVariants.{Sent, TookMessage, TookTask, Submitted, Gave}
use Rattle.event_lists.specs.declared.event.Parcel.TheVariants.{Unit as Spawned, Give}
use Rattle.event_lists.specs.declared.mark.Item.{Item}
use Rattle.event_lists.specs.declared.mark.Item.TheVariants.{Message, Task}
use Rattle.event_lists.specs.declared.mark.Mark.{Mark}
use Rattle.event_lists.specs.Events.{part, same_lane, in_hand, is_item, makes, takes, is_taken}
use Rattle.event_lists.specs.declared.future.Bringer.{Bringer}
use Rattle.event_lists.specs.declared.future.Bringer.TheVariants.{Task as task_of, Main as main_at}
use Rattle.event_lists.specs.declared.future.Future.{Future}
use Rattle.event_lists.specs.Futures.{same_bringer, bringer, future_by, is_bringer, spawned_due, is_own, due_of_spawn, due_made, due_of, own_due, was_due, passes_on, is_kept, is_fresh}
use Rattle.event_lists.specs.Counting.{Counting, MaySpawn}
use Rattle.event_lists.specs.Dues.{DueIsFree}
use Rattle.event_lists.specs.Legal.{Legal}
use Rattle.event_lists.proofs.LaneLemmas.{same_lane_true, part_own}
use Rattle.event_lists.proofs.ItemLemmas.{is_item_some, untaken, took_fresh}
use Rattle.event_lists.proofs.HandLemmas.{hand_before, hand_taken, one_hand}
use Rattle.event_lists.proofs.FutureLemmas.{same_label_refl, same_bringer_refl, own_label}

-- a spawn's new due is its bringer's
spawn_raised : (r : ℕ) (h : Option Item) (d : Label) (f : Future) → future_by (bringer r h) d ≡ Some f → (is_bringer f.by (bringer r h) ≡ true) × (d ≡ f.label)
spawn_raised r h d f i = go (bringer r h) i
  where
    go : (b : Option Bringer) → future_by b d ≡ Some f → (is_bringer f.by b ≡ true) × (d ≡ f.label)
    go None i = absurd (cc)
    go (Some b) i =
        let by : b ≡ f.by = (let e : record { by = b; label = d } ≡ f = cc in ap (λ (z : Future). z.by) e) in
        let label : d ≡ f.label = (let e : record { by = b; label = d } ≡ f = cc in ap (λ (z : Future). z.label) e) in
        (ap (same_bringer f.by) by ∙ same_bringer_refl f.by, label)

-- what has a future as its due was spawned on from a spawn with that due
pub due_raised : (c : Item) (f : Future) (log : List Mark) → due_of c log ≡ Some f → was_due f.by f.label log ≡ true
due_raised c f [] i = absurd (cc)
due_raised c f (x ∷ log) i = go (λ d. due_raised d f log) (is_item c (makes x.lane.rank x.event)) i
  where
    here : Bool
    here = is_bringer f.by (bringer x.lane.rank (in_hand (part x.lane log))) && is_due f.label (spawned_due x.event)

    of_own : ((d : Item) → due_of d log ≡ Some f → was_due f.by f.label log ≡ true) → (h : Option Item) → own_due h log ≡ Some f → was_due f.by f.label log ≡ true
    of_own rest None i = absurd (cc)
    of_own rest (Some d) i = rest d i

    of_spawn : ((d : Item) → due_of d log ≡ Some f → was_due f.by f.label log ≡ true) → (h : Option Item) (o : Option Label) → due_of_spawn x.lane.rank h (own_due h log) o ≡ Some f → ((is_bringer f.by (bringer x.lane.rank h) && is_due f.label o) || was_due f.by f.label log) ≡ true
    of_spawn rest (Some (Message q m)) o i = or_right (is_bringer f.by None && is_due f.label o) (was_due f.by f.label log) (of_own rest (Some (Message q m)) i)
    of_spawn rest h None i = absurd (cc)
    of_spawn rest h (Some d) i = pick (is_own d (own_due h log)) i
      where
        pick : (b : Bool) → (if b then own_due h log else future_by (bringer x.lane.rank h) d) ≡ Some f → ((is_bringer f.by (bringer x.lane.rank h) && same_label f.label d) || was_due f.by f.label log) ≡ true
        pick true i = or_right (is_bringer f.by (bringer x.lane.rank h) && same_label f.label d) (was_due f.by f.label log) (of_own rest h i)
        pick false i = let s = spawn_raised x.lane.rank h d f i in or_left (is_bringer f.by (bringer x.lane.rank h) && same_label f.label d) (was_due f.by f.label log) (and_from (is_bringer f.by (bringer x.lane.rank h)) (same_label f.label d) s.0 (ap (same_label f.label) s.1 ∙ same_label_refl f.label))

    of_made : ((d : Item) → due_of d log ≡ Some f → was_due f.by f.label log ≡ true) → (h : Option Item) (e : Event) → due_made x.lane.rank h (own_due h log) e ≡ Some f → ((is_bringer f.by (bringer x.lane.rank h) && is_due f.label (spawned_due e)) || was_due f.by f.label log) ≡ true
    of_made rest h (Sent n to (Spawned u o)) i = of_spawn rest h o i
    of_made rest h (Sent n to (Give d)) i = or_right (is_bringer f.by (bringer x.lane.rank h) && false) (was_due f.by f.label log) (of_own rest h i)
    of_made rest h (Submitted n t) i = of_spawn rest h t.due i
    of_made rest h _ i = absurd (cc)

    go : ((d : Item) → due_of d log ≡ Some f → was_due f.by f.label log ≡ true) → (b : Bool) → (if b then due_made x.lane.rank (in_hand (part x.lane log)) (own_due (in_hand (part x.lane log)) log) x.event else due_of c log) ≡ Some f → was_due f.by f.label (x ∷ log) ≡ true
    go rest true i = of_made rest (in_hand (part x.lane log)) x.event i
    go rest false i = or_right here (was_due f.by f.label log) (rest c i)

-- whether what is in hand is yet to give its due or pass it on: a message since it was taken, and a task with a due of
-- this label
abbrev pub Keeps : Item → Label → List Event → Type 0
Keeps (Message r n) d mine = is_fresh mine ≡ true
Keeps (Task r n) d mine = is_kept d mine ≡ true

-- a message or task has this future as its due, and isn't taken, or is in a hand and keeps it
pub record Owns (f : Future) (log : List Mark) (c : Item) : Type 0 where
  pub due : due_of c log ≡ Some f
  pub still : (is_taken c log ≡ false) ⊎ ((l : LaneName) × (in_hand (part l log) ≡ Some c) × Keeps c f.label (part l log))

-- an event takes the future out of the hand of its lane
pub record Moves (f : Future) (log : List Mark) (x : Mark) : Type 0 where
  pub item : Item
  pub hand : in_hand (part x.lane log) ≡ Some item
  pub due : due_of item log ≡ Some f
  pub kept : Keeps item f.label (part x.lane log)
  pub lost : Keeps item f.label (x.event ∷ part x.lane log) → ⊥
  pub quiet : takes x.event ≡ None

pub owned : (f : Future) (log : List Mark) (x : Mark) (m : Moves f log x) → Owns f log m.item
owned f log x m = record { due = m.due; still = inr (x.lane, m.hand, m.kept) }

-- whose hand it was taken from doesn't own it any more
pub lost_now : (ranks workers : ℕ) (f : Future) (log : List Mark) (x : Mark) → Legal ranks workers log → (m : Moves f log x) → Owns f (x ∷ log) m.item → ⊥
lost_now ranks workers f log x h m o = ⊎_elim
    (λ free. both_ways (is_taken m.item log) (untaken m.item x log free) (hand_taken x.lane log m.item m.hand))
    (λ held. ⊎_elim
    (λ a. let t = a.1 in let n = m.quiet in absurd (cc))
    (λ a. let same = one_hand ranks workers log h x.lane held.0 m.item m.hand a.0 in
    m.lost (subst (Keeps m.item f.label) (part_own held.0 x log same) held.2))
    (hand_before held.0 x log m.item held.1))
    o.still

keeps_back : (c : Item) (d : Label) (ranks : ℕ) (log : List Mark) (l : LaneName) (e : Event) (mine : List Event) → Counting ranks log l mine e → in_hand mine ≡ Some c → Keeps c d (e ∷ mine) → Keeps c d mine
keeps_back (Message r n) d ranks log l (TookMessage q m) mine a h k = let none = a.0 in absurd (cc)
keeps_back (Message r n) d ranks log l (TookTask q m) mine a h k = k
keeps_back (Message r n) d ranks log l (Submitted m t) mine a h k = absurd (cc)
keeps_back (Message r n) d ranks log l (Gave g) mine a h k = absurd (cc)
keeps_back (Message r n) d ranks log l _ mine a h k = k
keeps_back (Task r n) d ranks log l (TookTask q m) mine a h k = let none = a.0 in absurd (cc)
keeps_back (Task r n) d ranks log l e mine a h k = (and_parts (not (passes_on d e)) (is_kept d mine) k).1

-- who owns a future got it just now, or owned it
pub owns_back : (ranks workers : ℕ) (f : Future) (log : List Mark) (x : Mark) → Legal ranks workers (x ∷ log) → (c : Item) → Owns f (x ∷ log) c
    → ((makes x.lane.rank x.event ≡ Some c) × (due_made x.lane.rank (in_hand (part x.lane log)) (own_due (in_hand (part x.lane log)) log) x.event ≡ Some f)) ⊎ Owns f log c
owns_back ranks workers f log x h c o = go (is_item c (makes x.lane.rank x.event)) refl o.due
  where
    still : (is_taken c log ≡ false) ⊎ ((l : LaneName) × (in_hand (part l log) ≡ Some c) × Keeps c f.label (part l log))
    still = ⊎_elim
        (λ free. inl (untaken c x log free))
        (λ held. ⊎_elim
        (λ a. inl (took_fresh c x.event ranks log x.lane (part x.lane log) h.0.counting a.1).1)
        (λ a. inr (held.0, a.0, lane held.0 a.0 (same_lane x.lane held.0) refl held.2))
        (hand_before held.0 x log c held.1))
        o.still
      where
        lane : (l : LaneName) → in_hand (part l log) ≡ Some c → (b : Bool) → same_lane x.lane l ≡ b → Keeps c f.label (if b then x.event ∷ part l log else part l log) → Keeps c f.label (part l log)
        lane l i true e k =
            let asks = subst (λ (m : LaneName). Counting ranks log x.lane (part m log) x.event) (same_lane_true x.lane l e) h.0.counting in
            keeps_back c f.label ranks log x.lane x.event (part l log) asks i k
        lane l i false e k = k

    go : (b : Bool) → is_item c (makes x.lane.rank x.event) ≡ b → (if b then due_made x.lane.rank (in_hand (part x.lane log)) (own_due (in_hand (part x.lane log)) log) x.event else due_of c log) ≡ Some f → ((makes x.lane.rank x.event ≡ Some c) × (due_made x.lane.rank (in_hand (part x.lane log)) (own_due (in_hand (part x.lane log)) log) x.event ≡ Some f)) ⊎ Owns f log c
    go true e i = inl (is_item_some c (makes x.lane.rank x.event) e, i)
    go false e i = inr (record { due = i; still = still })

unkept : (d : Label) (e : Event) (mine : List Event) → passes_on d e ≡ true → takes e ≡ None → is_kept d (e ∷ mine) ≡ true → ⊥
unkept d (TookTask r n) mine p t k = absurd (cc)
unkept d e mine p t k = both_ways (not (passes_on d e)) (ap not p) (and_parts (not (passes_on d e)) (is_kept d mine) k).0

-- a task that gives, sends or spawns on its due
pub task_moves : (f : Future) (log : List Mark) (x : Mark) (r n : ℕ) (d : Label) → in_hand (part x.lane log) ≡ Some (Task r n) → own_due (in_hand (part x.lane log)) log ≡ Some f → is_own d (own_due (in_hand (part x.lane log)) log) ≡ true → is_kept d (part x.lane log) ≡ true → passes_on d x.event ≡ true → takes x.event ≡ None → Moves f log x
task_moves f log x r n d hand own is kept p t =
    let label = own_label d f (own_due (in_hand (part x.lane log)) log) is own in
    let due : due_of (Task r n) log ≡ Some f = subst (λ (h : Option Item). own_due h log ≡ Some f) hand own in
    record {
      item = Task r n;
      hand = hand;
      due = due;
      kept = subst (λ (z : Label). is_kept z (part x.lane log) ≡ true) label kept;
      lost = λ k. unkept f.label x.event (part x.lane log) (subst (λ (z : Label). passes_on z x.event ≡ true) label p) t k;
      quiet = t;
    }

-- a message whose unit is submitted, or whose future is given
pub message_moves : (f : Future) (log : List Mark) (x : Mark) (r n : ℕ) → in_hand (part x.lane log) ≡ Some (Message r n) → own_due (in_hand (part x.lane log)) log ≡ Some f → is_fresh (part x.lane log) ≡ true → (is_fresh (x.event ∷ part x.lane log) ≡ true → ⊥) → takes x.event ≡ None → Moves f log x
message_moves f log x r n hand own fresh lost t = record {
  item = Message r n;
  hand = hand;
  due = subst (λ (h : Option Item). own_due h log ≡ Some f) hand own;
  kept = fresh;
  lost = lost;
  quiet = t;
}

-- a spawn's due is new, or moved
pub spawns : (f : Future) (log : List Mark) (x : Mark) (o : Option Label) → MaySpawn x.lane (in_hand (part x.lane log)) → DueIsFree (own_due (in_hand (part x.lane log)) log) (bringer x.lane.rank (in_hand (part x.lane log))) log (part x.lane log) o
    → due_of_spawn x.lane.rank (in_hand (part x.lane log)) (own_due (in_hand (part x.lane log)) log) o ≡ Some f → ((d : Label) → o ≡ Some d → passes_on d x.event ≡ true) → takes x.event ≡ None → Moves f log x ⊎ (was_due f.by f.label log ≡ false)
spawns f log x o may free is p t = go (in_hand (part x.lane log)) refl o refl may free is
  where
    go : (h : Option Item) → in_hand (part x.lane log) ≡ h → (o' : Option Label) → o ≡ o' → MaySpawn x.lane h → DueIsFree (own_due h log) (bringer x.lane.rank h) log (part x.lane log) o' → due_of_spawn x.lane.rank h (own_due h log) o' ≡ Some f → Moves f log x ⊎ (was_due f.by f.label log ≡ false)
    go None i None j may free is = absurd (cc)
    go (Some (Message r n)) i o' j may free is = absurd may
    go (Some (Task r n)) i None j may free is = absurd (cc)
    go None i (Some d) j may (inl a) is = let no_own = a.0 in absurd (cc)
    go None i (Some d) j may (inr a) is = inr (subst (λ (z : Future). was_due z.by z.label log ≡ false) (let e : record { by = main_at x.lane.rank; label = d } ≡ f = cc in e) a.1)
    go (Some (Task r n)) i (Some d) j may (inl a) is =
        let own : own_due (Some (Task r n)) log ≡ Some f = sym (ap (λ (b : Bool). if b then own_due (Some (Task r n)) log else Some (record { by = task_of r n; label = d })) a.0) ∙ is in
        inl (task_moves f log x r n d i (ap (λ (h : Option Item). own_due h log) i ∙ own) (subst (λ (h : Option Item). is_own d (own_due h log) ≡ true) (sym i) a.0) a.1 (p d j) t)
    go (Some (Task r n)) i (Some d) j may (inr a) is =
        let new : Some (record { by = task_of r n; label = d }) ≡ Some f = sym (ap (λ (b : Bool). if b then own_due (Some (Task r n)) log else Some (record { by = task_of r n; label = d })) a.0) ∙ is in
        inr (subst (λ (z : Future). was_due z.by z.label log ≡ false) (let e : record { by = task_of r n; label = d } ≡ f = cc in e) a.1)
