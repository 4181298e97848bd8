-- A due is kept until it is given: it has an owner, or was given.
use Rattle.std.proofs.Common.{◌≡◌, ◌⊎◌, ℕ, ◌+◌, ◌≤◌, Bool, true, false, not, List, [], ◌∷◌, refl, sym, ap, ◌∙◌, subst, inl, inr, ⊎_elim, arith}
use Rattle.std.specs.Prelude.{if◌then◌else◌, Option, Some, None}
use Rattle.std.proofs.lemmas.Bool.{and_from, cases_Bool, both_ways, or_from}
use Rattle.app_core.specs.declared.label.Label.{Label}
use Rattle.app_core.specs.Outlines.{same_label, is_due}
use Rattle.event_lists.specs.declared.lane.LaneName.{LaneName}
use Rattle.event_lists.specs.declared.event.Event.{Event}
use Rattle.event_lists.specs.declared.event.Event.TheVariants.{Sent, TookMessage, TookTask, Handled, Submitted, Ran, Gave}
use Rattle.event_lists.specs.declared.event.Parcel.TheVariants.{Unit as Spawned, Give}
use Rattle.event_lists.specs.declared.mark.Item.{Item}
use Rattle.event_lists.specs.declared.mark.Item.TheVariants.{Message, Task}
use Rattle.event_lists.specs.declared.mark.Mark.{Mark}
use Rattle.event_lists.specs.Events.{part, same_lane, in_hand, hand_after, is_item, makes, takes, times_made, is_taken}
use Rattle.event_lists.specs.declared.future.Future.{Future}
use Rattle.event_lists.specs.Futures.{is_future, is_own, due_of_spawn, due_made, due_of, own_due, is_kept, is_fresh, gives, times_given}
use Rattle.event_lists.specs.Counting.{Counting, MaySpawn}
use Rattle.event_lists.specs.Dues.{Dues, HasPassedOn}
use Rattle.event_lists.specs.Legal.{Legal}
use Rattle.event_lists.proofs.CountLemmas.{one_if}
use Rattle.event_lists.proofs.LaneLemmas.{same_lane_true, part_own}
use Rattle.event_lists.proofs.ItemLemmas.{is_item_some, some_is_item, new_item, untaken_new}
use Rattle.event_lists.proofs.WaitingLemmas.{Holds, waiting, made_waits, hand_waits}
use Rattle.event_lists.proofs.OwnerLemmas.{Keeps, Owns}
use Rattle.event_lists.proofs.FutureLemmas.{same_label_true, same_label_refl, some_is_future}
use Rattle.event_lists.proofs.GiveLemmas.{given_once}

-- what has a due was made
due_was_made : (c : Item) (f : Future) (log : List Mark) → due_of c log ≡ Some f → 1 ≤ times_made c log
due_was_made c f [] i = absurd (cc)
due_was_made c f (x ∷ log) i = go (due_was_made c f log) (is_item c (makes x.lane.rank x.event)) i
  where
    go : (due_of c log ≡ Some f → 1 ≤ times_made c log) → (b : Bool) → (if b then due_made x.lane.rank (in_hand (part x.lane log)) (own_due (in_hand (part x.lane log)) log) x.event else due_of c log) ≡ Some f → 1 ≤ one_if b + times_made c log
    go rest true i = omega arith
    go rest false i = omega (arith, rest i)

makes_takes : (r : ℕ) (e : Event) (c : Item) → makes r e ≡ Some c → takes e ≡ None
makes_takes r (TookMessage q n) c m = absurd (cc)
makes_takes r (TookTask q n) c m = absurd (cc)
makes_takes r _ c m = refl

-- what is made with this due owns it
new_owner : (ranks workers : ℕ) (f : Future) (log : List Mark) (x : Mark) → Legal ranks workers (x ∷ log) → (c : Item) → makes x.lane.rank x.event ≡ Some c
    → due_made x.lane.rank (in_hand (part x.lane log)) (own_due (in_hand (part x.lane log)) log) x.event ≡ Some f → Owns f (x ∷ log) c
new_owner ranks workers f log x h c m is = record {
  due = ap (λ (b : Bool). if b then due_made x.lane.rank (in_hand (part x.lane log)) (own_due (in_hand (part x.lane log)) log) x.event else due_of c log) (some_is_item c (makes x.lane.rank x.event) m) ∙ is;
  still = inl (or_from (is_item c (takes x.event)) (is_taken c log) (ap (is_item c) (makes_takes x.lane.rank x.event c m)) (untaken_new ranks workers log x h c m));
}

takes_hand : (e : Event) (h : Option Item) (c : Item) → takes e ≡ Some c → hand_after e h ≡ Some c
takes_hand (TookMessage r n) h c t = t
takes_hand (TookTask r n) h c t = t
takes_hand e h c t = absurd (cc)

takes_keeps : (e : Event) (c : Item) (d : Label) (mine : List Event) → takes e ≡ Some c → Keeps c d (e ∷ mine)
takes_keeps (TookMessage r n) c d mine t = subst (λ (z : Item). Keeps z d (TookMessage r n ∷ mine)) (let e : Message r n ≡ c = cc in e) refl
takes_keeps (TookTask r n) c d mine t = subst (λ (z : Item). Keeps z d (TookTask r n ∷ mine)) (let e : Task r n ≡ c = cc in e) refl
takes_keeps e c d mine t = absurd (cc)

-- after an event the item in hand still keeps its due, or the event gives it, or makes an item with it
pub data Outcome (r : ℕ) (c : Item) (f : Future) (mine : List Event) (e : Event) : Type 0 where
  keeps : in_hand (e ∷ mine) ≡ Some c → Keeps c f.label (e ∷ mine) → Outcome r c f mine e
  given : gives (Some f) e ≡ Some f → Outcome r c f mine e
  moved : (d : Item) → makes r e ≡ Some d → due_made r (Some c) (Some f) e ≡ Some f → Outcome r c f mine e

same_due : (f : Future) (r q m : ℕ) (o : Option Label) → is_due f.label o ≡ true → due_of_spawn r (Some (Task q m)) (Some f) o ≡ Some f
same_due f r q m None i = absurd (cc)
same_due f r q m (Some d) i =
    let same : d ≡ f.label = sym (same_label_true f.label d i) in
    let own : is_own d (Some f) ≡ true = ap (λ (z : Label). same_label z f.label) same ∙ same_label_refl f.label in
    ap (λ (b : Bool). if b then Some f else due_of_spawn r (Some (Task q m)) None (Some d)) own

task_passes : (ranks r q m : ℕ) (f : Future) (log : List Mark) (l : LaneName) (mine : List Event) (e : Event) → Counting ranks log l mine e → Dues log l mine e → in_hand mine ≡ Some (Task q m) → due_of (Task q m) log ≡ Some f → is_kept f.label mine ≡ true → Outcome r (Task q m) f mine e
task_passes ranks r q m f log l mine (Sent n to (Spawned u o)) a d h due k = ⊎_elim
    (λ t. moved (Message r n) refl (same_due f r q m o t))
    (λ t. keeps h (and_from (not (is_due f.label o)) (is_kept f.label mine) (ap not t) k))
    (cases_Bool (is_due f.label o))
task_passes ranks r q m f log l mine (Sent n to (Give g)) a d h due k = moved (Message r n) refl refl
task_passes ranks r q m f log l mine (Submitted n t) a d h due k = ⊎_elim
    (λ i. moved (Task r n) refl (same_due f r q m t.due i))
    (λ i. keeps h (and_from (not (is_due f.label t.due)) (is_kept f.label mine) (ap not i) k))
    (cases_Bool (is_due f.label t.due))
task_passes ranks r q m f log l mine (Gave g) a d h due k = given refl
task_passes ranks r q m f log l mine (Ran n s t) a d h due k =
    let same : Task q m ≡ Task s t = (let i = a.1 in cc) in
    let own : due_of (Task s t) log ≡ Some f = subst (λ (z : Item). due_of z log ≡ Some f) same due in
    let passed : is_kept f.label mine ≡ false = subst (λ (z : Option Future). HasPassedOn z mine) own d.0 in
    absurd (both_ways (is_kept f.label mine) passed k)
task_passes ranks r q m f log l mine (Handled n s t) a d h due k = let i = a.1 in absurd (cc)
task_passes ranks r q m f log l mine (TookMessage s t) a d h due k = let i = a.0 in absurd (cc)
task_passes ranks r q m f log l mine (TookTask s t) a d h due k = let i = a.0 in absurd (cc)
task_passes ranks r q m f log l mine _ a d h due k = keeps h k

message_passes : (ranks r q m : ℕ) (f : Future) (log : List Mark) (l : LaneName) (mine : List Event) (e : Event) → Counting ranks log l mine e → Dues log l mine e → in_hand mine ≡ Some (Message q m) → is_fresh mine ≡ true → Outcome r (Message q m) f mine e
message_passes ranks r q m f log l mine (Sent n to p) a d h k = absurd (subst (MaySpawn l) h a.1)
message_passes ranks r q m f log l mine (Submitted n t) a d h k = moved (Task r n) refl refl
message_passes ranks r q m f log l mine (Gave g) a d h k = given refl
message_passes ranks r q m f log l mine (Handled n s t) a d h k = absurd (both_ways (is_fresh mine) d k)
message_passes ranks r q m f log l mine (Ran n s t) a d h k = let i = a.1 in absurd (cc)
message_passes ranks r q m f log l mine (TookMessage s t) a d h k = let i = a.0 in absurd (cc)
message_passes ranks r q m f log l mine (TookTask s t) a d h k = let i = a.0 in absurd (cc)
message_passes ranks r q m f log l mine _ a d h k = keeps h k

outcome : (ranks r : ℕ) (c : Item) (f : Future) (log : List Mark) (l : LaneName) (mine : List Event) (e : Event) → Counting ranks log l mine e → Dues log l mine e → in_hand mine ≡ Some c → due_of c log ≡ Some f → Keeps c f.label mine → Outcome r c f mine e
outcome ranks r (Message q m) f log l mine e a d h due k = message_passes ranks r q m f log l mine e a d h k
outcome ranks r (Task q m) f log l mine e a d h due k = task_passes ranks r q m f log l mine e a d h due k

-- a future has an owner, or was given
abbrev Lasts : Future → List Mark → Type 0
Lasts f log = ((c : Item) × Owns f log c) ⊎ (1 ≤ times_given f log)

module _ (ranks workers : ℕ) (f : Future) (log : List Mark) (x : Mark) (h : Legal ranks workers (x ∷ log)) where
  due_stays : (c : Item) → due_of c log ≡ Some f → due_of c (x ∷ log) ≡ Some f
  due_stays c i = go (is_item c (makes x.lane.rank x.event)) refl
    where
      go : (b : Bool) → is_item c (makes x.lane.rank x.event) ≡ b → (if b then due_made x.lane.rank (in_hand (part x.lane log)) (own_due (in_hand (part x.lane log)) log) x.event else due_of c log) ≡ Some f
      go true e = absurd (omega (arith, new_item ranks workers log x h c (is_item_some c (makes x.lane.rank x.event) e), due_was_made c f log i))
      go false e = i

  -- the owner has it in the hand of the event's own lane
  held_here : (c : Item) → due_of c log ≡ Some f → in_hand (part x.lane log) ≡ Some c → Keeps c f.label (part x.lane log) → Lasts f (x ∷ log)
  held_here c due hand k = go (outcome ranks x.lane.rank c f log x.lane (part x.lane log) x.event h.0.counting h.0.dues hand due k)
    where
      own : own_due (in_hand (part x.lane log)) log ≡ Some f
      own = ap (λ (o : Option Item). own_due o log) hand ∙ due

      go : Outcome x.lane.rank c f (part x.lane log) x.event → Lasts f (x ∷ log)
      go (keeps i j) =
          let mine = part_own x.lane x log refl in
          inl (c, record { due = due_stays c due; still = inr (x.lane, subst (λ (es : List Event). in_hand es ≡ Some c) (sym mine) i, subst (Keeps c f.label) (sym mine) j) })
      go (given i) =
          let now : gives (own_due (in_hand (part x.lane log)) log) x.event ≡ Some f = ap (λ (o : Option Future). gives o x.event) own ∙ i in
          let one : one_if (is_future f (gives (own_due (in_hand (part x.lane log)) log) x.event)) ≡ 1 = ap one_if (some_is_future f (gives (own_due (in_hand (part x.lane log)) log) x.event) now) in
          inr (omega (arith, one))
      go (moved d m i) =
          let now : due_made x.lane.rank (in_hand (part x.lane log)) (own_due (in_hand (part x.lane log)) log) x.event ≡ Some f = ap (λ (o : Option Item). due_made x.lane.rank o (own_due (in_hand (part x.lane log)) log) x.event) hand ∙ ap (λ (o : Option Future). due_made x.lane.rank (Some c) o x.event) own ∙ i in
          inl (d, new_owner ranks workers f log x h d m now)

  owner_lasts : (c : Item) → Owns f log c → Lasts f (x ∷ log)
  owner_lasts c o = ⊎_elim
      (λ free. untaken_lasts free (is_item c (takes x.event)) refl)
      (λ held. in_hand_lasts held.0 held.1 held.2 (same_lane x.lane held.0) refl)
      o.still
    where
      untaken_lasts : is_taken c log ≡ false → (b : Bool) → is_item c (takes x.event) ≡ b → Lasts f (x ∷ log)
      untaken_lasts free false e = inl (c, record { due = due_stays c o.due; still = inl (or_from (is_item c (takes x.event)) (is_taken c log) e free) })
      untaken_lasts free true e =
          let t = is_item_some c (takes x.event) e in
          let mine = part_own x.lane x log refl in
          inl (c, record { due = due_stays c o.due; still = inr (x.lane, subst (λ (es : List Event). in_hand es ≡ Some c) (sym mine) (takes_hand x.event (in_hand (part x.lane log)) c t), subst (Keeps c f.label) (sym mine) (takes_keeps x.event c f.label (part x.lane log) t)) })

      in_hand_lasts : (l : LaneName) → in_hand (part l log) ≡ Some c → Keeps c f.label (part l log) → (b : Bool) → same_lane x.lane l ≡ b → Lasts f (x ∷ log)
      in_hand_lasts l i k true e =
          let same = sym (same_lane_true x.lane l e) in
          held_here c o.due (subst (λ (m : LaneName). in_hand (part m log) ≡ Some c) same i) (subst (λ (m : LaneName). Keeps c f.label (part m log)) same k)
      in_hand_lasts l i k false e =
          let other : part l (x ∷ log) ≡ part l log = ap (λ (b : Bool). if b then x.event ∷ part l log else part l log) e in
          inl (c, record { due = due_stays c o.due; still = inr (l, subst (λ (es : List Event). in_hand es ≡ Some c) (sym other) i, subst (Keeps c f.label) (sym other) k) })

  lasts_step : Lasts f log → Lasts f (x ∷ log)
  lasts_step (inl o) = owner_lasts o.0 o.1
  lasts_step (inr g) = inr (omega (arith, g))

lasts : (ranks workers : ℕ) (f : Future) (log : List Mark) → Legal ranks workers log → (c : Item) → due_of c log ≡ Some f → Lasts f log
lasts ranks workers f [] h c i = absurd (cc)
lasts ranks workers f (x ∷ log) h c i = go (λ j. lasts ranks workers f log h.1 c j) (is_item c (makes x.lane.rank x.event)) refl i
  where
    go : (due_of c log ≡ Some f → Lasts f log) → (b : Bool) → is_item c (makes x.lane.rank x.event) ≡ b → (if b then due_made x.lane.rank (in_hand (part x.lane log)) (own_due (in_hand (part x.lane log)) log) x.event else due_of c log) ≡ Some f → Lasts f (x ∷ log)
    go rest true e i = inl (c, new_owner ranks workers f log x h c (is_item_some c (makes x.lane.rank x.event) e) i)
    go rest false e i = lasts_step ranks workers f log x h (rest i)

-- where nothing waits, each due was given once
pub due_given : (ranks workers : ℕ) (log : List Mark) → Legal ranks workers log → ((c : Item) → Holds (waiting log) c → ⊥) → (c : Item) (f : Future) → due_of c log ≡ Some f → times_given f log ≡ 1
due_given ranks workers log h none c f i = ⊎_elim
    (λ o. ⊎_elim
    (λ free. absurd (none o.0 (made_waits ranks workers log h o.0 (due_was_made o.0 f log o.1.due) free)))
    (λ held. absurd (none o.0 (hand_waits ranks workers log h held.0 o.0 held.1)))
    o.1.still)
    (λ given. omega (arith, given, given_once ranks workers log h f))
    (lasts ranks workers f log h c i)
