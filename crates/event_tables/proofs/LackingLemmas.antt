-- How the number of lacking dues of a bringer changes with an event.
use Rattle.std.proofs.Common.{◌≡◌, ◌⊎◌, ◌↔◌, ℕ, ◌+◌, ◌-◌, ◌*◌, ◌<◌, ◌≤◌, Bool, true, false, not, ◌&&◌, ◌||◌, List, [], ◌∷◌, ◌++◌, length, refl, sym, ap, ◌∙◌, subst, inl, inr, ⊎_elim, arith}
use Rattle.std.specs.Prelude.{if◌then◌else◌, Option, Some, None, count_by, min, nat_lt, ◌^◌}
use Rattle.std.specs.Int.{from_bool}
use Rattle.std.specs.List.{list_any}
use Rattle.std.proofs.lemmas.Bool.{or_cases, or_left, or_right, not-false, ltb-false, le-ltb}
use Rattle.std.proofs.lemmas.List.Sums.{sum_by-cons, sum_by-append}
use Rattle.app_core.specs.declared.label.Label.{Label}
use Rattle.app_core.specs.Outlines.{same_label, is_due}
use Rattle.event_lists.specs.declared.lane.LaneName.{LaneName}
use Rattle.event_lists.specs.declared.event.Event.{Event}
use Rattle.event_lists.specs.declared.event.Event.TheVariants.{Sent, Submitted}
use Rattle.event_lists.specs.declared.event.Parcel.TheVariants.{Unit as Spawned}
use Rattle.event_lists.specs.declared.future.Bringer.{Bringer}
use Rattle.event_lists.specs.declared.future.Future.{Future}
use Rattle.event_lists.specs.declared.mark.Item.{Item}
use Rattle.event_lists.specs.declared.mark.Mark.{Mark}
use Rattle.event_lists.specs.Events.{part, in_hand}
use Rattle.event_lists.specs.Futures.{same_bringer, bringer, is_bringer, spawned_due, spawned_needs, was_due}
use Rattle.event_lists.specs.Dues.{NeedsAreDues}
use Rattle.event_lists.specs.Legal.{Legal}
use Rattle.event_lists.proofs.FutureLemmas.{same_label_true, same_label_refl, same_bringer_true, same_bringer_refl}
use Rattle.event_rules.specs.declared.values.LaneState.{LaneState}
use Rattle.event_rules.specs.declared.values.Found.{Found}
use Rattle.event_rules.specs.Listed.{on}
use Rattle.event_rules.specs.Shown.{ShowsLane}
use Rattle.event_tables.specs.declared.table.Table.{Table}
use Rattle.event_tables.specs.Tables.{value_at}
use Rattle.event_tables.specs.Contents.{needed_by, lacking, KeepsFutures, max_events}
use Rattle.event_tables.specs.Spawns.{is_spawn, spawner}
use Rattle.event_tables.specs.Lacking.{KeepsLacks, meets, lacked}
use Rattle.event_tables.proofs.NameLemmas.{same_label_sym, same_bringer_sym}
use Rattle.event_tables.proofs.NeedLemmas.{Apart, needed_any, needed_apart}

abbrev pub bit : Bool → ℕ
bit b = if b then 1 else 0

-- a flag as a number
pub bit_cast : (b : Bool) → from_bool b ≡ bit b
bit_cast true = refl
bit_cast false = refl

-- counts, by the head and by parts
pub count_cons : (p : Label → Bool) (d : Label) (ds : List Label) → count_by p (d ∷ ds) ≡ bit (p d) + count_by p ds
count_cons p d ds = sum_by-cons (λ x. bit (p x)) d ds

pub count_append : (p : Label → Bool) (xs ys : List Label) → count_by p (xs ++ ys) ≡ count_by p xs + count_by p ys
count_append p xs ys = sum_by-append (λ x. bit (p x)) xs ys

-- one more due lowers the count by one where it was needed and wasn't a due, and else not at all
pub one_fewer : (was : Label → Bool) (m : Label) (ds : List Label) → Apart ds
    → count_by (λ d. not (was d)) ds ≡ count_by (λ d. not (same_label d m || was d)) ds + bit (list_any (λ d. same_label m d) ds && not (was m))
one_fewer was m [] apart = refl
one_fewer was m (d ∷ ds) apart = go (one_fewer was m ds apart.1) (same_label m d) refl
  where
    go : count_by (λ x. not (was x)) ds ≡ count_by (λ x. not (same_label x m || was x)) ds + bit (list_any (λ x. same_label m x) ds && not (was m)) → (b : Bool) → same_label m d ≡ b
        → count_by (λ x. not (was x)) (d ∷ ds) ≡ count_by (λ x. not (same_label x m || was x)) (d ∷ ds) + bit ((b || list_any (λ x. same_label m x) ds) && not (was m))
    go rest true e =
        let same = same_label_true m d e in
        let none : list_any (λ x. same_label m x) ds ≡ false = subst (λ (z : Label). list_any (λ x. same_label z x) ds ≡ false) (sym same) apart.0 in
        let gone = ap (λ z. bit (z && not (was m))) none in
        let now = ap (λ z. bit (not (z || was d))) (same_label_sym d m ∙ e) in
        let was_same = ap (λ z. bit (not (was z))) same in
        omega (arith, count_cons (λ x. not (was x)) d ds, count_cons (λ x. not (same_label x m || was x)) d ds, rest, gone, now, was_same)
    go rest false e =
        let now = ap (λ z. bit (not (z || was d))) (same_label_sym d m ∙ e) in
        omega (arith, count_cons (λ x. not (was x)) d ds, count_cons (λ x. not (same_label x m || was x)) d ds, rest, now)

-- none of these are lacking where each is met
count_none : (p : Label → Bool) (ds : List Label) → ((d : Label) → list_any (λ m. same_label d m) ds ≡ true → p d ≡ false) → count_by p ds ≡ 0
count_none p [] h = refl
count_none p (d ∷ ds) h =
    let here = ap bit (h d (or_left (same_label d d) (list_any (λ m. same_label d m) ds) (same_label_refl d))) in
    omega (arith, count_cons p d ds, here, count_none p ds (λ e i. h e (or_right (same_label e d) (list_any (λ m. same_label e m) ds) i)))

none_counted : (p : Label → Bool) (ds : List Label) → count_by p ds ≡ 0 → (d : Label) → list_any (λ m. same_label d m) ds ≡ true → p d ≡ false
none_counted p [] h d i = absurd (cc)
none_counted p (m ∷ ds) h d i = ⊎_elim
    (λ here. subst (λ (z : Label). p z ≡ false) (sym (same_label_true d m here)) (no_bit (p m) (omega (arith, h, count_cons p m ds))))
    (λ later. none_counted p ds (omega (arith, h, count_cons p m ds)) d later)
    (or_cases (same_label d m) (list_any (λ x. same_label d x) ds) i)
  where
    no_bit : (b : Bool) → bit b ≡ 0 → b ≡ false
    no_bit true e = absurd (omega (arith, e))
    no_bit false e = refl

-- no due is lacking exactly where each need is a due
pub lacking_none : (b : Bringer) (log : List Mark) → (lacking b log ≡ 0) ↔ NeedsAreDues b log
lacking_none b log = (
  (λ none d needed. not-false (was_due b d log) (none_counted (λ x. not (was_due b x log)) (needed_by b log) none d (sym (needed_any b d log) ∙ needed))),
  (λ all. count_none (λ x. not (was_due b x log)) (needed_by b log) (λ d i. ap not (all d (needed_any b d log ∙ i)))),
)

-- a number above 0 tells whether a due is lacking
pub lacks_at : (log : List Mark) (t : Table Bringer ℕ) → KeepsLacks log t → (b : Bringer) (n : ℕ) → n ≡ value_at same_bringer t b → (nat_lt 0 n ≡ false) ↔ NeedsAreDues b log
lacks_at log t keeps b n is =
    let number = is ∙ keeps.counts b in (
      (λ e. (lacking_none b log).0 (sym number ∙ omega (arith, ltb-false 0 n e))),
      (λ all. le-ltb 0 n (omega (arith, number, (lacking_none b log).1 all))),
    )

-- what is lacking after an event, by the flag whether the bringer is the event's
abbrev lacking_if : Bringer → List Mark → Event → Bool → ℕ
lacking_if b log e c = count_by (λ d. not ((c && is_due d (spawned_due e)) || was_due b d log)) (if c then spawned_needs e ++ needed_by b log else needed_by b log)

module _ (log : List Mark) (l : LaneName) (e : Event) (o : Option Bringer) (is : bringer l.rank (in_hand (part l log)) ≡ o) where
  -- other bringers lack what they did
  lacking_other : (b : Bringer) → is_bringer b o ≡ false → lacking b (on l e ∷ log) ≡ lacking b log
  lacking_other b other = ap (λ (c : Option Bringer). lacking_if b log e (is_bringer b c)) is ∙ ap (lacking_if b log e) other

  lacking_own : (b : Bringer) → is_bringer b o ≡ true → lacking b (on l e ∷ log) ≡ lacking_if b log e true
  lacking_own b own = ap (λ (c : Option Bringer). lacking_if b log e (is_bringer b c)) is ∙ ap (lacking_if b log e) own

-- what the table of futures tells of labels
module _ (log : List Mark) (t : Table Future Found) (keeps : KeepsFutures log t) (b : Bringer) where
  new_lacks : (o : Option Label) (ds : List Label) → lacked t b o ds ≡ count_by (λ d. not (is_due d o || was_due b d log)) ds
  new_lacks o ds = λ i. count_by (λ d. not (is_due d o || (keeps (record { by = b; label = d })).due i)) ds

  fewer : Apart (needed_by b log) → (o : Option Label) → lacking b log ≡ count_by (λ d. not (is_due d o || was_due b d log)) (needed_by b log) + bit (meets t b o)
  fewer apart None = omega arith
  fewer apart (Some m) =
      let shows = keeps (record { by = b; label = m }) in
      let met : bit (meets t b (Some m)) ≡ bit (list_any (λ d. same_label m d) (needed_by b log) && not (was_due b m log)) = λ i. bit ((shows.needed ∙ needed_any b m log) i && not (shows.due i)) in
      omega (arith, one_fewer (λ d. was_due b d log) m (needed_by b log) apart, met)

-- the numbers after an event
pub lacks_after : (log : List Mark) (l : LaneName) (e : Event) (t : Table Future Found) → KeepsFutures log t → (b : Bringer) → bringer l.rank (in_hand (part l log)) ≡ Some b → Apart (needed_by b log)
    → (lacking b (on l e ∷ log) + bit (meets t b (spawned_due e)) ≡ lacking b log + lacked t b (spawned_due e) (spawned_needs e)) × (bit (meets t b (spawned_due e)) ≤ lacking b log)
lacks_after log l e t keeps b is apart =
    let now = lacking_own log l e (Some b) is b (same_bringer_refl b) in
    let apart_counts = count_append (λ d. not (is_due d (spawned_due e) || was_due b d log)) (spawned_needs e) (needed_by b log) in
    let split = fewer log t keeps b apart (spawned_due e) in
    (omega (arith, now, apart_counts, new_lacks log t keeps b (spawned_due e) (spawned_needs e), split), omega (arith, split))

-- an event that spawns nothing changes no number
idle_event : (e : Event) → is_spawn e ≡ false → (spawned_due e ≡ None) × (spawned_needs e ≡ [])
idle_event (Sent n to (Spawned u d)) i = absurd (cc)
idle_event (Submitted n t) i = absurd (cc)
idle_event _ i = (refl, refl)

lacking_idle : (log : List Mark) (l : LaneName) (e : Event) → is_spawn e ≡ false → (b : Bringer) → lacking b (on l e ∷ log) ≡ lacking b log
lacking_idle log l e idle b = go (is_bringer b (bringer l.rank (in_hand (part l log)))) (spawned_due e) (spawned_needs e) (idle_event e idle).0 (idle_event e idle).1
  where
    go : (c : Bool) (o : Option Label) (ns : List Label) → o ≡ None → ns ≡ [] → count_by (λ d. not ((c && is_due d o) || was_due b d log)) (if c then ns ++ needed_by b log else needed_by b log) ≡ lacking b log
    go true o ns none nil = λ i. count_by (λ d. not (is_due d (none i) || was_due b d log)) (nil i ++ needed_by b log)
    go false o ns none nil = refl

spawner_cases : (r : ℕ) (h : Option Item) (e : Event) (o : Option Bringer) → spawner r h e ≡ o → ((is_spawn e ≡ false) × (o ≡ None)) ⊎ (bringer r h ≡ o)
spawner_cases r h e o is = go (is_spawn e) refl is
  where
    go : (c : Bool) → is_spawn e ≡ c → (if c then bringer r h else None) ≡ o → ((is_spawn e ≡ false) × (o ≡ None)) ⊎ (bringer r h ≡ o)
    go true i is = inr is
    go false i is = inl (i, sym is)

-- the table after an event with which nobody spawns
pub none_noted : (log : List Mark) (l : LaneName) (s : LaneState) (e : Event) → ShowsLane log l s → spawner l.rank s.hand e ≡ None → (t : Table Bringer ℕ) → KeepsLacks log t → KeepsLacks (on l e ∷ log) t
none_noted log l s e shows none t keeps = ⊎_elim
    (λ idle. record { counts = λ b. keeps.counts b ∙ sym (lacking_idle log l e idle.0 b); within = λ b. omega (arith, keeps.within b) })
    (λ nobody.
    let is = ap (bringer l.rank) (sym shows.hand) ∙ nobody in
    record { counts = λ b. keeps.counts b ∙ sym (lacking_other log l e None is b refl); within = λ b. omega (arith, keeps.within b) })
    (spawner_cases l.rank s.hand e None none)

-- the table after an event of a bringer
pub one_noted : (ranks workers : ℕ) (log : List Mark) (l : LaneName) (s : LaneState) (e : Event) → Legal ranks workers log → length log < max_events → ShowsLane log l s
    → (t : Table Future Found) → KeepsFutures log t → (b : Bringer) → spawner l.rank s.hand e ≡ Some b → lacked t b (spawned_due e) (spawned_needs e) ≤ 16
    → (old new : Table Bringer ℕ) (v : ℕ) → v ≡ min ((value_at same_bringer old b - bit (meets t b (spawned_due e))) + lacked t b (spawned_due e) (spawned_needs e)) (2 ^ 64 - 1)
    → ((c : Bringer) → value_at same_bringer new c ≡ (if same_bringer b c then v else value_at same_bringer old c)) → KeepsLacks log old → KeepsLacks (on l e ∷ log) new
one_noted ranks workers log l s e legal short shows t futures b by few old new v is set keeps = record { counts = λ c. (both c (same_bringer b c) refl).0; within = λ c. (both c (same_bringer b c) refl).1 }
  where
    hand : bringer l.rank (in_hand (part l log)) ≡ Some b
    hand = ap (bringer l.rank) (sym shows.hand) ∙ ⊎_elim (λ idle. absurd (let none = idle.1 in cc)) (λ is. is) (spawner_cases l.rank s.hand e (Some b) by)

    both : (c : Bringer) (q : Bool) → same_bringer b c ≡ q → (value_at same_bringer new c ≡ lacking c (on l e ∷ log)) × (value_at same_bringer new c ≤ 16 * length (on l e ∷ log))
    both c true same =
        let after = lacks_after log l e t futures b hand (needed_apart ranks workers b log legal) in
        let fits : v ≡ lacking b (on l e ∷ log) = omega (arith, is, after.0, after.1, keeps.counts b, keeps.within b, few, short) in
        let bound : v ≤ 16 * length (on l e ∷ log) = omega (arith, fits, after.0, keeps.counts b, keeps.within b, few) in
        let now = set c ∙ ap (λ (z : Bool). if z then v else value_at same_bringer old c) same in
        let one = same_bringer_true b c same in
        (now ∙ fits ∙ ap (λ (z : Bringer). lacking z (on l e ∷ log)) one, omega (arith, now, bound))
    both c false other =
        let now = set c ∙ ap (λ (z : Bool). if z then v else value_at same_bringer old c) other in (
          now ∙ keeps.counts c ∙ sym (lacking_other log l e (Some b) hand c (same_bringer_sym c b ∙ other)),
          omega (arith, now, keeps.within c),
        )
