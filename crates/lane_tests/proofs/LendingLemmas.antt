-- What holds of tasks that a main submits, and of a task that gives its future.
use Rattle.std.proofs.Common.{◌≡◌, ℕ, ◌+◌, ◌≤◌, Bool, true, false, List, [], ◌∷◌, refl, sym, ap, subst, ◌∙◌, inl, arith}
use Rattle.std.specs.Prelude.{Option, Some, None, if◌then◌else◌, ◌&&◌, ◌||◌}
use Rattle.std.proofs.lemmas.Bool.{both_ways}
use Rattle.app_core.specs.declared.label.Label.{Label}
use Rattle.event_lists.specs.declared.lane.LaneName.{LaneName}
use Rattle.event_lists.specs.declared.event.Event.{Event}
use Rattle.event_lists.specs.declared.event.Event.TheVariants.{TookTask, Submitted, Gave}
use Rattle.event_lists.specs.declared.event.TaskName.{TaskName}
use Rattle.event_lists.specs.declared.mark.Item.{Item}
use Rattle.event_lists.specs.declared.mark.Item.TheVariants.{Task}
use Rattle.event_lists.specs.declared.mark.Mark.{Mark}
use Rattle.event_lists.specs.declared.mark.EffectName.{EffectName}
use Rattle.event_lists.specs.declared.future.Future.{Future}
use Rattle.event_lists.specs.declared.future.Bringer.TheVariants.{Main as main_at, Task as task_of}
use Rattle.event_lists.specs.Events.{main_of, part, in_hand, Begins, IsSubmitted}
use Rattle.event_lists.specs.Futures.{bringer, is_bringer, is_future, gives, own_due, of_item, due_made, due_of, due_of_spawn, needs_of, futures_by, was_needed, times_given}
use Rattle.event_lists.specs.Dues.{NeedsAreDues}
use Rattle.event_lists.specs.Legal.{Legal}
use Rattle.event_lists.specs.OwnEvents.{SpawnsFor, was_needed_on_lane}
use Rattle.event_lists.proofs.ItemLemmas.{same_item_refl, made_here}
use Rattle.event_lists.proofs.FutureLemmas.{due_lasts}
use Rattle.event_lists.proofs.OwnLemmas.{need_here}
use Rattle.world_rule.specs.Views.{mark}
use Rattle.lane_tests.specs.Loans.{sum_lent}
use Rattle.lane_tests.specs.Lending.{lent, lender, worker}

abbrev pub rest : List Event → List Event
rest [] = []
rest (e ∷ es) = es

-- a task that the main of rank 0 submits has the futures of its due and its needs
module _ (n : ℕ) (t : TaskName) (f : Option EffectName) (before : List Mark) (hand : in_hand (part (main_of 0) before) ≡ None) where
  made_due : due_of (Task 0 n) (mark (main_of 0) (Submitted n t) f ∷ before) ≡ due_of_spawn 0 None None t.due
  made_due =
      ap (λ (b : Bool). if b then due_made 0 (in_hand (part (main_of 0) before)) (of_item (in_hand (part (main_of 0) before)) (λ d. due_of d before)) (Submitted n t) else due_of (Task 0 n) before) (same_item_refl (Task 0 n))
      ∙ ap (λ (h : Option Item). due_made 0 h (of_item h (λ d. due_of d before)) (Submitted n t)) hand

  made_needs : needs_of (Task 0 n) (mark (main_of 0) (Submitted n t) f ∷ before) ≡ futures_by (Some (main_at 0)) t.needs
  made_needs =
      ap (λ (b : Bool). if b then futures_by (bringer 0 (in_hand (part (main_of 0) before))) t.needs else needs_of (Task 0 n) before) (same_item_refl (Task 0 n))
      ∙ ap (λ (h : Option Item). futures_by (bringer 0 h) t.needs) hand

-- what the lane sees after the submission
pub record Submits (n : ℕ) (t : TaskName) (seen : List Mark) : Type 0 where
  pub due : due_of (Task 0 n) seen ≡ due_of_spawn 0 None None t.due
  pub needs : needs_of (Task 0 n) seen ≡ futures_by (Some (main_at 0)) t.needs
  pub submitted : IsSubmitted 0 n t seen

pub main_submits : (l : LaneName) (n : ℕ) (t : TaskName) (f : Option EffectName) (before seen : List Mark) (mine old : List Event) → l ≡ main_of 0 → seen ≡ mark l (Submitted n t) f ∷ before
    → part l seen ≡ mine → mine ≡ Submitted n t ∷ old → in_hand old ≡ None → Submits n t seen
main_submits l n t f before seen mine old name is own grew free =
    let now : seen ≡ mark (main_of 0) (Submitted n t) f ∷ before = is ∙ ap (λ (m : LaneName). mark m (Submitted n t) f ∷ before) name in
    let here : part (main_of 0) (mark (main_of 0) (Submitted n t) f ∷ before) ≡ Submitted n t ∷ old = ap (part (main_of 0)) (sym now) ∙ ap (λ (m : LaneName). part m seen) (sym name) ∙ own ∙ grew in
    let hand : in_hand (part (main_of 0) before) ≡ None = ap (λ (es : List Event). in_hand (rest es)) here ∙ free in
    subst (Submits n t) (sym now) (record {
      due = made_due n t f before hand;
      needs = made_needs n t f before hand;
      submitted = (main_of 0, refl, inl (refl, refl));
    })

and_false : (b : Bool) → (b && false) ≡ false
and_false true = refl
and_false false = refl

-- the main, which submitted only the lender, needs no future of this label yet
pub not_needed : (ranks workers : ℕ) (seen : List Mark) (l : LaneName) (mine : List Event) (n : ℕ) → Legal ranks workers seen → l ≡ main_of 0 → part l seen ≡ mine → mine ≡ Submitted n lender ∷ [] → was_needed (main_at 0) sum_lent seen ≡ false
not_needed ranks workers seen l mine n legal name own grew =
    let here : part (main_of 0) seen ≡ Submitted n lender ∷ [] = ap (λ (m : LaneName). part m seen) (sym name) ∙ own ∙ grew in
    need_here ranks workers seen legal (main_of 0) (main_at 0) (subst (λ (es : List Event). SpawnsFor (main_of 0) (in_hand es) (main_at 0)) (sym here) (refl, refl)) sum_lent
    ∙ ap (was_needed_on_lane 0 (main_at 0) sum_lent) here

-- a task that spawned nothing since it was taken needs nothing
module _ (ranks workers : ℕ) (seen : List Mark) (legal : Legal ranks workers seen) (l : LaneName) (rank : l.rank ≡ 0) (mine : List Event) (own : part l seen ≡ mine) (n : ℕ) where
  needs_on : (es : List Event) → mine ≡ es → in_hand es ≡ Some (Task 0 n) → ((d : Label) → was_needed_on_lane 0 (task_of 0 n) d es ≡ false) → NeedsAreDues (task_of 0 n) seen
  needs_on es is hand none d t =
      let here : part l seen ≡ es = own ∙ is in
      let spawns = subst (λ (xs : List Event). SpawnsFor l (in_hand xs) (task_of 0 n)) (sym here) (subst (λ (h : Option Item). SpawnsFor l h (task_of 0 n)) (sym hand) (tt, refl)) in
      let found = need_here ranks workers seen legal l (task_of 0 n) spawns d ∙ (λ i. was_needed_on_lane (rank i) (task_of 0 n) d (here i)) ∙ none d in
      absurd (both_ways (was_needed (task_of 0 n) d seen) found t)

  pub gave_needs : mine ≡ Gave sum_lent ∷ TookTask 0 n ∷ [] → NeedsAreDues (task_of 0 n) seen
  gave_needs is = needs_on (Gave sum_lent ∷ TookTask 0 n ∷ []) is refl none
    where
      none : (d : Label) → was_needed_on_lane 0 (task_of 0 n) d (Gave sum_lent ∷ TookTask 0 n ∷ []) ≡ false
      none d = ap (λ (b : Bool). b || false) (and_false (is_bringer (task_of 0 n) (Some (task_of 0 n))))

  pub took_needs : (m k : ℕ) (t : TaskName) → mine ≡ TookTask 0 n ∷ Submitted m t ∷ Submitted k lender ∷ [] → NeedsAreDues (task_of 0 n) seen
  took_needs m k t is = needs_on (TookTask 0 n ∷ Submitted m t ∷ Submitted k lender ∷ []) is refl (λ d. refl)

-- what was submitted keeps its due
pub due_stays : (ranks workers : ℕ) (old seen : List Mark) (n : ℕ) (t : TaskName) (due : Option Future) → Legal ranks workers seen → Begins old seen → IsSubmitted 0 n t old → due_of (Task 0 n) old ≡ due → due_of (Task 0 n) seen ≡ due
due_stays ranks workers old seen n t due legal begins (l, rank, on) is =
    due_lasts ranks workers old seen legal begins (Task 0 n) (made_here (Task 0 n) l (Submitted n t) old (ap (λ (z : ℕ). Some (Task z n)) rank) on) ∙ is

-- where the task whose due is the future gives it, the future has its value
pub is_given : (ranks workers : ℕ) (seen before old : List Mark) (f : Option EffectName) (mine : List Event) (n : ℕ) → Legal ranks workers seen → seen ≡ mark worker (Gave sum_lent) f ∷ before → part worker seen ≡ mine → mine ≡ Gave sum_lent ∷ TookTask 0 n ∷ []
    → Begins old before → IsSubmitted 0 n lender old → due_of (Task 0 n) old ≡ Some lent → 1 ≤ times_given lent seen
is_given ranks workers seen before old f mine n legal is own grew begins submitted due =
    let whole : part worker (mark worker (Gave sum_lent) f ∷ before) ≡ Gave sum_lent ∷ TookTask 0 n ∷ [] = ap (part worker) (sym is) ∙ own ∙ grew in
    let hand : in_hand (part worker before) ≡ Some (Task 0 n) = ap (λ (es : List Event). in_hand (rest es)) whole in
    let legal_before : Legal ranks workers before = (subst (Legal ranks workers) is legal).1 in
    let own_is : own_due (in_hand (part worker before)) before ≡ Some lent = ap (λ (h : Option Item). own_due h before) hand ∙ due_stays ranks workers old before n lender (Some lent) legal_before begins submitted due in
    subst (λ (log : List Mark). 1 ≤ times_given lent log) (sym is)
    (subst (λ (o : Option Future). 1 ≤ (if is_future lent (gives o (Gave sum_lent)) then 1 else 0) + times_given lent before) (sym own_is) (omega arith))
