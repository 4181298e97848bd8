-- What holds of a task that a main has just taken, and of what it has as its due and its needs.
use Rattle.std.proofs.Common.{◌≡◌, ℕ, Bool, true, false, List, [], ◌∷◌, map, refl, sym, ap, subst, ◌∙◌}
use Rattle.std.specs.Prelude.{Option, Some, None, ◌&&◌, ◌||◌}
use Rattle.std.specs.List.{list_any}
use Rattle.std.proofs.lemmas.Bool.{both_ways, false_from_ne_true}
use Rattle.app_core.specs.declared.label.Label.{Label}
use Rattle.app_core.specs.Outlines.{same_label}
use Rattle.event_lists.specs.declared.lane.LaneName.{LaneName}
use Rattle.event_lists.specs.declared.event.Event.{Event}
use Rattle.event_lists.specs.declared.event.Event.TheVariants.{TookTask, Submitted}
use Rattle.event_lists.specs.declared.event.TaskName.{TaskName}
use Rattle.event_lists.specs.declared.mark.Item.{Item}
use Rattle.event_lists.specs.declared.mark.Item.TheVariants.{Message, Task}
use Rattle.event_lists.specs.declared.mark.Mark.{Mark}
use Rattle.event_lists.specs.declared.future.Future.{Future}
use Rattle.event_lists.specs.declared.future.Bringer.TheVariants.{Task as task_of}
use Rattle.event_lists.specs.Events.{part, in_hand, is_taken, takes, IsSubmitted}
use Rattle.event_lists.specs.Futures.{bringer, is_bringer, spawned_needs, due_of, needs_of, was_needed}
use Rattle.event_lists.specs.Dues.{HasPassedOn, NeedsAreDues}
use Rattle.event_lists.specs.Legal.{Legal}
use Rattle.event_lists.specs.Laws.{label_of}
use Rattle.event_lists.specs.OwnEvents.{SpawnsFor, SeesItsOwn}
use Rattle.event_lists.proofs.ItemLemmas.{untaken, took_fresh}
use Rattle.event_lists.proofs.HandLemmas.{hand_taken}
use Rattle.event_lists.proofs.FutureLemmas.{same_bringer_true}
use Rattle.event_lists.proofs.NameLemmas.{all_named, needs_named}
use Rattle.event_lists.proofs.OwnLemmas.{was_needed_lasts}

-- a task that wasn't taken has brought nothing
untaken_needs : (r n : ℕ) (d : Label) (log : List Mark) → is_taken (Task r n) log ≡ false → was_needed (task_of r n) d log ≡ false
untaken_needs r n d [] u = refl
untaken_needs r n d (x ∷ log) u = ap (λ (b : Bool). (b && list_any (λ m. same_label d m) (spawned_needs x.event)) || was_needed (task_of r n) d log) (other (in_hand (part x.lane log)) refl) ∙ untaken_needs r n d log (untaken (Task r n) x log u)
  where
    other : (h : Option Item) → in_hand (part x.lane log) ≡ h → is_bringer (task_of r n) (bringer x.lane.rank h) ≡ false
    other None i = refl
    other (Some (Message q m)) i = refl
    other (Some (Task q m)) i = false_from_ne_true _ (λ t.
        let same = same_bringer_true (task_of r n) (task_of q m) t in
        let rank : r ≡ q = cc in
        let number : n ≡ m = cc in
        let is : Task q m ≡ Task r n = λ z. Task (sym rank z) (sym number z) in
        both_ways (is_taken (Task r n) log) (untaken (Task r n) x log u) (subst (λ (c : Item). is_taken c log ≡ true) is (hand_taken x.lane log (Task q m) i)))

-- nor has one that was just taken
just_taken : (ranks workers : ℕ) (x : Mark) (before : List Mark) (r n : ℕ) (d : Label) → Legal ranks workers (x ∷ before) → x.event ≡ TookTask r n → was_needed (task_of r n) d (x ∷ before) ≡ false
just_taken ranks workers x before r n d legal took =
    ap (λ (ls : List Label). (is_bringer (task_of r n) (bringer x.lane.rank (in_hand (part x.lane before))) && list_any (λ m. same_label d m) ls) || was_needed (task_of r n) d before) (ap spawned_needs took)
    ∙ go (is_bringer (task_of r n) (bringer x.lane.rank (in_hand (part x.lane before)))) (was_needed (task_of r n) d before) (untaken_needs r n d before (took_fresh (Task r n) x.event ranks before x.lane (part x.lane before) legal.0.counting (ap takes took)).1)
  where
    go : (a b : Bool) → b ≡ false → ((a && false) || b) ≡ false
    go true b e = e
    go false b e = e

-- so each need with which it spawned is a due: there is none
pub needs_none : (ranks workers : ℕ) (seen before log : List Mark) (x : Mark) (l : LaneName) (mine : List Event) (r n : ℕ) → Legal ranks workers log → Legal ranks workers seen → SeesItsOwn seen log l mine
    → in_hand mine ≡ Some (Task r n) → seen ≡ x ∷ before → x.event ≡ TookTask r n → NeedsAreDues (task_of r n) log
needs_none ranks workers seen before log x l mine r n legal was sees hand is took d t =
    let spawns : SpawnsFor l (in_hand mine) (task_of r n) = subst (λ (h : Option Item). SpawnsFor l h (task_of r n)) (sym hand) (tt, refl) in
    let none : was_needed (task_of r n) d seen ≡ false = ap (was_needed (task_of r n) d) is ∙ just_taken ranks workers x before r n d (subst (Legal ranks workers) is was) took in
    absurd (both_ways (was_needed (task_of r n) d log) (was_needed_lasts ranks workers seen log legal l mine sees (task_of r n) d spawns ∙ none) t)

no_label : (o : Option Future) → label_of o ≡ None → o ≡ None
no_label None e = refl
no_label (Some f) e = absurd (cc)

no_labels : (fs : List Future) → map (λ (f : Future). f.label) fs ≡ [] → fs ≡ []
no_labels [] e = refl
no_labels (f ∷ fs) e = absurd (cc)

-- a task that was submitted without a due has none
pub due_none : (ranks workers : ℕ) (log : List Mark) → Legal ranks workers log → (r n : ℕ) (t : TaskName) → t.due ≡ None → IsSubmitted r n t log → due_of (Task r n) log ≡ None
due_none ranks workers log legal r n t none (l, rank, on) = no_label (due_of (Task r n) log) (all_named ranks workers log legal l (Submitted n t) (Task r n) (ap (λ (z : ℕ). Some (Task z n)) rank) on ∙ none)

pub passed_on : (log : List Mark) (mine : List Event) (r n : ℕ) → due_of (Task r n) log ≡ None → HasPassedOn (due_of (Task r n) log) mine
passed_on log mine r n none = subst (λ (o : Option Future). HasPassedOn o mine) (sym none) tt

-- and one without needs has none
pub needs_nothing : (ranks workers : ℕ) (log : List Mark) → Legal ranks workers log → (r n : ℕ) (t : TaskName) → t.needs ≡ [] → IsSubmitted r n t log → needs_of (Task r n) log ≡ []
needs_nothing ranks workers log legal r n t none (l, rank, on) =
    subst (λ (z : ℕ). needs_of (Task z n) log ≡ []) rank (no_labels (needs_of (Task l.rank n) log) (needs_named ranks workers log legal l n t on ∙ none))
