-- What is asked of dues and spawns, by what is shown of a lane.
use Rattle.std.proofs.Common.{◌≡◌, ◌↔◌, ◌⊎◌, ℕ, true, false, refl, sym, ap, ◌∙◌, subst, inl, inr, ⊎_elim}
use Rattle.std.specs.Prelude.{List, Option, Some, None}
use Rattle.app_core.specs.declared.label.Label.{Label}
use Rattle.event_lists.specs.declared.lane.LaneName.{LaneName}
use Rattle.event_lists.specs.declared.event.Event.TheVariants.{Gave}
use Rattle.event_lists.specs.declared.event.Parcel.{Parcel}
use Rattle.event_lists.specs.declared.event.Parcel.TheVariants.{Give}
use Rattle.event_lists.specs.declared.future.Bringer.{Bringer}
use Rattle.event_lists.specs.declared.future.Future.{Future}
use Rattle.event_lists.specs.declared.mark.Item.{Item}
use Rattle.event_lists.specs.declared.mark.Item.TheVariants.{Message, Task}
use Rattle.event_lists.specs.declared.mark.Mark.{Mark}
use Rattle.event_lists.specs.Counting.{MaySpawn}
use Rattle.event_lists.specs.Events.{part, in_hand}
use Rattle.event_lists.specs.Futures.{is_own, is_kept, is_fresh, own_due}
use Rattle.event_lists.specs.Dues.{Carries, DueIsFree, KeepsDue, WasNoDue}
use Rattle.event_lists.proofs.FutureLemmas.{own_label}
use Rattle.event_rules.specs.declared.values.LaneState.{LaneState}
use Rattle.event_rules.specs.Asks.{Asks}
use Rattle.event_rules.specs.Shown.{ShowsLane}
use Rattle.event_rules.specs.States.{HasTask, KeepsOwn, MayCarry}

-- with a task in hand it is shown for the label of its due whether it keeps it
kept_shown : (log : List Mark) (l : LaneName) (s : LaneState) → ShowsLane log l s → (r n : ℕ) → s.hand ≡ Some (Task r n) → (d : Label) → is_own d s.own ≡ true → s.keeps ≡ is_kept d (part l log)
kept_shown log l s shows r n hand d own = go s.own refl own
  where
    go : (o : Option Future) → s.own ≡ o → is_own d o ≡ true → s.keeps ≡ is_kept d (part l log)
    go None i e = absurd (cc)
    go (Some f) i e = shows.keeps r n f hand i ∙ ap (λ (z : Label). is_kept z (part l log)) (sym (own_label d f (Some f) e refl))

-- an own due is free where it is kept
pub own_due_free : (log : List Mark) (l : LaneName) (s : LaneState) → ShowsLane log l s → MaySpawn l s.hand → (d : Label) (b : Option Bringer) → is_own d s.own ≡ true → (s.keeps ≡ true) ↔ DueIsFree s.own b log (part l log) (Some d)
own_due_free log l s shows may d b own = (
  (λ k. inl (own, sym kept ∙ k)),
  (λ free. ⊎_elim (λ (a : (is_own d s.own ≡ true) × (is_kept d (part l log) ≡ true)). kept ∙ a.1) (λ (a : (is_own d s.own ≡ false) × WasNoDue b d log). let none = a.0 in absurd (cc)) free),
)
  where
    go : (h : Option Item) → s.hand ≡ h → MaySpawn l h → s.keeps ≡ is_kept d (part l log)
    go None i m =
        let none : s.own ≡ None = shows.own ∙ ap (λ (h : Option Item). own_due h log) (sym shows.hand ∙ i) in
        let isnt : is_own d s.own ≡ false = ap (is_own d) none in
        absurd (cc)
    go (Some (Message r n)) i m = absurd m
    go (Some (Task r n)) i m = kept_shown log l s shows r n i d own

    kept : s.keeps ≡ is_kept d (part l log)
    kept = go s.hand refl may

-- a task in hand keeps its due
pub keeps_shown : (log : List Mark) (l : LaneName) (s : LaneState) → ShowsLane log l s → (d : Label) → KeepsOwn s d ↔ KeepsDue (in_hand (part l log)) d log (part l log)
keeps_shown log l s shows d = subst (λ (h : Option Item). KeepsOwn s d ↔ KeepsDue h d log (part l log)) shows.hand (go s.hand refl)
  where
    own : (h : Option Item) → s.hand ≡ h → s.own ≡ own_due h log
    own h i = shows.own ∙ ap (λ (z : Option Item). own_due z log) (sym shows.hand ∙ i)

    go : (h : Option Item) → s.hand ≡ h → (HasTask h × (is_own d s.own ≡ true) × (s.keeps ≡ true)) ↔ KeepsDue h d log (part l log)
    go None i = ((λ a. absurd a.0), (λ a. absurd a))
    go (Some (Message r n)) i = ((λ a. absurd a.0), (λ a. absurd a))
    go (Some (Task r n)) i =
        let same = ap (is_own d) (own (Some (Task r n)) i) in (
          (λ a. (sym same ∙ a.1, sym (kept_shown log l s shows r n i d a.1) ∙ a.2)),
          (λ a. let mine = same ∙ a.0 in (tt, mine, kept_shown log l s shows r n i d mine ∙ a.1)),
        )

-- with a message in hand it is shown whether something was submitted or given for it
pub fresh_shown : (log : List Mark) (l : LaneName) (s : LaneState) → ShowsLane log l s → (p : Parcel) → Carries s.hand p log → s.fresh ≡ is_fresh (part l log)
fresh_shown log l s shows p carries = go s.hand refl carries
  where
    go : (h : Option Item) → s.hand ≡ h → Carries h p log → s.fresh ≡ is_fresh (part l log)
    go None i a = absurd a
    go (Some (Message r n)) i a = shows.fresh r n i
    go (Some (Task r n)) i a = absurd a

-- a future may be given by a task that keeps it, and by a message that carries it
pub given_shown : (ranks : ℕ) (log : List Mark) (l : LaneName) (s : LaneState) → ShowsLane log l s → (d : Label) → (KeepsOwn s d ⊎ ((s.fresh ≡ true) × Carries s.hand (Give d) log)) ↔ Asks ranks log l (Gave d)
given_shown ranks log l s shows d = (
  (λ a. (tt, ⊎_elim (λ (k : KeepsOwn s d). inr (keeps.0 k)) (λ (k : (s.fresh ≡ true) × Carries s.hand (Give d) log). inl (there k.1, sym (fresh_shown log l s shows (Give d) k.1) ∙ k.0)) a, tt)),
  (λ a. ⊎_elim
      (λ (k : Carries (in_hand (part l log)) (Give d) log × (is_fresh (part l log) ≡ true)). let back = subst (λ (h : Option Item). Carries h (Give d) log) (sym shows.hand) k.0 in inr (fresh_shown log l s shows (Give d) back ∙ k.1, back))
      (λ (k : KeepsDue (in_hand (part l log)) d log (part l log)). inl (keeps.1 k))
      a.1),
)
  where
    keeps : KeepsOwn s d ↔ KeepsDue (in_hand (part l log)) d log (part l log)
    keeps = keeps_shown log l s shows d

    there : Carries s.hand (Give d) log → Carries (in_hand (part l log)) (Give d) log
    there k = subst (λ (h : Option Item). Carries h (Give d) log) shows.hand k

-- a message may carry the due that the task in hand keeps
pub give_shown : (log : List Mark) (l : LaneName) (s : LaneState) → ShowsLane log l s → (d : Label) → KeepsOwn s d ↔ MayCarry log l (Give d)
give_shown log l s shows d = keeps_shown log l s shows d
