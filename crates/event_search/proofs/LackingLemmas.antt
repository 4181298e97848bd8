-- Dues that are lacking, in a list with one mark more.
use Rattle.std.proofs.Common.{◌≡◌, Bool, true, ◌&&◌, List, ◌∷◌, ◌↔◌, ⊎_elim}
use Rattle.std.specs.Prelude.{IsFalse}
use Rattle.std.specs.List.{list_any}
use Rattle.std.proofs.lemmas.Bool.{and_parts, or_cases, or_right}
use Rattle.app_core.specs.declared.label.Label.{Label}
use Rattle.app_core.specs.Outlines.{same_label}
use Rattle.event_lists.specs.declared.future.Bringer.{Bringer}
use Rattle.event_lists.specs.declared.mark.Mark.{Mark}
use Rattle.event_lists.specs.Events.{part, in_hand}
use Rattle.event_lists.specs.Futures.{bringer, is_bringer, spawned_needs, was_due, was_needed}

-- no label with which this mark spawns as a need is lacking, so one is lacking where one of the marks before is
pub lacking_before : (b : Bringer) (x : Mark) (log all : List Mark) (lacks : Bool)
    → ((d : Label) → list_any (λ m. same_label d m) (spawned_needs x.event) ≡ true → was_due b d all ≡ true)
    → (IsFalse lacks ↔ ((d : Label) → was_needed b d log ≡ true → was_due b d all ≡ true))
    → (IsFalse lacks ↔ ((d : Label) → was_needed b d (x ∷ log) ≡ true → was_due b d all ≡ true))
lacking_before b x log all lacks here before = (
  λ none d needed. ⊎_elim (λ h. here d (and_parts by (any d) h).1) (λ h. before.0 none d h) (or_cases (by && any d) (was_needed b d log) needed),
  λ whole. before.1 (λ d needed. whole d (or_right (by && any d) (was_needed b d log) needed)),
)
  where
    by : Bool
    by = is_bringer b (bringer x.lane.rank (in_hand (part x.lane log)))

    any : Label → Bool
    any d = list_any (λ m. same_label d m) (spawned_needs x.event)
