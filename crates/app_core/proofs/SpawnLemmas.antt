-- What the laws of steps and starts say of two spawns.
use Rattle.std.proofs.Common.{◌≡◌, ◌≢◌, ℕ, Bool, true, false, List, refl, subst}
use Rattle.std.specs.Prelude.{Option, Some, None, IfSome, slice_get, ◌||◌}
use Rattle.app_core.specs.declared.label.Label.{Label}
use Rattle.app_core.specs.declared.outline.Outline.{Outline}
use Rattle.app_core.specs.Outlines.{same_label, is_due, has_due, has_need, gives, named, IsDueOnce, IsNeededOnce, IsNeededNever, IsSeenToOnce, Names}
use Rattle.app_core.specs.Spawns.{AreApart}
use Rattle.app_core.proofs.CountLemmas.{some_is, none_passes, one_is_there, one_place}
use Rattle.app_core.proofs.LabelLemmas.{in_flat_map, same_self, told_due, due_is_named, need_is_named}

-- either this is the due, or it isn't
told_other : (l : Label) (due : Option Label) → is_due l due ≡ false → due ≢ Some l
told_other l None e is = cc
told_other l (Some m) e is = let same : m ≡ l = some_is m l is in let yes : same_label l m ≡ true = rw same (same_self l) in cc

due_named : (os : List Outline) (i : ℕ) (a : Outline) (l : Label) → slice_get os i ≡ Some a → has_due l a ≡ true → Names os l
due_named os i a l at has = in_flat_map named os i a l at (due_is_named l a has)

need_named : (os : List Outline) (i : ℕ) (a : Outline) (l : Label) → slice_get os i ≡ Some a → has_need l a ≡ true → Names os l
need_named os i a l at has = in_flat_map named os i a l at (need_is_named l a has)

-- one future is needed by none of them, any other by one, and that is the due of one
module _ (skip : Option Label) (os : List Outline)
    (never : IfSome skip (λ l. IsNeededNever l os))
    (due : (l : Label) → Names os l → skip ≢ Some l → IsDueOnce l os)
    (needed : (l : Label) → Names os l → skip ≢ Some l → IsNeededOnce l os) where
  isnt_needed : (i : ℕ) (a : Outline) (l : Label) → slice_get os i ≡ Some a → has_need l a ≡ true → skip ≢ Some l
  isnt_needed i a l at has is =
      let none : IsNeededNever l os = subst (λ s. IfSome s (λ m. IsNeededNever m os)) is never in
      let not_so = none_passes (λ o. has_need l o) os i a none at in
      cc

  needs_apart : (i j : ℕ) (a b : Outline) (l : Label) → slice_get os i ≡ Some a → slice_get os j ≡ Some b → has_need l a ≡ true → has_need l b ≡ true → i ≡ j
  needs_apart i j a b l at_i at_j has_a has_b =
      one_place (λ o. has_need l o) os i j a b (needed l (need_named os i a l at_i has_a) (isnt_needed i a l at_i has_a)) at_i has_a at_j has_b

  needs_met : (i : ℕ) (a : Outline) (l : Label) → slice_get os i ≡ Some a → has_need l a ≡ true → (j : ℕ) × (b : Outline) × (slice_get os j ≡ Some b) × (has_due l b ≡ true)
  needs_met i a l at has = one_is_there (λ o. has_due l o) os (due l (need_named os i a l at has) (isnt_needed i a l at has))

  dues_apart : IfSome skip (λ l. IsSeenToOnce l os) → (i j : ℕ) (a b : Outline) (l : Label) → slice_get os i ≡ Some a → slice_get os j ≡ Some b → has_due l a ≡ true → has_due l b ≡ true → i ≡ j
  dues_apart seen i j a b l at_i at_j has_a has_b = either (is_due l skip) refl
    where
      either : (c : Bool) → is_due l skip ≡ c → i ≡ j
      either true is =
          let once : IsSeenToOnce l os = subst (λ s. IfSome s (λ m. IsSeenToOnce m os)) (told_due l skip is) seen in
          one_place (λ o. has_due l o || gives l o) os i j a b once at_i (rw has_a refl) at_j (rw has_b refl)
      either false isnt =
          one_place (λ o. has_due l o) os i j a b (due l (due_named os i a l at_i has_a) (told_other l skip isnt)) at_i has_a at_j has_b

  -- the effects of a step, where the future is the unit's own due
  pub step_is_apart : IfSome skip (λ l. IsSeenToOnce l os) → AreApart os
  step_is_apart seen = record { dues = dues_apart seen; needs = needs_apart; met = needs_met }

  -- the starts of a command, where it is the command's result
  pub starts_are_apart : ((l : Label) → Names os l → IsDueOnce l os) → AreApart os
  starts_are_apart once = record {
    dues = λ i j a b l at_i at_j has_a has_b. one_place (λ o. has_due l o) os i j a b (once l (due_named os i a l at_i has_a)) at_i has_a at_j has_b;
    needs = needs_apart;
    met = needs_met;
  }
