-- When bringers, labels and futures are one.
use Rattle.std.proofs.Common.{◌≡◌, Bool, true, false, refl, sym, subst}
use Rattle.app_core.specs.declared.label.Label.{Label}
use Rattle.app_core.specs.Outlines.{same_label}
use Rattle.event_lists.specs.declared.future.Bringer.{Bringer}
use Rattle.event_lists.specs.declared.future.Future.{Future}
use Rattle.event_lists.specs.Futures.{same_bringer, same_future}
use Rattle.event_lists.proofs.FutureLemmas.{same_label_true, same_label_refl, same_bringer_true, same_bringer_refl, same_future_true, same_future_refl}

-- tests that are true together are equal
pub both_true : (a b : Bool) → (a ≡ true → b ≡ true) → (b ≡ true → a ≡ true) → a ≡ b
both_true true b to from = sym (to refl)
both_true false true to from = from refl
both_true false false to from = refl

pub same_label_sym : (a b : Label) → same_label a b ≡ same_label b a
same_label_sym a b = both_true (same_label a b) (same_label b a)
    (λ e. subst (λ (z : Label). same_label z a ≡ true) (same_label_true a b e) (same_label_refl a))
    (λ e. subst (λ (z : Label). same_label z b ≡ true) (same_label_true b a e) (same_label_refl b))

pub same_bringer_sym : (a b : Bringer) → same_bringer a b ≡ same_bringer b a
same_bringer_sym a b = both_true (same_bringer a b) (same_bringer b a)
    (λ e. subst (λ (z : Bringer). same_bringer z a ≡ true) (same_bringer_true a b e) (same_bringer_refl a))
    (λ e. subst (λ (z : Bringer). same_bringer z b ≡ true) (same_bringer_true b a e) (same_bringer_refl b))

pub same_future_sym : (f g : Future) → same_future f g ≡ same_future g f
same_future_sym f g = both_true (same_future f g) (same_future g f)
    (λ e. subst (λ (z : Future). same_future z f ≡ true) (same_future_true f g e) (same_future_refl f))
    (λ e. subst (λ (z : Future). same_future z g ≡ true) (same_future_true g f e) (same_future_refl g))
