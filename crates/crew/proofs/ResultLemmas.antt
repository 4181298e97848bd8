-- Values that are right for the results of work commands.
use Rattle.std.proofs.Common.{◌≡◌, ◌+◌, ℕ, zero, suc, List, [], ◌∷◌, ◌++◌, take, subst, sym, refl, ◌∙◌, arith, add-one}
use Rattle.std.specs.Prelude.{Option, Some, slice_get}
use Rattle.app_core.specs.declared.label.Label.{Label}
use Rattle.app_core.specs.Commands.{kind_of}
use Rattle.app_core.specs.declared.outline.CommandKind.{CommandKind}
use Rattle.app_core.specs.declared.outline.CommandKind.TheVariants.{Work, Fence}
use Rattle.app_core.specs.Inputs.{AreRight}
use Rattle.crew.specs.Results.{work_from, IsRightFor, AreRightValues}

module _ {V : Type 0} (right : ℕ → V → Type 0) where
  -- after a work command there is one value more
  pub one_value_more : (first before command : ℕ) (kinds : List CommandKind) (values : List V) (v : V) → first + before ≡ command → slice_get kinds before ≡ Some Work → right command v
      → AreRight right (work_from first (take before kinds)) values → AreRight right (work_from first (take (suc before) kinds)) (values ++ v ∷ [])
  one_value_more first before command [] values v e is one all = absurd (cc)
  one_value_more first zero command (Work ∷ kinds) [] v e is one all = (subst (λ number. right number v) (omega (arith, e)) one, tt)
  one_value_more first zero command (Work ∷ kinds) (x ∷ values) v e is one all = absurd all
  one_value_more first zero command (Fence ∷ kinds) values v e is one all = absurd (cc)
  one_value_more first (suc before) command (Work ∷ kinds) [] v e is one all = absurd all
  one_value_more first (suc before) command (Work ∷ kinds) (x ∷ values) v e is one all = (all.0, one_value_more (suc first) before command kinds values v (omega (arith, e)) is one all.1)
  one_value_more first (suc before) command (Fence ∷ kinds) values v e is one all = one_value_more (suc first) before command kinds values v (omega (arith, e)) is one all

  -- after a fence there are the same values
  pub no_value_more : (first before : ℕ) (kinds : List CommandKind) (values : List V) → slice_get kinds before ≡ Some Fence
      → AreRight right (work_from first (take before kinds)) values → AreRight right (work_from first (take (suc before) kinds)) values
  no_value_more first before [] values is all = absurd (cc)
  no_value_more first zero (Work ∷ kinds) values is all = absurd (cc)
  no_value_more first zero (Fence ∷ kinds) values is all = all
  no_value_more first (suc before) (Work ∷ kinds) [] is all = absurd all
  no_value_more first (suc before) (Work ∷ kinds) (x ∷ values) is all = (all.0, no_value_more (suc first) before kinds values is all.1)
  no_value_more first (suc before) (Fence ∷ kinds) values is all = no_value_more (suc first) before kinds values is all

kind_after : (kinds : List CommandKind) (before : ℕ) → kind_of kinds (before + 1) ≡ slice_get kinds before
kind_after kinds before = rw add-one refl

-- the same of the values of all commands so far

module _ {V : Type 0} (right_value : Label → V → Type 0) (result_of : ℕ → Option Label) where
  pub work_adds_a_value : (kinds : List CommandKind) (before : ℕ) (values : List V) (v : V) → kind_of kinds (before + 1) ≡ Some Work → IsRightFor right_value (result_of (before + 1)) v
      → AreRightValues right_value result_of (take before kinds) values → AreRightValues right_value result_of (take (before + 1) kinds) (values ++ v ∷ [])
  work_adds_a_value kinds before values v is one all =
      rw add-one (one_value_more (λ command value. IsRightFor right_value (result_of command) value) 1 before (before + 1) kinds values v (omega arith) (sym (kind_after kinds before) ∙ is) one all)

  pub fence_adds_no_value : (kinds : List CommandKind) (before : ℕ) (values : List V) → kind_of kinds (before + 1) ≡ Some Fence
      → AreRightValues right_value result_of (take before kinds) values → AreRightValues right_value result_of (take (before + 1) kinds) values
  fence_adds_no_value kinds before values is all =
      rw add-one (no_value_more (λ command value. IsRightFor right_value (result_of command) value) 1 before kinds values (sym (kind_after kinds before) ∙ is) all)
