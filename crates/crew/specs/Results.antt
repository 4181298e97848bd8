-- The results of the work commands of an application, and the values that are right for them.
use Rattle.std.specs.Prelude.{ℕ, suc, List, [], ◌∷◌, Option, MatchOption}
use Rattle.app_core.specs.declared.label.Label.{Label}
use Rattle.app_core.specs.declared.outline.CommandKind.{CommandKind}
use Rattle.app_core.specs.declared.outline.CommandKind.TheVariants.{Work, Fence}
use Rattle.app_core.specs.Inputs.{AreRight}

-- the numbers of the work commands, in order, where the first of these commands has this number
abbrev pub work_from : ℕ → List CommandKind → List ℕ
work_from number [] = []
work_from number (Work ∷ kinds) = number ∷ work_from (suc number) kinds
work_from number (Fence ∷ kinds) = work_from (suc number) kinds

-- commands are numbered from 1
abbrev pub work_commands : List CommandKind → List ℕ
work_commands kinds = work_from 1 kinds

-- there is a result, and the value is right for it
abbrev pub IsRightFor : {V : Type 0} → (Label → V → Type 0) → Option Label → V → Type 0
IsRightFor right_value result value = MatchOption result ⊥ (λ future. right_value future value)

-- one value for each work command, in order, each right for the command's result
abbrev pub AreRightValues : {V : Type 0} → (Label → V → Type 0) → (ℕ → Option Label) → List CommandKind → List V → Type 0
AreRightValues right_value result_of kinds values = AreRight (λ command value. IsRightFor right_value (result_of command) value) (work_commands kinds) values
