-- The results of commands.
use Rattle.std.specs.Prelude.{◌≡◌, ℕ, Option, IfSome}
use Rattle.app_core.specs.declared.Label.{Label}

-- the result is kept at this rank
abbrev pub IsKeptAt : (Label → ℕ) → ℕ → Option Label → Type 0
IsKeptAt kept_at rank result = IfSome result (λ future. kept_at future ≡ rank)

-- the value is right for the result
abbrev pub IsRightResult : {V : Type 0} → (Label → V → Type 0) → Option Label → V → Type 0
IsRightResult right_value result value = IfSome result (λ future. right_value future value)
