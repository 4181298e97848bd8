-- Lemmas that crates above use: labels that are in a list.
use Rattle.std.proofs.Common.{◌≡◌, ◌⊎◌, zero, suc, List, [], ◌∷◌, inl, inr, arith}
use Rattle.std.specs.Prelude.{Contains}
use Rattle.app_core.specs.declared.label.Label.{Label}

pub none_in : (l : Label) → Contains [] l → ⊥
none_in l c = let lt = c.1 in omega arith

pub contains_cons : (v u : Label) (us : List Label) → Contains (v ∷ us) u → (v ≡ u) ⊎ Contains us u
contains_cons v u us (zero, lt, e) = inl e
contains_cons v u us (suc k, lt, e) = inr (k, omega (arith, lt), e)
