-- Sums and products of signed numbers that fit, as code has them: each number is stored as bits, and read.
use Rattle.std.proofs.Common.{◌≡◌, ℤ, ◌+ℤ◌, ◌*ℤ◌}
use Rattle.std.specs.Int.{Width, cast_signed, cast_unsigned}
use Rattle.std.specs.Int.RustNames.{FitsSigned}
use Rattle.std.proofs.lemmas.Int.{to_z-of_z}

abbrev pub stored : Width → ℤ → ℤ
stored width z = cast_signed width (cast_unsigned width z)

pub stored_product : (width : Width) (a b : ℤ) → FitsSigned width a → FitsSigned width b → FitsSigned width (a *ℤ b) → stored width (stored width a *ℤ stored width b) ≡ a *ℤ b
stored_product width a b fits_a fits_b fits = simp to_z-of_z

pub stored_sum : (width : Width) (a b : ℤ) → FitsSigned width a → FitsSigned width b → FitsSigned width (a +ℤ b) → stored width (stored width a +ℤ stored width b) ≡ a +ℤ b
stored_sum width a b fits_a fits_b fits = simp to_z-of_z
