-- The labels that pass a test, as a list.
use Rattle.std.specs.Prelude.{ℕ, zero, suc, Bool, if◌then◌else◌, List, [], ◌∷◌, ◌++◌}
use Rattle.app_core.specs.declared.label.Label.{Label}
use Rattle.haar_units.specs.Units.{label}

-- of a command and a part, with places below a bound
abbrev pub labels_of_part : (Label → Bool) → ℕ → ℕ → ℕ → List Label
labels_of_part test command part zero = []
labels_of_part test command part (suc place) = if test (label command part place) then label command part place ∷ labels_of_part test command part place else labels_of_part test command part place

-- of a command, with parts below a bound
abbrev pub labels_of_command : (Label → Bool) → ℕ → ℕ → ℕ → List Label
labels_of_command test command zero places = []
labels_of_command test command (suc part) places = labels_of_part test command part places ++ labels_of_command test command part places

-- with commands below a bound
abbrev pub labels_that_pass : (Label → Bool) → ℕ → ℕ → ℕ → List Label
labels_that_pass test zero parts places = []
labels_that_pass test (suc command) parts places = labels_of_command test command parts places ++ labels_that_pass test command parts places
