-- The last work command of the small application: the names, the ranks and the steps of its units. By a number that is
-- guessed, a unit puts an entry itself, or spawns another that puts it.
use Rattle.std.specs.Prelude.{ℕ, ◌==◌, Bool, true, false, List, [], ◌∷◌, Option, Some, slice_index}
use Rattle.app_core.specs.declared.Label.{Label}
use Rattle.app_core.specs.declared.CellName.{CellName}
use Rattle.app_core.specs.declared.Effect.{Effect}
use Rattle.app_core.specs.declared.Effect.TheVariants.{Spawn, SpawnNeeding, Give, Put}
use Rattle.small_app.specs.declared.guess.GuessUnit.{GuessUnit}
use Rattle.small_app.specs.declared.guess.GuessUnit.TheVariants.{Guess, Early, Late}
use Rattle.small_app.specs.declared.unit.Unit.{Unit}
use Rattle.small_app.specs.declared.unit.Unit.TheVariants.{Guessed}

abbrev pub guess_result : Label
guess_result = record { command = 5; part = 0; place = 1 }

abbrev pub guess_future : Label
guess_future = record { command = 5; part = 0; place = 2 }

abbrev pub guess_entry : CellName
guess_entry = record { version = 2; place = 1 }

-- what is put and given
abbrev pub guess_value : ℕ
guess_value = 9

abbrev pub label_of : GuessUnit → Label
label_of Guess = guess_future
label_of Early = record { command = 5; part = 1; place = 1 }
label_of Late = record { command = 5; part = 2; place = 1 }

abbrev pub due_of : GuessUnit → Option Label
due_of Guess = Some guess_future
due_of Early = Some guess_result
due_of Late = Some guess_result

abbrev pub needs_of : GuessUnit → List Label
needs_of Guess = []
needs_of Early = guess_future ∷ []
needs_of Late = []

abbrev pub home_rule_of : GuessUnit → Option ℕ
home_rule_of Guess = Some 1
home_rule_of Early = Some 0
home_rule_of Late = Some 0

abbrev pub starting : List (Effect Unit ℕ ℕ)
starting = Spawn (Guessed Guess) ∷ SpawnNeeding (Guessed Early) (guess_future ∷ []) ∷ []

-- the effects of the unit that puts the entry
abbrev pub putting : List (Effect Unit ℕ ℕ)
putting = Put guess_entry guess_value ∷ Give guess_result guess_value ∷ []

-- the early unit puts the entry where the guess is 0, and else has the late one put it
abbrev pub early_step : Bool → List (Effect Unit ℕ ℕ)
early_step true = putting
early_step false = Spawn (Guessed Late) ∷ []

-- the step on these values of the needs
abbrev pub step_of : GuessUnit → List ℕ → List (Effect Unit ℕ ℕ)
step_of Guess values = Give guess_future 1 ∷ []
step_of Early values = early_step (slice_index values 0 == 0)
step_of Late values = putting
