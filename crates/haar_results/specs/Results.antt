-- The lines that commands make of the values of their results, and what the results of all commands make.
use Rattle.std.specs.Prelude.{ℕ, ◌+◌, List, [], ◌∷◌, ◌++◌, Option, Some, None, if◌then◌else◌, codes, decimal}
use Rattle.std.specs.Fmt.{signed_decimal}
use Rattle.std.specs.List.{flat_map}
use Rattle.std.specs.Option.{option_map_or, option_and_then}
use Rattle.tree_model.specs.Commands.{Command}
use Rattle.tree_model.specs.Commands.Command.{Inner, Size}
use Rattle.tree_model.specs.OperationTexts.{overflow_line}
use Rattle.job_data.specs.Checks.{is_fence}
use Rattle.haar_base.specs.declared.value.Value.{Value}
use Rattle.haar_base.specs.declared.value.Value.TheVariants.{Done, Sum, Product, Lines, Count, Bad}

-- the line of a number that a command gives; none for a number that it doesn't give
abbrev pub number_line : Command → Value → List ℕ
number_line (Inner left right) (Product product) = codes "inner " ++ left ++ codes " " ++ right ++ codes " " ++ signed_decimal product ++ codes "\n"
number_line (Size name) (Count count) = codes "size " ++ name ++ codes " " ++ decimal count ++ codes "\n"
number_line command v = []

-- the lines of a command, from the value of its result; none where the command overflows
abbrev pub value_lines : Command → Value → Option (List ℕ)
value_lines command Bad = None
value_lines command (Lines rows) = Some (flat_map (λ row. row) rows)
value_lines command v = Some (number_line command v)

-- where there is a command
abbrev pub lines_from_value : Option Command → Value → Option (List ℕ)
lines_from_value c v = option_and_then (λ command. value_lines command v) c

-- a command that has a result, with its number
pub record Work : Type 0 where
  pub number : ℕ
  pub command : Command

-- all commands but fences, in order, where the first command has this number
abbrev pub work_from : ℕ → List Command → List Work
work_from number [] = []
work_from number (c ∷ cs) = if is_fence c then work_from (number + 1) cs else record { number = number; command = c } ∷ work_from (number + 1) cs

abbrev pub work_of : List Command → List Work
work_of commands = work_from 1 commands

-- what results make: the lines before the first command that overflows, and the number of that command
pub record Made : Type 0 where
  pub text : List ℕ
  pub overflow : Option ℕ

abbrev pub made_of_one : ℕ → Option (List ℕ) → Made → Made
made_of_one number None more = record { text = []; overflow = Some number }
made_of_one number (Some lines) more = record { text = lines ++ more.text; overflow = more.overflow }

-- by commands and the values of their results, in order
abbrev pub made_of : List Work → List Value → Made
made_of [] values = record { text = []; overflow = None }
made_of (work ∷ more) [] = record { text = []; overflow = None }
made_of (work ∷ more) (v ∷ values) = made_of_one work.number (value_lines work.command v) (made_of more values)

-- with the line that names the command that overflows
abbrev pub whole_text : Made → List ℕ
whole_text made = made.text ++ option_map_or overflow_line made.overflow []
