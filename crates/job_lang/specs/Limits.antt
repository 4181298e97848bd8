-- Commands of forms whose numbers have the sizes that the code keeps. A number that hasn't is out of its limits at any depth.
use Rattle.std.specs.Prelude.{ℕ, ℤ, Option, Some, None, nat_le, if◌then◌else◌}
use Rattle.std.specs.Option.{option_map}
use Rattle.tree_model.specs.Commands.{Command}
use Rattle.tree_model.specs.Commands.Command.{Project, Refine}
use Rattle.tree_model.specs.Functions.{Function}
use Rattle.tree_model.specs.Functions.Function.{Const as ConstFunction, Ramp as RampFunction, Step as StepFunction, Box as BoxFunction, Hash as HashFunction}
use Rattle.job_lang.specs.Grammar.{◌>>=◌, Form, size_of}
use Rattle.job_lang.specs.Grammar.Form.{ProjectForm, RefineForm, CommandForm}
use Rattle.job_lang.specs.declared.function_form.FunctionForm.{FunctionForm}
use Rattle.job_lang.specs.declared.function_form.FunctionForm.TheVariants.{Const, Ramp, Step, Box, Hash}

-- a number from 0 to a limit
abbrev pub size_up_to : ℕ → ℤ → Option ℕ
size_up_to limit number = do
  n ← size_of number
  if nat_le n limit then Some n else None

-- the largest numbers of 8 and of 32 bits
abbrev pub max_8_bits : ℕ
max_8_bits = 255

abbrev pub max_32_bits : ℕ
max_32_bits = 4294967295

-- the function of a form whose edges, seed and modulus have 32 bits
abbrev pub small_function : FunctionForm → Option Function
small_function (Const c) = Some (ConstFunction c)
small_function (Ramp a b) = Some (RampFunction a b)
small_function (Step edge before behind) = option_map (λ x. StepFunction x before behind) (size_up_to max_32_bits edge)
small_function (Box start end value) = do
  x ← size_up_to max_32_bits start
  y ← size_up_to max_32_bits end
  Some (BoxFunction x y value)
small_function (Hash seed modulus) = do
  s ← size_up_to max_32_bits seed
  m ← size_up_to max_32_bits modulus
  Some (HashFunction s m)

-- the command of a form whose numbers have these sizes
abbrev pub small_command : Form → Option Command
small_command (ProjectForm name function level tolerance) = do
  f ← small_function function
  n ← size_up_to max_8_bits level
  t ← size_up_to max_32_bits tolerance
  Some (Project name (record { function = f; level = n; tolerance = t }))
small_command (RefineForm name level) = option_map (Refine name) (size_up_to max_8_bits level)
small_command (CommandForm command) = Some command
