-- The forms of a job's lines, as readers of their words: each reads the first words, and returns what they say and the
-- words after them, or nothing where they aren't in its form.
use Rattle.std.specs.Prelude.{ℕ, List, [], ◌∷◌, Option, Some, None, option_and_then, ℤ, pos, negsuc, codes, if◌then◌else◌, nat_le}
use Rattle.std.specs.Option.{option_map}
use Rattle.std.specs.Str.{bytes_eq}
use Rattle.tree_model.specs.Functions.{Function, max_depth}
use Rattle.tree_model.specs.Functions.Function.{Const as ConstFunction, Ramp as RampFunction, Step as StepFunction, Box as BoxFunction, Hash as HashFunction}
use Rattle.tree_model.specs.Commands.{Command}
use Rattle.tree_model.specs.Commands.Command.{Project as ProjectCommand, Refine as RefineCommand, Coarsen as CoarsenCommand, Compress as CompressCommand, Reconstruct as ReconstructCommand, Add as AddCommand, Mul as MulCommand, Inner as InnerCommand, Print as PrintCommand, Size as SizeCommand, Fence as FenceCommand}
use Rattle.job_words.specs.Lines.{Words}
use Rattle.job_words.specs.Names.{is_name}
use Rattle.job_words.specs.Numbers.{number}
use Rattle.job_lang.specs.declared.function_form.FunctionForm.{FunctionForm}
use Rattle.job_lang.specs.declared.function_form.FunctionForm.TheVariants.{Const, Ramp, Step, Box, Hash}
use Rattle.job_lang.specs.declared.verb.Verb.{Verb}
use Rattle.job_lang.specs.declared.verb.Verb.TheVariants.{Project, Refine, Coarsen, Compress, Reconstruct, Add, Mul, Inner, Print, Size, Fence}

infixl 10 ◌>>=◌
abbrev pub ◌>>=◌ : {A B : Type 0} → Option A → (A → Option B) → Option B
o >>= f = option_and_then f o

-- no word is left
abbrev pub no_more : Words → Option (Unit {0})
no_more [] = Some tt
no_more (word ∷ rest) = None

-- the first word is this very one
abbrev pub keyword : List ℕ → Words → Option Words
keyword text [] = None
keyword text (word ∷ rest) = if bytes_eq word text then Some rest else None

abbrev pub name_at : Words → Option (List ℕ × Words)
name_at [] = None
name_at (word ∷ rest) = if is_name word then Some (word, rest) else None

abbrev pub number_at : Words → Option (ℤ × Words)
number_at [] = None
number_at (word ∷ rest) = option_map (λ z. (z, rest)) (number word)

-- a number that isn't negative
abbrev pub size_of : ℤ → Option ℕ
size_of (pos n) = Some n
size_of (negsuc n) = None

abbrev pub size_at : Words → Option (ℕ × Words)
size_at words = do
  z ← number_at words
  n ← size_of z.0
  Some (n, z.1)

-- `job 1 depth D` with a depth that there is
abbrev pub header_of : Words → Option ℕ
header_of words = do
  job ← keyword (codes "job") words
  one ← keyword (codes "1") job
  depth ← keyword (codes "depth") one
  d ← size_at depth
  end ← no_more d.1
  if nat_le d.0 max_depth then Some d.0 else None

-- `const C`
abbrev pub const_at : Words → Option (FunctionForm × Words)
const_at words = do
  const ← keyword (codes "const") words
  c ← number_at const
  Some (Const c.0, c.1)

-- `ramp A B`
abbrev pub ramp_at : Words → Option (FunctionForm × Words)
ramp_at words = do
  ramp ← keyword (codes "ramp") words
  a ← number_at ramp
  b ← number_at a.1
  Some (Ramp a.0 b.0, b.1)

-- `step X L H`
abbrev pub step_at : Words → Option (FunctionForm × Words)
step_at words = do
  step ← keyword (codes "step") words
  x ← number_at step
  l ← number_at x.1
  h ← number_at l.1
  Some (Step x.0 l.0 h.0, h.1)

-- `box X Y V`
abbrev pub box_at : Words → Option (FunctionForm × Words)
box_at words = do
  box ← keyword (codes "box") words
  x ← number_at box
  y ← number_at x.1
  v ← number_at y.1
  Some (Box x.0 y.0 v.0, v.1)

-- `hash S M`
abbrev pub hash_at : Words → Option (FunctionForm × Words)
hash_at words = do
  hash ← keyword (codes "hash") words
  s ← number_at hash
  m ← number_at s.1
  Some (Hash s.0 m.0, m.1)

-- the first of two readings that there is
abbrev pub or_else : {A : Type 0} → Option A → Option A → Option A
or_else None other = other
or_else (Some x) other = Some x

abbrev pub function_at : Words → Option (FunctionForm × Words)
function_at words = or_else (const_at words) (or_else (ramp_at words) (or_else (step_at words) (or_else (box_at words) (hash_at words))))

-- the word that a command begins with
abbrev pub verb_of : List ℕ → Option Verb
verb_of word =
    if bytes_eq word (codes "project") then Some Project
    else if bytes_eq word (codes "refine") then Some Refine
    else if bytes_eq word (codes "coarsen") then Some Coarsen
    else if bytes_eq word (codes "compress") then Some Compress
    else if bytes_eq word (codes "reconstruct") then Some Reconstruct
    else if bytes_eq word (codes "add") then Some Add
    else if bytes_eq word (codes "mul") then Some Mul
    else if bytes_eq word (codes "inner") then Some Inner
    else if bytes_eq word (codes "print") then Some Print
    else if bytes_eq word (codes "size") then Some Size
    else if bytes_eq word (codes "fence") then Some Fence
    else None

-- a line of a job as its words say it: a command, or one whose numbers that must not be negative may be so
pub data Form : Type 0 where
  ProjectForm : (name : List ℕ) (function : FunctionForm) (level tolerance : ℤ) → Form
  RefineForm : (name : List ℕ) (level : ℤ) → Form
  CommandForm : (command : Command) → Form

-- `NAME FUNC level N tol T`
abbrev pub project_of : Words → Option Form
project_of words = do
  name ← name_at words
  function ← function_at name.1
  level ← keyword (codes "level") function.1
  n ← number_at level
  tol ← keyword (codes "tol") n.1
  t ← number_at tol
  end ← no_more t.1
  Some (ProjectForm name.0 function.0 n.0 t.0)

-- `NAME N`
abbrev pub refine_of : Words → Option Form
refine_of words = do
  name ← name_at words
  n ← number_at name.1
  end ← no_more n.1
  Some (RefineForm name.0 n.0)

-- `NAME`
abbrev pub one_name : Words → Option (List ℕ)
one_name words = do
  name ← name_at words
  end ← no_more name.1
  Some name.0

-- `NAME NAME`
abbrev pub two_names : Words → Option (List ℕ × List ℕ)
two_names words = do
  left ← name_at words
  right ← name_at left.1
  end ← no_more right.1
  Some (left.0, right.0)

-- `NAME = A NAME + B NAME`
abbrev pub add_of : Words → Option Form
add_of words = do
  name ← name_at words
  equals ← keyword (codes "=") name.1
  a ← number_at equals
  left ← name_at a.1
  plus ← keyword (codes "+") left.1
  b ← number_at plus
  right ← name_at b.1
  end ← no_more right.1
  Some (CommandForm (AddCommand name.0 a.0 left.0 b.0 right.0))

-- `NAME = NAME * NAME`
abbrev pub mul_of : Words → Option Form
mul_of words = do
  name ← name_at words
  equals ← keyword (codes "=") name.1
  left ← name_at equals
  times ← keyword (codes "*") left.1
  right ← name_at times
  end ← no_more right.1
  Some (CommandForm (MulCommand name.0 left.0 right.0))

abbrev pub fence_of : Words → Option Form
fence_of words = do
  end ← no_more words
  Some (CommandForm FenceCommand)

-- the form of the words after a command's first
abbrev pub form_of : Verb → Words → Option Form
form_of Project words = project_of words
form_of Refine words = refine_of words
form_of Coarsen words = option_map (λ name. CommandForm (CoarsenCommand name)) (one_name words)
form_of Compress words = option_map (λ name. CommandForm (CompressCommand name)) (one_name words)
form_of Reconstruct words = option_map (λ name. CommandForm (ReconstructCommand name)) (one_name words)
form_of Add words = add_of words
form_of Mul words = mul_of words
form_of Inner words = option_map (λ names. CommandForm (InnerCommand names.0 names.1)) (two_names words)
form_of Print words = option_map (λ name. CommandForm (PrintCommand name)) (one_name words)
form_of Size words = option_map (λ name. CommandForm (SizeCommand name)) (one_name words)
form_of Fence words = fence_of words

-- the function of a form, whose edges, seed and modulus aren't negative
abbrev pub function_of_form : FunctionForm → Option Function
function_of_form (Const c) = Some (ConstFunction c)
function_of_form (Ramp a b) = Some (RampFunction a b)
function_of_form (Step edge before behind) = option_map (λ x. StepFunction x before behind) (size_of edge)
function_of_form (Box start end value) = do
  x ← size_of start
  y ← size_of end
  Some (BoxFunction x y value)
function_of_form (Hash seed modulus) = do
  s ← size_of seed
  m ← size_of modulus
  Some (HashFunction s m)

-- the command of a form, whose level and tolerance aren't negative
abbrev pub command_of_form : Form → Option Command
command_of_form (ProjectForm name function level tolerance) = do
  f ← function_of_form function
  n ← size_of level
  t ← size_of tolerance
  Some (ProjectCommand name (record { function = f; level = n; tolerance = t }))
command_of_form (RefineForm name level) = option_map (RefineCommand name) (size_of level)
command_of_form (CommandForm command) = Some command
