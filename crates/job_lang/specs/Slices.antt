-- Slices of a line as the words that they are, and what readers of them return.
use Rattle.std.specs.Prelude.{ℕ, List, map, Option}
use Rattle.std.specs.Borrow.{Bor}
use Rattle.std.specs.Option.{option_map}
use Rattle.job_lang.specs.declared.function_form.FunctionForm.{FunctionForm}
use Rattle.job_words.specs.declared.Name.{Name}
use Rattle.job_words.specs.NameBytes.{bytes_of}
use Rattle.job_words.specs.Lines.{Words}

abbrev pub Slices : Type 0
Slices = Bor (List (Bor (List ℕ)))

-- the words that slices of a line are
abbrev pub texts : List (Bor (List ℕ)) → Words
texts slices = map (λ w. w.now) slices

-- the slices that are left, as words
abbrev pub rest_read : Option Slices → Option Words
rest_read o = option_map (λ rest. texts rest.now) o

-- a name, a number or a function that was read, and the slices that are left, as words
abbrev pub name_read : Option (Name × Slices) → Option (List ℕ × Words)
name_read o = option_map (λ r. (bytes_of r.0, texts r.1.now)) o

abbrev pub number_read : {A : Type 0} → Option (A × Slices) → Option (A × Words)
number_read o = option_map (λ r. (r.0, texts r.1.now)) o

abbrev pub function_read : Option (FunctionForm × Slices) → Option (FunctionForm × Words)
function_read o = option_map (λ r. (r.0, texts r.1.now)) o

-- names that were read
abbrev pub name_only : Option Name → Option (List ℕ)
name_only o = option_map bytes_of o

abbrev pub names_only : Option (Name × Name) → Option (List ℕ × List ℕ)
names_only o = option_map (λ r. (bytes_of r.0, bytes_of r.1)) o
