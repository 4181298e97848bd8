-- The names of the trees that a command reads.
use Rattle.std.specs.Prelude.{List, [], ◌∷◌, ℕ}
use Rattle.job_words.specs.NameBytes.{bytes_of}
use Rattle.job_data.specs.declared.reads.Reads.{Reads}
use Rattle.job_data.specs.declared.reads.Reads.TheVariants.{Nothing, One, Two}

abbrev pub names_of : Reads → List (List ℕ)
names_of Nothing = []
names_of (One name) = bytes_of name ∷ []
names_of (Two left right) = bytes_of left ∷ bytes_of right ∷ []
