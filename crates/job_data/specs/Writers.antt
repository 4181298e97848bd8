-- The last writer of each tree, as places of a list of commands.
use Rattle.std.specs.Prelude.{◌≡◌, ℕ, ◌+◌, ◌<◌, List, [], ◌∷◌, length, get_or, All, Option, None, if◌then◌else◌}
use Rattle.tree_model.specs.Commands.{Command}
use Rattle.tree_model.specs.Signatures.{writes, written_form}
use Rattle.tree_model.specs.Commands.Command.{Fence}
use Rattle.tree_model.specs.Nodes.{Form}
use Rattle.job_data.specs.Checks.{form_behind, trees_behind}
use Rattle.job_data.specs.Versions.{version_behind}

-- the command at a place; after the last there is a fence, which writes nothing
abbrev pub command_at : List Command → ℕ → Command
command_at commands place = get_or commands place Fence

-- what is read off the first of these places that writes a name, and its command
abbrev pub told_at : {A : Type 0} → (ℕ → Command → A) → A → List Command → List ℕ → List ℕ → A
told_at tell none commands [] name = none
told_at tell none commands (place ∷ places) name = if writes name (command_at commands place) then tell place (command_at commands place) else told_at tell none commands places name

-- the form in which it writes the name, and the number of its command
abbrev pub form_at : List Command → List ℕ → List ℕ → Option Form
form_at commands places name = told_at (λ place command. written_form command) None commands places name

abbrev pub version_at : List Command → List ℕ → List ℕ → ℕ
version_at commands places name = told_at (λ place command. place + 1) 0 commands places name

-- the places with this one in place of the first that writes a name, or after all where none does
abbrev pub with_writer : List Command → List ℕ → List ℕ → ℕ → List ℕ
with_writer commands [] name last = last ∷ []
with_writer commands (place ∷ places) name last = if writes name (command_at commands place) then last ∷ places else place ∷ with_writer commands places name last

-- there is one place for each tree that the commands write, and it is that of its last writer
pub record AreLastWriters (commands : List Command) (places : List ℕ) : Type 0 where
  pub within : All (λ place. place < length commands) places
  pub count : length places ≡ trees_behind [] commands
  pub forms : (name : List ℕ) → form_behind commands name ≡ form_at commands places name
  pub versions : (name : List ℕ) → version_behind commands name ≡ version_at commands places name
