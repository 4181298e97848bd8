-- That each command of a job has a meaning: what the checks say of the trees that a command reads and writes, joined to
-- what the model reads and writes for it.
use Rattle.std.specs.Prelude.{◌≡◌, ℕ, Bool, false, not, ◌&&◌, nat_lt, true, List, ◌∷◌, ◌++◌, length, Option, Some, None, is_some, is_none, if◌then◌else◌}
use Rattle.std.specs.List.{list_all}
use Rattle.std.specs.Option.{option_map, option_map_or}
use Rattle.std.specs.Str.{bytes_eq}
use Rattle.tree_model.specs.Commands.{Command}
use Rattle.tree_model.specs.Jobs.{JobData, command_lines}
use Rattle.tree_model.specs.Nodes.{Form}
use Rattle.tree_model.specs.Signatures.{writes, written_form, written_name}
use Rattle.tree_model.specs.Trees.{Tree}
use Rattle.tree_model.specs.Versions.{Version, Versions, read, read_two, written, versions_behind}
use Rattle.job_data.specs.Checks.{IsJob, form_behind, is_fence, names_read, needed_form}

-- the form of a version, where there is one
abbrev pub version_form : Option Version → Option Form
version_form o = option_map (λ version. version.form) o

-- the tree of a name, where it is there in the form that is needed, if one is
abbrev pub tree_read : Option Form → Versions → List ℕ → Option Tree
tree_read None versions name = option_map (λ version. version.tree) (versions name)
tree_read (Some form) versions name = read versions form name

-- whether each tree that a command reads is there, in the form that it needs
abbrev pub reads_trees : Versions → Command → Bool
reads_trees versions c = list_all (λ name. is_some (tree_read (needed_form c) versions name)) (names_read c)

-- whether a command is one that writes lines: it writes no tree, and is no fence
abbrev pub writes_lines : Command → Bool
writes_lines c = not (is_fence c) && is_none (written_name c)

-- a command that reads its trees, and that writes its tree, in the form of the checks, or its lines
pub record HasMeaning (depth : ℕ) (versions : Versions) (c : Command) : Type 0 where
  pub reads : reads_trees versions c ≡ true
  pub writes : version_form (written depth versions c) ≡ written_form c
  pub lines : nat_lt 0 (length (command_lines versions c)) ≡ writes_lines c

-- each command of a job has a meaning, and before it each name stands for a version in the form that the checks say; and
-- whatever the names stand for, a command writes its version, or its lines, exactly where it reads its trees
pub record CommandsHaveMeaning : Type 0 where
  pub commands : (job : JobData) (before behind : List Command) (c : Command) → IsJob job → job.commands ≡ before ++ c ∷ behind → HasMeaning job.depth (versions_behind job.depth before) c
  pub forms : (job : JobData) (before behind : List Command) (name : List ℕ) → IsJob job → job.commands ≡ before ++ behind → version_form (versions_behind job.depth before name) ≡ form_behind before name
  pub versions : (depth : ℕ) (versions : Versions) (c : Command) → version_form (written depth versions c) ≡ (if reads_trees versions c then written_form c else None)
  pub lines : (versions : Versions) (c : Command) → nat_lt 0 (length (command_lines versions c)) ≡ (reads_trees versions c && writes_lines c)
  pub two : (versions : Versions) (form : Form) (left right : List ℕ) → is_some (read_two versions form left right) ≡ (is_some (read versions form left) && is_some (read versions form right))
  pub names : (name : List ℕ) (c : Command) → writes name c ≡ option_map_or (bytes_eq name) (written_name c) false
