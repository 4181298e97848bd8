-- What a command of a job has to keep, alone and after the commands before it.
use Rattle.std.specs.Prelude.{ℕ, ◌+◌, Bool, true, false, not, ◌&&◌, ◌||◌, nat_le, nat_lt, ◌≡◌, List, [], ◌∷◌, ◌++◌, length, count_by, Option, Some, None, if◌then◌else◌}
use Rattle.std.specs.List.{list_all, list_any, fold}
use Rattle.std.specs.Option.{option_map_or}
use Rattle.tree_model.specs.Functions.{max_depth}
use Rattle.tree_model.specs.Commands.{Command}
use Rattle.tree_model.specs.Signatures.{Signature, signature_of, are_within, writes, written_form}
use Rattle.tree_model.specs.Jobs.{JobData}
use Rattle.tree_model.specs.Nodes.{Form}
use Rattle.tree_model.specs.Versions.{same_form}
use Rattle.job_words.specs.Names.{is_name}

-- the most commands, trees and `print`s of a job, and the most commands before a fence
abbrev pub max_commands : ℕ
max_commands = 512

abbrev pub max_trees : ℕ
max_trees = 16

abbrev pub max_prints : ℕ
max_prints = 64

abbrev pub max_commands_before_fence : ℕ
max_commands_before_fence = 32

-- the names of a command, and whether they are names
abbrev pub names_in : Signature → List (List ℕ)
names_in signature = option_map_or (λ target. target.name ∷ signature.reads) signature.writes signature.reads

abbrev pub has_names : Command → Bool
has_names c = list_all is_name (names_in (signature_of c))

-- whether the numbers of a command are within their limits at a depth
abbrev pub has_numbers : ℕ → Command → Bool
has_numbers depth c = are_within depth (signature_of c).numbers

-- whether names and numbers are within their limits at a depth
abbrev pub is_within_limits : ℕ → Command → Bool
is_within_limits depth c = has_names c && has_numbers depth c

-- the names of the trees that a command reads, and the form that it needs them in
abbrev pub names_read : Command → List (List ℕ)
names_read c = (signature_of c).reads

abbrev pub needed_form : Command → Option Form
needed_form c = (signature_of c).needs

abbrev pub is_print : Command → Bool
is_print c = (signature_of c).prints

abbrev pub is_fence : Command → Bool
is_fence c = (signature_of c).fences

-- whether one of the commands writes a tree of this name
abbrev pub is_written : List Command → List ℕ → Bool
is_written commands name = list_any (writes name) commands

-- the form in which the last of these commands that writes a name leaves its tree
abbrev pub form_after : List ℕ → Option Form → Command → Option Form
form_after name form command = if writes name command then written_form command else form

abbrev pub form_behind : List Command → List ℕ → Option Form
form_behind commands name = fold (form_after name) None commands

-- whether a command writes a tree that no command before it writes
abbrev pub brings : List Command → Signature → Bool
brings before s = option_map_or (λ target. not (is_written before target.name)) s.writes false

abbrev pub brings_tree : List Command → Command → Bool
brings_tree before c = brings before (signature_of c)

-- how many trees these commands write that none before them wrote
abbrev pub trees_behind : List Command → List Command → ℕ
trees_behind before [] = 0
trees_behind before (c ∷ cs) = (if brings_tree before c then 1 else 0) + trees_behind (before ++ c ∷ []) cs

-- how many commands other than fences there are since the last fence, or since the start
abbrev pub since_fence : List Command → ℕ
since_fence commands = fold (λ count command. if is_fence command then 0 else count + 1) 0 commands

-- whether a job has room for one more command: it isn't the 513th, writes no 17th tree, and isn't the 65th `print`
abbrev pub has_room_for : List Command → Signature → Bool
has_room_for before s =
    nat_lt (length before) max_commands
    && ((not (brings before s) || nat_lt (trees_behind [] before) max_trees) && (not s.prints || nat_lt (count_by is_print before) max_prints))

abbrev pub has_room : List Command → Command → Bool
has_room before c = has_room_for before (signature_of c)

-- whether the trees that a command reads were written before it
abbrev pub has_trees : List Command → Command → Bool
has_trees before c = list_all (is_written before) (names_read c)

-- whether a form is the one that is needed, if one is
abbrev pub suits : Option Form → Option Form → Bool
suits None form = true
suits (Some needed) form = option_map_or (same_form needed) form false

-- whether the trees that a command reads are in the form that it needs
abbrev pub has_forms : List Command → Command → Bool
has_forms before c = list_all (λ name. suits (needed_form c) (form_behind before name)) (names_read c)

-- whether a command is a fence, or fewer than 32 others are between the last fence and it
abbrev pub is_near_fence : List Command → Command → Bool
is_near_fence before c = is_fence c || nat_lt (since_fence before) max_commands_before_fence

-- whether a fence comes after the last of these commands that writes a name
abbrev pub fenced_after : List ℕ → Bool → Command → Bool
fenced_after name fenced command = if writes name command then false else (is_fence command || fenced)

abbrev pub is_fenced : List Command → List ℕ → Bool
is_fenced before name = fold (fenced_after name) false before

-- whether a fence comes after the commands that last wrote the trees that a command reads, if it needs one
abbrev pub has_fence_for : List Command → Signature → Bool
has_fence_for before s = not s.needs_fence || list_all (is_fenced before) s.reads

abbrev pub has_fence : List Command → Command → Bool
has_fence before c = has_fence_for before (signature_of c)

-- whether a command may come after the commands before it
abbrev pub may_follow : List Command → Command → Bool
may_follow before c = has_room before c && (has_trees before c && (has_forms before c && (is_near_fence before c && has_fence before c)))

abbrev pub is_accepted : ℕ → List Command → Command → Bool
is_accepted depth before c = is_within_limits depth c && may_follow before c

-- whether each of these commands is accepted after those before it
abbrev pub are_accepted : ℕ → List Command → List Command → Bool
are_accepted depth before [] = true
are_accepted depth before (c ∷ cs) = is_accepted depth before c && are_accepted depth (before ++ c ∷ []) cs

-- what a job keeps
pub record IsJob (job : JobData) : Type 0 where
  pub depth : nat_le job.depth max_depth ≡ true
  pub commands : are_accepted job.depth [] job.commands ≡ true
