-- The kinds of fault, each by itself: whether a line that isn't passed over has it after the commands before it, whatever
-- other kinds it has.
use Rattle.std.specs.Prelude.{◌≡◌, ℕ, Bool, false, not, ◌&&◌, List, [], ◌∷◌, Option, Some, None, is_none, Result, Ok, Err, if◌then◌else◌}
use Rattle.std.specs.List.{list_all}
use Rattle.std.specs.Option.{option_map_or}
use Rattle.tree_model.specs.Commands.{Command}
use Rattle.job_lang.specs.declared.verb.Verb.{Verb}
use Rattle.job_data.specs.Checks.{has_numbers, has_room, has_trees, has_forms, is_near_fence, has_fence}
use Rattle.job_lang.specs.Grammar.{◌>>=◌, Form, verb_of, form_of, command_of_form}
use Rattle.job_words.specs.Lines.{Words, words, is_allowed, is_passed_over}
use Rattle.job_data.specs.declared.fault_kind.FaultKind.{FaultKind}
use Rattle.job_data.specs.declared.fault_kind.FaultKind.TheVariants.{ForeignByte, UnknownCommand, WrongWords, BeyondLimits, UnknownTree, WrongForm, FarFromFence, SizeBeforeFence}
use Rattle.job_lang.specs.Reading.{command_of_line}

-- the verb, the form and the command that words say, where they say one
abbrev pub verb_in : Words → Option Verb
verb_in [] = None
verb_in (word ∷ rest) = verb_of word

abbrev pub form_in : Words → Option Form
form_in [] = None
form_in (word ∷ rest) = verb_of word >>= λ verb. form_of verb rest

abbrev pub command_in : Words → Option Command
command_in words = form_in words >>= command_of_form

-- 1: a byte that is neither a tab nor from 32 to 126
abbrev pub has_foreign_byte : List ℕ → Bool
has_foreign_byte line = not (list_all is_allowed line)

-- 3: the first word begins no command
abbrev pub is_unknown_command : List ℕ → Bool
is_unknown_command line = is_none (verb_in (words line))

-- 4: the words are in no command's form
abbrev pub has_wrong_words : List ℕ → Bool
has_wrong_words line = is_none (form_in (words line))

-- 5: no command's numbers are so, or they are out of their limits, or the job has no room for the command
abbrev pub is_beyond_limits : ℕ → List Command → List ℕ → Bool
is_beyond_limits depth before line = not (option_map_or (λ c. has_numbers depth c && has_room before c) (command_in (words line)) false)

-- 6, 7, 8, 9: the command reads a tree that isn't written, reads one in the wrong form, is too far from a fence, and needs
-- one after a command that wrote a tree that it reads
abbrev pub reads_unknown_tree : List Command → List ℕ → Bool
reads_unknown_tree before line = option_map_or (λ c. not (has_trees before c)) (command_in (words line)) false

abbrev pub reads_wrong_form : List Command → List ℕ → Bool
reads_wrong_form before line = option_map_or (λ c. not (has_forms before c)) (command_in (words line)) false

abbrev pub is_far_from_fence : List Command → List ℕ → Bool
is_far_from_fence before line = option_map_or (λ c. not (is_near_fence before c)) (command_in (words line)) false

abbrev pub counts_before_fence : List Command → List ℕ → Bool
counts_before_fence before line = option_map_or (λ c. not (has_fence before c)) (command_in (words line)) false

-- the lowest kind that a line has, if it has one
abbrev pub lowest_kind : ℕ → List Command → List ℕ → Option FaultKind
lowest_kind depth before line =
    if has_foreign_byte line then Some ForeignByte
    else if is_unknown_command line then Some UnknownCommand
    else if has_wrong_words line then Some WrongWords
    else if is_beyond_limits depth before line then Some BeyondLimits
    else if reads_unknown_tree before line then Some UnknownTree
    else if reads_wrong_form before line then Some WrongForm
    else if is_far_from_fence before line then Some FarFromFence
    else if counts_before_fence before line then Some SizeBeforeFence
    else None

-- the kind of fault that was answered, and the command
abbrev pub kind_answered : Result Command FaultKind → Option FaultKind
kind_answered (Ok command) = None
kind_answered (Err kind) = Some kind

abbrev pub command_answered : Result Command FaultKind → Option Command
command_answered (Ok command) = Some command
command_answered (Err kind) = None

-- of a line that isn't passed over the lowest kind is answered, and where it has none the command that it says
pub record LowestKindsAreAnswered : Type 0 where
  pub kind : (depth : ℕ) (before : List Command) (line : List ℕ) → is_passed_over (words line) ≡ false → kind_answered (command_of_line depth before line) ≡ lowest_kind depth before line
  pub command : (depth : ℕ) (before : List Command) (line : List ℕ) → lowest_kind depth before line ≡ None → command_answered (command_of_line depth before line) ≡ command_in (words line)
