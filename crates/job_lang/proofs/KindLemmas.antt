-- The chain of tests of a line, and its kinds of fault each by itself.
use Rattle.std.proofs.Common.{◌≡◌, ℕ, Bool, true, false, List, [], ◌∷◌, refl}
use Rattle.std.specs.Prelude.{not, ◌&&◌, Option, Some, None, is_none, Result, Ok, if◌then◌else◌}
use Rattle.std.specs.List.{list_all}
use Rattle.std.specs.Option.{option_map_or}
use Rattle.tree_model.specs.Commands.{Command}
use Rattle.job_lang.specs.declared.verb.Verb.{Verb}
use Rattle.job_data.specs.Checks.{has_numbers, has_room, has_trees, has_forms, is_near_fence, has_fence}
use Rattle.job_lang.specs.Grammar.{◌>>=◌, Form, verb_of, form_of, command_of_form}
use Rattle.job_lang.specs.Kinds.{verb_in, form_in, command_in, kind_answered, command_answered, lowest_kind}
use Rattle.job_words.specs.Lines.{Words, words, is_allowed, is_passed_over}
use Rattle.job_data.specs.declared.fault_kind.FaultKind.{FaultKind}
use Rattle.job_data.specs.declared.fault_kind.FaultKind.TheVariants.{ForeignByte, UnknownCommand, WrongWords, BeyondLimits, UnknownTree, WrongForm, FarFromFence, SizeBeforeFence}
use Rattle.job_data.specs.CheckedCommands.{checked, checked_command}
use Rattle.job_lang.specs.Reading.{read, command_of_words, command_of_line}

-- the lowest kind, from what the words say
abbrev lowest : Bool → Option Verb → Option Form → Option Command → ℕ → List Command → Option FaultKind
lowest allowed verb form command depth before =
    if not allowed then Some ForeignByte
    else if is_none verb then Some UnknownCommand
    else if is_none form then Some WrongWords
    else if not (option_map_or (λ c. has_numbers depth c && has_room before c) command false) then Some BeyondLimits
    else if option_map_or (λ c. not (has_trees before c)) command false then Some UnknownTree
    else if option_map_or (λ c. not (has_forms before c)) command false then Some WrongForm
    else if option_map_or (λ c. not (is_near_fence before c)) command false then Some FarFromFence
    else if option_map_or (λ c. not (has_fence before c)) command false then Some SizeBeforeFence
    else None

abbrev tests : Bool → Bool → Bool → Bool → Bool → Command → Result Command FaultKind
tests a t f n s c = checked BeyondLimits a (checked UnknownTree t (checked WrongForm f (checked FarFromFence n (checked SizeBeforeFence s (Ok c)))))

abbrev lowest_test : Bool → Bool → Bool → Bool → Bool → Option FaultKind
lowest_test a t f n s = if not a then Some BeyondLimits else if not t then Some UnknownTree else if not f then Some WrongForm else if not n then Some FarFromFence else if not s then Some SizeBeforeFence else None

test_kind : (a t f n s : Bool) (c : Command) → kind_answered (tests a t f n s c) ≡ lowest_test a t f n s
test_kind true true true true true c = refl
test_kind true true true true false c = refl
test_kind true true true false s c = refl
test_kind true true false n s c = refl
test_kind true false f n s c = refl
test_kind false t f n s c = refl

test_command : (a t f n s : Bool) (c : Command) → lowest_test a t f n s ≡ None → command_answered (tests a t f n s c) ≡ Some c
test_command true true true true true c none = refl
test_command true true true true false c none = cc
test_command true true true false s c none = cc
test_command true true false n s c none = cc
test_command true false f n s c none = cc
test_command false t f n s c none = cc

abbrev say_command : ℕ → List Command → Option Command → Result Command FaultKind
say_command depth before command = read BeyondLimits command (checked_command depth before)

abbrev say_form : ℕ → List Command → Option Form → Result Command FaultKind
say_form depth before form = read WrongWords form (λ form. say_command depth before (command_of_form form))

abbrev say_verb : ℕ → List Command → Option Verb → Words → Result Command FaultKind
say_verb depth before verb rest = read UnknownCommand verb (λ verb. say_form depth before (form_of verb rest))

command_kind : (depth : ℕ) (before : List Command) (verb : Verb) (form : Form) (command : Option Command) → kind_answered (say_command depth before command) ≡ lowest true (Some verb) (Some form) command depth before
command_kind depth before verb form None = refl
command_kind depth before verb form (Some c) = test_kind (has_numbers depth c && has_room before c) (has_trees before c) (has_forms before c) (is_near_fence before c) (has_fence before c) c

form_kind : (depth : ℕ) (before : List Command) (verb : Verb) (form : Option Form) → kind_answered (say_form depth before form) ≡ lowest true (Some verb) form (form >>= command_of_form) depth before
form_kind depth before verb None = refl
form_kind depth before verb (Some form) = command_kind depth before verb form (command_of_form form)

verb_kind : (depth : ℕ) (before : List Command) (verb : Option Verb) (rest : Words) → kind_answered (say_verb depth before verb rest) ≡ lowest true verb (verb >>= λ v. form_of v rest) ((verb >>= λ v. form_of v rest) >>= command_of_form) depth before
verb_kind depth before None rest = refl
verb_kind depth before (Some verb) rest = form_kind depth before verb (form_of verb rest)

words_kind : (depth : ℕ) (before : List Command) (allowed : Bool) (ws : Words) → is_passed_over ws ≡ false → kind_answered (checked ForeignByte allowed (command_of_words depth before ws)) ≡ lowest allowed (verb_in ws) (form_in ws) (command_in ws) depth before
words_kind depth before false ws first = refl
words_kind depth before true [] first = cc
words_kind depth before true (word ∷ rest) first = verb_kind depth before (verb_of word) rest

pub line_kind : (depth : ℕ) (before : List Command) (line : List ℕ) → is_passed_over (words line) ≡ false → kind_answered (command_of_line depth before line) ≡ lowest_kind depth before line
line_kind depth before line first = words_kind depth before (list_all is_allowed line) (words line) first

command_said : (depth : ℕ) (before : List Command) (verb : Verb) (form : Form) (command : Option Command) → lowest true (Some verb) (Some form) command depth before ≡ None → command_answered (say_command depth before command) ≡ command
command_said depth before verb form None none = cc
command_said depth before verb form (Some c) none = test_command (has_numbers depth c && has_room before c) (has_trees before c) (has_forms before c) (is_near_fence before c) (has_fence before c) c none

form_said : (depth : ℕ) (before : List Command) (verb : Verb) (form : Option Form) → lowest true (Some verb) form (form >>= command_of_form) depth before ≡ None → command_answered (say_form depth before form) ≡ (form >>= command_of_form)
form_said depth before verb None none = cc
form_said depth before verb (Some form) none = command_said depth before verb form (command_of_form form) none

verb_said : (depth : ℕ) (before : List Command) (verb : Option Verb) (rest : Words) → lowest true verb (verb >>= λ v. form_of v rest) ((verb >>= λ v. form_of v rest) >>= command_of_form) depth before ≡ None → command_answered (say_verb depth before verb rest) ≡ ((verb >>= λ v. form_of v rest) >>= command_of_form)
verb_said depth before None rest none = cc
verb_said depth before (Some verb) rest none = form_said depth before verb (form_of verb rest) none

words_said : (depth : ℕ) (before : List Command) (allowed : Bool) (ws : Words) → lowest allowed (verb_in ws) (form_in ws) (command_in ws) depth before ≡ None → command_answered (checked ForeignByte allowed (command_of_words depth before ws)) ≡ command_in ws
words_said depth before false ws none = cc
words_said depth before true [] none = cc
words_said depth before true (word ∷ rest) none = verb_said depth before (verb_of word) rest none

pub line_said : (depth : ℕ) (before : List Command) (line : List ℕ) → lowest_kind depth before line ≡ None → command_answered (command_of_line depth before line) ≡ command_in (words line)
line_said depth before line none = words_said depth before (list_all is_allowed line) (words line) none
