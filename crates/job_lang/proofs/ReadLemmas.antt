-- What the words of a line say, one reading after another.
use Rattle.std.proofs.Common.{◌≡◌, ℕ, List, ◌∷◌, refl}
use Rattle.std.specs.Prelude.{Some}
use Rattle.tree_model.specs.Commands.{Command}
use Rattle.job_lang.specs.declared.verb.Verb.{Verb}
use Rattle.job_lang.specs.Grammar.{Form, verb_of, form_of, command_of_form}
use Rattle.job_words.specs.Lines.{Words}
use Rattle.job_data.specs.declared.fault_kind.FaultKind.TheVariants.{BeyondLimits}
use Rattle.job_data.specs.CheckedCommands.{checked_command}
use Rattle.job_lang.specs.Reading.{read, command_of_words}

-- what words say, one reading after another
pub command_of_words_form : (depth : ℕ) (before : List Command) (words : Words) (first : List ℕ) (rest : Words) (verb : Verb) (form : Form) → words ≡ first ∷ rest → verb_of first ≡ Some verb → form_of verb rest ≡ Some form → command_of_words depth before words ≡ read BeyondLimits (command_of_form form) (checked_command depth before)
command_of_words_form depth before words first rest verb form is_words is_verb is_form = rw (is_words, is_verb, is_form) refl
