-- The command of `clap` that reads what a form says, and what its matches have.
use Rattle.std.specs.Prelude.{◌≡◌, Bool, true, List, [], ◌∷◌, ◌++◌, map, Option, Some, None, codes, if◌then◌else◌}
use Rattle.clap.specs.Words.{App, Rule, new_app, new_rule, found_of, first_value, one_text}
use Rattle.clap.specs.Simple.{on_top}
use Rattle.clap.specs.declared.builder.action.ArgAction.TheVariants.{Set, SetTrue}
use Rattle.clap.specs.declared.parser.matches.ArgMatches.{ArgMatches}
use Rattle.command_line.specs.Settings.{Word, Form, Setting, read_settings, are_different, is_member, value_of, has}

-- the arguments: an option, a flag, and a positional argument
abbrev pub option_rule : Word → Rule
option_rule name = record (new_rule name) { long = Some name; action = Some Set }

abbrev pub flag_rule : Word → Rule
flag_rule name = record (new_rule name) { long = Some name; action = Some SetTrue }

abbrev pub word_rule : Word → Rule
word_rule name = record (new_rule name) { action = Some Set }

abbrev pub word_rules : Option Word → List Rule
word_rules None = []
word_rules (Some name) = word_rule name ∷ []

abbrev pub rules_of_form : Form → List Rule
rules_of_form form = map option_rule form.options ++ (map flag_rule form.flags ++ word_rules form.word)

-- a command with these arguments, for words without the program's name, and without help and version
abbrev pub command_of : Word → Form → App
command_of name form = on_top (λ s. record s {
  no_binary_name = true;
  disable_help_flag = true;
  disable_version_flag = true;
  rules = rules_of_form form;
}) (new_app name)

-- the names of a form are different
abbrev pub words_of : Option Word → List Word
words_of None = []
words_of (Some name) = name ∷ []

abbrev pub is_proper : Form → Bool
is_proper form = are_different (form.options ++ (form.flags ++ words_of form.word))

-- the value of a flag, as a text
abbrev pub flag_text : Bool → Word
flag_text b = if b then codes "true" else codes "false"

-- the words have settings that the form takes, and the matches have their values
pub record HasSettings (form : Form) (words : List Word) (m : ArgMatches) : Type 0 where
  pub settings : List Setting
  pub read : read_settings form words ≡ Some settings
  pub options : (name : Word) → is_member form.options name ≡ true → first_value (found_of m) name ≡ value_of form name settings
  pub flags : (name : Word) → is_member form.flags name ≡ true → one_text (found_of m) name ≡ Some (flag_text (has form name settings))
  pub word : (name : Word) → form.word ≡ Some name → first_value (found_of m) name ≡ value_of form name settings
