-- How the words of a command line are read: options with their values, flags, and positional arguments.
use Rattle.std.specs.Prelude.{ℕ, Bool, true, false, ◌&&◌, ◌||◌, not, List, [], ◌∷◌, map, Option, Some, None, is_some, codes, find, if◌then◌else◌}
use Rattle.std.specs.List.{list_all, list_any}
use Rattle.std.specs.Option.{option_map, option_map_or, unwrap_or}
use Rattle.std.specs.Str.{bytes_eq}
use Rattle.clap.specs.Lexer.{long_of, is_short_word}

-- the bytes of a word
abbrev pub Word : Type 0
Word = List ℕ

-- an option with its value: `--name=value`, or `--name value` in two words; a flag: `--name`; a positional argument; and a
-- word that no command has: `--`, or one that begins with a single hyphen and goes on
pub data Setting : Type 0 where
  Value : (name value : Word) → Setting
  Flag : (name : Word) → Setting
  Plain : (word : Word) → Setting
  Unknown : (word : Word) → Setting

-- a name, and the value after its `=`, where there is one
abbrev pub named : Word → Option Word → Setting
named name None = Flag name
named name (Some value) = Value name value

abbrev pub unnamed : Word → Setting
unnamed word = if is_short_word word || bytes_eq word (codes "--") then Unknown word else Plain word

-- a word by itself; `long_of` is the name and the value of `--name` and `--name=value`, and nothing for other words
abbrev pub setting_of : Word → Setting
setting_of word = option_map_or (λ p. named p.0 p.1) (long_of word) (unnamed word)

-- whether a name is one of these
abbrev pub is_member : List Word → Word → Bool
is_member names name = list_any (λ n. bytes_eq n name) names

-- an option takes the word after it as its value, where that one is a positional argument
abbrev pub joined : List Word → List Setting → List Setting
joined options [] = []
joined options (Flag name ∷ Plain word ∷ rest) =
    if is_member options name then Value name word ∷ joined options rest else Flag name ∷ Plain word ∷ joined options rest
joined options (s ∷ rest) = s ∷ joined options rest

-- what a command takes: options, which have values; flags; and one positional argument, by the name that it goes by
pub record Form : Type 0 where
  pub options : List Word
  pub flags : List Word
  pub word : Option Word

abbrev pub settings_of : Form → List Word → List Setting
settings_of form words = joined form.options (map setting_of words)

-- whether the command takes a setting
abbrev pub is_allowed : Form → Setting → Bool
is_allowed form (Value name value) = is_member form.options name
is_allowed form (Flag name) = is_member form.flags name
is_allowed form (Plain word) = is_some form.word
is_allowed form (Unknown word) = false

-- the name that a setting goes by
abbrev pub name_of : Form → Setting → Word
name_of form (Value name value) = name
name_of form (Flag name) = name
name_of form (Plain word) = unwrap_or form.word []
name_of form (Unknown word) = word

-- no name twice
abbrev pub are_different : List Word → Bool
are_different [] = true
are_different (name ∷ names) = not (list_any (bytes_eq name) names) && are_different names

-- the settings that the words have, where the command takes each of them, and none comes twice
abbrev pub are_taken : Form → List Setting → Bool
are_taken form settings = list_all (is_allowed form) settings && are_different (map (name_of form) settings)

abbrev pub read_settings : Form → List Word → Option (List Setting)
read_settings form words = if are_taken form (settings_of form words) then Some (settings_of form words) else None

-- the value of an option, or the positional argument
abbrev pub text_of : Setting → Word
text_of (Value name value) = value
text_of (Flag name) = []
text_of (Plain word) = word
text_of (Unknown word) = []

-- what goes by this name: the value of an option, or the positional argument; and whether a flag is there
abbrev pub value_of : Form → Word → List Setting → Option Word
value_of form name settings = option_map text_of (find (λ s. bytes_eq (name_of form s) name) settings)

abbrev pub has : Form → Word → List Setting → Bool
has form name settings = list_any (λ s. bytes_eq (name_of form s) name) settings
