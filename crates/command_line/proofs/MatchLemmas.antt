-- What the matches of a command have: the values of the settings, and the defaults of the flags.
use Rattle.std.proofs.Common.{◌≡◌, ◌∙◌, Bool, true, false, cond, codes, not, ◌&&◌, ◌||◌, List, [], ◌∷◌, ◌++◌, map, Option, Some, None, refl, sym, ap, ap₂, subst}
use Rattle.std.specs.Prelude.{find, fold, is_some, option_and_then, option_map, slice_get}
use Rattle.std.specs.List.{list_all, list_any}
use Rattle.std.specs.Option.{option_or, unwrap_or}
use Rattle.std.specs.Str.{bytes_eq}
use Rattle.std.proofs.lemmas.Bool.{and_parts, or_parts, true≢false}
use Rattle.std.proofs.lemmas.List.Elements.{All-cons, All-nil}
use Rattle.std.proofs.lemmas.List.Folds.{find-append}
use Rattle.std.proofs.lemmas.Str.{IsUtf8-string_bytes}
use Rattle.std.specs.Prelude.{String, string_bytes}
use Rattle.std.proofs.lemmas.Slice.Eq.{bytes_eq-Decides}
use Rattle.clap.specs.Kinds.{IsAmong, Kinds, or_else}
use Rattle.clap.specs.Faults.{built_fault, check_fault, defaults_fault, fault_of, level_fault, settle_fault, walk_fault}
use Rattle.clap.specs.Walk.{Row, Rule, finished, first_of, has_row, more_values, nothing_held, one_of, row_text, rows_after, rows_of, settled, walk, walk_from, with_default}
use Rattle.clap.specs.Simple.{App, matches_of}
use Rattle.clap.specs.Takes.{is_given}
use Rattle.clap.specs.Words.{first_value, found_of}
use Rattle.clap.specs.declared.parser.matches.ArgMatches.{ArgMatches}
use Rattle.clap.proofs.FaultLemmas.{leaf_fault}
use Rattle.clap.proofs.WalkLemmas.{first_value-rows, one_text-rows}
use Rattle.clap.specs.declared.error.kind.ErrorKind.{ErrorKind}
use Rattle.clap.specs.declared.error.kind.ErrorKind.TheVariants as kind
use Rattle.clap.specs.declared.parser.matches.ValueSource.TheVariants.{DefaultValue}
use Rattle.clap.specs.declared.builder.value_parser.Reading.TheVariants.{AsWritten}
use Rattle.command_line.specs.Settings.{Word, Form, Setting, are_taken, has, is_allowed, is_member, name_of, read_settings, settings_of, text_of, value_of}
use Rattle.command_line.specs.Settings.Setting.{Value, Flag, Plain, Unknown}
use Rattle.command_line.specs.Parsing.{HasSettings, command_of, flag_text, is_proper}
use Rattle.command_line.proofs.RuleLemmas.{built_is, flag_built, no_built, option_built, rules_built, shape_built, words_built}
use Rattle.command_line.proofs.SettingLemmas.{end_refused, flags_apart, taken_is, word_apart}
use Rattle.command_line.proofs.WalkLemmas.{AreWords, IsWord, command_walks, fresh_row, none, none_of_either, row, some_is, some≢none, values_of}

-- ---- the command takes the words

nothing_either : (b : Bool) → ◌≡◌ {A = List ErrorKind} (cond b [] []) []
nothing_either true = refl
nothing_either false = refl

-- no default fails
options_pass : (names : List Word) (rows : List Row) (rest : List Rule) → ((now : List Row) → defaults_fault now rest ≡ []) → defaults_fault rows (map option_built names ++ rest) ≡ []
unfolding defaults_fault
options_pass [] rows rest more = more rows
options_pass (n ∷ names) rows rest more =
    ap₂ or_else (nothing_either (has_row n rows || true)) (options_pass names (with_default rows (option_built n)) rest more)

flags_pass : (names : List Word) (rows : List Row) (rest : List Rule) → ((now : List Row) → defaults_fault now rest ≡ []) → defaults_fault rows (map flag_built names ++ rest) ≡ []
unfolding defaults_fault
flags_pass [] rows rest more = more rows
flags_pass (n ∷ names) rows rest more =
    ap₂ or_else (nothing_either (has_row n rows || false)) (flags_pass names (with_default rows (flag_built n)) rest more)

word_passes : (word : Option Word) (rows : List Row) → defaults_fault rows (words_built word) ≡ []
unfolding defaults_fault
word_passes None rows = refl
word_passes (Some n) rows = ap (λ k. or_else k []) (nothing_either (has_row n rows || true))

defaults_pass : (form : Form) (rows : List Row) → defaults_fault rows (rules_built form) ≡ []
defaults_pass form rows = options_pass form.options rows _ (λ now. flags_pass form.flags now _ (word_passes form.word))

-- no argument is wanted
nothing_wanted : (name : Word) (form : Form) (rows : List Row) → check_fault (shape_built name form) rows false ≡ []
nothing_wanted name form rows =
    ap (λ b. cond b (kind.MissingRequiredArgument ∷ []) []) (no_built (λ a. a.required && not (is_given a.id rows)) (λ n. refl) (λ n. refl) (λ n. refl) form)

at_the_end : (walk settle rest : Kinds) → rest ≡ [] → none (or_else walk (or_else settle rest)) ≡ none (or_else walk settle)
at_the_end walk [] rest is = ap (λ k. none (or_else walk k)) is
at_the_end walk (k ∷ settle) rest is = none_of_either walk (k ∷ settle) ∙ sym (none_of_either walk (k ∷ settle))

-- the command takes the words exactly where it takes their settings
pub passes_is : (name : Word) (form : Form) → is_proper form ≡ true → (words : List Word) → AreWords words → none (fault_of (command_of name form) words) ≡ are_taken form (settings_of form words)
passes_is name form proper words are =
    let s = shape_built name form in
    let walks = command_walks name form proper words are in
    let end = (walk s.rules [] nothing_held words).held in
    let fault : fault_of (command_of name form) words ≡ level_fault s [] nothing_held words false [] =
    ap (λ (a : App). built_fault a nothing_held words) (built_is name form) ∙ leaf_fault (record { top = s; subs = [] }) nothing_held words refl in
    let rest : or_else (defaults_fault (settled s.rules end).rows s.rules) (check_fault s (finished s.rules end) false) ≡ [] =
    ap₂ or_else (defaults_pass form (settled s.rules end).rows) (nothing_wanted name form (finished s.rules end)) in
    ap none fault ∙ at_the_end (walk_fault s [] (walk_from nothing_held) words) (settle_fault s.rules false end) _ rest ∙ walks.0 ∙ taken_is form (settings_of form words)

-- ---- the rows of the matches

-- the row of a name
abbrev at : Word → List Row → Option Row
at name rows = find (λ r. bytes_eq r.id name) rows

abbrev default_row : Word → Row
default_row n = record { id = n; values = codes "false" ∷ []; count = None; source = Some DefaultValue; reading = AsWritten }

same_either : (b : Bool) (rows : List Row) → cond b rows rows ≡ rows
same_either true rows = refl
same_either false rows = refl

-- the flags that were not used
abbrev with_flags : List Row → List Word → List Row
with_flags rows names = fold with_default rows (map flag_built names)

options_stay : (names : List Word) (rows : List Row) (rest : List Rule) → fold with_default rows (map option_built names ++ rest) ≡ fold with_default rows rest
options_stay [] rows rest = refl
options_stay (n ∷ names) rows rest =
    ap (λ now. fold with_default now (map option_built names ++ rest)) (same_either (has_row n rows) rows) ∙ options_stay names rows rest

word_stays : (word : Option Word) (rows : List Row) → fold with_default rows (words_built word) ≡ rows
word_stays None rows = refl
word_stays (Some n) rows = same_either (has_row n rows) rows

flags_then_word : (names : List Word) (rows : List Row) (word : Option Word) → fold with_default rows (map flag_built names ++ words_built word) ≡ with_flags rows names
flags_then_word [] rows word = word_stays word rows
flags_then_word (n ∷ names) rows word = flags_then_word names (with_default rows (flag_built n)) word

-- the rows of the matches, where the command takes the words
pub rows_are : (name : Word) (form : Form) → is_proper form ≡ true → (words : List Word) → AreWords words → are_taken form (settings_of form words) ≡ true
    → matches_of (command_of name form) words ≡ with_flags (map (row form) (settings_of form words)) form.flags
rows_are name form proper words are taken =
    let walks = command_walks name form proper words are in
    ap (λ (a : App). rows_after a.top.rules [] words) (built_is name form)
    ∙ ap (λ rows. fold with_default rows (rules_built form)) (walks.1 (taken_is form (settings_of form words) ∙ taken))
    ∙ options_stay form.options _ _ ∙ flags_then_word form.flags _ form.word

-- ---- the flags that were not used

no_row : (name : Word) (rows : List Row) → at name rows ≡ None → has_row name rows ≡ false
no_row name [] e = refl
no_row name (r ∷ rows) e = go (bytes_eq r.id name) e (no_row name rows)
  where
    go : (b : Bool) → cond b (Some r) (at name rows) ≡ None → (at name rows ≡ None → has_row name rows ≡ false) → (b || has_row name rows) ≡ false
    go true e more = absurd (some≢none r e)
    go false e more = more e

-- one more flag: as before where it was used, and else its default at the end
one_flag : (n : Word) (rows : List Row) (b : Bool) → has_row n rows ≡ b → with_default rows (flag_built n) ≡ cond b rows (rows ++ default_row n ∷ [])
one_flag n rows true e = rw e refl
one_flag n rows false e = rw e (fresh_row n (more_values DefaultValue (codes "false" ∷ [])) (default_row n ∷ []) rows e)

at_end : (name n : Word) (rows : List Row) → at name (rows ++ default_row n ∷ []) ≡ option_or (at name rows) (cond (bytes_eq n name) (Some (default_row n)) None)
at_end name n rows = find-append (λ r. bytes_eq r.id name) rows (default_row n ∷ [])

found_stays : (name : Word) (r : Row) (names : List Word) (rows : List Row) → at name rows ≡ Some r → at name (with_flags rows names) ≡ Some r
found_stays name r [] rows e = e
found_stays name r (n ∷ names) rows e = found_stays name r names (with_default rows (flag_built n)) (go (has_row n rows) refl)
  where
    go : (b : Bool) → has_row n rows ≡ b → at name (with_default rows (flag_built n)) ≡ Some r
    go true has = ap (at name) (one_flag n rows true has) ∙ e
    go false has = ap (at name) (one_flag n rows false has) ∙ at_end name n rows ∙ ap (λ o. option_or o (cond (bytes_eq n name) (Some (default_row n)) None)) e

-- a row that isn't there, after a flag of another name
still_none : (name n : Word) (rows : List Row) → at name rows ≡ None → bytes_eq n name ≡ false → at name (with_default rows (flag_built n)) ≡ None
still_none name n rows e other = go (has_row n rows) refl
  where
    go : (b : Bool) → has_row n rows ≡ b → at name (with_default rows (flag_built n)) ≡ None
    go true has = ap (at name) (one_flag n rows true has) ∙ e
    go false has = ap (at name) (one_flag n rows false has) ∙ at_end name n rows ∙ ap₂ (λ o b. option_or o (cond b (Some (default_row n)) None)) e other

none_stays : (name : Word) (names : List Word) (rows : List Row) → at name rows ≡ None → is_member names name ≡ false → at name (with_flags rows names) ≡ None
none_stays name [] rows e no_flag = e
none_stays name (n ∷ names) rows e no_flag =
    let parts = or_parts (bytes_eq n name) (is_member names name) no_flag in
    none_stays name names (with_default rows (flag_built n)) (still_none name n rows e parts.0) parts.1

default_comes : (name : Word) (names : List Word) (rows : List Row) → at name rows ≡ None → is_member names name ≡ true → at name (with_flags rows names) ≡ Some (default_row name)
default_comes name [] rows e is_flag = absurd (true≢false (sym is_flag))
default_comes name (n ∷ names) rows e is_flag = go (bytes_eq n name) refl is_flag (default_comes name names (with_default rows (flag_built n)))
  where
    go : (b : Bool) → bytes_eq n name ≡ b → (b || is_member names name) ≡ true
        → (at name (with_default rows (flag_built n)) ≡ None → is_member names name ≡ true → at name (with_flags rows (n ∷ names)) ≡ Some (default_row name))
        → at name (with_flags rows (n ∷ names)) ≡ Some (default_row name)
    go true same is_flag more =
        let is : n ≡ name = (bytes_eq-Decides n name).0 same in
        let missing : has_row n rows ≡ false = ap (λ (m : Word). has_row m rows) is ∙ no_row name rows e in
        let here : at name (with_default rows (flag_built n)) ≡ Some (default_row n) =
        ap (at name) (one_flag n rows false missing) ∙ at_end name n rows ∙ ap₂ (λ o b. option_or o (cond b (Some (default_row n)) None)) e same in
        found_stays name (default_row n) names (with_default rows (flag_built n)) here ∙ ap (λ (m : Word). Some (default_row m)) is
    go false other is_flag more = more (still_none name n rows e other) is_flag

-- ---- what goes by a name

found_row : (form : Form) (name : Word) (settings : List Setting) → at name (map (row form) settings) ≡ option_map (row form) (find (λ s. bytes_eq (name_of form s) name) settings)
found_row form name [] = refl
found_row form name (s ∷ settings) = go (bytes_eq (name_of form s) name) (found_row form name settings)
  where
    go : (b : Bool) → at name (map (row form) settings) ≡ option_map (row form) (find (λ t. bytes_eq (name_of form t) name) settings)
        → cond b (Some (row form s)) (at name (map (row form) settings)) ≡ option_map (row form) (cond b (Some s) (find (λ t. bytes_eq (name_of form t) name) settings))
    go true e = refl
    go false e = e

-- a setting that is found is one that the form takes, and goes by the name
found_allowed : (form : Form) (name : Word) (settings : List Setting) (s : Setting) → list_all (is_allowed form) settings ≡ true
    → find (λ t. bytes_eq (name_of form t) name) settings ≡ Some s → (is_allowed form s ≡ true) × (name_of form s ≡ name)
found_allowed form name [] s all e = absurd (some≢none s (sym e))
found_allowed form name (t ∷ settings) s all e = go (bytes_eq (name_of form t) name) refl e (found_allowed form name settings s)
  where
    allowed : (is_allowed form t ≡ true) × (list_all (is_allowed form) settings ≡ true)
    allowed = and_parts _ _ all

    go : (b : Bool) → bytes_eq (name_of form t) name ≡ b → cond b (Some t) (find (λ u. bytes_eq (name_of form u) name) settings) ≡ Some s
        → (list_all (is_allowed form) settings ≡ true → find (λ u. bytes_eq (name_of form u) name) settings ≡ Some s → (is_allowed form s ≡ true) × (name_of form s ≡ name))
        → (is_allowed form s ≡ true) × (name_of form s ≡ name)
    go true same e more =
        let is : t ≡ s = ap (λ o. unwrap_or o s) e in
        subst (λ (u : Setting). (is_allowed form u ≡ true) × (name_of form u ≡ name)) is (allowed.0, (bytes_eq-Decides (name_of form t) name).0 same)
    go false other e more = more allowed.1 e

has_found : (form : Form) (name : Word) (settings : List Setting) → has form name settings ≡ is_some (find (λ s. bytes_eq (name_of form s) name) settings)
has_found form name [] = refl
has_found form name (s ∷ settings) = go (bytes_eq (name_of form s) name) (has_found form name settings)
  where
    go : (b : Bool) → has form name settings ≡ is_some (find (λ t. bytes_eq (name_of form t) name) settings)
        → (b || has form name settings) ≡ is_some (cond b (Some s) (find (λ t. bytes_eq (name_of form t) name) settings))
    go true e = refl
    go false e = e

-- the first value of a row is the setting's, where that is no flag
first_is : (form : Form) (name : Word) (s : Setting) → is_member form.flags name ≡ false → is_allowed form s ≡ true → name_of form s ≡ name → slice_get (values_of s) 0 ≡ Some (text_of s)
first_is form name (Value n v) no_flag allowed is = refl
first_is form name (Flag n) no_flag allowed is = absurd (true≢false (sym allowed ∙ ap (is_member form.flags) is ∙ no_flag))
first_is form name (Plain w) no_flag allowed is = refl
first_is form name (Unknown w) no_flag allowed is = absurd (true≢false (sym allowed))

module _ (form : Form) (settings : List Setting) (all : list_all (is_allowed form) settings ≡ true) where
  abbrev all_rows : List Row
  all_rows = with_flags (map (row form) settings) form.flags

  -- the value of an option, or the positional argument
  pub value_is : (name : Word) → is_member form.flags name ≡ false → first_of name all_rows ≡ value_of form name settings
  value_is name no_flag = go (find (λ s. bytes_eq (name_of form s) name) settings) refl
    where
      go : (o : Option Setting) → find (λ s. bytes_eq (name_of form s) name) settings ≡ o → first_of name all_rows ≡ option_map text_of (find (λ s. bytes_eq (name_of form s) name) settings)
      go None e =
          let here : at name (map (row form) settings) ≡ None = found_row form name settings ∙ ap (option_map (row form)) e in
          ap (option_and_then (λ (r : Row). slice_get r.values 0)) (none_stays name form.flags (map (row form) settings) here no_flag) ∙ sym (ap (option_map text_of) e)
      go (Some s) e =
          let here : at name (map (row form) settings) ≡ Some (row form s) = found_row form name settings ∙ ap (option_map (row form)) e in
          let found = found_allowed form name settings s all e in
          ap (option_and_then (λ (r : Row). slice_get r.values 0)) (found_stays name (row form s) form.flags (map (row form) settings) here)
          ∙ first_is form name s no_flag found.0 found.1 ∙ sym (ap (option_map text_of) e)

  -- the value of a flag says whether the flag is there
  pub flag_is : is_proper form ≡ true → (name : Word) → is_member form.flags name ≡ true → one_of name all_rows ≡ Some (flag_text (has form name settings))
  flag_is proper name is_flag = go (find (λ s. bytes_eq (name_of form s) name) settings) refl
    where
      told : (s : Setting) → is_allowed form s ≡ true → name_of form s ≡ name → row_text (row form s) ≡ Some (codes "true")
      told (Value n v) allowed is = absurd (true≢false (sym is_flag ∙ ap (is_member form.flags) (sym is) ∙ flags_apart form n proper allowed))
      told (Flag n) allowed is = refl
      told (Plain w) allowed is =
          absurd (true≢false (sym is_flag ∙ ap (is_member form.flags) (sym is) ∙ (word_apart form (unwrap_or form.word []) proper (some_is form.word allowed)).1))
      told (Unknown w) allowed is = absurd (true≢false (sym allowed))

      go : (o : Option Setting) → find (λ s. bytes_eq (name_of form s) name) settings ≡ o → one_of name all_rows ≡ Some (flag_text (has form name settings))
      go None e =
          let here : at name (map (row form) settings) ≡ None = found_row form name settings ∙ ap (option_map (row form)) e in
          ap (option_and_then row_text) (default_comes name form.flags (map (row form) settings) here is_flag)
          ∙ sym (ap (λ b. Some (flag_text b)) (has_found form name settings ∙ ap is_some e))
      go (Some s) e =
          let here : at name (map (row form) settings) ≡ Some (row form s) = found_row form name settings ∙ ap (option_map (row form)) e in
          let found = found_allowed form name settings s all e in
          ap (option_and_then row_text) (found_stays name (row form s) form.flags (map (row form) settings) here) ∙ told s found.0 found.1
          ∙ sym (ap (λ b. Some (flag_text b)) (has_found form name settings ∙ ap is_some e))

-- ---- the answer of the parser

-- the words are texts, and none is `--`
words_are : {Z : Type 0} (words : List (String Z)) → list_any (λ word. bytes_eq (string_bytes word) (codes "--")) words ≡ false → AreWords (map string_bytes words)
words_are [] e = All-nil IsWord
words_are (w ∷ words) e =
    let parts = or_parts (bytes_eq (string_bytes w) (codes "--")) _ e in
    All-cons IsWord (string_bytes w) (map string_bytes words) (parts.0, IsUtf8-string_bytes w) (words_are words parts.1)

any_text : {Z : Type 0} (words : List (String Z)) → list_any (λ word. bytes_eq word (codes "--")) (map string_bytes words) ≡ list_any (λ word. bytes_eq (string_bytes word) (codes "--")) words
any_text [] = refl
any_text (w ∷ words) = ap (λ b. bytes_eq (string_bytes w) (codes "--") || b) (any_text words)

not_read : (form : Form) (words : List Word) → are_taken form (settings_of form words) ≡ false → read_settings form words ≡ None
not_read form words e = ap (λ b. cond b (Some (settings_of form words)) None) e

is_read : (form : Form) (words : List Word) → are_taken form (settings_of form words) ≡ true → read_settings form words ≡ Some (settings_of form words)
is_read form words e = ap (λ b. cond b (Some (settings_of form words)) None) e

pub end_not_read : {Z : Type 0} (form : Form) (words : List (String Z)) → true ≡ list_any (λ word. bytes_eq (string_bytes word) (codes "--")) words
    → read_settings form (map string_bytes words) ≡ None
end_not_read form words e = not_read form (map string_bytes words) (end_refused form (map string_bytes words) (any_text words ∙ sym e))

none_is : (ks : Kinds) (k : ErrorKind) → IsAmong k ks → none ks ≡ false
none_is [] k among = absurd among
none_is (x ∷ ks) k among = refl

pub refused_not_read : {Z : Type 0} (name : Word) (form : Form) → is_proper form ≡ true → (words : List (String Z))
    → false ≡ list_any (λ word. bytes_eq (string_bytes word) (codes "--")) words → (k : ErrorKind) → IsAmong k (fault_of (command_of name form) (map string_bytes words))
    → read_settings form (map string_bytes words) ≡ None
refused_not_read name form proper words e k among =
    not_read form (map string_bytes words) (sym (passes_is name form proper (map string_bytes words) (words_are words (sym e))) ∙ none_is _ k among)

pub taken_has : {Z : Type 0} (name : Word) (form : Form) → is_proper form ≡ true → (words : List (String Z)) → false ≡ list_any (λ word. bytes_eq (string_bytes word) (codes "--")) words
    → (m : ArgMatches) → fault_of (command_of name form) (map string_bytes words) ≡ [] → rows_of (found_of m) ≡ matches_of (command_of name form) (map string_bytes words)
    → HasSettings form (map string_bytes words) m
taken_has name form proper words e m passed rows =
    let texts = map string_bytes words in
    let are = words_are words (sym e) in
    let taken : are_taken form (settings_of form texts) ≡ true = sym (passes_is name form proper texts are) ∙ ap none passed in
    let all : list_all (is_allowed form) (settings_of form texts) ≡ true = (and_parts _ _ taken).0 in
    let rows_is = rows ∙ rows_are name form proper texts are taken in
    let value : (id : Word) → is_member form.flags id ≡ false → first_value (found_of m) id ≡ value_of form id (settings_of form texts) =
    λ id no_flag. first_value-rows (found_of m) id ∙ ap (first_of id) rows_is ∙ value_is form (settings_of form texts) all id no_flag in
    record {
      settings = settings_of form texts;
      read = is_read form texts taken;
      options = λ id is_option. value id (flags_apart form id proper is_option);
      flags = λ id is_flag. one_text-rows (found_of m) id ∙ ap (one_of id) rows_is ∙ flag_is form (settings_of form texts) all proper id is_flag;
      word = λ id is. value id (word_apart form id proper is).1;
    }
