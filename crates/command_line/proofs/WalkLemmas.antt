-- The walk of `clap` over the words of a command line: it takes them exactly where their settings are taken, and its matches
-- are theirs.
use Rattle.std.proofs.Common.{◌≡◌, ◌∙◌, ◌⊎◌, ℕ, ◌<◌, ◌==◌, Bool, true, false, cond, codes, not, ◌&&◌, ◌||◌, List, [], ◌∷◌, ◌++◌, map, length, length-append, Option, Some, None, inl, inr, refl, sym, ap, ap₂, subst, arith, append-nil, append_assoc}
use Rattle.std.specs.Prelude.{⊤, encode_utf8, fold, is_some, option_and_then, option_map, slice_get}
use Rattle.std.specs.List.{All}
use Rattle.std.specs.Option.{option_map_or, unwrap_or}
use Rattle.std.specs.Str.{IsUtf8, all_scalars, bytes_eq, chars, encode_utf8_all}
use Rattle.std.proofs.lemmas.Str.{IsUtf8-past_char, chars-encodes, encode_ascii, len_utf8_bounds, length-encode}
use Rattle.std.proofs.lemmas.Bool.{and_parts, eqb-true, not-true, or_parts, true≢false}
use Rattle.std.proofs.lemmas.List.{map-append}
use Rattle.std.proofs.lemmas.List.Elements.{All-head, All-tail}
use Rattle.std.proofs.lemmas.Slice.Eq.{bytes_eq-Decides}
use Rattle.clap.specs.Lexer.{long_of, short_of, short_of_rest}
use Rattle.clap.specs.Kinds.{Kinds, or_else}
use Rattle.clap.specs.Faults.{bundle_fault, long_fault, react_fault, settle_fault, turn_fault, use_fault, walk_fault}
use Rattle.clap.specs.Walk.{Held, Row, Rule, Text, Waiting, Walk, idle, option, arg_by_id, arg_by_index, arg_by_long, at_row, has_row, is_pending, more_values, next_position, pushed, settled, settled_rows, used, used_by_id, walked, with_values, without}
use Rattle.clap.proofs.FaultLemmas.{fault_reads}
use Rattle.clap.specs.declared.parser.matches.ValueSource.TheVariants.{CommandLine}
use Rattle.clap.specs.declared.builder.value_parser.Reading.TheVariants.{AsWritten}
use Rattle.clap.specs.declared.error.kind.ErrorKind.TheVariants as kind
use Rattle.command_line.specs.Settings.{Word, Form, Setting, has, is_allowed, is_member, joined, name_of, named, setting_of, settings_of, unnamed}
use Rattle.command_line.specs.Settings.Setting.{Value, Flag, Plain, Unknown}
use Rattle.command_line.specs.Parsing.{is_proper}
use Rattle.command_line.proofs.RuleLemmas.{by_long, by_short, first_word, flag_built, option_built, option_by_id, rules_built, second_word, shape_built, word_built, word_by_id}
use Rattle.command_line.proofs.SettingLemmas.{fits, flags_apart, has_last, has_more, joined_flag, joined_option, word_apart}

-- ---- no kind of error

abbrev pub none : Kinds → Bool
none [] = true
none (k ∷ ks) = false

pub none_of_either : (a b : Kinds) → none (or_else a b) ≡ (none a && none b)
none_of_either [] b = refl
none_of_either (k ∷ ks) b = refl

first_fails : (a b : Kinds) → none a ≡ false → none (or_else a b) ≡ false
first_fails [] b e = absurd (true≢false e)
first_fails (k ∷ ks) b e = refl

and_assoc : (a b c : Bool) → ((a && b) && c) ≡ (a && (b && c))
and_assoc true b c = refl
and_assoc false b c = refl

and_true : (b : Bool) → (b && true) ≡ b
and_true true = refl
and_true false = refl

and_false : (b : Bool) → (b && false) ≡ false
and_false true = refl
and_false false = refl

-- two tests are one after a test, where they are one when it passes
after_test : (t a b : Bool) → (t ≡ true → a ≡ b) → (t && a) ≡ (t && b)
after_test true a b same = same refl
after_test false a b same = refl

-- ---- rows

-- what the matches have of a setting
abbrev pub values_of : Setting → List Text
values_of (Value name value) = value ∷ []
values_of (Flag name) = codes "true" ∷ []
values_of (Plain word) = word ∷ []
values_of (Unknown word) = word ∷ []

abbrev pub row : Form → Setting → Row
row form s = record { id = name_of form s; values = values_of s; count = None; source = Some CommandLine; reading = AsWritten }

pub has_row_is : (form : Form) (name : Word) (seen : List Setting) → has_row name (map (row form) seen) ≡ has form name seen
has_row_is form name [] = refl
has_row_is form name (s ∷ seen) = ap (λ b. bytes_eq (name_of form s) name || b) (has_row_is form name seen)

-- rows without a name's
pub fresh_row : (name : Word) (change : Row → List Row) (missing rows : List Row) → has_row name rows ≡ false → at_row name change missing rows ≡ rows ++ missing
fresh_row name change missing [] absent = refl
fresh_row name change missing (r ∷ rs) absent =
    let parts = or_parts (bytes_eq r.id name) (has_row name rs) absent in
    rw parts.0 (ap (λ more. r ∷ more) (fresh_row name change missing rs parts.1))

added : (form : Form) (seen : List Setting) (s : Setting) → has form (name_of form s) seen ≡ false
    → with_values (name_of form s) AsWritten CommandLine (values_of s) (without (name_of form s) (map (row form) seen)) ≡ map (row form) (seen ++ s ∷ [])
added form seen s new =
    let rows = map (row form) seen in
    let missing : has_row (name_of form s) rows ≡ false = has_row_is form (name_of form s) seen ∙ new in
    let same : without (name_of form s) rows ≡ rows = fresh_row (name_of form s) (λ r. []) [] rows missing ∙ append-nil rows in
    ap (with_values (name_of form s) AsWritten CommandLine (values_of s)) same ∙ fresh_row (name_of form s) (more_values CommandLine (values_of s)) (row form s ∷ []) rows missing ∙ sym (map-append (row form) seen (s ∷ []))

-- a use of an argument fails only where it was used before
use_is : (b : Bool) → none (or_else (cond (b && true) (kind.ArgumentConflict ∷ []) []) []) ≡ not b
use_is true = refl
use_is false = refl

option_use : (n v : Word) (rows : List Row) → none (use_fault false (option_built n) (v ∷ []) rows) ≡ not (has_row n rows)
option_use n v rows = use_is (has_row n rows)

flag_use : (n : Word) (rows : List Row) → none (use_fault false (flag_built n) [] rows) ≡ not (has_row n rows)
flag_use n rows = use_is (has_row n rows)

word_use : (n v : Word) (rows : List Row) → none (use_fault false (word_built n) (v ∷ []) rows) ≡ not (has_row n rows)
word_use n v rows = use_is (has_row n rows)

-- ---- where the walk is between two words

abbrev held : List Row → Option (Text × List Text) → Held
held rows pending = record { rows = rows; pending = pending; skip = 0 }

abbrev standing : List Row → Option (Text × List Text) → Waiting → ℕ → Walk
standing rows pending waiting position = record { held = held rows pending; waiting = waiting; position = position; is_trailing = false; stopped = None }

-- what is left to go wrong, and the rows at the end
abbrev left : Word → Form → Walk → List Text → Kinds
left name form w words = or_else (walk_fault (shape_built name form) [] w words) (settle_fault (rules_built form) false (fold (walked (rules_built form) []) w words).held)

abbrev rows_left : Form → Walk → List Text → List Row
rows_left form w words = (settled (rules_built form) (fold (walked (rules_built form) []) w words).held).rows

left_end : (name : Word) (form : Form) (w : Walk) → left name form w [] ≡ settle_fault (rules_built form) false w.held
unfolding walk_fault
left_end name form w = refl

left_next : (name : Word) (form : Form) (w : Walk) (word : Text) (words : List Text)
    → none (left name form w (word ∷ words)) ≡ (none (turn_fault (shape_built name form) [] w word) && none (left name form (walked (rules_built form) [] w word) words))
unfolding walk_fault
left_next name form w word words =
    let turn = turn_fault (shape_built name form) [] w word in
    let rest = walk_fault (shape_built name form) [] (walked (rules_built form) [] w word) words in
    let end = settle_fault (rules_built form) false (fold (walked (rules_built form) []) w (word ∷ words)).held in
    none_of_either (or_else turn rest) end ∙ ap (λ b. b && none end) (none_of_either turn rest) ∙ and_assoc (none turn) (none rest) (none end)
    ∙ ap (λ b. none turn && b) (sym (none_of_either rest end))

-- ---- what one word does

in_any_case : {X : Type 0} (b : Bool) (x y : X) → cond (b && false) x y ≡ y
in_any_case true x y = refl
in_any_case false x y = refl

module _ (name : Word) (form : Form) (rows : List Row) (pending : Option (Text × List Text)) (position : ℕ) (x : Text) (no_end : bytes_eq x (45 ∷ 45 ∷ []) ≡ false) where
  abbrev rules : List Rule
  rules = rules_built form

  abbrev here : Walk
  here = standing rows pending idle position

  abbrev turn : Kinds
  turn = turn_fault (shape_built name form) [] here x

  -- `--name=value`, of an option, of a flag and of no argument
  option_value_turn : (n v : Text) → long_of x ≡ Some (n, Some v) → arg_by_long (rules_built form) n ≡ Some (option_built n)
      → turn ≡ or_else (react_fault rules false (option_built n) (v ∷ []) (held rows pending)) []
  option_value_turn n v is found = rw (no_end, is, found) refl

  option_value_walked : (n v : Text) → long_of x ≡ Some (n, Some v) → arg_by_long (rules_built form) n ≡ Some (option_built n)
      → walked rules [] here x ≡ standing (used (option_built n) (v ∷ []) (settled_rows rules pending rows)) None idle position
  unfolding walked
  option_value_walked n v is found = rw (no_end, is, found) refl

  flag_value_turn : (n v : Text) → long_of x ≡ Some (n, Some v) → arg_by_long (rules_built form) n ≡ Some (flag_built n) → none turn ≡ false
  flag_value_turn n v is found = rw (no_end, is, found) refl

  unknown_turn : (n : Text) (v : Option Text) → long_of x ≡ Some (n, v) → arg_by_long (rules_built form) n ≡ None → none turn ≡ false
  unknown_turn n v is found = rw (no_end, is, found) refl

  -- `--name`, of a flag and of an option
  flag_turn : (n : Text) → long_of x ≡ Some (n, None) → arg_by_long (rules_built form) n ≡ Some (flag_built n)
      → turn ≡ or_else (react_fault rules false (flag_built n) [] (held rows pending)) []
  flag_turn n is found = rw (no_end, is, found) refl

  flag_walked : (n : Text) → long_of x ≡ Some (n, None) → arg_by_long (rules_built form) n ≡ Some (flag_built n)
      → walked rules [] here x ≡ standing (used (flag_built n) [] (settled_rows rules pending rows)) None idle position
  unfolding walked
  flag_walked n is found = rw (no_end, is, found) refl

  option_turn : (n : Text) → long_of x ≡ Some (n, None) → arg_by_long (rules_built form) n ≡ Some (option_built n)
      → turn ≡ or_else (settle_fault rules false (held rows pending)) []
  option_turn n is found = rw (no_end, is, found) refl

  option_walked : (n : Text) → long_of x ≡ Some (n, None) → arg_by_long (rules_built form) n ≡ Some (option_built n)
      → walked rules [] here x ≡ standing (settled_rows rules pending rows) (Some (n, [])) (option n) position
  unfolding walked
  option_walked n is found = rw (no_end, is, found) refl

  -- a positional argument
  stray_turn : long_of x ≡ None → short_of x ≡ None → arg_by_index (rules_built form) position ≡ None → none turn ≡ false
  stray_turn is short found = rw (no_end, is, short, found) refl

  word_turn : (n : Text) → long_of x ≡ None → short_of x ≡ None → arg_by_index (rules_built form) position ≡ Some (word_built n)
      → turn ≡ settle_fault rules false (held rows pending)
  word_turn n is short found = rw (no_end, is, short, found) (in_any_case _ _ _)

  word_walked : (n : Text) → long_of x ≡ None → short_of x ≡ None → arg_by_index (rules_built form) position ≡ Some (word_built n)
      → walked rules [] here x ≡ record (standing (settled_rows rules pending rows) (Some (n, x ∷ [])) idle position) { position = next_position (word_built n) position }
  unfolding walked
  word_walked n is short found =
      rw (no_end, is, short, found) (ap (λ (h : Held). record here { held = pushed n x h; position = next_position (word_built n) position })
      (in_any_case (is_pending (word_built n) pending) (held rows pending) (settled rules (held rows pending))))

  -- a word that begins with a single hyphen
  short_turn : (flags : Text) → long_of x ≡ None → short_of x ≡ Some flags → none (bundle_fault rules false flags (held rows pending)) ≡ false → none turn ≡ false
  short_turn flags is short fails = rw (no_end, is, short) (first_fails _ _ fails)

-- `--name` and `--name=value` fail where what is pending can't be settled
long_fails : (form : Form) (m : Word) (h : Held) (v : Option Text) → none (settle_fault (rules_built form) false h) ≡ false
    → (is_option is_flag : Bool) → none (long_fault (rules_built form) false (cond is_option (Some (option_built m)) (cond is_flag (Some (flag_built m)) None)) v h) ≡ false
long_fails form m h (Some v) fails true is_flag = first_fails _ _ fails
long_fails form m h None fails true is_flag = fails
long_fails form m h (Some v) fails false true = refl
long_fails form m h None fails false true = first_fails _ _ fails
long_fails form m h v fails false false = refl

pub some≢none : {X : Type 0} (x : X) → Some x ≡ None → ⊥
some≢none x e = true≢false (ap is_some e)

-- what a word with a single hyphen is
after_hyphen : (x flags : Text) → short_of x ≡ Some flags → (x ≡ 45 ∷ flags) × (0 < length flags)
after_hyphen [] flags is = absurd (some≢none flags (sym is))
after_hyphen (b ∷ bs) flags is = go (b == 45) refl is
  where
    rest : (ys : Text) → b ≡ 45 → short_of_rest ys ≡ Some flags → (b ∷ ys ≡ 45 ∷ flags) × (0 < length flags)
    rest [] e is = absurd (some≢none flags (sym is))
    rest (y ∷ ys) e is = other (y == 45) is
      where
        other : (t : Bool) → cond t None (Some (y ∷ ys)) ≡ Some flags → (b ∷ y ∷ ys ≡ 45 ∷ flags) × (0 < length flags)
        other true is = absurd (some≢none flags (sym is))
        other false is =
            let same : y ∷ ys ≡ flags = ap (λ o. unwrap_or o flags) is in
            (λ i. e i ∷ same i, omega (arith, ap length same))

    go : (t : Bool) → (b == 45) ≡ t → option_and_then short_of_rest (cond t (Some bs) None) ≡ Some flags → (b ∷ bs ≡ 45 ∷ flags) × (0 < length flags)
    go true e is = rest bs (eqb-true b 45 e) is
    go false e is = absurd (some≢none flags (sym is))

-- a word with a single hyphen fails: no argument has a short name
short_fails : (form : Form) (x flags : Text) (rows : List Row) (pending : Option (Text × List Text)) → IsUtf8 x → short_of x ≡ Some flags
    → none (bundle_fault (rules_built form) false flags (held rows pending)) ≡ false
short_fails form x flags rows pending utf8 is =
    let parts = after_hyphen x flags is in
    let hyphen : encode_utf8 45 ≡ 45 ∷ [] = encode_ascii 45 (omega arith) in
    let rest : IsUtf8 flags = IsUtf8-past_char x flags 45 utf8 (parts.0 ∙ ap (λ l. l ++ flags) (sym hyphen)) in
    go rest.0 rest.1.0 rest.1.1 parts.1
  where
    go : (cs : List ℕ) → all_scalars cs ≡ true → encode_utf8_all cs ≡ flags → 0 < length flags → none (bundle_fault (rules_built form) false flags (held rows pending)) ≡ false
    go [] scalars e some = absurd (omega (arith, ap length e))
    go (ch ∷ cs) scalars e some =
        let first : Some ch ≡ slice_get (chars flags) 0 = ap (λ ds. slice_get ds 0) (sym (chars-encodes (ch ∷ cs) scalars) ∙ ap chars e) in
        let tail = encode_utf8_all cs in
        let shorter : length tail < length flags =
        omega (arith, sym (ap length e) ∙ length-append (encode_utf8 ch) tail, length-encode ch, (len_utf8_bounds ch).0) in
        let reads = fault_reads (rules_built form) false ch flags tail first (sym e) (length flags) 0 (held rows pending) shorter (omega arith) in
        sym (ap none reads) ∙ rw (by_short form ch) refl

-- a word after an option that has no value yet
module _ (name : Word) (form : Form) (rows : List Row) (position : ℕ) (n x : Text) (no_end : bytes_eq x (45 ∷ 45 ∷ []) ≡ false) (is_option : is_member form.options n ≡ true) where
  abbrev awaiting : Walk
  awaiting = standing rows (Some (n, [])) (option n) position

  abbrev after_turn : Kinds
  after_turn = turn_fault (shape_built name form) [] awaiting x

  -- the option isn't settled without a value
  no_value : none (settle_fault (rules_built form) false (held rows (Some (n, [])))) ≡ false
  no_value = rw (option_by_id form n is_option) refl

  value_turn : long_of x ≡ None → short_of x ≡ None → after_turn ≡ []
  value_turn is short = rw (no_end, is, short) refl

  value_walked : long_of x ≡ None → short_of x ≡ None → walked (rules_built form) [] awaiting x ≡ standing rows (Some (n, x ∷ [])) idle position
  unfolding walked
  value_walked is short = rw (no_end, is, short, option_by_id form n is_option, (bytes_eq-Decides n n).1 refl) refl

  long_after : (m : Text) (v : Option Text) → long_of x ≡ Some (m, v) → none after_turn ≡ false
  long_after m v is = rw (no_end, is, by_long form m) (first_fails _ _ (long_fails form m (held rows (Some (n, []))) v no_value (is_member form.options m) (is_member form.flags m)))

  short_after : (flags : Text) → long_of x ≡ None → short_of x ≡ Some flags → none (bundle_fault (rules_built form) false flags (held rows (Some (n, [])))) ≡ false → none after_turn ≡ false
  short_after flags is short fails = rw (no_end, is, short) (first_fails _ _ fails)

-- ---- what is pending: a setting that is used when the next one comes

abbrev pub pend : Form → Option Setting → Option (Text × List Text)
pend form None = None
pend form (Some s) = Some (name_of form s, values_of s)

abbrev pub IsPending : Form → Option Setting → Type 0
IsPending form None = ⊤
IsPending form (Some (Value n v)) = is_member form.options n ≡ true
IsPending form (Some (Flag n)) = ⊥
IsPending form (Some (Plain w)) = is_some form.word ≡ true
IsPending form (Some (Unknown w)) = ⊥

abbrev pub is_new : Form → List Setting → Option Setting → Bool
is_new form seen None = true
is_new form seen (Some s) = not (has form (name_of form s) seen)

abbrev pub with_pending : List Setting → Option Setting → List Setting
with_pending seen None = seen
with_pending seen (Some s) = seen ++ s ∷ []

-- the argument of a setting: how it fails, and what it leaves
record IsUsedAs (form : Form) (s : Setting) : Type 0 where
  rule : Rule
  found : arg_by_id (rules_built form) (name_of form s) ≡ Some rule
  fails : (rows : List Row) → none (use_fault false rule (values_of s) rows) ≡ not (has_row (name_of form s) rows)
  uses : (rows : List Row) → used rule (values_of s) rows ≡ with_values (name_of form s) AsWritten CommandLine (values_of s) (without (name_of form s) rows)

pub some_is : (o : Option Word) → is_some o ≡ true → o ≡ Some (unwrap_or o [])
some_is None e = absurd (true≢false (sym e))
some_is (Some x) e = refl

used_as : (form : Form) → is_proper form ≡ true → (s : Setting) → IsPending form (Some s) → IsUsedAs form s
used_as form proper (Value n v) is = record { rule = option_built n; found = option_by_id form n is; fails = option_use n v; uses = λ rows. refl }
used_as form proper (Flag n) is = absurd is
used_as form proper (Plain w) is =
    let n = unwrap_or form.word [] in
    let named = some_is form.word is in
    let apart = word_apart form n proper named in
    record { rule = word_built n; found = word_by_id form n apart.0 apart.1 named; fails = word_use n w; uses = λ rows. refl }
used_as form proper (Unknown w) is = absurd is

settle_is : (form : Form) → is_proper form ≡ true → (seen : List Setting) (p : Option Setting) → IsPending form p
    → none (settle_fault (rules_built form) false (held (map (row form) seen) (pend form p))) ≡ is_new form seen p
settle_is form proper seen None is = refl
settle_is form proper seen (Some s) is =
    let u = used_as form proper s is in
    let rows = map (row form) seen in
    ap (λ o. none (option_map_or (λ a. use_fault false a (values_of s) rows) o [])) u.found ∙ u.fails rows ∙ ap not (has_row_is form (name_of form s) seen)

settled_is : (form : Form) → is_proper form ≡ true → (seen : List Setting) (p : Option Setting) → IsPending form p → is_new form seen p ≡ true
    → settled_rows (rules_built form) (pend form p) (map (row form) seen) ≡ map (row form) (with_pending seen p)
settled_is form proper seen None is new = refl
settled_is form proper seen (Some s) is new =
    let u = used_as form proper s is in
    let rows = map (row form) seen in
    ap (λ o. used_by_id o (values_of s) rows) u.found ∙ u.uses rows ∙ added form seen s (not-true _ new)

-- the place of the next positional argument: the second place is after such a word
abbrev pub IsAt : Form → ℕ → List Setting → Type 0
IsAt form position seen = (position ≡ 1) ⊎ ((position ≡ 2) × (has form (unwrap_or form.word []) seen ≡ true))

at_more : (form : Form) (position : ℕ) (seen : List Setting) (s : Setting) → IsAt form position seen → IsAt form position (seen ++ s ∷ [])
at_more form position seen s (inl first) = inl first
at_more form position seen s (inr second) = inr (second.0, has_more form (unwrap_or form.word []) seen s second.1)

-- ---- the walk and the settings

-- the walk over these words passes exactly where these settings fit after those seen, and ends with the rows of all
abbrev Walks : Word → Form → List Setting → Option Setting → ℕ → List Text → List Setting → Type 0
Walks name form seen p position words settings =
    (none (left name form (standing (map (row form) seen) (pend form p) idle position) words) ≡ (is_new form seen p && fits form (with_pending seen p) settings))
    × ((is_new form seen p && fits form (with_pending seen p) settings) ≡ true
    → rows_left form (standing (map (row form) seen) (pend form p) idle position) words ≡ map (row form) (with_pending seen p ++ settings))

-- the same after an option that has no value yet
abbrev WalksAfter : Word → Form → List Setting → Word → ℕ → List Text → List Setting → Type 0
WalksAfter name form seen n position words settings =
    (none (left name form (standing (map (row form) seen) (Some (n, [])) (option n) position) words) ≡ fits form seen settings)
    × (fits form seen settings ≡ true → rows_left form (standing (map (row form) seen) (Some (n, [])) (option n) position) words ≡ map (row form) (seen ++ settings))

-- a word that passes with a test, and then the words after it
combined : (name : Word) (form : Form) (w next : Walk) (x : Text) (xs : List Text) (new q b f : Bool) (rows rows_after : List Row)
    → none (turn_fault (shape_built name form) [] w x) ≡ (new && q)
    → ((new && q) ≡ true → walked (rules_built form) [] w x ≡ next)
    → none (left name form next xs) ≡ b → (b ≡ true → rows_left form next xs ≡ rows_after)
    → f ≡ (q && b) → rows_after ≡ rows
    → (none (left name form w (x ∷ xs)) ≡ (new && f)) × ((new && f) ≡ true → rows_left form w (x ∷ xs) ≡ rows)
combined name form w next x xs false q b f rows rows_after turn step more all is same =
    (left_next name form w x xs ∙ ap (λ t. t && none (left name form (walked (rules_built form) [] w x) xs)) turn, λ e. absurd (true≢false (sym e)))
combined name form w next x xs true false b f rows rows_after turn step more all is same =
    (left_next name form w x xs ∙ ap (λ t. t && none (left name form (walked (rules_built form) [] w x) xs)) turn ∙ sym is, λ e. absurd (true≢false (sym e ∙ is)))
combined name form w next x xs true true b f rows rows_after turn step more all is same =
    let there = step refl in (
      left_next name form w x xs ∙ ap₂ (λ t v. t && none (left name form v xs)) turn there ∙ more ∙ sym is,
      λ e. ap (λ v. rows_left form v xs) there ∙ all (sym is ∙ e) ∙ same,
    )

refused : (name : Word) (form : Form) (w : Walk) (x : Text) (xs : List Text) (new f : Bool) (rows : List Row)
    → none (turn_fault (shape_built name form) [] w x) ≡ false → f ≡ false
    → (none (left name form w (x ∷ xs)) ≡ (new && f)) × ((new && f) ≡ true → rows_left form w (x ∷ xs) ≡ rows)
refused name form w x xs new f rows turn is = (
  left_next name form w x xs ∙ ap (λ t. t && none (left name form (walked (rules_built form) [] w x) xs)) turn ∙ sym (ap (λ b. new && b) is ∙ and_false new),
  λ e. absurd (true≢false (sym e ∙ ap (λ b. new && b) is ∙ and_false new)),
)

-- the walks over the rest of the words, from wherever they begin
abbrev AllWalk : Word → Form → List Text → Type 0
AllWalk name form words =
    (seen : List Setting) (p : Option Setting) (position : ℕ) → IsPending form p → IsAt form position (with_pending seen p) → Walks name form seen p position words (settings_of form words)

abbrev AllWalkAfter : Word → Form → List Text → Type 0
AllWalkAfter name form words =
    (seen : List Setting) (n : Word) (position : ℕ) → is_member form.options n ≡ true → IsAt form position seen
    → WalksAfter name form seen n position words (joined form.options (Flag n ∷ map setting_of words))

module _ (name : Word) (form : Form) (proper : is_proper form ≡ true) (x : Text) (xs : List Text) (no_end : bytes_eq x (45 ∷ 45 ∷ []) ≡ false)
    (seen : List Setting) (p : Option Setting) (position : ℕ) (pending : IsPending form p) (place : IsAt form position (with_pending seen p)) where
  abbrev w : Walk
  w = standing (map (row form) seen) (pend form p) idle position

  abbrev x_turn : Kinds
  x_turn = turn_fault (shape_built name form) [] w x

  abbrev seen_rows : List Row
  seen_rows = settled_rows (rules_built form) (pend form p) (map (row form) seen)

  -- a setting that is used at once
  used_at_once : (s : Setting) (a : Rule) (vs : List Text) → is_allowed form s ≡ true
      → x_turn ≡ or_else (react_fault (rules_built form) false a vs (held (map (row form) seen) (pend form p))) []
      → walked (rules_built form) [] w x ≡ standing (used a vs seen_rows) None idle position
      → ((rows : List Row) → none (use_fault false a vs rows) ≡ not (has_row (name_of form s) rows))
      → ((rows : List Row) → used a vs rows ≡ with_values (name_of form s) AsWritten CommandLine (values_of s) (without (name_of form s) rows))
      → AllWalk name form xs → Walks name form seen p position (x ∷ xs) (s ∷ settings_of form xs)
  used_at_once s a vs allowed turn step fails uses more =
      let before = with_pending seen p in
      let q = not (has form (name_of form s) before) in
      let h = held (map (row form) seen) (pend form p) in
      let rest = more (before ++ s ∷ []) None position tt (at_more form position before s place) in
      let passes : none x_turn ≡ (is_new form seen p && q) =
      ap none turn ∙ none_of_either (react_fault (rules_built form) false a vs h) [] ∙ and_true _
      ∙ none_of_either (settle_fault (rules_built form) false h) (use_fault false a vs seen_rows)
      ∙ ap (λ b. b && none (use_fault false a vs seen_rows)) (settle_is form proper seen p pending)
      ∙ after_test (is_new form seen p) _ q (λ new. fails seen_rows ∙ ap not (ap (has_row (name_of form s)) (settled_is form proper seen p pending new) ∙ has_row_is form (name_of form s) before)) in
      let there : (is_new form seen p && q) ≡ true → walked (rules_built form) [] w x ≡ standing (map (row form) (before ++ s ∷ [])) None idle position =
      λ e. let parts = and_parts (is_new form seen p) q e in
      step ∙ ap (λ rows. standing rows None idle position)
      (ap (used a vs) (settled_is form proper seen p pending parts.0) ∙ uses _ ∙ added form before s (not-true _ parts.1)) in
      combined name form w _ x xs (is_new form seen p) q _ _ _ _ passes there rest.0 rest.1
      (ap (λ b. b && (q && fits form (before ++ s ∷ []) (settings_of form xs))) allowed)
      (ap (map (row form)) (append_assoc before (s ∷ []) (settings_of form xs)))

  -- an option whose value is the next word
  option_first : (n : Word) → is_member form.options n ≡ true → long_of x ≡ Some (n, None) → AllWalkAfter name form xs
      → Walks name form seen p position (x ∷ xs) (joined form.options (Flag n ∷ map setting_of xs))
  option_first n is_option is more =
      let found : arg_by_long (rules_built form) n ≡ Some (option_built n) = by_long form n ∙ rw is_option refl in
      let h = held (map (row form) seen) (pend form p) in
      let rest = more (with_pending seen p) n position is_option place in
      let passes : none x_turn ≡ (is_new form seen p && true) =
      ap none (option_turn name form (map (row form) seen) (pend form p) position x no_end n is found) ∙ none_of_either (settle_fault (rules_built form) false h) []
      ∙ ap (λ b. b && true) (settle_is form proper seen p pending) in
      let there : (is_new form seen p && true) ≡ true → walked (rules_built form) [] w x ≡ standing (map (row form) (with_pending seen p)) (Some (n, [])) (option n) position =
      λ e. option_walked name form (map (row form) seen) (pend form p) position x no_end n is found
      ∙ ap (λ rows. standing rows (Some (n, [])) (option n) position) (settled_is form proper seen p pending (and_parts _ _ e).0) in
      combined name form w _ x xs (is_new form seen p) true _ _ _ _ passes there rest.0 rest.1 refl refl

  -- a positional argument
  word_first : long_of x ≡ None → short_of x ≡ None → AllWalk name form xs → Walks name form seen p position (x ∷ xs) (Plain x ∷ settings_of form xs)
  word_first is short more = at_place place
    where
      before : List Setting
      before = with_pending seen p

      at_first : position ≡ 1 → (b : Bool) → is_some form.word ≡ b → Walks name form seen p position (x ∷ xs) (Plain x ∷ settings_of form xs)
      at_first first false missing =
          let found : arg_by_index (rules_built form) position ≡ None = ap (arg_by_index (rules_built form)) first ∙ first_word form ∙ none_mapped form.word missing in
          refused name form w x xs (is_new form seen p) _ _ (stray_turn name form (map (row form) seen) (pend form p) position x no_end is short found)
          (ap (λ b. b && (not (has form (name_of form (Plain x)) (with_pending seen p)) && fits form (with_pending seen p ++ Plain x ∷ []) (settings_of form xs))) missing)
        where
          none_mapped : (o : Option Word) → is_some o ≡ false → option_map word_built o ≡ None
          none_mapped None e = refl
          none_mapped (Some n) e = absurd (true≢false e)
      at_first first true has_word =
          let n = unwrap_or form.word [] in
          let found : arg_by_index (rules_built form) position ≡ Some (word_built n) =
          ap (arg_by_index (rules_built form)) first ∙ first_word form ∙ ap (option_map word_built) (some_is form.word has_word) in
          let rest = more before (Some (Plain x)) 2 has_word (inr (refl, has_last form before (Plain x))) in
          let passes : none x_turn ≡ (is_new form seen p && true) =
          ap none (word_turn name form (map (row form) seen) (pend form p) position x no_end n is short found) ∙ settle_is form proper seen p pending ∙ sym (and_true _) in
          let there : (is_new form seen p && true) ≡ true → walked (rules_built form) [] w x ≡ standing (map (row form) before) (Some (n, x ∷ [])) idle 2 =
          λ e. word_walked name form (map (row form) seen) (pend form p) position x no_end n is short found
          ∙ ap₂ (λ rows k. standing rows (Some (n, x ∷ [])) idle (next_position (word_built n) k)) (settled_is form proper seen p pending (and_parts _ _ e).0) first in
          combined name form w _ x xs (is_new form seen p) true _ _ _ _ passes there rest.0 rest.1
          (ap (λ b. b && (not (has form n before) && fits form (before ++ Plain x ∷ []) (settings_of form xs))) has_word)
          (ap (map (row form)) (append_assoc before (Plain x ∷ []) (settings_of form xs)))

      at_place : IsAt form position (with_pending seen p) → Walks name form seen p position (x ∷ xs) (Plain x ∷ settings_of form xs)
      at_place (inl first) = at_first first (is_some form.word) refl
      at_place (inr second) =
          let found : arg_by_index (rules_built form) position ≡ None = ap (arg_by_index (rules_built form)) second.0 ∙ second_word form in
          refused name form w x xs (is_new form seen p) _ _ (stray_turn name form (map (row form) seen) (pend form p) position x no_end is short found)
          (ap (λ b. is_some form.word && (not b && fits form (with_pending seen p ++ Plain x ∷ []) (settings_of form xs))) second.1 ∙ and_false _)

  abbrev WalksFrom : Setting → Type 0
  WalksFrom s = Walks name form seen p position (x ∷ xs) (joined form.options (s ∷ map setting_of xs))

  abbrev before_rows : List Row
  before_rows = map (row form) seen

  abbrev before_pending : Option (Text × List Text)
  before_pending = pend form p

  -- `--name=value`
  valued : (n v : Text) → long_of x ≡ Some (n, Some v) → AllWalk name form xs
      → (is_option is_flag : Bool) → is_member form.options n ≡ is_option → is_member form.flags n ≡ is_flag → WalksFrom (Value n v)
  valued n v is more true is_flag o f =
      let found : arg_by_long (rules_built form) n ≡ Some (option_built n) = by_long form n ∙ rw o refl in
      used_at_once (Value n v) (option_built n) (v ∷ []) o (option_value_turn name form before_rows before_pending position x no_end n v is found)
      (option_value_walked name form before_rows before_pending position x no_end n v is found) (option_use n v) (λ rows. refl) more
  valued n v is more false true o f =
      let found : arg_by_long (rules_built form) n ≡ Some (flag_built n) = by_long form n ∙ rw (o, f) refl in
      refused name form w x xs (is_new form seen p) _ _ (flag_value_turn name form before_rows before_pending position x no_end n v is found)
      (ap (λ b. b && (not (has form n (with_pending seen p)) && fits form (with_pending seen p ++ Value n v ∷ []) (settings_of form xs))) o)
  valued n v is more false false o f =
      let found : arg_by_long (rules_built form) n ≡ None = by_long form n ∙ rw (o, f) refl in
      refused name form w x xs (is_new form seen p) _ _ (unknown_turn name form before_rows before_pending position x no_end n (Some v) is found)
      (ap (λ b. b && (not (has form n (with_pending seen p)) && fits form (with_pending seen p ++ Value n v ∷ []) (settings_of form xs))) o)

  -- `--name`
  flagged : (n : Text) → long_of x ≡ Some (n, None) → AllWalk name form xs → AllWalkAfter name form xs
      → (is_option is_flag : Bool) → is_member form.options n ≡ is_option → is_member form.flags n ≡ is_flag → WalksFrom (Flag n)
  flagged n is more after true is_flag o f = option_first n o is after
  flagged n is more after false true o f =
      let found : arg_by_long (rules_built form) n ≡ Some (flag_built n) = by_long form n ∙ rw (o, f) refl in
      subst (Walks name form seen p position (x ∷ xs)) (sym (joined_flag form.options n (map setting_of xs) o))
      (used_at_once (Flag n) (flag_built n) [] f (flag_turn name form before_rows before_pending position x no_end n is found)
      (flag_walked name form before_rows before_pending position x no_end n is found) (flag_use n) (λ rows. refl) more)
  flagged n is more after false false o f =
      let found : arg_by_long (rules_built form) n ≡ None = by_long form n ∙ rw (o, f) refl in
      refused name form w x xs (is_new form seen p) _ _ (unknown_turn name form before_rows before_pending position x no_end n None is found)
      (ap (fits form (with_pending seen p)) (joined_flag form.options n (map setting_of xs) o)
      ∙ ap (λ b. b && (not (has form n (with_pending seen p)) && fits form (with_pending seen p ++ Flag n ∷ []) (settings_of form xs))) f)

  unhyphened : long_of x ≡ None → IsUtf8 x → AllWalk name form xs → (s : Option Text) → short_of x ≡ s → WalksFrom (unnamed x)
  unhyphened is utf8 more None short =
      let plain : unnamed x ≡ Plain x = λ i. cond (is_some (short i) || no_end i) (Unknown x) (Plain x) in
      subst WalksFrom (sym plain) (word_first is short more)
  unhyphened is utf8 more (Some flags) short =
      let unknown : unnamed x ≡ Unknown x = λ i. cond (is_some (short i) || bytes_eq x (codes "--")) (Unknown x) (Plain x) in
      subst WalksFrom (sym unknown) (refused name form w x xs (is_new form seen p) _ _
      (short_turn name form before_rows before_pending position x no_end flags is short (short_fails form x flags before_rows before_pending utf8 short)) refl)

  by_long_name : IsUtf8 x → AllWalk name form xs → AllWalkAfter name form xs → (o : Option (Text × Option Text)) → long_of x ≡ o → WalksFrom (setting_of x)
  by_long_name utf8 more after None is =
      subst WalksFrom (sym (ap (λ o. option_map_or (λ q. named q.0 q.1) o (unnamed x)) is)) (unhyphened is utf8 more (short_of x) refl)
  by_long_name utf8 more after (Some (n, Some v)) is =
      subst WalksFrom (sym (ap (λ o. option_map_or (λ q. named q.0 q.1) o (unnamed x)) is)) (valued n v is more (is_member form.options n) (is_member form.flags n) refl refl)
  by_long_name utf8 more after (Some (n, None)) is =
      subst WalksFrom (sym (ap (λ o. option_map_or (λ q. named q.0 q.1) o (unnamed x)) is)) (flagged n is more after (is_member form.options n) (is_member form.flags n) refl refl)

  -- any word
  word_walks : IsUtf8 x → AllWalk name form xs → AllWalkAfter name form xs → Walks name form seen p position (x ∷ xs) (settings_of form (x ∷ xs))
  word_walks utf8 more after = by_long_name utf8 more after (long_of x) refl

-- the word after an option that has no value yet
module _ (name : Word) (form : Form) (proper : is_proper form ≡ true) (y : Text) (ys : List Text) (no_end : bytes_eq y (45 ∷ 45 ∷ []) ≡ false)
    (seen : List Setting) (n : Word) (position : ℕ) (is_option : is_member form.options n ≡ true) (place : IsAt form position seen) where
  abbrev rows_seen : List Row
  rows_seen = map (row form) seen

  abbrev at_value : Walk
  at_value = standing rows_seen (Some (n, [])) (option n) position

  abbrev AfterFrom : Setting → Type 0
  AfterFrom s = WalksAfter name form seen n position (y ∷ ys) (joined form.options (Flag n ∷ s ∷ map setting_of ys))

  -- without a value the option counts as a flag, and no flag has its name
  not_a_flag : (rest : List Setting) → fits form seen (Flag n ∷ rest) ≡ false
  not_a_flag rest = ap (λ b. b && (not (has form n seen) && fits form (seen ++ Flag n ∷ []) rest)) (flags_apart form n proper is_option)

  takes_value : long_of y ≡ None → short_of y ≡ None → AllWalk name form ys → AfterFrom (Plain y)
  takes_value is short more =
      let rest = more seen (Some (Value n y)) position is_option (at_more form position seen (Value n y) place) in
      subst (WalksAfter name form seen n position (y ∷ ys)) (sym (joined_option form.options n y (map setting_of ys) is_option))
      (combined name form at_value _ y ys true true _ _ _ _ (ap none (value_turn name form rows_seen position n y no_end is_option is short))
      (λ e. value_walked name form rows_seen position n y no_end is_option is short) rest.0 rest.1
      (ap (λ b. b && (not (has form n seen) && fits form (seen ++ Value n y ∷ []) (settings_of form ys))) is_option)
      (ap (map (row form)) (append_assoc seen (Value n y ∷ []) (settings_of form ys))))

  after_unhyphened : long_of y ≡ None → IsUtf8 y → AllWalk name form ys → (s : Option Text) → short_of y ≡ s → AfterFrom (unnamed y)
  after_unhyphened is utf8 more None short =
      let plain : unnamed y ≡ Plain y = λ i. cond (is_some (short i) || no_end i) (Unknown y) (Plain y) in
      subst AfterFrom (sym plain) (takes_value is short more)
  after_unhyphened is utf8 more (Some flags) short =
      let unknown : unnamed y ≡ Unknown y = λ i. cond (is_some (short i) || bytes_eq y (codes "--")) (Unknown y) (Plain y) in
      subst AfterFrom (sym unknown) (refused name form at_value y ys true _ _
      (short_after name form rows_seen position n y no_end is_option flags is short (short_fails form y flags rows_seen (Some (n, [])) utf8 short)) (not_a_flag (joined form.options (Unknown y ∷ map setting_of ys))))

  after_by_long : IsUtf8 y → AllWalk name form ys → (o : Option (Text × Option Text)) → long_of y ≡ o → AfterFrom (setting_of y)
  after_by_long utf8 more None is =
      subst AfterFrom (sym (ap (λ o. option_map_or (λ q. named q.0 q.1) o (unnamed y)) is)) (after_unhyphened is utf8 more (short_of y) refl)
  after_by_long utf8 more (Some (m, Some v)) is =
      subst AfterFrom (sym (ap (λ o. option_map_or (λ q. named q.0 q.1) o (unnamed y)) is))
      (refused name form at_value y ys true _ _ (long_after name form rows_seen position n y no_end is_option m (Some v) is) (not_a_flag (joined form.options (Value m v ∷ map setting_of ys))))
  after_by_long utf8 more (Some (m, None)) is =
      subst AfterFrom (sym (ap (λ o. option_map_or (λ q. named q.0 q.1) o (unnamed y)) is))
      (refused name form at_value y ys true _ _ (long_after name form rows_seen position n y no_end is_option m None is) (not_a_flag (joined form.options (Flag m ∷ map setting_of ys))))

  word_walks_after : IsUtf8 y → AllWalk name form ys → WalksAfter name form seen n position (y ∷ ys) (joined form.options (Flag n ∷ map setting_of (y ∷ ys)))
  word_walks_after utf8 more = after_by_long utf8 more (long_of y) refl

-- ---- all words

-- no word is `--`, and each is text
abbrev pub IsWord : Text → Type 0
IsWord word = (bytes_eq word (45 ∷ 45 ∷ []) ≡ false) × IsUtf8 word

abbrev pub AreWords : List Text → Type 0
AreWords words = All IsWord words

none_left : (name : Word) (form : Form) → is_proper form ≡ true → AllWalk name form []
none_left name form proper seen p position pending place = (
  ap none (left_end name form _) ∙ settle_is form proper seen p pending ∙ sym (and_true (is_new form seen p)),
  λ e. settled_is form proper seen p pending (and_parts (is_new form seen p) true e).0 ∙ ap (map (row form)) (sym (append-nil (with_pending seen p))),
)

none_left_after : (name : Word) (form : Form) → is_proper form ≡ true → AllWalkAfter name form []
none_left_after name form proper seen n position is_option place =
    let failed : fits form seen (Flag n ∷ []) ≡ false = ap (λ b. b && (not (has form n seen) && true)) (flags_apart form n proper is_option) in
    (ap none (left_end name form _) ∙ no_value name form (map (row form) seen) position n [] refl is_option ∙ sym failed, λ e. absurd (true≢false (sym e ∙ failed)))

all_walk : (name : Word) (form : Form) → is_proper form ≡ true → (words : List Text) → AreWords words → AllWalk name form words × AllWalkAfter name form words
all_walk name form proper [] are = (none_left name form proper, none_left_after name form proper)
all_walk name form proper (x ∷ xs) are =
    let rest = all_walk name form proper xs (All-tail IsWord x xs are) in
    let first : IsWord x = All-head IsWord x xs are in (
      λ seen p position pending place. word_walks name form proper x xs first.0 seen p position pending place first.1 rest.0 rest.1,
      λ seen n position is_option place. word_walks_after name form proper x xs first.0 seen n position is_option place first.1 rest.0,
    )

-- the walk over a command line passes exactly where its settings fit, and ends with their rows
pub command_walks : (name : Word) (form : Form) → is_proper form ≡ true → (words : List Text) → AreWords words → Walks name form [] None 1 words (settings_of form words)
command_walks name form proper words are = (all_walk name form proper words are).0 [] None 1 tt (inl refl)
