-- The arguments of a command that `clap` has built of a form, and which of them a name finds.
use Rattle.std.proofs.Common.{◌≡◌, ◌∙◌, ℕ, Bool, true, false, cond, not, ◌&&◌, ◌||◌, List, [], ◌∷◌, ◌++◌, map, Option, Some, None, refl, ap}
use Rattle.std.specs.Prelude.{is_some, find, option_map}
use Rattle.std.specs.List.{list_all, list_any}
use Rattle.std.specs.Str.{bytes_eq}
use Rattle.std.proofs.lemmas.Slice.Eq.{bytes_eq-Decides}
use Rattle.clap.specs.Walk.{Rule, arg_by_id, arg_by_index, arg_by_long, arg_by_short, has_long, has_short}
use Rattle.clap.specs.Simple.{App, Shape, built, filled, filled_from, is_buildable, is_in_order, is_ready, is_ready_leaf, with_index}
use Rattle.clap.specs.Faults.{is_free_app, is_simple_and_free}
use Rattle.command_line.specs.Settings.{Word, Form, is_member}
use Rattle.command_line.specs.Parsing.{option_rule, flag_rule, word_rule, word_rules, rules_of_form, command_of}

-- the arguments as they are built
abbrev pub option_built : Word → Rule
option_built name = with_index 1 (filled (option_rule name))

abbrev pub flag_built : Word → Rule
flag_built name = with_index 1 (filled (flag_rule name))

abbrev pub word_built : Word → Rule
word_built name = with_index 1 (filled (word_rule name))

abbrev pub words_built : Option Word → List Rule
words_built None = []
words_built (Some name) = word_built name ∷ []

abbrev pub rules_built : Form → List Rule
rules_built form = map option_built form.options ++ (map flag_built form.flags ++ words_built form.word)

abbrev pub shape_built : Word → Form → Shape
shape_built name form = record (built (command_of name (record { options = []; flags = []; word = None }))).top { rules = rules_built form }

words_filled : (word : Option Word) → filled_from 1 (word_rules word) ≡ words_built word
words_filled None = refl
words_filled (Some name) = refl

flags_filled : (names : List Word) (rest : List Rule) → filled_from 1 (map flag_rule names ++ rest) ≡ map flag_built names ++ filled_from 1 rest
flags_filled [] rest = refl
flags_filled (n ∷ names) rest = ap (λ rs. flag_built n ∷ rs) (flags_filled names rest)

options_filled : (names : List Word) (rest : List Rule) → filled_from 1 (map option_rule names ++ rest) ≡ map option_built names ++ filled_from 1 rest
options_filled [] rest = refl
options_filled (n ∷ names) rest = ap (λ rs. option_built n ∷ rs) (options_filled names rest)

rules_filled : (form : Form) → filled_from 1 (rules_of_form form) ≡ rules_built form
rules_filled form =
    options_filled form.options _
    ∙ ap (λ rs. map option_built form.options ++ rs) (flags_filled form.flags _ ∙ ap (λ rs. map flag_built form.flags ++ rs) (words_filled form.word))

pub built_is : (name : Word) (form : Form) → built (command_of name form) ≡ record { top = shape_built name form; subs = [] }
built_is name form = ap (λ rs. record { top = record (shape_built name form) { rules = rs }; subs = [] }) (rules_filled form)

-- ---- the command is simple

all_mapped : (p : Rule → Bool) (f : Word → Rule) → ((name : Word) → p (f name) ≡ true) → (names : List Word) (rest : List Rule) → list_all p (map f names ++ rest) ≡ list_all p rest
all_mapped p f holds [] rest = refl
all_mapped p f holds (n ∷ names) rest = rw (holds n) (all_mapped p f holds names rest)

none_mapped : (p : Rule → Bool) (f : Word → Rule) → ((name : Word) → p (f name) ≡ false) → (names : List Word) (rest : List Rule) → list_any p (map f names ++ rest) ≡ list_any p rest
none_mapped p f holds [] rest = refl
none_mapped p f holds (n ∷ names) rest = rw (holds n) (none_mapped p f holds names rest)

-- a test that each argument of a form passes, or fails
pub each_built : (p : Rule → Bool) → ((name : Word) → p (option_built name) ≡ true) → ((name : Word) → p (flag_built name) ≡ true) → ((name : Word) → p (word_built name) ≡ true)
    → (form : Form) → list_all p (rules_built form) ≡ true
each_built p option flag word form = all_mapped p option_built option form.options _ ∙ (all_mapped p flag_built flag form.flags _ ∙ last form.word)
  where
    last : (o : Option Word) → list_all p (words_built o) ≡ true
    last None = refl
    last (Some name) = rw (word name) refl

pub no_built : (p : Rule → Bool) → ((name : Word) → p (option_built name) ≡ false) → ((name : Word) → p (flag_built name) ≡ false) → ((name : Word) → p (word_built name) ≡ false)
    → (form : Form) → list_any p (rules_built form) ≡ false
no_built p option flag word form = none_mapped p option_built option form.options _ ∙ (none_mapped p flag_built flag form.flags _ ∙ last form.word)
  where
    last : (o : Option Word) → list_any p (words_built o) ≡ false
    last None = refl
    last (Some name) = rw (word name) refl

each_rule : (p : Rule → Bool) → ((name : Word) → p (option_rule name) ≡ true) → ((name : Word) → p (flag_rule name) ≡ true) → ((name : Word) → p (word_rule name) ≡ true)
    → (form : Form) → list_all p (rules_of_form form) ≡ true
each_rule p option flag word form = all_mapped p option_rule option form.options _ ∙ (all_mapped p flag_rule flag form.flags _ ∙ last form.word)
  where
    last : (o : Option Word) → list_all p (word_rules o) ≡ true
    last None = refl
    last (Some name) = rw (word name) refl

pub is_simple_command : (name : Word) (form : Form) → is_simple_and_free (command_of name form) ≡ true
is_simple_command name form =
    let simple : list_all (λ a. a.is_simple) (rules_of_form form) ≡ true = each_rule (λ a. a.is_simple) (λ n. refl) (λ n. refl) (λ n. refl) form in
    let simple_built : list_all (λ a. a.is_simple) (rules_built form) ≡ true = each_built (λ a. a.is_simple) (λ n. refl) (λ n. refl) (λ n. refl) form in
    let free_built : list_all (λ a. a.is_free) (rules_built form) ≡ true = each_built (λ a. a.is_free) (λ n. refl) (λ n. refl) (λ n. refl) form in
    let in_order : is_in_order (rules_built form) ≡ true = ap not (no_built _ (λ n. refl) (λ n. refl) (λ n. refl) form) in
    ap (λ (b : App). (is_buildable (command_of name form) && (is_ready b.top && list_all is_ready_leaf b.subs)) && is_free_app b) (built_is name form)
    ∙ (λ i. ((simple i && true) && ((simple_built i && in_order i) && true)) && (free_built i && true))

-- ---- which argument a name finds

pub same_name : (a b : Word) → bytes_eq a b ≡ true → a ≡ b
same_name a b e = (bytes_eq-Decides a b).0 e

or_false : (b : Bool) → (b || false) ≡ b
or_false true = refl
or_false false = refl

-- the first of the named arguments that passes, where one passes just by its name
find_mapped : (p : Rule → Bool) (f : Word → Rule) (name : Word) → ((n : Word) → p (f n) ≡ bytes_eq n name) → (names : List Word) (rest : List Rule)
    → find p (map f names ++ rest) ≡ cond (is_member names name) (Some (f name)) (find p rest)
find_mapped p f name same [] rest = refl
find_mapped p f name same (n ∷ names) rest = rw (same n) (go (bytes_eq n name) refl (find_mapped p f name same names rest))
  where
    go : (b : Bool) → bytes_eq n name ≡ b → find p (map f names ++ rest) ≡ cond (is_member names name) (Some (f name)) (find p rest)
        → cond b (Some (f n)) (find p (map f names ++ rest)) ≡ cond (b || is_member names name) (Some (f name)) (find p rest)
    go true e more = ap (λ (m : Word). Some (f m)) (same_name n name e)
    go false e more = more

find_none : (p : Rule → Bool) (f : Word → Rule) → ((n : Word) → p (f n) ≡ false) → (names : List Word) (rest : List Rule) → find p (map f names ++ rest) ≡ find p rest
find_none p f none [] rest = refl
find_none p f none (n ∷ names) rest = rw (none n) (find_none p f none names rest)

abbrev pub long_rule : Form → Word → Option Rule
long_rule form name = cond (is_member form.options name) (Some (option_built name)) (cond (is_member form.flags name) (Some (flag_built name)) None)

pub by_long : (form : Form) (name : Word) → arg_by_long (rules_built form) name ≡ long_rule form name
by_long form name =
    let p : Rule → Bool = λ a. not (is_some a.index) && has_long a name in
    let tail : find p (words_built form.word) ≡ None = last form.word in
    find_mapped p option_built name (λ n. or_false (bytes_eq n name)) form.options _
    ∙ ap (cond (is_member form.options name) (Some (option_built name))) (find_mapped p flag_built name (λ n. or_false (bytes_eq n name)) form.flags _
    ∙ ap (cond (is_member form.flags name) (Some (flag_built name))) tail)
  where
    last : (o : Option Word) → find (λ a. not (is_some a.index) && has_long a name) (words_built o) ≡ None
    last None = refl
    last (Some n) = refl

pub by_short : (form : Form) (x : ℕ) → arg_by_short (rules_built form) x ≡ None
by_short form x =
    let p : Rule → Bool = λ a. not (is_some a.index) && has_short a x in
    find_none p option_built (λ n. refl) form.options _ ∙ (find_none p flag_built (λ n. refl) form.flags _ ∙ last form.word)
  where
    last : (o : Option Word) → find (λ a. not (is_some a.index) && has_short a x) (words_built o) ≡ None
    last None = refl
    last (Some n) = refl

abbrev pub id_rule : Form → Word → Option Rule
id_rule form name = cond (is_member form.options name) (Some (option_built name)) (cond (is_member form.flags name) (Some (flag_built name)) (find (λ a. bytes_eq a.id name) (words_built form.word)))

by_id : (form : Form) (name : Word) → arg_by_id (rules_built form) name ≡ id_rule form name
by_id form name =
    let p : Rule → Bool = λ a. bytes_eq a.id name in
    find_mapped p option_built name (λ n. refl) form.options _
    ∙ ap (cond (is_member form.options name) (Some (option_built name))) (find_mapped p flag_built name (λ n. refl) form.flags _)

pub option_by_id : (form : Form) (name : Word) → is_member form.options name ≡ true → arg_by_id (rules_built form) name ≡ Some (option_built name)
option_by_id form name is = by_id form name ∙ rw is refl

-- the word's name is no other's
pub word_by_id : (form : Form) (name : Word) → is_member form.options name ≡ false → is_member form.flags name ≡ false → form.word ≡ Some name
    → arg_by_id (rules_built form) name ≡ Some (word_built name)
word_by_id form name option flag is = by_id form name ∙ rw (option, flag, is, (bytes_eq-Decides name name).1 refl) refl

-- the first word that is no option has an argument, where the form has one, and no later word has
pub first_word : (form : Form) → arg_by_index (rules_built form) 1 ≡ option_map word_built form.word
first_word form = find_none _ option_built (λ n. refl) form.options _ ∙ (find_none _ flag_built (λ n. refl) form.flags _ ∙ last form.word)
  where
    last : (o : Option Word) → arg_by_index (words_built o) 1 ≡ option_map word_built o
    last None = refl
    last (Some n) = refl

pub second_word : (form : Form) → arg_by_index (rules_built form) 2 ≡ None
second_word form = find_none _ option_built (λ n. refl) form.options _ ∙ (find_none _ flag_built (λ n. refl) form.flags _ ∙ last form.word)
  where
    last : (o : Option Word) → arg_by_index (words_built o) 2 ≡ None
    last None = refl
    last (Some n) = refl
