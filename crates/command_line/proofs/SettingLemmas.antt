-- Settings one after another: each is taken where the command has it, and none before it goes by its name.
use Rattle.std.proofs.Common.{◌≡◌, ◌∙◌, Bool, true, false, cond, not, ◌&&◌, ◌||◌, List, [], ◌∷◌, ◌++◌, map, Some, codes, inl, inr, refl, sym, ap, ap₂}
use Rattle.std.specs.List.{list_all, list_any}
use Rattle.std.proofs.lemmas.Bool.{and_parts, and_right, not-true, or_cases, or_left, or_parts, or_right, true≢false}
use Rattle.std.proofs.lemmas.Bool.Decides.{same_from_decides}
use Rattle.std.proofs.lemmas.Slice.Eq.{bytes_eq-Decides}
use Rattle.std.specs.Str.{bytes_eq}
use Rattle.std.proofs.lemmas.List.Folds.{list_any-append}
use Rattle.command_line.specs.Settings.{Word, Form, Setting, are_different, are_taken, has, is_allowed, is_member, joined, name_of, setting_of, settings_of}
use Rattle.command_line.specs.Settings.Setting.{Value, Flag, Plain, Unknown}
use Rattle.command_line.specs.Parsing.{is_proper, words_of}

-- these settings are taken after those seen before them
abbrev pub fits : Form → List Setting → List Setting → Bool
fits form seen [] = true
fits form seen (s ∷ ss) = is_allowed form s && (not (has form (name_of form s) seen) && fits form (seen ++ s ∷ []) ss)

-- none of these goes by the name of one of those
abbrev are_fresh : Form → List Setting → List Setting → Bool
are_fresh form seen ss = list_all (λ s. not (has form (name_of form s) seen)) ss

none_of_none : (form : Form) (ss : List Setting) → are_fresh form [] ss ≡ true
none_of_none form [] = refl
none_of_none form (s ∷ ss) = none_of_none form ss

-- fresh of those and of one more
one_more : (form : Form) (seen : List Setting) (t : Setting) (ss : List Setting)
    → are_fresh form (seen ++ t ∷ []) ss ≡ (are_fresh form seen ss && not (list_any (bytes_eq (name_of form t)) (map (name_of form) ss)))
one_more form seen t [] = refl
one_more form seen t (s ∷ ss) =
    ap₂ (λ a b. not a && b) (list_any-append (λ x. bytes_eq (name_of form x) (name_of form s)) seen (t ∷ [])) (one_more form seen t ss)
    ∙ go (has form (name_of form s) seen) (bytes_eq (name_of form t) (name_of form s)) (are_fresh form seen ss) (list_any (bytes_eq (name_of form t)) (map (name_of form) ss))
  where
    go : (p q r s : Bool) → (not (p || (q || false)) && (r && not s)) ≡ ((not p && r) && not (q || s))
    go true q r s = refl
    go false true true s = refl
    go false true false s = refl
    go false false r s = refl

regroup : (a h aa d f n : Bool) → (a && (h && (aa && (d && (f && n))))) ≡ ((a && aa) && ((n && d) && (h && f)))
regroup false h aa d f n = refl
regroup true false false d f n = refl
regroup true false true true f true = refl
regroup true false true true f false = refl
regroup true false true false f true = refl
regroup true false true false f false = refl
regroup true true false d f n = refl
regroup true true true true true true = refl
regroup true true true true true false = refl
regroup true true true true false true = refl
regroup true true true true false false = refl
regroup true true true false f true = refl
regroup true true true false f false = refl

fits_is : (form : Form) (seen ss : List Setting) → fits form seen ss ≡ (list_all (is_allowed form) ss && (are_different (map (name_of form) ss) && are_fresh form seen ss))
fits_is form seen [] = refl
fits_is form seen (s ∷ ss) =
    let a = is_allowed form s in
    let h = not (has form (name_of form s) seen) in
    let aa = list_all (is_allowed form) ss in
    let d = are_different (map (name_of form) ss) in
    ap (λ r. a && (h && r)) (fits_is form (seen ++ s ∷ []) ss ∙ ap (λ f. aa && (d && f)) (one_more form seen s ss))
    ∙ regroup a h aa d (are_fresh form seen ss) (not (list_any (bytes_eq (name_of form s)) (map (name_of form) ss)))

and_true : (b : Bool) → (b && true) ≡ b
and_true true = refl
and_true false = refl

-- the settings of a command line are taken where each is taken after those before it
pub taken_is : (form : Form) (ss : List Setting) → fits form [] ss ≡ are_taken form ss
taken_is form ss =
    fits_is form [] ss ∙ ap (λ f. list_all (is_allowed form) ss && (are_different (map (name_of form) ss) && f)) (none_of_none form ss)
    ∙ ap (λ d. list_all (is_allowed form) ss && d) (and_true (are_different (map (name_of form) ss)))

-- ---- the names of a form are different

bytes_eq-sym : (a b : Word) → bytes_eq a b ≡ bytes_eq b a
bytes_eq-sym a b =
    same_from_decides (bytes_eq a b) (bytes_eq b a) (bytes_eq-Decides a b) (λ t. sym ((bytes_eq-Decides b a).0 t), λ e. (bytes_eq-Decides b a).1 (sym e))

any_turned : (name : Word) (names : List Word) → list_any (bytes_eq name) names ≡ is_member names name
any_turned name [] = refl
any_turned name (n ∷ names) = ap₂ (λ a b. a || b) (bytes_eq-sym name n) (any_turned name names)

different_rest : (xs ys : List Word) → are_different (xs ++ ys) ≡ true → are_different ys ≡ true
different_rest [] ys e = e
different_rest (x ∷ xs) ys e = different_rest xs ys (and_parts _ _ e).1

-- a name of the first list is none of the second
members_apart : (xs ys : List Word) (name : Word) → are_different (xs ++ ys) ≡ true → is_member xs name ≡ true → is_member ys name ≡ false
members_apart [] ys name e is = absurd (true≢false (sym is))
members_apart (x ∷ xs) ys name e is = go (bytes_eq x name) refl is (members_apart xs ys name (and_parts _ _ e).1)
  where
    none : list_any (bytes_eq x) (xs ++ ys) ≡ false
    none = not-true _ (and_parts _ _ e).0

    go : (b : Bool) → bytes_eq x name ≡ b → (b || is_member xs name) ≡ true → (is_member xs name ≡ true → is_member ys name ≡ false) → is_member ys name ≡ false
    go true same is more =
        let of_x : list_any (bytes_eq x) ys ≡ false = (or_parts _ _ (sym (list_any-append (bytes_eq x) xs ys) ∙ none)).1 in
        sym (any_turned name ys) ∙ ap (λ (n : Word). list_any (bytes_eq n) ys) (sym ((bytes_eq-Decides x name).0 same)) ∙ of_x
    go false same is more = more is

pub flags_apart : (form : Form) (name : Word) → is_proper form ≡ true → is_member form.options name ≡ true → is_member form.flags name ≡ false
flags_apart form name proper is =
    let apart = members_apart form.options _ name proper is in
    (or_parts _ _ (sym (list_any-append (λ n. bytes_eq n name) form.flags (words_of form.word)) ∙ apart)).0

-- the name of the word is no option's and no flag's
pub word_apart : (form : Form) (name : Word) → is_proper form ≡ true → form.word ≡ Some name → (is_member form.options name ≡ false) × (is_member form.flags name ≡ false)
word_apart form name proper is = (by_options (is_member form.options name) refl, by_flags (is_member form.flags name) refl)
  where
    last : is_member (words_of form.word) name ≡ true
    last = ap (λ o. is_member (words_of o) name) is ∙ ap (λ b. b || false) ((bytes_eq-Decides name name).1 refl)

    behind : is_member (form.flags ++ words_of form.word) name ≡ true
    behind = list_any-append (λ n. bytes_eq n name) form.flags (words_of form.word) ∙ or_right _ _ last

    by_options : (b : Bool) → is_member form.options name ≡ b → is_member form.options name ≡ false
    by_options true e = absurd (true≢false (sym behind ∙ members_apart form.options _ name proper e))
    by_options false e = e

    by_flags : (b : Bool) → is_member form.flags name ≡ b → is_member form.flags name ≡ false
    by_flags true e = absurd (true≢false (sym last ∙ members_apart form.flags _ name (different_rest form.options _ proper) e))
    by_flags false e = e

-- ---- options and the words after them

pub joined_flag : (options : List Word) (name : Word) (rest : List Setting) → is_member options name ≡ false → joined options (Flag name ∷ rest) ≡ Flag name ∷ joined options rest
joined_flag options name [] none = refl
joined_flag options name (Value n v ∷ rest) none = refl
joined_flag options name (Flag n ∷ rest) none = refl
joined_flag options name (Plain w ∷ rest) none = rw none refl
joined_flag options name (Unknown w ∷ rest) none = refl

pub joined_option : (options : List Word) (name word : Word) (rest : List Setting) → is_member options name ≡ true
    → joined options (Flag name ∷ Plain word ∷ rest) ≡ Value name word ∷ joined options rest
joined_option options name word rest is = rw is refl

pub has_more : (form : Form) (name : Word) (seen : List Setting) (s : Setting) → has form name seen ≡ true → has form name (seen ++ s ∷ []) ≡ true
has_more form name seen s is = list_any-append (λ t. bytes_eq (name_of form t) name) seen (s ∷ []) ∙ or_left _ _ is

pub has_last : (form : Form) (seen : List Setting) (s : Setting) → has form (name_of form s) (seen ++ s ∷ []) ≡ true
has_last form seen s =
    list_any-append (λ t. bytes_eq (name_of form t) (name_of form s)) seen (s ∷ []) ∙ or_right _ _ (ap (λ b. b || false) ((bytes_eq-Decides (name_of form s) (name_of form s)).1 refl))

-- ---- a word that no command has

abbrev is_unknown : Setting → Bool
is_unknown (Unknown w) = true
is_unknown (Value n v) = false
is_unknown (Flag n) = false
is_unknown (Plain w) = false

not_allowed : (form : Form) (s : Setting) (ss more : List Setting) → (is_unknown s || list_any is_unknown ss) ≡ true
    → (list_any is_unknown ss ≡ true → list_all (is_allowed form) more ≡ false) → list_all (is_allowed form) (s ∷ more) ≡ false
not_allowed form (Unknown w) ss more e rest = refl
not_allowed form (Value n v) ss more e rest = and_right (is_member form.options n) _ (rest e)
not_allowed form (Flag n) ss more e rest = and_right (is_member form.flags n) _ (rest e)
not_allowed form (Plain w) ss more e rest = and_right (is_allowed form (Plain w)) _ (rest e)

unknown_stays : (form : Form) (ss : List Setting) → list_any is_unknown ss ≡ true → list_all (is_allowed form) (joined form.options ss) ≡ false
unknown_stays form [] e = absurd (true≢false (sym e))
unknown_stays form (Flag n ∷ Plain w ∷ ss) e = go (is_member form.options n) refl (unknown_stays form ss e)
  where
    go : (b : Bool) → is_member form.options n ≡ b → list_all (is_allowed form) (joined form.options ss) ≡ false
        → list_all (is_allowed form) (cond b (Value n w ∷ joined form.options ss) (Flag n ∷ Plain w ∷ joined form.options ss)) ≡ false
    go true is more = and_right (is_member form.options n) _ more
    go false is more = and_right (is_member form.flags n) _ (and_right (is_allowed form (Plain w)) _ more)
unknown_stays form (Flag n ∷ []) e = absurd (true≢false (sym e))
unknown_stays form (Flag n ∷ Value m v ∷ ss) e = not_allowed form (Flag n) (Value m v ∷ ss) (joined form.options (Value m v ∷ ss)) e (unknown_stays form (Value m v ∷ ss))
unknown_stays form (Flag n ∷ Flag m ∷ ss) e = not_allowed form (Flag n) (Flag m ∷ ss) (joined form.options (Flag m ∷ ss)) e (unknown_stays form (Flag m ∷ ss))
unknown_stays form (Flag n ∷ Unknown w ∷ ss) e = not_allowed form (Flag n) (Unknown w ∷ ss) (joined form.options (Unknown w ∷ ss)) e (unknown_stays form (Unknown w ∷ ss))
unknown_stays form (Value n v ∷ ss) e = not_allowed form (Value n v) ss _ e (unknown_stays form ss)
unknown_stays form (Plain w ∷ ss) e = not_allowed form (Plain w) ss _ e (unknown_stays form ss)
unknown_stays form (Unknown w ∷ ss) e = not_allowed form (Unknown w) ss _ e (unknown_stays form ss)

-- no command takes `--`
pub end_refused : (form : Form) (words : List Word) → list_any (λ word. bytes_eq word (codes "--")) words ≡ true → are_taken form (settings_of form words) ≡ false
end_refused form words some = ap (λ b. b && are_different (map (name_of form) (settings_of form words))) (unknown_stays form (map setting_of words) (unknown words some))
  where
    unknown : (ws : List Word) → list_any (λ word. bytes_eq word (codes "--")) ws ≡ true → list_any is_unknown (map setting_of ws) ≡ true
    unknown [] e = e
    unknown (w ∷ ws) e = elim (or_cases (bytes_eq w (codes "--")) _ e) [
      | inl here ↦ ap (λ (v : Word). is_unknown (setting_of v) || list_any is_unknown (map setting_of ws)) ((bytes_eq-Decides w (codes "--")).0 here)
      | inr later ↦ or_right (is_unknown (setting_of w)) _ (unknown ws later)
    ]
