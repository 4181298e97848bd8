-- Entries in key order are known from what is found at each key.
use Rattle.std.proofs.Common.{◌≡◌, List, [], ◌∷◌, Bool, true, false, Some, None, inl, inr, Ordering, Less, Equal, Greater, refl, sym, ◌∙◌, ap}
use Rattle.std.specs.BTreeMap.{is_at}
use Rattle.std.specs.Cmp.{eq_by_cmp_equiv}
use Rattle.std.specs.List.Sorted.{IsStrictlySortedBy}
use Rattle.std.specs.Map.{lookup, keys_of}
use Rattle.std.specs.Ordering.{is_eq, ordering_reverse}
use Rattle.std.proofs.lemmas.Bool.{cases_Bool}
use Rattle.std.proofs.lemmas.Cmp.{tied_itself}
use Rattle.std.proofs.lemmas.Map.{lookup-none}
use Rattle.std.proofs.lemmas.Map.Entries.{lookup_head, lookup_tail, none_past_head, none_below_head}
use Rattle.std.proofs.lemmas.Map.Keys.{IsDistinct-from_sorted, sorted_tail}
use Rattle.std.proofs.lemmas.Option.{none-some}
use Rattle.tree_key.specs.Keys.{Key, key_cmp}
use Rattle.tree_key.proofs.OrderLemmas.{keys_total, order_tells_apart}

-- whether two keys are one
abbrev pub is_same : Key → Key → Bool
is_same k other = is_at (key_cmp k) other

pub same_itself : (k : Key) → is_same k k ≡ true
same_itself k = ap is_eq (tied_itself keys_total k)

pub key_from_same : (k other : Key) → is_same k other ≡ true → k ≡ other
key_from_same k other same = order_tells_apart k other (equal-from (key_cmp k other) same)
  where
    equal-from : (o : Ordering) → is_eq o ≡ true → o ≡ Equal
    equal-from Less is = absurd cc
    equal-from Equal is = refl
    equal-from Greater is = absurd cc

-- entries whose keys are in order
abbrev AreInOrder : {X : Type 0} → List (Key × X) → Type 0
AreInOrder es = IsStrictlySortedBy key_cmp (keys_of es)

-- at each key the same is found
abbrev FindAlike : {X : Type 0} → List (Key × X) → List (Key × X) → Type 0
FindAlike es fs = (k : Key) → lookup (is_same k) es ≡ lookup (is_same k) fs

first_found : {X : Type 0} (e : Key × X) (es : List (Key × X)) → lookup (is_same e.0) (e ∷ es) ≡ Some e.1
first_found e es = lookup_head (is_same e.0) e es (same_itself e.0)

-- the first key isn't found again
not_again : {X : Type 0} (k : Key) (e : Key × X) (es : List (Key × X)) → AreInOrder (e ∷ es) → k ≡ e.0 → lookup (is_same k) es ≡ None
not_again k e es ordered same =
    let here : is_same k e.0 ≡ true = ap (is_same k) (sym same) ∙ same_itself k in
    lookup-none (is_same k) es (none_past_head (eq_by_cmp_equiv keys_total) k e es (IsDistinct-from_sorted key_cmp _ ordered) here)

-- the first key of one isn't below that of the other
none_below : {X : Type 0} (d e : Key × X) (ds es : List (Key × X)) → AreInOrder (e ∷ es) → FindAlike (d ∷ ds) (e ∷ es) → key_cmp d.0 e.0 ≡ Less → ⊥
none_below d e ds es ordered alike below =
    let none = lookup-none (is_same d.0) (e ∷ es) (none_below_head keys_total d.0 e es ordered below) in
    none-some d.1 (sym none ∙ sym (alike d.0) ∙ first_found d ds)

first_keys : {X : Type 0} (d e : Key × X) (ds es : List (Key × X)) (order : Ordering) → AreInOrder (d ∷ ds) → AreInOrder (e ∷ es) → FindAlike (d ∷ ds) (e ∷ es) → key_cmp d.0 e.0 ≡ order → d.0 ≡ e.0
first_keys d e ds es Less ordered other alike is = absurd (none_below d e ds es other alike is)
first_keys d e ds es Equal ordered other alike is = order_tells_apart d.0 e.0 is
first_keys d e ds es Greater ordered other alike is =
    absurd (none_below e d es ds ordered (λ k. sym (alike k)) (keys_total.antisymm e.0 d.0 ∙ ap ordering_reverse is))

-- after the first, too
alike_behind : {X : Type 0} (d e : Key × X) (ds es : List (Key × X)) → AreInOrder (d ∷ ds) → AreInOrder (e ∷ es) → FindAlike (d ∷ ds) (e ∷ es) → d.0 ≡ e.0 → FindAlike ds es
alike_behind d e ds es ordered other alike same k = elim (cases_Bool (is_same k d.0)) [
  | inl here ↦
      let is = key_from_same k d.0 here in
      not_again k d ds ordered is ∙ sym (not_again k e es other (is ∙ same))
  | inr later ↦
      let later_too : is_same k e.0 ≡ false = ap (is_same k) (sym same) ∙ later in
      sym (lookup_tail (is_same k) d ds later) ∙ alike k ∙ lookup_tail (is_same k) e es later_too
]

pub same_entries : {X : Type 0} (es fs : List (Key × X)) → AreInOrder es → AreInOrder fs → FindAlike es fs → es ≡ fs
same_entries [] [] ordered other alike = refl
same_entries [] (f ∷ fs) ordered other alike = absurd (none-some f.1 (alike f.0 ∙ first_found f fs))
same_entries (e ∷ es) [] ordered other alike = absurd (none-some e.1 (sym (alike e.0) ∙ first_found e es))
same_entries (e ∷ es) (f ∷ fs) ordered other alike =
    let keys = first_keys e f es fs (key_cmp e.0 f.0) ordered other alike refl in
    let found : Some e.1 ≡ Some f.1 = sym (first_found e es) ∙ alike e.0 ∙ ap (λ k. lookup (is_same k) (f ∷ fs)) keys ∙ first_found f fs in
    let values : e.1 ≡ f.1 = cc in
    let rest = same_entries es fs (sorted_tail key_cmp e.0 (keys_of es) ordered) (sorted_tail key_cmp f.0 (keys_of fs) other) (alike_behind e f es fs ordered other alike keys) in
    λ i. (keys i, values i) ∷ rest i
