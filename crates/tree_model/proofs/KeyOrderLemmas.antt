-- The keys down to a depth come in key order, so that a map's entries at some of them are read by their keys.
use Rattle.std.proofs.Common.{◌≡◌, ℕ, zero, suc, ◌+◌, ◌^◌, ◌<◌, ◌≤◌, List, [], ◌∷◌, ◌++◌, map, filter, Bool, true, false, cond, Some, None, inl, inr, ltb, eqb, refl, sym, ◌∙◌, ap, arith, Less}
use Rattle.std.specs.List.{flat_map, range_with_len, list_any, AllByRecursion}
use Rattle.std.specs.List.Sorted.{IsStrictlySortedBy}
use Rattle.std.specs.Map.{lookup, keys_of}
use Rattle.std.proofs.lemmas.Bool.{cases_Bool, or_left, or_right, lt-ltb, le-ltb, eq-eqb, cases_lt}
use Rattle.std.proofs.lemmas.List.Folds.{list_any-append}
use Rattle.std.proofs.lemmas.List.Kept.{IsStrictlySortedBy-filter}
use Rattle.tree_key.specs.Keys.{Key, key_cmp}
use Rattle.tree_key.proofs.BoxLemmas.{same_key}
use Rattle.tree_model.specs.Shapes.{keys_on, keys, is_key_of}
use Rattle.tree_model.proofs.BelowLeafLemmas.{key_parts}
use Rattle.tree_model.proofs.LeafOrderLemmas.{all_append, all_flat_map}
use Rattle.tree_model.proofs.SameEntryLemmas.{is_same, same_itself, key_from_same}
use Rattle.tree_model.proofs.RowLemmas.{IsOn, all_range, all_map, all_keys_on}

abbrev AreSorted : List Key → Type 0
AreSorted ks = IsStrictlySortedBy key_cmp ks

below_level : (a b : Key) → a.level < b.level → key_cmp a b ≡ Less
below_level a b lt =
    let yes : ltb a.level b.level ≡ true = lt-ltb a.level b.level lt in
    rw yes refl

before_place : (a b : Key) → a.level ≡ b.level → a.at < b.at → key_cmp a b ≡ Less
before_place a b same lt =
    let not_below : ltb a.level b.level ≡ false = le-ltb a.level b.level (omega arith) in
    let equal : eqb a.level b.level ≡ true = eq-eqb a.level b.level same in
    let yes : ltb a.at b.at ≡ true = lt-ltb a.at b.at lt in
    rw (not_below, equal, yes) refl

-- the keys of a level from one place on
abbrev places : ℕ → ℕ → ℕ → List Key
places level from count = map (λ at. let key : Key = record { level = level; at = at } in key) (range_with_len from count)

sorted_places : (level from count : ℕ) → AreSorted (places level from count)
unfolding IsStrictlySortedBy
sorted_places level from zero = tt
sorted_places level from (suc count) =
    let first : Key = record { level = level; at = from } in (
      all_map (λ other. key_cmp first other ≡ Less) (λ at. let key : Key = record { level = level; at = at } in key) (range_with_len (from + 1) count)
          (all_range (λ at. key_cmp first (record { level = level; at = at }) ≡ Less) (from + 1) count (λ at low high. before_place first (record { level = level; at = at }) refl (omega arith))),
      sorted_places level (from + 1) count,
    )

sorted_append : (xs ys : List Key) → AreSorted xs → AreSorted ys → AllByRecursion (λ x. AllByRecursion (λ y. key_cmp x y ≡ Less) ys) xs → AreSorted (xs ++ ys)
unfolding IsStrictlySortedBy
sorted_append [] ys front back before = back
sorted_append (x ∷ xs) ys front back before =
    (all_append (λ y. key_cmp x y ≡ Less) xs ys front.0 before.0, sorted_append xs ys front.1 back before.1)

-- a key of a level comes before all keys of the levels below it
before_levels : (k : Key) (level from count : ℕ) → IsOn level k → level < from → AllByRecursion (λ other. key_cmp k other ≡ Less) (flat_map keys_on (range_with_len from count))
before_levels k level from count on above =
    all_flat_map (λ other. key_cmp k other ≡ Less) keys_on (range_with_len from count)
    (all_range (λ n. AllByRecursion (λ other. key_cmp k other ≡ Less) (keys_on n)) from count (λ n low high. all_keys_on (λ other. key_cmp k other ≡ Less) n (λ other on_n. below_level k other (omega (arith, on.level, on_n.level)))))

sorted_levels : (from count : ℕ) → AreSorted (flat_map keys_on (range_with_len from count))
unfolding IsStrictlySortedBy
sorted_levels from zero = tt
sorted_levels from (suc count) =
    sorted_append (keys_on from) (flat_map keys_on (range_with_len (from + 1) count)) (sorted_places from 0 (2 ^ from)) (sorted_levels (from + 1) count)
    (all_keys_on (λ k. AllByRecursion (λ other. key_cmp k other ≡ Less) (flat_map keys_on (range_with_len (from + 1) count))) from (λ k on. before_levels k from (from + 1) count on (omega arith)))

ordered_places : (k : Key) (from count : ℕ) → from ≤ k.at → k.at < from + count → list_any (is_same k) (places k.level from count) ≡ true
ordered_places k from zero low high = absurd (omega arith)
ordered_places k from (suc count) low high = elim (cases_lt from k.at) [
  | inl later ↦ or_right (is_same k (record { level = k.level; at = from })) _ (ordered_places k (from + 1) count (omega arith) (omega arith))
  | inr here ↦
      let this : Key = record { level = k.level; at = from } in
      let same : k ≡ this = same_key k this refl (omega arith) in
      or_left (is_same k this) _ (ap (λ other. is_same k other) (sym same) ∙ same_itself k)
]

in_levels : (k : Key) (from count : ℕ) → from ≤ k.level → k.level < from + count → k.at < 2 ^ k.level → list_any (is_same k) (flat_map keys_on (range_with_len from count)) ≡ true
in_levels k from zero low high fits = absurd (omega arith)
in_levels k from (suc count) low high fits =
    list_any-append (is_same k) (keys_on from) (flat_map keys_on (range_with_len (from + 1) count))
    ∙ elim (cases_lt from k.level) [
      | inl later ↦ or_right (list_any (is_same k) (keys_on from)) _ (in_levels k (from + 1) count (omega arith) (omega arith) fits)
      | inr here ↦
          let level : k.level ≡ from = omega arith in
          or_left (list_any (is_same k) (keys_on from)) _ (ap (λ n. list_any (is_same k) (keys_on n)) (sym level) ∙ ordered_places k 0 (2 ^ k.level) (omega arith) (omega arith))
    ]

in_keys : (depth : ℕ) (k : Key) → is_key_of depth k ≡ true → list_any (is_same k) (keys depth) ≡ true
in_keys depth k is =
    let parts = key_parts depth k is in
    in_levels k 0 (depth + 1) (omega arith) (omega (arith, parts.level)) parts.at

-- the entries that a function makes at some of these keys
abbrev made : {X : Type 0} → (Key → Bool) → (Key → X) → List Key → List (Key × X)
made kept value ks = map (λ k. (k, value k)) (filter kept ks)

-- a key that isn't kept isn't found
not_found : {X : Type 0} (kept : Key → Bool) (value : Key → X) (k : Key) (ks : List Key) → kept k ≡ false → lookup (is_same k) (made kept value ks) ≡ None
not_found kept value k [] out = refl
not_found kept value k (x ∷ ks) out = elim (cases_Bool (kept x)) [
  | inl in_it ↦ elim (cases_Bool (is_same k x)) [
    | inl same ↦ let e = ap kept (key_from_same k x same) in absurd cc
    | inr other ↦ rw (in_it, other) (not_found kept value k ks out)
  ]
  | inr dropped ↦ rw dropped (not_found kept value k ks out)
]

-- one that is kept is found, where it is among the keys
found : {X : Type 0} (kept : Key → Bool) (value : Key → X) (k : Key) (ks : List Key) → kept k ≡ true → list_any (is_same k) ks ≡ true → lookup (is_same k) (made kept value ks) ≡ Some (value k)
found kept value k [] is among = absurd cc
found kept value k (x ∷ ks) is among = elim (cases_Bool (is_same k x)) [
  | inl same ↦
      let e = key_from_same k x same in
      let in_it : kept x ≡ true = ap kept (sym e) ∙ is in
      rw (in_it, same) (ap (λ other. Some (value other)) (sym e))
  | inr other ↦
      let rest : list_any (is_same k) ks ≡ true = rw other at among in
      elim (cases_Bool (kept x)) [
        | inl in_it ↦ rw (in_it, other) (found kept value k ks is rest)
        | inr dropped ↦ rw dropped (found kept value k ks is rest)
      ]
]

-- what is found at a key, where only keys of the depth are kept
pub found_there : {X : Type 0} (kept : Key → Bool) (value : Key → X) (depth : ℕ) (k : Key) → (kept k ≡ true → is_key_of depth k ≡ true) → lookup (is_same k) (made kept value (keys depth)) ≡ cond (kept k) (Some (value k)) None
found_there kept value depth k of_depth = elim (cases_Bool (kept k)) [
  | inl is ↦ rw is (found kept value k (keys depth) is (in_keys depth k (of_depth is)))
  | inr out ↦ rw out (not_found kept value k (keys depth) out)
]

keys_made : {X : Type 0} (value : Key → X) (ks : List Key) → keys_of (map (λ k. (k, value k)) ks) ≡ ks
keys_made value [] = refl
keys_made value (k ∷ ks) = ap (λ rest. k ∷ rest) (keys_made value ks)

-- the keys of the entries are in order
pub made_in_order : {X : Type 0} (kept : Key → Bool) (value : Key → X) (depth : ℕ) → IsStrictlySortedBy key_cmp (keys_of (made kept value (keys depth)))
made_in_order kept value depth = rw (keys_made value (filter kept (keys depth))) (IsStrictlySortedBy-filter key_cmp kept (keys depth) (sorted_levels 0 (depth + 1)))
