-- The leaves of a projected tree come in key order, so that each is put after those before it.
use Rattle.std.proofs.Common.{◌≡◌, ℕ, zero, suc, ◌+◌, ◌<◌, List, [], ◌∷◌, ◌++◌, length, map, filter, take, get_or, Bool, true, false, not, cond, refl, sym, ◌∙◌, ap, arith, ℤ, ltb, eqb, ◌^◌, Greater}
use Rattle.std.specs.List.{flat_map, range_with_len, AllByRecursion}
use Rattle.std.specs.BTreeMap.{insert_entry}
use Rattle.std.proofs.lemmas.Bool.{le-ltb, ne_eqb, eq-eqb}
use Rattle.tree_key.specs.Keys.{Key, key_cmp}
use Rattle.tree_model.specs.Shapes.{is_leaf, keys_on}
use Rattle.tree_model.specs.Project.{Projection, is_split, projected_shape, projected}
use Rattle.tree_model.specs.Rows.{row, whole_keys, with_sum, leaf_sums_above}
use Rattle.tree_model.proofs.ListLemmas.{all_filter}
use Rattle.tree_model.proofs.RowLemmas.{IsOn, all_range, all_map, all_keys_on}

-- an entry whose key is above all others is put last
pub insert_entry_last : {X : Type 0} (es : List (Key × X)) (k : Key) (x : X) → AllByRecursion (λ e. key_cmp k e.0 ≡ Greater) es → insert_entry key_cmp es k x ≡ es ++ (k, x) ∷ []
insert_entry_last [] k x above = refl
insert_entry_last (e ∷ es) k x above = rw above.0 (ap (λ rest. e ∷ rest) (insert_entry_last es k x above.1))

-- each key is before those of greater places
abbrev pub IsRising : List Key → Type 0
IsRising [] = Unit {0}
IsRising (k ∷ ks) = AllByRecursion (λ other. k.at < other.at) ks × IsRising ks

rising_range : (level from count : ℕ) → IsRising (map (λ at. let key : Key = record { level = level; at = at } in key) (range_with_len from count))
rising_range level from zero = tt
rising_range level from (suc count) = (
  all_map (λ other. from < other.at) (λ at. let key : Key = record { level = level; at = at } in key) (range_with_len (from + 1) count) (all_range (λ at. from < at) (from + 1) count (λ at low high. omega arith)),
  rising_range level (from + 1) count,
)

all_implies : {X : Type 0} (P Q : X → Type 0) (xs : List X) → ((x : X) → P x → Q x) → AllByRecursion P xs → AllByRecursion Q xs
all_implies P Q [] each all = tt
all_implies P Q (x ∷ xs) each all = (each x all.0, all_implies P Q xs each all.1)

rising_filter : (keep : Key → Bool) (ks : List Key) → IsRising ks → IsRising (filter keep ks)
rising_filter keep [] rising = tt
rising_filter keep (k ∷ ks) rising = elim (keep k) as (λ b. IsRising (cond b (k ∷ filter keep ks) (filter keep ks))) [
  | true ↦ (all_filter (λ other. k.at < other.at) keep ks (all_implies (λ other. k.at < other.at) (λ other. keep other ≡ true → k.at < other.at) ks (λ other below kept. below) rising.0), rising_filter keep ks rising.1)
  | false ↦ rising_filter keep ks rising.1
]

pub all_at : {X : Type 0} (P : X → Type 0) (xs : List X) (i : ℕ) (d : X) → AllByRecursion P xs → i < length xs → P (get_or xs i d)
all_at P [] i d all below = absurd (omega arith)
all_at P (x ∷ xs) zero d all below = all.0
all_at P (x ∷ xs) (suc i) d all below = all_at P xs i d all.1 (omega arith)

-- those before a place have smaller places
rising_take : (ks : List Key) (i : ℕ) (d : Key) → IsRising ks → i < length ks → AllByRecursion (λ k. k.at < (get_or ks i d).at) (take i ks)
rising_take [] i d rising below = absurd (omega arith)
rising_take (k ∷ ks) zero d rising below = tt
rising_take (k ∷ ks) (suc i) d rising below = (all_at (λ other. k.at < other.at) ks i d rising.0 (omega arith), rising_take ks i d rising.1 (omega arith))

all_take : {X : Type 0} (P : X → Type 0) (xs : List X) (i : ℕ) → AllByRecursion P xs → AllByRecursion P (take i xs)
all_take P [] zero all = tt
all_take P [] (suc i) all = tt
all_take P (x ∷ xs) zero all = tt
all_take P (x ∷ xs) (suc i) all = (all.0, all_take P xs i all.1)

pub all_append : {X : Type 0} (P : X → Type 0) (xs ys : List X) → AllByRecursion P xs → AllByRecursion P ys → AllByRecursion P (xs ++ ys)
all_append P [] ys front back = back
all_append P (x ∷ xs) ys front back = (front.0, all_append P xs ys front.1 back)

pub all_flat_map : {X Y : Type 0} (P : Y → Type 0) (f : X → List Y) (xs : List X) → AllByRecursion (λ x. AllByRecursion P (f x)) xs → AllByRecursion P (flat_map f xs)
all_flat_map P f [] all = tt
all_flat_map P f (x ∷ xs) all = all_append P (f x) (flat_map f xs) all.0 (all_flat_map P f xs all.1)

all_pair : {X : Type 0} (P Q : X → Type 0) (xs : List X) → AllByRecursion P xs → AllByRecursion Q xs → AllByRecursion (λ x. P x × Q x) xs
all_pair P Q [] p q = tt
all_pair P Q (x ∷ xs) p q = ((p.0, q.0), all_pair P Q xs p.1 q.1)

-- the keys of a row lie on its level, in the shape
pub record IsInRow (depth : ℕ) (p : Projection) (n : ℕ) (k : Key) : Type 0 where
  pub on : IsOn n k
  pub shape : projected_shape depth p k ≡ true

all_kept : {X : Type 0} (keep : X → Bool) (xs : List X) → AllByRecursion (λ x. keep x ≡ true) (filter keep xs)
all_kept keep xs = all_filter (λ x. keep x ≡ true) keep xs (each xs)
  where
    each : (ys : List _) → AllByRecursion (λ x. keep x ≡ true → keep x ≡ true) ys
    each [] = tt
    each (y ∷ ys) = ((λ is. is), each ys)

pub all_row : (depth : ℕ) (p : Projection) (level : ℕ) → AllByRecursion (IsInRow depth p level) (row depth p level)
all_row depth p level =
    let shape = projected_shape depth p in
    let on = all_filter (IsOn level) shape (keys_on level) (all_keys_on (λ k. shape k ≡ true → IsOn level k) level (λ k on kept. on)) in
    all_implies (λ k. IsOn level k × (shape k ≡ true)) (IsInRow depth p level) (row depth p level) (λ k is. record { on = is.0; shape = is.1 }) (all_pair (IsOn level) (λ k. shape k ≡ true) (row depth p level) on (all_kept shape (keys_on level)))

above_level : (a b : Key) → b.level < a.level → key_cmp a b ≡ Greater
above_level a b lt =
    let no : ltb a.level b.level ≡ false = le-ltb a.level b.level (omega arith) in
    let other : eqb a.level b.level ≡ false = ne_eqb a.level b.level (λ e. omega arith) in
    rw (no, other) refl

behind_place : (a b : Key) → a.level ≡ b.level → b.at < a.at → key_cmp a b ≡ Greater
behind_place a b same lt =
    let not_below : ltb a.level b.level ≡ false = le-ltb a.level b.level (omega arith) in
    let equal : eqb a.level b.level ≡ true = eq-eqb a.level b.level same in
    let no : ltb a.at b.at ≡ false = le-ltb a.at b.at (omega arith) in
    let other : eqb a.at b.at ≡ false = ne_eqb a.at b.at (λ e. omega arith) in
    rw (not_below, equal, no, other) refl

-- a key of a row comes after all leaves above its level, and after the leaves before it in the row
pub row_behind : (depth : ℕ) (p : Projection) (level i : ℕ) (d : Key) → i < length (row depth p level) → AllByRecursion (λ e. key_cmp (get_or (row depth p level) i d) e.0 ≡ Greater) (leaf_sums_above (projected depth p) level ++ map (with_sum (projected depth p)) (whole_keys depth p (take i (row depth p level))))
row_behind depth p level i d below =
    let t = projected depth p in
    let ks = row depth p level in
    let k = get_or ks i d in
    let k_in = all_at (IsInRow depth p level) ks i d (all_row depth p level) below in
    let is_behind : Key × ℤ → Type 0 = λ e. key_cmp k e.0 ≡ Greater in
    let row_above : (n : ℕ) → n < level → AllByRecursion is_behind (map (with_sum t) (filter (is_leaf t.shape) (keys_on n))) =
    λ n lt. all_map is_behind (with_sum t) (filter (is_leaf t.shape) (keys_on n)) (all_filter (λ other. key_cmp k other ≡ Greater) (is_leaf t.shape) (keys_on n) (all_keys_on (λ other. is_leaf t.shape other ≡ true → key_cmp k other ≡ Greater) n (λ other on kept. above_level k other (omega (arith, on.level, k_in.on.level))))) in
    let above : AllByRecursion is_behind (leaf_sums_above t level) = all_flat_map is_behind (λ n. map (with_sum t) (filter (is_leaf t.shape) (keys_on n))) (range_with_len 0 level) (all_range (λ n. AllByRecursion is_behind (map (with_sum t) (filter (is_leaf t.shape) (keys_on n)))) 0 level (λ n low high. row_above n (omega arith))) in
    let places = rising_take ks i d (rising_filter (projected_shape depth p) (keys_on level) (rising_range level 0 (2 ^ level))) below in
    let levels = all_take (IsInRow depth p level) ks i (all_row depth p level) in
    let before : AllByRecursion (λ other. key_cmp k other ≡ Greater) (take i ks) = all_implies (λ other. (other.at < k.at) × IsInRow depth p level other) (λ other. key_cmp k other ≡ Greater) (take i ks) (λ other is. behind_place k other (k_in.on.level ∙ sym is.1.on.level) is.0) (all_pair (λ other. other.at < k.at) (IsInRow depth p level) (take i ks) places levels) in
    let here = all_map is_behind (with_sum t) (whole_keys depth p (take i ks)) (all_filter (λ other. key_cmp k other ≡ Greater) (λ other. not (is_split depth p other)) (take i ks) (all_implies (λ other. key_cmp k other ≡ Greater) (λ other. not (is_split depth p other) ≡ true → key_cmp k other ≡ Greater) (take i ks) (λ other is kept. is) before)) in
    all_append is_behind (leaf_sums_above t level) (map (with_sum t) (whole_keys depth p (take i ks))) above here
