-- Lemmas that crates above use: one more key of a row: its halves where it is split, and a leaf where it isn't.
use Rattle.std.proofs.Common.{◌≡◌, ℕ, ◌+◌, ◌<◌, List, [], ◌∷◌, ◌++◌, length, map, take, subst, ℤ, Greater, get_or, Bool, true, false, not, cond, ◌&&◌, refl, sym, ◌∙◌, ap, append_assoc, append-nil}
use Rattle.std.specs.List.{flat_map, AllByRecursion}
use Rattle.std.specs.BTreeMap.{insert_entry}
use Rattle.std.proofs.lemmas.List.{take_more, map-append}
use Rattle.std.proofs.lemmas.Grind.{flat_map-append}
use Rattle.std.proofs.lemmas.List.Elements.{filter-append}
use Rattle.tree_key.specs.Keys.{Key, child, key_cmp}
use Rattle.tree_model.specs.Shapes.{is_leaf}
use Rattle.tree_model.specs.Trees.{box_sum}
use Rattle.tree_model.specs.Project.{Projection, is_split, projected_shape, projected}
use Rattle.tree_model.specs.Rows.{row, both, halves, whole_keys, with_sum, leaf_sums_above}
use Rattle.tree_model.proofs.RowLemmas.{shape_child}
use Rattle.tree_model.proofs.LeafOrderLemmas.{IsInRow, all_row, all_at, row_behind, insert_entry_last}

pub halves_split : (depth : ℕ) (p : Projection) (ks : List Key) (k : Key) → is_split depth p k ≡ true → flat_map (halves depth p) (ks ++ k ∷ []) ≡ (flat_map (halves depth p) ks ++ child k false ∷ []) ++ child k true ∷ []
halves_split depth p ks k split =
    flat_map-append (halves depth p) ks (k ∷ [])
    ∙ ap (λ b. flat_map (halves depth p) ks ++ (cond b (both k) [] ++ [])) split
    ∙ sym (append_assoc (flat_map (halves depth p) ks) (child k false ∷ []) (child k true ∷ []))

pub halves_whole : (depth : ℕ) (p : Projection) (ks : List Key) (k : Key) → is_split depth p k ≡ false → flat_map (halves depth p) (ks ++ k ∷ []) ≡ flat_map (halves depth p) ks
halves_whole depth p ks k whole =
    flat_map-append (halves depth p) ks (k ∷ [])
    ∙ ap (λ b. flat_map (halves depth p) ks ++ (cond b (both k) [] ++ [])) whole
    ∙ append-nil (flat_map (halves depth p) ks)

pub whole_keys_split : (depth : ℕ) (p : Projection) (ks : List Key) (k : Key) → is_split depth p k ≡ true → whole_keys depth p (ks ++ k ∷ []) ≡ whole_keys depth p ks
whole_keys_split depth p ks k split =
    filter-append (λ other. not (is_split depth p other)) ks (k ∷ [])
    ∙ ap (λ b. whole_keys depth p ks ++ cond (not b) (k ∷ []) []) split
    ∙ append-nil (whole_keys depth p ks)

pub whole_keys_whole : (depth : ℕ) (p : Projection) (ks : List Key) (k : Key) → is_split depth p k ≡ false → whole_keys depth p (ks ++ k ∷ []) ≡ whole_keys depth p ks ++ k ∷ []
whole_keys_whole depth p ks k whole =
    filter-append (λ other. not (is_split depth p other)) ks (k ∷ [])
    ∙ ap (λ b. whole_keys depth p ks ++ cond (not b) (k ∷ []) []) whole

leaf_of : (shape split below : Bool) → shape ≡ true → split ≡ false → below ≡ (shape && split) → (shape && not below) ≡ true
leaf_of shape split below is whole same = rw (same, is, whole) refl

-- a key of a row that isn't split is a leaf, on the row's level
pub row_leaf : (depth : ℕ) (p : Projection) (level : ℕ) (k : Key) → IsInRow depth p level k → is_split depth p k ≡ false → is_leaf (projected_shape depth p) k ≡ true
row_leaf depth p level k in_row whole =
    leaf_of _ _ _ in_row.shape whole (shape_child depth p k false (rw in_row.on.level in_row.on.at))

pub row_at : (depth : ℕ) (p : Projection) (level i : ℕ) (ks : List Key) (k : Key) → ks ≡ row depth p level → i < length ks → k ≡ get_or ks i k → IsInRow depth p level k
row_at depth p level i ks k is below at =
    let all : AllByRecursion (IsInRow depth p level) ks = subst (AllByRecursion (IsInRow depth p level)) (sym is) (all_row depth p level) in
    subst (IsInRow depth p level) (sym at) (all_at (IsInRow depth p level) ks i k all below)

-- the next key of a row, where it isn't split, is put after the leaves so far
pub leaf_put : (depth : ℕ) (p : Projection) (level i : ℕ) (ks : List Key) (k : Key) (es : List (Key × ℤ)) → ks ≡ row depth p level → i < length ks → k ≡ get_or ks i k → is_split depth p k ≡ false → es ≡ leaf_sums_above (projected depth p) level ++ map (with_sum (projected depth p)) (whole_keys depth p (take i ks)) → insert_entry key_cmp es k (box_sum (projected depth p) k) ≡ leaf_sums_above (projected depth p) level ++ map (with_sum (projected depth p)) (whole_keys depth p (take (i + 1) ks))
leaf_put depth p level i ks k es is below at whole so_far =
    let t = projected depth p in
    let front : List (Key × ℤ) = leaf_sums_above t level in
    let more : take (i + 1) ks ≡ take i ks ++ k ∷ [] = (take_more ks i k below ∙ ap (λ x. take i ks ++ x ∷ []) (sym at)) in
    let all : whole_keys depth p (take (i + 1) ks) ≡ whole_keys depth p (take i ks) ++ k ∷ [] = (ap (whole_keys depth p) more ∙ whole_keys_whole depth p (take i ks) k whole) in
    let P : List Key → Type 0 = λ xs. i < length xs → AllByRecursion (λ e. key_cmp (get_or xs i k) e.0 ≡ Greater) (front ++ map (with_sum t) (whole_keys depth p (take i xs))) in
    let behind_get = subst P (sym is) (row_behind depth p level i k) below in
    let behind = subst (λ x. AllByRecursion (λ e. key_cmp x e.0 ≡ Greater) (front ++ map (with_sum t) (whole_keys depth p (take i ks)))) (sym at) behind_get in
    ap (λ xs. insert_entry key_cmp xs k (box_sum t k)) so_far
    ∙ insert_entry_last (front ++ map (with_sum t) (whole_keys depth p (take i ks))) k (box_sum t k) behind
    ∙ append_assoc front (map (with_sum t) (whole_keys depth p (take i ks))) ((k, box_sum t k) ∷ [])
    ∙ ap (λ xs. front ++ xs) (sym (map-append (with_sum t) (whole_keys depth p (take i ks)) (k ∷ [])) ∙ ap (map (with_sum t)) (sym all))

-- where it is split, the leaves stay
pub leaf_kept : (depth : ℕ) (p : Projection) (i : ℕ) (ks : List Key) (k : Key) → i < length ks → k ≡ get_or ks i k → is_split depth p k ≡ true → whole_keys depth p (take (i + 1) ks) ≡ whole_keys depth p (take i ks)
leaf_kept depth p i ks k below at split =
    ap (whole_keys depth p) (take_more ks i k below ∙ ap (λ x. take i ks ++ x ∷ []) (sym at)) ∙ whole_keys_split depth p (take i ks) k split

pub next_kept : (depth : ℕ) (p : Projection) (i : ℕ) (ks : List Key) (k : Key) → i < length ks → k ≡ get_or ks i k → is_split depth p k ≡ false → flat_map (halves depth p) (take (i + 1) ks) ≡ flat_map (halves depth p) (take i ks)
next_kept depth p i ks k below at whole =
    ap (flat_map (halves depth p)) (take_more ks i k below ∙ ap (λ x. take i ks ++ x ∷ []) (sym at)) ∙ halves_whole depth p (take i ks) k whole

pub next_grown : (depth : ℕ) (p : Projection) (i : ℕ) (ks : List Key) (k : Key) → i < length ks → k ≡ get_or ks i k → is_split depth p k ≡ true → flat_map (halves depth p) (take (i + 1) ks) ≡ (flat_map (halves depth p) (take i ks) ++ child k false ∷ []) ++ child k true ∷ []
next_grown depth p i ks k below at split =
    ap (flat_map (halves depth p)) (take_more ks i k below ∙ ap (λ x. take i ks ++ x ∷ []) (sym at)) ∙ halves_split depth p (take i ks) k split
