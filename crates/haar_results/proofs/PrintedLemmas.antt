-- The lines of a whole tree, level by level, are what `print` writes.
use Rattle.std.proofs.Common.{◌≡◌, ℕ, zero, suc, ◌+◌, ◌*◌, ◌^◌, ◌<◌, ◌≤◌, Bool, true, false, List, [], ◌∷◌, ◌++◌, map, refl, sym, ap, ◌∙◌, subst, arith, append_assoc, append-nil}
use Rattle.std.specs.Prelude.{◌&&◌, not, nat_le, nat_lt, filter, codes}
use Rattle.std.specs.Fmt.{signed_decimal}
use Rattle.std.specs.List.{flat_map, range_with_len}
use Rattle.std.proofs.lemmas.Grind.{flat_map-append}
use Rattle.std.proofs.lemmas.List.Elements.{filter-append}
use Rattle.std.proofs.lemmas.Bool.{and_parts, false_from_ne_true, leb-true}
use Rattle.tree_key.specs.Keys.{Key, root, child}
use Rattle.tree_model.specs.Nodes.{Form}
use Rattle.tree_model.specs.Nodes.Form.{Reconstructed, Compressed}
use Rattle.tree_model.specs.OperationTexts.{printed_lines}
use Rattle.tree_model.specs.Shapes.{IsShape, is_key_of, is_leaf, is_interior, keys_on, keys}
use Rattle.tree_model.specs.Trees.{Tree, IsTree, box_sum}
use Rattle.haar_meaning.specs.Printed.{keys_below, has_line, line_of, lines_below, heading_of, row_at, AreLinesOf, AreTreeLines, TreeLinesArePrinted}

-- rows that are those of numbers from one on, and are empty from some number on

none_from : (f : ℕ → List ℕ) (at n : ℕ) → ((l : ℕ) → f (at + l) ≡ []) → flat_map f (range_with_len at n) ≡ []
none_from f at zero none = refl
none_from f at (suc n) none =
    let here : f at ≡ [] = subst (λ (m : ℕ). f m ≡ []) (omega arith) (none 0) in
    let more = none_from f (at + 1) n (λ l. subst (λ (m : ℕ). f m ≡ []) (omega arith) (none (suc l))) in
    (λ i. here i ++ more i)

rows_joined : (rows : List (List ℕ)) (f : ℕ → List ℕ) (at n : ℕ) → ((l : ℕ) → row_at rows l ≡ f (at + l)) → ((l : ℕ) → n ≤ l → f (at + l) ≡ []) → flat_map (λ row. row) rows ≡ flat_map f (range_with_len at n)
rows_joined [] f at n each last = sym (none_from f at n (λ l. sym (each l)))
rows_joined (row ∷ rows) f at zero each last =
    let here : row ≡ [] = each 0 ∙ last 0 (omega arith) in
    let more = rows_joined rows f (at + 1) zero (λ l. each (suc l) ∙ ap f (omega arith)) (λ l le. ap f (omega arith) ∙ last (suc l) (omega arith)) in
    (λ i. here i ++ more i)
rows_joined (row ∷ rows) f at (suc n) each last =
    let same : at + 0 ≡ at = omega arith in
    let here : row ≡ f at = each 0 ∙ ap f same in
    let more = rows_joined rows f (at + 1) n (λ l. each (suc l) ∙ ap f (omega arith)) (λ l le. ap f (omega arith) ∙ last (suc l) (omega (arith, le))) in
    (λ i. here i ++ more i)

-- the lines of the keys of levels, level by level
level_by_level : (line : Key → List ℕ) (test : Key → Bool) (on : ℕ → List Key) (levels : List ℕ) → flat_map line (filter test (flat_map on levels)) ≡ flat_map (λ l. flat_map line (filter test (on l))) levels
level_by_level line test on [] = refl
level_by_level line test on (l ∷ levels) =
    ap (flat_map line) (filter-append test (on l) (flat_map on levels))
    ∙ flat_map-append line (filter test (on l)) (filter test (flat_map on levels))
    ∙ ap (λ (more : List ℕ). flat_map line (filter test (on l)) ++ more) (level_by_level line test on levels)

-- the root's level is 0
level_keys : (levels : ℕ) → keys_below root levels ≡ keys_on levels
level_keys levels = go (range_with_len 0 (2 ^ levels))
  where
    go : (places : List ℕ) → map {B = Key} (λ i. record { level = root.level + levels; at = root.at * 2 ^ levels + i }) places ≡ map {B = Key} (λ at. record { level = levels; at = at }) places
    go [] = refl
    go (i ∷ places) =
        let level : 0 + levels ≡ levels = omega arith in
        let at : 0 * 2 ^ levels + i ≡ i = omega arith in
        (λ j. record { level = level j; at = at j } ∷ go places j)

-- no key below the depth has a line
no_line : (form : Form) (t : Tree) (k : Key) → IsTree t → t.depth < k.level → has_line form t k ≡ false
no_line form t k tree deep = go form
  where
    outside : t.shape k ≡ false
    outside = false_from_ne_true (t.shape k) (λ inside. absurd (
        let key = tree.shape.keys k inside in
        let low = leb-true k.level t.depth (and_parts (nat_le k.level t.depth) (nat_lt k.at (2 ^ k.level)) key).0 in
        omega (arith, low, deep)))

    go : (form : Form) → has_line form t k ≡ false
    go Reconstructed = ap (λ (b : Bool). b && not (t.shape (child k false))) outside
    go Compressed = ap (λ (b : Bool). b && t.shape (child k false)) outside

none_pass : (test : Key → Bool) (level : ℕ) (places : List ℕ) → ((at : ℕ) → test (record { level = level; at = at }) ≡ false) → filter test (map {B = Key} (λ at. record { level = level; at = at }) places) ≡ []
none_pass test level [] none = refl
none_pass test level (at ∷ places) none = rw (none at) (none_pass test level places none)

abbrev level_lines : Form → Tree → ℕ → List ℕ
level_lines form t l = flat_map (line_of form t) (filter (has_line form t) (keys_on l))

all_levels : (form : Form) (t : Tree) (rows : List (List ℕ)) → IsTree t → AreLinesOf form t root rows → flat_map (λ row. row) rows ≡ flat_map (line_of form t) (filter (has_line form t) (keys t.depth))
all_levels form t rows tree are =
    rows_joined rows (level_lines form t) 0 (t.depth + 1)
    (λ l. are l ∙ ap (λ (ks : List Key). flat_map (line_of form t) (filter (has_line form t) ks)) (level_keys l) ∙ ap (level_lines form t) (omega arith))
    (λ l le. ap (flat_map (line_of form t)) (none_pass (has_line form t) (0 + l) (range_with_len 0 (2 ^ (0 + l))) (λ at. no_line form t (record { level = 0 + l; at = at }) tree (omega (arith, le)))))
    ∙ sym (level_by_level (line_of form t) (has_line form t) keys_on (range_with_len 0 (t.depth + 1)))

pub tree_lines_printed : TreeLinesArePrinted
tree_lines_printed form name t rows tree are =
    ap (flat_map (λ row. row)) are.parts
    ∙ ap (λ (more : List ℕ). heading_of form name t ++ more) (all_levels form t are.keys tree are.lines)
    ∙ go form
  where
    go : (form : Form) → heading_of form name t ++ flat_map (line_of form t) (filter (has_line form t) (keys t.depth)) ≡ printed_lines form name t
    go Reconstructed = simp append_assoc
    go Compressed = simp append_assoc
