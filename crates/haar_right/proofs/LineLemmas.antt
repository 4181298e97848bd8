-- The lines of the keys in a box, from those of its halves.
use Rattle.std.proofs.Common.{◌≡◌, ℕ, zero, suc, ◌+◌, ◌*◌, ◌^◌, Bool, true, false, List, [], ◌∷◌, ◌++◌, refl, sym, ap, ◌∙◌, arith, append-nil, append_assoc}
use Rattle.std.specs.Prelude.{◌&&◌, not, if◌then◌else◌, filter, map}
use Rattle.std.specs.List.{flat_map, range_with_len}
use Rattle.std.proofs.lemmas.List.{map-append}
use Rattle.tree_key.specs.Keys.{Key, child}
use Rattle.tree_key.proofs.BoxLemmas.{same_key}
use Rattle.tree_key.proofs.PowerLemmas.{twice}
use Rattle.tree_model.specs.Nodes.{Form}
use Rattle.tree_model.specs.Nodes.Form.{Reconstructed, Compressed}
use Rattle.tree_model.specs.Trees.{Tree, IsTree}
use Rattle.tree_model.proofs.RangeLemmas.{range_split}
use Rattle.haar_lines.specs.Rows.{row_put, rows_put, beside}
use Rattle.haar_meaning.specs.Printed.{keys_below, has_line, line_of, lines_below, row_at, AreLinesOf}
use Rattle.haar_right.proofs.ReadingLemmas.{none_below}

-- rows side by side

put_later : (x : List ℕ) (rows : List (List ℕ)) (at : ℕ) (others : List (List ℕ)) → rows_put (x ∷ rows) (suc at) others ≡ x ∷ rows_put rows at others
put_later x rows at [] = refl
put_later x rows at (other ∷ others) =
    let next : suc at + 1 ≡ suc (at + 1) = omega arith in
    ap (λ (n : ℕ). rows_put (x ∷ row_put rows at other) n others) next ∙ put_later x (row_put rows at other) (at + 1) others

pub row_beside : (left right : List (List ℕ)) (n : ℕ) → row_at (beside left right) n ≡ row_at left n ++ row_at right n
row_beside left [] n = sym (append-nil (row_at left n))
row_beside [] (r ∷ rs) zero = ap (λ (lines : List (List ℕ)). row_at lines 0) (put_later r [] 0 rs)
row_beside [] (r ∷ rs) (suc n) = ap (λ (rows : List (List ℕ)). row_at rows (suc n)) (put_later r [] 0 rs) ∙ row_beside [] rs n
row_beside (l ∷ ls) (r ∷ rs) zero = ap (λ (lines : List (List ℕ)). row_at lines 0) (put_later (l ++ r) ls 0 rs)
row_beside (l ∷ ls) (r ∷ rs) (suc n) = ap (λ (rows : List (List ℕ)). row_at rows (suc n)) (put_later (l ++ r) ls 0 rs) ∙ row_beside ls rs n

-- the keys below a key

map_range : {A : Type 0} (f g : ℕ → A) (a b n : ℕ) → ((i : ℕ) → f (a + i) ≡ g (b + i)) → map f (range_with_len a n) ≡ map g (range_with_len b n)
map_range f g a b zero same = refl
map_range f g a b (suc n) same =
    let first : f a ≡ g b = let left : a + 0 ≡ a = omega arith in let right : b + 0 ≡ b = omega arith in sym (ap f left) ∙ same 0 ∙ ap g right in
    let more : map f (range_with_len (a + 1) n) ≡ map g (range_with_len (b + 1) n) = map_range f g (a + 1) (b + 1) n (λ i.
    let left : a + 1 + i ≡ a + (1 + i) = omega arith in let right : b + (1 + i) ≡ b + 1 + i = omega arith in ap f left ∙ same (1 + i) ∙ ap g right) in
    (λ i. first i ∷ more i)

keys_zero : (k : Key) → keys_below k 0 ≡ k ∷ []
keys_zero k = ap (λ (c : Key). c ∷ []) (same_key (record { level = k.level + 0; at = k.at * 2 ^ 0 + 0 }) k (omega arith) (omega arith))

abbrev key_below : Key → ℕ → ℕ → Key
key_below k n i = record { level = k.level + n; at = k.at * 2 ^ n + i }

left_key : (k : Key) (n i : ℕ) → key_below k (suc n) (0 + i) ≡ key_below (child k false) n (0 + i)
left_key k n i =
    let more : suc n ≡ n + 1 = omega arith in
    let double : 2 ^ suc n ≡ 2 * 2 ^ n = ap (λ (m : ℕ). 2 ^ m) more ∙ twice n in
    let at : k.at * 2 ^ suc n ≡ (2 * k.at + 0) * 2 ^ n = place k.at (2 ^ n) (2 ^ suc n) double in
    same_key (key_below k (suc n) (0 + i)) (key_below (child k false) n (0 + i)) (omega arith) (ap (λ (m : ℕ). m + (0 + i)) at)
  where
    place : (a p q : ℕ) → q ≡ 2 * p → a * q ≡ (2 * a + 0) * p
    place a p q e = ap (λ (m : ℕ). a * m) e ∙ grind arith

right_key : (k : Key) (n i : ℕ) → key_below k (suc n) (0 + 2 ^ n + i) ≡ key_below (child k true) n (0 + i)
right_key k n i =
    let more : suc n ≡ n + 1 = omega arith in
    let double : 2 ^ suc n ≡ 2 * 2 ^ n = ap (λ (m : ℕ). 2 ^ m) more ∙ twice n in
    same_key (key_below k (suc n) (0 + 2 ^ n + i)) (key_below (child k true) n (0 + i)) (omega arith) (place k.at (2 ^ n) (2 ^ suc n) i double)
  where
    place : (a p q i : ℕ) → q ≡ 2 * p → a * q + (0 + p + i) ≡ (2 * a + 1) * p + (0 + i)
    place a p q i e = ap (λ (m : ℕ). a * m + (0 + p + i)) e ∙ grind arith

pub keys_split : (k : Key) (n : ℕ) → keys_below k (suc n) ≡ keys_below (child k false) n ++ keys_below (child k true) n
keys_split k n =
    let more : suc n ≡ n + 1 = omega arith in
    let double : 2 ^ suc n ≡ 2 ^ n + 2 ^ n = ap (λ (m : ℕ). 2 ^ m) more ∙ twice n ∙ omega arith in
    ap (λ (m : ℕ). map (key_below k (suc n)) (range_with_len 0 m)) double
    ∙ ap (map (key_below k (suc n))) (range_split 0 (2 ^ n) (2 ^ n))
    ∙ map-append (key_below k (suc n)) (range_with_len 0 (2 ^ n)) (range_with_len (0 + 2 ^ n) (2 ^ n))
    ∙ (λ i. map_range (key_below k (suc n)) (key_below (child k false) n) 0 0 (2 ^ n) (left_key k n) i
    ++ map_range (key_below k (suc n)) (key_below (child k true) n) (0 + 2 ^ n) 0 (2 ^ n) (right_key k n) i)

-- their lines

filter_join : (p : Key → Bool) (xs ys : List Key) → filter p (xs ++ ys) ≡ filter p xs ++ filter p ys
filter_join p [] ys = refl
filter_join p (x ∷ xs) ys = go (p x) (filter_join p xs ys)
  where
    go : (b : Bool) → filter p (xs ++ ys) ≡ filter p xs ++ filter p ys → (if b then x ∷ filter p (xs ++ ys) else filter p (xs ++ ys)) ≡ (if b then x ∷ filter p xs else filter p xs) ++ filter p ys
    go true rec = ap (λ (zs : List Key). x ∷ zs) rec
    go false rec = rec

lines_join : (f : Key → List ℕ) (xs ys : List Key) → flat_map f (xs ++ ys) ≡ flat_map f xs ++ flat_map f ys
lines_join f [] ys = refl
lines_join f (x ∷ xs) ys = ap (λ (zs : List ℕ). f x ++ zs) (lines_join f xs ys) ∙ sym (append_assoc (f x) (flat_map f xs) (flat_map f ys))

pub lines_split : (form : Form) (t : Tree) (k : Key) (n : ℕ) → lines_below form t k (suc n) ≡ lines_below form t (child k false) n ++ lines_below form t (child k true) n
lines_split form t k n =
    ap (λ (ks : List Key). flat_map (line_of form t) (filter (has_line form t) ks)) (keys_split k n)
    ∙ ap (flat_map (line_of form t)) (filter_join (has_line form t) (keys_below (child k false) n) (keys_below (child k true) n))
    ∙ lines_join (line_of form t) (filter (has_line form t) (keys_below (child k false) n)) (filter (has_line form t) (keys_below (child k true) n))

-- the line of the key itself
pub own_lines : (form : Form) (t : Tree) (k : Key) (b : Bool) → has_line form t k ≡ b → lines_below form t k 0 ≡ (if b then line_of form t k else [])
own_lines form t k b is = ap (λ (ks : List Key). flat_map (line_of form t) (filter (has_line form t) ks)) (keys_zero k) ∙ ap (λ (c : Bool). flat_map (line_of form t) (if c then k ∷ [] else [])) is ∙ go b
  where
    go : (b : Bool) → flat_map (line_of form t) (if b then k ∷ [] else []) ≡ (if b then line_of form t k else [])
    go true = append-nil (line_of form t k)
    go false = refl

no_line : (form : Form) (t : Tree) (k : Key) → t.shape k ≡ false → has_line form t k ≡ false
no_line Reconstructed t k none = λ i. none i && not (t.shape (child k false))
no_line Compressed t k none = λ i. none i && t.shape (child k false)

lines_none : (form : Form) (t : Tree) (tree : IsTree t) (n : ℕ) (k : Key) → t.shape k ≡ false → lines_below form t k n ≡ []
lines_none form t tree zero k none = own_lines form t k false (no_line form t k none)
lines_none form t tree (suc n) k none = lines_split form t k n
    ∙ (λ i. lines_none form t tree n (child k false) (none_below t k false tree none) i ++ lines_none form t tree n (child k true) (none_below t k true tree none) i)

-- a key without children has at most its own line
pub leaf_lines : (form : Form) (t : Tree) (k : Key) (own : List ℕ) → IsTree t → t.shape (child k false) ≡ false → own ≡ lines_below form t k 0 → AreLinesOf form t k (own ∷ [])
leaf_lines form t k own tree none is zero = is
leaf_lines form t k own tree none is (suc n) = sym (lines_split form t k n
    ∙ (λ i. lines_none form t tree n (child k false) none i ++ lines_none form t tree n (child k true) (tree.shape.children k ∙ none) i))

-- another key has its own line and those of its children's boxes
pub cut_lines : (form : Form) (t : Tree) (k : Key) (own : List ℕ) (left right : List (List ℕ)) → own ≡ lines_below form t k 0 → AreLinesOf form t (child k false) left → AreLinesOf form t (child k true) right → AreLinesOf form t k (own ∷ beside left right)
cut_lines form t k own left right is first second zero = is
cut_lines form t k own left right is first second (suc n) = row_beside left right n ∙ (λ i. first n i ++ second n i) ∙ sym (lines_split form t k n)
