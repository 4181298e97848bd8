-- Lemmas that crates above use: the sums over boxes of what is made of two trees.
use Rattle.std.proofs.Common.{◌≡◌, ℕ, zero, suc, List, [], ◌∷◌, length, map, take, drop, true, false, refl, ◌∙◌, ap, arith, ℤ, pos, ◌+ℤ◌, ◌-ℤ◌, ◌*ℤ◌, neg_ℤ}
use Rattle.std.specs.List.{zip, drop-map}
use Rattle.std.proofs.lemmas.Int.{ints}
use Rattle.std.proofs.lemmas.List.{length-take, length-drop, take-map}
use Rattle.std.proofs.Math.IntN.{zero-*ℤ, *ℤ_comm}
use Rattle.tree_key.specs.Keys.{Key, child, width, first_cell}
use Rattle.tree_model.specs.OperationLaws.{SumsAreLinear}
use Rattle.tree_model.specs.Operations.{weighted_sum}
use Rattle.tree_model.specs.Trees.{Tree, total, box_sum, difference}
use Rattle.tree_model.proofs.IntegerLemmas.{times_sum, times_neg}

four_sum : (p q r s : ℤ) → p +ℤ q +ℤ (r +ℤ s) ≡ p +ℤ r +ℤ (q +ℤ s)
four_sum p q r s = omega (arith, ints)

four_less : (p q r s : ℤ) → p +ℤ q -ℤ (r +ℤ s) ≡ p -ℤ r +ℤ (q -ℤ s)
four_less p q r s = omega (arith, ints)

times_less : (a x y : ℤ) → a *ℤ (x -ℤ y) ≡ a *ℤ x -ℤ a *ℤ y
times_less a x y = times_sum a x (neg_ℤ y) ∙ ap (λ z. a *ℤ x +ℤ z) (times_neg a y)

-- parts of two lists side by side
drop_zip : {X Y : Type 0} (n : ℕ) (xs : List X) (ys : List Y) → length xs ≡ length ys → drop n (zip xs ys) ≡ zip (drop n xs) (drop n ys)
drop_zip zero xs ys same = refl
drop_zip (suc n) [] [] same = refl
drop_zip (suc n) [] (y ∷ ys) same = absurd (omega arith)
drop_zip (suc n) (x ∷ xs) [] same = absurd (omega arith)
drop_zip (suc n) (x ∷ xs) (y ∷ ys) same = drop_zip n xs ys (omega arith)

take_zip : {X Y : Type 0} (n : ℕ) (xs : List X) (ys : List Y) → take n (zip xs ys) ≡ zip (take n xs) (take n ys)
take_zip zero xs ys = refl
take_zip (suc n) [] ys = refl
take_zip (suc n) (x ∷ xs) [] = refl
take_zip (suc n) (x ∷ xs) (y ∷ ys) = ap (λ rest. (x, y) ∷ rest) (take_zip n xs ys)

-- a slice of a list
abbrev pub slice : {X : Type 0} → ℕ → ℕ → List X → List X
slice from count xs = take count (drop from xs)

pub slice_zip :
    {X Y Z : Type 0} (h : X × Y → Z) (from count : ℕ) (xs : List X) (ys : List Y) →
    length xs ≡ length ys →
    slice from count (map h (zip xs ys)) ≡ map h (zip (slice from count xs) (slice from count ys))
slice_zip h from count xs ys same =
    rw (drop-map h from (zip xs ys), take-map, drop_zip from xs ys same) (ap (map h) (take_zip count (drop from xs) (drop from ys)))

pub length_slice : {X Y : Type 0} (from count : ℕ) (xs : List X) (ys : List Y) → length xs ≡ length ys → length (slice from count xs) ≡ length (slice from count ys)
length_slice from count xs ys same = rw (length-take, length-take, length-drop, length-drop, same) refl

-- the total of a weighted sum of two lists
total_weighted : (a b : ℤ) (xs ys : List ℤ) → length xs ≡ length ys → total (map (λ p. a *ℤ p.0 +ℤ b *ℤ p.1) (zip xs ys)) ≡ a *ℤ total xs +ℤ b *ℤ total ys
total_weighted a b [] [] same = rw (*ℤ_comm a (pos 0), *ℤ_comm b (pos 0), zero-*ℤ a, zero-*ℤ b) refl
total_weighted a b [] (y ∷ ys) same = absurd (omega arith)
total_weighted a b (x ∷ xs) [] same = absurd (omega arith)
total_weighted a b (x ∷ xs) (y ∷ ys) same =
    rw (total_weighted a b xs ys (omega arith), times_sum a x (total xs), times_sum b y (total ys)) (four_sum (a *ℤ x) (b *ℤ y) (a *ℤ total xs) (b *ℤ total ys))

sum_weighted : (a : ℤ) (f : Tree) (b : ℤ) (g : Tree) (k : Key) → length f.cells ≡ length g.cells → f.depth ≡ g.depth → box_sum (weighted_sum a f b g) k ≡ a *ℤ box_sum f k +ℤ b *ℤ box_sum g k
sum_weighted a f b g k lengths depths =
    let w = width f.depth k in
    let s = first_cell f.depth k in
    let on_box = ap total (slice_zip (λ p. a *ℤ p.0 +ℤ b *ℤ p.1) s w f.cells g.cells lengths) in
    let other : total (slice s w g.cells) ≡ box_sum g k = ap (λ d. total (slice (first_cell d k) (width d k) g.cells)) depths in
    on_box
    ∙ total_weighted a b (slice s w f.cells) (slice s w g.cells) (length_slice s w f.cells g.cells lengths)
    ∙ ap (λ z. a *ℤ total (slice s w f.cells) +ℤ b *ℤ z) other

difference_weighted :
    (a : ℤ) (f : Tree) (b : ℤ) (g : Tree) (k : Key) →
    length f.cells ≡ length g.cells →
    f.depth ≡ g.depth →
    difference (weighted_sum a f b g) k ≡ a *ℤ difference f k +ℤ b *ℤ difference g k
difference_weighted a f b g k lengths depths =
    let left = child k false in
    let right = child k true in
    rw (sum_weighted a f b g left lengths depths, sum_weighted a f b g right lengths depths, times_less a (box_sum f left) (box_sum f right), times_less b (box_sum g left) (box_sum g right))
    (four_less (a *ℤ box_sum f left) (b *ℤ box_sum g left) (a *ℤ box_sum f right) (b *ℤ box_sum g right))

pub sums_linear : SumsAreLinear
sums_linear = record { sums = sum_weighted; differences = difference_weighted }
