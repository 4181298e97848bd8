-- What a sum from above, or the number at a key, says of the box of the key.
use Rattle.std.proofs.Common.{◌≡◌, ℕ, ◌<◌, Bool, true, false, cond, not, ◌&&◌, Option, Some, None, refl, sym, arith, ℤ, pos, ◌+ℤ◌, ◌-ℤ◌, ◌*ℤ◌}
use Rattle.std.specs.BTreeMap.{BTreeMap}
use Rattle.std.specs.Int.RustNames.{int_div}
use Rattle.std.proofs.lemmas.Bool.{false_from_ne_true}
use Rattle.std.proofs.lemmas.Int.{ints}
use Rattle.std.proofs.lemmas.Option.{none-some, same_Some}
use Rattle.tree_key.specs.Keys.{Key, child}
use Rattle.tree_model.specs.StoredTrees.{whole_sum}
use Rattle.tree_model.specs.Shapes.{IsShape, is_key_of}
use Rattle.tree_model.specs.Trees.{Tree, IsTree, box_sum}
use Rattle.tree_model.proofs.BoxSumLemmas.{box_sum_children}
use Rattle.tree_model.proofs.IntegerLemmas.{quotient_of_a_multiple}
use Rattle.tree_model.proofs.StoredTreeLemmas.{whole_boxes_are_even}
use Rattle.tree_operations.specs.Numbers.{number_at, KeepsLeaves}
use Rattle.tree_operations.specs.WholeSums.{sum_from_above, half_sum}

-- what is answered as the sum over a key's box
abbrev pub AnswersWholeSum : BTreeMap Key ℤ → Key → Option ℤ → Option ℤ → Type 0
AnswersWholeSum leaves key above whole = (t : Tree) → KeepsLeaves t leaves → above ≡ sum_from_above t key → whole ≡ whole_sum t key

-- a key that isn't there has no child
absent_below : (depth : ℕ) (shape : Key → Bool) (k : Key) (right : Bool) → IsShape depth shape → shape k ≡ false → shape (child k right) ≡ false
absent_below depth shape k right is absent = false_from_ne_true (shape (child k right)) (λ there. (let parent = is.parents k right there in cc))

-- a key without a left child has no right one, and with one it has both
pub as_left : (depth : ℕ) (shape : Key → Bool) (k : Key) (right : Bool) → IsShape depth shape → shape (child k right) ≡ shape (child k false)
as_left depth shape k true is = is.children k
as_left depth shape k false is = refl

sum_below : (here cut : Bool) (above sum : ℤ) → (here ≡ false → cut ≡ false) → Some above ≡ cond here None (Some sum) → Some above ≡ cond cut None (Some sum)
sum_below true cut above sum below is = absurd (none-some above (sym is))
sum_below false cut above sum below is = rw (below refl) is

sum_at_key : (here cut : Bool) (number : Option ℤ) (sum : ℤ) → None ≡ cond here None (Some sum) → number ≡ cond (here && not cut) (Some sum) None → number ≡ cond cut None (Some sum)
sum_at_key true true number sum none is = is
sum_at_key true false number sum none is = is
sum_at_key false cut number sum none is = absurd (none-some sum none)

-- the sum from above, where there is one
pub whole_from_above : (t : Tree) (leaves : BTreeMap Key ℤ) (k : Key) (above : ℤ) → KeepsLeaves t leaves → Some above ≡ sum_from_above t k → Some above ≡ whole_sum t k
whole_from_above t leaves k above keeps is = sum_below (t.shape k) (t.shape (child k false)) above (box_sum t k) (absent_below t.depth t.shape k false keeps.sound.tree.shape) is

-- and else the number at the key
pub whole_from_number : (t : Tree) (leaves : BTreeMap Key ℤ) (k : Key) → KeepsLeaves t leaves → None ≡ sum_from_above t k → number_at leaves k ≡ whole_sum t k
whole_from_number t leaves k keeps none = sum_at_key (t.shape k) (t.shape (child k false)) (number_at leaves k) (box_sum t k) none (keeps.at k)

halves_of_tests : (cut below : Bool) (sum half : ℤ) → below ≡ cut → (cut ≡ false → int_div sum (pos 2) ≡ half) → cond below None (Some half) ≡ half_sum (cond cut None (Some sum))
halves_of_tests true below sum half same is = rw same refl
halves_of_tests false below sum half same is = rw (same, is refl) refl

-- a half of two that have one sum
half_of_even : (left right sum half : ℤ) → left -ℤ right ≡ pos 0 → sum ≡ left +ℤ right → half ≡ left → int_div sum (pos 2) ≡ half
half_of_even left right sum half even is same =
    let twice : sum ≡ pos 2 *ℤ half = omega (arith, ints) in
    rw twice (quotient_of_a_multiple 2 half (omega arith))

half_is : (t : Tree) (k : Key) (right : Bool) → IsTree t → is_key_of t.depth k ≡ true → t.shape (child k false) ≡ false → k.level < t.depth → int_div (box_sum t k) (pos 2) ≡ box_sum t (child k right)
half_is t k true tree key uncut above =
    let even = whole_boxes_are_even t k tree (record { key = key; uncut = uncut }) above in
    half_of_even (box_sum t (child k false)) (box_sum t (child k true)) (box_sum t k) (box_sum t (child k true)) even (box_sum_children t k above) (omega (arith, ints))
half_is t k false tree key uncut above =
    let even = whole_boxes_are_even t k tree (record { key = key; uncut = uncut }) above in
    half_of_even (box_sum t (child k false)) (box_sum t (child k true)) (box_sum t k) (box_sum t (child k false)) even (box_sum_children t k above) refl

-- the sum that is passed down to a child is half of that over the key's box, where the tree doesn't cut it
pub half_from_above : (t : Tree) (k : Key) (right : Bool) → IsTree t → is_key_of t.depth k ≡ true → k.level < t.depth → sum_from_above t (child k right) ≡ half_sum (whole_sum t k)
half_from_above t k right tree key above =
    halves_of_tests (t.shape (child k false)) (t.shape (child k right)) (box_sum t k) (box_sum t (child k right)) (as_left t.depth t.shape k right tree.shape) (λ uncut. half_is t k right tree key uncut above)

-- a sum that is there is that over the box, which the tree doesn't cut
pub record IsWholeWith (t : Tree) (k : Key) (number : ℤ) : Type 0 where
  pub uncut : t.shape (child k false) ≡ false
  pub sum : number ≡ box_sum t k

whole_tests : (cut : Bool) (found sum : ℤ) → Some found ≡ cond cut None (Some sum) → (cut ≡ false) × (found ≡ sum)
whole_tests true found sum is = absurd (none-some found (sym is))
whole_tests false found sum is = (refl, same_Some found sum is)

pub whole_with : (t : Tree) (k : Key) (sum : ℤ) → Some sum ≡ whole_sum t k → IsWholeWith t k sum
whole_with t k sum is =
    let parts = whole_tests (t.shape (child k false)) sum (box_sum t k) is in
    record { uncut = parts.0; sum = parts.1 }

cut_tests : (cut : Bool) (sum : ℤ) → None ≡ cond cut None (Some sum) → cut ≡ true
cut_tests true sum is = refl
cut_tests false sum is = absurd (none-some sum is)

-- and where there is none the tree cuts the box
pub cut_where_none : (t : Tree) (k : Key) → None ≡ whole_sum t k → t.shape (child k false) ≡ true
cut_where_none t k is = cut_tests (t.shape (child k false)) (box_sum t k) is

-- a key whose box the tree cuts: it lies above the depth, and has children
pub record IsCut (t : Tree) (key : Key) : Type 0 where
  pub left : t.shape (child key false) ≡ true
  pub above : key.level < t.depth
