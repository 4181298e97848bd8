-- Keys of a tree with all keys down to a level.
use Rattle.std.proofs.Common.{◌≡◌, ℕ, ◌≤◌, Bool, true, false, cond, Option, None, sym, ◌∙◌, ap, arith, ℤ, to_z, of_z, w64, FitsSigned, Some}
use Rattle.std.specs.BTreeMap.{BTreeMap}
use Rattle.tree_key.specs.Keys.{Key, child}
use Rattle.tree_model.specs.StoredTrees.{whole_sum, leaf_sum_at}
use Rattle.tree_model.specs.Operations.{refined}
use Rattle.tree_model.specs.Shapes.{IsShape, is_key_of}
use Rattle.tree_model.specs.Trees.{Tree}
use Rattle.tree_model.proofs.BelowLeafLemmas.{key_parts}
use Rattle.tree_model.proofs.CombinedTreeLemmas.{refined_tree}
use Rattle.tree_operations.specs.Numbers.{number_at, same_key}
use Rattle.tree_operations.specs.Filling.{Fills}
use Rattle.tree_operations.specs.WholeSums.{half_sum, IsKeyToRefine}
use Rattle.tree_operations.proofs.LeafFillingLemmas.{fills_leaf}
use Rattle.tree_operations.proofs.StoredNumberLemmas.{passed}
use Rattle.tree_operations.proofs.WholeSumLemmas.{AnswersWholeSum, IsCut, half_from_above, whole_with, cut_where_none, as_left}

-- what is answered on the way
abbrev AnswersFromLevel : ℕ → Key → Option ℤ → Option ℤ → Type 0
AnswersFromLevel level key whole answer = (t : Tree) → level ≤ t.depth → is_key_of t.depth key ≡ true → whole ≡ whole_sum t key → answer ≡ whole_sum (refined level t) key

shape_of_refined : (level : ℕ) (t : Tree) (leaves : BTreeMap Key ℤ) (key : Key) (above : Option ℤ) → IsKeyToRefine t leaves level key above → IsShape t.depth (refined level t).shape
shape_of_refined level t leaves key above is = (refined_tree level t is.keeps.sound.tree).shape

key_of_refined : (level : ℕ) (t : Tree) (leaves : BTreeMap Key ℤ) (key : Key) (above : Option ℤ) → IsKeyToRefine t leaves level key above → is_key_of t.depth key ≡ true
key_of_refined level t leaves key above is = (shape_of_refined level t leaves key above is).keys key is.inside

answered : (level : ℕ) (t : Tree) (leaves : BTreeMap Key ℤ) (key : Key) (above whole answer : Option ℤ) → IsKeyToRefine t leaves level key above → AnswersWholeSum leaves key above whole → AnswersFromLevel level key whole answer → answer ≡ whole_sum (refined level t) key
answered level t leaves key above whole answer is sum from_level = from_level t is.shallow (key_of_refined level t leaves key above is) (sum t is.keeps is.passed)

pub cut_in_refined : (level : ℕ) (t : Tree) (leaves : BTreeMap Key ℤ) (key : Key) (above whole : Option ℤ) → IsKeyToRefine t leaves level key above → AnswersWholeSum leaves key above whole → AnswersFromLevel level key whole None → IsCut (refined level t) key
cut_in_refined level t leaves key above whole is sum from_level =
    let left = cut_where_none (refined level t) key (answered level t leaves key above whole None is sum from_level) in
    let deep = key_parts t.depth (child key false) ((shape_of_refined level t leaves key above is).keys (child key false) left) in
    record { left = left; above = omega (arith, deep.level) }

-- so each child is to be refined, with half of the sum
pub child_to_refine :
    (level : ℕ) (t : Tree) (leaves : BTreeMap Key ℤ) (key : Key) (right : Bool) (above whole half : Option ℤ) →
    IsKeyToRefine t leaves level key above →
    AnswersWholeSum leaves key above whole →
    AnswersFromLevel level key whole None →
    half ≡ half_sum whole →
    IsKeyToRefine t leaves level (child key right) half
child_to_refine level t leaves key right above whole half is sum from_level halved =
    let cut = cut_in_refined level t leaves key above whole is sum from_level in
    record {
      keeps = is.keeps;
      shallow = is.shallow;
      inside = as_left t.depth (refined level t).shape key right (shape_of_refined level t leaves key above is) ∙ cut.left;
      passed = halved ∙ ap half_sum (sum t is.keeps is.passed) ∙ sym (half_from_above t key right is.keeps.sound.tree (key_of_refined level t leaves key above is) cut.above);
    }

-- a leaf of the refined tree is set
pub refined_leaf_set :
    (level : ℕ) (t : Tree) (leaves : BTreeMap Key ℤ) (key : Key) (above whole : Option ℤ) (sum : ℤ) (old new : BTreeMap Key ℤ) →
    FitsSigned w64 sum →
    IsKeyToRefine t leaves level key above →
    AnswersWholeSum leaves key above whole →
    AnswersFromLevel level key whole (Some sum) →
    ((k : Key) → number_at new k ≡ cond (same_key key k) (Some (to_z w64 (of_z w64 sum))) (number_at old k)) →
    Fills key (leaf_sum_at (refined level t)) old new
refined_leaf_set level t leaves key above whole sum old new fits is is_whole from_level set =
    let with_sum = whole_with (refined level t) key sum (answered level t leaves key above whole (Some sum) is is_whole from_level) in
    fills_leaf (refined level t) key sum old new (shape_of_refined level t leaves key above is) is.inside with_sum (rw (passed sum fits) at set)
