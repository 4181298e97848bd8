-- A down unit that gives its due, where its command puts nodes on the way down, puts the node of a key without children.
use Rattle.std.proofs.Common.{◌≡◌, ℕ, ◌*◌, Bool, true, false, refl, ap, ◌∙◌, sym, ℤ}
use Rattle.std.specs.Prelude.{◌&&◌, ◌==◌, not, nat_le, nat_lt, is_none, if◌then◌else◌, Option, Some, None, ⊤}
use Rattle.tree_key.specs.Keys.{Key, child, width}
use Rattle.tree_model.specs.Nodes.{Form}
use Rattle.tree_model.specs.Nodes.{Node as NodeData}
use Rattle.tree_model.specs.Nodes.Form.{Reconstructed, Compressed}
use Rattle.tree_model.specs.Nodes.Node.{Leaf as LeafData, Branch as BranchData, Inner as InnerData, Root as RootData, Bare as BareData, Bad as BadData}
use Rattle.tree_model.specs.Functions.{max_value}
use Rattle.tree_model.specs.Project.{is_split}
use Rattle.tree_model.specs.Trees.{Tree, box_sum, difference}
use Rattle.std.specs.Int.RustNames.{unsigned_abs}
use Rattle.haar_node.specs.declared.Func.{Func}
use Rattle.haar_node.specs.declared.Node.{Node}
use Rattle.haar_node.specs.declared.Node.TheVariants as node
use Rattle.haar_node.specs.Node.{node_of}
use Rattle.haar_base.specs.declared.value.Value.TheVariants.{Done}
use Rattle.haar_base.specs.declared.decisions.Visit.{Visit}
use Rattle.haar_base.specs.declared.decisions.Visit.TheVariants as visits
use Rattle.haar_base.specs.declared.readings.Leaf.{Leaf}
use Rattle.haar_base.specs.declared.readings.Leaf.TheVariants.{Whole, Cut, Wrong}
use Rattle.haar_base.specs.declared.readings.Sums.{Sums}
use Rattle.haar_base.specs.declared.readings.ChildSides.{ChildSides}
use Rattle.haar_base.specs.Decisions.{bad_visit}
use Rattle.haar_base.specs.Readings.{sums, leaf_sides, sides_by, sum_sides}
use Rattle.haar_visits.specs.declared.adding.Factors.{Factors}
use Rattle.haar_visits.specs.Projecting.{projection_of, projected_sum, visit_by, visit_projected}
use Rattle.haar_visits.specs.Refining.{split_one, refine_cut, refine_leaf}
use Rattle.haar_visits.specs.Compressing.{compressed_node, below_node}
use Rattle.haar_visits.specs.Reconstructing.{reconstruct_by, reconstruct_sums}
use Rattle.haar_visits.specs.Adding.{weighted, add_leaf, kept_sum, add_difference, split_two, add_cut_by, add_cut, add_sums}
use Rattle.haar_visits.specs.Multiplying.{product_sum, multiply_leaf, multiply_cut, multiply_leaves}
use Rattle.haar_meaning.specs.RightCells.{stored_node}
use Rattle.haar_right.proofs.PlanLemmas.{version_with}
use Rattle.haar_right.proofs.WrittenLemmas.{stored_branch}

-- whether a node may be that of a key without children
abbrev pub is_end : NodeData → Bool
is_end (LeafData sum) = true
is_end BranchData = false
is_end (InnerData difference) = false
is_end (RootData sum None) = true
is_end (RootData sum (Some difference)) = false
is_end BareData = true
is_end BadData = true

abbrev pub Ends : Visit → Type 0
Ends (visits.Give None v) = ⊥
Ends (visits.Give (Some n) v) = is_end (node_of n) ≡ true
Ends (visits.Split n left right held) = ⊤

-- the node of a key with children isn't one
pub stored_cut : (form : Form) (t : Tree) (k : Key) → t.shape k ≡ true → t.shape (child k false) ≡ true → is_end (stored_node (version_with form t) k) ≡ false
stored_cut Reconstructed t k inside cut = ap is_end (sym (stored_branch t k inside cut))
stored_cut Compressed t k inside cut =
    (λ i. is_end (if inside i then (if k.level == 0 then RootData (box_sum t k) (if inside i && not (cut i) then None else Some (difference t k)) else (if inside i && not (cut i) then BareData else InnerData (difference t k))) else LeafData (box_sum t k)))
    ∙ go (k.level == 0)
  where
    go : (root : Bool) → is_end (if root then RootData (box_sum t k) (Some (difference t k)) else InnerData (difference t k)) ≡ false
    go true = refl
    go false = refl

pub project_ends : (depth : ℕ) (function : Func) (level tolerance : ℕ) (k : Key) → Ends (visit_projected depth function level tolerance k)
project_ends depth function level tolerance k = go (is_split depth (projection_of function level tolerance) k)
  where
    go : (split : Bool) → Ends (visit_by split (projected_sum depth function k))
    go true = tt
    go false = refl

one_ends : (o : Option ChildSides) → Ends (split_one o)
one_ends None = refl
one_ends (Some below) = tt

cut_ends : (depth : ℕ) (k : Key) (leaf : Leaf) → Ends (refine_cut depth k leaf)
cut_ends depth k leaf = go (nat_le depth k.level)
  where
    go : (deep : Bool) → Ends (if deep then bad_visit true else split_one (leaf_sides leaf))
    go true = refl
    go false = one_ends (leaf_sides leaf)

pub refine_ends : (depth level : ℕ) (k : Key) (leaf : Leaf) → Ends (refine_leaf depth level k leaf)
refine_ends depth level k (Whole sum) = go (nat_le level k.level)
  where
    go : (low : Bool) → Ends (if low then visits.Give (Some (node.Leaf sum)) Done else refine_cut depth k (Whole sum))
    go true = refl
    go false = cut_ends depth k (Whole sum)
refine_ends depth level k Cut = cut_ends depth k Cut
refine_ends depth level k Wrong = cut_ends depth k Wrong

by_ends : (depth : ℕ) (k : Key) (sum : ℤ) (d : Option ℤ) → Ends (reconstruct_by depth k sum d)
by_ends depth k sum None = refl
by_ends depth k sum (Some d) = go (nat_lt k.level depth)
  where
    go : (above : Bool) → Ends (if above then split_one (sides_by sum (Some d)) else bad_visit true)
    go true = one_ends (sides_by sum (Some d))
    go false = refl

pub reconstruct_ends : (depth : ℕ) (k : Key) (o : Option Sums) → Ends (reconstruct_sums depth k o)
reconstruct_ends depth k None = refl
reconstruct_ends depth k (Some s) = by_ends depth k s.sum s.difference

two_ends : (n : Node) (first second : Option ChildSides) → Ends (split_two n first second)
two_ends n None second = refl
two_ends n (Some first) None = refl
two_ends n (Some first) (Some second) = tt

add_by_ends : (k : Key) (d sum : Option ℤ) (first second : Option ChildSides) → Ends (add_cut_by k d sum first second)
add_by_ends k None sum first second = refl
add_by_ends k (Some d) None first second = refl
add_by_ends k (Some d) (Some sum) first second = two_ends (compressed_node k (sums sum (Some d))) first second

bare_ends : (k : Key) (sum : ℤ) → is_end (node_of (compressed_node k (sums sum None))) ≡ true
bare_ends k sum = go (k.level == 0)
  where
    go : (root : Bool) → is_end (node_of (if root then node.Root sum None else below_node None)) ≡ true
    go true = refl
    go false = refl

add_leaf_ends : (depth : ℕ) (factors : Factors) (k : Key) (left right : Sums) → Ends (add_leaf depth factors k left right)
add_leaf_ends depth factors k left right = go (nat_le (unsigned_abs (weighted factors left.sum right.sum)) (width depth k * max_value))
  where
    go : (low : Bool) → Ends (if low then visits.Give (Some (compressed_node k (sums (weighted factors left.sum right.sum) None))) Done else bad_visit true)
    go true = bare_ends k (weighted factors left.sum right.sum)
    go false = refl

pub add_ends : (depth : ℕ) (factors : Factors) (k : Key) (left right : Option Sums) → Ends (add_sums depth factors k left right)
add_ends depth factors k None right = refl
add_ends depth factors k (Some left) None = refl
add_ends depth factors k (Some left) (Some right) = go (is_none left.difference && is_none right.difference) (nat_lt k.level depth)
  where
    go : (whole above : Bool) → Ends (if whole then add_leaf depth factors k left right else if above then add_cut factors k left right else bad_visit true)
    go true above = add_leaf_ends depth factors k left right
    go false true = add_by_ends k (add_difference factors left right) (kept_sum factors k left right) (sum_sides left) (sum_sides right)
    go false false = refl

product_ends : (o : Option ℤ) → Ends (multiply_leaf o)
product_ends None = refl
product_ends (Some sum) = refl

mul_cut_ends : (depth : ℕ) (k : Key) (first second : Leaf) → Ends (multiply_cut depth k first second)
mul_cut_ends depth k first second = go (nat_lt k.level depth)
  where
    go : (above : Bool) → Ends (if above then split_two node.Branch (leaf_sides first) (leaf_sides second) else bad_visit true)
    go true = two_ends node.Branch (leaf_sides first) (leaf_sides second)
    go false = refl

pub mul_ends : (depth : ℕ) (k : Key) (first second : Leaf) → Ends (multiply_leaves depth k first second)
mul_ends depth k (Whole left) (Whole right) = product_ends (product_sum left right (width depth k))
mul_ends depth k (Whole left) Cut = mul_cut_ends depth k (Whole left) Cut
mul_ends depth k (Whole left) Wrong = mul_cut_ends depth k (Whole left) Wrong
mul_ends depth k Cut second = mul_cut_ends depth k Cut second
mul_ends depth k Wrong second = mul_cut_ends depth k Wrong second
