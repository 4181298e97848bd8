-- Units of `mul` decide rightly.
use Rattle.std.proofs.Common.{◌≡◌, ⊎_elim, ℕ, ◌*◌, ◌<◌, ◌^◌, Bool, true, false, refl, sym, ap, ◌∙◌, subst, ℤ, pos, ◌*ℤ◌}
use Rattle.std.specs.Prelude.{◌||◌, ◌==◌, nat_le, nat_lt, not, if◌then◌else◌, Option, Some, None, IfSome}
use Rattle.std.specs.Int.RustNames.{unsigned_abs}
use Rattle.std.proofs.lemmas.Bool.{and_from, lt-ltb, le-leb, ltb-true}
use Rattle.tree_key.specs.Keys.{Key, child, width}
use Rattle.tree_key.proofs.FamilyLemmas.{child_fits}
use Rattle.tree_model.specs.Functions.{max_value}
use Rattle.tree_model.specs.Nodes.Form.{Reconstructed}
use Rattle.tree_model.specs.Nodes.Node.{Leaf as LeafData}
use Rattle.tree_model.specs.Operations.{union, product}
use Rattle.tree_model.specs.Shapes.{is_key_of}
use Rattle.tree_model.specs.StoredTrees.{IsWhole, IsWholeSum}
use Rattle.tree_model.specs.Totals.{over}
use Rattle.tree_model.specs.Trees.{Tree, IsTree, box_sum}
use Rattle.tree_model.specs.Versions.{Version, tree_in}
use Rattle.tree_model.proofs.StoredTreeLemmas.{whole_boxes_of_one_value}
use Rattle.haar_node.specs.declared.Node.TheVariants as node
use Rattle.haar_base.specs.declared.operation.Operation.{Operation}
use Rattle.haar_base.specs.declared.operation.Operation.TheVariants.{Mul}
use Rattle.haar_base.specs.declared.value.Value.TheVariants.{Done}
use Rattle.haar_base.specs.declared.decisions.Visit.{Visit}
use Rattle.haar_base.specs.declared.readings.Leaf.{Leaf}
use Rattle.haar_base.specs.declared.readings.Leaf.TheVariants.{Whole, Cut, Wrong}
use Rattle.haar_base.specs.Decisions.{bad_visit}
use Rattle.haar_base.specs.Operations.{operation_at}
use Rattle.haar_base.specs.Readings.{leaf_at, leaf_sides}
use Rattle.haar_visits.proofs.FormLemmas.{visited}
use Rattle.haar_meaning.specs.PlannedJobs.{PlannedJob, IsPlannedJob, standing, version_of}
use Rattle.haar_meaning.specs.PlannedJobs.Standing.{Before, After}
use Rattle.haar_meaning.specs.Sides.{knows_sums}
use Rattle.haar_meaning.specs.JobUnits.{IsVisited}
use Rattle.haar_right.specs.Laws.{IsVisitedRightly, IsCombinedRightly}
use Rattle.haar_right.proofs.KnownLemmas.{IsKnown, before_if, version_is_tree}
use Rattle.haar_right.proofs.PlanLemmas.{version_with, Multiplies, mul_plan}
use Rattle.haar_right.proofs.ReadingLemmas.{leaf_in, child_key, leaf_children}
use Rattle.haar_right.proofs.DecisionLemmas.{read_is_some, known_or_after, fits_of, visited_by, is_visited, IsDecision, whole_visit, after_decision, FirstOf, SecondOf, two_sides}
use Rattle.haar_right.proofs.WrittenLemmas.{some_of, stored_branch, stored_leaf, put_written, done_right}
use Rattle.haar_right.proofs.SourceLemmas.{leaf_found, known_source}
use Rattle.haar_visits.specs.Adding.{split_two}
use Rattle.haar_visits.specs.Multiplying.{is_leaf_sum, product_value, leaf_product, product_sum, multiply_leaf, multiply_cut, multiply_leaves, visit_multiplied}
use Rattle.haar_right.proofs.OverflowLemmas.{ProductOn, product_on}
use Rattle.haar_right.proofs.TwoTreeLemmas.{split_first, split_second, value_over, overflow_given, bad_right}
use Rattle.haar_base.specs.Numbers.{divides}

-- what the children's units know of one tree, whatever is read of the other

given_first : (operation : Operation) (t : Tree) (k : Key) (o : Option ℤ) → FirstOf operation t k (multiply_leaf o)
given_first operation t k None = tt
given_first operation t k (Some sum) = tt

given_second : (operation : Operation) (t : Tree) (k : Key) (o : Option ℤ) → SecondOf operation t k (multiply_leaf o)
given_second operation t k None = tt
given_second operation t k (Some sum) = tt

module _ (operation : Operation) (t : Tree) (k : Key) (tree : IsTree t) (unknown : knows_sums operation ≡ false) (key : is_key_of t.depth k ≡ true) where
  first_cut : (leaf second : Leaf) → leaf ≡ leaf_in t k → FirstOf operation t k (multiply_cut t.depth k leaf second)
  first_cut leaf second is = go (nat_lt k.level t.depth) refl
    where
      go : (above : Bool) → nat_lt k.level t.depth ≡ above → FirstOf operation t k (if above then split_two node.Branch (leaf_sides leaf) (leaf_sides second) else bad_visit true)
      go true e = split_first operation t k node.Branch (leaf_sides leaf) (leaf_sides second) (ap leaf_sides is ∙ leaf_children operation t k tree unknown key (ltb-true k.level t.depth e))
      go false e = tt

  second_cut : (first leaf : Leaf) → leaf ≡ leaf_in t k → SecondOf operation t k (multiply_cut t.depth k first leaf)
  second_cut first leaf is = go (nat_lt k.level t.depth) refl
    where
      go : (above : Bool) → nat_lt k.level t.depth ≡ above → SecondOf operation t k (if above then split_two node.Branch (leaf_sides first) (leaf_sides leaf) else bad_visit true)
      go true e = split_second operation t k node.Branch (leaf_sides first) (leaf_sides leaf) (ap leaf_sides is ∙ leaf_children operation t k tree unknown key (ltb-true k.level t.depth e))
      go false e = tt

  first_of : (leaf second : Leaf) → leaf ≡ leaf_in t k → FirstOf operation t k (multiply_leaves t.depth k leaf second)
  first_of (Whole sum) (Whole other) is = given_first operation t k (product_sum sum other (width t.depth k))
  first_of (Whole sum) Cut is = first_cut (Whole sum) Cut is
  first_of (Whole sum) Wrong is = first_cut (Whole sum) Wrong is
  first_of Cut second is = first_cut Cut second is
  first_of Wrong second is = first_cut Wrong second is

  second_of : (first leaf : Leaf) → leaf ≡ leaf_in t k → SecondOf operation t k (multiply_leaves t.depth k first leaf)
  second_of (Whole sum) (Whole other) is = given_second operation t k (product_sum sum other (width t.depth k))
  second_of (Whole sum) Cut is = second_cut (Whole sum) Cut is
  second_of (Whole sum) Wrong is = second_cut (Whole sum) Wrong is
  second_of Cut leaf is = second_cut Cut leaf is
  second_of Wrong leaf is = second_cut Wrong leaf is

is_sum : (sum : ℤ) (cells : ℕ) → IsWholeSum sum cells → is_leaf_sum sum cells ≡ true
is_sum sum cells whole = and_from (divides cells sum) (nat_le (unsigned_abs sum) (cells * max_value)) (ap (λ (z : ℤ). unsigned_abs z == 0) whole.exact) (le-leb _ _ whole.within)

module _ (job : PlannedJob) (planned : IsPlannedJob job) (command left right : ℕ) (at : operation_at job.operations command ≡ Some (Mul left right)) where
  abbrev operation : Operation
  operation = Mul left right

  plan : Multiplies job planned command left right
  plan = mul_plan job planned command left right (planned.plans command operation at)

  abbrev f : Tree
  f = plan.first

  abbrev g : Tree
  g = plan.second

  abbrev h : Tree
  h = product f g

  abbrev w : Version
  w = version_with Reconstructed h

  module _ (k : Key) (place : k.at < 2 ^ k.level) (key : is_key_of job.depth k ≡ true) (seen : IsVisited job command k) (known_f : IsKnown job.depth f) (known_g : IsKnown job.depth g) where
    tree_h : IsTree h
    tree_h = (version_is_tree job command w plan.written).tree

    same : g.depth ≡ f.depth
    same = known_g.depth_is ∙ sym known_f.depth_is

    key_f : is_key_of f.depth k ≡ true
    key_f = subst (λ (d : ℕ). is_key_of d k ≡ true) (sym known_f.depth_is) key

    key_g : is_key_of g.depth k ≡ true
    key_g = subst (λ (d : ℕ). is_key_of d k ≡ true) (sym known_g.depth_is) key

    inside : standing job command ≡ Before → h.shape k ≡ true
    inside before = is_visited job command operation k place (over (union f.shape g.shape)) plan.visited before seen

    leaf_decision : f.shape (child k false) ≡ false → g.shape (child k false) ≡ false → IsDecision job command operation k place (multiply_leaf (product_sum (box_sum f k) (box_sum g k) (width f.depth k)))
    leaf_decision whole_f whole_g =
        let one : IsWhole f k = record { key = key_f; uncut = whole_f } in
        let other : IsWhole g k = record { key = key_g; uncut = whole_g } in
        let first = is_sum (box_sum f k) (width f.depth k) (whole_boxes_of_one_value f k known_f.tree known_f.values one) in
        let second = is_sum (box_sum g k) (width f.depth k) (subst (λ (d : ℕ). IsWholeSum (box_sum g k) (width d k)) same (whole_boxes_of_one_value g k known_g.tree known_g.values other)) in
        subst (λ (o : Option ℤ). IsDecision job command operation k place (multiply_leaf o))
        (sym (λ i. if first i then (if second i then leaf_product (box_sum f k) (box_sum g k) (width f.depth k) else None) else None)) (go (nat_le (unsigned_abs (product_value (box_sum f k) (box_sum g k) (width f.depth k))) max_value) refl)
      where
        whole : h.shape (child k false) ≡ false
        whole = λ i. whole_f i || whole_g i

        on : ProductOn f g k
        on = product_on f g k known_f.tree known_g.tree tree_h same (record { key = key_f; uncut = whole_f }) (record { key = key_g; uncut = whole_g }) (record { key = key_f; uncut = whole })

        go : (low : Bool) → nat_le (unsigned_abs (product_value (box_sum f k) (box_sum g k) (width f.depth k))) max_value ≡ low
            → IsDecision job command operation k place (multiply_leaf (if low then Some (pos (width f.depth k) *ℤ product_value (box_sum f k) (box_sum g k) (width f.depth k)) else None))
        go true low = (
          put_written job command operation k place w (node.Leaf (pos (width f.depth k) *ℤ product_value (box_sum f k) (box_sum g k) (width f.depth k))) plan.written (λ before. ap LeafData (sym on.sum) ∙ stored_leaf h k (inside before) whole),
          overflow_given job planned command operation k place at w plan.written (λ v meant. meant) Done (value_over h k false (on.over ∙ ap not low)),
        )
        go false low = bad_right job planned command operation k place at w plan.written (λ v meant. meant) (on.over ∙ ap not low)

    -- a key with children in the product
    cut_decision : k.level < f.depth → h.shape (child k false) ≡ true → IsDecision job command operation k place (multiply_cut f.depth k (leaf_in f k) (leaf_in g k))
    cut_decision above cut =
        let above_g : k.level < g.depth = subst (λ (d : ℕ). k.level < d) (sym same) above in
        let high = lt-ltb k.level f.depth above in
        let sides_f = leaf_children operation f k known_f.tree refl key_f above in
        let sides_g = leaf_children operation g k known_g.tree refl key_g above_g in
        subst (λ (v : Visit). IsDecision job command operation k place v) (sym (λ i. if high i then split_two node.Branch (sides_f i) (sides_g i) else bad_visit true)) (
          put_written job command operation k place w node.Branch plan.written (λ before. stored_branch h k (inside before) cut),
          visited_by job command operation (child k false) (child_fits k.level k.at false place) (over (union f.shape g.shape)) plan.visited (λ before. cut),
          visited_by job command operation (child k true) (child_fits k.level k.at true place) (over (union f.shape g.shape)) plan.visited (λ before. tree_h.shape.children k ∙ cut),
          before_if (standing job command) (λ before. refl),
        )

    or_true : (b : Bool) → (b || true) ≡ true
    or_true true = refl
    or_true false = refl

    leaf_is : (t : Tree) (cut : Bool) → t.shape (child k false) ≡ cut → (if cut then Cut else Whole (box_sum t k)) ≡ leaf_in t k
    leaf_is t cut is = sym (ap (λ (b : Bool). if b then Cut else Whole (box_sum t k)) is)

    decision : (cut_f cut_g : Bool) → f.shape (child k false) ≡ cut_f → g.shape (child k false) ≡ cut_g
        → IsDecision job command operation k place (multiply_leaves f.depth k (if cut_f then Cut else Whole (box_sum f k)) (if cut_g then Cut else Whole (box_sum g k)))
    decision true cut_g is_f is_g =
        subst (λ (v : Visit). IsDecision job command operation k place v) (sym (λ i. multiply_cut f.depth k (leaf_is f true is_f i) (leaf_is g cut_g is_g i)))
        (cut_decision (child_key f k false known_f.tree is_f) (λ i. is_f i || g.shape (child k false)))
    decision false true is_f is_g =
        subst (λ (v : Visit). IsDecision job command operation k place v) (sym (λ i. multiply_cut f.depth k (leaf_is f false is_f i) (leaf_is g true is_g i)))
        (cut_decision (subst (λ (d : ℕ). k.level < d) same (child_key g k false known_g.tree is_g)) ((λ i. f.shape (child k false) || is_g i) ∙ or_true (f.shape (child k false))))
    decision false false is_f is_g = leaf_decision is_f is_g

pub mul_visited : (left right : ℕ) → IsVisitedRightly (Mul left right)
mul_visited left right job u first second planned is read other =
    let place = fits_of job.depth u.key is.key in
    let p = plan job planned u.command left right is.command.at in
    whole_visit job u.command (Mul left right) u.key place is.key is.command (visit_multiplied job.depth u.key (record { first = u.first; second = u.second }) first second)
    (visited job.depth (Mul left right) u.key (record { first = u.first; second = u.second }) first second refl)
    (two_sides job u.command (Mul left right) u.key place (visit_multiplied job.depth u.key (record { first = u.first; second = u.second }) first second)
    (read_is_some job Reconstructed left p.first p.read_first) (read_is_some job Reconstructed right p.second p.read_second) first_known second_known)
    (⊎_elim (λ one. ⊎_elim (early place one) (late place) (known_or_after job u.command right p.earlier_right)) (late place) (known_or_after job u.command left p.earlier_left))
  where
    key_in : (t : Tree) → IsKnown job.depth t → is_key_of t.depth u.key ≡ true
    key_in t known = subst (λ (d : ℕ). is_key_of d u.key ≡ true) (sym known.depth_is) is.key

    first_known : (t : Tree) → standing job left ≡ Before → tree_in Reconstructed (version_of job left) ≡ Some t → FirstOf (Mul left right) t u.key (visit_multiplied job.depth u.key (record { first = u.first; second = u.second }) first second)
    first_known t before read_t =
        let known = known_source job Reconstructed left t planned before read_t in
        let found = leaf_found job (Mul left right) left u.key u.first first t planned before read_t read_t is.first read in
        subst (λ (d : ℕ). FirstOf (Mul left right) t u.key (multiply_leaves d u.key (leaf_at u.first first) (leaf_at u.second second))) known.depth_is
        (first_of (Mul left right) t u.key known.tree refl (key_in t known) (leaf_at u.first first) (leaf_at u.second second) found)

    second_known : (t : Tree) → standing job right ≡ Before → tree_in Reconstructed (version_of job right) ≡ Some t → SecondOf (Mul left right) t u.key (visit_multiplied job.depth u.key (record { first = u.first; second = u.second }) first second)
    second_known t before read_t =
        let known = known_source job Reconstructed right t planned before read_t in
        let found = leaf_found job (Mul left right) right u.key u.second second t planned before read_t read_t is.second other in
        subst (λ (d : ℕ). SecondOf (Mul left right) t u.key (multiply_leaves d u.key (leaf_at u.first first) (leaf_at u.second second))) known.depth_is
        (second_of (Mul left right) t u.key known.tree refl (key_in t known) (leaf_at u.first first) (leaf_at u.second second) found)

    late : (place : u.key.at < 2 ^ u.key.level) → standing job u.command ≡ After → IsDecision job u.command (Mul left right) u.key place (visit_multiplied job.depth u.key (record { first = u.first; second = u.second }) first second)
    late place after = after_decision job u.command (Mul left right) u.key place is.command.at after (visit_multiplied job.depth u.key (record { first = u.first; second = u.second }) first second)

    early : (place : u.key.at < 2 ^ u.key.level) → standing job left ≡ Before → standing job right ≡ Before
        → IsDecision job u.command (Mul left right) u.key place (visit_multiplied job.depth u.key (record { first = u.first; second = u.second }) first second)
    early place before_f before_g =
        let p = plan job planned u.command left right is.command.at in
        let known_f = known_source job Reconstructed left p.first planned before_f p.read_first in
        let known_g = known_source job Reconstructed right p.second planned before_g p.read_second in
        let found_f = leaf_found job (Mul left right) left u.key u.first first p.first planned before_f p.read_first p.read_first is.first read in
        let found_g = leaf_found job (Mul left right) right u.key u.second second p.second planned before_g p.read_second p.read_second is.second other in
        subst (λ (v : Visit). IsDecision job u.command (Mul left right) u.key place v) (sym (λ i. multiply_leaves (sym known_f.depth_is i) u.key (found_f i) (found_g i)))
        (decision job planned u.command left right is.command.at u.key place is.key is.visited known_f known_g (p.first.shape (child u.key false)) (p.second.shape (child u.key false)) refl refl)

pub mul_combined : (left right : ℕ) → IsCombinedRightly (Mul left right)
mul_combined l r job u left right planned is first second =
    let p = plan job planned u.command l r is.command.at in
    done_right job (Mul l r) u left right (version_with Reconstructed (product p.first p.second)) is p.written (version_is_tree job u.command (version_with Reconstructed (product p.first p.second)) p.written).depth_is
    (λ k v meant. subst (λ (o : Option Version). IfSome o (λ version. v ≡ Done)) p.written meant)
    (some_of (λ (version : Version). Done ≡ Done) (version_of job u.command) (version_with Reconstructed (product p.first p.second)) p.written refl)
    first second
