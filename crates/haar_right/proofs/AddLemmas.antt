-- Units of `add` decide rightly.
use Rattle.std.proofs.Common.{◌≡◌, ⊎_elim, ℕ, ◌*◌, ◌<◌, ◌^◌, Bool, true, false, refl, sym, ap, ◌∙◌, subst, arith, ℤ, pos}
use Rattle.std.specs.Prelude.{◌&&◌, ◌||◌, ◌==◌, nat_le, nat_lt, not, if◌then◌else◌, Option, Some, None, IfSome}
use Rattle.std.specs.Int.RustNames.{unsigned_abs}
use Rattle.std.specs.Option.{unwrap_or}
use Rattle.std.proofs.lemmas.Bool.{and_parts, leb-false, lt-ltb, ltb-true, false_from_ne_true}
use Rattle.tree_key.specs.Keys.{Key, child, width}
use Rattle.tree_key.proofs.FamilyLemmas.{child_fits}
use Rattle.tree_model.specs.Functions.{max_value}
use Rattle.tree_model.specs.Nodes.{max_number}
use Rattle.tree_model.specs.Nodes.Form.{Compressed}
use Rattle.tree_model.specs.Operations.{union, weighted_sum}
use Rattle.tree_model.specs.Shapes.{is_key_of, is_interior}
use Rattle.tree_model.specs.StoredTrees.{difference_at}
use Rattle.tree_model.specs.Totals.{over}
use Rattle.tree_model.specs.Trees.{Tree, IsTree, box_sum, difference}
use Rattle.tree_model.specs.Versions.{Version, tree_in}
use Rattle.haar_node.specs.declared.Node.{Node}
use Rattle.haar_node.specs.Node.{node_of}
use Rattle.haar_base.specs.declared.operation.Operation.{Operation}
use Rattle.haar_base.specs.declared.operation.Operation.TheVariants.{Add}
use Rattle.haar_base.specs.declared.value.Value.TheVariants.{Done}
use Rattle.haar_base.specs.declared.decisions.Visit.{Visit}
use Rattle.haar_base.specs.declared.decisions.Visit.TheVariants as visits
use Rattle.haar_base.specs.declared.readings.Sums.{Sums}
use Rattle.haar_base.specs.Decisions.{bad_visit}
use Rattle.haar_base.specs.Numbers.{coefficient}
use Rattle.haar_base.specs.Operations.{operation_at}
use Rattle.haar_base.specs.Readings.{sums, sums_at, sum_sides}
use Rattle.haar_visits.specs.Compressing.{compressed_node}
use Rattle.haar_visits.proofs.FormLemmas.{visited}
use Rattle.haar_meaning.specs.PlannedJobs.{PlannedJob, IsPlannedJob, standing, version_of}
use Rattle.haar_meaning.specs.PlannedJobs.Standing.{Before, After}
use Rattle.haar_meaning.specs.RightValues.{overflows_on}
use Rattle.haar_meaning.specs.RightCells.{stored_node}
use Rattle.haar_meaning.specs.Sides.{knows_sums}
use Rattle.haar_meaning.specs.JobUnits.{IsVisited}
use Rattle.haar_right.specs.Laws.{IsVisitedRightly, IsCombinedRightly}
use Rattle.haar_right.proofs.KnownLemmas.{IsKnown, before_if, version_is_tree}
use Rattle.haar_right.proofs.PlanLemmas.{version_with, Adds, add_plan}
use Rattle.haar_right.proofs.ReadingLemmas.{child_key, interior_from, child_sides, sums_children}
use Rattle.haar_right.proofs.DecisionLemmas.{read_is_some, known_or_after, fits_of, visited_by, is_visited, IsDecision, whole_visit, after_decision, FirstOf, SecondOf, two_sides}
use Rattle.haar_right.proofs.WrittenLemmas.{some_of, stored_sums, stored_compressed, put_written, done_right}
use Rattle.haar_right.proofs.SourceLemmas.{sums_found, known_source}
use Rattle.std.specs.Prelude.{is_none, length}
use Rattle.tree_model.proofs.CombinedSumLemmas.{sums_linear}
use Rattle.tree_model.proofs.StoredTreeLemmas.{whole_boxes_are_even}
use Rattle.haar_visits.specs.declared.adding.Factors.{Factors}
use Rattle.haar_visits.specs.Adding.{weighted, add_leaf, kept_sum, add_difference, split_two, add_cut_by, add_cut, add_both, add_sums, visit_added}
use Rattle.haar_visits.specs.Visits.{factors}
use Rattle.haar_right.proofs.OverflowLemmas.{whole_overflow, difference_low, sum_low}
use Rattle.haar_right.proofs.TwoTreeLemmas.{split_first, split_second, value_over, overflow_given, bad_right}

-- the difference of a key, by whether it has children

diff_is : (t : Tree) (k : Key) (cut : Bool) → IsTree t → t.shape (child k false) ≡ cut → difference_at t k ≡ (if cut then Some (difference t k) else None)
diff_is t k true tree is = ap (λ (b : Bool). if b then Some (difference t k) else None) (interior_from t k (tree.shape.parents k false is) is)
diff_is t k false tree is = ap (λ (b : Bool). if b then Some (difference t k) else None) (false_from_ne_true (is_interior t.shape k) (λ both. let cut = (and_parts (t.shape k) (t.shape (child k false)) both).1 in absurd (cc)))

unwrapped : (t : Tree) (k : Key) (cut : Bool) → IsTree t → is_key_of t.depth k ≡ true → k.level < t.depth → t.shape (child k false) ≡ cut → unwrap_or (difference_at t k) (pos 0) ≡ difference t k
unwrapped t k true tree key above is = ap (λ (d : Option ℤ). unwrap_or d (pos 0)) (diff_is t k true tree is)
unwrapped t k false tree key above is = ap (λ (d : Option ℤ). unwrap_or d (pos 0)) (diff_is t k false tree is) ∙ sym (whole_boxes_are_even t k tree (record { key = key; uncut = is }) above)

-- what the children's units know of one tree, whatever is read of the other

module _ (operation : Operation) (f : Factors) (t : Tree) (k : Key) (tree : IsTree t) (knows : knows_sums operation ≡ true) (key : is_key_of t.depth k ≡ true) where
  first_cut : (difference sum : Option ℤ) (right : Sums) → k.level < t.depth → FirstOf operation t k (add_cut_by k difference sum (sum_sides (sums (box_sum t k) (difference_at t k))) (sum_sides right))
  first_cut None sum right above = tt
  first_cut (Some d) None right above = tt
  first_cut (Some d) (Some s) right above = split_first operation t k (compressed_node k (sums s (Some d))) (sum_sides (sums (box_sum t k) (difference_at t k))) (sum_sides right) (sums_children operation t k tree knows key above)

  second_cut : (difference sum : Option ℤ) (left : Sums) → k.level < t.depth → SecondOf operation t k (add_cut_by k difference sum (sum_sides left) (sum_sides (sums (box_sum t k) (difference_at t k))))
  second_cut None sum left above = tt
  second_cut (Some d) None left above = tt
  second_cut (Some d) (Some s) left above = split_second operation t k (compressed_node k (sums s (Some d))) (sum_sides left) (sum_sides (sums (box_sum t k) (difference_at t k))) (sums_children operation t k tree knows key above)

  first_of : (right : Option Sums) → FirstOf operation t k (add_sums t.depth f k (Some (sums (box_sum t k) (difference_at t k))) right)
  first_of None = tt
  first_of (Some right) = go (is_none (difference_at t k) && is_none right.difference) (nat_lt k.level t.depth) refl (nat_le (unsigned_abs (weighted f (box_sum t k) right.sum)) (width t.depth k * max_value))
    where
      go : (leaf above : Bool) → nat_lt k.level t.depth ≡ above → (low : Bool) → FirstOf operation t k (if leaf
          then (if low then visits.Give (Some (compressed_node k (sums (weighted f (box_sum t k) right.sum) None))) Done else bad_visit true)
          else if above then add_cut f k (sums (box_sum t k) (difference_at t k)) right else bad_visit true)
      go true above e true = tt
      go true above e false = tt
      go false true e low = first_cut (add_difference f (sums (box_sum t k) (difference_at t k)) right) (kept_sum f k (sums (box_sum t k) (difference_at t k)) right) right (ltb-true k.level t.depth e)
      go false false e low = tt

  second_of : (left : Option Sums) → SecondOf operation t k (add_sums t.depth f k left (Some (sums (box_sum t k) (difference_at t k))))
  second_of None = tt
  second_of (Some left) = go (is_none left.difference && is_none (difference_at t k)) (nat_lt k.level t.depth) refl (nat_le (unsigned_abs (weighted f left.sum (box_sum t k))) (width t.depth k * max_value))
    where
      go : (leaf above : Bool) → nat_lt k.level t.depth ≡ above → (low : Bool) → SecondOf operation t k (if leaf
          then (if low then visits.Give (Some (compressed_node k (sums (weighted f left.sum (box_sum t k)) None))) Done else bad_visit true)
          else if above then add_cut f k left (sums (box_sum t k) (difference_at t k)) else bad_visit true)
      go true above e true = tt
      go true above e false = tt
      go false true e low = second_cut (add_difference f left (sums (box_sum t k) (difference_at t k))) (kept_sum f k left (sums (box_sum t k) (difference_at t k))) left (ltb-true k.level t.depth e)
      go false false e low = tt

module _ (job : PlannedJob) (planned : IsPlannedJob job) (command : ℕ) (a : ℤ) (left : ℕ) (b : ℤ) (right : ℕ) (at : operation_at job.operations command ≡ Some (Add a left b right)) where
  abbrev operation : Operation
  operation = Add a left b right

  plan : Adds job planned command a left b right
  plan = add_plan job planned command a left b right (planned.plans command operation at)

  abbrev f : Tree
  f = plan.first

  abbrev g : Tree
  g = plan.second

  abbrev h : Tree
  h = weighted_sum a f b g

  abbrev w : Version
  w = version_with Compressed h

  module _ (k : Key) (place : k.at < 2 ^ k.level) (key : is_key_of job.depth k ≡ true) (seen : IsVisited job command k) (known_f : IsKnown job.depth f) (known_g : IsKnown job.depth g) where
    tree_h : IsTree h
    tree_h = (version_is_tree job command w plan.written).tree

    same : f.depth ≡ g.depth
    same = known_f.depth_is ∙ sym known_g.depth_is

    cells : length f.cells ≡ length g.cells
    cells = known_f.tree.cells ∙ ap (λ (d : ℕ). 2 ^ d) same ∙ sym known_g.tree.cells

    key_f : is_key_of f.depth k ≡ true
    key_f = subst (λ (d : ℕ). is_key_of d k ≡ true) (sym known_f.depth_is) key

    key_g : is_key_of g.depth k ≡ true
    key_g = subst (λ (d : ℕ). is_key_of d k ≡ true) (sym known_g.depth_is) key

    inside : standing job command ≡ Before → h.shape k ≡ true
    inside before = is_visited job command operation k place (over (union f.shape g.shape)) plan.visited before seen

    sum_is : box_sum h k ≡ weighted (factors a b) (box_sum f k) (box_sum g k)
    sum_is = sums_linear.sums a f b g k cells same

    bad : overflows_on h k ≡ true → IsDecision job command operation k place (bad_visit true)
    bad over = bad_right job planned command operation k place at w plan.written (λ v meant. meant) over

    leaf_decision : f.shape (child k false) ≡ false → g.shape (child k false) ≡ false → IsDecision job command operation k place (add_leaf job.depth (factors a b) k (sums (box_sum f k) None) (sums (box_sum g k) None))
    leaf_decision whole_f whole_g =
        subst (λ (z : ℤ). IsDecision job command operation k place (if nat_le (unsigned_abs z) (width job.depth k * max_value) then visits.Give (Some (compressed_node k (sums z None))) Done else bad_visit true)) sum_is
        (go (nat_le (unsigned_abs (box_sum h k)) (width job.depth k * max_value)) refl)
      where
        whole : h.shape (child k false) ≡ false
        whole = λ i. whole_f i || whole_g i

        over : overflows_on h k ≡ not (nat_le (unsigned_abs (box_sum h k)) (width job.depth k * max_value))
        over = whole_overflow h k tree_h (record { key = key_f; uncut = whole }) ∙ ap (λ (d : ℕ). not (nat_le (unsigned_abs (box_sum h k)) (width d k * max_value))) known_f.depth_is

        go : (low : Bool) → nat_le (unsigned_abs (box_sum h k)) (width job.depth k * max_value) ≡ low
            → IsDecision job command operation k place (if low then visits.Give (Some (compressed_node k (sums (box_sum h k) None))) Done else bad_visit true)
        go true low = (
          put_written job command operation k place w (compressed_node k (sums (box_sum h k) None)) plan.written (λ before. stored_compressed h k false (inside before) whole),
          overflow_given job planned command operation k place at w plan.written (λ v meant. meant) Done (value_over h k false (over ∙ ap not low)),
        )
        go false low = bad (over ∙ ap not low)

    -- a key with children in the sum
    splits : (n : Node) → (standing job command ≡ Before → node_of n ≡ stored_node w k) → h.shape (child k false) ≡ true
        → IsDecision job command operation k place (split_two n (Some (child_sides operation f k)) (Some (child_sides operation g k)))
    splits n stored cut = (
      put_written job command operation k place w n plan.written stored,
      visited_by job command operation (child k false) (child_fits k.level k.at false place) (over (union f.shape g.shape)) plan.visited (λ before. cut),
      visited_by job command operation (child k true) (child_fits k.level k.at true place) (over (union f.shape g.shape)) plan.visited (λ before. tree_h.shape.children k ∙ cut),
      before_if (standing job command) (λ before. refl),
    )

    by_sum : k.level < f.depth → h.shape (child k false) ≡ true → (root : Bool) → (k.level == 0) ≡ root
        → IsDecision job command operation k place (add_cut_by k (Some (difference h k)) (if root then coefficient (box_sum h k) else Some (pos 0)) (Some (child_sides operation f k)) (Some (child_sides operation g k)))
    by_sum above cut true root = go (nat_le (unsigned_abs (box_sum h k)) max_number) refl
      where
        go : (low : Bool) → nat_le (unsigned_abs (box_sum h k)) max_number ≡ low
            → IsDecision job command operation k place (add_cut_by k (Some (difference h k)) (if low then Some (box_sum h k) else None) (Some (child_sides operation f k)) (Some (child_sides operation g k)))
        go true low = splits (compressed_node k (sums (box_sum h k) (Some (difference h k)))) (λ before. stored_compressed h k true (inside before) cut) cut
        go false low = bad (over_where (overflows_on h k) refl)
          where
            over_where : (o : Bool) → overflows_on h k ≡ o → overflows_on h k ≡ true
            over_where true is = is
            over_where false is = absurd (let small = sum_low h k known_f.shallow is in let large = leb-false (unsigned_abs (box_sum h k)) max_number low in omega (arith, small, large))
    by_sum above cut false root = splits (compressed_node k (sums (pos 0) (Some (difference h k))))
        (λ before. ap (λ (b : Bool). node_of (compressed_node k (sums (if b then box_sum h k else pos 0) (Some (difference h k))))) (sym root) ∙ stored_sums h k true (inside before) cut) cut

    by_difference : k.level < f.depth → h.shape (child k false) ≡ true
        → IsDecision job command operation k place (add_cut_by k (coefficient (difference h k)) (if k.level == 0 then coefficient (box_sum h k) else Some (pos 0)) (Some (child_sides operation f k)) (Some (child_sides operation g k)))
    by_difference above cut = go (nat_le (unsigned_abs (difference h k)) max_number) refl
      where
        over_where : (o : Bool) → overflows_on h k ≡ o → nat_le (unsigned_abs (difference h k)) max_number ≡ false → overflows_on h k ≡ true
        over_where true is low = is
        over_where false is low = absurd (let small = difference_low h k known_f.shallow above is in let large = leb-false (unsigned_abs (difference h k)) max_number low in omega (arith, small, large))

        go : (low : Bool) → nat_le (unsigned_abs (difference h k)) max_number ≡ low
            → IsDecision job command operation k place (add_cut_by k (if low then Some (difference h k) else None) (if k.level == 0 then coefficient (box_sum h k) else Some (pos 0)) (Some (child_sides operation f k)) (Some (child_sides operation g k)))
        go true low = by_sum above cut (k.level == 0) refl
        go false low = bad (over_where (overflows_on h k) refl low)

    cut_decision : (cut_f cut_g : Bool) → f.shape (child k false) ≡ cut_f → g.shape (child k false) ≡ cut_g → k.level < f.depth → h.shape (child k false) ≡ true
        → IsDecision job command operation k place (add_cut (factors a b) k (sums (box_sum f k) (difference_at f k)) (sums (box_sum g k) (difference_at g k)))
    cut_decision cut_f cut_g is_f is_g above cut =
        let above_g : k.level < g.depth = subst (λ (d : ℕ). k.level < d) same above in
        let diffs : weighted (factors a b) (unwrap_or (difference_at f k) (pos 0)) (unwrap_or (difference_at g k) (pos 0)) ≡ difference h k =
        (λ i. weighted (factors a b) (unwrapped f k cut_f known_f.tree key_f above is_f i) (unwrapped g k cut_g known_g.tree key_g above_g is_g i)) ∙ sym (sums_linear.differences a f b g k cells same) in
        let sides_f = sums_children operation f k known_f.tree refl key_f above in
        let sides_g = sums_children operation g k known_g.tree refl key_g above_g in
        let all : add_cut (factors a b) k (sums (box_sum f k) (difference_at f k)) (sums (box_sum g k) (difference_at g k))
        ≡ add_cut_by k (coefficient (difference h k)) (if k.level == 0 then coefficient (box_sum h k) else Some (pos 0)) (Some (child_sides operation f k)) (Some (child_sides operation g k)) =
        (λ i. add_cut_by k (coefficient (diffs i)) (if k.level == 0 then coefficient (sym sum_is i) else Some (pos 0)) (sides_f i) (sides_g i)) in
        subst (λ (v : Visit). IsDecision job command operation k place v) (sym all) (by_difference above cut)

    both_decision : (cut_f cut_g : Bool) → f.shape (child k false) ≡ cut_f → g.shape (child k false) ≡ cut_g → k.level < f.depth → h.shape (child k false) ≡ true
        → (is_none (difference_at f k) && is_none (difference_at g k)) ≡ false
        → IsDecision job command operation k place (add_both job.depth (factors a b) k (sums (box_sum f k) (difference_at f k)) (sums (box_sum g k) (difference_at g k)))
    both_decision cut_f cut_g is_f is_g above cut none =
        let high : k.level < job.depth = subst (λ (d : ℕ). k.level < d) known_f.depth_is above in
        subst (λ (e : Bool). IsDecision job command operation k place (if e
        then add_leaf job.depth (factors a b) k (sums (box_sum f k) (difference_at f k)) (sums (box_sum g k) (difference_at g k))
        else if nat_lt k.level job.depth then add_cut (factors a b) k (sums (box_sum f k) (difference_at f k)) (sums (box_sum g k) (difference_at g k)) else bad_visit true)) (sym none)
        (subst (λ (e : Bool). IsDecision job command operation k place (if e then add_cut (factors a b) k (sums (box_sum f k) (difference_at f k)) (sums (box_sum g k) (difference_at g k)) else bad_visit true)) (sym (lt-ltb k.level job.depth high))
        (cut_decision cut_f cut_g is_f is_g above cut))

    or_true : (b : Bool) → (b || true) ≡ true
    or_true true = refl
    or_true false = refl

    and_none : (o : Option ℤ) → (is_none o && false) ≡ false
    and_none None = refl
    and_none (Some z) = refl

    decision : (cut_f cut_g : Bool) → f.shape (child k false) ≡ cut_f → g.shape (child k false) ≡ cut_g
        → IsDecision job command operation k place (add_both job.depth (factors a b) k (sums (box_sum f k) (difference_at f k)) (sums (box_sum g k) (difference_at g k)))
    decision true cut_g is_f is_g =
        both_decision true cut_g is_f is_g (child_key f k false known_f.tree is_f) (λ i. is_f i || g.shape (child k false)) (λ i. is_none (diff_is f k true known_f.tree is_f i) && is_none (difference_at g k))
    decision false true is_f is_g =
        both_decision false true is_f is_g (subst (λ (d : ℕ). k.level < d) (sym same) (child_key g k false known_g.tree is_g)) ((λ i. f.shape (child k false) || is_g i) ∙ or_true (f.shape (child k false)))
        ((λ i. is_none (difference_at f k) && is_none (diff_is g k true known_g.tree is_g i)) ∙ and_none (difference_at f k))
    decision false false is_f is_g =
        subst (λ (v : Visit). IsDecision job command operation k place v)
        (sym (λ i. add_both job.depth (factors a b) k (sums (box_sum f k) (diff_is f k false known_f.tree is_f i)) (sums (box_sum g k) (diff_is g k false known_g.tree is_g i)))) (leaf_decision is_f is_g)

pub add_visited : (a : ℤ) (left : ℕ) (b : ℤ) (right : ℕ) → IsVisitedRightly (Add a left b right)
add_visited a left b right job u first second planned is read other =
    let place = fits_of job.depth u.key is.key in
    let p = plan job planned u.command a left b right is.command.at in
    whole_visit job u.command (Add a left b right) u.key place is.key is.command (visit_added job.depth (factors a b) u.key (record { first = u.first; second = u.second }) first second)
    (visited job.depth (Add a left b right) u.key (record { first = u.first; second = u.second }) first second refl)
    (two_sides job u.command (Add a left b right) u.key place (visit_added job.depth (factors a b) u.key (record { first = u.first; second = u.second }) first second)
    (read_is_some job Compressed left p.first p.read_first) (read_is_some job Compressed right p.second p.read_second) first_known second_known)
    (⊎_elim (λ one. ⊎_elim (early place one) (late place) (known_or_after job u.command right p.earlier_right)) (late place) (known_or_after job u.command left p.earlier_left))
  where
    key_in : (t : Tree) → IsKnown job.depth t → is_key_of t.depth u.key ≡ true
    key_in t known = subst (λ (d : ℕ). is_key_of d u.key ≡ true) (sym known.depth_is) is.key

    first_known : (t : Tree) → standing job left ≡ Before → tree_in Compressed (version_of job left) ≡ Some t → FirstOf (Add a left b right) t u.key (visit_added job.depth (factors a b) u.key (record { first = u.first; second = u.second }) first second)
    first_known t before read_t =
        let known = known_source job Compressed left t planned before read_t in
        let found = sums_found job (Add a left b right) left u.key u.first first t before refl read_t read_t is.first read in
        subst (λ (o : Option Sums). FirstOf (Add a left b right) t u.key (add_sums job.depth (factors a b) u.key o (sums_at (u.key.level == 0) u.second second))) (sym found)
        (subst (λ (d : ℕ). FirstOf (Add a left b right) t u.key (add_sums d (factors a b) u.key (Some (sums (box_sum t u.key) (difference_at t u.key))) (sums_at (u.key.level == 0) u.second second))) known.depth_is
        (first_of (Add a left b right) (factors a b) t u.key known.tree refl (key_in t known) (sums_at (u.key.level == 0) u.second second)))

    second_known : (t : Tree) → standing job right ≡ Before → tree_in Compressed (version_of job right) ≡ Some t → SecondOf (Add a left b right) t u.key (visit_added job.depth (factors a b) u.key (record { first = u.first; second = u.second }) first second)
    second_known t before read_t =
        let known = known_source job Compressed right t planned before read_t in
        let found = sums_found job (Add a left b right) right u.key u.second second t before refl read_t read_t is.second other in
        subst (λ (o : Option Sums). SecondOf (Add a left b right) t u.key (add_sums job.depth (factors a b) u.key (sums_at (u.key.level == 0) u.first first) o)) (sym found)
        (subst (λ (d : ℕ). SecondOf (Add a left b right) t u.key (add_sums d (factors a b) u.key (sums_at (u.key.level == 0) u.first first) (Some (sums (box_sum t u.key) (difference_at t u.key))))) known.depth_is
        (second_of (Add a left b right) (factors a b) t u.key known.tree refl (key_in t known) (sums_at (u.key.level == 0) u.first first)))

    late : (place : u.key.at < 2 ^ u.key.level) → standing job u.command ≡ After → IsDecision job u.command (Add a left b right) u.key place (visit_added job.depth (factors a b) u.key (record { first = u.first; second = u.second }) first second)
    late place after = after_decision job u.command (Add a left b right) u.key place is.command.at after (visit_added job.depth (factors a b) u.key (record { first = u.first; second = u.second }) first second)

    early : (place : u.key.at < 2 ^ u.key.level) → standing job left ≡ Before → standing job right ≡ Before
        → IsDecision job u.command (Add a left b right) u.key place (visit_added job.depth (factors a b) u.key (record { first = u.first; second = u.second }) first second)
    early place before_f before_g =
        let p = plan job planned u.command a left b right is.command.at in
        let known_f = known_source job Compressed left p.first planned before_f p.read_first in
        let known_g = known_source job Compressed right p.second planned before_g p.read_second in
        let found_f = sums_found job (Add a left b right) left u.key u.first first p.first before_f refl p.read_first p.read_first is.first read in
        let found_g = sums_found job (Add a left b right) right u.key u.second second p.second before_g refl p.read_second p.read_second is.second other in
        subst (λ (v : Visit). IsDecision job u.command (Add a left b right) u.key place v) (sym (λ i. add_sums job.depth (factors a b) u.key (found_f i) (found_g i)))
        (decision job planned u.command a left b right is.command.at u.key place is.key is.visited known_f known_g (p.first.shape (child u.key false)) (p.second.shape (child u.key false)) refl refl)

pub add_combined : (a : ℤ) (left : ℕ) (b : ℤ) (right : ℕ) → IsCombinedRightly (Add a left b right)
add_combined a l b r job u left right planned is first second =
    let p = plan job planned u.command a l b r is.command.at in
    done_right job (Add a l b r) u left right (version_with Compressed (weighted_sum a p.first b p.second)) is p.written (version_is_tree job u.command (version_with Compressed (weighted_sum a p.first b p.second)) p.written).depth_is
    (λ k v meant. subst (λ (o : Option Version). IfSome o (λ version. v ≡ Done)) p.written meant)
    (some_of (λ (version : Version). Done ≡ Done) (version_of job u.command) (version_with Compressed (weighted_sum a p.first b p.second)) p.written refl)
    first second
