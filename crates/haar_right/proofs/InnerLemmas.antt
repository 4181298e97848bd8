-- Units of `inner` decide rightly.
use Rattle.std.proofs.Common.{◌≡◌, ℕ, ◌+◌, ◌<◌, ◌≤◌, ◌^◌, Bool, true, false, refl, sym, ap, ◌∙◌, subst, arith, ℤ, pos, ◌+ℤ◌, ◌*ℤ◌}
use Rattle.std.specs.Prelude.{◌&&◌, ◌==◌, nat_le, nat_lt, if◌then◌else◌, Option, Some, None}
use Rattle.std.specs.Int.RustNames.{unsigned_abs, int_div}
use Rattle.std.proofs.lemmas.Bool.{and_parts, eqb-true, ne_eqb, and_from, lt-ltb, le-leb, and_right}
use Rattle.std.proofs.lemmas.Nat.{pow_pos}
use Rattle.tree_key.specs.Keys.{Key, child}
use Rattle.tree_key.proofs.FamilyLemmas.{child_fits}
use Rattle.tree_model.specs.Functions.{max_depth}
use Rattle.tree_model.specs.Nodes.Form.{Compressed}
use Rattle.tree_model.specs.Products.{is_common, inner_product, inner_part}
use Rattle.tree_model.specs.Shapes.{is_key_of, is_interior}
use Rattle.tree_model.specs.StoredTrees.{difference_at}
use Rattle.tree_model.specs.Totals.{over, intersection}
use Rattle.tree_model.specs.Trees.{Tree, IsTree, HasValues, box_sum, difference}
use Rattle.tree_model.specs.Versions.{tree_in, two_trees}
use Rattle.haar_node.specs.declared.Node.{Node}
use Rattle.haar_base.specs.declared.operation.Operation.{Operation}
use Rattle.haar_base.specs.declared.operation.Operation.TheVariants.{Inner}
use Rattle.haar_base.specs.declared.unit.Side.{Side}
use Rattle.haar_base.specs.declared.unit.Side.TheVariants.{Below}
use Rattle.haar_base.specs.declared.unit.Held.{Held}
use Rattle.haar_base.specs.declared.value.Value.{Value}
use Rattle.haar_base.specs.declared.value.Value.TheVariants.{Product, Bad}
use Rattle.haar_base.specs.declared.decisions.Visit.{Visit}
use Rattle.haar_base.specs.declared.decisions.Visit.TheVariants as visits
use Rattle.haar_base.specs.declared.readings.Sums.{Sums}
use Rattle.haar_base.specs.declared.readings.ChildSides.{ChildSides}
use Rattle.haar_base.specs.Decisions.{bad_visit}
use Rattle.haar_base.specs.Operations.{operation_at}
use Rattle.haar_base.specs.Readings.{sums, sums_at, entry}
use Rattle.haar_visits.proofs.FormLemmas.{visited}
use Rattle.haar_meaning.specs.PlannedJobs.{PlannedJob, IsPlannedJob, Standing, standing, version_of}
use Rattle.haar_meaning.specs.PlannedJobs.Standing.{Before, At, After}
use Rattle.haar_meaning.specs.Sides.{form_read, knows_sums, side_of, IsRightSide}
use Rattle.haar_meaning.specs.RightDecisions.{IsRightGive}
use Rattle.haar_right.specs.Laws.{IsRightRead, IsVisitedRightly, IsCombinedRightly}
use Rattle.haar_right.proofs.KnownLemmas.{IsKnown, before_if, source_is_before}
use Rattle.haar_right.proofs.PlanLemmas.{Inners, inner_plan}
use Rattle.haar_right.proofs.ReadingLemmas.{root_sum, child_key, interior_from, side_with, no_difference, sides_unknown}
use Rattle.haar_right.proofs.DecisionLemmas.{side_is, read_is_some, fits_of, child_is_key_of, give_right, given_before, visited_by, is_visited, IsDecision, whole_visit, after_decision, after_give, FirstOf, SecondOf, two_sides}
use Rattle.haar_right.proofs.WrittenLemmas.{some_of}
use Rattle.haar_right.proofs.SourceLemmas.{root_sums_found, known_source}
use Rattle.tree_key.specs.Keys.{root}
use Rattle.tree_key.proofs.BoxLemmas.{same_key}
use Rattle.tree_model.proofs.InnerProductLemmas.{product_law, inner_parts_follow}
use Rattle.tree_model.proofs.BoundLemmas.{inner_parts_fit}
use Rattle.tree_model.proofs.IntegerLemmas.{quotient_of_a_multiple}
use Rattle.haar_base.specs.Numbers.{divides}
use Rattle.haar_visits.specs.InnerProducts.{whole_product, given_product, haar, both_entries, inner_by, inner_sums, visit_inner, inner_value}
use Rattle.haar_meaning.specs.RightValues.{both_read}
use Rattle.haar_meaning.specs.Sides.{haar_of}
use Rattle.haar_right.proofs.KnownLemmas.{if_before, if_some, no_version_not_over}
use Rattle.haar_meaning.specs.RightValues.{inner_value as meant_value}

-- what is given

pub root_key : (k : Key) → k.level ≡ 0 → k.at < 2 ^ k.level → k ≡ root
root_key k top within = same_key k root top (let one : k.at < 1 = subst (λ (n : ℕ). k.at < 2 ^ n) top within in omega (arith, one))

module _ (f g : Tree) (tree_f : IsTree f) (tree_g : IsTree g) (same : f.depth ≡ g.depth) (shallow : f.depth ≤ max_depth) (values_f : HasValues f) (values_g : HasValues g) where
  at_root : whole_product f.depth (box_sum f root) (box_sum g root) (inner_part f g root) ≡ Product (inner_product f g)
  at_root =
      let fit = inner_parts_fit f g tree_f tree_g same shallow values_f values_g in
      let law = product_law f g tree_f tree_g same in
      let exact : divides (2 ^ f.depth) (box_sum f root *ℤ box_sum g root +ℤ inner_part f g root) ≡ true = ap (λ (z : ℤ). unsigned_abs z == 0) fit.exact in
      let some = some_cells f.depth in
      (λ i. if exact i then Product (int_div (box_sum f root *ℤ box_sum g root +ℤ inner_part f g root) (pos (2 ^ f.depth))) else Bad)
      ∙ ap Product (ap (λ (z : ℤ). int_div z (pos (2 ^ f.depth))) law ∙ quotient_of_a_multiple (2 ^ f.depth) (inner_product f g) some)
    where
      some_cells : (d : ℕ) → 0 < 2 ^ d
      some_cells d = pow_pos d

  given_is : (k : Key) → k.at < 2 ^ k.level → given_product f.depth k (root_sum f k) (root_sum g k) (inner_part f g k) ≡ meant_value f g k
  given_is k within = go (k.level == 0) refl
    where
      go : (top : Bool) → (k.level == 0) ≡ top
          → (if top then whole_product f.depth (if top then box_sum f k else pos 0) (if top then box_sum g k else pos 0) (inner_part f g k) else Product (inner_part f g k)) ≡ Product (if top then inner_product f g else inner_part f g k)
      go true is = ap (λ (c : Key). whole_product f.depth (box_sum f c) (box_sum g c) (inner_part f g c)) (root_key k (eqb-true k.level 0 is) within) ∙ at_root
      go false is = refl

-- what the children's units know of one tree, whatever is read of the other

pub entries_is : (operation : Operation) (t : Tree) (k : Key) → IsTree t → knows_sums operation ≡ false → t.shape (child k false) ≡ true → (entry ≡ side_of operation t (child k false)) × (entry ≡ side_of operation t (child k true))
entries_is operation t k tree unknown cut =
    let same = sides_unknown operation t k tree unknown cut in
    (sym (ap (λ (c : ChildSides). c.left) same), sym (ap (λ (c : ChildSides). c.right) same))

pub cut_of : (t : Tree) (k : Key) (d : ℤ) → difference_at t k ≡ Some d → t.shape (child k false) ≡ true
cut_of t k d e = go (t.shape k) (t.shape (child k false)) e
  where
    go : (inside cut : Bool) → (if inside && cut then Some (difference t k) else None) ≡ Some d → cut ≡ true
    go true true e = refl
    go true false e = absurd (cc)
    go false cut e = absurd (cc)

module _ (operation : Operation) (t : Tree) (k : Key) (depth : ℕ) (sum : ℤ) (tree : IsTree t) (unknown : knows_sums operation ≡ false) where
  first_of : (right : Option Sums) → FirstOf operation t k (inner_sums depth k (Some (sums sum (difference_at t k))) right)
  first_of None = tt
  first_of (Some right) = go (difference_at t k) refl right.difference
    where
      go : (d : Option ℤ) → difference_at t k ≡ d → (e : Option ℤ) → FirstOf operation t k (inner_by depth k sum d right.sum e)
      go None is e = tt
      go (Some d) is None = tt
      go (Some d) is (Some e) = here (nat_lt k.level depth)
        where
          here : (above : Bool) → FirstOf operation t k (if above then visits.Split None both_entries both_entries (record { first = haar sum d; second = haar right.sum e }) else bad_visit false)
          here true = entries_is operation t k tree unknown (cut_of t k d is)
          here false = tt

  second_of : (left : Option Sums) → SecondOf operation t k (inner_sums depth k left (Some (sums sum (difference_at t k))))
  second_of None = tt
  second_of (Some left) = go left.difference (difference_at t k) refl
    where
      go : (e d : Option ℤ) → difference_at t k ≡ d → SecondOf operation t k (inner_by depth k left.sum e sum d)
      go None d is = tt
      go (Some e) None is = tt
      go (Some e) (Some d) is = here (nat_lt k.level depth)
        where
          here : (above : Bool) → SecondOf operation t k (if above then visits.Split None both_entries both_entries (record { first = haar left.sum e; second = haar sum d }) else bad_visit false)
          here true = entries_is operation t k tree unknown (cut_of t k d is)
          here false = tt

-- the sums at any key, of the tree or below a leaf
pub record SumsAt (root : Bool) (side : Side) (cell : Option Node) (d : Option ℤ) : Type 0 where
  pub sum : ℤ
  pub is : sums_at root side cell ≡ Some (sums sum d)

pub any_sums : (job : PlannedJob) (operation : Operation) (source : ℕ) (k : Key) (side : Side) (cell : Option Node) (t : Tree) → standing job source ≡ Before → knows_sums operation ≡ false
    → tree_in (form_read operation) (version_of job source) ≡ Some t → tree_in Compressed (version_of job source) ≡ Some t
    → IsRightSide job operation source k side → IsRightRead job source k side cell → SumsAt (k.level == 0) side cell (difference_at t k)
any_sums job operation source k side cell t before unknown read read_as right_side right_read = go (t.shape k) refl
  where
    below_sums : (root : Bool) → sums_at root (Below (box_sum t k)) cell ≡ Some (sums (box_sum t k) None)
    below_sums true = refl
    below_sums false = refl

    go : (inside : Bool) → t.shape k ≡ inside → SumsAt (k.level == 0) side cell (difference_at t k)
    go true is = record { sum = root_sum t k; is = root_sums_found job operation source k side cell t before unknown is read read_as right_side right_read }
    go false is = record {
      sum = box_sum t k;
      is = ap (λ (s : Side). sums_at (k.level == 0) s cell) (side_is job operation source k side t before read right_side ∙ side_with operation t k false is)
          ∙ below_sums (k.level == 0)
          ∙ ap (λ (d : Option ℤ). Some (sums (box_sum t k) d)) (sym (no_difference t k is));
    }

module _ (job : PlannedJob) (planned : IsPlannedJob job) (command left right : ℕ) (at : operation_at job.operations command ≡ Some (Inner left right)) where
  abbrev operation : Operation
  operation = Inner left right

  plan : Inners job planned command left right
  plan = inner_plan job planned command left right (planned.plans command operation at)

  abbrev f : Tree
  f = plan.first

  abbrev g : Tree
  g = plan.second

  never_over : {A : Type 0} → standing job command ≡ At → A
  never_over late = no_version_not_over job command (planned.plans command operation at).command (planned.plans command operation at).at plan.written late

  trees : both_read job left right ≡ Some (f, g)
  trees = λ i. two_trees (plan.read_first i) (plan.read_second i)

  module _ (k : Key) (place : k.at < 2 ^ k.level) (key : is_key_of job.depth k ≡ true) (known_f : IsKnown job.depth f) (known_g : IsKnown job.depth g) where
    same : f.depth ≡ g.depth
    same = known_f.depth_is ∙ sym known_g.depth_is

    given : (v : Value) → v ≡ meant_value f g k → IsRightGive job command k v
    given v is = give_right job command operation k place at v (λ before. some_of (λ (p : Tree × Tree). v ≡ meant_value p.0 p.1 k) (both_read job left right) (f, g) trees is) (λ late. never_over late)

    product_given : (part : ℤ) → part ≡ inner_part f g k → given_product job.depth k (root_sum f k) (root_sum g k) part ≡ meant_value f g k
    product_given part is = (λ i. given_product (sym known_f.depth_is i) k (root_sum f k) (root_sum g k) (is i)) ∙ given_is f g known_f.tree known_g.tree same known_f.shallow known_f.values known_g.values k place

    -- a key that doesn't have children in both trees
    stops : is_common f g k ≡ false → IsDecision job command operation k place (visits.Give None (given_product job.depth k (root_sum f k) (root_sum g k) (pos 0)))
    stops other = (tt, given (given_product job.depth k (root_sum f k) (root_sum g k) (pos 0)) (product_given (pos 0) (sym ((inner_parts_follow f g).other k other))))

    splits : f.shape k ≡ true → g.shape k ≡ true → f.shape (child k false) ≡ true → g.shape (child k false) ≡ true
        → IsDecision job command operation k place (inner_by job.depth k (root_sum f k) (Some (difference f k)) (root_sum g k) (Some (difference g k)))
    splits in_f in_g cut_f cut_g =
        let high : k.level < job.depth = subst (λ (d : ℕ). k.level < d) known_f.depth_is (child_key f k false known_f.tree cut_f) in
        subst (λ (b : Bool). IsDecision job command operation k place (if b then visits.Split None both_entries both_entries (record { first = haar (root_sum f k) (difference f k); second = haar (root_sum g k) (difference g k) }) else bad_visit false)) (sym (lt-ltb k.level job.depth high)) (
          tt,
          visited_by job command operation (child k false) (child_fits k.level k.at false place) (over (intersection f.shape g.shape)) plan.visited (λ before i. cut_f i && cut_g i),
          visited_by job command operation (child k true) (child_fits k.level k.at true place) (over (intersection f.shape g.shape)) plan.visited (λ before. (λ i. known_f.tree.shape.children k i && known_g.tree.shape.children k i) ∙ (λ i. cut_f i && cut_g i)),
          before_if (standing job command) (λ before. some_of (λ (p : Tree × Tree). record { first = haar (root_sum f k) (difference f k); second = haar (root_sum g k) (difference g k) } ≡ held_of p.0 p.1) (both_read job left right) (f, g) trees refl),
        )
      where
        held_of : Tree → Tree → Held
        held_of f g = record { first = haar_of f k; second = haar_of g k }

    decision : (cut_f cut_g : Bool) → f.shape k ≡ true → g.shape k ≡ true → f.shape (child k false) ≡ cut_f → g.shape (child k false) ≡ cut_g
        → IsDecision job command operation k place (inner_by job.depth k (root_sum f k) (if cut_f then Some (difference f k) else None) (root_sum g k) (if cut_g then Some (difference g k) else None))
    decision true true in_f in_g is_f is_g = splits in_f in_g is_f is_g
    decision true false in_f in_g is_f is_g = stops ((λ i. is_interior f.shape k && (in_g i && is_g i)) ∙ and_right (is_interior f.shape k) false refl)
    decision false cut_g in_f in_g is_f is_g = stops (λ i. (in_f i && is_f i) && is_interior g.shape k)

pub diff_is : (t : Tree) (k : Key) (cut : Bool) → t.shape k ≡ true → t.shape (child k false) ≡ cut → difference_at t k ≡ (if cut then Some (difference t k) else None)
diff_is t k cut inside is = λ i. if inside i && is i then Some (difference t k) else None

pub inner_visited : (left right : ℕ) → IsVisitedRightly (Inner left right)
inner_visited left right job u first second planned is read other =
    let place = fits_of job.depth u.key is.key in
    let p = plan job planned u.command left right is.command.at in
    whole_visit job u.command (Inner left right) u.key place is.key is.command (visit_inner job.depth u.key (record { first = u.first; second = u.second }) first second)
    (visited job.depth (Inner left right) u.key (record { first = u.first; second = u.second }) first second refl)
    (two_sides job u.command (Inner left right) u.key place (visit_inner job.depth u.key (record { first = u.first; second = u.second }) first second)
    (read_is_some job Compressed left p.first p.read_first) (read_is_some job Compressed right p.second p.read_second) first_known second_known)
    (go place (standing job u.command) refl)
  where
    first_known : (t : Tree) → standing job left ≡ Before → tree_in Compressed (version_of job left) ≡ Some t → FirstOf (Inner left right) t u.key (visit_inner job.depth u.key (record { first = u.first; second = u.second }) first second)
    first_known t before read_t =
        let known = known_source job Compressed left t planned before read_t in
        let found = any_sums job (Inner left right) left u.key u.first first t before refl read_t read_t is.first read in
        subst (λ (o : Option Sums). FirstOf (Inner left right) t u.key (inner_sums job.depth u.key o (sums_at (u.key.level == 0) u.second second))) (sym found.is)
        (first_of (Inner left right) t u.key job.depth found.sum known.tree refl (sums_at (u.key.level == 0) u.second second))

    second_known : (t : Tree) → standing job right ≡ Before → tree_in Compressed (version_of job right) ≡ Some t → SecondOf (Inner left right) t u.key (visit_inner job.depth u.key (record { first = u.first; second = u.second }) first second)
    second_known t before read_t =
        let known = known_source job Compressed right t planned before read_t in
        let found = any_sums job (Inner left right) right u.key u.second second t before refl read_t read_t is.second other in
        subst (λ (o : Option Sums). SecondOf (Inner left right) t u.key (inner_sums job.depth u.key (sums_at (u.key.level == 0) u.first first) o)) (sym found.is)
        (second_of (Inner left right) t u.key job.depth found.sum known.tree refl (sums_at (u.key.level == 0) u.first first))

    go : (place : u.key.at < 2 ^ u.key.level) → (s : Standing) → standing job u.command ≡ s → IsDecision job u.command (Inner left right) u.key place (visit_inner job.depth u.key (record { first = u.first; second = u.second }) first second)
    go place Before before =
        let p = plan job planned u.command left right is.command.at in
        let before_f = source_is_before job u.command left p.earlier_left (λ late. absurd (cc)) in
        let before_g = source_is_before job u.command right p.earlier_right (λ late. absurd (cc)) in
        let known_f = known_source job Compressed left p.first planned before_f p.read_first in
        let known_g = known_source job Compressed right p.second planned before_g p.read_second in
        let both = and_parts (p.first.shape u.key) (p.second.shape u.key) (is_visited job u.command (Inner left right) u.key place (over (intersection p.first.shape p.second.shape)) p.visited before is.visited) in
        let found_f = root_sums_found job (Inner left right) left u.key u.first first p.first before_f refl both.0 p.read_first p.read_first is.first read in
        let found_g = root_sums_found job (Inner left right) right u.key u.second second p.second before_g refl both.1 p.read_second p.read_second is.second other in
        subst (λ (v : Visit). IsDecision job u.command (Inner left right) u.key place v)
        (sym ((λ i. inner_sums job.depth u.key (found_f i) (found_g i))
        ∙ (λ i. inner_by job.depth u.key (root_sum p.first u.key) (diff_is p.first u.key (p.first.shape (child u.key false)) both.0 refl i) (root_sum p.second u.key) (diff_is p.second u.key (p.second.shape (child u.key false)) both.1 refl i))))
        (decision job planned u.command left right is.command.at u.key place is.key known_f known_g (p.first.shape (child u.key false)) (p.second.shape (child u.key false)) both.0 both.1 refl refl)
    go place At late = never_over job planned u.command left right is.command.at late
    go place After late = after_decision job u.command (Inner left right) u.key place is.command.at late (visit_inner job.depth u.key (record { first = u.first; second = u.second }) first second)

-- what the children gave before the overflow
given_part : (job : PlannedJob) (planned : IsPlannedJob job) (command left right : ℕ) (at : operation_at job.operations command ≡ Some (Inner left right)) (k : Key) (side : Bool) (v : Value) → (child k side).at < 2 ^ (child k side).level → standing job command ≡ Before
    → IsRightGive job command (child k side) v → v ≡ Product (inner_part (plan job planned command left right at).first (plan job planned command left right at).second (child k side))
given_part job planned command left right at k side v place before given =
    let p = plan job planned command left right at in
    let below : (k.level + 1 == 0) ≡ false = ne_eqb (k.level + 1) 0 (λ e. omega (arith, e)) in
    if_some (λ (q : Tree × Tree). v ≡ meant_value q.0 q.1 (child k side)) (both_read job left right) (p.first, p.second) (trees job planned command left right at) (given_before job command (Inner left right) (child k side) place at v before given)
    ∙ ap (λ (b : Bool). Product (if b then inner_product p.first p.second else inner_part p.first p.second (child k side))) below

pub inner_combined : (left right : ℕ) → IsCombinedRightly (Inner left right)
inner_combined l r job u left right planned is first second = (tt, go (standing job u.command) refl)
  where
    early : standing job u.command ≡ Before → IsRightGive job u.command u.key (inner_value job.depth u.key u.held left right)
    early before =
        let place = fits_of job.depth u.key is.key in
        let p = plan job planned u.command l r is.command.at in
        let before_f = source_is_before job u.command l p.earlier_left (λ late. absurd (cc)) in
        let before_g = source_is_before job u.command r p.earlier_right (λ late. absurd (cc)) in
        let known_f = known_source job Compressed l p.first planned before_f p.read_first in
        let known_g = known_source job Compressed r p.second planned before_g p.read_second in
        let left_place = fits_of job.depth (child u.key false) (child_is_key_of job.depth u.key false is.key is.above) in
        let right_place = fits_of job.depth (child u.key true) (child_is_key_of job.depth u.key true is.key is.above) in
        let both = and_parts (p.first.shape (child u.key false)) (p.second.shape (child u.key false)) (is_visited job u.command (Inner l r) (child u.key false) left_place (over (intersection p.first.shape p.second.shape)) p.visited before is.visited) in
        let common : is_common p.first p.second u.key ≡ true =
        (λ i. interior_from p.first u.key (known_f.tree.shape.parents u.key false both.0) both.0 i && interior_from p.second u.key (known_g.tree.shape.parents u.key false both.1) both.1 i) in
        let above : u.key.level < p.first.depth = subst (λ (d : ℕ). u.key.level < d) (sym known_f.depth_is) is.above in
        let held : u.held ≡ record { first = haar_of p.first u.key; second = haar_of p.second u.key } =
        if_some (λ (q : Tree × Tree). u.held ≡ record { first = haar_of q.0 u.key; second = haar_of q.1 u.key }) (both_read job l r) (p.first, p.second) (trees job planned u.command l r is.command.at) (if_before (standing job u.command) before is.held) in
        let one = given_part job planned u.command l r is.command.at u.key false left left_place before first in
        let other = given_part job planned u.command l r is.command.at u.key true right right_place before second in
        let fit = inner_parts_fit p.first p.second known_f.tree known_g.tree (same job planned u.command l r is.command.at u.key place is.key known_f known_g) known_f.shallow known_f.values known_g.values in
        let low = and_from (nat_le (unsigned_abs (inner_part p.first p.second (child u.key false))) (2 ^ 90)) (nat_le (unsigned_abs (inner_part p.first p.second (child u.key true))) (2 ^ 90)) (le-leb _ _ (fit.part (child u.key false))) (le-leb _ _ (fit.part (child u.key true))) in
        let part = (inner_parts_follow p.first p.second).common u.key above common in
        given job planned u.command l r is.command.at u.key place is.key known_f known_g (inner_value job.depth u.key u.held left right)
        ((λ i. inner_value job.depth u.key (held i) (one i) (other i))
        ∙ (λ i. if low i then given_product job.depth u.key (root_sum p.first u.key) (root_sum p.second u.key) (difference p.first u.key *ℤ difference p.second u.key +ℤ pos 2 *ℤ (inner_part p.first p.second (child u.key false) +ℤ inner_part p.first p.second (child u.key true))) else Bad)
        ∙ product_given job planned u.command l r is.command.at u.key place is.key known_f known_g (difference p.first u.key *ℤ difference p.second u.key +ℤ pos 2 *ℤ (inner_part p.first p.second (child u.key false) +ℤ inner_part p.first p.second (child u.key true))) (sym part))

    go : (s : Standing) → standing job u.command ≡ s → IsRightGive job u.command u.key (inner_value job.depth u.key u.held left right)
    go Before before = early before
    go At late = never_over job planned u.command l r is.command.at late
    go After late = after_give job u.command (Inner l r) u.key (fits_of job.depth u.key is.key) is.command.at late (inner_value job.depth u.key u.held left right)
