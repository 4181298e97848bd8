-- What units decide for has the form of their command.
use Rattle.std.proofs.Common.{◌≡◌, ℕ, ◌<◌, ◌*◌, ◌^◌, Bool, true, false, cond, ◌&&◌, ◌||◌, ◌==◌, nat_lt, nat_le, Option, Some, None, ℤ, pos, ◌+ℤ◌, List, refl, ltb-true, leb-false}
use Rattle.std.specs.Int.RustNames.{unsigned_abs}
use Rattle.std.specs.Prelude.{is_none}
use Rattle.std.proofs.lemmas.Bool.{and_parts}
use Rattle.tree_key.specs.Keys.{Key, width, child}
use Rattle.tree_model.specs.Functions.{max_value}
use Rattle.tree_model.specs.Project.{Projection, is_split, differs}
use Rattle.haar_node.specs.declared.Node.{Node}
use Rattle.haar_node.specs.declared.Node.TheVariants as node
use Rattle.haar_units.specs.Jobs.{is_on_trees}
use Rattle.haar_units.specs.Jobs.{Operation as Word}
use Rattle.job_data.specs.declared.TreeForm.{TreeForm}
use Rattle.job_data.specs.declared.TreeForm.TheVariants.{Reconstructed, Compressed}
use Rattle.haar_base.specs.declared.unit.Side.{Side}
use Rattle.haar_base.specs.declared.unit.Sides.{Sides}
use Rattle.haar_base.specs.declared.unit.Held.{Held}
use Rattle.haar_base.specs.declared.value.Value.{Value}
use Rattle.haar_base.specs.declared.value.Value.TheVariants as value
use Rattle.haar_base.specs.declared.operation.Operation.{Operation}
use Rattle.haar_base.specs.declared.operation.Operation.TheVariants.{Project, Refine, Coarsen, Compress, Reconstruct, Add, Mul, Inner, Print, Size, Fence}
use Rattle.haar_base.specs.declared.decisions.Visit.{Visit}
use Rattle.haar_base.specs.declared.decisions.Combination.{Combination}
use Rattle.haar_base.specs.declared.readings.Leaf.{Leaf}
use Rattle.haar_base.specs.declared.readings.Leaf.TheVariants.{Whole, Cut, Wrong}
use Rattle.haar_base.specs.declared.readings.Sums.{Sums}
use Rattle.haar_base.specs.declared.readings.ChildSides.{ChildSides}
use Rattle.haar_base.specs.Operations.{word_of}
use Rattle.haar_base.specs.Readings.{leaf_at, leaf_sides, sums_at, sum_sides, sides_by, nothing_held}
use Rattle.haar_visits.specs.declared.adding.Factors.{Factors}
use Rattle.haar_visits.specs.declared.printing.Printed.{Printed}
use Rattle.haar_visits.specs.Projecting.{projection_of, projected_sum, visit_by}
use Rattle.haar_visits.specs.Refining.{split_one, refine_cut, refine_leaf}
use Rattle.haar_visits.specs.Coarsening.{split_entries, coarsen_leaf, merged, same, combine_beside, combine_apart, combine_coarsened}
use Rattle.haar_visits.specs.Compressing.{compress_leaf, joined, combine_right, combine_compressed}
use Rattle.haar_visits.specs.Reconstructing.{reconstruct_by, reconstruct_sums}
use Rattle.haar_visits.specs.Adding.{add_leaf, add_cut_by, add_cut, add_difference, kept_sum, add_both, add_sums, split_two, weighted}
use Rattle.haar_visits.specs.Multiplying.{multiply_leaf, multiply_cut, multiply_leaves, product_sum}
use Rattle.haar_visits.specs.InnerProducts.{inner_by, inner_sums}
use Rattle.haar_visits.specs.Printing.{print_cut, print_leaf, print_by, print_sums}
use Rattle.haar_visits.specs.Forms.{IsVisitOf, IsCombinationOf, VisitsHaveTheirForm, CombinationsHaveTheirForm}

-- by a test
by_test : {A : Type 0} (P : A → Type 0) (b : Bool) (x y : A) → (b ≡ true → P x) → (b ≡ false → P y) → P (cond b x y)
by_test P true x y one other = one refl
by_test P false x y one other = other refl

module _ (depth : ℕ) (key : Key) where
  projected : (p : Projection) (b : Bool) (sum : ℤ) → is_split depth p key ≡ b → IsVisitOf depth key Word.Project (visit_by b sum)
  projected p true sum is = (refl, ltb-true key.level depth (and_parts (nat_lt key.level depth) _ is).0)
  projected p false sum is = refl

  -- a key with children puts a branch, or is bad
  cut_one : key.level < depth → (below : Option ChildSides) → IsVisitOf depth key Word.Refine (split_one below)
  cut_one above None = refl
  cut_one above (Some below) = (refl, above)

  refined_cut : (leaf : Leaf) → IsVisitOf depth key Word.Refine (refine_cut depth key leaf)
  refined_cut leaf = by_test (IsVisitOf depth key Word.Refine) (nat_le depth key.level) _ _ (λ e. refl) (λ e. cut_one (leb-false depth key.level e) (leaf_sides leaf))

  refined : (level : ℕ) (leaf : Leaf) → IsVisitOf depth key Word.Refine (refine_leaf depth level key leaf)
  refined level (Whole sum) = by_test (IsVisitOf depth key Word.Refine) (nat_le level key.level) _ _ (λ e. refl) (λ e. refined_cut (Whole sum))
  refined level Cut = refined_cut Cut
  refined level Wrong = refined_cut Wrong

  coarsened : (leaf : Leaf) → IsVisitOf depth key Word.Coarsen (coarsen_leaf depth key leaf)
  coarsened (Whole sum) = refl
  coarsened Cut = by_test (IsVisitOf depth key Word.Coarsen) (nat_lt key.level depth) _ _ (λ e. (refl, ltb-true key.level depth e)) (λ e. refl)
  coarsened Wrong = refl

  compressed : (leaf : Leaf) → IsVisitOf depth key Word.Compress (compress_leaf depth key leaf)
  compressed (Whole sum) = refl
  compressed Cut = by_test (IsVisitOf depth key Word.Compress) (nat_lt key.level depth) _ _ (λ e. (refl, ltb-true key.level depth e)) (λ e. refl)
  compressed Wrong = refl

  reconstructed_one : key.level < depth → (below : Option ChildSides) → IsVisitOf depth key Word.Reconstruct (split_one below)
  reconstructed_one above None = refl
  reconstructed_one above (Some below) = (refl, above)

  reconstructed : (sums : Option Sums) → IsVisitOf depth key Word.Reconstruct (reconstruct_sums depth key sums)
  reconstructed None = refl
  reconstructed (Some s) = by_difference s.sum s.difference
    where
      by_difference : (sum : ℤ) (difference : Option ℤ) → IsVisitOf depth key Word.Reconstruct (reconstruct_by depth key sum difference)
      by_difference sum None = refl
      by_difference sum (Some d) = by_test (IsVisitOf depth key Word.Reconstruct) (nat_lt key.level depth) _ _ (λ e. reconstructed_one (ltb-true key.level depth e) (sides_by sum (Some d))) (λ e. refl)

  -- a key with children in both trees
  added_two : key.level < depth → (n : Node) (first second : Option ChildSides) → IsVisitOf depth key Word.Add (split_two n first second)
  added_two above n None second = refl
  added_two above n (Some first) None = refl
  added_two above n (Some first) (Some second) = (refl, above)

  added_cut : key.level < depth → (difference sum : Option ℤ) (first second : Option ChildSides) → IsVisitOf depth key Word.Add (add_cut_by key difference sum first second)
  added_cut above None sum first second = refl
  added_cut above (Some difference) None first second = refl
  added_cut above (Some difference) (Some sum) first second = added_two above _ first second

  added : (factors : Factors) (left right : Option Sums) → IsVisitOf depth key Word.Add (add_sums depth factors key left right)
  added factors None right = refl
  added factors (Some left) None = refl
  added factors (Some left) (Some right) =
      by_test (IsVisitOf depth key Word.Add) (is_none left.difference && is_none right.difference) _ _
      (λ e. by_test (IsVisitOf depth key Word.Add) (nat_le (unsigned_abs (weighted factors left.sum right.sum)) (width depth key * max_value)) _ _ (λ d. refl) (λ d. refl))
      (λ e. by_test (IsVisitOf depth key Word.Add) (nat_lt key.level depth) _ _
      (λ d. added_cut (ltb-true key.level depth d) (add_difference factors left right) (kept_sum factors key left right) (sum_sides left) (sum_sides right)) (λ d. refl))

  multiplied_two : key.level < depth → (first second : Option ChildSides) → IsVisitOf depth key Word.Mul (split_two node.Branch first second)
  multiplied_two above None second = refl
  multiplied_two above (Some first) None = refl
  multiplied_two above (Some first) (Some second) = (refl, above)

  multiplied_cut : (first second : Leaf) → IsVisitOf depth key Word.Mul (multiply_cut depth key first second)
  multiplied_cut first second = by_test (IsVisitOf depth key Word.Mul) (nat_lt key.level depth) _ _ (λ e. multiplied_two (ltb-true key.level depth e) (leaf_sides first) (leaf_sides second)) (λ e. refl)

  multiplied_leaf : (sum : Option ℤ) → IsVisitOf depth key Word.Mul (multiply_leaf sum)
  multiplied_leaf None = refl
  multiplied_leaf (Some sum) = refl

  multiplied : (first second : Leaf) → IsVisitOf depth key Word.Mul (multiply_leaves depth key first second)
  multiplied (Whole left) (Whole right) = multiplied_leaf (product_sum left right (width depth key))
  multiplied (Whole left) Cut = multiplied_cut (Whole left) Cut
  multiplied (Whole left) Wrong = multiplied_cut (Whole left) Wrong
  multiplied Cut second = multiplied_cut Cut second
  multiplied Wrong second = multiplied_cut Wrong second

  inner_of : (left right : Option Sums) → IsVisitOf depth key Word.Inner (inner_sums depth key left right)
  inner_of None right = refl
  inner_of (Some left) None = refl
  inner_of (Some left) (Some right) = by_differences left.difference right.difference
    where
      by_differences : (first second : Option ℤ) → IsVisitOf depth key Word.Inner (inner_by depth key left.sum first right.sum second)
      by_differences None second = refl
      by_differences (Some first) None = refl
      by_differences (Some first) (Some second) = by_test (IsVisitOf depth key Word.Inner) (nat_lt key.level depth) _ _ (λ e. (refl, ltb-true key.level depth e)) (λ e. refl)

  printed_cut : (held : Held) → IsVisitOf depth key Word.Print (print_cut depth key held)
  printed_cut held = by_test (IsVisitOf depth key Word.Print) (nat_lt key.level depth) _ _ (λ e. (refl, ltb-true key.level depth e)) (λ e. refl)

  printed_leaf : (printed : Printed) (leaf : Leaf) → IsVisitOf depth key Word.Print (print_leaf depth printed key leaf)
  printed_leaf printed (Whole sum) = refl
  printed_leaf printed Cut = printed_cut nothing_held
  printed_leaf printed Wrong = refl

  printed_sums : (printed : Printed) (sums : Option Sums) → IsVisitOf depth key Word.Print (print_sums depth printed key sums)
  printed_sums printed None = refl
  printed_sums printed (Some s) = by_difference s.difference
    where
      by_difference : (difference : Option ℤ) → IsVisitOf depth key Word.Print (print_by depth printed key s.sum difference)
      by_difference None = refl
      by_difference (Some d) = printed_cut _

pub visited : VisitsHaveTheirForm
visited depth (Project function level tolerance) key sides first second on = projected depth key (projection_of function level tolerance) (is_split depth (projection_of function level tolerance) key) (projected_sum depth function key) refl
visited depth (Refine level source) key sides first second on = refined depth key level (leaf_at sides.first first)
visited depth (Coarsen source) key sides first second on = coarsened depth key (leaf_at sides.first first)
visited depth (Compress source) key sides first second on = compressed depth key (leaf_at sides.first first)
visited depth (Reconstruct source) key sides first second on = reconstructed depth key (sums_at (key.level == 0) sides.first first)
visited depth (Add left_factor left right_factor right) key sides first second on = added depth key (record { left = left_factor; right = right_factor }) (sums_at (key.level == 0) sides.first first) (sums_at (key.level == 0) sides.second second)
visited depth (Mul left right) key sides first second on = multiplied depth key (leaf_at sides.first first) (leaf_at sides.second second)
visited depth (Inner left right) key sides first second on = inner_of depth key (sums_at (key.level == 0) sides.first first) (sums_at (key.level == 0) sides.second second)
visited depth (Print source Reconstructed name) key sides first second on = printed_leaf depth key (record { form = Reconstructed; name = name }) (leaf_at sides.first first)
visited depth (Print source Compressed name) key sides first second on = printed_sums depth key (record { form = Compressed; name = name }) (sums_at (key.level == 0) sides.first first)
visited depth (Size source) key sides first second on = absurd (cc)
visited depth Fence key sides first second on = absurd (cc)

coarsened_apart : (right : Value) → IsCombinationOf Word.Coarsen (combine_apart right)
coarsened_apart (value.Sum other) = refl
coarsened_apart value.Done = refl
coarsened_apart (value.Product product) = refl
coarsened_apart (value.Lines rows) = refl
coarsened_apart (value.Count count) = refl
coarsened_apart value.Bad = refl

coarsened_beside : (half : ℤ) (right : Value) → IsCombinationOf Word.Coarsen (combine_beside half right)
coarsened_beside half (value.Sum other) =
    by_test (IsCombinationOf Word.Coarsen) (same half other) _ _ (λ e. by_test (IsCombinationOf Word.Coarsen) (nat_le (unsigned_abs half) (2 ^ 40)) _ _ (λ d. refl) (λ d. refl)) (λ e. refl)
coarsened_beside half value.Done = refl
coarsened_beside half (value.Product product) = refl
coarsened_beside half (value.Lines rows) = refl
coarsened_beside half (value.Count count) = refl
coarsened_beside half value.Bad = refl

combined_coarsened : (left right : Value) → IsCombinationOf Word.Coarsen (combine_coarsened left right)
combined_coarsened (value.Sum half) right = coarsened_beside half right
combined_coarsened value.Done right = coarsened_apart right
combined_coarsened (value.Product product) right = refl
combined_coarsened (value.Lines rows) right = refl
combined_coarsened (value.Count count) right = refl
combined_coarsened value.Bad right = refl

compressed_right : (key : Key) (left : ℤ) (right : Value) → IsCombinationOf Word.Compress (combine_right key left right)
compressed_right key left (value.Sum right) = by_test (IsCombinationOf Word.Compress) (nat_le (unsigned_abs left) (2 ^ 40) && nat_le (unsigned_abs right) (2 ^ 40)) _ _ (λ e. refl) (λ e. refl)
compressed_right key left value.Done = refl
compressed_right key left (value.Product product) = refl
compressed_right key left (value.Lines rows) = refl
compressed_right key left (value.Count count) = refl
compressed_right key left value.Bad = refl

combined_compressed : (key : Key) (left right : Value) → IsCombinationOf Word.Compress (combine_compressed key left right)
combined_compressed key (value.Sum left) right = compressed_right key left right
combined_compressed key value.Done right = refl
combined_compressed key (value.Product product) right = refl
combined_compressed key (value.Lines rows) right = refl
combined_compressed key (value.Count count) right = refl
combined_compressed key value.Bad right = refl

pub combined : CombinationsHaveTheirForm
combined depth (Project function level tolerance) key held left right on = refl
combined depth (Refine level source) key held left right on = refl
combined depth (Coarsen source) key held left right on = combined_coarsened left right
combined depth (Compress source) key held left right on = combined_compressed key left right
combined depth (Reconstruct source) key held left right on = refl
combined depth (Add left_factor l right_factor r) key held left right on = refl
combined depth (Mul l r) key held left right on = refl
combined depth (Inner l r) key held left right on = refl
combined depth (Print source form name) key held left right on = refl
combined depth (Size source) key held left right on = absurd (cc)
combined depth Fence key held left right on = absurd (cc)
