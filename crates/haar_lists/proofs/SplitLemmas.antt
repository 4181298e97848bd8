-- A down unit of a sound command splits its key where the command visits the key's children.
use Rattle.std.proofs.Common.{◌≡◌, ℕ, ◌<◌, Bool, true, false, refl, sym, ap, ◌∙◌, subst, ℤ}
use Rattle.std.specs.Prelude.{◌==◌, if◌then◌else◌, Option, Some, None}
use Rattle.std.proofs.lemmas.Bool.{and_parts, lt-ltb}
use Rattle.tree_key.specs.Keys.{Key, child}
use Rattle.tree_key.proofs.FamilyLemmas.{child_fits}
use Rattle.tree_model.specs.Nodes.{Form}
use Rattle.tree_model.specs.Nodes.Form.{Reconstructed, Compressed}
use Rattle.tree_model.specs.Operations.{refined, weighted_sum, product}
use Rattle.tree_model.specs.Project.{projected}
use Rattle.tree_model.specs.Totals.{over, over_coarsened, intersection}
use Rattle.tree_model.specs.Trees.{Tree, IsTree, box_sum, difference}
use Rattle.tree_model.specs.Versions.{Version}
use Rattle.haar_node.specs.declared.Func.{Func}
use Rattle.haar_node.specs.declared.Node.{Node}
use Rattle.haar_node.specs.Node.{node_of}
use Rattle.haar_units.specs.ModelJobs.{keys_at}
use Rattle.haar_units.proofs.PlaceLemmas.{keys_have_places}
use Rattle.job_data.specs.declared.TreeForm.{TreeForm}
use Rattle.job_data.specs.declared.TreeForm.TheVariants as forms
use Rattle.job_words.specs.declared.names.Name.{Name}
use Rattle.haar_base.specs.declared.operation.Operation.{Operation}
use Rattle.haar_base.specs.declared.operation.Operation.TheVariants.{Project, Refine, Coarsen, Compress, Reconstruct, Add, Mul, Inner, Print, Size, Fence}
use Rattle.haar_base.specs.declared.unit.Down.{Down as DownUnit}
use Rattle.haar_base.specs.declared.unit.Held.{Held}
use Rattle.haar_base.specs.declared.decisions.Visit.{Visit}
use Rattle.haar_base.specs.declared.decisions.Visit.TheVariants as visits
use Rattle.haar_base.specs.declared.readings.Leaf.{Leaf}
use Rattle.haar_base.specs.declared.readings.Leaf.TheVariants.{Whole, Cut}
use Rattle.haar_base.specs.declared.readings.Sums.{Sums}
use Rattle.haar_base.specs.Decisions.{bad_visit}
use Rattle.haar_base.specs.Operations.{first_source, second_source}
use Rattle.haar_base.specs.Readings.{leaf_at, sums, sums_at, one, entry, nothing_held, no_haar}
use Rattle.haar_visits.specs.Visits.{visit, factors}
use Rattle.haar_visits.specs.Coarsening.{split_entries, coarsen_leaf}
use Rattle.haar_visits.specs.Compressing.{compress_leaf}
use Rattle.haar_visits.specs.InnerProducts.{both_entries, haar, inner_sums}
use Rattle.haar_visits.specs.Printing.{print_cut, print_leaf, print_sums}
use Rattle.haar_visits.specs.declared.printing.Printed.{Printed}
use Rattle.haar_meaning.specs.PlannedJobs.{PlannedJob, IsPlannedJob, standing, version_of}
use Rattle.haar_meaning.specs.PlannedJobs.Standing.{Before}
use Rattle.haar_meaning.specs.RightCells.{stored_node, IsStored}
use Rattle.haar_meaning.specs.JobUnits.{IsDownUnit, IsVisited}
use Rattle.haar_meaning.specs.RightDecisions.{IsRightVisit}
use Rattle.haar_right.specs.Laws.{IsRightRead}
use Rattle.haar_right.proofs.KnownLemmas.{if_before, if_some, source_is_before}
use Rattle.haar_right.proofs.PlanLemmas.{version_with, project_plan, projection_of, refine_plan, coarsen_plan, compress_plan, reconstruct_plan, add_plan, mul_plan, inner_plan, print_plan}
use Rattle.haar_right.proofs.ReadingLemmas.{leaf_in, child_key}
use Rattle.haar_right.proofs.DecisionLemmas.{fits_of, is_visited}
use Rattle.haar_right.proofs.SourceLemmas.{leaf_found, known_source}
use Rattle.haar_right.proofs.InnerLemmas.{any_sums, diff_is}
use Rattle.haar_right.proofs.VisitLemmas.{visits_right}
use Rattle.haar_lists.proofs.EndLemmas.{is_end, Ends, stored_cut, project_ends, refine_ends, reconstruct_ends, add_ends, mul_ends}

abbrev pub splits : Visit → Bool
splits (visits.Give n v) = false
splits (visits.Split n left right held) = true

abbrev pub decided : PlannedJob → Operation → DownUnit → Option Node → Option Node → Visit
decided job operation u first second = visit job.depth operation u.key (record { first = u.first; second = u.second }) first second

-- where the children are visited, the unit splits
abbrev pub IsSplit : Operation → Type 0
IsSplit operation =
    (job : PlannedJob) (u : DownUnit) (first second : Option Node) → IsPlannedJob job → IsDownUnit job operation u
    → IsRightRead job (first_source operation) u.key u.first first → IsRightRead job (second_source operation) u.key u.second second
    → standing job u.command ≡ Before → IsVisited job u.command (child u.key false) → splits (decided job operation u first second) ≡ true

-- a right node of a key with children isn't that of a key without
by_put : (job : PlannedJob) (operation : Operation) (u : DownUnit) (form : Form) (t : Tree) (v : Visit) → IsDownUnit job operation u → version_of job u.command ≡ Some (version_with form t)
    → keys_at job.depth job.commands u.command ≡ Some (over t.shape) → standing job u.command ≡ Before → IsVisited job u.command (child u.key false) → Ends v → IsRightVisit job u.command u.key v → splits v ≡ true
by_put job operation u form t (visits.Split n left other held) is written visited before there ends right = refl
by_put job operation u form t (visits.Give None v) is written visited before there ends right = absurd ends
by_put job operation u form t (visits.Give (Some n) v) is written visited before there ends right =
    let place = fits_of job.depth u.key is.key in
    let inside = is_visited job u.command operation u.key place (over t.shape) visited before is.visited in
    let cut = is_visited job u.command operation (child u.key false) (child_fits u.key.level u.key.at false place) (over t.shape) visited before there in
    let stored : IsStored job u.command u.key n = subst (λ (x : Key). IsStored job u.command x n) (keys_have_places u.key place) right.0 in
    let same : node_of n ≡ stored_node (version_with form t) u.key = if_some (λ (w : Version). node_of n ≡ stored_node w u.key) (version_of job u.command) (version_with form t) written (if_before (standing job u.command) before stored) in
    let no : true ≡ false = sym ends ∙ ap is_end same ∙ stored_cut form t u.key inside cut in
    absurd (cc)

project_split : (function : Func) (level tolerance : ℕ) → IsSplit (Project function level tolerance)
project_split function level tolerance job u first second planned is read other before there =
    let p = project_plan job planned u.command function level tolerance (planned.plans u.command (Project function level tolerance) is.command.at) in
    by_put job (Project function level tolerance) u Reconstructed (projected job.depth (projection_of job planned function level tolerance)) (decided job (Project function level tolerance) u first second)
    is p.written p.visited before there (project_ends job.depth function level tolerance u.key) (visits_right (Project function level tolerance) job u first second planned is read other)

refine_split : (level source : ℕ) → IsSplit (Refine level source)
refine_split level source job u first second planned is read other before there =
    let p = refine_plan job planned u.command level source (planned.plans u.command (Refine level source) is.command.at) in
    by_put job (Refine level source) u Reconstructed (refined level p.tree) (decided job (Refine level source) u first second)
    is p.written p.visited before there (refine_ends job.depth level u.key (leaf_at u.first first)) (visits_right (Refine level source) job u first second planned is read other)

reconstruct_split : (source : ℕ) → IsSplit (Reconstruct source)
reconstruct_split source job u first second planned is read other before there =
    let p = reconstruct_plan job planned u.command source (planned.plans u.command (Reconstruct source) is.command.at) in
    by_put job (Reconstruct source) u Reconstructed p.tree (decided job (Reconstruct source) u first second)
    is p.written p.visited before there (reconstruct_ends job.depth u.key (sums_at (u.key.level == 0) u.first first)) (visits_right (Reconstruct source) job u first second planned is read other)

add_split : (a : ℤ) (left : ℕ) (b : ℤ) (right : ℕ) → IsSplit (Add a left b right)
add_split a left b right job u first second planned is read other before there =
    let p = add_plan job planned u.command a left b right (planned.plans u.command (Add a left b right) is.command.at) in
    by_put job (Add a left b right) u Compressed (weighted_sum a p.first b p.second) (decided job (Add a left b right) u first second)
    is p.written p.visited before there (add_ends job.depth (factors a b) u.key (sums_at (u.key.level == 0) u.first first) (sums_at (u.key.level == 0) u.second second)) (visits_right (Add a left b right) job u first second planned is read other)

mul_split : (left right : ℕ) → IsSplit (Mul left right)
mul_split left right job u first second planned is read other before there =
    let p = mul_plan job planned u.command left right (planned.plans u.command (Mul left right) is.command.at) in
    by_put job (Mul left right) u Reconstructed (product p.first p.second) (decided job (Mul left right) u first second)
    is p.written p.visited before there (mul_ends job.depth u.key (leaf_at u.first first) (leaf_at u.second second)) (visits_right (Mul left right) job u first second planned is read other)

-- where nothing is put on the way down, by what is read

cut_leaf : (t : Tree) (k : Key) → t.shape (child k false) ≡ true → leaf_in t k ≡ Cut
cut_leaf t k there = ap (λ (b : Bool). if b then Cut else Whole (box_sum t k)) there

entries_split : (depth : ℕ) (k : Key) → k.level < depth → splits (split_entries depth k) ≡ true
entries_split depth k above = ap (λ (b : Bool). splits (if b then visits.Split None (one entry) (one entry) nothing_held else bad_visit true)) (lt-ltb k.level depth above)

print_split_cut : (depth : ℕ) (k : Key) (held : Held) → k.level < depth → splits (print_cut depth k held) ≡ true
print_split_cut depth k held above = ap (λ (b : Bool). splits (if b then visits.Split None (one entry) (one entry) held else bad_visit false)) (lt-ltb k.level depth above)

above_depth : (t : Tree) (k : Key) (depth : ℕ) → IsTree t → t.depth ≡ depth → t.shape (child k false) ≡ true → k.level < depth
above_depth t k depth tree same there = subst (λ (d : ℕ). k.level < d) same (child_key t k false tree there)

coarsen_split : (source : ℕ) → IsSplit (Coarsen source)
coarsen_split source job u first second planned is read other before there =
    let p = coarsen_plan job planned u.command source (planned.plans u.command (Coarsen source) is.command.at) in
    let early = source_is_before job u.command source p.earlier (λ late. absurd (cc)) in
    let known = known_source job Reconstructed source p.tree planned early p.read in
    let found = leaf_found job (Coarsen source) source u.key u.first first p.tree planned early p.read p.read is.first read in
    let place = child_fits u.key.level u.key.at false (fits_of job.depth u.key is.key) in
    let cut : p.tree.shape (child u.key false) ≡ true = is_visited job u.command (Coarsen source) (child u.key false) place (over_coarsened p.tree) p.visited before there in
    ap (λ (leaf : Leaf). splits (coarsen_leaf job.depth u.key leaf)) (found ∙ cut_leaf p.tree u.key cut) ∙ entries_split job.depth u.key (above_depth p.tree u.key job.depth known.tree known.depth_is cut)

compress_split : (source : ℕ) → IsSplit (Compress source)
compress_split source job u first second planned is read other before there =
    let p = compress_plan job planned u.command source (planned.plans u.command (Compress source) is.command.at) in
    let early = source_is_before job u.command source p.earlier (λ late. absurd (cc)) in
    let known = known_source job Reconstructed source p.tree planned early p.read in
    let found = leaf_found job (Compress source) source u.key u.first first p.tree planned early p.read p.read is.first read in
    let place = child_fits u.key.level u.key.at false (fits_of job.depth u.key is.key) in
    let cut : p.tree.shape (child u.key false) ≡ true = is_visited job u.command (Compress source) (child u.key false) place (over p.tree.shape) p.visited before there in
    ap (λ (leaf : Leaf). splits (compress_leaf job.depth u.key leaf)) (found ∙ cut_leaf p.tree u.key cut) ∙ entries_split job.depth u.key (above_depth p.tree u.key job.depth known.tree known.depth_is cut)

print_split : (source : ℕ) (form : TreeForm) (name : Name) → IsSplit (Print source form name)
print_split source forms.Reconstructed name job u first second planned is read other before there =
    let printed : Printed = record { form = forms.Reconstructed; name = name } in
    let p = print_plan job planned u.command source forms.Reconstructed name (planned.plans u.command (Print source forms.Reconstructed name) is.command.at) in
    let early = source_is_before job u.command source p.earlier (λ late. absurd (cc)) in
    let known = known_source job Reconstructed source p.tree planned early p.read in
    let found = leaf_found job (Print source forms.Reconstructed name) source u.key u.first first p.tree planned early p.read p.read is.first read in
    let place = child_fits u.key.level u.key.at false (fits_of job.depth u.key is.key) in
    let cut : p.tree.shape (child u.key false) ≡ true = is_visited job u.command (Print source forms.Reconstructed name) (child u.key false) place (over p.tree.shape) p.visited before there in
    ap (λ (leaf : Leaf). splits (print_leaf job.depth printed u.key leaf)) (found ∙ cut_leaf p.tree u.key cut) ∙ print_split_cut job.depth u.key nothing_held (above_depth p.tree u.key job.depth known.tree known.depth_is cut)
print_split source forms.Compressed name job u first second planned is read other before there =
    let printed : Printed = record { form = forms.Compressed; name = name } in
    let p = print_plan job planned u.command source forms.Compressed name (planned.plans u.command (Print source forms.Compressed name) is.command.at) in
    let early = source_is_before job u.command source p.earlier (λ late. absurd (cc)) in
    let known = known_source job Compressed source p.tree planned early p.read in
    let found = any_sums job (Print source forms.Compressed name) source u.key u.first first p.tree early refl p.read p.read is.first read in
    let place = child_fits u.key.level u.key.at false (fits_of job.depth u.key is.key) in
    let cut : p.tree.shape (child u.key false) ≡ true = is_visited job u.command (Print source forms.Compressed name) (child u.key false) place (over p.tree.shape) p.visited before there in
    let inside : p.tree.shape u.key ≡ true = known.tree.shape.parents u.key false cut in
    ap (λ (o : Option Sums). splits (print_sums job.depth printed u.key o)) (found.is ∙ ap (λ (d : Option ℤ). Some (sums found.sum d)) (diff_is p.tree u.key true inside cut))
    ∙ print_split_cut job.depth u.key (record { first = haar found.sum (difference p.tree u.key); second = no_haar }) (above_depth p.tree u.key job.depth known.tree known.depth_is cut)

inner_split : (left right : ℕ) → IsSplit (Inner left right)
inner_split left right job u first second planned is read other before there =
    let p = inner_plan job planned u.command left right (planned.plans u.command (Inner left right) is.command.at) in
    let early = source_is_before job u.command left p.earlier_left (λ late. absurd (cc)) in
    let early_too = source_is_before job u.command right p.earlier_right (λ late. absurd (cc)) in
    let known = known_source job Compressed left p.first planned early p.read_first in
    let known_too = known_source job Compressed right p.second planned early_too p.read_second in
    let found = any_sums job (Inner left right) left u.key u.first first p.first early refl p.read_first p.read_first is.first read in
    let found_too = any_sums job (Inner left right) right u.key u.second second p.second early_too refl p.read_second p.read_second is.second other in
    let place = child_fits u.key.level u.key.at false (fits_of job.depth u.key is.key) in
    let both = and_parts (p.first.shape (child u.key false)) (p.second.shape (child u.key false))
    (is_visited job u.command (Inner left right) (child u.key false) place (over (intersection p.first.shape p.second.shape)) p.visited before there) in
    let a : sums_at (u.key.level == 0) u.first first ≡ Some (sums found.sum (Some (difference p.first u.key))) =
    found.is ∙ ap (λ (d : Option ℤ). Some (sums found.sum d)) (diff_is p.first u.key true (known.tree.shape.parents u.key false both.0) both.0) in
    let b : sums_at (u.key.level == 0) u.second second ≡ Some (sums found_too.sum (Some (difference p.second u.key))) =
    found_too.is ∙ ap (λ (d : Option ℤ). Some (sums found_too.sum d)) (diff_is p.second u.key true (known_too.tree.shape.parents u.key false both.1) both.1) in
    (λ i. splits (inner_sums job.depth u.key (a i) (b i)))
    ∙ ap (λ (t : Bool). splits (if t then visits.Split None both_entries both_entries (record { first = haar found.sum (difference p.first u.key); second = haar found_too.sum (difference p.second u.key) }) else bad_visit false))
    (lt-ltb u.key.level job.depth (above_depth p.first u.key job.depth known.tree known.depth_is both.0))

-- whatever the command does
pub units_split : (operation : Operation) → IsSplit operation
units_split (Project function level tolerance) = project_split function level tolerance
units_split (Refine level source) = refine_split level source
units_split (Coarsen source) = coarsen_split source
units_split (Compress source) = compress_split source
units_split (Reconstruct source) = reconstruct_split source
units_split (Add a left b right) = add_split a left b right
units_split (Mul left right) = mul_split left right
units_split (Inner left right) = inner_split left right
units_split (Print source form name) = print_split source form name
units_split (Size source) = λ job u first second planned is read other before there. absurd (let on = is.command.on_trees in cc)
units_split Fence = λ job u first second planned is read other before there. absurd (let on = is.command.on_trees in cc)
