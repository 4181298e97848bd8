-- Right values of results have the lines of their commands, and at the first command that overflows they are bad.
use Rattle.std.proofs.Common.{◌≡◌, ◌⊎◌, inl, inr, ℕ, zero, suc, get_or, ◌<◌, ◌-◌, ◌*◌, ◌^◌, ◌≤◌, Bool, true, false, List, [], ◌∷◌, ◌++◌, length, take, drop, refl, sym, ap, ◌∙◌, subst, arith, zero-mul}
use Rattle.std.specs.Prelude.{◌&&◌, not, if◌then◌else◌, slice_get, Option, Some, None, is_some, IfSome, ℤ}
use Rattle.std.specs.List.{list_any}
use Rattle.std.specs.Option.{option_map, option_map_or, option_and_then}
use Rattle.std.proofs.lemmas.Bool.{and_parts}
use Rattle.std.proofs.lemmas.List.{take_all}
use Rattle.std.proofs.lemmas.Option.{slice_get_cases, slice_get_within}
use Rattle.tree_key.specs.Keys.{root}
use Rattle.tree_model.specs.Commands.{Command}
use Rattle.tree_model.specs.Functions.{is_value}
use Rattle.tree_model.specs.Jobs.{command_lines}
use Rattle.tree_model.specs.Nodes.{Form}
use Rattle.tree_model.specs.Nodes.Form.{Reconstructed, Compressed}
use Rattle.tree_model.specs.Operations.{overflows}
use Rattle.tree_model.specs.OperationTexts.{printed_lines, inner_line, size_line}
use Rattle.tree_model.specs.Products.{inner_product}
use Rattle.tree_model.specs.Shapes.{key_count}
use Rattle.tree_model.specs.Signatures.{written_form}
use Rattle.tree_model.specs.Trees.{Tree, IsTree, box_values, box_sum, is_constant}
use Rattle.tree_model.specs.Versions.{Version, Versions, tree_in, two_trees, read_two, read, written, versions_behind, command_overflows}
use Rattle.job_data.specs.Checks.{is_fence, form_behind}
use Rattle.job_data.specs.Data.{form_of}
use Rattle.job_data.specs.Meaning.{HasMeaning, version_form}
use Rattle.job_data.specs.Versions.{version_behind}
use Rattle.job_data.proofs.MeaningLemmas.{job_meaning, job_forms, two_read}
use Rattle.job_words.specs.NameBytes.{bytes_of}
use Rattle.haar_units.specs.ModelJobs.{command_at, versions_before, version_at}
use Rattle.haar_units.proofs.EffectLemmas.{some_is, none_is}
use Rattle.haar_base.specs.declared.operation.Operation.{Operation}
use Rattle.haar_base.specs.declared.operation.Operation.TheVariants.{Project, Refine, Coarsen, Compress, Reconstruct, Add, Mul, Inner, Print, Size, Fence}
use Rattle.haar_base.specs.declared.value.Value.{Value}
use Rattle.haar_base.specs.declared.value.Value.TheVariants.{Done, Sum, Product, Lines, Count, Bad}
use Rattle.haar_base.specs.Operations.{operation_at}
use Rattle.haar_meaning.specs.PlannedJobs.{PlannedJob, IsPlannedJob, HasPlan, IsPlan, job_of, version_of, Standing, standing}
use Rattle.haar_meaning.specs.PlannedJobs.Standing.{Before, At, After}
use Rattle.haar_meaning.specs.Printed.{AreRightRows}
use Rattle.haar_meaning.specs.RightValues.{written_value, HasLines, both_read, IsWritten, IsMeant, IsOverflow, overflows_on, overflow_value, IsValueAt, IsKeyValue}
use Rattle.haar_right.proofs.KnownLemmas.{if_some, version_is_tree, version_is_over, command_is_over}
use Rattle.haar_right.proofs.PlanLemmas.{name_stands, split_at, version_with}
use Rattle.haar_results.specs.Results.{number_line, value_lines}
use Rattle.haar_results.specs.RightResults.{IsRightResult, IsWork, RightValuesHaveLines, RightOverflowsAreBad}
use Rattle.haar_results.proofs.PrintedLemmas.{tree_lines_printed}

-- values that are there

record Is {A : Type 0} (o : Option A) : Type 0 where
  pub value : A
  pub is : o ≡ Some value

there : {A : Type 0} (o : Option A) → is_some o ≡ true → Is o
there None e = absurd (cc)
there (Some a) e = record { value = a; is = refl }

there_in : {A B : Type 0} (f : A → B) (o : Option A) → is_some (option_map f o) ≡ true → Is o
there_in f None e = absurd (cc)
there_in f (Some a) e = record { value = a; is = refl }

-- a version of a known form
record HasTree (o : Option Version) (form : Form) : Type 0 where
  pub tree : Tree
  pub is : o ≡ Some (version_with form tree)

tree_of : (o : Option Version) (form : Form) → version_form o ≡ Some form → HasTree o form
tree_of None form e = none_is form e
tree_of (Some version) form e =
    let same : version.form ≡ form = some_is version.form form e in
    record { tree = version.tree; is = (λ i. Some (record { form = same i; tree = version.tree })) }

tree_there : (form : Form) (t : Tree) → tree_in form (Some (version_with form t)) ≡ Some t
tree_there Reconstructed t = refl
tree_there Compressed t = refl

-- lines of printed trees
shown : (c : Command) (form : Form) (name : List ℕ) (t : Tree) (v : Value) → IsTree t → HasLines (AreRightRows form name t root) v → value_lines c v ≡ Some (printed_lines form name t)
shown c form name t Done tree are = absurd are
shown c form name t (Sum sum) tree are = absurd are
shown c form name t (Product product) tree are = absurd are
shown c form name t (Lines rows) tree are = ap Some (tree_lines_printed form name t rows tree are)
shown c form name t (Count count) tree are = absurd are
shown c form name t Bad tree are = absurd are

-- the root's box is all cells
root_box : (t : Tree) → IsTree t → box_values t root ≡ t.cells
root_box t tree =
    let start : 0 * 2 ^ (t.depth - 0) ≡ 0 = zero-mul (2 ^ (t.depth - 0)) in
    let all : t.depth - 0 ≡ t.depth = omega arith in
    let fits : length t.cells ≤ 2 ^ t.depth = let cells = tree.cells in omega (arith, cells) in
    ap (λ (n : ℕ). take (2 ^ (t.depth - 0)) (drop n t.cells)) start
    ∙ ap (λ (n : ℕ). take (2 ^ n) t.cells) all
    ∙ take_all (2 ^ t.depth) t.cells fits

bad_on_root : (t : Tree) → IsTree t → overflows t ≡ true → overflow_value t root ≡ Bad
bad_on_root t tree over =
    ap (λ (cells : List ℤ). if list_any (λ z. not (is_value z)) cells then Bad else Done) (root_box t tree)
    ∙ ap (λ (b : Bool). if b then Bad else Done) over

-- a command that overflows writes a version
written_over : (o : Option Version) → option_map_or (λ (version : Version). overflows version.tree) o false ≡ true → Is o
written_over None e = absurd (cc)
written_over (Some version) e = record { value = version; is = refl }

-- each command does something
operation_there : (job : PlannedJob) → IsPlannedJob job → (n : ℕ) (c : Command) → slice_get job.commands n ≡ Some c → Is (slice_get job.operations n)
operation_there job planned n c at = go (slice_get_cases job.operations n)
  where
    go : (slice_get job.operations n ≡ slice_get job.operations n) × (((x : Operation) × (n < length job.operations) × (slice_get job.operations n ≡ Some x) × (get_or job.operations n x ≡ x)) ⊎ ((length job.operations ≤ n) × (slice_get job.operations n ≡ None))) → Is (slice_get job.operations n)
    go (e, inl found) = record { value = found.0; is = found.2 }
    go (e, inr past) = absurd (let low = slice_get_within job.commands n c at in let same = planned.number in let high = past.0 in omega (arith, low, same, high))

module _ (job : PlannedJob) (planned : IsPlannedJob job) (n : ℕ) (c : Command) (at : slice_get job.commands n ≡ Some c) where
  abbrev before : List Command
  before = take n job.commands

  abbrev stand : Versions
  stand = versions_behind job.depth before

  meaning : HasMeaning job.depth stand c
  meaning = job_meaning (job_of job) before (drop (suc n) job.commands) c planned.checked (split_at job.commands n c at)

  stands : (name : List ℕ) (source : ℕ) → version_behind before name ≡ source → stand name ≡ version_of job source
  stands name source behind = name_stands job planned.checked name n ∙ ap (version_of job) behind

  own : version_of job (suc n) ≡ written job.depth stand c
  own = ap (option_and_then (written job.depth stand)) at

  written_one : (d : Command) (operation : Operation) (v : Value) → c ≡ d → is_some (written_form d) ≡ true → command_lines stand d ≡ [] → ((t : Tree) → value_lines d (written_value operation t root) ≡ Some [])
      → IsWritten job (suc n) operation root v → value_lines d v ≡ Some (command_lines stand d)
  written_one d operation v same writes no_lines none right =
      let version = there_in (λ (version : Version). version.form) (written job.depth stand c) (ap is_some meaning.writes ∙ ap (λ (e : Command). is_some (written_form e)) same ∙ writes) in
      let is = if_some (λ (version : Version). v ≡ written_value operation version.tree root) (version_of job (suc n)) version.value (own ∙ version.is) right in
      ap (value_lines d) is ∙ none version.value.tree ∙ ap Some (sym no_lines)

  print_lines : (d : Command) (name : List ℕ) (source : ℕ) (form : Form) (v : Value) → version_behind before name ≡ source → form_behind before name ≡ Some form
      → IfSome (tree_in form (version_of job source)) (λ t. HasLines (AreRightRows form name t root) v)
      → value_lines d v ≡ Some (option_map_or (λ (version : Version). printed_lines version.form name version.tree) (stand name) [])
  print_lines d name source form v behind formed_as right =
      let formed : version_form (stand name) ≡ Some form = job_forms (job_of job) before (c ∷ drop (suc n) job.commands) name planned.checked (split_at job.commands n c at) ∙ formed_as in
      let found = tree_of (stand name) form formed in
      let is : version_of job source ≡ Some (version_with form found.tree) = sym (stands name source behind) ∙ found.is in
      let tree = (version_is_tree job source (version_with form found.tree) is).tree in
      let rows = if_some (λ (t : Tree). HasLines (AreRightRows form name t root) v) (tree_in form (version_of job source)) found.tree (ap (tree_in form) is ∙ tree_there form found.tree) right in
      shown d form name found.tree v tree rows
      ∙ ap (λ (o : Option Version). Some (option_map_or (λ (version : Version). printed_lines version.form name version.tree) o [])) (sym found.is)

  inner_lines : (name other : List ℕ) (left right : ℕ) (v : Value) → c ≡ Command.Inner name other → version_behind before name ≡ left → version_behind before other ≡ right
      → (is_some (read stand Compressed name) && (is_some (read stand Compressed other) && true)) ≡ true
      → IfSome (both_read job left right) (λ p. v ≡ Product (inner_product p.0 p.1))
      → value_lines (Command.Inner name other) v ≡ Some (command_lines stand (Command.Inner name other))
  inner_lines name other left right v is behind_left behind_right reads meant =
      let first = and_parts (is_some (read stand Compressed name)) (is_some (read stand Compressed other) && true) reads in
      let second = (and_parts (is_some (read stand Compressed other)) true first.1).0 in
      let both : is_some (read_two stand Compressed name other) ≡ true = two_read stand Compressed name other ∙ (λ i. first.0 i && second i) in
      let p = there (read_two stand Compressed name other) both in
      let same : both_read job left right ≡ read_two stand Compressed name other =
      (λ i. two_trees (tree_in Compressed (sym (stands name left behind_left) i)) (tree_in Compressed (sym (stands other right behind_right) i))) in
      let product = if_some (λ (p : Tree × Tree). v ≡ Product (inner_product p.0 p.1)) (both_read job left right) p.value (same ∙ p.is) meant in
      ap (value_lines (Command.Inner name other)) product
      ∙ ap (λ (o : Option (Tree × Tree)). Some (option_map_or (λ (p : Tree × Tree). inner_line name p.0 other p.1) o [])) (sym p.is)

  size_lines : (name : List ℕ) (source : ℕ) (v : Value) → version_behind before name ≡ source → (is_some (option_map (λ (version : Version). version.tree) (stand name)) && true) ≡ true
      → IfSome (version_of job source) (λ version. v ≡ Count (key_count job.depth version.tree.shape))
      → value_lines (Command.Size name) v ≡ Some (command_lines stand (Command.Size name))
  size_lines name source v behind reads meant =
      let version = there_in (λ (version : Version). version.tree) (stand name) (and_parts (is_some (option_map (λ (version : Version). version.tree) (stand name))) true reads).0 in
      let is : version_of job source ≡ Some version.value = sym (stands name source behind) ∙ version.is in
      let depth = (version_is_tree job source version.value is).depth_is in
      let count = if_some (λ (version : Version). v ≡ Count (key_count job.depth version.tree.shape)) (version_of job source) version.value is meant in
      ap (value_lines (Command.Size name)) (count ∙ ap (λ (d : ℕ). Count (key_count d version.value.tree.shape)) (sym depth))
      ∙ ap (λ (o : Option Version). Some (option_map_or (λ (version : Version). size_line name version.tree) o [])) (sym version.is)

  -- by what the command does
  lines : (d : Command) (operation : Operation) (v : Value) → c ≡ d → IsPlan before d operation → HasMeaning job.depth stand d → is_fence d ≡ false → IsMeant job (suc n) operation root v → value_lines d v ≡ Some (command_lines stand d)
  lines (Command.Project name projection) (Project function level tolerance) v same plan means works meant = written_one (Command.Project name projection) (Project function level tolerance) v same refl refl (λ t. refl) meant
  lines (Command.Refine name down_to) (Refine level source) v same plan means works meant = written_one (Command.Refine name down_to) (Refine level source) v same refl refl (λ t. refl) meant
  lines (Command.Coarsen name) (Coarsen source) v same plan means works meant = written_one (Command.Coarsen name) (Coarsen source) v same refl refl (λ t. either name source t (is_constant t root)) meant
    where
      either : (name : List ℕ) (source : ℕ) (t : Tree) (b : Bool) → value_lines (Command.Coarsen name) (if b then Sum (box_sum t root) else Done) ≡ Some []
      either name source t true = refl
      either name source t false = refl
  lines (Command.Compress name) (Compress source) v same plan means works meant = written_one (Command.Compress name) (Compress source) v same refl refl (λ t. refl) meant
  lines (Command.Reconstruct name) (Reconstruct source) v same plan means works meant = written_one (Command.Reconstruct name) (Reconstruct source) v same refl refl (λ t. refl) meant
  lines (Command.Add name a f b g) (Add x left y right) v same plan means works meant = written_one (Command.Add name a f b g) (Add x left y right) v same refl refl (λ t. refl) meant
  lines (Command.Mul name f g) (Mul left right) v same plan means works meant = written_one (Command.Mul name f g) (Mul left right) v same refl refl (λ t. refl) meant
  lines (Command.Inner f g) (Inner left right) v same plan means works meant = inner_lines f g left right v same plan.0 plan.1 means.reads meant
  lines (Command.Print name) (Print source form printed) v same plan means works meant =
      let right = subst (λ (bytes : List ℕ). IfSome (tree_in (form_of form) (version_of job source)) (λ t. HasLines (AreRightRows (form_of form) bytes t root) v)) (sym plan.2) meant in
      print_lines (Command.Print name) name source (form_of form) v plan.0 plan.1 right
  lines (Command.Size name) (Size source) v same plan means works meant = size_lines name source v plan means.reads meant
  lines Command.Fence operation v same plan means works meant = absurd (cc)
  lines _ _ v same plan means works meant = absurd plan

  -- what is right, at the root

  at_root : (operation : Operation) (v : Value) → operation_at job.operations (suc n) ≡ Some operation → IsRightResult job (suc n) v → IsValueAt job (standing job (suc n)) (suc n) operation root v
  at_root operation v does right = subst (λ (o : Option Operation). IsKeyValue job (suc n) o root v) does right

  pub right_lines : (v : Value) → is_fence c ≡ false → standing job (suc n) ≡ Before → IsRightResult job (suc n) v → value_lines c v ≡ Some (command_lines stand c)
  right_lines v works early right =
      let o = operation_there job planned n c at in
      let plan = planned.plans (suc n) o.value o.is in
      let same : plan.command ≡ c = some_is plan.command c (sym plan.at ∙ at) in
      let meant = subst (λ (s : Standing). IsValueAt job s (suc n) o.value root v) early (at_root o.value v o.is right) in
      lines c o.value v refl (subst (λ (d : Command). IsPlan before d o.value) same plan.plan) meaning works meant

  pub right_bad : (v : Value) → standing job (suc n) ≡ At → IsRightResult job (suc n) v → v ≡ Bad
  right_bad v first right =
      let o = operation_there job planned n c at in
      let over = command_is_over job n c at first in
      let version = written_over (written job.depth stand c) over in
      let is : version_of job (suc n) ≡ Some version.value = own ∙ version.is in
      let meant = subst (λ (s : Standing). IsValueAt job s (suc n) o.value root v) first (at_root o.value v o.is right) in
      if_some (λ (version : Version). v ≡ overflow_value version.tree root) (version_of job (suc n)) version.value is meant
      ∙ bad_on_root version.value.tree (version_is_tree job (suc n) version.value is).tree (version_is_over job (suc n) version.value first is)

pub right_values_lines : RightValuesHaveLines
right_values_lines job zero c v planned work early right = none_is c work.at
right_values_lines job (suc n) c v planned work early right = right_lines job planned n c work.at v work.works early right

pub right_overflows_bad : RightOverflowsAreBad
right_overflows_bad job zero c v planned work first right = none_is c work.at
right_overflows_bad job (suc n) c v planned work first right = right_bad job planned n c work.at v first right
