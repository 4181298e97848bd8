-- Units of `print` decide rightly.
use Rattle.std.proofs.Common.{◌≡◌, ℕ, ◌+◌, ◌<◌, ◌^◌, Bool, true, false, List, [], ◌∷◌, refl, sym, ap, ◌∙◌, subst, arith, ℤ, pos}
use Rattle.std.specs.Prelude.{◌&&◌, ◌==◌, nat_lt, not, if◌then◌else◌, Option, Some, None}
use Rattle.std.proofs.lemmas.Bool.{eqb-true, eq-eqb, ne_eqb, lt-ltb}
use Rattle.tree_key.specs.Keys.{Key, child}
use Rattle.tree_key.proofs.FamilyLemmas.{child_fits}
use Rattle.tree_model.specs.Nodes.{Form}
use Rattle.tree_model.specs.Nodes.Form.{Reconstructed, Compressed}
use Rattle.tree_model.specs.Operations.{product}
use Rattle.tree_model.specs.Shapes.{is_key_of, is_leaf, is_interior}
use Rattle.tree_model.specs.StoredTrees.{difference_at}
use Rattle.tree_model.specs.Totals.{over}
use Rattle.tree_model.specs.Trees.{Tree, IsTree, box_sum, difference}
use Rattle.tree_model.specs.Versions.{tree_in}
use Rattle.haar_node.specs.declared.Node.{Node}
use Rattle.haar_base.specs.declared.operation.Operation.{Operation}
use Rattle.haar_base.specs.declared.operation.Operation.TheVariants.{Print}
use Rattle.haar_base.specs.declared.unit.Side.{Side}
use Rattle.haar_base.specs.declared.unit.Held.{Held}
use Rattle.haar_base.specs.declared.value.Value.{Value}
use Rattle.haar_base.specs.declared.value.Value.TheVariants.{Done, Sum, Product, Lines, Count, Bad}
use Rattle.haar_base.specs.declared.decisions.Visit.{Visit}
use Rattle.haar_base.specs.declared.decisions.Visit.TheVariants as visits
use Rattle.haar_base.specs.declared.readings.Leaf.{Leaf}
use Rattle.haar_base.specs.declared.readings.Leaf.TheVariants.{Whole, Cut, Wrong}
use Rattle.haar_base.specs.declared.readings.Sums.{Sums}
use Rattle.haar_base.specs.Decisions.{bad_visit}
use Rattle.haar_base.specs.Operations.{operation_at}
use Rattle.haar_base.specs.Readings.{leaf_at, sums_at, entry, one, nothing_held}
use Rattle.haar_visits.proofs.FormLemmas.{visited}
use Rattle.haar_meaning.specs.PlannedJobs.{PlannedJob, IsPlannedJob, Standing, standing, version_of}
use Rattle.haar_meaning.specs.PlannedJobs.Standing.{Before, At, After}
use Rattle.haar_meaning.specs.Sides.{knows_sums, IsRightSide}
use Rattle.haar_meaning.specs.RightDecisions.{IsRightGive}
use Rattle.haar_right.specs.Laws.{IsRightRead, IsVisitedRightly, IsCombinedRightly}
use Rattle.haar_right.proofs.KnownLemmas.{IsKnown, before_if, source_is_before}
use Rattle.haar_right.proofs.ReadingLemmas.{leaf_in, root_sum, child_key, leaf_from, interior_from}
use Rattle.haar_right.proofs.DecisionLemmas.{read_is_some, fits_of, child_is_key_of, give_right, given_before, visited_by, is_visited, IsDecision, whole_visit, after_decision, after_give, FirstOf, NothingSecond, one_side}
use Rattle.haar_right.proofs.WrittenLemmas.{some_of}
use Rattle.haar_right.proofs.SourceLemmas.{leaf_found, root_sums_found, known_source}
use Rattle.tree_key.specs.Keys.{root}
use Rattle.haar_visits.specs.InnerProducts.{haar}
use Rattle.haar_right.proofs.KnownLemmas.{if_before, if_some, no_version_not_over}
use Rattle.job_data.specs.Data.{form_of}
use Rattle.job_data.specs.declared.TreeForm.{TreeForm}
use Rattle.job_data.specs.declared.TreeForm.TheVariants as forms
use Rattle.job_words.specs.declared.names.Name.{Name}
use Rattle.job_words.specs.NameBytes.{bytes_of}
use Rattle.haar_right.proofs.LineLemmas.{own_lines, leaf_lines, cut_lines}
use Rattle.haar_base.specs.Readings.{no_haar}
use Rattle.haar_lines.specs.Texts.{key_line}
use Rattle.haar_lines.specs.Rows.{beside}
use Rattle.haar_visits.specs.declared.printing.Printed.{Printed}
use Rattle.haar_visits.specs.Printing.{heading, headed, print_key, print_cut, print_leaf, print_by, print_sums, visit_in, own_line, print_value}
use Rattle.haar_meaning.specs.Printed.{heading_of, lines_below, AreLinesOf, AreRightRows, ArePrinted}
use Rattle.haar_meaning.specs.RightValues.{HasLines}
use Rattle.haar_meaning.specs.Sides.{printed_haar}
use Rattle.haar_right.proofs.PlanLemmas.{Prints, print_plan}
use Rattle.haar_right.proofs.CompressLemmas.{cut_there}
use Rattle.haar_right.proofs.InnerLemmas.{any_sums, cut_of, entries_is, diff_is, root_key}

-- whatever is read, the second tree is none

nothing_cut : (depth : ℕ) (k : Key) (held : Held) → NothingSecond (print_cut depth k held)
nothing_cut depth k held = go (nat_lt k.level depth)
  where
    go : (above : Bool) → NothingSecond (if above then visits.Split None (one entry) (one entry) held else bad_visit false)
    go true = (refl, refl)
    go false = tt

nothing_leaf : (depth : ℕ) (printed : Printed) (k : Key) (leaf : Leaf) → NothingSecond (print_leaf depth printed k leaf)
nothing_leaf depth printed k (Whole sum) = tt
nothing_leaf depth printed k Cut = nothing_cut depth k nothing_held
nothing_leaf depth printed k Wrong = tt

nothing_sums : (depth : ℕ) (printed : Printed) (k : Key) (o : Option Sums) → NothingSecond (print_sums depth printed k o)
nothing_sums depth printed k None = tt
nothing_sums depth printed k (Some s) = go s.difference
  where
    go : (d : Option ℤ) → NothingSecond (print_by depth printed k s.sum d)
    go None = tt
    go (Some d) = nothing_cut depth k (record { first = haar s.sum d; second = no_haar })

nothing_in : (form : TreeForm) (depth : ℕ) (printed : Printed) (k : Key) (side : Side) (cell : Option Node) → NothingSecond (visit_in form depth printed k side cell)
nothing_in forms.Reconstructed depth printed k side cell = nothing_leaf depth printed k (leaf_at side cell)
nothing_in forms.Compressed depth printed k side cell = nothing_sums depth printed k (sums_at (k.level == 0) side cell)

-- what the children's units know

module _ (operation : Operation) (t : Tree) (k : Key) (depth : ℕ) (printed : Printed) (tree : IsTree t) (unknown : knows_sums operation ≡ false) where
  first_cut : (held : Held) → t.shape (child k false) ≡ true → FirstOf operation t k (print_cut depth k held)
  first_cut held cut = go (nat_lt k.level depth)
    where
      go : (above : Bool) → FirstOf operation t k (if above then visits.Split None (one entry) (one entry) held else bad_visit false)
      go true = entries_is operation t k tree unknown cut
      go false = tt

  first_leaf : (leaf : Leaf) → leaf ≡ leaf_in t k → FirstOf operation t k (print_leaf depth printed k leaf)
  first_leaf (Whole sum) is = tt
  first_leaf Cut is = first_cut nothing_held (cut_there t k is)
  first_leaf Wrong is = tt

  first_sums : (sum : ℤ) → FirstOf operation t k (print_by depth printed k sum (difference_at t k))
  first_sums sum = go (difference_at t k) refl
    where
      go : (d : Option ℤ) → difference_at t k ≡ d → FirstOf operation t k (print_by depth printed k sum d)
      go None is = tt
      go (Some d) is = first_cut (record { first = haar sum d; second = no_haar }) (cut_of t k d is)

-- the rows of a key, after the heading at the root

heading_is : (printed : Printed) (t : Tree) (k : Key) (sum : ℤ) → k ≡ root → k.level ≡ 0 → sum ≡ root_sum t k → heading printed sum ≡ heading_of (form_of printed.form) (bytes_of printed.name) t
heading_is printed t k sum top level is = go printed.form printed.name
  where
    whole : sum ≡ box_sum t root
    whole = is ∙ ap (λ (b : Bool). if b then box_sum t k else pos 0) (eq-eqb k.level 0 level) ∙ ap (box_sum t) top

    go : (form : TreeForm) (name : Name) → heading (record { form = form; name = name }) sum ≡ heading_of (form_of form) (bytes_of name) t
    go forms.Reconstructed name = refl
    go forms.Compressed name = ap (λ (z : ℤ). heading (record { form = forms.Compressed; name = name }) z) whole

headed_right : (printed : Printed) (t : Tree) (k : Key) (sum : ℤ) (rows : List (List ℕ)) → k.at < 2 ^ k.level → (k.level ≡ 0 → heading printed sum ≡ heading_of (form_of printed.form) (bytes_of printed.name) t)
    → AreLinesOf (form_of printed.form) t k rows → AreRightRows (form_of printed.form) (bytes_of printed.name) t k (headed printed k sum rows)
headed_right printed t k sum rows place head lines = go (k.level == 0) refl
  where
    go : (top : Bool) → (k.level == 0) ≡ top → ArePrinted top (form_of printed.form) (bytes_of printed.name) t k (if top then heading printed sum ∷ rows else rows)
    go true is =
        let level = eqb-true k.level 0 is in
        record { keys = rows; parts = ap (λ (h : List ℕ). h ∷ rows) (head level); lines = subst (λ (c : Key). AreLinesOf (form_of printed.form) t c rows) (root_key k level place) lines }
    go false is = lines

module _ (job : PlannedJob) (planned : IsPlannedJob job) (command source : ℕ) (form : TreeForm) (name : Name) (at : operation_at job.operations command ≡ Some (Print source form name)) where
  abbrev operation : Operation
  operation = Print source form name

  plan : Prints job planned command source form
  plan = print_plan job planned command source form name (planned.plans command operation at)

  abbrev t : Tree
  t = plan.tree

  abbrev printed : Printed
  printed = record { form = form; name = name }

  never_over : {A : Type 0} → standing job command ≡ At → A
  never_over late = no_version_not_over job command (planned.plans command operation at).command (planned.plans command operation at).at plan.written late

  module _ (k : Key) (place : k.at < 2 ^ k.level) (key : is_key_of job.depth k ≡ true) (known : IsKnown job.depth t) where
    given : (rows : List (List ℕ)) → AreRightRows (form_of form) (bytes_of name) t k rows → IsRightGive job command k (Lines rows)
    given rows right = give_right job command operation k place at (Lines rows)
        (λ before. some_of (λ (tree : Tree). HasLines (AreRightRows (form_of form) (bytes_of name) tree k) (Lines rows)) (tree_in (form_of form) (version_of job source)) t plan.read right) (λ late. never_over late)

    -- a key without children
    gives : (sum : ℤ) (own : List ℕ) → (k.level ≡ 0 → heading printed sum ≡ heading_of (form_of form) (bytes_of name) t) → t.shape (child k false) ≡ false → own ≡ lines_below (form_of form) t k 0 → IsDecision job command operation k place (print_key printed k sum own)
    gives sum own head none is = (tt, given (headed printed k sum (own ∷ [])) (headed_right printed t k sum (own ∷ []) place head (leaf_lines (form_of form) t k own known.tree none is)))

    -- a key with children
    splits : (held : Held) → t.shape (child k false) ≡ true → held ≡ record { first = printed_haar form t k; second = no_haar } → IsDecision job command operation k place (print_cut job.depth k held)
    splits held cut is =
        let high : k.level < job.depth = subst (λ (d : ℕ). k.level < d) known.depth_is (child_key t k false known.tree cut) in
        subst (λ (b : Bool). IsDecision job command operation k place (if b then visits.Split None (one entry) (one entry) held else bad_visit false)) (sym (lt-ltb k.level job.depth high)) (
          tt,
          visited_by job command operation (child k false) (child_fits k.level k.at false place) (over t.shape) plan.visited (λ before. cut),
          visited_by job command operation (child k true) (child_fits k.level k.at true place) (over t.shape) plan.visited (λ before. known.tree.shape.children k ∙ cut),
          before_if (standing job command) (λ before. some_of (λ (tree : Tree). held ≡ record { first = printed_haar form tree k; second = no_haar }) (tree_in (form_of form) (version_of job source)) t plan.read is),
        )

-- in the two forms

module _ (job : PlannedJob) (planned : IsPlannedJob job) (command source : ℕ) (name : Name) where
  leaf_decision : (at : operation_at job.operations command ≡ Some (Print source forms.Reconstructed name)) (k : Key) (place : k.at < 2 ^ k.level) (key : is_key_of job.depth k ≡ true)
      → (known : IsKnown job.depth (plan job planned command source forms.Reconstructed name at).tree) → (plan job planned command source forms.Reconstructed name at).tree.shape k ≡ true
      → (cut : Bool) → (plan job planned command source forms.Reconstructed name at).tree.shape (child k false) ≡ cut
      → IsDecision job command (Print source forms.Reconstructed name) k place (print_leaf job.depth (record { form = forms.Reconstructed; name = name }) k (if cut then Cut else Whole (box_sum (plan job planned command source forms.Reconstructed name at).tree k)))
  leaf_decision at k place key known inside true is = splits job planned command source forms.Reconstructed name at k place key known nothing_held is refl
  leaf_decision at k place key known inside false is =
      let t = (plan job planned command source forms.Reconstructed name at).tree in
      gives job planned command source forms.Reconstructed name at k place key known (box_sum t k) (key_line k (box_sum t k)) (λ level. refl) is
      (sym (own_lines Reconstructed t k true (leaf_from t k inside is)))

  sums_decision : (at : operation_at job.operations command ≡ Some (Print source forms.Compressed name)) (k : Key) (place : k.at < 2 ^ k.level) (key : is_key_of job.depth k ≡ true)
      → (known : IsKnown job.depth (plan job planned command source forms.Compressed name at).tree) → (plan job planned command source forms.Compressed name at).tree.shape k ≡ true
      → (cut : Bool) → (plan job planned command source forms.Compressed name at).tree.shape (child k false) ≡ cut
      → IsDecision job command (Print source forms.Compressed name) k place
      (print_by job.depth (record { form = forms.Compressed; name = name }) k (root_sum (plan job planned command source forms.Compressed name at).tree k) (if cut then Some (difference (plan job planned command source forms.Compressed name at).tree k) else None))
  sums_decision at k place key known inside true is =
      let t = (plan job planned command source forms.Compressed name at).tree in
      splits job planned command source forms.Compressed name at k place key known (record { first = haar (root_sum t k) (difference t k); second = no_haar }) is refl
  sums_decision at k place key known inside false is =
      let t = (plan job planned command source forms.Compressed name at).tree in
      gives job planned command source forms.Compressed name at k place key known (root_sum t k) []
      (λ level. heading_is (record { form = forms.Compressed; name = name }) t k (root_sum t k) (root_key k level place) level refl) is
      (sym (own_lines Compressed t k false ((λ i. inside i && is i))))

  decision : (form : TreeForm) (at : operation_at job.operations command ≡ Some (Print source form name)) (k : Key) (place : k.at < 2 ^ k.level) (key : is_key_of job.depth k ≡ true) (side : Side) (cell : Option Node)
      → (known : IsKnown job.depth (plan job planned command source form name at).tree) → (plan job planned command source form name at).tree.shape k ≡ true → standing job source ≡ Before
      → IsRightSide job (Print source form name) source k side → IsRightRead job source k side cell
      → IsDecision job command (Print source form name) k place (visit_in form job.depth (record { form = form; name = name }) k side cell)
  decision forms.Reconstructed at k place key side cell known inside before right read =
      let p = plan job planned command source forms.Reconstructed name at in
      let found = leaf_found job (Print source forms.Reconstructed name) source k side cell p.tree planned before p.read p.read right read in
      subst (λ (leaf : Leaf). IsDecision job command (Print source forms.Reconstructed name) k place (print_leaf job.depth (record { form = forms.Reconstructed; name = name }) k leaf)) (sym found)
      (leaf_decision at k place key known inside (p.tree.shape (child k false)) refl)
  decision forms.Compressed at k place key side cell known inside before right read =
      let p = plan job planned command source forms.Compressed name at in
      let found = root_sums_found job (Print source forms.Compressed name) source k side cell p.tree before refl inside p.read p.read right read in
      subst (λ (v : Visit). IsDecision job command (Print source forms.Compressed name) k place v)
      (sym ((λ i. print_sums job.depth (record { form = forms.Compressed; name = name }) k (found i))
      ∙ (λ i. print_by job.depth (record { form = forms.Compressed; name = name }) k (root_sum p.tree k) (diff_is p.tree k (p.tree.shape (child k false)) inside refl i))))
      (sums_decision at k place key known inside (p.tree.shape (child k false)) refl)

  first_known : (form : TreeForm) (k : Key) (side : Side) (cell : Option Node) → IsRightSide job (Print source form name) source k side → IsRightRead job source k side cell
      → (t : Tree) → standing job source ≡ Before → tree_in (form_of form) (version_of job source) ≡ Some t → FirstOf (Print source form name) t k (visit_in form job.depth (record { form = form; name = name }) k side cell)
  first_known forms.Reconstructed k side cell right read t before read_t =
      let known = known_source job Reconstructed source t planned before read_t in
      let found = leaf_found job (Print source forms.Reconstructed name) source k side cell t planned before read_t read_t right read in
      first_leaf (Print source forms.Reconstructed name) t k job.depth (record { form = forms.Reconstructed; name = name }) known.tree refl (leaf_at side cell) found
  first_known forms.Compressed k side cell right read t before read_t =
      let known = known_source job Compressed source t planned before read_t in
      let found = any_sums job (Print source forms.Compressed name) source k side cell t before refl read_t read_t right read in
      subst (λ (o : Option Sums). FirstOf (Print source forms.Compressed name) t k (print_sums job.depth (record { form = forms.Compressed; name = name }) k o)) (sym found.is)
      (first_sums (Print source forms.Compressed name) t k job.depth (record { form = forms.Compressed; name = name }) known.tree refl found.sum)

pub print_visited : (source : ℕ) (form : TreeForm) (name : Name) → IsVisitedRightly (Print source form name)
print_visited source form name job u first second planned is read other =
    let place = fits_of job.depth u.key is.key in
    let p = plan job planned u.command source form name is.command.at in
    let printed : Printed = record { form = form; name = name } in
    whole_visit job u.command (Print source form name) u.key place is.key is.command (visit_in form job.depth printed u.key u.first first)
    (visited job.depth (Print source form name) u.key (record { first = u.first; second = u.second }) first second refl)
    (one_side job u.command (Print source form name) u.key place (visit_in form job.depth printed u.key u.first first) (read_is_some job (form_of form) source p.tree p.read) refl
    (first_known job planned u.command source name form u.key u.first first is.first read) (nothing_in form job.depth printed u.key u.first first))
    (go place (standing job u.command) refl)
  where
    go : (place : u.key.at < 2 ^ u.key.level) → (s : Standing) → standing job u.command ≡ s → IsDecision job u.command (Print source form name) u.key place (visit_in form job.depth (record { form = form; name = name }) u.key u.first first)
    go place Before before =
        let p = plan job planned u.command source form name is.command.at in
        let early = source_is_before job u.command source p.earlier (λ late. absurd (cc)) in
        let known = known_source job (form_of form) source p.tree planned early p.read in
        let inside = is_visited job u.command (Print source form name) u.key place (over p.tree.shape) p.visited before is.visited in
        decision job planned u.command source name form is.command.at u.key place is.key u.first first known inside early is.first read
    go place At late = never_over job planned u.command source form name is.command.at late
    go place After late = after_decision job u.command (Print source form name) u.key place is.command.at late (visit_in form job.depth (record { form = form; name = name }) u.key u.first first)

-- what is combined

abbrev RowsOf : Form → Tree → Key → Value → Type 0
RowsOf form t k v = (rows : List (List ℕ)) × (v ≡ Lines rows) × AreLinesOf form t k rows

given_rows : (job : PlannedJob) (planned : IsPlannedJob job) (command source : ℕ) (form : TreeForm) (name : Name) (at : operation_at job.operations command ≡ Some (Print source form name)) (k : Key) (side : Bool) (v : Value)
    → (child k side).at < 2 ^ (child k side).level → standing job command ≡ Before → IsRightGive job command (child k side) v → RowsOf (form_of form) (plan job planned command source form name at).tree (child k side) v
given_rows job planned command source form name at k side v place before given =
    let p = plan job planned command source form name at in
    let below : (k.level + 1 == 0) ≡ false = ne_eqb (k.level + 1) 0 (λ e. omega (arith, e)) in
    go v (if_some (λ (t : Tree). HasLines (AreRightRows (form_of form) (bytes_of name) t (child k side)) v) (tree_in (form_of form) (version_of job source)) p.tree p.read (given_before job command (Print source form name) (child k side) place at v before given)) below
  where
    go : (v : Value) → HasLines (AreRightRows (form_of form) (bytes_of name) (plan job planned command source form name at).tree (child k side)) v → (k.level + 1 == 0) ≡ false → RowsOf (form_of form) (plan job planned command source form name at).tree (child k side) v
    go (Lines rows) right below = (rows, refl, subst (λ (b : Bool). ArePrinted b (form_of form) (bytes_of name) (plan job planned command source form name at).tree (child k side) rows) below right)
    go Done right below = absurd right
    go (Sum sum) right below = absurd right
    go (Product product) right below = absurd right
    go (Count count) right below = absurd right
    go Bad right below = absurd right

own_is : (form : TreeForm) (t : Tree) (k : Key) (held : Held) → held ≡ record { first = printed_haar form t k; second = no_haar } → is_interior t.shape k ≡ true → is_leaf t.shape k ≡ false → own_line form k held ≡ lines_below (form_of form) t k 0
own_is forms.Reconstructed t k held is interior leaf = sym (own_lines Reconstructed t k false leaf)
own_is forms.Compressed t k held is interior leaf = ap (λ (h : Held). key_line k h.first.difference) is ∙ sym (own_lines Compressed t k true interior)

head_is : (form : TreeForm) (name : Name) (t : Tree) (k : Key) (held : Held) → held ≡ record { first = printed_haar form t k; second = no_haar } → k.at < 2 ^ k.level → k.level ≡ 0
    → heading (record { form = form; name = name }) held.first.sum ≡ heading_of (form_of form) (bytes_of name) t
head_is forms.Reconstructed name t k held is place level = refl
head_is forms.Compressed name t k held is place level = heading_is (record { form = forms.Compressed; name = name }) t k held.first.sum (root_key k level place) level (ap (λ (h : Held). h.first.sum) is)

pub print_combined : (source : ℕ) (form : TreeForm) (name : Name) → IsCombinedRightly (Print source form name)
print_combined source form name job u left right planned is first second = (tt, go (standing job u.command) refl)
  where
    early : standing job u.command ≡ Before → IsRightGive job u.command u.key (print_value (record { form = form; name = name }) u.key u.held left right)
    early before =
        let place = fits_of job.depth u.key is.key in
        let p = plan job planned u.command source form name is.command.at in
        let sooner = source_is_before job u.command source p.earlier (λ late. absurd (cc)) in
        let known = known_source job (form_of form) source p.tree planned sooner p.read in
        let left_place = fits_of job.depth (child u.key false) (child_is_key_of job.depth u.key false is.key is.above) in
        let right_place = fits_of job.depth (child u.key true) (child_is_key_of job.depth u.key true is.key is.above) in
        let cut : p.tree.shape (child u.key false) ≡ true = is_visited job u.command (Print source form name) (child u.key false) left_place (over p.tree.shape) p.visited before is.visited in
        let inside : p.tree.shape u.key ≡ true = known.tree.shape.parents u.key false cut in
        let held : u.held ≡ record { first = printed_haar form p.tree u.key; second = no_haar } =
        if_some (λ (t : Tree). u.held ≡ record { first = printed_haar form t u.key; second = no_haar }) (tree_in (form_of form) (version_of job source)) p.tree p.read (if_before (standing job u.command) before is.held) in
        let l = given_rows job planned u.command source form name is.command.at u.key false left left_place before first in
        let r = given_rows job planned u.command source form name is.command.at u.key true right right_place before second in
        let printed : Printed = record { form = form; name = name } in
        let leaf : is_leaf p.tree.shape u.key ≡ false = (λ i. inside i && not (cut i)) in
        let own = own_is form p.tree u.key u.held held (interior_from p.tree u.key inside cut) leaf in
        subst (λ (v : Value). IsRightGive job u.command u.key v) (sym (λ i. print_value printed u.key u.held (l.1 i) (r.1 i)))
        (given job planned u.command source form name is.command.at u.key place is.key known (headed printed u.key u.held.first.sum (own_line form u.key u.held ∷ beside l.0 r.0))
        (headed_right printed p.tree u.key u.held.first.sum (own_line form u.key u.held ∷ beside l.0 r.0) place (head_is form name p.tree u.key u.held held place)
        (cut_lines (form_of form) p.tree u.key (own_line form u.key u.held) l.0 r.0 own l.2 r.2)))

    go : (s : Standing) → standing job u.command ≡ s → IsRightGive job u.command u.key (print_value (record { form = form; name = name }) u.key u.held left right)
    go Before before = early before
    go At late = never_over job planned u.command source form name is.command.at late
    go After late = after_give job u.command (Print source form name) u.key (fits_of job.depth u.key is.key) is.command.at late (print_value (record { form = form; name = name }) u.key u.held left right)
