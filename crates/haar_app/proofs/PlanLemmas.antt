-- What each command of a job does, one after another: what its words say, within its limits.
use Rattle.std.proofs.Common.{◌≡◌, ◌⊎◌, inl, inr, ⊎_elim, ℕ, zero, suc, ◌+◌, ◌<◌, Bool, true, false, if◌then◌else◌, List, [], ◌∷◌, ◌++◌, length, take, drop, get_or, map, Option, Some, None, refl, sym, ap, ◌∙◌, subst, arith, append_assoc, length-append}
use Rattle.std.specs.Prelude.{slice_get, is_some, IsSomeAnd}
use Rattle.std.specs.List.{fold}
use Rattle.std.specs.Option.{option_map, option_map_or, option_and_then, unwrap_or}
use Rattle.std.proofs.lemmas.Bool.{and_parts, and_from}
use Rattle.std.proofs.lemmas.List.{take-append-drop}
use Rattle.std.proofs.lemmas.Option.{slice_get-map, slice_get-get_or, slice_get_within, get_or_from_slice_get, same_Some}
use Rattle.tree_model.specs.Commands.{Command}
use Rattle.tree_model.specs.Nodes.{Form}
use Rattle.tree_model.specs.Signatures.{writes, written_form}
use Rattle.job_data.specs.declared.command.Command.{Command as CommandCode}
use Rattle.job_data.specs.declared.command.Command.TheVariants as command
use Rattle.job_data.specs.declared.sources.Sources.{Sources}
use Rattle.job_data.specs.declared.sources.Sources.TheVariants.{Nothing}
use Rattle.job_data.specs.declared.step.Step.{Step}
use Rattle.job_data.specs.declared.tree_form.TreeForm.{TreeForm}
use Rattle.job_data.specs.declared.tree_form.TreeForm.TheVariants.{Reconstructed, Compressed}
use Rattle.job_data.specs.Checks.{is_accepted, are_accepted, has_room, has_trees, names_read, is_written, form_after, form_behind}
use Rattle.job_data.specs.Data.{data_of, form_of}
use Rattle.job_data.specs.Versions.{version_from, version_behind, sources_of, plan_from}
use Rattle.job_data.proofs.CheckLemmas.{are_accepted_at, follows_accepted}
use Rattle.job_data.proofs.WriterLemmas.{is_written_form}
use Rattle.job_words.specs.NameBytes.{bytes_of}
use Rattle.haar_units.specs.ModelJobs.{command_at}
use Rattle.haar_base.specs.declared.operation.Operation.{Operation}
use Rattle.haar_base.specs.Operations.{is_within, are_within}
use Rattle.haar_meaning.specs.PlannedJobs.{IsPlan}
use Rattle.haar_lists.proofs.DropLemmas.{plan_at}
use Rattle.haar_app.specs.Planning.{first_of, second_of, code_at, written_at, tree_form, operation_for, reads_in}
use Rattle.haar_app.specs.KeptPlans.{IsPlanAt, ArePlans}

-- one more operation within its limits
pub within_more : (depth : ℕ) (operations more : List Operation) (operation : Operation) → are_within depth operations ≡ true → is_within depth operation ≡ true → more ≡ operations ++ operation ∷ [] → are_within depth more ≡ true
within_more depth operations more operation all here is = ap (are_within depth) is ∙ go operations all
  where
    go : (xs : List Operation) → are_within depth xs ≡ true → are_within depth (xs ++ operation ∷ []) ≡ true
    go [] e = and_from (is_within depth operation) true here refl
    go (x ∷ xs) e =
        let p = and_parts (is_within depth x) (are_within depth xs) e in
        and_from (is_within depth x) (are_within depth (xs ++ operation ∷ [])) p.0 (go xs p.1)

-- the form in which the command of a number writes

pub written_is : (codes : List CommandCode) (version : ℕ) (k : CommandCode) → code_at codes version ≡ Some k → written_at (map data_of codes) version ≡ written_form (data_of k)
written_is codes zero k at = absurd (cc)
written_is codes (suc before) k at = ap (option_and_then written_form) (slice_get-map data_of codes before ∙ ap (option_map data_of) at)

pub written_none : (codes : List CommandCode) (version : ℕ) → code_at codes version ≡ None → written_at (map data_of codes) version ≡ None
written_none codes zero at = refl
written_none codes (suc before) at = ap (option_and_then written_form) (slice_get-map data_of codes before ∙ ap (option_map data_of) at)

-- the command of a number
pub command_is : (codes : List CommandCode) (number : ℕ) → option_map data_of (code_at codes number) ≡ command_at (map data_of codes) number
command_is codes zero = refl
command_is codes (suc before) = sym (slice_get-map data_of codes before)

-- the form that is kept is the one that was written
pub tree_form_is : (o : Option TreeForm) (written : Option Form) → option_map form_of o ≡ written → unwrap_or o Reconstructed ≡ tree_form written
tree_form_is None written e = ap tree_form e
tree_form_is (Some Reconstructed) written e = ap tree_form e
tree_form_is (Some Compressed) written e = ap tree_form e

-- the version that a name stands for tells its form

at_length : {A : Type 0} (xs : List A) (x : A) (ys : List A) → slice_get (xs ++ x ∷ ys) (length xs) ≡ Some x
at_length [] x ys = refl
at_length (y ∷ xs) x ys = at_length xs x ys

written_more : (all : List Command) (n : ℕ) (c : Command) → slice_get all n ≡ Some c → written_at all (n + 1) ≡ written_form c
written_more all n c at = subst (λ (k : ℕ). written_at all k ≡ written_form c) (next n) (ap (option_and_then written_form) at)
  where
    next : (n : ℕ) → suc n ≡ n + 1
    next n = omega arith

forms_from : (all xs before rest : List Command) (name : List ℕ) (last : ℕ) (form : Option Form) → all ≡ before ++ (xs ++ rest) → written_at all last ≡ form
    → written_at all (version_from (length before + 1) last xs name) ≡ fold (form_after name) form xs
forms_from all [] before rest name last form is here = here
forms_from all (c ∷ xs) before rest name last form is here =
    let count : length (before ++ c ∷ []) ≡ length before + 1 = length-append before (c ∷ []) in
    ap (λ (n : ℕ). written_at all (version_from (n + 1) (if writes name c then length before + 1 else last) xs name)) (sym count)
    ∙ forms_from all xs (before ++ c ∷ []) rest name (if writes name c then length before + 1 else last) (if writes name c then written_form c else form)
    (is ∙ sym (append_assoc before (c ∷ []) (xs ++ rest))) (one (writes name c))
  where
    one : (b : Bool) → written_at all (if b then length before + 1 else last) ≡ (if b then written_form c else form)
    one true = written_more all (length before) c (ap (λ ys. slice_get ys (length before)) is ∙ at_length before c (xs ++ rest))
    one false = here

form_is : (cs : List Command) (i : ℕ) (name : List ℕ) → written_at cs (version_behind (take i cs) name) ≡ form_behind (take i cs) name
form_is cs i name = forms_from cs (take i cs) [] (drop i cs) name 0 None (sym (take-append-drop i cs)) refl

there_form : (before : List Command) (name : List ℕ) → is_written before name ≡ true → (f : Form) × (form_behind before name ≡ Some f)
there_form before name written = by_form (form_behind before name) refl
  where
    by_form : (o : Option Form) → form_behind before name ≡ o → (f : Form) × (form_behind before name ≡ Some f)
    by_form None e = absurd (not_both (sym written ∙ is_written_form before name ∙ ap is_some e))
      where
        not_both : true ≡ false → ⊥
        not_both e = cc
    by_form (Some f) e = (f, e)

form_back : (f : Form) → form_of (tree_form (Some f)) ≡ f
form_back Form.Reconstructed = refl
form_back Form.Compressed = refl

-- the trees that an accepted command reads are written before it
reads_written : (depth : ℕ) (before : List Command) (c : Command) → is_accepted depth before c ≡ true → has_trees before c ≡ true
reads_written depth before c all = (and_parts (has_trees before c) _ (and_parts (has_room before c) _ (follows_accepted depth before c all)).1).0

-- what a command does is what its words say
plan_is : (depth : ℕ) (cs : List Command) (i : ℕ) (k : CommandCode) (reads : Sources) → is_accepted depth (take i cs) (data_of k) ≡ true → reads ≡ sources_of (take i cs) (names_read (data_of k))
    → IsPlan (take i cs) (data_of k) (operation_for k reads (tree_form (written_at cs (first_of reads))))
plan_is depth cs i (command.Project name function level tolerance) reads all e = refl
plan_is depth cs i (command.Refine name level) reads all e = (refl, sym (ap first_of e))
plan_is depth cs i (command.Coarsen name) reads all e = sym (ap first_of e)
plan_is depth cs i (command.Compress name) reads all e = sym (ap first_of e)
plan_is depth cs i (command.Reconstruct name) reads all e = sym (ap first_of e)
plan_is depth cs i (command.Add name left_factor left right_factor right) reads all e = (refl, sym (ap first_of e), refl, sym (ap second_of e))
plan_is depth cs i (command.Mul name left right) reads all e = (sym (ap first_of e), sym (ap second_of e))
plan_is depth cs i (command.Inner left right) reads all e = (sym (ap first_of e), sym (ap second_of e))
plan_is depth cs i (command.Print name) reads all e =
    let trees = reads_written depth (take i cs) (data_of (command.Print name)) all in
    let there = there_form (take i cs) (bytes_of name) (and_parts (is_written (take i cs) (bytes_of name)) true trees).0 in
    let same : written_at cs (first_of reads) ≡ Some there.0 = ap (λ r. written_at cs (first_of r)) e ∙ form_is cs i (bytes_of name) ∙ there.1 in
    (sym (ap first_of e), there.1 ∙ ap Some (sym (ap (λ o. form_of (tree_form o)) same ∙ form_back there.0)), refl)
plan_is depth cs i (command.Size name) reads all e = sym (ap first_of e)
plan_is depth cs i command.Fence reads all e = tt

-- the step at a place reads the versions that its names stand for

pub has_plan : (depth : ℕ) (codes : List CommandCode) (cs : List Command) (steps : List Step) (i : ℕ) (k : CommandCode) (reads : Sources) (operation : Operation)
    → are_accepted depth [] cs ≡ true → map data_of codes ≡ cs → steps ≡ plan_from [] cs → i < length codes → k ≡ get_or codes i k → reads ≡ reads_in steps i
    → operation ≡ operation_for k reads (tree_form (written_at (map data_of codes) (first_of reads))) → IsPlanAt cs (suc i) operation
has_plan depth codes cs steps i k reads operation all are plan below is read op =
    let there : slice_get cs i ≡ Some (data_of k) = ap (λ ds. slice_get ds i) (sym are) ∙ slice_get-map data_of codes i ∙ ap (option_map data_of) (slice_get-get_or codes i k below ∙ ap Some (sym is)) in
    let reads_are : reads ≡ sources_of (take i cs) (names_read (data_of k)) =
    read ∙ ap (λ s. reads_in s i) plan ∙ ap (λ o. option_map_or (λ (step : Step). step.reads) o Nothing) (plan_at [] cs i (data_of k) there) in
    let here : get_or cs i (data_of k) ≡ data_of k = get_or_from_slice_get cs i (data_of k) (data_of k) there in
    let accepted : is_accepted depth (take i cs) (data_of k) ≡ true = ap (is_accepted depth (take i cs)) (sym here) ∙ are_accepted_at depth [] cs i (data_of k) all (slice_get_within cs i (data_of k) there) in
    let same = op ∙ ap (λ ds. operation_for k reads (tree_form (written_at ds (first_of reads)))) are in
    subst (λ o. IsSomeAnd o (λ c. IsPlan (take i cs) c operation)) (sym there) (subst (IsPlan (take i cs) (data_of k)) (sym same) (plan_is depth cs i k reads accepted reads_are))

-- one operation more
get_more : {A : Type 0} (xs : List A) (x y : A) (k : ℕ) → slice_get (xs ++ x ∷ []) k ≡ Some y → (slice_get xs k ≡ Some y) ⊎ ((k ≡ length xs) × (x ≡ y))
get_more [] x y zero e = inr (refl, same_Some x y e)
get_more [] x y (suc k) e = absurd (cc)
get_more (z ∷ xs) x y zero e = inl e
get_more (z ∷ xs) x y (suc k) e = ⊎_elim (λ l. inl l) (λ r. inr (ap suc r.0, r.1)) (get_more xs x y k e)

pub plans_more : (cs : List Command) (ops more : List Operation) (op : Operation) → ArePlans cs ops → IsPlanAt cs (suc (length ops)) op → more ≡ ops ++ op ∷ [] → ArePlans cs more
plans_more cs ops more op all here is zero operation at = absurd (cc)
plans_more cs ops more op all here is (suc k) operation at =
    ⊎_elim (λ l. all (suc k) operation l) (λ r. subst (IsPlanAt cs (suc k)) r.1 (subst (λ (n : ℕ). IsPlanAt cs (suc n) op) (sym r.0) here)) (get_more ops op operation k (ap (λ xs. slice_get xs k) (sym is) ∙ at))
