-- Lemmas that crates above use: what each command of a job reads, visits and writes, by the numbers of versions.
use Rattle.std.proofs.Common.{◌≡◌, ℕ, zero, suc, ◌+◌, ◌<◌, ◌≤◌, Bool, true, false, List, [], ◌∷◌, ◌++◌, length, refl, sym, ap, ◌∙◌, subst, arith}
use Rattle.std.specs.Prelude.{◌&&◌, if◌then◌else◌, take, drop, slice_get, Option, Some, None, is_some, ℤ}
use Rattle.std.specs.Option.{option_map, option_and_then}
use Rattle.std.proofs.lemmas.Bool.{and_parts}
use Rattle.std.proofs.lemmas.List.Sums.{fold-append}
use Rattle.tree_model.specs.Commands.{Command}
use Rattle.tree_model.specs.Nodes.{Form}
use Rattle.tree_model.specs.Nodes.Form.{Reconstructed, Compressed}
use Rattle.tree_model.specs.Operations.{refined, coarsened, union, weighted_sum, product}
use Rattle.tree_model.specs.Project.{Projection, projected}
use Rattle.tree_model.specs.Signatures.{writes, written_form}
use Rattle.tree_model.specs.Totals.{Visits, over, over_coarsened, intersection, visits_of}
use Rattle.tree_model.specs.Trees.{Tree}
use Rattle.tree_model.specs.Versions.{Version, Versions, no_versions, same_form, tree_in, two_trees, written, newer, after, versions_behind}
use Rattle.haar_node.specs.declared.Func.{Func}
use Rattle.haar_node.specs.Func.{function_of}
use Rattle.job_data.specs.Checks.{IsJob}
use Rattle.job_data.specs.Data.{form_of}
use Rattle.job_data.specs.Meaning.{HasMeaning, version_form}
use Rattle.job_data.specs.Versions.{version_from, version_behind}
use Rattle.job_data.specs.declared.TreeForm.{TreeForm}
use Rattle.job_data.proofs.MeaningLemmas.{job_meaning, job_forms}
use Rattle.job_data.proofs.WriterLemmas.{written_form_writes}
use Rattle.job_words.specs.declared.names.Name.{Name}
use Rattle.haar_units.specs.ModelJobs.{keys_at}
use Rattle.haar_units.proofs.EffectLemmas.{some_is, none_is}
use Rattle.haar_units.proofs.ReadLemmas.{take_all, take_more}
use Rattle.haar_base.specs.declared.operation.Operation.TheVariants.{Project, Refine, Coarsen, Compress, Reconstruct, Add, Mul, Inner, Print}
use Rattle.haar_meaning.specs.PlannedJobs.{PlannedJob, IsPlannedJob, HasPlan, IsPlan, job_of, version_of}

-- lists of commands

pub split_at : (cs : List Command) (n : ℕ) (c : Command) → slice_get cs n ≡ Some c → cs ≡ take n cs ++ c ∷ drop (suc n) cs
split_at [] n c e = none_is c e
split_at (x ∷ cs) zero c e = ap (λ (y : Command). y ∷ cs) (some_is x c e)
split_at (x ∷ cs) (suc n) c e = ap (λ (ys : List Command). x ∷ ys) (split_at cs n c e)

take_drop : (cs : List Command) (n : ℕ) → take n cs ++ drop n cs ≡ cs
take_drop cs zero = refl
take_drop [] (suc n) = refl
take_drop (x ∷ cs) (suc n) = ap (λ (ys : List Command). x ∷ ys) (take_drop cs n)

pub length_at : (cs : List Command) (n : ℕ) (c : Command) → slice_get cs n ≡ Some c → length (take n cs) ≡ n
length_at [] n c e = none_is c e
length_at (x ∷ cs) zero c e = refl
length_at (x ∷ cs) (suc n) c e = ap suc (length_at cs n c e)

-- the number of the version that a name stands for

one_more : (number last : ℕ) (cs : List Command) (c : Command) (name : List ℕ) → version_from number last (cs ++ c ∷ []) name ≡ (if writes name c then number + length cs else version_from number last cs name)
one_more number last [] c name = let same : number ≡ number + 0 = omega arith in ap (λ (k : ℕ). if writes name c then k else last) same
one_more number last (d ∷ ds) c name =
    let same : number + 1 + length ds ≡ number + suc (length ds) = omega arith in
    one_more (number + 1) (if writes name d then number else last) ds c name
    ∙ ap (λ (k : ℕ). if writes name c then k else version_from (number + 1) (if writes name d then number else last) ds name) same

pub version_below : (number last bound : ℕ) (cs : List Command) (name : List ℕ) → last < bound → number + length cs ≤ bound → version_from number last cs name < bound
version_below number last bound [] name lt le = lt
version_below number last bound (d ∷ ds) name lt le = go (writes name d) (version_below (number + 1) number bound ds name (omega (arith, le)) (omega (arith, le))) (version_below (number + 1) last bound ds name lt (omega (arith, le)))
  where
    go : (b : Bool) → version_from (number + 1) number ds name < bound → version_from (number + 1) last ds name < bound → version_from (number + 1) (if b then number else last) ds name < bound
    go true here later = here
    go false here later = later

is_newer : (o before : Option Version) (form : Option Form) → version_form o ≡ form → is_some form ≡ true → newer o before ≡ o
is_newer None before form is there = absurd (cc)
is_newer (Some version) before form is there = refl

module _ (job : PlannedJob) (checked : IsJob (job_of job)) (name : List ℕ) where
  abbrev named : ℕ → Option Version
  named n = versions_behind job.depth (take n job.commands) name

  abbrev numbered : ℕ → ℕ
  numbered n = version_behind (take n job.commands) name

  abbrev stand : ℕ → Versions
  stand n = versions_behind job.depth (take n job.commands)

  -- a name stands for the version of this number
  pub name_stands : (n : ℕ) → named n ≡ version_of job (numbered n)
  name_stands zero = refl
  name_stands (suc n) = go (slice_get job.commands n) refl (name_stands n)
    where
      go : (o : Option Command) → slice_get job.commands n ≡ o → named n ≡ version_of job (numbered n) → named (suc n) ≡ version_of job (numbered (suc n))
      go None at rec = ap (λ (cs : List Command). versions_behind job.depth cs name) (take_all job.commands n at) ∙ rec ∙ ap (λ (cs : List Command). version_of job (version_behind cs name)) (sym (take_all job.commands n at))
      go (Some c) at rec =
          ap (λ (cs : List Command). versions_behind job.depth cs name) (take_more job.commands n c at)
          ∙ ap (λ (v : Versions). v name) (fold-append (after job.depth) no_versions (take n job.commands) (c ∷ []))
          ∙ here (writes name c) refl
          ∙ ap (version_of job) (sym (one_more 1 0 (take n job.commands) c name))
          ∙ ap (λ (cs : List Command). version_of job (version_behind cs name)) (sym (take_more job.commands n c at))
        where
          own : version_of job (suc n) ≡ written job.depth (stand n) c
          own = ap (option_and_then (written job.depth (stand n))) at

          here : (b : Bool) → writes name c ≡ b → (if b then newer (written job.depth (stand n) c) (stand n name) else stand n name) ≡ version_of job (if b then 1 + length (take n job.commands) else numbered n)
          here true does =
              let meaning = job_meaning (job_of job) (take n job.commands) (drop (suc n) job.commands) c checked (split_at job.commands n c at) in
              let number : suc n ≡ 1 + length (take n job.commands) = omega (arith, length_at job.commands n c at) in
              is_newer (written job.depth (stand n) c) (stand n name) (written_form c) meaning.writes (written_form_writes name c does) ∙ sym own ∙ ap (version_of job) number
          here false does = rec

-- a tree that a name stands for, in a form; the version that it is of was written earlier

abbrev pub version_with : Form → Tree → Version
version_with form t = record { form = form; tree = t }

pub version_in : (form : Form) (o : Option Version) (t : Tree) → tree_in form o ≡ Some t → o ≡ Some (version_with form t)
version_in form None t e = none_is t e
version_in form (Some version) t e = go form version.form version.tree e
  where
    go : (form other : Form) (tree : Tree) → (if same_form form other then Some tree else None) ≡ Some t → Some (version_with other tree) ≡ Some (version_with form t)
    go Reconstructed Reconstructed tree e = ap (λ (x : Tree). Some (version_with Reconstructed x)) (some_is tree t e)
    go Reconstructed Compressed tree e = none_is t e
    go Compressed Reconstructed tree e = none_is t e
    go Compressed Compressed tree e = ap (λ (x : Tree). Some (version_with Compressed x)) (some_is tree t e)

there : {A : Type 0} (o : Option A) → is_some o ≡ true → (a : A) × (o ≡ Some a)
there None e = absurd (cc)
there (Some a) e = (a, refl)

record Source (job : PlannedJob) (n : ℕ) (name : List ℕ) (source : ℕ) (form : Form) : Type 0 where
  pub earlier : source < suc n
  pub tree : Tree
  pub read : tree_in form (version_of job source) ≡ Some tree
  pub named : tree_in form (versions_behind job.depth (take n job.commands) name) ≡ Some tree

-- what a command with one tree to read does, and one with two

pub record OneRead (job : PlannedJob) (command source : ℕ) (form : Form) (version : Tree → Option Version) (visits : Tree → Option Visits) : Type 0 where
  pub earlier : source < command
  pub tree : Tree
  pub read : tree_in form (version_of job source) ≡ Some tree
  pub written : version_of job command ≡ version tree
  pub visited : keys_at job.depth job.commands command ≡ visits tree

pub record TwoRead (job : PlannedJob) (command left right : ℕ) (form : Form) (version : Tree × Tree → Option Version) (visits : Tree × Tree → Option Visits) : Type 0 where
  pub earlier_left : left < command
  pub earlier_right : right < command
  pub first : Tree
  pub second : Tree
  pub read_first : tree_in form (version_of job left) ≡ Some first
  pub read_second : tree_in form (version_of job right) ≡ Some second
  pub written : version_of job command ≡ version (first, second)
  pub visited : keys_at job.depth job.commands command ≡ visits (first, second)

module _ (job : PlannedJob) (planned : IsPlannedJob job) where
  abbrev before : ℕ → Versions
  before n = versions_behind job.depth (take n job.commands)

  meaning_at : (n : ℕ) (c : Command) → slice_get job.commands n ≡ Some c → HasMeaning job.depth (before n) c
  meaning_at n c at = job_meaning (job_of job) (take n job.commands) (drop (suc n) job.commands) c planned.checked (split_at job.commands n c at)

  source_of : (n : ℕ) (c : Command) (name : List ℕ) (source : ℕ) (form : Form) → slice_get job.commands n ≡ Some c → version_behind (take n job.commands) name ≡ source → is_some (tree_in form (before n name)) ≡ true → Source job n name source form
  source_of n c name source form at behind is =
      let found = there (tree_in form (before n name)) is in
      let below : version_behind (take n job.commands) name < suc n = version_below 1 0 (suc n) (take n job.commands) name (omega arith) (omega (arith, length_at job.commands n c at)) in
      let stands : before n name ≡ version_of job source = name_stands job planned.checked name n ∙ ap (version_of job) behind in
      record {
        earlier = subst (λ (m : ℕ). m < suc n) behind below;
        tree = found.0;
        read = ap (tree_in form) (sym stands) ∙ found.1;
        named = found.1;
      }

  one_read : (n : ℕ) (c : Command) (name : List ℕ) (source : ℕ) (form : Form) (f : Option Tree → Option Version) (g : Option Tree → Option Visits)
      → slice_get job.commands n ≡ Some c → version_behind (take n job.commands) name ≡ source → is_some (tree_in form (before n name)) ≡ true
      → written job.depth (before n) c ≡ f (tree_in form (before n name)) → visits_of job.depth (before n) c ≡ g (tree_in form (before n name))
      → OneRead job (suc n) source form (λ t. f (Some t)) (λ t. g (Some t))
  one_read n c name source form f g at behind is writes visits =
      let s = source_of n c name source form at behind is in
      record {
        earlier = s.earlier;
        tree = s.tree;
        read = s.read;
        written = ap (option_and_then (written job.depth (before n))) at ∙ writes ∙ ap f s.named;
        visited = ap (option_and_then (visits_of job.depth (before n))) at ∙ visits ∙ ap g s.named;
      }

  two_read : (n : ℕ) (c : Command) (name other : List ℕ) (left right : ℕ) (form : Form) (f : Option (Tree × Tree) → Option Version) (g : Option (Tree × Tree) → Option Visits)
      → slice_get job.commands n ≡ Some c → version_behind (take n job.commands) name ≡ left → version_behind (take n job.commands) other ≡ right
      → (is_some (tree_in form (before n name)) && (is_some (tree_in form (before n other)) && true)) ≡ true
      → written job.depth (before n) c ≡ f (two_trees (tree_in form (before n name)) (tree_in form (before n other)))
      → visits_of job.depth (before n) c ≡ g (two_trees (tree_in form (before n name)) (tree_in form (before n other)))
      → TwoRead job (suc n) left right form (λ p. f (Some p)) (λ p. g (Some p))
  two_read n c name other left right form f g at behind_left behind_right is writes visits =
      let both = and_parts (is_some (tree_in form (before n name))) (is_some (tree_in form (before n other)) && true) is in
      let s = source_of n c name left form at behind_left both.0 in
      let o = source_of n c other right form at behind_right (and_parts (is_some (tree_in form (before n other))) true both.1).0 in
      let trees : two_trees (tree_in form (before n name)) (tree_in form (before n other)) ≡ Some (s.tree, o.tree) = λ i. two_trees (s.named i) (o.named i) in
      record {
        earlier_left = s.earlier;
        earlier_right = o.earlier;
        first = s.tree;
        second = o.tree;
        read_first = s.read;
        read_second = o.read;
        written = ap (option_and_then (written job.depth (before n))) at ∙ writes ∙ ap f trees;
        visited = ap (option_and_then (visits_of job.depth (before n))) at ∙ visits ∙ ap g trees;
      }

  only : (n : ℕ) (c : Command) (name : List ℕ) (form : Form) → (is_some (tree_in form (before n name)) && true) ≡ true → is_some (tree_in form (before n name)) ≡ true
  only n c name form e = (and_parts (is_some (tree_in form (before n name))) true e).0

  -- by the operation

  pub record Projects (command : ℕ) (projection : Projection) : Type 0 where
    pub written : version_of job command ≡ Some (version_with Reconstructed (projected job.depth projection))
    pub visited : keys_at job.depth job.commands command ≡ Some (over (projected job.depth projection).shape)

  abbrev pub projection_of : Func → ℕ → ℕ → Projection
  projection_of function level tolerance = record { function = function_of function; level = level; tolerance = tolerance }

  pub project_plan : (command : ℕ) (function : Func) (level tolerance : ℕ) → HasPlan job.commands command (Project function level tolerance) → Projects command (projection_of function level tolerance)
  project_plan zero function level tolerance plan = none_is plan.command plan.at
  project_plan (suc n) function level tolerance plan = go plan.command plan.at plan.plan
    where
      go : (c : Command) → slice_get job.commands n ≡ Some c → IsPlan (take n job.commands) c (Project function level tolerance) → Projects (suc n) (projection_of function level tolerance)
      go (Command.Project name projection) at same = record {
        written = ap (option_and_then (written job.depth (before n))) at ∙ ap (λ (p : Projection). Some (version_with Reconstructed (projected job.depth p))) same;
        visited = ap (option_and_then (visits_of job.depth (before n))) at ∙ ap (λ (p : Projection). Some (over (projected job.depth p).shape)) same;
      }
      go _ at plan = absurd plan

  abbrev pub Refines : ℕ → ℕ → ℕ → Type 0
  Refines command level source = OneRead job command source Reconstructed (λ t. Some (version_with Reconstructed (refined level t))) (λ t. Some (over (refined level t).shape))

  pub refine_plan : (command level source : ℕ) → HasPlan job.commands command (Refine level source) → Refines command level source
  refine_plan zero level source plan = none_is plan.command plan.at
  refine_plan (suc n) level source plan = go plan.command plan.at plan.plan
    where
      go : (c : Command) → slice_get job.commands n ≡ Some c → IsPlan (take n job.commands) c (Refine level source) → Refines (suc n) level source
      go (Command.Refine name down_to) at plan =
          subst (λ (l : ℕ). Refines (suc n) l source) plan.0
          (one_read n (Command.Refine name down_to) name source Reconstructed (option_map (λ t. version_with Reconstructed (refined down_to t))) (option_map (λ t. over (refined down_to t).shape))
          at plan.1 (only n (Command.Refine name down_to) name Reconstructed (meaning_at n (Command.Refine name down_to) at).reads) refl refl)
      go _ at plan = absurd plan

  abbrev pub Coarsens : ℕ → ℕ → Type 0
  Coarsens command source = OneRead job command source Reconstructed (λ t. Some (version_with Reconstructed (coarsened t))) (λ t. Some (over_coarsened t))

  pub coarsen_plan : (command source : ℕ) → HasPlan job.commands command (Coarsen source) → Coarsens command source
  coarsen_plan zero source plan = none_is plan.command plan.at
  coarsen_plan (suc n) source plan = go plan.command plan.at plan.plan
    where
      go : (c : Command) → slice_get job.commands n ≡ Some c → IsPlan (take n job.commands) c (Coarsen source) → Coarsens (suc n) source
      go (Command.Coarsen name) at plan =
          one_read n (Command.Coarsen name) name source Reconstructed (option_map (λ t. version_with Reconstructed (coarsened t))) (option_map over_coarsened)
          at plan (only n (Command.Coarsen name) name Reconstructed (meaning_at n (Command.Coarsen name) at).reads) refl refl
      go _ at plan = absurd plan

  abbrev pub Compresses : ℕ → ℕ → Type 0
  Compresses command source = OneRead job command source Reconstructed (λ t. Some (version_with Compressed t)) (λ t. Some (over t.shape))

  pub compress_plan : (command source : ℕ) → HasPlan job.commands command (Compress source) → Compresses command source
  compress_plan zero source plan = none_is plan.command plan.at
  compress_plan (suc n) source plan = go plan.command plan.at plan.plan
    where
      go : (c : Command) → slice_get job.commands n ≡ Some c → IsPlan (take n job.commands) c (Compress source) → Compresses (suc n) source
      go (Command.Compress name) at plan =
          one_read n (Command.Compress name) name source Reconstructed (option_map (λ t. version_with Compressed t)) (option_map (λ t. over t.shape))
          at plan (only n (Command.Compress name) name Reconstructed (meaning_at n (Command.Compress name) at).reads) refl refl
      go _ at plan = absurd plan

  abbrev pub Reconstructs : ℕ → ℕ → Type 0
  Reconstructs command source = OneRead job command source Compressed (λ t. Some (version_with Reconstructed t)) (λ t. Some (over t.shape))

  pub reconstruct_plan : (command source : ℕ) → HasPlan job.commands command (Reconstruct source) → Reconstructs command source
  reconstruct_plan zero source plan = none_is plan.command plan.at
  reconstruct_plan (suc n) source plan = go plan.command plan.at plan.plan
    where
      go : (c : Command) → slice_get job.commands n ≡ Some c → IsPlan (take n job.commands) c (Reconstruct source) → Reconstructs (suc n) source
      go (Command.Reconstruct name) at plan =
          one_read n (Command.Reconstruct name) name source Compressed (option_map (λ t. version_with Reconstructed t)) (option_map (λ t. over t.shape))
          at plan (only n (Command.Reconstruct name) name Compressed (meaning_at n (Command.Reconstruct name) at).reads) refl refl
      go _ at plan = absurd plan

  abbrev pub Adds : ℕ → ℤ → ℕ → ℤ → ℕ → Type 0
  Adds command a left b right = TwoRead job command left right Compressed (λ p. Some (version_with Compressed (weighted_sum a p.0 b p.1))) (λ p. Some (over (union p.0.shape p.1.shape)))

  pub add_plan : (command : ℕ) (a : ℤ) (left : ℕ) (b : ℤ) (right : ℕ) → HasPlan job.commands command (Add a left b right) → Adds command a left b right
  add_plan zero a left b right plan = none_is plan.command plan.at
  add_plan (suc n) a left b right plan = go plan.command plan.at plan.plan
    where
      go : (c : Command) → slice_get job.commands n ≡ Some c → IsPlan (take n job.commands) c (Add a left b right) → Adds (suc n) a left b right
      go (Command.Add name x f y g) at plan =
          subst (λ (z : ℤ). Adds (suc n) z left b right) plan.0 (subst (λ (z : ℤ). Adds (suc n) x left z right) plan.2
          (two_read n (Command.Add name x f y g) f g left right Compressed (option_map (λ p. version_with Compressed (weighted_sum x p.0 y p.1))) (option_map (λ p. over (union p.0.shape p.1.shape)))
          at plan.1 plan.3 (meaning_at n (Command.Add name x f y g) at).reads refl refl))
      go _ at plan = absurd plan

  abbrev pub Multiplies : ℕ → ℕ → ℕ → Type 0
  Multiplies command left right = TwoRead job command left right Reconstructed (λ p. Some (version_with Reconstructed (product p.0 p.1))) (λ p. Some (over (union p.0.shape p.1.shape)))

  pub mul_plan : (command left right : ℕ) → HasPlan job.commands command (Mul left right) → Multiplies command left right
  mul_plan zero left right plan = none_is plan.command plan.at
  mul_plan (suc n) left right plan = go plan.command plan.at plan.plan
    where
      go : (c : Command) → slice_get job.commands n ≡ Some c → IsPlan (take n job.commands) c (Mul left right) → Multiplies (suc n) left right
      go (Command.Mul name f g) at plan =
          two_read n (Command.Mul name f g) f g left right Reconstructed (option_map (λ p. version_with Reconstructed (product p.0 p.1))) (option_map (λ p. over (union p.0.shape p.1.shape)))
          at plan.0 plan.1 (meaning_at n (Command.Mul name f g) at).reads refl refl
      go _ at plan = absurd plan

  abbrev pub Inners : ℕ → ℕ → ℕ → Type 0
  Inners command left right = TwoRead job command left right Compressed (λ p. None) (λ p. Some (over (intersection p.0.shape p.1.shape)))

  pub inner_plan : (command left right : ℕ) → HasPlan job.commands command (Inner left right) → Inners command left right
  inner_plan zero left right plan = none_is plan.command plan.at
  inner_plan (suc n) left right plan = go plan.command plan.at plan.plan
    where
      go : (c : Command) → slice_get job.commands n ≡ Some c → IsPlan (take n job.commands) c (Inner left right) → Inners (suc n) left right
      go (Command.Inner f g) at plan =
          two_read n (Command.Inner f g) f g left right Compressed (λ o. None) (option_map (λ p. over (intersection p.0.shape p.1.shape)))
          at plan.0 plan.1 (meaning_at n (Command.Inner f g) at).reads refl refl
      go _ at plan = absurd plan

  abbrev pub Prints : ℕ → ℕ → TreeForm → Type 0
  Prints command source form = OneRead job command source (form_of form) (λ t. None) (λ t. Some (over t.shape))

  in_form : (form : Form) (o : Option Version) → version_form o ≡ Some form → is_some (tree_in form o) ≡ true
  in_form form None e = absurd (cc)
  in_form form (Some version) e = subst (λ (f : Form). is_some (tree_in f (Some version)) ≡ true) (some_is version.form form e) (own version.form)
    where
      own : (f : Form) → is_some (if same_form f f then Some version.tree else None) ≡ true
      own Reconstructed = refl
      own Compressed = refl

  pub print_plan : (command source : ℕ) (form : TreeForm) (printed : Name) → HasPlan job.commands command (Print source form printed) → Prints command source form
  print_plan zero source form printed plan = none_is plan.command plan.at
  print_plan (suc n) source form printed plan = go plan.command plan.at plan.plan
    where
      go : (c : Command) → slice_get job.commands n ≡ Some c → IsPlan (take n job.commands) c (Print source form printed) → Prints (suc n) source form
      go (Command.Print name) at plan =
          let forms = job_forms (job_of job) (take n job.commands) (drop n job.commands) name planned.checked (sym (take_drop job.commands n)) in
          let s = source_of n (Command.Print name) name source (form_of form) at plan.0 (in_form (form_of form) (before n name) (forms ∙ plan.1)) in
          record {
            earlier = s.earlier;
            tree = s.tree;
            read = s.read;
            written = ap (option_and_then (written job.depth (before n))) at;
            visited = ap (option_and_then (visits_of job.depth (before n))) at ∙ ap (option_map (λ (version : Version). over version.tree.shape)) (version_in (form_of form) (before n name) s.tree s.named);
          }
      go _ at plan = absurd plan
