-- Lemmas that crates above use: what is known of the versions before the first command that overflows: they are trees whose
-- values a cell may have.
use Rattle.std.proofs.Common.{◌≡◌, ◌⊎◌, ℕ, zero, suc, ◌+◌, ◌*◌, ◌<◌, ◌≤◌, Bool, true, false, List, [], ◌∷◌, refl, sym, ap, ◌∙◌, subst, arith, ⊎_elim}
use Rattle.std.specs.Prelude.{◌==◌, if◌then◌else◌, take, slice_get, Option, Some, None, IfSome}
use Rattle.std.specs.List.{fold}
use Rattle.std.specs.Option.{option_map_or, option_and_then}
use Rattle.std.specs.Int.RustNames.{unsigned_abs}
use Rattle.std.proofs.lemmas.Bool.{cases_lt, lt-ltb, le-ltb, ne_eqb, leb-true}
use Rattle.tree_key.specs.Keys.{Key, width}
use Rattle.tree_model.specs.Commands.{Command}
use Rattle.tree_model.specs.Functions.{max_value, max_depth}
use Rattle.tree_model.specs.Jobs.{overflow_from, first_overflow}
use Rattle.tree_model.specs.Operations.{overflows}
use Rattle.tree_model.specs.Shapes.{is_leaf}
use Rattle.tree_model.specs.Trees.{Tree, IsTree, HasValues, box_sum}
use Rattle.tree_model.specs.Versions.{Version, Versions, no_versions, written, after, versions_behind, command_overflows}
use Rattle.tree_model.proofs.LeafSumLemmas.{leaf_shows}
use Rattle.tree_model.proofs.StoredTreeLemmas.{leaves_within}
use Rattle.job_data.specs.Checks.{IsJob}
use Rattle.haar_units.specs.ModelJobs.{command_at, versions_before}
use Rattle.haar_units.proofs.EffectLemmas.{some_is, none_is}
use Rattle.haar_units.proofs.JobTraversalLemmas.{command_of}
use Rattle.haar_units.proofs.VersionLemmas.{TreeOf, writes_trees, trees_of_job}
use Rattle.haar_meaning.specs.PlannedJobs.{PlannedJob, job_of, version_of, Standing, standing_to, standing, IfBefore}
use Rattle.haar_meaning.specs.PlannedJobs.Standing.{Before, At, After}

-- a tree of a depth, with values that a cell may have
pub record IsKnown (depth : ℕ) (t : Tree) : Type 0 where
  pub tree : IsTree t
  pub depth_is : t.depth ≡ depth
  pub shallow : t.depth ≤ max_depth
  pub values : HasValues t

-- what is known before the overflow
pub if_before : {A : Type 0} (s : Standing) → s ≡ Before → IfBefore s A → A
if_before Before e a = a
if_before At e a = absurd (cc)
if_before After e a = absurd (cc)

pub before_if : {A : Type 0} (s : Standing) → (s ≡ Before → A) → IfBefore s A
before_if Before a = a refl
before_if At a = tt
before_if After a = tt

pub if_some : {A : Type 0} (P : A → Type 0) (o : Option A) (a : A) → o ≡ Some a → IfSome o P → P a
if_some P None a e p = none_is a e
if_some P (Some b) a e p = subst P (some_is b a e) p

pub some_if : {A : Type 0} (P : A → Type 0) (o : Option A) → ((a : A) → o ≡ Some a → P a) → IfSome o P
some_if P None each = tt
some_if P (Some a) each = each a refl

-- where numbers stand to one of them

pub from_first : (number first : ℕ) → first ≤ number → standing_to number (Some first) ≡ (if number == first then At else After)
from_first number first le = ap (λ (b : Bool). if b then Before else if number == first then At else After) (le-ltb number first le)

past_first : (number first : ℕ) → first < number → standing_to number (Some first) ≡ After
past_first number first lt = from_first number first (omega (arith, lt)) ∙ ap (λ (b : Bool). if b then At else After) (ne_eqb number first (λ e. omega (arith, lt, e)))

before_first : (number first : ℕ) → number < first → standing_to number (Some first) ≡ Before
before_first number first lt = ap (λ (b : Bool). if b then Before else if number == first then At else After) (lt-ltb number first lt)

one_of_two : (b : Bool) → (if b then At else After) ≡ Before → ⊥
one_of_two true e = cc
one_of_two false e = cc

not_before : (number first : ℕ) → first ≤ number → standing_to number (Some first) ≡ Before → ⊥
not_before number first le e = one_of_two (number == first) (sym (from_first number first le) ∙ e)

-- what a command reads was written before the overflow, unless the command comes after it
earlier : (number source : ℕ) (o : Option ℕ) → source < number → (standing_to number o ≡ After → ⊥) → standing_to source o ≡ Before
earlier number source None lt not = refl
earlier number source (Some first) lt not = ⊎_elim (λ low. before_first source first low) (λ le. absurd (not (past_first number first (omega (arith, le, lt))))) (cases_lt source first)

pub source_is_before : (job : PlannedJob) (number source : ℕ) → source < number → (standing job number ≡ After → ⊥) → standing job source ≡ Before
source_is_before job number source lt not = earlier number source (first_overflow (job_of job)) lt not

-- the first that overflows

abbrev Fine : ℕ → Versions → ℕ → List Command → ℕ → Command → Type 0
Fine depth versions number cs i c = standing_to (number + i) (overflow_from depth versions number cs) ≡ Before → command_overflows depth (fold (after depth) versions (take i cs)) c ≡ false

fine_from : (depth : ℕ) (versions : Versions) (number : ℕ) (cs : List Command) (i : ℕ) (c : Command) → slice_get cs i ≡ Some c → Fine depth versions number cs i c
fine_from depth versions number [] i c at = none_is c at
fine_from depth versions number (d ∷ ds) i c at = go i at (λ j there. fine_from depth (after depth versions d) (number + 1) ds j c there) (command_overflows depth versions d) refl
  where
    go : (i : ℕ) → slice_get (d ∷ ds) i ≡ Some c → ((j : ℕ) → slice_get ds j ≡ Some c → Fine depth (after depth versions d) (number + 1) ds j c) → (b : Bool) → command_overflows depth versions d ≡ b
        → standing_to (number + i) (if b then Some number else overflow_from depth (after depth versions d) (number + 1) ds) ≡ Before → command_overflows depth (fold (after depth) versions (take i (d ∷ ds))) c ≡ false
    go i at rec true is e = absurd (not_before (number + i) number (omega arith) e)
    go zero at rec false is e = subst (λ (x : Command). command_overflows depth versions x ≡ false) (some_is d c at) is
    go (suc i) at rec false is e =
        let same : number + suc i ≡ number + 1 + i = omega arith in
        rec i at (subst (λ (n : ℕ). standing_to n (overflow_from depth (after depth versions d) (number + 1) ds) ≡ Before) same e)

-- numbers before that of a list's first command are before an overflow in it
pub none_earlier : (depth : ℕ) (versions : Versions) (number least : ℕ) (cs : List Command) → least < number → standing_to least (overflow_from depth versions number cs) ≡ Before
none_earlier depth versions number least [] lt = refl
none_earlier depth versions number least (d ∷ ds) lt = go (command_overflows depth versions d) (none_earlier depth (after depth versions d) (number + 1) least ds (omega (arith, lt)))
  where
    go : (b : Bool) → standing_to least (overflow_from depth (after depth versions d) (number + 1) ds) ≡ Before → standing_to least (if b then Some number else overflow_from depth (after depth versions d) (number + 1) ds) ≡ Before
    go true rec = before_first least number lt
    go false rec = rec

abbrev Over : ℕ → Versions → ℕ → List Command → ℕ → Command → Type 0
Over depth versions number cs i c = standing_to (number + i) (overflow_from depth versions number cs) ≡ At → command_overflows depth (fold (after depth) versions (take i cs)) c ≡ true

over_from : (depth : ℕ) (versions : Versions) (number : ℕ) (cs : List Command) (i : ℕ) (c : Command) → slice_get cs i ≡ Some c → Over depth versions number cs i c
over_from depth versions number [] i c at = none_is c at
over_from depth versions number (d ∷ ds) i c at = go i at (λ j there. over_from depth (after depth versions d) (number + 1) ds j c there) (command_overflows depth versions d) refl
  where
    go : (i : ℕ) → slice_get (d ∷ ds) i ≡ Some c → ((j : ℕ) → slice_get ds j ≡ Some c → Over depth (after depth versions d) (number + 1) ds j c) → (b : Bool) → command_overflows depth versions d ≡ b
        → standing_to (number + i) (if b then Some number else overflow_from depth (after depth versions d) (number + 1) ds) ≡ At → command_overflows depth (fold (after depth) versions (take i (d ∷ ds))) c ≡ true
    go zero at rec true is e = subst (λ (x : Command). command_overflows depth versions x ≡ true) (some_is d c at) is
    go (suc i) at rec true is e = absurd (let late = past_first (number + suc i) number (omega arith) in cc)
    go zero at rec false is e = absurd (let same : number + 0 ≡ number = omega arith in
        let early = subst (λ (n : ℕ). standing_to n (overflow_from depth (after depth versions d) (number + 1) ds) ≡ Before) (sym same) (none_earlier depth (after depth versions d) (number + 1) number ds (omega arith)) in cc)
    go (suc i) at rec false is e =
        let same : number + suc i ≡ number + 1 + i = omega arith in
        rec i at (subst (λ (n : ℕ). standing_to n (overflow_from depth (after depth versions d) (number + 1) ds) ≡ At) same e)

-- where no value is above the limit, each is within it
values_without : (t : Tree) → IsTree t → overflows t ≡ false → HasValues t
values_without t tree none = (leaves_within t tree (λ k leaf. small k leaf (cases_lt (width t.depth k * max_value) (unsigned_abs (box_sum t k))))).0
  where
    small : (k : Key) → is_leaf t.shape k ≡ true → (width t.depth k * max_value < unsigned_abs (box_sum t k)) ⊎ (unsigned_abs (box_sum t k) ≤ width t.depth k * max_value) → unsigned_abs (box_sum t k) ≤ width t.depth k * max_value
    small k leaf = ⊎_elim (λ much. absurd (let over = leaf_shows t tree (k, record { leaf = leaf; over = much }) in cc)) (λ low. low)

version_overflows : (depth : ℕ) (versions : Versions) (c : Command) (version : Version) (b : Bool) → written depth versions c ≡ Some version → command_overflows depth versions c ≡ b → overflows version.tree ≡ b
version_overflows depth versions c version b gives is = sym (ap (λ (o : Option Version). option_map_or (λ (v : Version). overflows v.tree) o false) gives) ∙ is

-- the version of a command is a tree of the job's depth
pub version_is_tree : (job : PlannedJob) (number : ℕ) (version : Version) → version_of job number ≡ Some version → TreeOf job.depth version.tree
version_is_tree job zero version e = none_is version e
version_is_tree job (suc before) version e =
    let of = command_of job.commands (suc before) (written job.depth (versions_before job.depth job.commands (suc before))) version e in
    writes_trees job.depth (versions_behind job.depth (take before job.commands)) (trees_of_job job.depth (take before job.commands)) of.c version of.gives

pub version_is_known : (job : PlannedJob) (number : ℕ) (version : Version) → IsJob (job_of job) → standing job number ≡ Before → version_of job number ≡ Some version → IsKnown job.depth version.tree
version_is_known job zero version checked before e = none_is version e
version_is_known job (suc n) version checked before e =
    let of = command_of job.commands (suc n) (written job.depth (versions_before job.depth job.commands (suc n))) version e in
    let is = version_is_tree job (suc n) version e in
    let same : suc n ≡ 1 + n = omega arith in
    let fine = fine_from job.depth no_versions 1 job.commands n of.c of.at (subst (λ (m : ℕ). standing_to m (first_overflow (job_of job)) ≡ Before) same before) in
    let shallow = leb-true job.depth max_depth checked.depth in
    record {
      tree = is.tree;
      depth_is = is.depth_is;
      shallow = subst (λ (d : ℕ). d ≤ max_depth) (sym is.depth_is) shallow;
      values = values_without version.tree is.tree (version_overflows job.depth (versions_behind job.depth (take n job.commands)) of.c version false of.gives fine);
    }

-- and that of the first command that overflows does so
pub version_is_over : (job : PlannedJob) (number : ℕ) (version : Version) → standing job number ≡ At → version_of job number ≡ Some version → overflows version.tree ≡ true
version_is_over job zero version at e = none_is version e
version_is_over job (suc n) version at e =
    let of = command_of job.commands (suc n) (written job.depth (versions_before job.depth job.commands (suc n))) version e in
    let same : suc n ≡ 1 + n = omega arith in
    let over = over_from job.depth no_versions 1 job.commands n of.c of.at (subst (λ (m : ℕ). standing_to m (first_overflow (job_of job)) ≡ At) same at) in
    version_overflows job.depth (versions_behind job.depth (take n job.commands)) of.c version true of.gives over

-- a command at which the first overflow is does so
pub command_is_over : (job : PlannedJob) (n : ℕ) (c : Command) → slice_get job.commands n ≡ Some c → standing job (suc n) ≡ At → command_overflows job.depth (versions_behind job.depth (take n job.commands)) c ≡ true
command_is_over job n c is at =
    let same : suc n ≡ 1 + n = omega arith in
    over_from job.depth no_versions 1 job.commands n c is (subst (λ (m : ℕ). standing_to m (first_overflow (job_of job)) ≡ At) same at)

-- a command that writes no version doesn't overflow
pub no_version_not_over : {A : Type 0} (job : PlannedJob) (number : ℕ) (c : Command) → command_at job.commands number ≡ Some c → version_of job number ≡ None → standing job number ≡ At → A
no_version_not_over job zero c there none at = none_is c there
no_version_not_over job (suc n) c there none at = absurd (
    let over = command_is_over job n c there at in
    let own : written job.depth (versions_behind job.depth (take n job.commands)) c ≡ None = sym (ap (option_and_then (written job.depth (versions_behind job.depth (take n job.commands)))) there) ∙ none in
    let fine : command_overflows job.depth (versions_behind job.depth (take n job.commands)) c ≡ false = ap (λ (o : Option Version). option_map_or (λ (v : Version). overflows v.tree) o false) own in
    cc)
