-- A larger bound on places changes nothing.
use Rattle.std.proofs.Common.{◌≡◌, ◌⊎◌, ℕ, zero, suc, ◌+◌, ◌*◌, ◌<◌, ◌≤◌, Bool, true, false, ◌&&◌, ◌∷◌, refl, ap, ◌∙◌, ⊎_elim, arith}
use Rattle.std.specs.Prelude.{nat_lt, if◌then◌else◌, length, Option, Some, None}
use Rattle.std.proofs.lemmas.Bool.{cases_lt, ltb-true, false_from_ne_true}
use Rattle.event_laws.specs.Held.{fences_before}
use Rattle.haar_units.specs.Jobs.{Operation, DistributedJob, kinds, operation_at, is_on_trees}
use Rattle.haar_units.specs.Jobs.Operation.{Project, Size, Fence}
use Rattle.haar_units.specs.Traversals.{Traversal, IsTraversal}
use Rattle.haar_units.specs.Bins.{places, is_held, holds}
use Rattle.haar_units.specs.Totals.{one_if, count_below, changes_owner, tasks_of, messages_of, of_operation, total_by, total_of}
use Rattle.haar_units.proofs.SumLemmas.{sum_ext, sum_short}

-- a traversal with places below a bound has them below a larger one
pub wider : (job : DistributedJob) (traversal : Traversal) (bound more command : ℕ) → bound ≤ more → IsTraversal job traversal bound command → IsTraversal job traversal more command
wider job traversal bound more command le k = record {
  visits_below = λ place v. let b = k.visits_below place v in (b.0, let lt = b.1 in omega (arith, lt, le));
  root = k.root;
  parents = k.parents;
  children = k.children;
  erases_in_coarsen = k.erases_in_coarsen;
  erases_visited = k.erases_visited;
  erases_both = k.erases_both;
}

-- a test that no place from a bound on passes
abbrev FailsFrom : (ℕ → Bool) → ℕ → Type 0
FailsFrom test bound = (x : ℕ) → bound ≤ x → test x ≡ false

places_same : (test : ℕ → Bool) (n m : ℕ) → n ≤ m → FailsFrom test n → places test m ≡ places test n
places_same test n zero le h = let same : 0 ≡ n = omega (arith, le) in ap (places test) same
places_same test n (suc m) le h = go (λ a. places_same test n m a h) (cases_lt m n)
  where
    go : (n ≤ m → places test m ≡ places test n) → (m < n) ⊎ (n ≤ m) → places test (suc m) ≡ places test n
    go rec = ⊎_elim
        (λ lt. let same : suc m ≡ n = omega (arith, le, lt) in ap (places test) same)
        (λ few. ap (λ (b : Bool). if b then m ∷ places test m else places test m) (h m few) ∙ rec few)

count_same : (test : ℕ → Bool) (n m : ℕ) → n ≤ m → FailsFrom test n → count_below test m ≡ count_below test n
count_same test n m le h = sum_short (λ x. one_if (test x)) n m le (λ x few. ap one_if (h x few))

and_first : (a b : Bool) → a ≡ false → (a && b) ≡ false
and_first a b e = λ i. e i && b

module _ (job : DistributedJob) (traversal : Traversal) (bound command : ℕ) (k : IsTraversal job traversal bound command) where
  no_visit : FailsFrom (traversal.visits command) bound
  no_visit x few = false_from_ne_true (traversal.visits command x) (λ t. let lt = (k.visits_below x t).1 in omega (arith, few, lt))

  no_erase : FailsFrom (traversal.erases command) bound
  no_erase x few = false_from_ne_true (traversal.erases command x) (λ t. let lt = (k.visits_below x (k.erases_visited x t).1).1 in omega (arith, few, lt))

  pub holds_same : (rank more : ℕ) → bound ≤ more → holds job traversal more rank command ≡ holds job traversal bound rank command
  holds_same rank more le = places_same (is_held job traversal rank command) bound more le (λ x few. and_first (traversal.visits command x) _ (no_visit x few))

  tree_tasks : (more : ℕ) → bound ≤ more → tasks_of job traversal more command Project ≡ tasks_of job traversal bound command Project
  tree_tasks more le =
      let a = count_same (traversal.visits command) bound more le no_visit in
      let b = count_same (λ x. traversal.visits command x && traversal.visits command (2 * x)) bound more le (λ x few. and_first (traversal.visits command x) _ (no_visit x few)) in
      let c = count_same (traversal.erases command) bound more le no_erase in
      λ i. a i + b i + c i

  tree_messages : (more : ℕ) → bound ≤ more → messages_of job traversal more command Project ≡ messages_of job traversal bound command Project
  tree_messages more le =
      let a = count_same (λ x. traversal.visits command x && changes_owner job x) bound more le (λ x few. and_first (traversal.visits command x) _ (no_visit x few)) in
      let b = count_same (λ x. traversal.erases command x && changes_owner job x) bound more le (λ x few. and_first (traversal.erases command x) _ (no_erase x few)) in
      λ i. 2 * a i + b i

module _ (job : DistributedJob) (traversal : Traversal) (bound more : ℕ) (le : bound ≤ more) where
  of_command : (command : ℕ) (w : Operation) → (is_on_trees w ≡ true → IsTraversal job traversal bound command)
      → (tasks_of job traversal more command w ≡ tasks_of job traversal bound command w) × (messages_of job traversal more command w ≡ messages_of job traversal bound command w)
  of_command command Size k = (refl, refl)
  of_command command Fence k = (refl, refl)
  of_command command w k = (tree_tasks job traversal bound command (k refl) more le, tree_messages job traversal bound command (k refl) more le)

  pub total_same : (fence : ℕ) → ((command : ℕ) (operation : Operation) → fences_before command (kinds job) < fence → operation_at job command ≡ Some operation → is_on_trees operation ≡ true → IsTraversal job traversal bound command)
      → total_of job traversal more fence ≡ total_of job traversal bound fence
  total_same fence each = λ i. (by (messages_of job traversal more) (messages_of job traversal bound) (λ c w k. (of_command c w k).1) i, by (tasks_of job traversal more) (tasks_of job traversal bound) (λ c w k. (of_command c w k).0) i)
    where
      by : (f g : ℕ → Operation → ℕ) → ((c : ℕ) (w : Operation) → (is_on_trees w ≡ true → IsTraversal job traversal bound c) → f c w ≡ g c w) → total_by job f fence ≡ total_by job g fence
      by f g same = sum_ext _ _ (suc (length job.operations)) (λ c lt. by_test c (nat_lt (fences_before c (kinds job)) fence) refl)
        where
          by_operation : (c : ℕ) (o : Option Operation) → fences_before c (kinds job) < fence → operation_at job c ≡ o → of_operation (f c) o ≡ of_operation (g c) o
          by_operation c None early at = refl
          by_operation c (Some w) early at = same c w (λ tree. each c w early at tree)

          by_test : (c : ℕ) (b : Bool) → nat_lt (fences_before c (kinds job)) fence ≡ b → (if b then of_operation (f c) (operation_at job c) else 0) ≡ (if b then of_operation (g c) (operation_at job c) else 0)
          by_test c true e = by_operation c (operation_at job c) (ltb-true (fences_before c (kinds job)) fence e) refl
          by_test c false e = refl
