-- How many tasks and messages the units of one command have.
use Rattle.std.proofs.Common.{◌≡◌, ℕ, zero, suc, ◌+◌, ◌-◌, ◌*◌, ◌/◌, ◌<◌, ◌≤◌, Bool, true, false, not, ◌&&◌, List, [], ◌∷◌, ◌++◌, refl, sym, ap, ◌∙◌, subst, ⊎_elim, arith}
use Rattle.std.specs.Prelude.{if◌then◌else◌, nat_lt, ◌==◌, Option, Some, None}
use Rattle.std.proofs.lemmas.Bool.{and_parts, cases_lt, lt-ltb, ltb-false, eq-eqb, ne_eqb, eqb-true, eqb-false, false_from_ne_true}
use Rattle.app_core.specs.declared.label.CellName.{CellName}
use Rattle.app_core.specs.declared.outline.Outline.{Outline}
use Rattle.app_core.specs.declared.outline.Outline.TheVariants as told_as
use Rattle.event_laws.specs.Totals.{sends_of}
use Rattle.haar_units.specs.Jobs.{Operation, DistributedJob, operation_at, is_on_trees, is_size, is_coarsen}
use Rattle.haar_units.specs.Units.{label, key_future, entry, future_home, home, home_of}
use Rattle.haar_units.specs.Starts.{starts_if, count_starts}
use Rattle.haar_units.specs.Jobs.Operation.{Coarsen, Size, Fence}
use Rattle.haar_units.specs.Actions.{puts_first, rest_of}
use Rattle.haar_units.specs.Actions.Action.{Stop, Descend, Combine, Merge}
use Rattle.haar_units.specs.Traversals.{Traversal, IsTraversal, action_of, plan, plan_if, is_spawned, is_spawned_of, is_spawned_if}
use Rattle.haar_units.specs.Totals.{sum_to, one_if, count_below, changes_owner, tasks_of, messages_of, of_operation}
use Rattle.haar_units.proofs.EffectLemmas.{some_is}
use Rattle.haar_units.proofs.StartLemmas.{sum_start}
use Rattle.haar_units.proofs.SumLemmas.{sum_ext, sum_add, sum_none, sum_front, sum_short, sum_pairs, sum_ones, sum_below, drop_it}
use Rattle.haar_units.proofs.UnitSumLemmas.{part_sum, five}

-- the same condition, and the same number if it holds
cond_ext : (a b : Bool) (m n : ℕ) → a ≡ b → (b ≡ true → m ≡ n) → (if a then m else 0) ≡ (if b then n else 0)
cond_ext a b m n e h = ap (λ (z : Bool). if z then m else 0) e ∙ go b (λ t. h t)
  where
    go : (b : Bool) → (b ≡ true → m ≡ n) → (if b then m else 0) ≡ (if b then n else 0)
    go true h = h refl
    go false h = refl

pub cond_zero : (b : Bool) (n : ℕ) → (b ≡ true → n ≡ 0) → (if b then n else 0) ≡ 0
cond_zero true n h = h refl
cond_zero false n h = refl

eqb_turned : (a b : ℕ) → (a == b) ≡ (b == a)
eqb_turned a b = go (a == b) refl
  where
    go : (t : Bool) → (a == b) ≡ t → t ≡ (b == a)
    go true e = sym (eq-eqb b a (sym (eqb-true a b e)))
    go false e = sym (ne_eqb b a (λ s. eqb-false a b e (sym s)))

sends_after_put : (b : Bool) (n : CellName) (rest : List Outline) (r : ℕ) → sends_of r (if b then told_as.Put n ∷ rest else rest) ≡ sends_of r rest
sends_after_put true n rest r = omega arith
sends_after_put false n rest r = refl

five_zero : (test : ℕ → ℕ → Bool) (value : ℕ → ℕ → ℕ) (n : ℕ) → ((p x : ℕ) → test p x ≡ false) → five test value n ≡ 0
five_zero test value n h =
    let z : (p : ℕ) → part_sum test value n p ≡ 0 = λ p. sum_none (λ x. if test p x then value p x else 0) n (λ x lt. drop_it (test p x) (value p x) 0 (h p x)) in
    let a = z 0 in
    let b = z 1 in
    let c = z 2 in
    let d = z 3 in
    let e = z 4 in
    omega (arith, a, b, c, d, e)

-- messages at one key, if it is visited, has visited children, has erased children
by_cases : (p q r a b c : Bool) → (q ≡ true → p ≡ true) → (r ≡ true → q ≡ true)
    → (if p then (if q then one_if b + one_if c else one_if a) else 0) + (if p && q then (if r then one_if b + one_if c + one_if a else one_if a) else 0)
    ≡ one_if (p && a) + (one_if (q && b) + one_if (q && c) + (one_if (r && b) + one_if (r && c)))
by_cases true true true a b c f g = omega arith
by_cases true true false a b c f g = omega arith
by_cases true false true a b c f g = absurd (let z = g refl in cc)
by_cases true false false a b c f g = omega arith
by_cases false true r a b c f g = absurd (let z = f refl in cc)
by_cases false false true a b c f g = absurd (let z = g refl in cc)
by_cases false false false a b c f g = omega arith

module _ (job : DistributedJob) (traversal : Traversal) (bound : ℕ) (one : 1 ≤ job.ranks) (root : job.owner 1 ≡ 0) (ranks : job.ranks ≤ bound) (two : 2 ≤ bound) where
  abbrev A : ℕ → ℕ
  A x = one_if (changes_owner job x)

  -- messages of the units of a key

  gives : (c x : ℕ) → 1 ≤ x → sends_of (job.owner x) (told_as.Give (key_future c x) (future_home job (key_future c x)) ∷ []) ≡ A x
  gives c x least = go (nat_lt 1 x) refl
    where
      go : (b : Bool) → nat_lt 1 x ≡ b → (if not ((if b then job.owner (x / 2) else 0) == job.owner x) then 1 else 0) + 0 ≡ one_if (b && not (job.owner x == job.owner (x / 2)))
      go true e = let t : one_if (not (job.owner (x / 2) == job.owner x)) ≡ one_if (not (job.owner x == job.owner (x / 2))) = ap (λ (b : Bool). one_if (not b)) (eqb_turned (job.owner (x / 2)) (job.owner x)) in omega (arith, t)
      go false e =
          let few = ltb-false 1 x e in
          let is : 1 ≡ x = omega (arith, few, least) in
          let zero_is : 0 ≡ job.owner x = sym root ∙ ap job.owner is in
          let t : one_if (not (0 == job.owner x)) ≡ 0 = ap (λ (b : Bool). one_if (not b)) (eq-eqb 0 (job.owner x) zero_is) in
          omega (arith, t)

  child : (x y : ℕ) → 1 < y → y / 2 ≡ x → one_if (not (job.owner y == job.owner x)) ≡ A y
  child x y lt half = sym (λ i. one_if (lt-ltb 1 y lt i && not (job.owner y == job.owner (half i))))

  stays : (x : ℕ) → one_if (not (job.owner x == job.owner x)) ≡ 0
  stays x = ap (λ (b : Bool). one_if (not b)) (eq-eqb (job.owner x) (job.owner x) refl)

  splits : (c x : ℕ) → 1 ≤ x → sends_of (job.owner x) (rest_of job Descend c x) ≡ A (2 * x) + A (2 * x + 1)
  splits c x least =
      let l = child x (2 * x) (omega (arith, least)) (omega arith) in
      let r = child x (2 * x + 1) (omega (arith, least)) (omega arith) in
      let s = stays x in
      omega (arith, l, r, s)

  merges : (c x : ℕ) → 1 ≤ x → sends_of (job.owner x) (rest_of job Merge c x) ≡ A (2 * x) + A (2 * x + 1) + A x
  merges c x least =
      let l = child x (2 * x) (omega (arith, least)) (omega arith) in
      let r = child x (2 * x + 1) (omega (arith, least)) (omega arith) in
      let g = gives c x least in
      omega (arith, l, r, g)

  module _ (of : ℕ → Bool) (c : ℕ) (w : Operation) (kind : of c ≡ true) (at : operation_at job c ≡ Some w) where
    abbrev T : ℕ → ℕ → Bool
    T p x = of c && is_spawned job traversal (label c p x)

    -- messages of a unit
    abbrev S : ℕ → ℕ → ℕ
    S p x = sends_of (home job (label c p x)) (plan job traversal (label c p x))

    abbrev U : ℕ → ℕ → ℕ
    U p x = 1

    test_is : (p x : ℕ) → T p x ≡ is_spawned_of job traversal w c p x
    test_is p x = λ i. kind i && is_spawned_if job traversal (label c p x) (at i)

    sent : (p x : ℕ) → S p x ≡ sends_of (home_of job p x) (rest_of job (action_of traversal c p x) c x)
    sent p x = ap (λ (o : Option Operation). sends_of (home_of job p x) (plan_if job traversal (label c p x) o)) at ∙ sends_after_put (puts_first w (action_of traversal c p x)) (entry c x) (rest_of job (action_of traversal c p x) c x) (home_of job p x)

    module _ (tree : is_on_trees w ≡ true) (k : IsTraversal job traversal bound c) where
      abbrev v : ℕ → Bool
      v x = traversal.visits c x

      abbrev e : ℕ → Bool
      e x = traversal.erases c x

      test_down : (x : ℕ) → T 0 x ≡ v x
      test_down x = test_is 0 x ∙ ap (λ (b : Bool). b && v x) tree

      test_up : (x : ℕ) → T 1 x ≡ (v x && v (2 * x))
      test_up x = test_is 1 x ∙ ap (λ (b : Bool). b && (v x && v (2 * x))) tree

      coarsen_only : (b : Bool) (x : ℕ) → e x ≡ b → (is_coarsen w && b) ≡ b
      coarsen_only true x t = ap (λ (z : Operation). is_coarsen z && true) (some_is w Coarsen (sym at ∙ k.erases_in_coarsen x t))
      coarsen_only false x t = go (is_coarsen w)
        where
          go : (b : Bool) → (b && false) ≡ false
          go true = refl
          go false = refl

      test_clear : (x : ℕ) → T 2 x ≡ e x
      test_clear x = test_is 2 x ∙ coarsen_only (e x) x refl

      no_size : (w : Operation) → is_on_trees w ≡ true → is_size w ≡ false
      no_size Size t = absurd (cc)
      no_size w t = refl

      test_count : (x : ℕ) → T 3 x ≡ false
      test_count x = test_is 3 x ∙ ap (λ (b : Bool). b && nat_lt x job.ranks) (no_size w tree)

      test_sum : (x : ℕ) → T 4 x ≡ false
      test_sum x = test_is 4 x ∙ ap (λ (b : Bool). b && (x == 1)) (no_size w tree)

      no_part : (value : ℕ → ℕ → ℕ) (p : ℕ) → ((x : ℕ) → T p x ≡ false) → part_sum T value bound p ≡ 0
      no_part value p h = sum_none (λ x. if T p x then value p x else 0) bound (λ x lt. drop_it (T p x) (value p x) 0 (h x))

      tree_tasks : five T U bound ≡ count_below v bound + count_below (λ x. v x && v (2 * x)) bound + count_below e bound
      tree_tasks =
          let a : part_sum T U bound 0 ≡ count_below v bound = sum_ext (λ x. if T 0 x then 1 else 0) (λ x. one_if (v x)) bound (λ x lt. ap one_if (test_down x)) in
          let b : part_sum T U bound 1 ≡ count_below (λ x. v x && v (2 * x)) bound = sum_ext (λ x. if T 1 x then 1 else 0) (λ x. one_if (v x && v (2 * x))) bound (λ x lt. ap one_if (test_up x)) in
          let d : part_sum T U bound 2 ≡ count_below e bound = sum_ext (λ x. if T 2 x then 1 else 0) (λ x. one_if (e x)) bound (λ x lt. ap one_if (test_clear x)) in
          let f = no_part U 3 test_count in
          let g = no_part U 4 test_sum in
          omega (arith, a, b, d, f, g)

      abbrev down_sends : ℕ → ℕ
      down_sends x = if v x then (if v (2 * x) then A (2 * x) + A (2 * x + 1) else A x) else 0

      abbrev up_sends : ℕ → ℕ
      up_sends x = if v x && v (2 * x) then (if e (2 * x) then A (2 * x) + A (2 * x + 1) + A x else A x) else 0

      down_sent : (x : ℕ) → v x ≡ true → S 0 x ≡ (if v (2 * x) then A (2 * x) + A (2 * x + 1) else A x)
      down_sent x t = sent 0 x ∙ go (v (2 * x))
        where
          least : 1 ≤ x
          least = (k.visits_below x t).0

          go : (b : Bool) → sends_of (job.owner x) (rest_of job (if b then Descend else Stop) c x) ≡ (if b then A (2 * x) + A (2 * x + 1) else A x)
          go true = splits c x least
          go false = gives c x least

      up_sent : (x : ℕ) → v x ≡ true → S 1 x ≡ (if e (2 * x) then A (2 * x) + A (2 * x + 1) + A x else A x)
      up_sent x t = sent 1 x ∙ go (e (2 * x))
        where
          least : 1 ≤ x
          least = (k.visits_below x t).0

          go : (b : Bool) → sends_of (job.owner x) (rest_of job (if b then Merge else Combine) c x) ≡ (if b then A (2 * x) + A (2 * x + 1) + A x else A x)
          go true = merges c x least
          go false = gives c x least

      abbrev V : ℕ → ℕ
      V x = one_if (v x && changes_owner job x)

      abbrev E : ℕ → ℕ
      E x = one_if (e x && changes_owner job x)

      at_key : (x : ℕ) → down_sends x + up_sends x ≡ V x + (V (2 * x) + V (2 * x + 1) + (E (2 * x) + E (2 * x + 1)))
      at_key x = ⊎_elim (λ none. at_none x (omega (arith, none))) (λ some. at_some (omega (arith, some))) (cases_lt x 1)
        where
          at_some : 1 ≤ x → down_sends x + up_sends x ≡ V x + (V (2 * x) + V (2 * x + 1) + (E (2 * x) + E (2 * x + 1)))
          at_some least =
              let right : V (2 * x + 1) ≡ one_if (v (2 * x) && changes_owner job (2 * x + 1)) = ap (λ (b : Bool). one_if (b && changes_owner job (2 * x + 1))) (k.children x least) in
              let erased : E (2 * x + 1) ≡ one_if (e (2 * x) && changes_owner job (2 * x + 1)) = ap (λ (b : Bool). one_if (b && changes_owner job (2 * x + 1))) (k.erases_both x least) in
              let all = by_cases (v x) (v (2 * x)) (e (2 * x)) (changes_owner job x) (changes_owner job (2 * x)) (changes_owner job (2 * x + 1)) (k.parents x) (λ t. (k.erases_visited (2 * x) t).1) in
              omega (arith, all, right, erased)

          none_visited : v 0 ≡ false
          none_visited = false_from_ne_true (v 0) (λ t. let lt = (k.visits_below 0 t).0 in omega (arith, lt))

          none_erased : e 0 ≡ false
          none_erased = false_from_ne_true (e 0) (λ t. let lt = (k.erases_visited 0 t).0 in omega (arith, lt))

          and_none : (b : Bool) → one_if (b && false) ≡ 0
          and_none true = refl
          and_none false = refl

          zero_key : down_sends 0 + up_sends 0 ≡ V 0 + (V 0 + V 1 + (E 0 + E 1))
          zero_key =
              let a : down_sends 0 ≡ 0 = ap (λ (b : Bool). if b then (if v 0 then A 0 + A 1 else A 0) else 0) none_visited in
              let b : up_sends 0 ≡ 0 = ap (λ (b : Bool). if b && v 0 then (if e 0 then A 0 + A 1 + A 0 else A 0) else 0) none_visited in
              let f : V 0 ≡ 0 = ap (λ (b : Bool). one_if (b && changes_owner job 0)) none_visited in
              let g : E 0 ≡ 0 = ap (λ (b : Bool). one_if (b && changes_owner job 0)) none_erased in
              let h : V 1 ≡ 0 = and_none (v 1) in
              let l : E 1 ≡ 0 = and_none (e 1) in
              omega (arith, a, b, f, g, h, l)

          at_none : (x : ℕ) → 0 ≡ x → down_sends x + up_sends x ≡ V x + (V (2 * x) + V (2 * x + 1) + (E (2 * x) + E (2 * x + 1)))
          at_none x z = subst (λ (x : ℕ). down_sends x + up_sends x ≡ V x + (V (2 * x) + V (2 * x + 1) + (E (2 * x) + E (2 * x + 1)))) z zero_key

      below_visited : (x : ℕ) → bound ≤ x → V x ≡ 0
      below_visited x few = ap (λ (b : Bool). one_if (b && changes_owner job x)) (false_from_ne_true (v x) (λ t. let lt = (k.visits_below x t).1 in omega (arith, lt, few)))

      below_erased : (x : ℕ) → bound ≤ x → E x ≡ 0
      below_erased x few = ap (λ (b : Bool). one_if (b && changes_owner job x)) (false_from_ne_true (e x) (λ t. let lt = (k.visits_below x (k.erases_visited x t).1).1 in omega (arith, lt, few)))

      tree_sends : five T S bound ≡ 2 * count_below (λ x. v x && changes_owner job x) bound + count_below (λ x. e x && changes_owner job x) bound
      tree_sends =
          let a : part_sum T S bound 0 ≡ sum_to down_sends bound = sum_ext (λ x. if T 0 x then S 0 x else 0) down_sends bound (λ x lt. cond_ext (T 0 x) (v x) (S 0 x) (if v (2 * x) then A (2 * x) + A (2 * x + 1) else A x) (test_down x) (down_sent x)) in
          let b : part_sum T S bound 1 ≡ sum_to up_sends bound = sum_ext (λ x. if T 1 x then S 1 x else 0) up_sends bound (λ x lt. cond_ext (T 1 x) (v x && v (2 * x)) (S 1 x) (if e (2 * x) then A (2 * x) + A (2 * x + 1) + A x else A x) (test_up x) (λ t. up_sent x (and_parts (v x) (v (2 * x)) t).0)) in
          let d : part_sum T S bound 2 ≡ 0 = sum_none (λ x. if T 2 x then S 2 x else 0) bound (λ x lt. cond_zero (T 2 x) (S 2 x) (λ t. sent 2 x)) in
          let f = no_part S 3 test_count in
          let g = no_part S 4 test_sum in
          let both = sum_add down_sends up_sends bound in
          let keys : sum_to (λ x. down_sends x + up_sends x) bound ≡ sum_to (λ x. V x + (V (2 * x) + V (2 * x + 1) + (E (2 * x) + E (2 * x + 1)))) bound = sum_ext (λ x. down_sends x + up_sends x) (λ x. V x + (V (2 * x) + V (2 * x + 1) + (E (2 * x) + E (2 * x + 1)))) bound (λ x lt. at_key x) in
          let first = sum_add V (λ x. V (2 * x) + V (2 * x + 1) + (E (2 * x) + E (2 * x + 1))) bound in
          let second = sum_add (λ x. V (2 * x) + V (2 * x + 1)) (λ x. E (2 * x) + E (2 * x + 1)) bound in
          let pairs = sum_pairs V bound in
          let more = sum_pairs E bound in
          let short = sum_short V bound (2 * bound) (omega arith) below_visited in
          let few = sum_short E bound (2 * bound) (omega arith) below_erased in
          omega (arith, a, b, d, f, g, both, keys, first, second, pairs, more, short, few)

    -- a `size`

    module _ (size : Size ≡ w) where
      size_test : (p x : ℕ) → T p x ≡ is_spawned_of job traversal Size c p x
      size_test p x = test_is p x ∙ ap (λ (z : Operation). is_spawned_of job traversal z c p x) (sym size)

      none_at : (value : ℕ → ℕ → ℕ) (p : ℕ) → ((x : ℕ) → is_spawned_of job traversal Size c p x ≡ false) → part_sum T value bound p ≡ 0
      none_at value p h = sum_none (λ x. if T p x then value p x else 0) bound (λ x lt. drop_it (T p x) (value p x) 0 (size_test p x ∙ h x))

      -- there is one sum unit
      sum_at : (value : ℕ → ℕ → ℕ) (n : ℕ) → value 4 1 ≡ n → part_sum T value bound 4 ≡ n
      sum_at value n is =
          let same : part_sum T value bound 4 ≡ sum_to (λ x. if x == 1 then value 4 x else 0) bound = sum_ext (λ x. if T 4 x then value 4 x else 0) (λ x. if x == 1 then value 4 x else 0) bound (λ x lt. ap (λ (b : Bool). if b then value 4 x else 0) (size_test 4 x)) in
          let short : sum_to (λ x. if x == 1 then value 4 x else 0) bound ≡ sum_to (λ x. if x == 1 then value 4 x else 0) 2 = sum_short (λ x. if x == 1 then value 4 x else 0) 2 bound two (λ x few. drop_it (x == 1) (value 4 x) 0 (ne_eqb x 1 (λ e. omega (arith, e, few)))) in
          let two_terms : sum_to (λ x. if x == 1 then value 4 x else 0) 2 ≡ value 4 1 = omega arith in
          omega (arith, same, short, two_terms, is)

      counts_at : (value : ℕ → ℕ → ℕ) → part_sum T value bound 3 ≡ sum_to (value 3) job.ranks
      counts_at value =
          let same : part_sum T value bound 3 ≡ sum_to (λ x. if nat_lt x job.ranks then value 3 x else 0) bound = sum_ext (λ x. if T 3 x then value 3 x else 0) (λ x. if nat_lt x job.ranks then value 3 x else 0) bound (λ x lt. ap (λ (b : Bool). if b then value 3 x else 0) (size_test 3 x)) in
          same ∙ sum_below (value 3) job.ranks bound ranks

      size_tasks : five T U bound ≡ job.ranks + 1
      size_tasks =
          let a = none_at U 0 (λ x. refl) in
          let b = none_at U 1 (λ x. refl) in
          let d = none_at U 2 (λ x. refl) in
          let f : part_sum T U bound 3 ≡ job.ranks = counts_at U ∙ sum_ones job.ranks in
          let g = sum_at U 1 refl in
          omega (arith, a, b, d, f, g)

      -- each rank but rank 0 sends
      others : (f : ℕ → ℕ) (n : ℕ) → f 0 ≡ 0 → ((x : ℕ) → f (suc x) ≡ 1) → sum_to f n ≡ n - 1
      others f zero zero_is ones = refl
      others f (suc n) zero_is ones =
          let front = sum_front f n in
          let rest : sum_to (λ x. f (suc x)) n ≡ sum_to (λ x. 1) n = sum_ext (λ x. f (suc x)) (λ x. 1) n (λ x lt. ones x) in
          let long = sum_ones n in
          omega (arith, front, rest, long, zero_is)

      apart_from_zero : (x : ℕ) → one_if (not (0 == suc x)) ≡ 1
      apart_from_zero x = ap (λ (b : Bool). one_if (not b)) (ne_eqb 0 (suc x) (λ e. omega (arith, e)))

      size_sends : five T S bound ≡ job.ranks - 1
      size_sends =
          let a = none_at S 0 (λ x. refl) in
          let b = none_at S 1 (λ x. refl) in
          let d = none_at S 2 (λ x. refl) in
          let f : part_sum T S bound 3 ≡ job.ranks - 1 = counts_at S ∙ others (S 3) job.ranks (sent 3 0) (λ x. sent 3 (suc x) ∙ (let t = apart_from_zero x in omega (arith, t))) in
          let g = sum_at S 0 (sent 4 1) in
          omega (arith, a, b, d, f, g)

  -- messages of the starts

  count_sends : (c first n : ℕ) (s : Outline) → sends_of 0 (count_starts c first n ++ s ∷ []) ≡ sum_to (λ x. one_if (not (first + x == 0))) n + sends_of 0 (s ∷ [])
  count_sends c first zero s = omega arith
  count_sends c first (suc n) s =
      let rest = count_sends c (suc first) n s in
      let front = sum_front (λ x. one_if (not (first + x == 0))) n in
      let here : one_if (not (first + 0 == 0)) ≡ one_if (not (first == 0)) = let same : first + 0 ≡ first = omega arith in ap (λ (z : ℕ). one_if (not (z == 0))) same in
      let next : sum_to (λ x. one_if (not (first + suc x == 0))) n ≡ sum_to (λ x. one_if (not (suc first + x == 0))) n = sum_ext (λ x. one_if (not (first + suc x == 0))) (λ x. one_if (not (suc first + x == 0))) n (λ x lt. let same : first + suc x ≡ suc first + x = omega arith in ap (λ (z : ℕ). one_if (not (z == 0))) same) in
      omega (arith, rest, front, here, next)

  -- of one command: the messages of its starts, and of its units
  abbrev start_messages : ℕ → Option Operation → ℕ
  start_messages c o = sends_of 0 (starts_if job c o)

  tree_start : (c : ℕ) (w : Operation) → is_on_trees w ≡ true → start_messages c (Some w) ≡ 0
  tree_start c w t = go w t
    where
      here : (if not (job.owner 1 == 0) then 1 else 0) + 0 ≡ 0
      here = let z : one_if (not (job.owner 1 == 0)) ≡ 0 = ap (λ (b : Bool). one_if (not b)) (eq-eqb (job.owner 1) 0 root) in omega (arith, z)

      go : (w : Operation) → is_on_trees w ≡ true → start_messages c (Some w) ≡ 0
      go Size t = absurd (cc)
      go Fence t = absurd (cc)
      go w t = here

  size_start : (c : ℕ) → start_messages c (Some Size) ≡ job.ranks - 1
  size_start c =
      let all = count_sends c 0 job.ranks (sum_start job c) in
      let same : sum_to (λ x. one_if (not (0 + x == 0))) job.ranks ≡ job.ranks - 1 = ranks_but_one (λ x. one_if (not (0 + x == 0))) job.ranks refl (λ x. let is : 0 + suc x ≡ suc x = omega arith in ap (λ (z : ℕ). one_if (not (z == 0))) is ∙ ap (λ (b : Bool). one_if (not b)) (ne_eqb (suc x) 0 (λ e. omega (arith, e)))) in
      omega (arith, all, same)
    where
      ranks_but_one : (f : ℕ → ℕ) (n : ℕ) → f 0 ≡ 0 → ((x : ℕ) → f (suc x) ≡ 1) → sum_to f n ≡ n - 1
      ranks_but_one f zero zero_is ones = refl
      ranks_but_one f (suc n) zero_is ones =
          let front = sum_front f n in
          let rest : sum_to (λ x. f (suc x)) n ≡ sum_to (λ x. 1) n = sum_ext (λ x. f (suc x)) (λ x. 1) n (λ x lt. ones x) in
          let long = sum_ones n in
          omega (arith, front, rest, long, zero_is)

  module _ (of : ℕ → Bool) (traversals : (c : ℕ) (w : Operation) → of c ≡ true → operation_at job c ≡ Some w → is_on_trees w ≡ true → IsTraversal job traversal bound c) where
    abbrev Test : ℕ → ℕ → ℕ → Bool
    Test c p x = of c && is_spawned job traversal (label c p x)

    abbrev Sent : ℕ → ℕ → ℕ → ℕ
    Sent c p x = sends_of (home job (label c p x)) (plan job traversal (label c p x))

    -- of each command
    abbrev For : ℕ → Bool → Option Operation → Type 0
    For c b o = (five (Test c) (λ p x. 1) bound ≡ (if b then of_operation (tasks_of job traversal bound c) o else 0))
        × ((if b then start_messages c o else 0) + five (Test c) (Sent c) bound ≡ (if b then of_operation (messages_of job traversal bound c) o else 0))

    abbrev pub Is : ℕ → Type 0
    Is c = For c (of c) (operation_at job c)

    pub is_command : (c : ℕ) → Is c
    is_command c = by_kind (of c) refl
      where
        nothing : ((p x : ℕ) → Test c p x ≡ false) → (m n : ℕ) → m ≡ 0 → n ≡ 0 → (k : ℕ) → k ≡ 0 → (five (Test c) (λ p x. 1) bound ≡ m) × (k + five (Test c) (Sent c) bound ≡ n)
        nothing h m n a b k z =
            let t = five_zero (Test c) (λ p x. 1) bound h in
            let s = five_zero (Test c) (Sent c) bound h in
            (omega (arith, t, a), omega (arith, s, b, z))

        fenced : (w : Operation) → Fence ≡ w → of c ≡ true → operation_at job c ≡ Some w → (p x : ℕ) → Test c p x ≡ false
        fenced w e kind at p x = (λ i. kind i && is_spawned_if job traversal (label c p x) (at i)) ∙ ap (λ (z : Operation). is_spawned_of job traversal z c p x) (sym e) ∙ go p
          where
            go : (p : ℕ) → is_spawned_of job traversal Fence c p x ≡ false
            go zero = refl
            go (suc zero) = refl
            go (suc (suc zero)) = refl
            go (suc (suc (suc zero))) = refl
            go (suc (suc (suc (suc zero)))) = refl
            go (suc (suc (suc (suc (suc p))))) = refl

        trees : (w : Operation) → is_on_trees w ≡ true → (tasks_of job traversal bound c w ≡ count_below (traversal.visits c) bound + count_below (λ x. traversal.visits c x && traversal.visits c (2 * x)) bound + count_below (traversal.erases c) bound)
            × (messages_of job traversal bound c w ≡ 2 * count_below (λ x. traversal.visits c x && changes_owner job x) bound + count_below (λ x. traversal.erases c x && changes_owner job x) bound)
        trees Size t = absurd (cc)
        trees Fence t = absurd (cc)
        trees w t = (refl, refl)

        by_tree : (w : Operation) → of c ≡ true → operation_at job c ≡ Some w → is_on_trees w ≡ true → For c true (Some w)
        by_tree w kind at t =
            let n = trees w t in
            let k = traversals c w kind at t in
            let s = tree_start c w t in
            let a = tree_sends of c w kind at t k in
            (tree_tasks of c w kind at t k ∙ sym n.0, ap (λ (z : ℕ). z + five (Test c) (Sent c) bound) s ∙ plain (five (Test c) (Sent c) bound) ∙ a ∙ sym n.1)
          where
            plain : (n : ℕ) → 0 + n ≡ n
            plain n = omega arith

        by_size : (w : Operation) → Size ≡ w → of c ≡ true → operation_at job c ≡ Some w → For c true (Some Size)
        by_size w e kind at =
            let s = size_start c in
            let a = size_sends of c w kind at e in
            (size_tasks of c w kind at e, omega (arith, s, a))

        by_operation : (w : Operation) → of c ≡ true → operation_at job c ≡ Some w → For c true (Some w)
        by_operation Size kind at = by_size Size refl kind at
        by_operation Fence kind at = nothing (fenced Fence refl kind at) 0 0 refl refl (start_messages c (Some Fence)) refl
        by_operation w kind at = by_tree w kind at refl

        by_option : (o : Option Operation) → operation_at job c ≡ o → of c ≡ true → For c true o
        by_option None at kind = nothing (λ p x i. kind i && is_spawned_if job traversal (label c p x) (at i)) 0 0 refl refl (start_messages c None) refl
        by_option (Some w) at kind = by_operation w kind at

        by_kind : (b : Bool) → of c ≡ b → For c b (operation_at job c)
        by_kind true e = by_option (operation_at job c) refl e
        by_kind false e = nothing (λ p x. ap (λ (b : Bool). b && is_spawned job traversal (label c p x)) e) 0 0 refl refl 0 refl
