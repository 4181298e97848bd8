-- The bins hold, of the version that a command writes, the entries of the keys that it visits and doesn't erase.
use Rattle.std.proofs.Common.{◌≡◌, ◌≢◌, ◌⊎◌, ℕ, zero, suc, ◌+◌, ◌*◌, ◌<◌, ◌≤◌, Bool, true, false, not, ◌&&◌, List, ◌∷◌, refl, sym, ap, ◌∙◌, subst, ⊎_elim, arith}
use Rattle.std.specs.Prelude.{if◌then◌else◌, ◌==◌, ◌↔◌, Some, slice_get, slice_index_or, Contains, Option, None}
use Rattle.std.specs.List.{All}
use Rattle.std.proofs.lemmas.Bool.{both_ways, and_parts, and_from, or_cases, cases_eq, eqb-true, eq-eqb, cond-true, cond-false, not-true, false_from_ne_true, not_from_false}
use Rattle.std.proofs.lemmas.List.Kept.{AllPairs-cons}
use Rattle.std.proofs.lemmas.List.Elements.{All-contains_itself}
use Rattle.app_core.specs.declared.label.Label.{Label}
use Rattle.app_core.specs.declared.label.CellName.{CellName}
use Rattle.app_core.specs.declared.outline.Outline.{Outline}
use Rattle.app_core.specs.declared.outline.Outline.TheVariants as of
use Rattle.event_lists.specs.declared.lane.LaneName.{LaneName}
use Rattle.event_lists.specs.declared.receipt.Receipt.{Receipt}
use Rattle.event_lists.specs.declared.mark.Mark.{Mark}
use Rattle.event_lists.specs.Events.{part}
use Rattle.event_lists.specs.Bins.{is_put}
use Rattle.event_laws.specs.Follows.{TaskEffects, IsRun, bin_of}
use Rattle.event_laws.specs.Held.{HasReceipt, IsBefore, fences_before, BinsHold, AreDifferent}
use Rattle.event_laws.specs.Held.{entry as named}
use Rattle.event_laws.specs.Stages.{UnitHas}
use Rattle.event_laws.proofs.BringerLemmas.{effects_apart}
use Rattle.event_laws.proofs.UnitLemmas.{units_lie}
use Rattle.haar_units.specs.Jobs.{Operation, DistributedJob, operation_at, kinds, is_on_trees, is_coarsen, puts_down, puts_up}
use Rattle.haar_units.specs.Units.{label, erase_unit, entry, home, parent}
use Rattle.haar_units.specs.Starts.{program}
use Rattle.haar_units.specs.Jobs.Operation.{Coarsen, Size, Fence}
use Rattle.haar_units.specs.Actions.{Action, part_of, puts_first, rest_of}
use Rattle.haar_units.specs.Actions.Action.{Stop, Descend, Combine, Merge, Erase}
use Rattle.haar_units.specs.Traversals.{Traversal, IsTraversal, MayIsPlanned, action_of, plan, is_spawned_of, units}
use Rattle.haar_units.specs.Bins.{writes, writer_if, writer_of, BinsAreHeld, places, is_held, holds}
use Rattle.haar_units.specs.Laws.{MayIsAllowed, stage}
use Rattle.haar_units.proofs.EffectLemmas.{some_is}
use Rattle.haar_units.proofs.LabelTreeLemmas.{tree, staged, of_fence}
use Rattle.haar_units.proofs.EntryLemmas.{put_is, Puts, where_all, in_place, above_it, puts_how, erase_is, puts_once}
use Rattle.haar_units.proofs.BoundLemmas.{wider, holds_same}
use Rattle.haar_units.proofs.UnitLemmas.{working, is_spawned_by, plan_is, is_among, among_is, plan_allowed, known}

-- places that pass a test

pub in_places : (test : ℕ → Bool) (n x : ℕ) → x < n → test x ≡ true → Contains (places test n) x
in_places test zero x lt t = absurd (omega (arith, lt))
in_places test (suc y) x lt t = go (λ l. in_places test y x l t) (test y) refl
  where
    go : (x < y → Contains (places test y) x) → (b : Bool) → test y ≡ b → Contains (if b then y ∷ places test y else places test y) x
    go rec true s = ⊎_elim
        (λ e. (0, omega arith, e))
        (λ n. let apart = n in let r = rec (omega (arith, lt, apart)) in (suc r.0, omega (arith, r.1), r.2))
        (cases_eq y x)
    go rec false s = rec (⊎_elim (λ e. absurd (let z : false ≡ true = sym s ∙ ap test e ∙ t in cc)) (λ n. let apart = n in omega (arith, lt, apart)) (cases_eq y x))

pub of_places : (test : ℕ → Bool) (n x : ℕ) → Contains (places test n) x → (test x ≡ true) × (x < n)
of_places test zero x (k, lt, e) = absurd (omega (arith, lt))
of_places test (suc y) x h = go (of_places test y x) (test y) refl h
  where
    more : (test x ≡ true) × (x < y) → (test x ≡ true) × (x < suc y)
    more r = (r.0, let lt = r.1 in omega (arith, lt))

    go : (Contains (places test y) x → (test x ≡ true) × (x < y)) → (b : Bool) → test y ≡ b → Contains (if b then y ∷ places test y else places test y) x → (test x ≡ true) × (x < suc y)
    go rec true s (zero, lt, e) = (sym (ap test e) ∙ s, omega (arith, e))
    go rec true s (suc k, lt, e) = more (rec (k, omega (arith, lt), e))
    go rec false s h = more (rec h)

pub different : (test : ℕ → Bool) (n : ℕ) → AreDifferent (places test n)
different test zero = λ i j d lt below. absurd (omega (arith, lt, below))
different test (suc y) = go (test y) (different test y)
  where
    others : All (λ x. y ≢ x) (places test y)
    others = λ k d lt e. let r = of_places test y (slice_index_or (places test y) k d) (All-contains_itself (places test y) k d lt) in let below = r.1 in omega (arith, below, e)

    go : (b : Bool) → AreDifferent (places test y) → AreDifferent (if b then y ∷ places test y else places test y)
    go true d = AllPairs-cons (λ a b. a ≢ b) y (places test y) others d
    go false d = d

module _ (job : DistributedJob) (may : Label → List Outline → Type 0) (within : MayIsAllowed job may) (traversal : Traversal) (bound : ℕ) (ranks : job.ranks ≤ bound) (two : 2 ≤ bound)
    (command : ℕ) (operation : Operation) (at : operation_at job command ≡ Some operation) (writing : writes operation ≡ true) (k : IsTraversal job traversal bound command) (exact : MayIsPlanned job traversal may command) where
  abbrev this : ℕ → Bool
  this c = c == command

  is_this : (c : ℕ) → this c ≡ true → command ≡ c
  is_this c e = sym (eqb-true c command e)

  traversals : (c : ℕ) (w : Operation) → this c ≡ true → operation_at job c ≡ Some w → is_on_trees w ≡ true → IsTraversal job traversal bound c
  traversals c w e a t = subst (IsTraversal job traversal bound) (is_this c e) k

  exacts : (c : ℕ) → this c ≡ true → MayIsPlanned job traversal may c
  exacts c e = subst (MayIsPlanned job traversal may) (is_this c e) exact

  abbrev us : List Label
  us = units job traversal this bound

  tree_word : (w : Operation) → writes w ≡ true → is_on_trees w ≡ true
  tree_word Size e = absurd (cc)
  tree_word Fence e = absurd (cc)
  tree_word w e = refl

  home_is : (part x : ℕ) → part ≤ 2 → home job (label command part x) ≡ job.owner x
  home_is zero x few = refl
  home_is (suc zero) x few = refl
  home_is (suc (suc zero)) x few = refl
  home_is (suc (suc (suc part))) x few = absurd (omega (arith, few))

  -- a unit that is spawned is in the list of units
  here : (part x : ℕ) → is_spawned_of job traversal operation command part x ≡ true → Contains us (label command part x)
  here part x h = is_among job may traversal this bound ranks two traversals within exacts (label command part x) (eq-eqb command command refl) (is_spawned_by job may traversal this bound ranks two traversals within exacts operation command part x at h)

  visits_of : (w : Operation) (c part x : ℕ) → part ≤ 1 → is_spawned_of job traversal w c part x ≡ true → traversal.visits c x ≡ true
  visits_of w c zero x few h = (and_parts (is_on_trees w) (traversal.visits c x) h).1
  visits_of w c (suc zero) x few h = (and_parts (traversal.visits c x) (traversal.visits c (2 * x)) (and_parts (is_on_trees w) (traversal.visits c x && traversal.visits c (2 * x)) h).1).0
  visits_of w c (suc (suc part)) x few h = absurd (omega (arith, few))

  erases_of : (w : Operation) (c part x : ℕ) → part ≡ 2 → is_spawned_of job traversal w c part x ≡ true → traversal.erases c x ≡ true
  erases_of w c part x two h = (and_parts (is_coarsen w) (traversal.erases c x) (ap (λ (n : ℕ). is_spawned_of job traversal w c n x) (sym two) ∙ h)).1

  few_parts : (w : Operation) (a : Action) → Puts w a → part_of a ≤ 1
  few_parts w a (where_all e f) = omega (arith, e)
  few_parts w a (in_place e) = subst (λ (z : Action). part_of z ≤ 1) (sym e) (omega arith)
  few_parts w a (above_it e f) = omega (arith, e)

  -- one of these units whose plan has an effect
  has_put : (x r : ℕ) → UnitHas (plan job traversal) (home job) us r (of.Put (entry command x)) → (traversal.visits command x ≡ true) × (job.owner x ≡ r)
  has_put x r h =
      let u = h.unit in
      let a = among_is job may traversal this bound ranks two traversals within exacts u h.is in
      let m = plan_allowed job may traversal this bound ranks two traversals within exacts u a.0 a.1 in
      let p = put_is job u (plan job traversal u) m h.at (entry command x) h.here in
      let few = few_parts m.operation m.action (puts_how m.operation m.action m.fit p.puts_first) in
      let part : u.part ≤ 1 = omega (arith, few, m.part) in
      let w = working job may traversal this bound ranks two traversals within exacts u a.1 in
      let v : traversal.visits u.command u.place ≡ true = visits_of w.operation u.command u.part u.place part w.is_spawned in
      let c : u.command ≡ command = ap (λ (z : CellName). z.version) p.entry in
      let y : u.place ≡ x = ap (λ (z : CellName). z.place) p.entry in
      (sym (λ i. traversal.visits (c i) (y i)) ∙ v, sym (ap job.owner y) ∙ sym (home_is u.part u.place (omega (arith, part))) ∙ h.there)

  has_erase : (x r : ℕ) → UnitHas (plan job traversal) (home job) us r (of.Erase (entry command x)) → (traversal.erases command x ≡ true) × (job.owner x ≡ r)
  has_erase x r h =
      let u = h.unit in
      let a = among_is job may traversal this bound ranks two traversals within exacts u h.is in
      let m = plan_allowed job may traversal this bound ranks two traversals within exacts u a.0 a.1 in
      let p = erase_is job may within u (plan job traversal u) h.at (entry command x) m h.here in
      let w = working job may traversal this bound ranks two traversals within exacts u a.1 in
      let v : traversal.erases u.command u.place ≡ true = erases_of w.operation u.command u.part u.place p.part w.is_spawned in
      let c : u.command ≡ command = ap (λ (z : CellName). z.version) p.entry in
      let y : u.place ≡ x = ap (λ (z : CellName). z.place) p.entry in
      (sym (λ i. traversal.erases (c i) (y i)) ∙ v, sym (ap job.owner y) ∙ sym (home_is u.part u.place (omega (arith, p.part))) ∙ h.there)

  head : (b : Bool) (n : CellName) (rest : List Outline) → b ≡ true → slice_get (if b then of.Put n ∷ rest else rest) 0 ≡ Some (of.Put n)
  head true n rest e = refl
  head false n rest e = absurd (cc)

  -- a unit that puts its key's entry
  put_by : (part x r : ℕ) (a : Action) → part ≤ 2 → is_spawned_of job traversal operation command part x ≡ true → action_of traversal command part x ≡ a → puts_first operation a ≡ true → job.owner x ≡ r → UnitHas (plan job traversal) (home job) us r (of.Put (entry command x))
  put_by part x r a few h action p o = record {
    unit = label command part x;
    is = here part x h;
    there = home_is part x few ∙ o;
    at = 0;
    here = ap (λ (z : List Outline). slice_get z 0) (plan_is job may traversal this bound ranks two traversals within exacts operation command part x a at action) ∙ head (puts_first operation a) (entry command x) (rest_of job a command x) p;
  }

  visited : (x : ℕ) → traversal.visits command x ≡ true → is_spawned_of job traversal operation command 0 x ≡ true
  visited x v = and_from (is_on_trees operation) (traversal.visits command x) (tree_word operation writing) v

  puts_it : (x r : ℕ) → traversal.visits command x ≡ true → job.owner x ≡ r → UnitHas (plan job traversal) (home job) us r (of.Put (entry command x))
  puts_it x r v o = by_children (traversal.visits command (2 * x)) refl
    where
      leaves : puts_first operation Stop ≡ true
      leaves = writing

      merges : (b : Bool) → puts_up operation ≡ true → puts_first operation (if b then Merge else Combine) ≡ true
      merges true e = refl
      merges false e = e

      by_children : (b : Bool) → traversal.visits command (2 * x) ≡ b → UnitHas (plan job traversal) (home job) us r (of.Put (entry command x))
      by_children false e = put_by 0 x r Stop (omega arith) (visited x v) (cond-false (traversal.visits command (2 * x)) Descend Stop e) leaves o
      by_children true e = ⊎_elim
          (λ d. put_by 0 x r Descend (omega arith) (visited x v) (cond-true (traversal.visits command (2 * x)) Descend Stop e) d o)
          (λ u. put_by 1 x r (action_of traversal command 1 x) (omega arith) (and_from (is_on_trees operation) (traversal.visits command x && traversal.visits command (2 * x)) (tree_word operation writing) (and_from (traversal.visits command x) (traversal.visits command (2 * x)) v e)) refl (merges (traversal.erases command (2 * x)) u) o)
          (or_cases (puts_down operation) (puts_up operation) writing)

  erases_it : (x r : ℕ) → traversal.erases command x ≡ true → job.owner x ≡ r → UnitHas (plan job traversal) (home job) us r (of.Erase (entry command x))
  erases_it x r v o = record {
    unit = erase_unit command x;
    is = here 2 x (and_from (is_coarsen operation) (traversal.erases command x) (ap is_coarsen (some_is operation Coarsen (sym at ∙ k.erases_in_coarsen x v))) v);
    there = o;
    at = 0;
    here = ap (λ (z : List Outline). slice_get z 0) (plan_is job may traversal this bound ranks two traversals within exacts operation command 2 x Erase at refl);
  }

  -- the entries on a rank
  lies : (r x : ℕ) → UnitHas (plan job traversal) (home job) us r (of.Put (entry command x)) → (UnitHas (plan job traversal) (home job) us r (of.Erase (entry command x)) → ⊥) → Contains (holds job traversal bound r command) x
  lies r x p e =
      let v = has_put x r p in
      let gone : traversal.erases command x ≡ false = false_from_ne_true (traversal.erases command x) (λ t. e (erases_it x r t v.1)) in
      in_places (is_held job traversal r command) bound x (k.visits_below x v.0).1
      (and_from (traversal.visits command x) (not (traversal.erases command x) && (job.owner x == r)) v.0 (and_from (not (traversal.erases command x)) (job.owner x == r) (not_from_false (traversal.erases command x) gone) (eq-eqb (job.owner x) r v.1)))

  lay : (r x : ℕ) → Contains (holds job traversal bound r command) x → UnitHas (plan job traversal) (home job) us r (of.Put (entry command x)) × (UnitHas (plan job traversal) (home job) us r (of.Erase (entry command x)) → ⊥)
  lay r x h =
      let p = of_places (is_held job traversal r command) bound x h in
      let q = and_parts (traversal.visits command x) (not (traversal.erases command x) && (job.owner x == r)) p.0 in
      let o = and_parts (not (traversal.erases command x)) (job.owner x == r) q.1 in
      (puts_it x r q.0 (eqb-true (job.owner x) r o.1), (λ e. both_ways (traversal.erases command x) (not-true (traversal.erases command x) o.0) (has_erase x r e).0))

  pub held : (workers : ℕ) (task_effects : TaskEffects) (log before : List Mark) (x : Mark) (r : Receipt) → IsRun job.ranks workers (program job) may task_effects log → HasReceipt log before x r
      → IsBefore (kinds job) command r.fence
      → BinsHold job.ranks (holds job traversal bound) command before × BinsHold job.ranks (holds job traversal bound) command log
  held workers task_effects log before x r run has early = ((λ l place b i. now l place), (λ l place b i. subst (λ (z : Bool). (z ≡ true) ↔ (Contains (holds job traversal bound l.rank command) place × (l ≡ bin_of l.rank (named command place)))) (sym (lie l place).1) (now l place)))
    where
      Of : Label → Type 0
      Of u = this u.command ≡ true

      writes_this : (place : ℕ) (p : Label) (os : List Outline) (i : ℕ) (o : Outline) → may p os → slice_get os i ≡ Some o → (o ≡ of.Put (named command place)) ⊎ (o ≡ of.Erase (named command place)) → this p.command ≡ true
      writes_this place p os i o m e k = ⊎_elim
          (λ a. let q = put_is job p os (within p os m) i (named command place) (e ∙ ap Some a) in eq-eqb p.command command (ap (λ (z : CellName). z.version) q.entry))
          (λ b. let q = erase_is job may within p os i (named command place) (within p os m) (e ∙ ap Some b) in eq-eqb p.command command (ap (λ (z : CellName). z.version) q.entry))
          k

      before_fence : (c : ℕ) → this c ≡ true → fences_before c (kinds job) < r.fence
      before_fence c e = subst (λ (z : ℕ). fences_before z (kinds job) < r.fence) (is_this c e) early

      lie : (l : LaneName) (place : ℕ) → ((is_put (named command place) (part l before) ≡ true) ↔ (UnitHas (plan job traversal) (home job) us l.rank (of.Put (named command place)) × (UnitHas (plan job traversal) (home job) us l.rank (of.Erase (named command place)) → ⊥) × (l ≡ bin_of l.rank (named command place))))
          × (is_put (named command place) (part l log) ≡ is_put (named command place) (part l before))
      lie l place = units_lie job.ranks workers (program job) may task_effects log before x r run has (stage job) (staged job may within) (λ u. this u.command ≡ true) (of_fence job may within this r.fence before_fence) (plan job traversal) (home job) us
          (known job may traversal this bound ranks two traversals within exacts)
          (effects_apart job.ranks workers (program job) may task_effects log run parent (tree job may within) (λ c. of.Put c) (puts_once job may within)) (named command place) (writes_this place) l

      now : (l : LaneName) (place : ℕ) → (is_put (named command place) (part l before) ≡ true) ↔ (Contains (holds job traversal bound l.rank command) place × (l ≡ bin_of l.rank (named command place)))
      now l place =
          let u = lie l place in (
            (λ p. let d = u.0.0 p in (lies l.rank place d.0 d.1, d.2)),
            (λ h. let d = lay l.rank place h.0 in u.0.1 (d.0, d.1, h.1)),
          )

-- the writer of a version is the command with its number
record Writer (job : DistributedJob) (version command : ℕ) : Type 0 where
  operation : Operation
  at : operation_at job command ≡ Some operation
  writing : writes operation ≡ true
  is : command ≡ version

writer_is : (job : DistributedJob) (version command : ℕ) → writer_of job version ≡ Some command → Writer job version command
writer_is job version command e = by_option (operation_at job version) refl e
  where
    by_option : (o : Option Operation) → operation_at job version ≡ o → writer_if version o ≡ Some command → Writer job version command
    by_option None at e = absurd (cc)
    by_option (Some w) at e = by_test (writes w) refl e
      where
        by_test : (b : Bool) → writes w ≡ b → (if b then Some version else None) ≡ Some command → Writer job version command
        by_test true t e = let same : version ≡ command = some_is version command e in record { operation = w; at = sym (ap (operation_at job) same) ∙ at; writing = t; is = sym same }
        by_test false t e = absurd (cc)

-- the same with other lists that are equal
bins_as : (ranks version : ℕ) (h g : ℕ → ℕ → List ℕ) (log : List Mark) → ((rank : ℕ) → h rank version ≡ g rank version) → BinsHold ranks h version log → BinsHold ranks g version log
bins_as ranks version h g log same holds l place lt bin =
    let both = holds l place lt bin in (
      (λ p. let r = both.0 p in (subst (λ (z : List ℕ). Contains z place) (same l.rank) r.0, r.1)),
      (λ r. both.1 (subst (λ (z : List ℕ). Contains z place) (sym (same l.rank)) r.0, r.1)),
    )

pub bins_held : (may : Label → List Outline → Type 0) → BinsAreHeld may
bins_held may job within traversal bound version command writer k exact workers task_effects log before x r run has early =
    let more : bound ≤ bound + job.ranks + 2 = omega arith in
    let w = writer_is job version command writer in
    let wide = held job may within traversal (bound + job.ranks + 2) (omega arith) (omega arith) command w.operation w.at w.writing (wider job traversal bound (bound + job.ranks + 2) command more k) exact workers task_effects log before x r run has early in
    let same : (rank : ℕ) → holds job traversal (bound + job.ranks + 2) rank command ≡ holds job traversal bound rank command = λ rank. holds_same job traversal bound command k rank (bound + job.ranks + 2) more in
    subst (λ (v : ℕ). BinsHold job.ranks (holds job traversal bound) v before × BinsHold job.ranks (holds job traversal bound) v log) w.is
    (bins_as job.ranks command (holds job traversal (bound + job.ranks + 2)) (holds job traversal bound) before same wide.0, bins_as job.ranks command (holds job traversal (bound + job.ranks + 2)) (holds job traversal bound) log same wide.1)
