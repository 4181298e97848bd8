-- For commands of a kind just the planned units are spawned, each at its home.
use Rattle.std.proofs.Common.{◌≡◌, ◌⊎◌, ℕ, zero, suc, ◌+◌, ◌*◌, ◌/◌, ◌<◌, ◌≤◌, Bool, true, false, ◌&&◌, List, [], ◌∷◌, length, refl, sym, ap, ◌∙◌, subst, inl, inr, ⊎_elim, arith}
use Rattle.std.specs.Prelude.{if◌then◌else◌, nat_lt, ◌==◌, Option, Some, None, map, slice_get, Contains}
use Rattle.std.proofs.lemmas.Bool.{and_parts, and_from, cases_eq, lt-ltb, ltb-true, eqb-true, cond-true}
use Rattle.app_core.specs.declared.label.Label.{Label}
use Rattle.app_core.specs.declared.outline.Outline.{Outline}
use Rattle.app_core.specs.declared.outline.Outline.TheVariants as told_as
use Rattle.app_core.specs.declared.outline.CommandKind.TheVariants as is
use Rattle.event_laws.specs.Trees.{unit_of}
use Rattle.event_laws.specs.Stages.{Comes, started, spawned, AsPlanned, AreUnits}
use Rattle.event_laws.proofs.ProgramLemmas.{command_starts}
use Rattle.haar_units.specs.Jobs.{Operation, DistributedJob, operation_at, kind_of, kinds, is_on_trees, is_size, is_coarsen}
use Rattle.haar_units.specs.Units.{label, down_unit, up_unit, erase_unit, count_unit, sum_unit, key_future, count_future, entry, count_futures, home}
use Rattle.haar_units.specs.Starts.{program, starts}
use Rattle.haar_units.specs.Jobs.Operation.{Coarsen, Size, Fence}
use Rattle.haar_units.specs.Actions.{Action, part_of, fits, puts_first, rest_of, outlines_of, Allowed}
use Rattle.haar_units.specs.Actions.Action.{Stop, Descend, Combine, Merge}
use Rattle.haar_units.specs.Traversals.{Traversal, IsTraversal, MayIsPlanned, action_of, action_at, plan_if, plan, is_spawned_of, is_spawned_if, is_spawned, DoesPlan, units}
use Rattle.haar_units.specs.Laws.{MayIsAllowed, PlansAreAllowed}
use Rattle.haar_units.proofs.EffectLemmas.{some_is, none_is, by_rest, offset, first_or_later, after_put}
use Rattle.haar_units.proofs.StartLemmas.{IsStart, of_root, of_count, of_sum, root_there, count_there, sum_there}
use Rattle.haar_units.proofs.LabelTreeLemmas.{Starting, starting, command_stays}
use Rattle.haar_units.proofs.FutureLemmas.{places}
use Rattle.haar_units.proofs.BoundLemmas.{wider}
use Rattle.haar_units.proofs.LabelListLemmas.{listed_apart, listed_passes, passes_listed}

-- the kind of a command, by its operation
kind_at : (operations : List Operation) (c : ℕ) (w : Operation) → slice_get operations c ≡ Some w → slice_get (map kind_of operations) c ≡ Some (kind_of w)
kind_at [] c w e = absurd (cc)
kind_at (v ∷ operations) zero w e = ap (λ (z : Operation). Some (kind_of z)) (some_is v w e)
kind_at (v ∷ operations) (suc c) w e = kind_at operations c w e

pub there_below : (operations : List Operation) (c : ℕ) (w : Operation) → slice_get operations c ≡ Some w → c < length operations
there_below [] c w e = absurd (cc)
there_below (v ∷ operations) zero w e = omega arith
there_below (v ∷ operations) (suc c) w e = let lt = there_below operations c w e in omega (arith, lt)

works : (w : Operation) → (is_on_trees w ≡ true) ⊎ (is_size w ≡ true) → kind_of w ≡ is.Work
works Fence (inl e) = absurd (cc)
works Fence (inr e) = absurd (cc)
works w e = refl

sizes : (w : Operation) → is_size w ≡ true → w ≡ Size
sizes Size e = refl
sizes w e = absurd (cc)

coarsens : (w : Operation) → is_coarsen w ≡ true → w ≡ Coarsen
coarsens Coarsen e = refl
coarsens w e = absurd (cc)

act_if : (b : Bool) (a o s : Action) → (if b then a else o) ≡ s → (o ≡ s → ⊥) → b ≡ true
act_if true a o s e not = refl
act_if false a o s e not = absurd (not e)

act_not : (b : Bool) (a o s : Action) → (if b then a else o) ≡ s → (a ≡ s → ⊥) → (o ≡ s → ⊥) → ⊥
act_not true a o s e left right = left e
act_not false a o s e left right = right e

module _ (job : DistributedJob) (may : Label → List Outline → Type 0) (traversal : Traversal) (of : ℕ → Bool) (bound : ℕ) (ranks : job.ranks ≤ bound) (two : 2 ≤ bound)
    (traversals : (c : ℕ) (w : Operation) → of c ≡ true → operation_at job c ≡ Some w → is_on_trees w ≡ true → IsTraversal job traversal bound c) (within : MayIsAllowed job may) (exact : (c : ℕ) → of c ≡ true → MayIsPlanned job traversal may c) where
  -- a unit that is spawned, with its operation
  pub record Working (u : Label) : Type 0 where
    pub operation : Operation
    pub at : operation_at job u.command ≡ Some operation
    pub is_spawned : is_spawned_of job traversal operation u.command u.part u.place ≡ true

  pub working : (u : Label) → is_spawned job traversal u ≡ true → Working u
  working u h = go (operation_at job u.command) refl h
    where
      go : (w : Option Operation) → operation_at job u.command ≡ w → is_spawned_if job traversal u w ≡ true → Working u
      go None at h = absurd (cc)
      go (Some w) at h = record { operation = w; at = at; is_spawned = h }

  pub is_spawned_by : (w : Operation) (c part x : ℕ) → operation_at job c ≡ Some w → is_spawned_of job traversal w c part x ≡ true → is_spawned job traversal (label c part x) ≡ true
  is_spawned_by w c part x at h = ap (is_spawned_if job traversal (label c part x)) at ∙ h

  pub plan_is : (w : Operation) (c part x : ℕ) (a : Action) → operation_at job c ≡ Some w → action_of traversal c part x ≡ a → plan job traversal (label c part x) ≡ outlines_of job w a c x
  plan_is w c part x a at action = ap (plan_if job traversal (label c part x)) at ∙ ap (λ (z : Action). outlines_of job w z c x) action

  -- each unit that is spawned is a planned one

  act_split : (c part x : ℕ) → action_of traversal c part x ≡ Descend → (part ≡ 0) × (traversal.visits c (2 * x) ≡ true)
  act_split c zero x e = (refl, act_if (traversal.visits c (2 * x)) Descend Stop Descend e (λ n. cc))
  act_split c (suc zero) x e = absurd (act_not (traversal.erases c (2 * x)) Merge Combine Descend e (λ n. cc) (λ n. cc))
  act_split c (suc (suc zero)) x e = absurd (cc)
  act_split c (suc (suc (suc zero))) x e = absurd (cc)
  act_split c (suc (suc (suc (suc part)))) x e = absurd (cc)

  act_merge : (c part x : ℕ) → action_of traversal c part x ≡ Merge → (part ≡ 1) × (traversal.erases c (2 * x) ≡ true)
  act_merge c zero x e = absurd (act_not (traversal.visits c (2 * x)) Descend Stop Merge e (λ n. cc) (λ n. cc))
  act_merge c (suc zero) x e = (refl, act_if (traversal.erases c (2 * x)) Merge Combine Merge e (λ n. cc))
  act_merge c (suc (suc zero)) x e = absurd (cc)
  act_merge c (suc (suc (suc zero))) x e = absurd (cc)
  act_merge c (suc (suc (suc (suc part)))) x e = absurd (cc)

  told : (a u : Label) → is_spawned job traversal a ≡ true → Some a ≡ Some u → is_spawned job traversal u ≡ true
  told a u h e = subst (λ (z : Label). is_spawned job traversal z ≡ true) (some_is a u e) h

  -- the units that a planned unit spawns
  module _ (w : Operation) (c x : ℕ) (kind : of c ≡ true) (at : operation_at job c ≡ Some w) where
    visits_is : (part : ℕ) → part ≡ 0 → is_spawned_of job traversal w c part x ≡ true → (is_on_trees w ≡ true) × (traversal.visits c x ≡ true)
    visits_is part e h = and_parts (is_on_trees w) (traversal.visits c x) (ap (λ (n : ℕ). is_spawned_of job traversal w c n x) (sym e) ∙ h)

    tree_is : (part : ℕ) → part ≡ 1 → is_spawned_of job traversal w c part x ≡ true → (is_on_trees w ≡ true) × (traversal.visits c x ≡ true)
    tree_is part e h =
        let p = and_parts (is_on_trees w) (traversal.visits c x && traversal.visits c (2 * x)) (ap (λ (n : ℕ). is_spawned_of job traversal w c n x) (sym e) ∙ h) in
        (p.0, (and_parts (traversal.visits c x) (traversal.visits c (2 * x)) p.1).0)

    spawn_comes : (part : ℕ) → is_spawned_of job traversal w c part x ≡ true → (a : Action) (j : ℕ) (o : Outline) → slice_get (rest_of job a c x) j ≡ Some o → action_of traversal c part x ≡ a → (u : Label) → unit_of o ≡ Some u → is_spawned job traversal u ≡ true
    spawn_comes part h = by_rest job c x (λ a j o. action_of traversal c part x ≡ a → (u : Label) → unit_of o ≡ Some u → is_spawned job traversal u ≡ true) (record {
      stop = λ action u e. none_is u e;
      left = λ action u e.
          let s = act_split c part x action in
          let v = visits_is part s.0 h in
          told (down_unit c (2 * x)) u (is_spawned_by w c 0 (2 * x) at (and_from (is_on_trees w) (traversal.visits c (2 * x)) v.0 s.1)) e;
      right = λ action u e.
          let s = act_split c part x action in
          let v = visits_is part s.0 h in
          let k = traversals c w kind at v.0 in
          told (down_unit c (2 * x + 1)) u (is_spawned_by w c 0 (2 * x + 1) at (and_from (is_on_trees w) (traversal.visits c (2 * x + 1)) v.0 (k.children x (k.visits_below x v.1).0 ∙ s.1))) e;
      above = λ action u e.
          let s = act_split c part x action in
          let v = visits_is part s.0 h in
          told (up_unit c x) u (is_spawned_by w c 1 x at (and_from (is_on_trees w) (traversal.visits c x && traversal.visits c (2 * x)) v.0 (and_from (traversal.visits c x) (traversal.visits c (2 * x)) v.1 s.1))) e;
      combine = λ action u e. none_is u e;
      erase_left = λ action u e.
          let s = act_merge c part x action in
          let v = tree_is part s.0 h in
          let k = traversals c w kind at v.0 in
          told (erase_unit c (2 * x)) u (clear_comes (2 * x) k s.1) e;
      erase_right = λ action u e.
          let s = act_merge c part x action in
          let v = tree_is part s.0 h in
          let k = traversals c w kind at v.0 in
          told (erase_unit c (2 * x + 1)) u (clear_comes (2 * x + 1) k (k.erases_both x (k.visits_below x v.1).0 ∙ s.1)) e;
      merge = λ action u e. none_is u e;
      erased = λ action u e. none_is u e;
      counted = λ action u e. none_is u e;
      summed = λ action u e. none_is u e;
    })
      where
        clear_comes : (y : ℕ) → IsTraversal job traversal bound c → traversal.erases c y ≡ true → is_spawned job traversal (erase_unit c y) ≡ true
        clear_comes y k e =
            let operation : w ≡ Coarsen = some_is w Coarsen (sym at ∙ k.erases_in_coarsen y e) in
            is_spawned_by w c 2 y at (and_from (is_coarsen w) (traversal.erases c y) (ap is_coarsen operation) e)

  start_comes : (u : Label) (o : Outline) → Starting job o → unit_of o ≡ Some u → of u.command ≡ true → is_spawned job traversal u ≡ true
  start_comes u o s e kind = go s.is
    where
      go : IsStart job s.command s.i o → is_spawned job traversal u ≡ true
      go (of_root w at tree i is) =
          let same : Some (down_unit s.command 1) ≡ Some u = ap unit_of is ∙ e in
          let c : of s.command ≡ true = ap (λ (z : Label). of z.command) (some_is (down_unit s.command 1) u same) ∙ kind in
          told (down_unit s.command 1) u (is_spawned_by w s.command 0 1 at (and_from (is_on_trees w) (traversal.visits s.command 1) tree (traversals s.command w c at tree).root)) same
      go (of_count at lt is) = told (count_unit s.command s.i) u (is_spawned_by Size s.command 3 s.i at (lt-ltb s.i job.ranks lt)) (ap unit_of is ∙ e)
      go (of_sum at i is) = told (sum_unit s.command) u (is_spawned_by Size s.command 4 1 at refl) (ap unit_of is ∙ e)

  came : (u : Label) (q : ℕ) → Comes (program job) may u q → of u.command ≡ true → is_spawned job traversal u ≡ true
  came u q (started k _ d ns _ at) kind = start_comes u (told_as.Spawn u d ns q) (starting job k (told_as.Spawn u d ns q) at) refl kind
  came u q (spawned p rank os i _ d ns _ c m at) kind =
      let here : of p.command ≡ true = ap of (sym (command_stays job may within p os i (told_as.Spawn u d ns q) u m at refl)) ∙ kind in
      let up_unit = came p rank c here in
      let w = working p up_unit in
      let lists : os ≡ outlines_of job w.operation (action_at traversal p) p.command p.place = exact p.command here p os refl up_unit m ∙ plan_is w.operation p.command p.part p.place (action_at traversal p) w.at refl in
      ⊎_elim
      (λ first. none_is u (ap unit_of first.2))
      (λ later. spawn_comes w.operation p.command p.place here w.at p.part w.is_spawned (action_at traversal p) later.0 (told_as.Spawn u d ns q) later.2 refl u refl)
      (first_or_later (puts_first w.operation (action_at traversal p)) (told_as.Put (entry p.command p.place)) (rest_of job (action_at traversal p) p.command p.place) i (told_as.Spawn u d ns q) (subst (λ (z : List Outline). slice_get z i ≡ Some (told_as.Spawn u d ns q)) lists at))

  -- each planned unit is spawned

  abbrev ByPlan : Label → List Outline → Type 0
  ByPlan = AsPlanned (plan job traversal) (λ u. of u.command ≡ true)

  begun : (c : ℕ) (w : Operation) → operation_at job c ≡ Some w → (is_on_trees w ≡ true) ⊎ (is_size w ≡ true) → (i : ℕ) (u : Label) (d : Option Label) (ns : List Label) (h : ℕ) → slice_get (starts job c) i ≡ Some (told_as.Spawn u d ns h) → Comes (program job) ByPlan u h
  begun zero w at work i u d ns h e = absurd (cc)
  begun (suc c) w at work i u d ns h e =
      let kind : slice_get (kinds job) c ≡ Some is.Work = kind_at job.operations c w at ∙ ap Some (works w work) in
      let next : suc c ≡ 1 + c = omega arith in
      let s = command_starts (starts job) 1 (kinds job) c i (told_as.Spawn u d ns h) kind (subst (λ (n : ℕ). slice_get (starts job n) i ≡ Some (told_as.Spawn u d ns h)) next e) in
      started s.0 u d ns h s.1

  spawns : (w : Operation) (c part x : ℕ) (a : Action) (q : ℕ) → of c ≡ true → operation_at job c ≡ Some w → is_spawned_of job traversal w c part x ≡ true → action_of traversal c part x ≡ a → Comes (program job) ByPlan (label c part x) q
      → (j : ℕ) (u : Label) (d : Option Label) (ns : List Label) (h : ℕ) → slice_get (rest_of job a c x) j ≡ Some (told_as.Spawn u d ns h) → Comes (program job) ByPlan u h
  spawns w c part x a q kind at h action above j u d ns k e =
      spawned (label c part x) q (outlines_of job w a c x) (offset (puts_first w a) + j) u d ns k above (sym (plan_is w c part x a at action), kind)
      (after_put (puts_first w a) (told_as.Put (entry c x)) (rest_of job a c x) j (told_as.Spawn u d ns k) e)

  -- each key is the root or a child
  data Place (x : ℕ) : Type 0 where
    at_root : 1 ≡ x → Place x
    at_left : (y : ℕ) → 1 ≤ y → y < x → 2 * y ≡ x → Place x
    at_right : (y : ℕ) → 1 ≤ y → y < x → 2 * y + 1 ≡ x → Place x

  place_of : (x : ℕ) → 1 ≤ x → Place x
  place_of x one = ⊎_elim
      (λ e. at_root (sym e))
      (λ no. let apart = no in ⊎_elim
      (λ e. at_left (x / 2) (omega (arith, one, apart)) (omega (arith, one, apart)) e)
      (λ odd. let other = odd in at_right (x / 2) (omega (arith, one, apart)) (omega (arith, one, apart)) (omega (arith, other)))
      (cases_eq (2 * (x / 2)) x))
      (cases_eq x 1)

  module _ (c : ℕ) (w : Operation) (kind : of c ≡ true) (at : operation_at job c ≡ Some w) (tree : is_on_trees w ≡ true) where
    k : IsTraversal job traversal bound c
    k = traversals c w kind at tree

    visited : (x : ℕ) → traversal.visits c x ≡ true → is_spawned_of job traversal w c 0 x ≡ true
    visited x v = and_from (is_on_trees w) (traversal.visits c x) tree v

    splits : (x : ℕ) → traversal.visits c (2 * x) ≡ true → action_of traversal c 0 x ≡ Descend
    splits x v = cond-true (traversal.visits c (2 * x)) Descend Stop v

    down_comes : (n x : ℕ) → x ≤ n → traversal.visits c x ≡ true → Comes (program job) ByPlan (down_unit c x) (job.owner x)
    down_comes zero x few v = absurd (let one = (k.visits_below x v).0 in omega (arith, one, few))
    down_comes (suc n) x few v = go (λ y lt v. down_comes n y (omega (arith, lt, few)) v) (place_of x (k.visits_below x v).0)
      where
        go : ((y : ℕ) → y < x → traversal.visits c y ≡ true → Comes (program job) ByPlan (down_unit c y) (job.owner y)) → Place x → Comes (program job) ByPlan (down_unit c x) (job.owner x)
        go rec (at_root e) = subst (λ (z : ℕ). Comes (program job) ByPlan (down_unit c z) (job.owner z)) e (begun c w at (inl tree) 0 (down_unit c 1) (Some (key_future c 1)) [] (job.owner 1) (root_there job c w at tree))
        go rec (at_left y one lt e) =
            let l : traversal.visits c (2 * y) ≡ true = ap (traversal.visits c) e ∙ v in
            let p = k.parents y l in
            subst (λ (z : ℕ). Comes (program job) ByPlan (down_unit c z) (job.owner z)) e
            (spawns w c 0 y Descend (job.owner y) kind at (visited y p) (splits y l) (rec y lt p) 0 (down_unit c (2 * y)) (Some (key_future c (2 * y))) [] (job.owner (2 * y)) refl)
        go rec (at_right y one lt e) =
            let l : traversal.visits c (2 * y) ≡ true = sym (k.children y one) ∙ ap (traversal.visits c) e ∙ v in
            let p = k.parents y l in
            subst (λ (z : ℕ). Comes (program job) ByPlan (down_unit c z) (job.owner z)) e
            (spawns w c 0 y Descend (job.owner y) kind at (visited y p) (splits y l) (rec y lt p) 1 (down_unit c (2 * y + 1)) (Some (key_future c (2 * y + 1))) [] (job.owner (2 * y + 1)) refl)

    up_comes : (x : ℕ) → traversal.visits c x ≡ true → traversal.visits c (2 * x) ≡ true → Comes (program job) ByPlan (up_unit c x) (job.owner x)
    up_comes x v l = spawns w c 0 x Descend (job.owner x) kind at (visited x v) (splits x l) (down_comes x x (omega arith) v) 2 (up_unit c x) (Some (key_future c x)) (key_future c (2 * x) ∷ key_future c (2 * x + 1) ∷ []) (job.owner x) refl

    merges : (y : ℕ) → 1 ≤ y → traversal.erases c (2 * y) ≡ true → (j : ℕ) (u : Label) (h : ℕ) → slice_get (rest_of job Merge c y) j ≡ Some (told_as.Spawn u None [] h) → Comes (program job) ByPlan u h
    merges y one e j u h s =
        let l = (k.erases_visited (2 * y) e).1 in
        let p = k.parents y l in
        spawns w c 1 y Merge (job.owner y) kind at (and_from (is_on_trees w) (traversal.visits c y && traversal.visits c (2 * y)) tree (and_from (traversal.visits c y) (traversal.visits c (2 * y)) p l))
        (cond-true (traversal.erases c (2 * y)) Merge Combine e) (up_comes y p l) j u None [] h s

    clear_comes : (x : ℕ) → traversal.erases c x ≡ true → Comes (program job) ByPlan (erase_unit c x) (job.owner x)
    clear_comes x e = go (place_of x (let two = (k.erases_visited x e).0 in omega (arith, two)))
      where
        go : Place x → Comes (program job) ByPlan (erase_unit c x) (job.owner x)
        go (at_root r) = absurd (let two = (k.erases_visited x e).0 in omega (arith, two, r))
        go (at_left y one lt is) = subst (λ (z : ℕ). Comes (program job) ByPlan (erase_unit c z) (job.owner z)) is (merges y one (ap (traversal.erases c) is ∙ e) 0 (erase_unit c (2 * y)) (job.owner (2 * y)) refl)
        go (at_right y one lt is) = subst (λ (z : ℕ). Comes (program job) ByPlan (erase_unit c z) (job.owner z)) is (merges y one (sym (k.erases_both y one) ∙ ap (traversal.erases c) is ∙ e) 1 (erase_unit c (2 * y + 1)) (job.owner (2 * y + 1)) refl)

  planned : (w : Operation) (c part x : ℕ) → of c ≡ true → operation_at job c ≡ Some w → is_spawned_of job traversal w c part x ≡ true → Comes (program job) ByPlan (label c part x) (home job (label c part x))
  planned w c zero x kind at h = let p = and_parts (is_on_trees w) (traversal.visits c x) h in down_comes c w kind at p.0 x x (omega arith) p.1
  planned w c (suc zero) x kind at h =
      let p = and_parts (is_on_trees w) (traversal.visits c x && traversal.visits c (2 * x)) h in
      let v = and_parts (traversal.visits c x) (traversal.visits c (2 * x)) p.1 in
      up_comes c w kind at p.0 x v.0 v.1
  planned w c (suc (suc zero)) x kind at h =
      let p = and_parts (is_coarsen w) (traversal.erases c x) h in
      clear_comes c w kind at (ap is_on_trees (coarsens w p.0)) x p.1
  planned w c (suc (suc (suc zero))) x kind at h =
      let p = and_parts (is_size w) (nat_lt x job.ranks) h in
      begun c w at (inr p.0) x (count_unit c x) (Some (count_future c x)) [] x (count_there job c (at ∙ ap Some (sizes w p.0)) x (ltb-true x job.ranks p.1))
  planned w c (suc (suc (suc (suc zero)))) x kind at h =
      let p = and_parts (is_size w) (x == 1) h in
      let one : 1 ≡ x = sym (eqb-true x 1 p.1) in
      subst (λ (z : ℕ). Comes (program job) ByPlan (label c 4 z) 0) one (begun c w at (inr p.0) job.ranks (sum_unit c) (Some (key_future c 1)) (count_futures c 0 job.ranks) 0 (sum_there job c (at ∙ ap Some (sizes w p.0))))
  planned w c (suc (suc (suc (suc (suc part))))) x kind at h = absurd (cc)

  -- the labels of planned units are within the bounds of their list

  command_few : (c : ℕ) (w : Operation) → operation_at job c ≡ Some w → c < suc (length job.operations)
  command_few zero w at = omega arith
  command_few (suc c) w at = let lt = there_below job.operations c w at in omega (arith, lt)

  few : (w : Operation) (c part x : ℕ) → of c ≡ true → operation_at job c ≡ Some w → is_spawned_of job traversal w c part x ≡ true → (part < 5) × (x < bound)
  few w c zero x kind at h = let p = and_parts (is_on_trees w) (traversal.visits c x) h in (omega arith, ((traversals c w kind at p.0).visits_below x p.1).1)
  few w c (suc zero) x kind at h =
      let p = and_parts (is_on_trees w) (traversal.visits c x && traversal.visits c (2 * x)) h in
      (omega arith, ((traversals c w kind at p.0).visits_below x (and_parts (traversal.visits c x) (traversal.visits c (2 * x)) p.1).0).1)
  few w c (suc (suc zero)) x kind at h =
      let p = and_parts (is_coarsen w) (traversal.erases c x) h in
      let k = traversals c w kind at (ap is_on_trees (coarsens w p.0)) in
      (omega arith, (k.visits_below x (k.erases_visited x p.1).1).1)
  few w c (suc (suc (suc zero))) x kind at h = let lt = ltb-true x job.ranks (and_parts (is_size w) (nat_lt x job.ranks) h).1 in (omega arith, omega (arith, lt, ranks))
  few w c (suc (suc (suc (suc zero)))) x kind at h = let one = eqb-true x 1 (and_parts (is_size w) (x == 1) h).1 in (omega arith, omega (arith, one, two))
  few w c (suc (suc (suc (suc (suc part))))) x kind at h = absurd (cc)

  abbrev test : Label → Bool
  test u = of u.command && is_spawned job traversal u

  pub is_among : (u : Label) → of u.command ≡ true → is_spawned job traversal u ≡ true → Contains (units job traversal of bound) u
  is_among u kind h =
      let w = working u h in
      let f = few w.operation u.command u.part u.place kind w.at w.is_spawned in
      passes_listed test (suc (length job.operations)) 5 bound u (command_few u.command w.operation w.at) f.0 f.1 (and_from (of u.command) (is_spawned job traversal u) kind h)

  pub among_is : (u : Label) → Contains (units job traversal of bound) u → (of u.command ≡ true) × (is_spawned job traversal u ≡ true)
  among_is u h = and_parts (of u.command) (is_spawned job traversal u) (listed_passes test (suc (length job.operations)) 5 bound u h)

  -- the plan of a planned unit is allowed
  pub plan_allowed : (u : Label) → of u.command ≡ true → is_spawned job traversal u ≡ true → Allowed job u (plan job traversal u)
  plan_allowed u kind h =
      let w = working u h in
      let f = fits_plan w.operation u.command u.part u.place kind w.at w.is_spawned in
      record { operation = w.operation; at = w.at; action = action_at traversal u; fit = f.0; part = f.1; key = f.2; lists = plan_is w.operation u.command u.part u.place (action_at traversal u) w.at refl }
    where
      down_fits : (b : Bool) (w : Operation) → is_on_trees w ≡ true → (fits w (if b then Descend else Stop) ≡ true) × (0 ≡ part_of (if b then Descend else Stop))
      down_fits true w e = (e, refl)
      down_fits false w e = (e, refl)

      up_fits : (b : Bool) (w : Operation) → is_on_trees w ≡ true → (b ≡ true → is_coarsen w ≡ true) → (fits w (if b then Merge else Combine) ≡ true) × (1 ≡ part_of (if b then Merge else Combine))
      up_fits true w e k = (k refl, refl)
      up_fits false w e k = (e, refl)

      fits_plan : (w : Operation) (c part x : ℕ) → of c ≡ true → operation_at job c ≡ Some w → is_spawned_of job traversal w c part x ≡ true → (fits w (action_of traversal c part x) ≡ true) × (part ≡ part_of (action_of traversal c part x)) × (part ≤ 2 → 1 ≤ x)
      fits_plan w c zero x kind at h =
          let p = and_parts (is_on_trees w) (traversal.visits c x) h in
          let f = down_fits (traversal.visits c (2 * x)) w p.0 in
          (f.0, f.1, (λ lt. ((traversals c w kind at p.0).visits_below x p.1).0))
      fits_plan w c (suc zero) x kind at h =
          let p = and_parts (is_on_trees w) (traversal.visits c x && traversal.visits c (2 * x)) h in
          let k = traversals c w kind at p.0 in
          let f = up_fits (traversal.erases c (2 * x)) w p.0 (λ e. ap is_coarsen (some_is w Coarsen (sym at ∙ k.erases_in_coarsen (2 * x) e))) in
          (f.0, f.1, (λ lt. (k.visits_below x (and_parts (traversal.visits c x) (traversal.visits c (2 * x)) p.1).0).0))
      fits_plan w c (suc (suc zero)) x kind at h =
          let p = and_parts (is_coarsen w) (traversal.erases c x) h in
          let k = traversals c w kind at (ap is_on_trees (coarsens w p.0)) in
          (p.0, refl, (λ lt. (k.visits_below x (k.erases_visited x p.1).1).0))
      fits_plan w c (suc (suc (suc zero))) x kind at h = ((and_parts (is_size w) (nat_lt x job.ranks) h).0, refl, (λ lt. absurd (omega (arith, lt))))
      fits_plan w c (suc (suc (suc (suc zero)))) x kind at h = ((and_parts (is_size w) (x == 1) h).0, refl, (λ lt. absurd (omega (arith, lt))))
      fits_plan w c (suc (suc (suc (suc (suc part))))) x kind at h = absurd (cc)

  pub known : AreUnits (program job) may (λ u. of u.command ≡ true) (plan job traversal) (home job) (units job traversal of bound)
  known = record {
    apart = listed_apart test (suc (length job.operations)) 5 bound;
    all = λ u q c kind.
        (is_among u kind (came u q c kind), at_home u q c);
    only = λ u h.
        let p = among_is u h in
        let w = working u p.1 in
        (planned w.operation u.command u.part u.place p.0 w.at w.is_spawned, p.0);
    task_effects = λ u os h m.
        let p = among_is u h in
        exact u.command p.0 u os refl p.1 m;
  }
    where
      at_home : (u : Label) (q : ℕ) → Comes (program job) may u q → q ≡ home job u
      at_home u q (started k _ d ns _ at) = ((places job may within).starts k u d ns q at).0
      at_home u q (spawned p rank os i _ d ns _ c m at) = ((places job may within).steps p os i u d ns q m at).0

-- the planned units do what is allowed
pub plans_allowed : PlansAreAllowed
plans_allowed job traversal bound traversals = (allowed, λ command p os c h m. m.1)
  where
    nothing : Label → List Outline → Type 0
    nothing p os = ⊥

    more : ℕ
    more = bound + job.ranks + 2

    allowed : (p : Label) (os : List Outline) → DoesPlan job traversal p os → Allowed job p os
    allowed p os m = subst (λ (z : List Outline). Allowed job p z) (sym m.1)
        (plan_allowed job nothing traversal (λ c. true) more (omega arith) (omega arith) (λ c w kind at tree. wider job traversal bound more c (omega arith) (traversals c w at tree))
        (λ p os m. absurd m) (λ c kind p os is h m. absurd m) p refl m.0)
