-- Which units of the small application come up before a fence.
use Rattle.std.proofs.Common.{◌≡◌, ℕ, zero, suc, ◌<◌, Bool, true, false, List, [], ◌∷◌, refl, sym, ap, subst, ◌∙◌, arith}
use Rattle.std.specs.Prelude.{Option, Some, slice_get, ◌||◌, ◌&&◌, not, Contains}
use Rattle.std.proofs.lemmas.Bool.{both_ways, and_parts, or_left, or_right}
use Rattle.app_core.specs.declared.Label.{Label}
use Rattle.app_core.specs.declared.Outline.{Outline}
use Rattle.app_core.specs.declared.Outline.TheVariants as of
use Rattle.app_core.specs.Given.{Given}
use Rattle.app_core.proofs.CountLemmas.{some_is}
use Rattle.app_core.specs.Commands.{IsWork}
use Rattle.app_core.specs.Outlines.{same_label}
use Rattle.event_lists.proofs.FutureLemmas.{same_label_refl}
use Rattle.event_laws.specs.Trees.{unit_of}
use Rattle.event_laws.specs.Apart.{Apart}
use Rattle.event_laws.specs.Held.{fences_before}
use Rattle.event_laws.specs.Stages.{IsStaged, Comes, started, spawned, IsOfFence, AsPlanned, AreUnits}
use Rattle.event_laws.proofs.ProgramLemmas.{stages}
use Rattle.small_app.specs.declared.unit.Unit.{Unit}
use Rattle.small_app.specs.declared.unit.Unit.TheVariants.{Fill, Leaf, Sum, Clear, Read, Count, Total, Guessed}
use Rattle.small_app.specs.declared.guess.GuessUnit.TheVariants.{Guess, Early, Late}
use Rattle.small_app.specs.GuessLaws.{command_is}
use Rattle.small_app.specs.Small.{kinds, leaf_future, leaf_value, label_of, needs_of, due_of, home_of, step_of, told, IsUnit, MayDo, starts_of}
use Rattle.small_app.specs.SmallUnits.{program, outlines_of, plan, home, first_units, all_units, units_before}
use Rattle.small_app.specs.SmallTree.{spawn, by_start, by_spawn, spawns_only, at_label}

-- commands

pub of_command : (ranks command i : ℕ) (o : Outline) (u : Label) → IsWork kinds command → slice_get (starts_of ranks command) i ≡ Some o → unit_of o ≡ Some u → u.command ≡ command
of_command ranks zero i o u w e s = absurd (cc)
of_command ranks (suc zero) zero o u w e s = let a = ap unit_of (some_is (spawn ranks Fill) o e) ∙ s in ap (λ (l : Label). l.command) (sym (some_is (label_of Fill) u a))
of_command ranks (suc zero) (suc i) o u w e s = absurd (cc)
of_command ranks (suc (suc zero)) i o u w e s = absurd (cc)
of_command ranks (suc (suc (suc zero))) zero o u w e s = let a = ap unit_of (some_is (spawn ranks Read) o e) ∙ s in ap (λ (l : Label). l.command) (sym (some_is (label_of Read) u a))
of_command ranks (suc (suc (suc zero))) (suc zero) o u w e s = let a = ap unit_of (some_is (spawn ranks Count) o e) ∙ s in ap (λ (l : Label). l.command) (sym (some_is (label_of Count) u a))
of_command ranks (suc (suc (suc zero))) (suc (suc zero)) o u w e s = let a = ap unit_of (some_is (spawn ranks Total) o e) ∙ s in ap (λ (l : Label). l.command) (sym (some_is (label_of Total) u a))
of_command ranks (suc (suc (suc zero))) (suc (suc (suc i))) o u w e s = absurd (cc)
of_command ranks (suc (suc (suc (suc zero)))) i o u w e s = absurd (cc)
of_command ranks (suc (suc (suc (suc (suc zero))))) zero o u w e s = let a = ap unit_of (some_is (spawn ranks (Guessed Guess)) o e) ∙ s in ap (λ (l : Label). l.command) (sym (some_is (label_of (Guessed Guess)) u a))
of_command ranks (suc (suc (suc (suc (suc zero))))) (suc zero) o u w e s = let a = ap unit_of (some_is (spawn ranks (Guessed Early)) o e) ∙ s in ap (λ (l : Label). l.command) (sym (some_is (label_of (Guessed Early)) u a))
of_command ranks (suc (suc (suc (suc (suc zero))))) (suc (suc i)) o u w e s = absurd (cc)
of_command ranks (suc (suc (suc (suc (suc (suc more)))))) i o u w e s = absurd (cc)

pub in_command : (ranks : ℕ) (p : Label) (os : List Outline) (i : ℕ) (o : Outline) (u : Label) → MayDo ranks p os → slice_get os i ≡ Some o → unit_of o ≡ Some u → u.command ≡ p.command
in_command ranks = spawns_only ranks (λ p i u. u.command ≡ p.command) refl refl refl refl refl

abbrev pub stage : Label → ℕ
stage u = fences_before u.command kinds

pub staged : (ranks : ℕ) → IsStaged (program ranks) (MayDo ranks) stage
staged ranks = stages kinds (starts_of ranks) (MayDo ranks) (of_command ranks) (in_command ranks)

-- units

-- each unit of the first two work commands comes up at its home, where those that spawn are of the kind
pub comes : (ranks : ℕ) (Of : Label → Type 0) → Of (label_of Fill) → Of (label_of Sum) → (unit : Unit) → (label_of unit).command < 5 → Comes (program ranks) (AsPlanned (plan ranks) Of) (label_of unit) (home_of unit ranks)
comes ranks Of fill sum = go
  where
    filled : Comes (program ranks) (AsPlanned (plan ranks) Of) (label_of Fill) (home_of Fill ranks)
    filled = started 0 (label_of Fill) (due_of Fill) (needs_of Fill) (home_of Fill ranks) refl

    summed : Comes (program ranks) (AsPlanned (plan ranks) Of) (label_of Sum) (home_of Sum ranks)
    summed = spawned (label_of Fill) (home_of Fill ranks) (outlines_of ranks Fill) 2 (label_of Sum) (due_of Sum) (needs_of Sum) (home_of Sum ranks) filled (refl, fill) refl

    go : (unit : Unit) → (label_of unit).command < 5 → Comes (program ranks) (AsPlanned (plan ranks) Of) (label_of unit) (home_of unit ranks)
    go Fill lt = filled
    go (Leaf false value) lt = spawned (label_of Fill) (home_of Fill ranks) (outlines_of ranks Fill) 0 (leaf_future false) (Some (leaf_future false)) [] (home_of (Leaf false value) ranks) filled (refl, fill) refl
    go (Leaf true value) lt = spawned (label_of Fill) (home_of Fill ranks) (outlines_of ranks Fill) 1 (leaf_future true) (Some (leaf_future true)) [] (home_of (Leaf true value) ranks) filled (refl, fill) refl
    go Sum lt = summed
    go Clear lt = spawned (label_of Sum) (home_of Sum ranks) (outlines_of ranks Sum) 0 (label_of Clear) (due_of Clear) (needs_of Clear) (home_of Clear ranks) summed (refl, sum) refl
    go Read lt = started 2 (label_of Read) (due_of Read) (needs_of Read) (home_of Read ranks) refl
    go Count lt = started 3 (label_of Count) (due_of Count) (needs_of Count) (home_of Count ranks) refl
    go Total lt = started 4 (label_of Total) (due_of Total) (needs_of Total) (home_of Total ranks) refl
    go (Guessed unit) lt = absurd (let is = command_is unit in omega (arith, lt, is))

-- and what comes up is a unit, at its home
abbrev IsAUnit : ℕ → Label → ℕ → Type 0
IsAUnit ranks u q = (unit : Unit) × IsUnit unit × (label_of unit ≡ u) × (q ≡ home ranks u)

is_unit : (ranks : ℕ) (unit : Unit) → IsUnit unit → home_of unit ranks ≡ home ranks (label_of unit) → (u : Label) (d : Option Label) (ns : List Label) (h : ℕ) → spawn ranks unit ≡ of.Spawn u d ns h → IsAUnit ranks u h
is_unit ranks unit is at u d ns h e =
    let a : label_of unit ≡ u = cc in
    let c : home_of unit ranks ≡ h = cc in
    (unit, is, a, sym c ∙ at ∙ ap (home ranks) a)

came : (ranks : ℕ) (u : Label) (q : ℕ) → Comes (program ranks) (MayDo ranks) u q → IsAUnit ranks u q
came ranks u q (started k _ d ns _ e) = by_start ranks (λ k o. (u : Label) (d : Option Label) (ns : List Label) (h : ℕ) → o ≡ of.Spawn u d ns h → IsAUnit ranks u h)
    (is_unit ranks Fill tt refl) (is_unit ranks Read tt refl) (is_unit ranks Count tt refl) (is_unit ranks Total tt refl)
    (is_unit ranks (Guessed Guess) tt refl) (is_unit ranks (Guessed Early) tt refl) k (of.Spawn u d ns q) e u d ns q refl
came ranks u q (spawned p rank os i _ d ns _ c m e) = by_spawn ranks (λ _ u _ _ h. IsAUnit ranks u h)
    (is_unit ranks (Leaf false (leaf_value false)) refl refl) (is_unit ranks (Leaf true (leaf_value true)) refl refl) (is_unit ranks Sum tt refl)
    (is_unit ranks Clear tt refl) (is_unit ranks (Guessed Late) tt refl) p os i u d ns q m e

-- the effects of a unit of the first two work commands are the same on all inputs
same_effects : (ranks : ℕ) (unit : Unit) (given : Given ℕ ℕ) → (label_of unit).command < 5 → told ranks (step_of unit given) ≡ outlines_of ranks unit
same_effects ranks Fill given lt = refl
same_effects ranks (Leaf right value) given lt = refl
same_effects ranks Sum given lt = refl
same_effects ranks Clear given lt = refl
same_effects ranks Read given lt = refl
same_effects ranks Count given lt = refl
same_effects ranks Total given lt = refl
same_effects ranks (Guessed unit) given lt = absurd (let is = command_is unit in omega (arith, lt, is))

-- so what their labels allow is the plan
pub planned : (ranks : ℕ) (u : Label) (os : List Outline) → u.command < 5 → MayDo ranks u os → os ≡ plan ranks u
planned ranks u os lt (unit, given, is, label, right, lists) =
    lists ∙ same_effects ranks unit given (subst (λ (l : Label). l.command < 5) (sym label) lt) ∙ ap (outlines_of ranks) (sym (at_label unit is)) ∙ ap (plan ranks) label

-- no label is twice in these lists

stands_in : Label → List Label → Bool
stands_in u [] = false
stands_in u (v ∷ us) = same_label v u || stands_in u us

all_apart : List Label → Bool
all_apart [] = true
all_apart (u ∷ us) = not (stands_in u us) && all_apart us

stands_found : (u : Label) (us : List Label) → Contains us u → stands_in u us ≡ true
unfolding stands_in
stands_found u [] (k, lt, e) = absurd (omega (arith, lt))
stands_found u (v ∷ us) (zero, lt, e) = or_left (same_label v u) (stands_in u us) (subst (λ (z : Label). same_label v z ≡ true) e (same_label_refl v))
stands_found u (v ∷ us) (suc k, lt, e) = or_right (same_label v u) (stands_in u us) (stands_found u us (k, omega (arith, lt), e))

apart : (us : List Label) → all_apart us ≡ true → Apart us
unfolding all_apart
apart [] e = tt
apart (u ∷ us) e =
    let p = and_parts (not (stands_in u us)) (all_apart us) e in
    ((λ h. both_ways (not (stands_in u us)) (ap not (stands_found u us h)) p.0), apart us p.1)

first_apart : Apart first_units
unfolding stands_in all_apart
first_apart = apart first_units refl

whole_apart : Apart all_units
unfolding stands_in all_apart
whole_apart = apart all_units refl

-- what holds of each unit's label holds of those in the lists
of_first : (P : Label → Type 0) → P (label_of Fill) → P (leaf_future false) → P (leaf_future true) → P (label_of Sum) → P (label_of Clear) → (u : Label) → Contains first_units u → P u
of_first P a b c d e u (zero, lt, i) = subst P i a
of_first P a b c d e u (suc zero, lt, i) = subst P i b
of_first P a b c d e u (suc (suc zero), lt, i) = subst P i c
of_first P a b c d e u (suc (suc (suc zero)), lt, i) = subst P i d
of_first P a b c d e u (suc (suc (suc (suc zero))), lt, i) = subst P i e
of_first P a b c d e u (suc (suc (suc (suc (suc k)))), lt, i) = absurd (omega (arith, lt))

of_all : (P : Label → Type 0) → ((unit : Unit) → IsUnit unit → (label_of unit).command < 5 → P (label_of unit)) → (u : Label) → Contains all_units u → P u
of_all P h u (zero, lt, i) = subst P i (h Fill tt (omega arith))
of_all P h u (suc zero, lt, i) = subst P i (h (Leaf false (leaf_value false)) refl (omega arith))
of_all P h u (suc (suc zero), lt, i) = subst P i (h (Leaf true (leaf_value true)) refl (omega arith))
of_all P h u (suc (suc (suc zero)), lt, i) = subst P i (h Sum tt (omega arith))
of_all P h u (suc (suc (suc (suc zero))), lt, i) = subst P i (h Clear tt (omega arith))
of_all P h u (suc (suc (suc (suc (suc zero)))), lt, i) = subst P i (h Read tt (omega arith))
of_all P h u (suc (suc (suc (suc (suc (suc zero))))), lt, i) = subst P i (h Count tt (omega arith))
of_all P h u (suc (suc (suc (suc (suc (suc (suc zero)))))), lt, i) = subst P i (h Total tt (omega arith))
of_all P h u (suc (suc (suc (suc (suc (suc (suc (suc k))))))), lt, i) = absurd (omega (arith, lt))

first_is_sound : (u : Label) → Contains first_units u → u.command < 5
first_is_sound = of_first (λ u. u.command < 5) (omega arith) (omega arith) (omega arith) (omega arith) (omega arith)

all_are_sound : (u : Label) → Contains all_units u → u.command < 5
all_are_sound = of_all (λ u. u.command < 5) (λ unit is lt. lt)

in_first : (unit : Unit) → (label_of unit).command ≡ 1 → Contains first_units (label_of unit)
in_first Fill c = (0, omega arith, refl)
in_first (Leaf false value) c = (1, omega arith, refl)
in_first (Leaf true value) c = (2, omega arith, refl)
in_first Sum c = (3, omega arith, refl)
in_first Clear c = (4, omega arith, refl)
in_first Read c = absurd (omega (arith, c))
in_first Count c = absurd (omega (arith, c))
in_first Total c = absurd (omega (arith, c))
in_first (Guessed unit) c = absurd (let is = command_is unit in omega (arith, c, is))

in_all : (unit : Unit) → (label_of unit).command < 5 → Contains all_units (label_of unit)
in_all Fill lt = (0, omega arith, refl)
in_all (Leaf false value) lt = (1, omega arith, refl)
in_all (Leaf true value) lt = (2, omega arith, refl)
in_all Sum lt = (3, omega arith, refl)
in_all Clear lt = (4, omega arith, refl)
in_all Read lt = (5, omega arith, refl)
in_all Count lt = (6, omega arith, refl)
in_all Total lt = (7, omega arith, refl)
in_all (Guessed unit) lt = absurd (let is = command_is unit in omega (arith, lt, is))

-- the units of the first command
abbrev pub OfFirst : Label → Type 0
OfFirst u = u.command ≡ 1

pub first_is_before : (ranks fence : ℕ) → 0 < fence → IsOfFence (MayDo ranks) stage fence OfFirst
first_is_before ranks fence some = record {
  before = λ u c. subst (λ (z : ℕ). fences_before z kinds < fence) (sym c) some;
  spawner = λ p os i o u m e s c. sym (in_command ranks p os i o u m e s) ∙ c;
}

pub first_are_units : (ranks : ℕ) → AreUnits (program ranks) (MayDo ranks) OfFirst (plan ranks) (home ranks) first_units
first_are_units ranks = record {
  apart = first_apart;
  all = λ u q c is. let k = came ranks u q c in (subst (Contains first_units) k.2 (in_first k.0 (ap (λ (l : Label). l.command) k.2 ∙ is)), k.3);
  only = of_first (λ u. Comes (program ranks) (AsPlanned (plan ranks) OfFirst) u (home ranks u) × OfFirst u) (first Fill (omega arith), refl) (first (Leaf false (leaf_value false)) (omega arith), refl) (first (Leaf true (leaf_value true)) (omega arith), refl) (first Sum (omega arith), refl) (first Clear (omega arith), refl);
  task_effects = λ u os is m. planned ranks u os (first_is_sound u is) m;
}
  where
    first : (unit : Unit) → (label_of unit).command < 5 → Comes (program ranks) (AsPlanned (plan ranks) OfFirst) (label_of unit) (home_of unit ranks)
    first = comes ranks OfFirst refl refl

-- and of all commands before a fence
abbrev pub OfFence : ℕ → Label → Type 0
OfFence fence u = stage u < fence

early_command : (unit : Unit) → stage (label_of unit) < 1 → (label_of unit).command ≡ 1
early_command Fill c = refl
early_command (Leaf false value) c = refl
early_command (Leaf true value) c = refl
early_command Sum c = refl
early_command Clear c = refl
early_command Read c = absurd (omega (arith, c))
early_command Count c = absurd (omega (arith, c))
early_command Total c = absurd (omega (arith, c))
early_command (Guessed Guess) c = absurd (omega (arith, c))
early_command (Guessed Early) c = absurd (omega (arith, c))
early_command (Guessed Late) c = absurd (omega (arith, c))

-- the units before the second fence are those of the first two work commands
before_second : (unit : Unit) → stage (label_of unit) < 2 → (label_of unit).command < 5
before_second Fill c = omega arith
before_second (Leaf false value) c = omega arith
before_second (Leaf true value) c = omega arith
before_second Sum c = omega arith
before_second Clear c = omega arith
before_second Read c = omega arith
before_second Count c = omega arith
before_second Total c = omega arith
before_second (Guessed Guess) c = absurd (omega (arith, c))
before_second (Guessed Early) c = absurd (omega (arith, c))
before_second (Guessed Late) c = absurd (omega (arith, c))

few_fences : (unit : Unit) → (label_of unit).command < 5 → stage (label_of unit) < 2
few_fences Fill lt = omega arith
few_fences (Leaf false value) lt = omega arith
few_fences (Leaf true value) lt = omega arith
few_fences Sum lt = omega arith
few_fences Clear lt = omega arith
few_fences Read lt = omega arith
few_fences Count lt = omega arith
few_fences Total lt = omega arith
few_fences (Guessed unit) lt = absurd (let is = command_is unit in omega (arith, lt, is))

home_again : (ranks : ℕ) (unit : Unit) → IsUnit unit → home_of unit ranks ≡ home ranks (label_of unit)
home_again ranks unit is = ap (λ (u : Unit). home_of u ranks) (sym (at_label unit is))

pub units_are : (ranks fence : ℕ) → fence < 3 → AreUnits (program ranks) (MayDo ranks) (OfFence fence) (plan ranks) (home ranks) (units_before fence)
units_are ranks zero early = record {
  apart = tt;
  all = λ u q c is. absurd (omega (arith, is));
  only = λ u is. absurd (let lt = is.1 in omega (arith, lt));
  task_effects = λ u os is m. absurd (let lt = is.1 in omega (arith, lt));
}
units_are ranks (suc zero) early = record {
  apart = first_apart;
  all = λ u q c is.
      let k = came ranks u q c in
      (subst (Contains first_units) k.2 (in_first k.0 (early_command k.0 (subst (λ (l : Label). stage l < 1) (sym k.2) is))), k.3);
  only = of_first (λ u. Comes (program ranks) (AsPlanned (plan ranks) (OfFence 1)) u (home ranks u) × OfFence 1 u) (first Fill (omega arith), omega arith) (first (Leaf false (leaf_value false)) (omega arith), omega arith) (first (Leaf true (leaf_value true)) (omega arith), omega arith) (first Sum (omega arith), omega arith) (first Clear (omega arith), omega arith);
  task_effects = λ u os is m. planned ranks u os (first_is_sound u is) m;
}
  where
    first : (unit : Unit) → (label_of unit).command < 5 → Comes (program ranks) (AsPlanned (plan ranks) (OfFence 1)) (label_of unit) (home_of unit ranks)
    first = comes ranks (OfFence 1) (omega arith) (omega arith)
units_are ranks (suc (suc zero)) early = record {
  apart = whole_apart;
  all = λ u q c is.
      let k = came ranks u q c in
      (subst (Contains all_units) k.2 (in_all k.0 (before_second k.0 (subst (λ (l : Label). stage l < 2) (sym k.2) is))), k.3);
  only = of_all (λ u. Comes (program ranks) (AsPlanned (plan ranks) (OfFence 2)) u (home ranks u) × OfFence 2 u)
      (λ unit is lt. (subst (λ (q : ℕ). Comes (program ranks) (AsPlanned (plan ranks) (OfFence 2)) (label_of unit) q) (home_again ranks unit is) (comes ranks (OfFence 2) (omega arith) (omega arith) unit lt), few_fences unit lt));
  task_effects = λ u os is m. planned ranks u os (all_are_sound u is) m;
}
units_are ranks (suc (suc (suc fence))) early = absurd (omega (arith, early))
