-- The labels of units form a tree, and units stay in their command.
use Rattle.std.proofs.Common.{◌≡◌, ℕ, zero, suc, ◌+◌, ◌*◌, ◌/◌, ◌%◌, ◌<◌, ◌≤◌, Bool, true, List, refl, sym, ap, ◌∙◌, subst, ⊎_elim, arith}
use Rattle.std.specs.Prelude.{if◌then◌else◌, nat_lt, Some, None, slice_get}
use Rattle.std.proofs.lemmas.Bool.{lt-ltb, cond-true}
use Rattle.app_core.specs.declared.label.Label.{Label}
use Rattle.app_core.specs.declared.outline.Outline.{Outline}
use Rattle.app_core.specs.declared.outline.Outline.TheVariants as of
use Rattle.event_laws.specs.Follows.{Start}
use Rattle.event_laws.specs.Trees.{unit_of, LabelsAreTree}
use Rattle.event_laws.specs.Stages.{IsStaged, IsOfFence}
use Rattle.event_laws.specs.Held.{fences_before}
use Rattle.event_laws.proofs.ProgramLemmas.{start_of_command, one_start, stages}
use Rattle.haar_units.specs.Jobs.{DistributedJob, kinds}
use Rattle.haar_units.specs.Units.{label, down_unit, up_unit, erase_unit, entry, parent}
use Rattle.haar_units.specs.Starts.{program, starts}
use Rattle.haar_units.specs.Actions.{Action, puts_first, rest_of, Allowed}
use Rattle.haar_units.specs.Laws.{MayIsAllowed, stage}
use Rattle.haar_units.proofs.EffectLemmas.{some_is, none_is, by_rest, offset, first_or_later, by_effect}
use Rattle.haar_units.proofs.StartLemmas.{IsStart, of_root, of_count, of_sum, start_is}

-- each start of the program is a start of a command
pub record Starting (job : DistributedJob) (o : Outline) : Type 0 where
  pub command : ℕ
  pub i : ℕ
  pub is : IsStart job command i o

pub starting : (job : DistributedJob) (k : ℕ) (o : Outline) → slice_get (program job) k ≡ Some (Start o) → Starting job o
starting job k o e =
    let s = start_of_command (starts job) 1 (kinds job) k o e in
    record { command = 1 + s.0; i = s.1; is = start_is job (1 + s.0) s.1 o s.3 }

-- of a key other than the root
pub over : {A : Type 0} (f : ℕ → A) (none : A) (x y : ℕ) → 1 < y → y / 2 ≡ x → (if nat_lt 1 y then f (y / 2) else none) ≡ f x
over f none x y lt half = cond-true (nat_lt 1 y) (f (y / 2)) none (lt-ltb 1 y lt) ∙ ap f half

pub over_left : {A : Type 0} (f : ℕ → A) (none : A) (x : ℕ) → 1 ≤ x → (if nat_lt 1 (2 * x) then f (2 * x / 2) else none) ≡ f x
over_left f none x one = over f none x (2 * x) (omega (arith, one)) (omega arith)

pub over_right : {A : Type 0} (f : ℕ → A) (none : A) (x : ℕ) → 1 ≤ x → (if nat_lt 1 (2 * x + 1) then f ((2 * x + 1) / 2) else none) ≡ f x
over_right f none x one = over f none x (2 * x + 1) (omega (arith, one)) (omega arith)

-- what holds of the label of the unit that an outline spawns
told : (f : Label → Type 0) (a u : Label) → f a → Some a ≡ Some u → f u
told f a u h e = subst f (some_is a u e) h

pub start_place : DistributedJob → ℕ → ℕ → ℕ
start_place job zero place = 0
start_place job (suc (suc (suc zero))) place = place
start_place job _ place = job.ranks

spawn_place : ℕ → ℕ → ℕ
spawn_place (suc zero) place = 2
spawn_place _ place = place % 2

module _ (job : DistributedJob) where
  no_parent : (o : Outline) (u : Label) → Starting job o → unit_of o ≡ Some u → parent u ≡ None
  no_parent o u s e = go s.is
    where
      go : IsStart job s.command s.i o → parent u ≡ None
      go (of_root w at tree i is) = told (λ v. parent v ≡ None) (down_unit s.command 1) u refl (ap unit_of is ∙ e)
      go (of_count at lt is) = told (λ v. parent v ≡ None) (label s.command 3 s.i) u refl (ap unit_of is ∙ e)
      go (of_sum at i is) = told (λ v. parent v ≡ None) (label s.command 4 1) u refl (ap unit_of is ∙ e)

  pub start_tells : (c i : ℕ) (o : Outline) (u : Label) → slice_get (starts job c) i ≡ Some o → unit_of o ≡ Some u → (u.command ≡ c) × (start_place job u.part u.place ≡ i)
  unfolding start_place
  start_tells c i o u e unit = go (start_is job c i o e)
    where
      go : IsStart job c i o → (u.command ≡ c) × (start_place job u.part u.place ≡ i)
      go (of_root w at tree j is) = told (λ v. (v.command ≡ c) × (start_place job v.part v.place ≡ i)) (down_unit c 1) u (refl, sym j) (ap unit_of is ∙ unit)
      go (of_count at lt is) = told (λ v. (v.command ≡ c) × (start_place job v.part v.place ≡ i)) (label c 3 i) u (refl, refl) (ap unit_of is ∙ unit)
      go (of_sum at j is) = told (λ v. (v.command ≡ c) × (start_place job v.part v.place ≡ i)) (label c 4 1) u (refl, sym j) (ap unit_of is ∙ unit)

  -- the spawner of a unit
  spawner : (p : Label) (os : List Outline) (i : ℕ) (o : Outline) (u : Label) → Allowed job p os → slice_get os i ≡ Some o → unit_of o ≡ Some u → (parent u ≡ Some p) × (u.command ≡ p.command)
  spawner p os i o u m e = by_effect job (λ p o. (u : Label) → unit_of o ≡ Some u → (parent u ≡ Some p) × (u.command ≡ p.command)) (record {
    put = λ w a c x at fit puts_first u s. none_is u s;
    rest = λ w c x at. record {
      stop = λ fit key u s. none_is u s;
      left = λ fit key u s. told (λ v. (parent v ≡ Some (down_unit c x)) × (v.command ≡ c)) (down_unit c (2 * x)) u (over_left (λ n. Some (down_unit c n)) None x (key (omega arith)), refl) s;
      right = λ fit key u s. told (λ v. (parent v ≡ Some (down_unit c x)) × (v.command ≡ c)) (down_unit c (2 * x + 1)) u (over_right (λ n. Some (down_unit c n)) None x (key (omega arith)), refl) s;
      above = λ fit key u s. told (λ v. (parent v ≡ Some (down_unit c x)) × (v.command ≡ c)) (up_unit c x) u (refl, refl) s;
      combine = λ fit key u s. none_is u s;
      erase_left = λ fit key u s. told (λ v. (parent v ≡ Some (up_unit c x)) × (v.command ≡ c)) (erase_unit c (2 * x)) u (ap (λ (n : ℕ). Some (up_unit c n)) (omega arith), refl) s;
      erase_right = λ fit key u s. told (λ v. (parent v ≡ Some (up_unit c x)) × (v.command ≡ c)) (erase_unit c (2 * x + 1)) u (ap (λ (n : ℕ). Some (up_unit c n)) (omega arith), refl) s;
      merge = λ fit key u s. none_is u s;
      erased = λ fit key u s. none_is u s;
      counted = λ fit key u s. none_is u s;
      summed = λ fit key u s. none_is u s;
    };
  }) p os i o m e u

  -- the index of its spawn among the outlines
  placed : (p : Label) (os : List Outline) (m : Allowed job p os) (i : ℕ) (o : Outline) (u : Label) → slice_get os i ≡ Some o → unit_of o ≡ Some u → i ≡ offset (puts_first m.operation m.action) + spawn_place u.part u.place
  unfolding spawn_place
  placed p os m i o u e unit = ⊎_elim
      (λ first. none_is u (ap unit_of first.2 ∙ unit))
      (λ later. later.1 ∙ ap (λ (n : ℕ). offset (puts_first m.operation m.action) + n) (rest m.action later.0 o later.2 u unit))
      (first_or_later (puts_first m.operation m.action) (of.Put (entry p.command p.place)) (rest_of job m.action p.command p.place) i o (subst (λ (z : List Outline). slice_get z i ≡ Some o) m.lists e))
    where
      c : ℕ
      c = p.command

      x : ℕ
      x = p.place

      rest : (a : Action) (j : ℕ) (o : Outline) → slice_get (rest_of job a p.command p.place) j ≡ Some o → (u : Label) → unit_of o ≡ Some u → j ≡ spawn_place u.part u.place
      rest = by_rest job p.command p.place (λ a j o. (u : Label) → unit_of o ≡ Some u → j ≡ spawn_place u.part u.place) (record {
        stop = λ u s. none_is u s;
        left = λ u s. told (λ v. 0 ≡ spawn_place v.part v.place) (down_unit p.command (2 * p.place)) u (omega arith) s;
        right = λ u s. told (λ v. 1 ≡ spawn_place v.part v.place) (down_unit p.command (2 * p.place + 1)) u (omega arith) s;
        above = λ u s. told (λ v. 2 ≡ spawn_place v.part v.place) (up_unit p.command p.place) u refl s;
        combine = λ u s. none_is u s;
        erase_left = λ u s. told (λ v. 0 ≡ spawn_place v.part v.place) (erase_unit p.command (2 * p.place)) u (omega arith) s;
        erase_right = λ u s. told (λ v. 1 ≡ spawn_place v.part v.place) (erase_unit p.command (2 * p.place + 1)) u (omega arith) s;
        merge = λ u s. none_is u s;
        erased = λ u s. none_is u s;
        counted = λ u s. none_is u s;
        summed = λ u s. none_is u s;
      })

  module _ (may : Label → List Outline → Type 0) (within : MayIsAllowed job may) where
    pub tree : LabelsAreTree (program job) may parent
    tree = record {
      starts = λ k o u e unit. no_parent o u (starting job k o e) unit;
      steps = λ p os i o u m e unit. (spawner p os i o u (within p os m) e unit).0;
      start_once = one_start (kinds job) (starts job) (λ u. start_place job u.part u.place) (λ c i o u work e unit. start_tells c i o u e unit);
      step_once = λ p os i j o q u m e f s t. placed p os (within p os m) i o u e s ∙ sym (placed p os (within p os m) j q u f t);
    }

    pub command_stays : (p : Label) (os : List Outline) (i : ℕ) (o : Outline) (u : Label) → may p os → slice_get os i ≡ Some o → unit_of o ≡ Some u → u.command ≡ p.command
    command_stays p os i o u m e unit = (spawner p os i o u (within p os m) e unit).1

    pub staged : IsStaged (program job) may (stage job)
    staged = stages (kinds job) (starts job) may (λ c i o u work e unit. (start_tells c i o u e unit).0) (λ p os i o u m e unit. (spawner p os i o u (within p os m) e unit).1)

    pub of_fence : (of : ℕ → Bool) (fence : ℕ) → ((command : ℕ) → of command ≡ true → fences_before command (kinds job) < fence) → IsOfFence may (stage job) fence (λ u. of u.command ≡ true)
    of_fence of fence early = record {
      before = λ u is. early u.command is;
      spawner = λ p os i o u m e unit is. subst (λ (c : ℕ). of c ≡ true) (spawner p os i o u (within p os m) e unit).1 is;
    }
