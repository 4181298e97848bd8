-- The units of the small application's last work command keep the laws of an application.
use Rattle.std.proofs.Common.{◌≡◌, ℕ, zero, suc, ◌≤◌, ◌^◌, Bool, true, false, List, length, refl, sym, ap, arith}
use Rattle.std.specs.Prelude.{Some, IfSome, slice_index, ◌==◌}
use Rattle.std.specs.List.{AllByRecursion}
use Rattle.app_core.specs.declared.Label.{Label}
use Rattle.app_core.specs.declared.CellName.{CellName}
use Rattle.app_core.specs.declared.Effect.{Effect}
use Rattle.app_core.specs.Given.{Given}
use Rattle.app_core.specs.Effects.{IsRightEffect, IsSpawnedWithNeeds}
use Rattle.app_core.specs.Outlines.{IsNeededNever, IsSeenToOnce, GivesOnly, NeedingRunsAt, Names, Touches}
use Rattle.small_app.specs.declared.guess.GuessUnit.{GuessUnit}
use Rattle.small_app.specs.declared.guess.GuessUnit.TheVariants.{Guess, Early, Late}
use Rattle.small_app.specs.declared.unit.Unit.{Unit}
use Rattle.small_app.specs.declared.unit.Unit.TheVariants.{Guessed}
use Rattle.small_app.specs.Guess.{guess_result, guess_entry, early_step}
use Rattle.small_app.specs.Small.{label_of, due_of, needs_of, home_of, entry_home_of, step_of, told, IsUnit, IsRightValue, IsRightCell}

-- what holds of the early unit's effects on each guess
on_each_guess : (P : List (Effect Unit ℕ ℕ) → Type 0) → P (early_step true) → P (early_step false) → (b : Bool) → P (early_step b)
on_each_guess P p q true = p
on_each_guess P p q false = q

on_a_guess : (P : List (Effect Unit ℕ ℕ) → Type 0) → P (early_step true) → P (early_step false) → (given : Given ℕ ℕ) → P (step_of (Guessed Early) given)
on_a_guess P p q given = on_each_guess P p q (slice_index given.values 0 == 0)

pub command_is : (unit : GuessUnit) → (label_of (Guessed unit)).command ≡ 5
command_is Guess = refl
command_is Early = refl
command_is Late = refl

pub few_effects : (unit : GuessUnit) (given : Given ℕ ℕ) → length (step_of (Guessed unit) given) ≤ 2 ^ 16
few_effects Guess given = omega arith
few_effects Early given = on_a_guess (λ es. length es ≤ 2 ^ 16) (omega arith) (omega arith) given
few_effects Late given = omega arith

pub spawns_have_their_needs : (unit : GuessUnit) (given : Given ℕ ℕ) → AllByRecursion (IsSpawnedWithNeeds {U = Unit} {V = ℕ} {C = ℕ} needs_of) (step_of (Guessed unit) given)
spawns_have_their_needs Guess given = (tt, tt)
spawns_have_their_needs Early given = on_a_guess (λ es. AllByRecursion (IsSpawnedWithNeeds {U = Unit} {V = ℕ} {C = ℕ} needs_of) es) (tt, (tt, tt)) (refl, tt) given
spawns_have_their_needs Late given = (tt, (tt, tt))

pub spawns_with_needs_stay : (ranks : ℕ) (unit : GuessUnit) (given : Given ℕ ℕ) → AllByRecursion (NeedingRunsAt (home_of (Guessed unit) ranks)) (told ranks (step_of (Guessed unit) given))
spawns_with_needs_stay ranks Guess given = (tt, tt)
spawns_with_needs_stay ranks Early given = on_a_guess (λ es. AllByRecursion (NeedingRunsAt (home_of (Guessed Early) ranks)) (told ranks es)) (tt, (tt, tt)) ((λ some. absurd (some refl)), tt) given
spawns_with_needs_stay ranks Late given = (tt, (tt, tt))

pub due_is_seen_to_once : (ranks : ℕ) (unit : GuessUnit) (given : Given ℕ ℕ) → IfSome (due_of (Guessed unit)) (λ due. IsSeenToOnce due (told ranks (step_of (Guessed unit) given)))
due_is_seen_to_once ranks Guess given = refl
due_is_seen_to_once ranks Early given = on_a_guess (λ es. IsSeenToOnce guess_result (told ranks es)) refl refl given
due_is_seen_to_once ranks Late given = refl

pub due_is_needed_never : (ranks : ℕ) (unit : GuessUnit) (given : Given ℕ ℕ) → IfSome (due_of (Guessed unit)) (λ due. IsNeededNever due (told ranks (step_of (Guessed unit) given)))
due_is_needed_never ranks Guess given = refl
due_is_needed_never ranks Early given = on_a_guess (λ es. IsNeededNever guess_result (told ranks es)) refl refl given
due_is_needed_never ranks Late given = refl

pub only_the_due_is_given : (ranks : ℕ) (unit : GuessUnit) (given : Given ℕ ℕ) → AllByRecursion (GivesOnly (due_of (Guessed unit))) (told ranks (step_of (Guessed unit) given))
only_the_due_is_given ranks Guess given = (refl, tt)
only_the_due_is_given ranks Early given = on_a_guess (λ es. AllByRecursion (GivesOnly (Some guess_result)) (told ranks es)) (tt, (refl, tt)) (tt, tt) given
only_the_due_is_given ranks Late given = (tt, (refl, tt))

-- a step of these units creates no future
pub names_the_due : (ranks : ℕ) (unit : GuessUnit) (given : Given ℕ ℕ) (future : Label) → Names (told ranks (step_of (Guessed unit) given)) future → due_of (Guessed unit) ≡ Some future
names_the_due ranks Guess given future (k, lt, e) = absurd (omega (arith, lt))
names_the_due ranks Early given future names = on_a_guess (λ es. Names (told ranks es) future → Some guess_result ≡ Some future) puts spawns given names
  where
    puts : Names (told ranks (early_step true)) future → Some guess_result ≡ Some future
    puts (k, lt, e) = absurd (omega (arith, lt))

    spawns : Names (told ranks (early_step false)) future → Some guess_result ≡ Some future
    spawns (zero, lt, e) = ap Some e
    spawns (suc k, lt, e) = absurd (omega (arith, lt))
names_the_due ranks Late given future (k, lt, e) = absurd (omega (arith, lt))

-- an entry that they touch is theirs, and the unit is early or late
puts_touch : (ranks : ℕ) (entry : CellName) → Touches (told ranks (early_step true)) entry → entry ≡ guess_entry
puts_touch ranks entry (zero, lt, e) = sym e
puts_touch ranks entry (suc k, lt, e) = absurd (omega (arith, lt))

pub touches_its_entry : (ranks : ℕ) (unit : GuessUnit) (given : Given ℕ ℕ) (entry : CellName) → Touches (told ranks (step_of (Guessed unit) given)) entry
    → (entry ≡ guess_entry) × (home_of (Guessed unit) ranks ≡ entry_home_of ranks guess_entry)
touches_its_entry ranks Guess given entry (k, lt, e) = absurd (omega (arith, lt))
touches_its_entry ranks Early given entry touches = on_a_guess (λ es. Touches (told ranks es) entry → (entry ≡ guess_entry) × (home_of (Guessed Early) ranks ≡ entry_home_of ranks guess_entry)) (λ h. (puts_touch ranks entry h, refl)) spawns given touches
  where
    spawns : Touches (told ranks (early_step false)) entry → (entry ≡ guess_entry) × (home_of (Guessed Early) ranks ≡ entry_home_of ranks guess_entry)
    spawns (k, lt, e) = absurd (omega (arith, lt))
touches_its_entry ranks Late given entry h = (puts_touch ranks entry h, refl)

-- any guess is right
pub step_is_right : (unit : GuessUnit) (given : Given ℕ ℕ) → AllByRecursion (IsRightEffect {U = Unit} {V = ℕ} {C = ℕ} IsRightValue IsRightCell IsUnit) (step_of (Guessed unit) given)
step_is_right Guess given = (tt, tt)
step_is_right Early given = on_a_guess (λ es. AllByRecursion (IsRightEffect {U = Unit} {V = ℕ} {C = ℕ} IsRightValue IsRightCell IsUnit) es) (refl, (refl, tt)) (tt, tt) given
step_is_right Late given = (refl, (refl, tt))
