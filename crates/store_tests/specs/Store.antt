-- An application of one rank with two units: one puts an entry and then spawns the other, which puts two more entries and
-- erases the first.
use Rattle.std.proofs.Common.{◌≡◌, ℕ, zero, suc, ◌-◌, ◌^◌, ◌≤◌, ◌<◌, List, [], ◌∷◌, length, refl, arith}
use Rattle.std.specs.Prelude.{Option, Some, None, ⊤, IsSome, IfSome, ◌↔◌, Contains, if◌then◌else◌, ◌==◌}
use Rattle.std.specs.List.{AllByRecursion}
use Rattle.app_core.specs.declared.Label.{Label}
use Rattle.app_core.specs.declared.CellName.{CellName}
use Rattle.app_core.specs.declared.CommandKind.{CommandKind}
use Rattle.app_core.specs.declared.CommandKind.TheVariants.{Work}
use Rattle.app_core.specs.declared.Effect.{Effect}
use Rattle.app_core.specs.declared.Effect.TheVariants.{Spawn, Put, Erase}
use Rattle.app_core.specs.declared.Outline.{Outline}
use Rattle.app_core.specs.declared.outline.Outline.TheVariants as of
use Rattle.app_core.specs.Commands.{IsCommand, IsWork, IsRankCount}
use Rattle.app_core.specs.Effects.{IsRightEffect, IsSpawnedWithNeeds, IsSpawn}
use Rattle.app_core.specs.Outlines.{outlines, IsNeededNever, GivesOnly, NeedingRunsAt, Names}
use Rattle.app_core.specs.Given.{Given}
use Rattle.app_core.specs.Inputs.{AreRightInputs}
use Rattle.event_laws.specs.Follows.{Doing, Start, Wait}
use Rattle.store_tests.specs.declared.store.StoreUnit.{StoreUnit}
use Rattle.store_tests.specs.declared.store.StoreUnit.TheVariants.{Fill, Move}

abbrev pub kinds : List CommandKind
kinds = Work ∷ []

-- the entry that is put and erased, in bin 1, and the two that stay, in bins 1 and 2
abbrev pub old_entry : CellName
old_entry = record { version = 1; place = 17 }

abbrev pub first_entry : CellName
first_entry = record { version = 1; place = 1 }

abbrev pub second_entry : CellName
second_entry = record { version = 1; place = 2 }

abbrev pub label_of : StoreUnit → Label
label_of Fill = record { command = 1; part = 1; place = 0 }
label_of Move = record { command = 1; part = 2; place = 0 }

abbrev pub result_of : ℕ → Option Label
result_of command = if command == 1 then Some (record { command = 1; part = 0; place = 0 }) else None

abbrev pub starting_of : ℕ → List (Effect StoreUnit ℕ ℕ)
starting_of command = if command == 1 then Spawn Fill ∷ [] else []

abbrev pub step_of : StoreUnit → List (Effect StoreUnit ℕ ℕ)
step_of Fill = Put old_entry 7 ∷ Spawn Move ∷ []
step_of Move = Put first_entry 7 ∷ Put second_entry 8 ∷ Erase old_entry ∷ []

-- the outlines of effects: all is at rank 0
abbrev pub told : ℕ → List (Effect StoreUnit ℕ ℕ) → List Outline
told ranks es = outlines label_of (λ _. None) (λ _ _. 0) (λ _ _. 0) ranks es

-- a unit with this label has these effects
abbrev pub MayDo : Label → List Outline → Type 0
MayDo label os = (u : StoreUnit) × (label_of u ≡ label) × (os ≡ told 1 (step_of u))

-- what rank 0's main does
abbrev pub program : List Doing
program = Start (of.Spawn (label_of Fill) None [] 0) ∷ Wait ∷ []

-- the only command is 1
by_command : (P : ℕ → Type 0) → P 1 → (command : ℕ) → IsCommand kinds command → P command
by_command P one zero is = absurd (omega (arith, is.0))
by_command P one (suc zero) is = one
by_command P one (suc (suc more)) is = absurd (omega (arith, is.1))

pub results : (command : ℕ) → IsCommand kinds command → IsSome (result_of command) ↔ IsWork kinds command
results = by_command (λ command. IsSome (result_of command) ↔ IsWork kinds command) ((λ _. refl), (λ _. refl))

pub few_commands : length kinds < 2 ^ 32 - 1
few_commands = omega arith

pub few_starts : (command : ℕ) → IsCommand kinds command → length (starting_of command) ≤ 2 ^ 16
few_starts = by_command (λ command. length (starting_of command) ≤ 2 ^ 16) (omega arith)

pub starts_are_spawns : (command : ℕ) → IsWork kinds command → AllByRecursion (IsSpawn {U = StoreUnit} {V = ℕ} {C = ℕ}) (starting_of command)
starts_are_spawns zero is = tt
starts_are_spawns (suc zero) is = (tt, tt)
starts_are_spawns (suc (suc more)) is = absurd (cc)

pub starts_are_right : (command : ℕ) → IsCommand kinds command → AllByRecursion (IsRightEffect {U = StoreUnit} {V = ℕ} {C = ℕ} (λ _ _. ⊤) (λ _ _. ⊤) (λ _. ⊤)) (starting_of command)
starts_are_right = by_command (λ command. AllByRecursion (IsRightEffect {U = StoreUnit} {V = ℕ} {C = ℕ} (λ _ _. ⊤) (λ _ _. ⊤) (λ _. ⊤)) (starting_of command)) (tt, tt)

pub starts_have_their_needs : (command : ℕ) → IsCommand kinds command → AllByRecursion (IsSpawnedWithNeeds {U = StoreUnit} {V = ℕ} {C = ℕ} (λ _. [])) (starting_of command)
starts_have_their_needs = by_command (λ command. AllByRecursion (IsSpawnedWithNeeds {U = StoreUnit} {V = ℕ} {C = ℕ} (λ _. [])) (starting_of command)) (refl, tt)

pub starts_with_needs_run_at_zero : (ranks command : ℕ) → IsCommand kinds command → AllByRecursion (NeedingRunsAt 0) (told ranks (starting_of command))
starts_with_needs_run_at_zero ranks = by_command (λ command. AllByRecursion (NeedingRunsAt 0) (told ranks (starting_of command))) ((λ _. refl), tt)

-- the starts name no future
pub starts_name_none : (ranks command : ℕ) (future : Label) → IsCommand kinds command → Names (told ranks (starting_of command)) future → ⊥
starts_name_none ranks command future is = by_command (λ command. Names (told ranks (starting_of command)) future → ⊥) one command is
  where
    one : Names (told ranks (starting_of 1)) future → ⊥
    one (k, lt, e) = omega (arith, lt)

pub starts_never_need_the_result : (ranks command : ℕ) → IsCommand kinds command → IfSome (result_of command) (λ future. IsNeededNever future (told ranks (starting_of command)))
starts_never_need_the_result ranks = by_command (λ command. IfSome (result_of command) (λ future. IsNeededNever future (told ranks (starting_of command)))) refl

pub none_contained : {T : Type 0} (x : T) → Contains [] x → ⊥
none_contained x (k, lt, e) = omega (arith, lt)

pub zero_below : (ranks : ℕ) → IsRankCount ranks → 0 < ranks
zero_below ranks is = omega (arith, is.0)

pub one_rank : IsRankCount 1
one_rank = (omega arith, omega arith)

pub few_reads : 0 ≤ 16
few_reads = omega arith

pub few_effects : (unit : StoreUnit) → length (step_of unit) ≤ 2 ^ 16
few_effects Fill = omega arith
few_effects Move = omega arith

pub spawns_have_their_needs : (unit : StoreUnit) → AllByRecursion (IsSpawnedWithNeeds {U = StoreUnit} {V = ℕ} {C = ℕ} (λ _. [])) (step_of unit)
spawns_have_their_needs Fill = (tt, (refl, tt))
spawns_have_their_needs Move = (tt, (tt, (tt, tt)))

pub spawns_with_needs_stay : (ranks : ℕ) (unit : StoreUnit) → AllByRecursion (NeedingRunsAt 0) (told ranks (step_of unit))
spawns_with_needs_stay ranks Fill = (tt, ((λ _. refl), tt))
spawns_with_needs_stay ranks Move = (tt, (tt, (tt, tt)))

pub nothing_is_given : (unit : StoreUnit) → AllByRecursion (GivesOnly None) (told 1 (step_of unit))
nothing_is_given Fill = (tt, (tt, tt))
nothing_is_given Move = (tt, (tt, (tt, tt)))

pub steps_name_none : (unit : StoreUnit) (future : Label) → Names (told 1 (step_of unit)) future → ⊥
steps_name_none Fill future (k, lt, e) = omega (arith, lt)
steps_name_none Move future (k, lt, e) = omega (arith, lt)

pub step_is_right : (unit : StoreUnit) → AllByRecursion (IsRightEffect {U = StoreUnit} {V = ℕ} {C = ℕ} (λ _ _. ⊤) (λ _ _. ⊤) (λ _. ⊤)) (step_of unit)
step_is_right Fill = (tt, (tt, tt))
step_is_right Move = (tt, (tt, (tt, tt)))

pub allowed_is_a_step : (label : Label) (os : List Outline) → MayDo label os
    → (u : StoreUnit) × (given : Given ℕ ℕ) × ⊤ × (label_of u ≡ label) × AreRightInputs (λ _ _. ⊤) (λ _ _. ⊤) (λ _ _ _. ⊤) [] [] None 0 given × (os ≡ told 1 (step_of u))
allowed_is_a_step label os may = (may.0, record { values = []; cells = []; size = 0 }, tt, may.1, record { values = tt; cells = tt; size = refl }, may.2)
