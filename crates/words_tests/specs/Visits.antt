-- An application whose units do nothing: rank 0's main sends one to rank 1 and one to rank 2, and all go through a fence.
use Rattle.std.proofs.Common.{◌≡◌, ℕ, zero, suc, ◌-◌, ◌^◌, ◌≤◌, ◌<◌, Bool, true, false, List, [], ◌∷◌, length, refl, ap, arith, rules}
use Rattle.std.specs.Prelude.{Option, Some, None, ⊤, IsSome, IfSome, ◌↔◌, Contains, if◌then◌else◌, ◌==◌, nat_lt}
use Rattle.std.specs.List.{AllByRecursion}
use Rattle.app_core.specs.declared.Label.{Label}
use Rattle.app_core.specs.declared.CellName.{CellName}
use Rattle.app_core.specs.declared.CommandKind.{CommandKind}
use Rattle.app_core.specs.declared.CommandKind.TheVariants.{Work, Fence}
use Rattle.app_core.specs.declared.Effect.{Effect}
use Rattle.app_core.specs.declared.Effect.TheVariants.{Spawn}
use Rattle.app_core.specs.declared.Outline.{Outline}
use Rattle.app_core.specs.declared.outline.Outline.TheVariants as of
use Rattle.event_laws.specs.Follows.{Doing, Start, Wait}
use Rattle.app_core.specs.Commands.{IsCommand, IsWork, IsRankCount}
use Rattle.app_core.specs.Homes.{rank_within}
use Rattle.app_core.specs.Effects.{IsRightEffect, IsSpawnedWithNeeds, IsSpawn}
use Rattle.app_core.specs.Outlines.{outlines, NeedingRunsAt, Names, IsNeededNever}
use Rattle.app_core.specs.Given.{Given}
use Rattle.app_core.specs.Inputs.{AreRightInputs}
use Rattle.words_tests.specs.declared.visits.Visit.{Visit}

abbrev pub kinds : List CommandKind
kinds = Work ∷ Fence ∷ []

abbrev pub label_of : Visit → Label
label_of u = record { command = 1; part = 0; place = u.to }

abbrev pub home_of : Visit → ℕ → ℕ
home_of u ranks = rank_within ranks (Some u.to)

abbrev pub result_of : ℕ → Option Label
result_of command = if command == 1 then Some (record { command = 1; part = 1; place = 0 }) else None

abbrev pub starting_of : ℕ → List (Effect Visit ℕ ℕ)
starting_of command = if command == 1 then Spawn (record { to = 1 }) ∷ Spawn (record { to = 2 }) ∷ [] else []

-- the outlines of effects, where there are so many ranks
abbrev pub told : ℕ → List (Effect Visit ℕ ℕ) → List Outline
told ranks es = outlines label_of (λ _. None) home_of (λ _ _. 0) ranks es

abbrev pub needs_of : Visit → List Label
needs_of u = []

abbrev pub reads_of : Visit → List CellName
reads_of u = []

abbrev pub IsUnit : Visit → Type 0
IsUnit u = ⊤

abbrev pub step_of : Visit → Given ℕ ℕ → List (Effect Visit ℕ ℕ)
step_of u given = []

-- each command is 1 or 2
by_command : (P : ℕ → Type 0) → P 1 → P 2 → (command : ℕ) → IsCommand kinds command → P command
by_command P one two zero is = absurd (omega (arith, is.0))
by_command P one two (suc zero) is = one
by_command P one two (suc (suc zero)) is = two
by_command P one two (suc (suc (suc more))) is = absurd (omega (arith, is.1))

pub results : (command : ℕ) → IsCommand kinds command → IsSome (result_of command) ↔ IsWork kinds command
results = by_command (λ command. IsSome (result_of command) ↔ IsWork kinds command) ((λ _. refl), (λ _. refl)) ((λ e. cc), (λ e. cc))

pub few_starts : (command : ℕ) → IsCommand kinds command → length (starting_of command) ≤ 2 ^ 16
few_starts = by_command (λ command. length (starting_of command) ≤ 2 ^ 16) (omega arith) (omega arith)

pub starts_are_spawns : (command : ℕ) → IsWork kinds command → AllByRecursion (IsSpawn {U = Visit} {V = ℕ} {C = ℕ}) (starting_of command)
starts_are_spawns zero is = tt
starts_are_spawns (suc zero) is = (tt, (tt, tt))
starts_are_spawns (suc (suc zero)) is = tt
starts_are_spawns (suc (suc (suc more))) is = absurd (cc)

pub starts_are_right : (command : ℕ) → IsCommand kinds command → AllByRecursion (IsRightEffect {U = Visit} {V = ℕ} {C = ℕ} (λ _ _. ⊤) (λ _ _. ⊤) (λ _. ⊤)) (starting_of command)
starts_are_right = by_command (λ command. AllByRecursion (IsRightEffect {U = Visit} {V = ℕ} {C = ℕ} (λ _ _. ⊤) (λ _ _. ⊤) (λ _. ⊤)) (starting_of command)) (tt, (tt, tt)) tt

pub starts_have_their_needs : (command : ℕ) → IsCommand kinds command → AllByRecursion (IsSpawnedWithNeeds {U = Visit} {V = ℕ} {C = ℕ} (λ _. [])) (starting_of command)
starts_have_their_needs = by_command (λ command. AllByRecursion (IsSpawnedWithNeeds {U = Visit} {V = ℕ} {C = ℕ} (λ _. [])) (starting_of command)) (refl, (refl, tt)) tt

pub starts_with_needs_run_at_zero : (ranks command : ℕ) → IsCommand kinds command → AllByRecursion (NeedingRunsAt 0) (told ranks (starting_of command))
starts_with_needs_run_at_zero ranks = by_command (λ command. AllByRecursion (NeedingRunsAt 0) (told ranks (starting_of command))) ((λ some. absurd (some refl)), ((λ some. absurd (some refl)), tt)) tt

-- the starts name no future
pub starts_name_none : (ranks command : ℕ) (future : Label) → IsCommand kinds command → Names (told ranks (starting_of command)) future → ⊥
starts_name_none ranks command future is = by_command (λ command. Names (told ranks (starting_of command)) future → ⊥) one two command is
  where
    one : Names (told ranks (starting_of 1)) future → ⊥
    one (k, lt, e) = omega (arith, lt)

    two : Names (told ranks (starting_of 2)) future → ⊥
    two (k, lt, e) = omega (arith, lt)

pub few_commands : length kinds < 2 ^ 32 - 1
few_commands = omega arith

pub rank_below : (ranks rank : ℕ) → IsRankCount ranks → rank_within ranks (Some rank) < ranks
rank_below ranks rank is = below (nat_lt rank ranks) refl
  where
    below : (b : Bool) → nat_lt rank ranks ≡ b → (if b then rank else 0) < ranks
    below true e = search (rules, e)
    below false e = omega (arith, is.0)

pub label_tells_home : (unit other : Visit) (ranks : ℕ) → label_of unit ≡ label_of other → home_of unit ranks ≡ home_of other ranks
label_tells_home unit other ranks e = ap (λ (l : Label). rank_within ranks (Some l.place)) e

pub none_contained : {T : Type 0} (x : T) → Contains [] x → ⊥
none_contained x (k, lt, e) = omega (arith, lt)

pub zero_below : (ranks : ℕ) → IsRankCount ranks → 0 < ranks
zero_below ranks is = omega (arith, is.0)

pub three_ranks : IsRankCount 3
three_ranks = (omega arith, omega arith)

pub few_reads : 0 ≤ 16
few_reads = omega arith

pub few_effects : 0 ≤ 2 ^ 16
few_effects = omega arith

pub starts_never_need_the_result : (ranks command : ℕ) → IsCommand kinds command → IfSome (result_of command) (λ future. IsNeededNever future (told ranks (starting_of command)))
starts_never_need_the_result ranks = by_command (λ command. IfSome (result_of command) (λ future. IsNeededNever future (told ranks (starting_of command)))) refl tt

-- a unit with this label has no effects
abbrev pub MayDo : Label → List Outline → Type 0
MayDo label os = (u : Visit) × (label_of u ≡ label) × (os ≡ [])

pub allowed_is_a_step : (label : Label) (os : List Outline) → MayDo label os
    → (u : Visit) × (given : Given ℕ ℕ) × ⊤ × (label_of u ≡ label) × AreRightInputs (λ _ _. ⊤) (λ _ _. ⊤) (λ _ _ _. ⊤) [] [] None (home_of u 3) given × (os ≡ told 3 [])
allowed_is_a_step label os may = (may.0, record { values = []; cells = []; size = 0 }, tt, may.1, record { values = tt; cells = tt; size = refl }, may.2)

-- what rank 0's main does
abbrev pub program : List Doing
program = Start (of.Spawn (label_of (record { to = 1 })) None [] 1) ∷ Start (of.Spawn (label_of (record { to = 2 })) None [] 2) ∷ Wait ∷ Wait ∷ []
