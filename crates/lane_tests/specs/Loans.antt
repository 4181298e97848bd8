-- An application of one rank, whose starts are two units: one gives a future, which the other needs.
use Rattle.std.proofs.Common.{◌≡◌, ◌≢◌, ℕ, zero, suc, ◌-◌, ◌^◌, ◌≤◌, ◌<◌, List, [], ◌∷◌, length, refl, ap, subst, arith}
use Rattle.std.specs.Prelude.{Option, Some, None, ⊤, IsSome, IfSome, ◌↔◌, Contains, if◌then◌else◌, ◌==◌}
use Rattle.std.specs.List.{AllByRecursion}
use Rattle.app_core.specs.declared.Label.{Label}
use Rattle.app_core.specs.declared.CommandKind.{CommandKind}
use Rattle.app_core.specs.declared.CommandKind.TheVariants.{Work}
use Rattle.app_core.specs.declared.Effect.{Effect}
use Rattle.app_core.specs.declared.Effect.TheVariants.{Spawn, SpawnNeeding, Give}
use Rattle.app_core.specs.declared.Outline.{Outline}
use Rattle.app_core.specs.declared.outline.Outline.TheVariants as of
use Rattle.app_core.specs.Commands.{IsCommand, IsWork, IsRankCount}
use Rattle.app_core.specs.Effects.{IsRightEffect, IsSpawnedWithNeeds, IsSpawn}
use Rattle.app_core.specs.Outlines.{outlines, IsDueOnce, IsNeededOnce, IsNeededNever, IsSeenToOnce, GivesOnly, NeedingRunsAt, Names}
use Rattle.app_core.specs.Given.{Given}
use Rattle.app_core.specs.Inputs.{AreRightInputs}
use Rattle.event_laws.specs.Follows.{Doing, Start, Wait}
use Rattle.lane_tests.specs.declared.loans.Loan.{Loan}
use Rattle.lane_tests.specs.declared.loans.Loan.TheVariants.{Lender, Borrower}

abbrev pub kinds : List CommandKind
kinds = Work ∷ []

-- what the lender gives, and the borrower needs
abbrev pub sum_lent : Label
sum_lent = record { command = 1; part = 0; place = 1 }

abbrev pub label_of : Loan → Label
label_of Lender = record { command = 1; part = 1; place = 0 }
label_of Borrower = record { command = 1; part = 2; place = 0 }

abbrev pub due_of : Loan → Option Label
due_of Lender = Some sum_lent
due_of Borrower = None

abbrev pub needs_of : Loan → List Label
needs_of Lender = []
needs_of Borrower = sum_lent ∷ []

abbrev pub result_of : ℕ → Option Label
result_of command = if command == 1 then Some (record { command = 1; part = 0; place = 0 }) else None

abbrev pub starting_of : ℕ → List (Effect Loan ℕ ℕ)
starting_of command = if command == 1 then Spawn Lender ∷ SpawnNeeding Borrower (sum_lent ∷ []) ∷ [] else []

abbrev pub step_of : Loan → List (Effect Loan ℕ ℕ)
step_of Lender = Give sum_lent 7 ∷ []
step_of Borrower = []

-- the outlines of effects: all is at rank 0
abbrev pub told : ℕ → List (Effect Loan ℕ ℕ) → List Outline
told ranks es = outlines label_of due_of (λ _ _. 0) (λ _ _. 0) ranks es

-- a unit with this label has these effects
abbrev pub MayDo : Label → List Outline → Type 0
MayDo label os = (u : Loan) × (label_of u ≡ label) × (os ≡ told 1 (step_of u))

-- what rank 0's main does
abbrev pub program : List Doing
program = Start (of.Spawn (label_of Lender) (Some sum_lent) [] 0) ∷ Start (of.Spawn (label_of Borrower) None (sum_lent ∷ []) 0) ∷ Wait ∷ []

-- the only command is 1
by_command : (P : ℕ → Type 0) → P 1 → (command : ℕ) → IsCommand kinds command → P command
by_command P one zero is = absurd (omega (arith, is.0))
by_command P one (suc zero) is = one
by_command P one (suc (suc more)) is = absurd (omega (arith, is.1))

pub results : (command : ℕ) → IsCommand kinds command → IsSome (result_of command) ↔ IsWork kinds command
results = by_command (λ command. IsSome (result_of command) ↔ IsWork kinds command) ((λ _. refl), (λ _. refl))

pub few_commands : length kinds < 2 ^ 32 - 1
few_commands = omega arith

pub few_starts : (command : ℕ) → IsCommand kinds command → length (starting_of command) ≤ 2 ^ 16
few_starts = by_command (λ command. length (starting_of command) ≤ 2 ^ 16) (omega arith)

pub starts_are_spawns : (command : ℕ) → IsWork kinds command → AllByRecursion (IsSpawn {U = Loan} {V = ℕ} {C = ℕ}) (starting_of command)
starts_are_spawns zero is = tt
starts_are_spawns (suc zero) is = (tt, (tt, tt))
starts_are_spawns (suc (suc more)) is = absurd (cc)

pub starts_are_right : (command : ℕ) → IsCommand kinds command → AllByRecursion (IsRightEffect {U = Loan} {V = ℕ} {C = ℕ} (λ _ _. ⊤) (λ _ _. ⊤) (λ _. ⊤)) (starting_of command)
starts_are_right = by_command (λ command. AllByRecursion (IsRightEffect {U = Loan} {V = ℕ} {C = ℕ} (λ _ _. ⊤) (λ _ _. ⊤) (λ _. ⊤)) (starting_of command)) (tt, (tt, tt))

-- the list isn't empty
filled : (l : Label) (ls : List Label) → l ∷ ls ≢ []
filled l ls e = cc

pub starts_have_their_needs : (command : ℕ) → IsCommand kinds command → AllByRecursion (IsSpawnedWithNeeds {U = Loan} {V = ℕ} {C = ℕ} needs_of) (starting_of command)
starts_have_their_needs = by_command (λ command. AllByRecursion (IsSpawnedWithNeeds {U = Loan} {V = ℕ} {C = ℕ} needs_of) (starting_of command)) (refl, ((refl, filled _ _), tt))

pub starts_with_needs_run_at_zero : (ranks command : ℕ) → IsCommand kinds command → AllByRecursion (NeedingRunsAt 0) (told ranks (starting_of command))
starts_with_needs_run_at_zero ranks = by_command (λ command. AllByRecursion (NeedingRunsAt 0) (told ranks (starting_of command))) ((λ some. absurd (some refl)), ((λ _. refl), tt))

-- the starts name one future, as the due of the lender and the need of the borrower
pub starts_name_one : (P : Label → Type 0) → P sum_lent → (ranks command : ℕ) (future : Label) → IsCommand kinds command → Names (told ranks (starting_of command)) future → P future
starts_name_one P p ranks command future is = by_command (λ command. Names (told ranks (starting_of command)) future → P future) one command is
  where
    one : Names (told ranks (starting_of 1)) future → P future
    one (zero, lt, e) = subst P e p
    one (suc zero, lt, e) = subst P e p
    one (suc (suc k), lt, e) = absurd (omega (arith, lt))

pub starts_name_their_command : (ranks command : ℕ) (future : Label) → IsCommand kinds command → Names (told ranks (starting_of command)) future → future.command ≡ command
starts_name_their_command ranks command future is = by_command (λ command. Names (told ranks (starting_of command)) future → future.command ≡ command) (starts_name_one (λ l. l.command ≡ 1) refl ranks 1 future first) command is
  where
    first : IsCommand kinds 1
    first = (omega arith, omega arith)

pub starts_have_a_due_once : (ranks command : ℕ) (future : Label) → IsCommand kinds command → Names (told ranks (starting_of command)) future → IsDueOnce future (told ranks (starting_of command))
starts_have_a_due_once ranks command future is = by_command (λ command. Names (told ranks (starting_of command)) future → IsDueOnce future (told ranks (starting_of command))) (starts_name_one (λ l. IsDueOnce l (told ranks (starting_of 1))) refl ranks 1 future (omega arith, omega arith)) command is

pub starts_need_others_once : (ranks command : ℕ) (future : Label) → IsCommand kinds command → Names (told ranks (starting_of command)) future → IsNeededOnce future (told ranks (starting_of command))
starts_need_others_once ranks command future is = by_command (λ command. Names (told ranks (starting_of command)) future → IsNeededOnce future (told ranks (starting_of command))) (starts_name_one (λ l. IsNeededOnce l (told ranks (starting_of 1))) refl ranks 1 future (omega arith, omega arith)) command is

pub starts_never_need_the_result : (ranks command : ℕ) → IsCommand kinds command → IfSome (result_of command) (λ future. IsNeededNever future (told ranks (starting_of command)))
starts_never_need_the_result ranks = by_command (λ command. IfSome (result_of command) (λ future. IsNeededNever future (told ranks (starting_of command)))) refl

pub label_tells_due : (unit other : Loan) → label_of unit ≡ label_of other → due_of unit ≡ due_of other
label_tells_due Lender Lender e = refl
label_tells_due Lender Borrower e = let z : 1 ≡ 2 = ap (λ (l : Label). l.part) e in absurd (omega (arith, z))
label_tells_due Borrower Lender e = let z : 2 ≡ 1 = ap (λ (l : Label). l.part) e in absurd (omega (arith, z))
label_tells_due Borrower Borrower e = refl

pub none_contained : {T : Type 0} (x : T) → Contains [] x → ⊥
none_contained x (k, lt, e) = omega (arith, lt)

pub zero_below : (ranks : ℕ) → IsRankCount ranks → 0 < ranks
zero_below ranks is = omega (arith, is.0)

pub one_rank : IsRankCount 1
one_rank = (omega arith, omega arith)

pub few_reads : 0 ≤ 16
few_reads = omega arith

pub few_effects : (unit : Loan) → length (step_of unit) ≤ 2 ^ 16
few_effects Lender = omega arith
few_effects Borrower = omega arith

pub spawns_have_their_needs : (unit : Loan) → AllByRecursion (IsSpawnedWithNeeds {U = Loan} {V = ℕ} {C = ℕ} needs_of) (step_of unit)
spawns_have_their_needs Lender = (tt, tt)
spawns_have_their_needs Borrower = tt

pub spawns_with_needs_stay : (ranks : ℕ) (unit : Loan) → AllByRecursion (NeedingRunsAt 0) (told ranks (step_of unit))
spawns_with_needs_stay ranks Lender = (tt, tt)
spawns_with_needs_stay ranks Borrower = tt

pub due_is_seen_to_once : (unit : Loan) → IfSome (due_of unit) (λ due. IsSeenToOnce due (told 1 (step_of unit)))
due_is_seen_to_once Lender = refl
due_is_seen_to_once Borrower = tt

pub due_is_needed_never : (unit : Loan) → IfSome (due_of unit) (λ due. IsNeededNever due (told 1 (step_of unit)))
due_is_needed_never Lender = refl
due_is_needed_never Borrower = tt

pub only_the_due_is_given : (unit : Loan) → AllByRecursion (GivesOnly (due_of unit)) (told 1 (step_of unit))
only_the_due_is_given Lender = (refl, tt)
only_the_due_is_given Borrower = tt

pub steps_name_none : (unit : Loan) (future : Label) → Names (told 1 (step_of unit)) future → ⊥
steps_name_none Lender future (k, lt, e) = omega (arith, lt)
steps_name_none Borrower future (k, lt, e) = omega (arith, lt)

pub step_is_right : (unit : Loan) → AllByRecursion (IsRightEffect {U = Loan} {V = ℕ} {C = ℕ} (λ _ _. ⊤) (λ _ _. ⊤) (λ _. ⊤)) (step_of unit)
step_is_right Lender = (tt, tt)
step_is_right Borrower = tt

-- inputs that are right for a unit
abbrev given_of : Loan → Given ℕ ℕ
given_of Lender = record { values = []; cells = []; size = 0 }
given_of Borrower = record { values = 7 ∷ []; cells = []; size = 0 }

pub allowed_is_a_step : (label : Label) (os : List Outline) → MayDo label os
    → (u : Loan) × (given : Given ℕ ℕ) × ⊤ × (label_of u ≡ label) × AreRightInputs (λ _ _. ⊤) (λ _ _. ⊤) (λ _ _ _. ⊤) (needs_of u) [] None 0 given × (os ≡ told 1 (step_of u))
allowed_is_a_step label os (u, e, is) = (u, given_of u, tt, e, right u, is)
  where
    right : (u : Loan) → AreRightInputs (λ _ _. ⊤) (λ _ _. ⊤) (λ _ _ _. ⊤) (needs_of u) [] None 0 (given_of u)
    right Lender = record { values = tt; cells = tt; size = refl }
    right Borrower = record { values = (tt, tt); cells = tt; size = refl }
