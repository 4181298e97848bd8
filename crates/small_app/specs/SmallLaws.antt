-- The small application keeps the laws of an application.
use Rattle.std.proofs.Common.{◌≡◌, ◌≢◌, ℕ, zero, suc, ◌+◌, ◌*◌, ◌-◌, ◌%◌, ◌^◌, ◌≤◌, ◌<◌, Bool, true, false, List, [], ◌∷◌, length, refl, sym, ap, subst, ◌∙◌, arith, rules}
use Rattle.std.proofs.lemmas.Bool.Decides.{nat_tests}
use Rattle.std.specs.Prelude.{Option, Some, None, IsSome, IfSome, ◌↔◌, slice_index, Contains, if◌then◌else◌, ◌==◌, nat_lt}
use Rattle.std.specs.List.{AllByRecursion}
use Rattle.app_core.specs.declared.Label.{Label}
use Rattle.app_core.specs.declared.CellName.{CellName}
use Rattle.app_core.specs.Given.{Given}
use Rattle.app_core.specs.Commands.{IsCommand, IsWork, IsRankCount}
use Rattle.app_core.specs.Homes.{rank_within}
use Rattle.app_core.specs.Inputs.{AreRight, AreRightInputs}
use Rattle.app_core.specs.Effects.{IsRightEffect, IsSpawnedWithNeeds, IsSpawn}
use Rattle.app_core.specs.Outlines.{IsDueOnce, IsNeededOnce, IsNeededNever, IsSeenToOnce, GivesOnly, NeedingRunsAt, Names, Touches}
use Rattle.small_app.specs.declared.unit.Unit.{Unit}
use Rattle.small_app.specs.declared.unit.Unit.TheVariants.{Fill, Leaf, Sum, Clear, Read, Count, Total, Guessed}
use Rattle.small_app.specs.declared.guess.GuessUnit.TheVariants.{Guess, Early, Late}
use Rattle.small_app.specs.Guess.{guess_result}
use Rattle.small_app.specs.GuessLaws as guess
use Rattle.small_app.specs.Small.{kinds, first_result, leaf_future, last_result, read_future, count_future, result_of, leaf_entry, label_of, due_of, needs_of, reads_of, counts_of, IsUnit, home_rule_of, home_of, kept_at, entry_home_of, starting_of, step_of, IsRightValue, IsRightCell, IsRightSize, told, MayRead, MayCount}

-- commands

-- of the commands, 1, 3 and 5 are work, and 2 and 4 are fences
by_command : (P : ℕ → Type 0) → P 1 → P 2 → P 3 → P 4 → P 5 → (command : ℕ) → IsCommand kinds command → P command
by_command P one two three four five zero is = absurd (omega (arith, is.0))
by_command P one two three four five (suc zero) is = one
by_command P one two three four five (suc (suc zero)) is = two
by_command P one two three four five (suc (suc (suc zero))) is = three
by_command P one two three four five (suc (suc (suc (suc zero)))) is = four
by_command P one two three four five (suc (suc (suc (suc (suc zero))))) is = five
by_command P one two three four five (suc (suc (suc (suc (suc (suc more)))))) is = absurd (omega (arith, is.1))

pub results : (command : ℕ) → IsCommand kinds command → IsSome (result_of command) ↔ IsWork kinds command
results = by_command (λ command. IsSome (result_of command) ↔ IsWork kinds command) ((λ _. refl), (λ _. refl)) ((λ e. cc), (λ e. cc)) ((λ _. refl), (λ _. refl)) ((λ e. cc), (λ e. cc)) ((λ _. refl), (λ _. refl))

pub few_starts : (command : ℕ) → IsCommand kinds command → length (starting_of command) ≤ 2 ^ 16
few_starts = by_command (λ command. length (starting_of command) ≤ 2 ^ 16) (omega arith) (omega arith) (omega arith) (omega arith) (omega arith)

pub starts_are_spawns : (command : ℕ) → IsWork kinds command → AllByRecursion (IsSpawn {U = Unit} {V = ℕ} {C = ℕ}) (starting_of command)
starts_are_spawns zero is = tt
starts_are_spawns (suc zero) is = (tt, tt)
starts_are_spawns (suc (suc zero)) is = tt
starts_are_spawns (suc (suc (suc zero))) is = (tt, (tt, (tt, tt)))
starts_are_spawns (suc (suc (suc (suc zero)))) is = tt
starts_are_spawns (suc (suc (suc (suc (suc zero))))) is = (tt, (tt, tt))
starts_are_spawns (suc (suc (suc (suc (suc (suc more)))))) is = absurd (cc)

pub starts_are_right : (command : ℕ) → IsCommand kinds command → AllByRecursion (IsRightEffect {U = Unit} {V = ℕ} {C = ℕ} IsRightValue IsRightCell IsUnit) (starting_of command)
starts_are_right = by_command (λ command. AllByRecursion (IsRightEffect {U = Unit} {V = ℕ} {C = ℕ} IsRightValue IsRightCell IsUnit) (starting_of command)) (tt, tt) tt (tt, (tt, (tt, tt))) tt (tt, (tt, tt))

-- the list isn't empty
filled : (l : Label) (ls : List Label) → l ∷ ls ≢ []
filled l ls e = cc

pub starts_have_their_needs : (command : ℕ) → IsCommand kinds command → AllByRecursion (IsSpawnedWithNeeds {U = Unit} {V = ℕ} {C = ℕ} needs_of) (starting_of command)
starts_have_their_needs = by_command (λ command. AllByRecursion (IsSpawnedWithNeeds {U = Unit} {V = ℕ} {C = ℕ} needs_of) (starting_of command)) (refl, tt) tt (refl, (refl, ((refl, filled _ _), tt))) tt (refl, ((refl, filled _ _), tt))

-- where rank 0 is named, it is taken
pub first_rank : (ranks : ℕ) → rank_within ranks (Some 0) ≡ 0
first_rank ranks = either (nat_lt 0 ranks) 0
  where
    either : (b : Bool) (n : ℕ) → (if b then n else n) ≡ n
    either true n = refl
    either false n = refl

pub starts_with_needs_run_at_zero : (ranks command : ℕ) → IsCommand kinds command → AllByRecursion (NeedingRunsAt 0) (told ranks (starting_of command))
starts_with_needs_run_at_zero ranks = by_command (λ command. AllByRecursion (NeedingRunsAt 0) (told ranks (starting_of command)))
    ((λ some. absurd (some refl)), tt) tt ((λ some. absurd (some refl)), ((λ some. absurd (some refl)), ((λ _. first_rank ranks), tt)))
    tt ((λ some. absurd (some refl)), ((λ _. first_rank ranks), tt))

pub starts_name_their_command : (ranks command : ℕ) (future : Label) → IsCommand kinds command → Names (told ranks (starting_of command)) future → future.command ≡ command
starts_name_their_command ranks command future is = by_command (λ command. Names (told ranks (starting_of command)) future → future.command ≡ command) one two three four five command is
  where
    one : Names (told ranks (starting_of 1)) future → future.command ≡ 1
    one (zero, lt, e) = ap (λ (l : Label). l.command) (sym e)
    one (suc k, lt, e) = absurd (omega (arith, lt))

    two : Names (told ranks (starting_of 2)) future → future.command ≡ 2
    two (k, lt, e) = absurd (omega (arith, lt))

    three : Names (told ranks (starting_of 3)) future → future.command ≡ 3
    three (zero, lt, e) = ap (λ (l : Label). l.command) (sym e)
    three (suc zero, lt, e) = ap (λ (l : Label). l.command) (sym e)
    three (suc (suc zero), lt, e) = ap (λ (l : Label). l.command) (sym e)
    three (suc (suc (suc zero)), lt, e) = ap (λ (l : Label). l.command) (sym e)
    three (suc (suc (suc (suc zero))), lt, e) = ap (λ (l : Label). l.command) (sym e)
    three (suc (suc (suc (suc (suc k)))), lt, e) = absurd (omega (arith, lt))

    four : Names (told ranks (starting_of 4)) future → future.command ≡ 4
    four (k, lt, e) = absurd (omega (arith, lt))

    five : Names (told ranks (starting_of 5)) future → future.command ≡ 5
    five (zero, lt, e) = ap (λ (l : Label). l.command) (sym e)
    five (suc zero, lt, e) = ap (λ (l : Label). l.command) (sym e)
    five (suc (suc zero), lt, e) = ap (λ (l : Label). l.command) (sym e)
    five (suc (suc (suc k)), lt, e) = absurd (omega (arith, lt))

pub starts_have_a_due_once : (ranks command : ℕ) (future : Label) → IsCommand kinds command → Names (told ranks (starting_of command)) future → IsDueOnce future (told ranks (starting_of command))
starts_have_a_due_once ranks command future is = by_command (λ command. Names (told ranks (starting_of command)) future → IsDueOnce future (told ranks (starting_of command))) one two three four five command is
  where
    one : Names (told ranks (starting_of 1)) future → IsDueOnce future (told ranks (starting_of 1))
    one (zero, lt, e) = subst (λ l. IsDueOnce l (told ranks (starting_of 1))) e refl
    one (suc k, lt, e) = absurd (omega (arith, lt))

    two : Names (told ranks (starting_of 2)) future → IsDueOnce future (told ranks (starting_of 2))
    two (k, lt, e) = absurd (omega (arith, lt))

    three : Names (told ranks (starting_of 3)) future → IsDueOnce future (told ranks (starting_of 3))
    three (zero, lt, e) = subst (λ l. IsDueOnce l (told ranks (starting_of 3))) e refl
    three (suc zero, lt, e) = subst (λ l. IsDueOnce l (told ranks (starting_of 3))) e refl
    three (suc (suc zero), lt, e) = subst (λ l. IsDueOnce l (told ranks (starting_of 3))) e refl
    three (suc (suc (suc zero)), lt, e) = subst (λ l. IsDueOnce l (told ranks (starting_of 3))) e refl
    three (suc (suc (suc (suc zero))), lt, e) = subst (λ l. IsDueOnce l (told ranks (starting_of 3))) e refl
    three (suc (suc (suc (suc (suc k)))), lt, e) = absurd (omega (arith, lt))

    four : Names (told ranks (starting_of 4)) future → IsDueOnce future (told ranks (starting_of 4))
    four (k, lt, e) = absurd (omega (arith, lt))

    five : Names (told ranks (starting_of 5)) future → IsDueOnce future (told ranks (starting_of 5))
    five (zero, lt, e) = subst (λ l. IsDueOnce l (told ranks (starting_of 5))) e refl
    five (suc zero, lt, e) = subst (λ l. IsDueOnce l (told ranks (starting_of 5))) e refl
    five (suc (suc zero), lt, e) = subst (λ l. IsDueOnce l (told ranks (starting_of 5))) e refl
    five (suc (suc (suc k)), lt, e) = absurd (omega (arith, lt))

pub starts_need_others_once : (ranks command : ℕ) (future : Label) → IsCommand kinds command → Names (told ranks (starting_of command)) future → result_of command ≢ Some future → IsNeededOnce future (told ranks (starting_of command))
starts_need_others_once ranks command future is = by_command (λ command. Names (told ranks (starting_of command)) future → result_of command ≢ Some future → IsNeededOnce future (told ranks (starting_of command))) one two three four five command is
  where
    one : Names (told ranks (starting_of 1)) future → Some first_result ≢ Some future → IsNeededOnce future (told ranks (starting_of 1))
    one (zero, lt, e) other = absurd (other (ap Some e))
    one (suc k, lt, e) other = absurd (omega (arith, lt))

    two : Names (told ranks (starting_of 2)) future → None ≢ Some future → IsNeededOnce future (told ranks (starting_of 2))
    two (k, lt, e) other = absurd (omega (arith, lt))

    three : Names (told ranks (starting_of 3)) future → Some last_result ≢ Some future → IsNeededOnce future (told ranks (starting_of 3))
    three (zero, lt, e) other = subst (λ l. IsNeededOnce l (told ranks (starting_of 3))) e refl
    three (suc zero, lt, e) other = subst (λ l. IsNeededOnce l (told ranks (starting_of 3))) e refl
    three (suc (suc zero), lt, e) other = absurd (other (ap Some e))
    three (suc (suc (suc zero)), lt, e) other = subst (λ l. IsNeededOnce l (told ranks (starting_of 3))) e refl
    three (suc (suc (suc (suc zero))), lt, e) other = subst (λ l. IsNeededOnce l (told ranks (starting_of 3))) e refl
    three (suc (suc (suc (suc (suc k)))), lt, e) other = absurd (omega (arith, lt))

    four : Names (told ranks (starting_of 4)) future → None ≢ Some future → IsNeededOnce future (told ranks (starting_of 4))
    four (k, lt, e) other = absurd (omega (arith, lt))

    five : Names (told ranks (starting_of 5)) future → Some guess_result ≢ Some future → IsNeededOnce future (told ranks (starting_of 5))
    five (zero, lt, e) other = subst (λ l. IsNeededOnce l (told ranks (starting_of 5))) e refl
    five (suc zero, lt, e) other = absurd (other (ap Some e))
    five (suc (suc zero), lt, e) other = subst (λ l. IsNeededOnce l (told ranks (starting_of 5))) e refl
    five (suc (suc (suc k)), lt, e) other = absurd (omega (arith, lt))

pub starts_never_need_the_result : (ranks command : ℕ) → IsCommand kinds command → IfSome (result_of command) (λ future. IsNeededNever future (told ranks (starting_of command)))
starts_never_need_the_result ranks = by_command (λ command. IfSome (result_of command) (λ future. IsNeededNever future (told ranks (starting_of command)))) refl tt refl tt refl

pub few_commands : length kinds < 2 ^ 32 - 1
few_commands = omega arith

-- ranks

pub rank_below : (ranks : ℕ) → IsRankCount ranks → (rule : Option ℕ) → rank_within ranks rule < ranks
rank_below ranks is None = omega (arith, is.0)
rank_below ranks is (Some rank) = below (nat_lt rank ranks) refl
  where
    below : (b : Bool) → nat_lt rank ranks ≡ b → (if b then rank else 0) < ranks
    below true e = search (rules, e)
    below false e = omega (arith, is.0)

-- units

-- the due and the rank of a unit, by its label

due_at : Label → Option Label
due_at l = if l.part == 0 then Some l else if l.command == 5 then Some guess_result else if l.part == 2 then None else if l.command == 1 then Some first_result else Some last_result

rule_at : Label → Option ℕ
rule_at l = if l.place == 1 then Some 0 else if l.place == 2 then Some 1 else if l.command == 1 then Some 2 else Some 1

due_by_label : (unit : Unit) → due_of unit ≡ due_at (label_of unit)
unfolding due_at
due_by_label Fill = refl
due_by_label (Leaf false value) = refl
due_by_label (Leaf true value) = refl
due_by_label Sum = refl
due_by_label Clear = refl
due_by_label Read = refl
due_by_label Count = refl
due_by_label Total = refl
due_by_label (Guessed Guess) = refl
due_by_label (Guessed Early) = refl
due_by_label (Guessed Late) = refl

rule_by_label : (unit : Unit) → home_rule_of unit ≡ rule_at (label_of unit)
unfolding rule_at
rule_by_label Fill = refl
rule_by_label (Leaf false value) = refl
rule_by_label (Leaf true value) = refl
rule_by_label Sum = refl
rule_by_label Clear = refl
rule_by_label Read = refl
rule_by_label Count = refl
rule_by_label Total = refl
rule_by_label (Guessed Guess) = refl
rule_by_label (Guessed Early) = refl
rule_by_label (Guessed Late) = refl

pub label_tells_due : (unit other : Unit) → label_of unit ≡ label_of other → due_of unit ≡ due_of other
label_tells_due unit other e = due_by_label unit ∙ ap due_at e ∙ sym (due_by_label other)

pub label_tells_home : (unit other : Unit) (ranks : ℕ) → label_of unit ≡ label_of other → home_of unit ranks ≡ home_of other ranks
label_tells_home unit other ranks e = ap (λ rule. rank_within ranks rule) (rule_by_label unit ∙ ap rule_at e ∙ sym (rule_by_label other))

pub needs_are_kept_at_home : (unit : Unit) (future : Label) (ranks : ℕ) → Contains (needs_of unit) future → kept_at future ranks ≡ home_of unit ranks
needs_are_kept_at_home Fill future ranks (k, lt, e) = absurd (omega (arith, lt))
needs_are_kept_at_home (Leaf right value) future ranks (k, lt, e) = absurd (omega (arith, lt))
needs_are_kept_at_home Sum future ranks (zero, lt, e) = subst (λ l. kept_at l ranks ≡ home_of Sum ranks) e refl
needs_are_kept_at_home Sum future ranks (suc zero, lt, e) = subst (λ l. kept_at l ranks ≡ home_of Sum ranks) e refl
needs_are_kept_at_home Sum future ranks (suc (suc k), lt, e) = absurd (omega (arith, lt))
needs_are_kept_at_home Clear future ranks (k, lt, e) = absurd (omega (arith, lt))
needs_are_kept_at_home Read future ranks (k, lt, e) = absurd (omega (arith, lt))
needs_are_kept_at_home Count future ranks (k, lt, e) = absurd (omega (arith, lt))
needs_are_kept_at_home Total future ranks (zero, lt, e) = subst (λ l. kept_at l ranks ≡ home_of Total ranks) e refl
needs_are_kept_at_home Total future ranks (suc zero, lt, e) = subst (λ l. kept_at l ranks ≡ home_of Total ranks) e refl
needs_are_kept_at_home Total future ranks (suc (suc k), lt, e) = absurd (omega (arith, lt))
needs_are_kept_at_home (Guessed Guess) future ranks (k, lt, e) = absurd (omega (arith, lt))
needs_are_kept_at_home (Guessed Early) future ranks (zero, lt, e) = subst (λ l. kept_at l ranks ≡ home_of (Guessed Early) ranks) e refl
needs_are_kept_at_home (Guessed Early) future ranks (suc k, lt, e) = absurd (omega (arith, lt))
needs_are_kept_at_home (Guessed Late) future ranks (k, lt, e) = absurd (omega (arith, lt))

pub few_reads : (unit : Unit) → length (reads_of unit) ≤ 16
few_reads Fill = omega arith
few_reads (Leaf right value) = omega arith
few_reads Sum = omega arith
few_reads Clear = omega arith
few_reads Read = omega arith
few_reads Count = omega arith
few_reads Total = omega arith
few_reads (Guessed unit) = omega arith

-- steps

pub few_effects : (unit : Unit) (given : Given ℕ ℕ) → length (step_of unit given) ≤ 2 ^ 16
few_effects Fill given = omega arith
few_effects (Leaf right value) given = omega arith
few_effects Sum given = omega arith
few_effects Clear given = omega arith
few_effects Read given = omega arith
few_effects Count given = omega arith
few_effects Total given = omega arith
few_effects (Guessed unit) given = guess.few_effects unit given

pub spawns_have_their_needs : (unit : Unit) (given : Given ℕ ℕ) → AllByRecursion (IsSpawnedWithNeeds {U = Unit} {V = ℕ} {C = ℕ} needs_of) (step_of unit given)
spawns_have_their_needs Fill given = (refl, (refl, ((refl, filled _ _), tt)))
spawns_have_their_needs (Leaf right value) given = search rules
spawns_have_their_needs Sum given = (refl, (tt, tt))
spawns_have_their_needs Clear given = (tt, tt)
spawns_have_their_needs Read given = (tt, tt)
spawns_have_their_needs Count given = (tt, tt)
spawns_have_their_needs Total given = (tt, tt)
spawns_have_their_needs (Guessed unit) given = guess.spawns_have_their_needs unit given

pub spawns_with_needs_stay : (ranks : ℕ) (unit : Unit) (given : Given ℕ ℕ) → AllByRecursion (NeedingRunsAt (home_of unit ranks)) (told ranks (step_of unit given))
spawns_with_needs_stay ranks Fill given = ((λ some. absurd (some refl)), ((λ some. absurd (some refl)), ((λ _. refl), tt)))
spawns_with_needs_stay ranks (Leaf right value) given = search rules
spawns_with_needs_stay ranks Sum given = ((λ some. absurd (some refl)), (tt, tt))
spawns_with_needs_stay ranks Clear given = (tt, tt)
spawns_with_needs_stay ranks Read given = (tt, tt)
spawns_with_needs_stay ranks Count given = (tt, tt)
spawns_with_needs_stay ranks Total given = (tt, tt)
spawns_with_needs_stay ranks (Guessed unit) given = guess.spawns_with_needs_stay ranks unit given

pub due_is_seen_to_once : (ranks : ℕ) (unit : Unit) (given : Given ℕ ℕ) → IfSome (due_of unit) (λ due. IsSeenToOnce due (told ranks (step_of unit given)))
due_is_seen_to_once ranks Fill given = refl
due_is_seen_to_once ranks (Leaf false value) given = refl
due_is_seen_to_once ranks (Leaf true value) given = refl
due_is_seen_to_once ranks Sum given = refl
due_is_seen_to_once ranks Clear given = tt
due_is_seen_to_once ranks Read given = refl
due_is_seen_to_once ranks Count given = refl
due_is_seen_to_once ranks Total given = refl
due_is_seen_to_once ranks (Guessed unit) given = guess.due_is_seen_to_once ranks unit given

pub due_is_needed_never : (ranks : ℕ) (unit : Unit) (given : Given ℕ ℕ) → IfSome (due_of unit) (λ due. IsNeededNever due (told ranks (step_of unit given)))
due_is_needed_never ranks Fill given = refl
due_is_needed_never ranks (Leaf right value) given = refl
due_is_needed_never ranks Sum given = refl
due_is_needed_never ranks Clear given = tt
due_is_needed_never ranks Read given = refl
due_is_needed_never ranks Count given = refl
due_is_needed_never ranks Total given = refl
due_is_needed_never ranks (Guessed unit) given = guess.due_is_needed_never ranks unit given

pub only_the_due_is_given : (ranks : ℕ) (unit : Unit) (given : Given ℕ ℕ) → AllByRecursion (GivesOnly (due_of unit)) (told ranks (step_of unit given))
only_the_due_is_given ranks Fill given = (tt, (tt, (tt, tt)))
only_the_due_is_given ranks (Leaf right value) given = (tt, (refl, tt))
only_the_due_is_given ranks Sum given = (tt, (refl, tt))
only_the_due_is_given ranks Clear given = (tt, tt)
only_the_due_is_given ranks Read given = (refl, tt)
only_the_due_is_given ranks Count given = (refl, tt)
only_the_due_is_given ranks Total given = (refl, tt)
only_the_due_is_given ranks (Guessed unit) given = guess.only_the_due_is_given ranks unit given

pub spawns_have_a_due_once : (ranks : ℕ) (unit : Unit) (given : Given ℕ ℕ) (future : Label) → Names (told ranks (step_of unit given)) future → due_of unit ≢ Some future → IsDueOnce future (told ranks (step_of unit given))
spawns_have_a_due_once ranks Fill given future (zero, lt, e) other = subst (λ l. IsDueOnce l (told ranks (step_of Fill given))) e refl
spawns_have_a_due_once ranks Fill given future (suc zero, lt, e) other = subst (λ l. IsDueOnce l (told ranks (step_of Fill given))) e refl
spawns_have_a_due_once ranks Fill given future (suc (suc zero), lt, e) other = absurd (other (ap Some e))
spawns_have_a_due_once ranks Fill given future (suc (suc (suc zero)), lt, e) other = subst (λ l. IsDueOnce l (told ranks (step_of Fill given))) e refl
spawns_have_a_due_once ranks Fill given future (suc (suc (suc (suc zero))), lt, e) other = subst (λ l. IsDueOnce l (told ranks (step_of Fill given))) e refl
spawns_have_a_due_once ranks Fill given future (suc (suc (suc (suc (suc k)))), lt, e) other = absurd (omega (arith, lt))
spawns_have_a_due_once ranks (Leaf right value) given future (k, lt, e) other = absurd (omega (arith, lt))
spawns_have_a_due_once ranks Sum given future (k, lt, e) other = absurd (omega (arith, lt))
spawns_have_a_due_once ranks Clear given future (k, lt, e) other = absurd (omega (arith, lt))
spawns_have_a_due_once ranks Read given future (k, lt, e) other = absurd (omega (arith, lt))
spawns_have_a_due_once ranks Count given future (k, lt, e) other = absurd (omega (arith, lt))
spawns_have_a_due_once ranks Total given future (k, lt, e) other = absurd (omega (arith, lt))
spawns_have_a_due_once ranks (Guessed unit) given future names other = absurd (other (guess.names_the_due ranks unit given future names))

pub spawns_need_others_once : (ranks : ℕ) (unit : Unit) (given : Given ℕ ℕ) (future : Label) → Names (told ranks (step_of unit given)) future → due_of unit ≢ Some future → IsNeededOnce future (told ranks (step_of unit given))
spawns_need_others_once ranks Fill given future (zero, lt, e) other = subst (λ l. IsNeededOnce l (told ranks (step_of Fill given))) e refl
spawns_need_others_once ranks Fill given future (suc zero, lt, e) other = subst (λ l. IsNeededOnce l (told ranks (step_of Fill given))) e refl
spawns_need_others_once ranks Fill given future (suc (suc zero), lt, e) other = absurd (other (ap Some e))
spawns_need_others_once ranks Fill given future (suc (suc (suc zero)), lt, e) other = subst (λ l. IsNeededOnce l (told ranks (step_of Fill given))) e refl
spawns_need_others_once ranks Fill given future (suc (suc (suc (suc zero))), lt, e) other = subst (λ l. IsNeededOnce l (told ranks (step_of Fill given))) e refl
spawns_need_others_once ranks Fill given future (suc (suc (suc (suc (suc k)))), lt, e) other = absurd (omega (arith, lt))
spawns_need_others_once ranks (Leaf right value) given future (k, lt, e) other = absurd (omega (arith, lt))
spawns_need_others_once ranks Sum given future (k, lt, e) other = absurd (omega (arith, lt))
spawns_need_others_once ranks Clear given future (k, lt, e) other = absurd (omega (arith, lt))
spawns_need_others_once ranks Read given future (k, lt, e) other = absurd (omega (arith, lt))
spawns_need_others_once ranks Count given future (k, lt, e) other = absurd (omega (arith, lt))
spawns_need_others_once ranks Total given future (k, lt, e) other = absurd (omega (arith, lt))
spawns_need_others_once ranks (Guessed unit) given future names other = absurd (other (guess.names_the_due ranks unit given future names))

-- entries

pub writes_are_at_home : (ranks : ℕ) (unit : Unit) (given : Given ℕ ℕ) (entry : CellName) → Touches (told ranks (step_of unit given)) entry → entry_home_of ranks entry ≡ home_of unit ranks
writes_are_at_home ranks Fill given entry (k, lt, e) = absurd (omega (arith, lt))
writes_are_at_home ranks (Leaf false value) given entry (zero, lt, e) = subst (λ n. entry_home_of ranks n ≡ home_of (Leaf false value) ranks) e refl
writes_are_at_home ranks (Leaf true value) given entry (zero, lt, e) = subst (λ n. entry_home_of ranks n ≡ home_of (Leaf true value) ranks) e refl
writes_are_at_home ranks (Leaf right value) given entry (suc k, lt, e) = absurd (omega (arith, lt))
writes_are_at_home ranks Sum given entry (k, lt, e) = absurd (omega (arith, lt))
writes_are_at_home ranks Clear given entry (zero, lt, e) = subst (λ n. entry_home_of ranks n ≡ home_of Clear ranks) e refl
writes_are_at_home ranks Clear given entry (suc k, lt, e) = absurd (omega (arith, lt))
writes_are_at_home ranks Read given entry (k, lt, e) = absurd (omega (arith, lt))
writes_are_at_home ranks Count given entry (k, lt, e) = absurd (omega (arith, lt))
writes_are_at_home ranks Total given entry (k, lt, e) = absurd (omega (arith, lt))
writes_are_at_home ranks (Guessed unit) given entry touches = let t = guess.touches_its_entry ranks unit given entry touches in ap (entry_home_of ranks) t.0 ∙ sym t.1

pub entry_has_one_home : (ranks : ℕ) (unit other : Unit) (given more : Given ℕ ℕ) (entry : CellName) → Touches (told ranks (step_of unit given)) entry → Touches (told ranks (step_of other more)) entry → home_of unit ranks ≡ home_of other ranks
entry_has_one_home ranks unit other given more entry touches again = sym (writes_are_at_home ranks unit given entry touches) ∙ writes_are_at_home ranks other more entry again

pub reads_are_at_home : (ranks : ℕ) (unit : Unit) (entry : CellName) → Contains (reads_of unit) entry → entry_home_of ranks entry ≡ home_of unit ranks
reads_are_at_home ranks Fill entry (k, lt, e) = absurd (omega (arith, lt))
reads_are_at_home ranks (Leaf right value) entry (k, lt, e) = absurd (omega (arith, lt))
reads_are_at_home ranks Sum entry (k, lt, e) = absurd (omega (arith, lt))
reads_are_at_home ranks Clear entry (k, lt, e) = absurd (omega (arith, lt))
reads_are_at_home ranks Read entry (zero, lt, e) = subst (λ n. entry_home_of ranks n ≡ home_of Read ranks) e refl
reads_are_at_home ranks Read entry (suc k, lt, e) = absurd (omega (arith, lt))
reads_are_at_home ranks Count entry (k, lt, e) = absurd (omega (arith, lt))
reads_are_at_home ranks Total entry (k, lt, e) = absurd (omega (arith, lt))
reads_are_at_home ranks (Guessed unit) entry (k, lt, e) = absurd (omega (arith, lt))

-- what is right

-- a number is found from the option that has it
some_is : (a b : ℕ) → Some a ≡ Some b → b ≡ a
some_is a b e = cc

sum_is_right : (values : List ℕ) → AreRight IsRightValue (leaf_future false ∷ leaf_future true ∷ []) values → (slice_index values 0 + slice_index values 1) % 2 ^ 64 ≡ 12
sum_is_right [] right = absurd right
sum_is_right (v ∷ []) right = absurd right.1
sum_is_right (v ∷ w ∷ []) right = rw (some_is 5 v right.0, some_is 7 w right.1.0) refl
sum_is_right (v ∷ w ∷ x ∷ more) right = absurd right.1.1

total_is_right : (values : List ℕ) → AreRight IsRightValue (read_future ∷ count_future ∷ []) values → (slice_index values 0 * 10 % 2 ^ 64 + slice_index values 1) % 2 ^ 64 ≡ 51
total_is_right [] right = absurd right
total_is_right (v ∷ []) right = absurd right.1
total_is_right (v ∷ w ∷ []) right = rw (some_is 5 v right.0, some_is 1 w right.1.0) refl
total_is_right (v ∷ w ∷ x ∷ more) right = absurd right.1.1

read_is_right : (cells : List ℕ) → AreRight IsRightCell (leaf_entry false ∷ []) cells → slice_index cells 0 ≡ 5
read_is_right [] right = absurd right
read_is_right (c ∷ []) right = some_is 5 c right.0
read_is_right (c ∷ d ∷ more) right = absurd right.1

count_is_right : (rank size : ℕ) → size ≡ (if rank == rank then 1 else 0) → size ≡ 1
count_is_right rank size e = grind (arith, nat_tests)

pub step_is_right : (ranks : ℕ) (unit : Unit) (given : Given ℕ ℕ) → IsUnit unit
    → AreRightInputs IsRightValue IsRightCell (IsRightSize ranks) (needs_of unit) (reads_of unit) (counts_of unit) (home_of unit ranks) given
    → AllByRecursion (IsRightEffect {U = Unit} {V = ℕ} {C = ℕ} IsRightValue IsRightCell IsUnit) (step_of unit given)
step_is_right ranks Fill given is right = (refl, (refl, (tt, tt)))
step_is_right ranks (Leaf false value) given is right = (ap Some (sym is), (ap Some (sym is), tt))
step_is_right ranks (Leaf true value) given is right = (ap Some (sym is), (ap Some (sym is), tt))
step_is_right ranks Sum given is right = (tt, (ap Some (sym (sum_is_right given.values right.values)), tt))
step_is_right ranks Clear given is right = (tt, tt)
step_is_right ranks Read given is right = (ap Some (sym (read_is_right given.cells right.cells)), tt)
step_is_right ranks Count given is right = (ap Some (sym (count_is_right (home_of Count ranks) given.size right.size)), tt)
step_is_right ranks Total given is right = (ap Some (sym (total_is_right given.values right.values)), tt)
step_is_right ranks (Guessed unit) given is right = guess.step_is_right unit given

-- what the facts tell

pub reads_are_told : (unit : Unit) (entry : CellName) → IsUnit unit → Contains (reads_of unit) entry → MayRead (label_of unit) entry
reads_are_told unit entry is reads = (unit, is, refl, reads)

pub counts_are_told : (unit : Unit) → IsUnit unit → IfSome (counts_of unit) (λ version. MayCount (label_of unit) version)
counts_are_told Fill is = tt
counts_are_told (Leaf right value) is = tt
counts_are_told Sum is = tt
counts_are_told Clear is = tt
counts_are_told Read is = tt
counts_are_told Count is = (Count, is, refl, refl)
counts_are_told Total is = tt
counts_are_told (Guessed unit) is = tt
