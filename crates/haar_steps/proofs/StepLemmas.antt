-- What holds of every step, by what the unit decided for.
use Rattle.std.proofs.Common.{◌≡◌, ◌≢◌, ℕ, ◌+◌, ◌<◌, ◌≤◌, Bool, true, false, cond, List, [], ◌∷◌, ◌++◌, length, Some, None, nat_lt, refl, ap, ⊎_elim, subst, sym, arith, length-append}
use Rattle.std.specs.List.{AllByRecursion}
use Rattle.std.proofs.lemmas.Bool.{cases_lt, lt-ltb, le-ltb, cond-true, cond-false}
use Rattle.app_core.specs.Effects.{IsSpawnedWithNeeds}
use Rattle.tree_key.specs.Keys.{Key}
use Rattle.haar_base.specs.declared.decisions.Visit.{Visit}
use Rattle.haar_base.specs.declared.decisions.Visit.TheVariants as visit
use Rattle.haar_base.specs.declared.decisions.Combination.{Combination}
use Rattle.haar_base.specs.declared.decisions.Combination.TheVariants as combination
use Rattle.haar_base.specs.declared.unit.Side.{Side}
use Rattle.haar_base.specs.declared.unit.Side.TheVariants.{Nothing, Entry, Below}
use Rattle.haar_base.specs.declared.unit.Unit.{Unit}
use Rattle.haar_base.specs.declared.unit.Unit.TheVariants.{Down, Up, Clear, Count, Total}
use Rattle.haar_steps.specs.Effects.{HaarEffect, visit_effects, combination_effects}
use Rattle.haar_steps.specs.Laws.{HomesAreRanks, LabelsTellDues, ReadsAreFew, StepsAreShort, SpawnsHaveTheirNeeds}
use Rattle.haar_steps.specs.Steps.{visit_of, combination_of}
use Rattle.haar_base.specs.Units.{label_of, needs_of, side_reads, home_rule_of, source_of}
use Rattle.haar_base.specs.Operations.{first_source, second_source, operation_at}
use Rattle.haar_units.specs.Units.{due as due_by_label}
use Rattle.app_core.specs.Homes.{rank_within}

by_if : {A : Type 0} (P : A → Type 0) (b : Bool) (x y : A) → P x → P y → P (cond b x y)
by_if P true x y one other = one
by_if P false x y one other = other

rank_below : (rank ranks : ℕ) → 1 ≤ ranks → rank_within ranks (Some rank) < ranks
rank_below rank ranks least = ⊎_elim
    (λ lt. subst (λ (n : ℕ). n < ranks) (sym (cond-true (nat_lt rank ranks) rank 0 (lt-ltb rank ranks lt))) lt)
    (λ le. subst (λ (n : ℕ). n < ranks) (sym (cond-false (nat_lt rank ranks) rank 0 (le-ltb rank ranks le))) (omega (arith, least)))
    (cases_lt rank ranks)

pub homes : HomesAreRanks
homes owners (Down u) ranks least = rank_below _ ranks least
homes owners (Up u) ranks least = rank_below _ ranks least
homes owners (Clear command key) ranks least = rank_below _ ranks least
homes owners (Count command rank) ranks least = rank_below rank ranks least
homes owners (Total command count) ranks least = rank_below 0 ranks least

pub due : LabelsTellDues
due u other same = ap due_by_label same

few_on : (side : Side) (version : ℕ) (key : Key) → length (side_reads side version key) ≤ 1
few_on Nothing version key = omega arith
few_on (Entry known) version key = omega arith
few_on (Below sum) version key = omega arith

few_visit : (command : ℕ) (key : Key) (v : Visit) → length (visit_effects command key v) ≤ 4
few_visit command key (visit.Give None v) = omega arith
few_visit command key (visit.Give (Some n) v) = omega arith
few_visit command key (visit.Split None left right held) = by_if (λ (es : List HaarEffect). length es ≤ 4) (nat_lt key.level 16) _ _ (omega arith) (omega arith)
few_visit command key (visit.Split (Some n) left right held) = by_if (λ (es : List HaarEffect). length es ≤ 4) (nat_lt key.level 16) _ _ (omega arith) (omega arith)

few_combination : (command : ℕ) (key : Key) (c : Combination) → length (combination_effects command key c) ≤ 4
few_combination command key (combination.Give None v) = omega arith
few_combination command key (combination.Give (Some n) v) = omega arith
few_combination command key (combination.Merge sum) = by_if (λ (es : List HaarEffect). length es ≤ 4) (nat_lt key.level 16) _ _ (omega arith) (omega arith)

pub short : StepsAreShort
short depth operations (Down u) given = few_visit u.command u.key (visit_of depth operations u given.cells)
short depth operations (Up u) given = few_combination u.command u.key (combination_of depth operations u given.values)
short depth operations (Clear command key) given = omega arith
short depth operations (Count command rank) given = omega arith
short depth operations (Total command ranks) given = omega arith

abbrev NeedsAreMet : List HaarEffect → Type 0
NeedsAreMet es = AllByRecursion (IsSpawnedWithNeeds needs_of) es

met_visit : (command : ℕ) (key : Key) (v : Visit) → NeedsAreMet (visit_effects command key v)
met_visit command key (visit.Give None v) = (tt, tt)
met_visit command key (visit.Give (Some n) v) = (tt, (tt, tt))
met_visit command key (visit.Split None left right held) = by_if NeedsAreMet (nat_lt key.level 16) _ _ (refl, (refl, ((refl, λ e. absurd (cc)), tt))) (tt, tt)
met_visit command key (visit.Split (Some n) left right held) = by_if NeedsAreMet (nat_lt key.level 16) _ _ (tt, (refl, (refl, ((refl, λ e. absurd (cc)), tt)))) (tt, tt)

met_combination : (command : ℕ) (key : Key) (c : Combination) → NeedsAreMet (combination_effects command key c)
met_combination command key (combination.Give None v) = (tt, tt)
met_combination command key (combination.Give (Some n) v) = (tt, (tt, tt))
met_combination command key (combination.Merge sum) = by_if NeedsAreMet (nat_lt key.level 16) _ _ (tt, (refl, (refl, (tt, tt)))) (tt, tt)

pub needs : SpawnsHaveTheirNeeds
needs depth operations (Down u) given = met_visit u.command u.key (visit_of depth operations u given.cells)
needs depth operations (Up u) given = met_combination u.command u.key (combination_of depth operations u given.values)
needs depth operations (Clear command key) given = (tt, tt)
needs depth operations (Count command rank) given = (tt, tt)
needs depth operations (Total command ranks) given = (tt, tt)

pub few_reads : ReadsAreFew
few_reads operations (Down u) =
    let first = few_on u.first (source_of first_source (operation_at operations u.command)) u.key in
    let second = few_on u.second (source_of second_source (operation_at operations u.command)) u.key in
    rw (length-append (side_reads u.first (source_of first_source (operation_at operations u.command)) u.key) (side_reads u.second (source_of second_source (operation_at operations u.command)) u.key)) (omega (arith, first, second))
few_reads operations (Up u) = omega arith
few_reads operations (Clear command key) = omega arith
few_reads operations (Count command rank) = omega arith
few_reads operations (Total command ranks) = omega arith
