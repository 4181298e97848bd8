-- The futures of the counts of all ranks.
use Rattle.std.proofs.Common.{◌≡◌, ◌≢◌, ℕ, zero, suc, ◌+◌, ◌-◌, ◌<◌, ◌≤◌, List, [], ◌∷◌, ◌++◌, length, All, AllPairs, refl, sym, ap, ◌∙◌, append_assoc, arith}
use Rattle.std.proofs.lemmas.List.Kept.{AllPairs-cons}
use Rattle.std.proofs.lemmas.List.Elements.{All-cons}
use Rattle.app_core.specs.declared.Label.{Label}
use Rattle.haar_units.specs.Units.{count_future, count_futures}
use Rattle.haar_steps.specs.Effects.{HaarEffect}
use Rattle.haar_steps.specs.Starts.{spawn_counts}
use Rattle.app_core.specs.declared.Effect.TheVariants.{Spawn}
use Rattle.haar_base.specs.declared.unit.Unit.TheVariants as unit

rest_is : (r n : ℕ) → r < n → n - r ≡ suc (n - (r + 1))
rest_is r n below = omega (arith, below)

counts_step : (c r n : ℕ) → r < n → count_futures c r (n - r) ≡ count_future c r ∷ count_futures c (r + 1) (n - (r + 1))
counts_step c r n below = ap (count_futures c r) (rest_is r n below) ∙ ap (λ k. count_future c r ∷ count_futures c k (n - (r + 1))) (next r)
  where
    next : (r : ℕ) → suc r ≡ r + 1
    next r = omega arith

pub counts_next : (c r n : ℕ) (xs ys all : List Label) → r < n → ys ≡ xs ++ count_future c r ∷ [] → xs ++ count_futures c r (n - r) ≡ all → ys ++ count_futures c (r + 1) (n - (r + 1)) ≡ all
counts_next c r n xs ys all below more before =
    ap (λ z. z ++ count_futures c (r + 1) (n - (r + 1))) more
    ∙ append_assoc xs (count_future c r ∷ []) (count_futures c (r + 1) (n - (r + 1)))
    ∙ ap (λ z. xs ++ z) (sym (counts_step c r n below))
    ∙ before

spawns_step : (c r n : ℕ) → r < n → spawn_counts c r (n - r) ≡ Spawn (unit.Count c r) ∷ spawn_counts c (r + 1) (n - (r + 1))
spawns_step c r n below = ap (spawn_counts c r) (rest_is r n below) ∙ ap (λ k. Spawn (unit.Count c r) ∷ spawn_counts c k (n - (r + 1))) (next r)
  where
    next : (r : ℕ) → suc r ≡ r + 1
    next r = omega arith

pub spawns_next : (c r n : ℕ) (xs ys all : List HaarEffect) → r < n → ys ≡ xs ++ Spawn (unit.Count c r) ∷ [] → xs ++ spawn_counts c r (n - r) ≡ all → ys ++ spawn_counts c (r + 1) (n - (r + 1)) ≡ all
spawns_next c r n xs ys all below more before =
    ap (λ z. z ++ spawn_counts c (r + 1) (n - (r + 1))) more
    ∙ append_assoc xs (Spawn (unit.Count c r) ∷ []) (spawn_counts c (r + 1) (n - (r + 1)))
    ∙ ap (λ z. xs ++ z) (sym (spawns_step c r n below))
    ∙ before

-- there is one for each rank, and no two are one
pub counts_length : (c first n : ℕ) → length (count_futures c first n) ≡ n
counts_length c first zero = refl
counts_length c first (suc n) = ap suc (counts_length c (suc first) n)

differs : (c r first : ℕ) → r < first → count_future c r ≢ count_future c first
differs c r first below e = absurd (omega (arith, below, ap (λ (l : Label). l.place) e))

later : (c r first n : ℕ) → r < first → All (λ l. count_future c r ≢ l) (count_futures c first n)
later c r first zero below = λ k d lt. absurd (omega (arith, lt))
later c r first (suc n) below = All-cons (λ l. count_future c r ≢ l) (count_future c first) (count_futures c (suc first) n) (differs c r first below) (later c r (suc first) n (omega (arith, below)))

pub counts_apart : (c first n : ℕ) → AllPairs (λ a b. a ≢ b) (count_futures c first n)
counts_apart c first zero = λ i j d before within. absurd (omega (arith, before, within))
counts_apart c first (suc n) = AllPairs-cons (λ a b. a ≢ b) (count_future c first) (count_futures c (suc first) n) (later c first (suc first) n (omega arith)) (counts_apart c (suc first) n)
