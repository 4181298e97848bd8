-- What the main of each rank does next, where so many units are started at each of ranks 1 to 4.
use Rattle.std.proofs.Common.{◌≡◌, ℕ, zero, suc, ◌+◌, ◌<◌, List, [], ◌∷◌, ◌++◌, map, refl, sym, ap, subst, ◌∙◌, arith}
use Rattle.std.specs.Prelude.{Option, Some, slice_get, Bool, true, false, if◌then◌else◌, ◌==◌}
use Rattle.std.proofs.lemmas.Bool.{eqb-true}
use Rattle.app_core.specs.declared.outline.Outline.{Outline}
use Rattle.event_laws.specs.Follows.{Doing, Start, Wait, waits, program_at}
use Rattle.words_bench.specs.Many.{start_at, repeated, program}

front : (n : ℕ) (o : Outline) (rest : List Doing) (k : ℕ) → k < n → slice_get (map Start (repeated n o) ++ rest) k ≡ Some (Start o)
front zero o rest k lt = absurd (omega (arith, lt))
front (suc n) o rest zero lt = refl
front (suc n) o rest (suc k) lt = front n o rest k (omega (arith, lt))

skip : (n : ℕ) (o : Outline) (rest : List Doing) (k : ℕ) → slice_get (map Start (repeated n o) ++ rest) (n + k) ≡ slice_get rest k
skip zero o rest k = ap (slice_get rest) (omega arith)
skip (suc n) o rest k = let e : suc n + k ≡ suc (n + k) = omega arith in ap (slice_get (map Start (repeated (suc n) o) ++ rest)) e ∙ skip n o rest k

no_waits : (n : ℕ) (o : Outline) (rest : List Doing) → waits (map Start (repeated n o) ++ rest) ≡ waits rest
no_waits zero o rest = refl
no_waits (suc n) o rest = no_waits n o rest

-- the starts of commands 4, 3 .. to 1, and what follows them
abbrev from_four : ℕ → List Doing
from_four n = map Start (repeated n (start_at 4)) ++ (Wait ∷ [])

abbrev from_three : ℕ → List Doing
from_three n = map Start (repeated n (start_at 3)) ++ from_four n

abbrev from_two : ℕ → List Doing
from_two n = map Start (repeated n (start_at 2)) ++ from_three n

-- rank 0's main is told what it does next where it has done `i` things
at_zero : (n rank i : ℕ) (ds : List Doing) (d : Option Doing) → rank ≡ 0 → ds ≡ program n → slice_get (program n) i ≡ d → slice_get (program_at rank ds) i ≡ d
at_zero n rank i ds d zero_is is e = subst (λ (r : ℕ). slice_get (program_at r ds) i ≡ d) (sym zero_is) (subst (λ (z : List Doing). slice_get z i ≡ d) (sym is) e)

pub next_one : (n rank done k : ℕ) (ds : List Doing) → rank ≡ 0 → ds ≡ program n → done ≡ 0 → k < n → slice_get (program_at rank ds) (k + done) ≡ Some (Start (start_at 1))
next_one n rank done k ds zero_is is at lt = let e : k + done ≡ k = omega (arith, at) in at_zero n rank (k + done) ds _ zero_is is (ap (slice_get (program n)) e ∙ front n (start_at 1) (from_two n) k lt)

pub next_two : (n rank done k : ℕ) (ds : List Doing) → rank ≡ 0 → ds ≡ program n → done ≡ n → k < n → slice_get (program_at rank ds) (k + done) ≡ Some (Start (start_at 2))
next_two n rank done k ds zero_is is at lt = let e : k + done ≡ n + k = omega (arith, at) in at_zero n rank (k + done) ds _ zero_is is
    (ap (slice_get (program n)) e ∙ skip n (start_at 1) (from_two n) k ∙ front n (start_at 2) (from_three n) k lt)

pub next_three : (n rank done k : ℕ) (ds : List Doing) → rank ≡ 0 → ds ≡ program n → done ≡ n + n → k < n → slice_get (program_at rank ds) (k + done) ≡ Some (Start (start_at 3))
next_three n rank done k ds zero_is is at lt = let e : k + done ≡ n + (n + k) = omega (arith, at) in at_zero n rank (k + done) ds _ zero_is is
    (ap (slice_get (program n)) e ∙ skip n (start_at 1) (from_two n) (n + k) ∙ skip n (start_at 2) (from_three n) k ∙ front n (start_at 3) (from_four n) k lt)

pub next_four : (n rank done k : ℕ) (ds : List Doing) → rank ≡ 0 → ds ≡ program n → done ≡ n + (n + n) → k < n → slice_get (program_at rank ds) (k + done) ≡ Some (Start (start_at 4))
next_four n rank done k ds zero_is is at lt = let e : k + done ≡ n + (n + (n + k)) = omega (arith, at) in at_zero n rank (k + done) ds _ zero_is is
    (ap (slice_get (program n)) e ∙ skip n (start_at 1) (from_two n) (n + (n + k)) ∙ skip n (start_at 2) (from_three n) (n + k) ∙ skip n (start_at 3) (from_four n) k ∙ front n (start_at 4) (Wait ∷ []) k lt)

-- a main of another rank waits first
pub waits_first : (n rank : ℕ) (ds : List Doing) → 0 < rank → ds ≡ program n → slice_get (program_at rank ds) 0 ≡ Some Wait
waits_first n rank ds above is = go (rank == 0) refl
  where
    go : (b : Bool) → (rank == 0) ≡ b → slice_get (if b then ds else waits ds) 0 ≡ Some Wait
    go true e = let z = eqb-true rank 0 e in absurd (omega (arith, above, z))
    go false e = ap (λ (z : List Doing). slice_get (waits z) 0) is
        ∙ ap (λ (z : List Doing). slice_get z 0) (no_waits n (start_at 1) (from_two n) ∙ no_waits n (start_at 2) (from_three n) ∙ no_waits n (start_at 3) (from_four n) ∙ no_waits n (start_at 4) (Wait ∷ []))
