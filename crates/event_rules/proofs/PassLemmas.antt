-- What is asked of passes, readings and receipts, by what is found.
use Rattle.std.proofs.Common.{◌≡◌, ◌↔◌, ℕ, suc, ◌-◌, ◌≤◌, true, false, List, [], ◌∷◌, refl, ap, subst, arith}
use Rattle.std.specs.Prelude.{Option, Some, None, slice_get}
use Rattle.std.specs.Option.{is_some}
use Rattle.event_lists.specs.declared.kind.Kind.{Kind}
use Rattle.event_lists.specs.declared.kind.Kind.TheVariants.{Submissions as submissions, Runs as runs}
use Rattle.event_lists.specs.declared.kind.Reading.{Reading}
use Rattle.event_lists.specs.declared.receipt.Row.{Row}
use Rattle.event_lists.specs.declared.receipt.Receipt.{Receipt}
use Rattle.event_lists.specs.declared.mark.Mark.{Mark}
use Rattle.event_lists.specs.Fences.{reading, IsComplete, IsReady, Agree, RowsAre, Receivable}

pub there_is : (o : Option Row) → is_some o ≡ true → (row : Row) × (o ≡ Some row)
there_is None e = absurd (cc)
there_is (Some row) e = (row, refl)

pub there_is_none : (o : Option Row) (row : Row) → is_some o ≡ false → o ≡ Some row → ⊥
there_is_none None row e i = cc
there_is_none (Some other) row e i = cc

-- a pass above the first is ready where the one before is complete
pub ready_is : (ranks f p : ℕ) (log : List Mark) → 2 ≤ p → IsComplete ranks f (p - 1) log ↔ IsReady ranks f p log
ready_is ranks f p log le = (
  (λ a d e. subst (λ (k : ℕ). IsComplete ranks f k log) (let same : p - 1 ≡ suc d = omega arith in same) a),
  (λ h. subst (λ (k : ℕ). IsComplete ranks f k log) (let same : suc (p - 2) ≡ p - 1 = omega arith in same) (h (p - 2) (omega arith))),
)

pub last_is : (rs : List Reading) (found : Option ℕ) (k : Kind) (f p : ℕ) → ((v : ℕ) → (found ≡ Some v) ↔ (slice_get rs 0 ≡ Some (reading k v f p))) → (is_some found ≡ true) ↔ ((v : ℕ) × (before : List Reading) × (rs ≡ reading k v f p ∷ before))
last_is [] None k f p finds = ((λ e. absurd (cc)), (λ a. let e = a.2 in absurd (cc)))
last_is [] (Some v) k f p finds = ((λ e. let i = (finds v).0 refl in absurd (cc)), (λ a. let e = a.2 in absurd (cc)))
last_is (r ∷ rs) None k f p finds = (
  (λ e. absurd (cc)),
  (λ a. let e = a.2 in let first : Some r ≡ Some (reading k a.0 f p) = ap (λ (z : List Reading). slice_get z 0) e in let i = (finds a.0).1 first in absurd (cc)),
)
last_is (r ∷ rs) (Some v) k f p finds = (
  (λ e. let i = (finds v).0 refl in let same : r ≡ reading k v f p = cc in (v, rs, ap (λ (z : Reading). z ∷ rs) same)),
  (λ a. refl),
)

-- submitted and ran were read last, with one value
pub two_are : (rs : List Reading) (one two : Option ℕ) (f p : ℕ) → ((v : ℕ) → (one ≡ Some v) ↔ (slice_get rs 0 ≡ Some (reading submissions v f p))) → ((v : ℕ) → (two ≡ Some v) ↔ (slice_get rs 1 ≡ Some (reading runs v f p)))
    → ((v : ℕ) × (one ≡ Some v) × (two ≡ Some v)) ↔ ((t : ℕ) × (before : List Reading) × (rs ≡ reading submissions t f p ∷ (reading runs t f p ∷ before)))
two_are [] one two f p first second = ((λ a. let i = (first a.0).0 a.1 in absurd (cc)), (λ a. let e = a.2 in absurd (cc)))
two_are (r ∷ []) one two f p first second = ((λ a. let i = (second a.0).0 a.2 in absurd (cc)), (λ a. let e = a.2 in absurd (cc)))
two_are (r ∷ (s ∷ rs)) one two f p first second = (
  (λ a. let i = (first a.0).0 a.1 in
      let j = (second a.0).0 a.2 in
      let r_is : r ≡ reading submissions a.0 f p = cc in
      let s_is : s ≡ reading runs a.0 f p = cc in
      (a.0, rs, λ k. r_is k ∷ (s_is k ∷ rs))),
  (λ a. (a.0, (first a.0).1 (ap (λ (z : List Reading). slice_get z 0) a.2), (second a.0).1 (ap (λ (z : List Reading). slice_get z 1) a.2))),
)

-- a receipt of a pass above the first
pub receivable_is : (ranks : ℕ) (log : List Mark) (r : Receipt) → 2 ≤ r.pass
    → (IsComplete ranks r.fence (r.pass - 1) log × IsComplete ranks r.fence r.pass log × Agree ranks r.fence (r.pass - 1) log × RowsAre ranks r.fence r.pass log r.rows) ↔ Receivable ranks log r
receivable_is ranks log r le = (
  (λ a. let same : r.pass - 1 ≡ suc (r.pass - 2) = omega arith in (
    r.pass - 2,
    omega arith,
    subst (λ (k : ℕ). IsComplete ranks r.fence k log) same a.0,
    a.1,
    subst (λ (k : ℕ). Agree ranks r.fence k log) same a.2,
    a.3,
  )),
  (λ b. let pass = b.1 in
      let same : suc b.0 ≡ r.pass - 1 = omega arith in (
        subst (λ (k : ℕ). IsComplete ranks r.fence k log) same b.2,
        b.3,
        subst (λ (k : ℕ). Agree ranks r.fence k log) same b.4,
        b.5,
      )),
)
