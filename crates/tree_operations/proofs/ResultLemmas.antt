-- Lemmas that crates above use: facts that hold where a call succeeds.
use Rattle.std.proofs.Common.{◌≡◌, Result, OnOk, sym, ◌∙◌, ap}
use Rattle.std.specs.Prelude.{Ok, Err, IsErrAnd}

-- a fact that follows from what holds on success
pub OnOk_map : {T E : Type 0} (r : Result T E) (P Q : Type 0) → (P → Q) → OnOk r P → OnOk r Q
OnOk_map (Ok x) P Q f p = f p
OnOk_map (Err e) P Q f p = p

-- a fact that holds in any case
pub OnOk_from : {T E : Type 0} (r : Result T E) (P : Type 0) → P → OnOk r P
OnOk_from (Ok x) P p = p
OnOk_from (Err e) P p = tt

-- the error that a `?` passes on is the one that the call answered
pub handed_on_error : {T S E : Type 0} (r : Result T E) (called : Result S E) (e x : E) → IsErrAnd r (λ y. y ≡ x) → called ≡ Err x → r ≡ Err e → called ≡ Err e
handed_on_error (Ok v) called e x same was is = absurd same
handed_on_error (Err y) called e x same was is = let equal : y ≡ e = cc in was ∙ ap Err (sym same ∙ equal)

-- two facts that hold on success
pub OnOk_both : {T E : Type 0} (r : Result T E) (P Q : Type 0) → OnOk r P → OnOk r Q → OnOk r (P × Q)
OnOk_both (Ok x) P Q p q = (p, q)
OnOk_both (Err e) P Q p q = tt
