-- What holds of each operation of a job.
use Rattle.std.proofs.Common.{◌≡◌, ℕ, zero, suc, Bool, true, List, [], ◌∷◌, Some, sym, ap, ◌∙◌}
use Rattle.std.specs.Prelude.{slice_get}
use Rattle.std.specs.List.{list_all}
use Rattle.std.proofs.lemmas.Bool.{and_parts}
use Rattle.std.proofs.lemmas.Option.{same_Some}
use Rattle.haar_base.specs.declared.operation.Operation.{Operation}
use Rattle.haar_base.specs.Operations.{is_within, are_within, operation_at}

all_at : {A : Type 0} (test : A → Bool) (xs : List A) (i : ℕ) (x : A) → list_all test xs ≡ true → slice_get xs i ≡ Some x → test x ≡ true
all_at test [] i x all there = absurd (cc)
all_at test (y ∷ xs) zero x all there = ap test (sym (same_Some y x there)) ∙ (and_parts (test y) (list_all test xs) all).0
all_at test (y ∷ xs) (suc i) x all there = all_at test xs i x (and_parts (test y) (list_all test xs) all).1 there

-- the operation of a command is within its limits
pub operation_within : (depth : ℕ) (operations : List Operation) (command : ℕ) (operation : Operation) → are_within depth operations ≡ true → operation_at operations command ≡ Some operation → is_within depth operation ≡ true
operation_within depth operations zero operation all there = absurd (cc)
operation_within depth operations (suc before) operation all there = all_at (is_within depth) operations before operation all there
