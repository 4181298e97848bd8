-- Lemmas that crates above use: the first place that passes a test, and where none does.
use Rattle.std.proofs.Common.{◌≡◌, ℕ, ◌≤◌, Bool, true, false, List, length, cond, refl, sym, arith}
use Rattle.std.specs.Prelude.{Some, None, nat_lt, position, not, All}
use Rattle.std.specs.List.{position_or_len}
use Rattle.std.proofs.lemmas.List.Sums.{prefix_len_passes, prefix_len-le-length}
use Rattle.std.proofs.lemmas.Bool.Decides.{nat_tests}

not_some : (b : Bool) (k : ℕ) → cond b (Some k) None ≡ None → b ≡ false
not_some true k is = cc
not_some false k is = refl

not_true : (b : Bool) → not b ≡ true → b ≡ false
not_true true is = sym is
not_true false is = refl

pub position_None : (p : ℕ → Bool) (xs : List ℕ) → position p xs ≡ None → All (λ x. p x ≡ false) xs
position_None p xs is k d within =
    let short : nat_lt (position_or_len p xs) (length xs) ≡ false = not_some _ _ is in
    let long : length xs ≤ position_or_len p xs = grind (arith, nat_tests) in
    not_true _ (prefix_len_passes (λ x. not (p x)) xs k d (omega arith))

the_place : (b : Bool) (k n : ℕ) → cond b (Some k) None ≡ Some n → n ≡ k
the_place true k n is = cc
the_place false k n is = cc

pub position_place : (p : ℕ → Bool) (xs : List ℕ) (n : ℕ) → position p xs ≡ Some n → n ≡ position_or_len p xs
position_place p xs n is = the_place (nat_lt (position_or_len p xs) (length xs)) (position_or_len p xs) n is

pub no_place : (p : ℕ → Bool) (xs : List ℕ) → position p xs ≡ None → length xs ≡ position_or_len p xs
no_place p xs is =
    let short : nat_lt (position_or_len p xs) (length xs) ≡ false = not_some _ _ is in
    let long : length xs ≤ position_or_len p xs = grind (arith, nat_tests) in
    omega (arith, long, prefix_len-le-length (λ x. not (p x)) xs)
