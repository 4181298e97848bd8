-- Lemmas that crates above use: sums and products of integers, each read as what is above zero less what is below.
use Rattle.std.proofs.Common.{◌≡◌, ℕ, zero, suc, ◌*◌, ◌/◌, ◌<◌, ◌≤◌, ℤ, pos, negsuc, ◌+ℤ◌, ◌-ℤ◌, ◌*ℤ◌, neg_ℤ, refl, ap, ◌∙◌, arith}
use Rattle.std.specs.Int.RustNames.{unsigned_abs, int_div}
use Rattle.std.proofs.lemmas.Int.{ints, unsigned_abs-mul}
use Rattle.std.proofs.lemmas.Nat.{mul-le}
use Rattle.std.proofs.Math.Nat.{eq_of_mul-eq-mul_left, mul-div_cancel_left, zero-div}
use borrow.Author.Differences.{up, down, sum_is_lem, product_is, neg_is}

-- an equation of numbers, times both parts of an integer
both_times : {m n : ℕ} (z : ℤ) → m ≡ n → (m * up z ≡ n * up z) × (m * down z ≡ n * down z)
both_times z same = (ap (λ n. n * up z) same, ap (λ n. n * down z) same)

pub sum_times : (a b c : ℤ) → (a +ℤ b) *ℤ c ≡ a *ℤ c +ℤ b *ℤ c
sum_times a b c =
    let parts = both_times c (sum_is_lem a b) in omega (arith, ints)

pub times_sum : (a b c : ℤ) → a *ℤ (b +ℤ c) ≡ a *ℤ b +ℤ a *ℤ c
times_sum a b c =
    let parts = both_times a (sum_is_lem b c) in omega (arith, ints)

pub times_times : (a b c : ℤ) → (a *ℤ b) *ℤ c ≡ a *ℤ (b *ℤ c)
times_times a b c =
    let left = product_is a b in
    let left_up = both_times c left.0 in
    let left_down = both_times c left.1 in
    let right = product_is b c in
    let right_up = both_times a right.0 in
    let right_down = both_times a right.1 in
    omega (arith, ints)

pub neg_times : (a b : ℤ) → neg_ℤ a *ℤ b ≡ neg_ℤ (a *ℤ b)
neg_times a b =
    let turned = neg_is a in
    let to_up = both_times b turned.0 in
    let to_down = both_times b turned.1 in
    omega (arith, ints)

pub times_neg : (a b : ℤ) → a *ℤ neg_ℤ b ≡ neg_ℤ (a *ℤ b)
times_neg a b =
    let turned = neg_is b in
    let to_up = both_times a turned.0 in
    let to_down = both_times a turned.1 in
    omega (arith, ints)

-- the product of two sums and the product of the two differences are twice the products of the parts
pub sums_and_differences : (a b c d : ℤ) → (a +ℤ b) *ℤ (c +ℤ d) +ℤ (a -ℤ b) *ℤ (c -ℤ d) ≡ pos 2 *ℤ (a *ℤ c +ℤ b *ℤ d)
sums_and_differences a b c d =
    rw (sum_times a b (c +ℤ d), times_sum a c d, times_sum b c d, sum_times a (neg_ℤ b) (c -ℤ d), times_sum a c (neg_ℤ d), times_sum (neg_ℤ b) c (neg_ℤ d), times_neg a d, neg_times b c, neg_times b (neg_ℤ d), times_neg b d, times_sum (pos 2) (a *ℤ c) (b *ℤ d))
    (omega (arith, ints))

-- a factor other than 0 leaves
pub times_cancel : (n : ℕ) (a b : ℤ) → 0 < n → pos n *ℤ a ≡ pos n *ℤ b → a ≡ b
times_cancel n a b some same =
    let first = product_is (pos n) a in
    let second = product_is (pos n) b in
    let ups = eq_of_mul-eq-mul_left n some (up a) (up b) (omega (arith, ap up same)) in
    let downs = eq_of_mul-eq-mul_left n some (down a) (down b) (omega (arith, ap down same)) in
    omega (arith, ints)

-- a product is at most the product of what its factors are at most
pub product_within : (a b : ℤ) (m n : ℕ) → unsigned_abs a ≤ m → unsigned_abs b ≤ n → unsigned_abs (a *ℤ b) ≤ m * n
product_within a b m n within_a within_b =
    rw (unsigned_abs-mul a b) (mul-le (unsigned_abs a) (unsigned_abs b) m n within_a within_b)

-- the quotient of what is below zero is that of what is above it, turned round
turned_quotient : (m n : ℕ) → int_div (neg_ℤ (pos m)) (pos n) ≡ neg_ℤ (pos (m / n))
turned_quotient zero n = rw (zero-div n) refl
turned_quotient (suc m) n = refl

-- a multiple has its factor as quotient
pub quotient_of_a_multiple : (n : ℕ) (z : ℤ) → 0 < n → int_div (pos n *ℤ z) (pos n) ≡ z
quotient_of_a_multiple n (pos m) some = ap pos (mul-div_cancel_left m some)
quotient_of_a_multiple n (negsuc m) some = turned_quotient (n * suc m) n ∙ ap (λ q. neg_ℤ (pos q)) (mul-div_cancel_left (suc m) some)
