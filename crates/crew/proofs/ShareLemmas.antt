-- Ranks and seats, by number.
use Rattle.std.proofs.Common.{◌≡◌, ◌+◌, ◌≤◌, ◌<◌, ℕ, zero, suc, List, [], ◌∷◌, ◌++◌, length, sym, subst, arith}
use Rattle.std.specs.Prelude.{All, slice_index_or}
use Rattle.std.specs.List.{range_with_len}
use Rattle.rank.specs.Shares.{ShareData}
use Rattle.crew.specs.Shares.{IsShareOf, AreShares}
use Rattle.std.proofs.lemmas.List.FromFn.{length-range_with_len, get_or-range_with_len}

-- what is true of each place stays so where the next place is filled
push_at : {X : Type 0} (P : ℕ → X → Type 0) (xs : List X) (x : X) → ((k : ℕ) (d : X) → k < length xs → P k (slice_index_or xs k d)) → P (length xs) x
    → (k : ℕ) (d : X) → k < length (xs ++ x ∷ []) → P k (slice_index_or (xs ++ x ∷ []) k d)
push_at P [] x all last zero d lt = last
push_at P [] x all last (suc k) d lt = absurd (omega (arith, lt))
push_at P (y ∷ ys) x all last zero d lt = all zero d (omega arith)
push_at P (y ∷ ys) x all last (suc k) d lt = push_at (λ j. P (suc j)) ys x (λ j e l. all (suc j) e (omega (arith, l))) last k d (omega (arith, lt))

pub one_rank_more : (ranks : ℕ) (shares : List ShareData) (share : ShareData) → AreShares ranks shares → IsShareOf ranks (length shares) share → AreShares ranks (shares ++ share ∷ [])
one_rank_more ranks shares share all last = push_at (IsShareOf ranks) shares share all last

-- the numbers of the hands of a rank
pub few_seats : (workers : ℕ) (seats : List ℕ) → seats ≡ range_with_len 0 (workers + 1) → All (λ seat. seat ≤ workers) seats
few_seats workers seats is = subst (All (λ seat. seat ≤ workers)) (sym is) (λ k d lt.
    let n = length-range_with_len 0 (workers + 1) in
    let e = get_or-range_with_len 0 (workers + 1) k d (omega (arith, lt, n)) in
    omega (arith, e, lt, n))
