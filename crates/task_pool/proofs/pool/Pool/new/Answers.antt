use Rattle.std.proofs.Common.{◌≡◌, ◌+◌, ◌++◌, ◌∷◌, [], ℕ, zero, suc, ap, arith, add-one, rules}
use Rattle.std.specs.List.{range_with_len}
use Rattle.task_pool.proofs.pool.Pool.new.Goals as goal

-- one number more comes last
range_more : (a n m : ℕ) → a + n ≡ m → range_with_len a (suc n) ≡ range_with_len a n ++ m ∷ []
range_more a zero m e = ap (λ k. k ∷ []) (omega (arith, e))
range_more a (suc n) m e = ap (λ xs. a ∷ xs) (range_more (a + 1) n m (omega (arith, e)))

pub loop-hand-preserved : goal.loop-hand-preserved
loop-hand-preserved g c =
    let more : range_with_len 0 (c.loop-hand.hand + 1) ≡ range_with_len 0 c.loop-hand.hand ++ c.loop-hand.hand ∷ [] =
    rw add-one (range_more 0 c.loop-hand.hand c.loop-hand.hand (omega arith)) in
    rw (more, ← c.loop-hand.invariant) (search rules)
