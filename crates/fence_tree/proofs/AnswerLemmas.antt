-- What an answer of a turn tells of the verdict.
use Rattle.std.proofs.Common.{◌≡◌, ◌⊎◌, ℕ, ◌+◌, ◌<◌, length, ap, subst, inl, inr, arith, length-append}
use Rattle.event_lists.specs.declared.receipt.Receipt.{Receipt}
use Rattle.world_words.specs.Lanes.{LaneView}
use Rattle.fence_tree.specs.declared.rows.Sums.{Sums}
use Rattle.fence_tree.specs.declared.items.Verdict.{Verdict}
use Rattle.fence_tree.specs.declared.items.Verdict.TheVariants as on
use Rattle.fence_tree.specs.declared.state.Cause.{Cause}
use Rattle.fence_tree.specs.declared.state.Cause.TheVariants.{EmptyCell, Open, FirstPass, Moved}
use Rattle.fence_tree.specs.declared.state.FenceTurn.{FenceTurn}
use Rattle.fence_tree.specs.declared.state.FenceTurn.TheVariants.{Waiting, Done}
use Rattle.fence_tree.specs.Turns.{StateView, Turned, IsNeighbour, IsEmptyCell, IsOpen, WereSeen, answer_of, state_after}

abbrev the_receipt : Receipt → FenceTurn → Receipt
the_receipt d (Done r) = r
the_receipt d _ = d

abbrev the_cause : Cause → FenceTurn → Cause
the_cause d (Waiting c) = c
the_cause d _ = d

pub done_tells : (v : Verdict) (pass : ℕ) (r : Receipt) → answer_of v pass ≡ Done r → v ≡ on.Done r
done_tells (on.FirstPass s) pass r e = absurd (cc)
done_tells (on.Moved a b) pass r e = absurd (cc)
done_tells (on.Done q) pass r e = ap on.Done (ap (the_receipt q) e)

pub first_tells : (v : Verdict) (pass : ℕ) (s : Sums) → answer_of v pass ≡ Waiting (FirstPass s) → v ≡ on.FirstPass s
first_tells (on.FirstPass t) pass s e = let c : FirstPass t ≡ FirstPass s = ap (the_cause (FirstPass t)) e in ap on.FirstPass (cc)
first_tells (on.Moved a b) pass s e = absurd (cc)
first_tells (on.Done q) pass s e = absurd (cc)

pub moved_tells : (v : Verdict) (pass p : ℕ) (a b : Sums) → answer_of v pass ≡ Waiting (Moved p a b) → (p ≡ pass) × (v ≡ on.Moved a b)
moved_tells (on.FirstPass t) pass p a b e = absurd (cc)
moved_tells (on.Moved x y) pass p a b e = (cc, cc)
moved_tells (on.Done q) pass p a b e = absurd (cc)

pub waiting_tells : (v : Verdict) (pass : ℕ) (c : Cause) → answer_of v pass ≡ Waiting c → (r : Receipt) → v ≡ on.Done r → ⊥
waiting_tells (on.FirstPass t) pass c e r d = cc
waiting_tells (on.Moved x y) pass c e r d = cc
waiting_tells (on.Done q) pass c e r d = cc

pub no_empty : (v : Verdict) (pass q : ℕ) → answer_of v pass ≡ Waiting (EmptyCell q) → ⊥
no_empty (on.FirstPass t) pass q e = cc
no_empty (on.Moved x y) pass q e = cc
no_empty (on.Done r) pass q e = cc

pub no_open : (v : Verdict) (pass ran submitted : ℕ) → answer_of v pass ≡ Waiting (Open ran submitted) → ⊥
no_open (on.FirstPass t) pass ran submitted e = cc
no_open (on.Moved x y) pass ran submitted e = cc
no_open (on.Done r) pass ran submitted e = cc

-- a receipt leaves the state as it was
pub answered_same : (v : Verdict) (s new : StateView) (pass : ℕ) (result : FenceTurn) → result ≡ answer_of v pass → new ≡ state_after v s → ((t : Sums) → result ≡ Waiting (FirstPass t) → ⊥) → ((p : ℕ) (a b : Sums) → result ≡ Waiting (Moved p a b) → ⊥)
    → new.answered ≡ s.answered
answered_same (on.FirstPass t) s new pass result e is first moved = absurd (first t e)
answered_same (on.Moved a b) s new pass result e is first moved = absurd (moved pass a b e)
answered_same (on.Done r) s new pass result e is first moved = ap (λ (z : StateView). z.answered) is

-- of a turn that reached no verdict

pub is_empty : (ranks rank fence : ℕ) (old new : LaneView) (c : Cause) (q : ℕ) → IsEmptyCell ranks rank c ⊎ IsOpen fence old new c → Waiting c ≡ Waiting (EmptyCell q) → IsNeighbour ranks rank q
is_empty ranks rank fence old new c q (inl (p, is, near)) e = subst (IsNeighbour ranks rank) (cc) near
is_empty ranks rank fence old new c q (inr (ran, submitted, is, lt, seen)) e = absurd (cc)

pub is_open : (ranks rank fence : ℕ) (old new : LaneView) (c : Cause) (ran submitted : ℕ) → IsEmptyCell ranks rank c ⊎ IsOpen fence old new c → Waiting c ≡ Waiting (Open ran submitted) → (ran < submitted) × WereSeen fence ran submitted old new
is_open ranks rank fence old new c ran submitted (inl (p, is, near)) e = absurd (cc)
is_open ranks rank fence old new c ran submitted (inr (x, y, is, lt, seen)) e =
    let same : Open x y ≡ Open ran submitted = cc in
    let first : x ≡ ran = cc in
    let second : y ≡ submitted = cc in
    (subst (λ (n : ℕ). n < submitted) first (subst (λ (n : ℕ). x < n) second lt), subst (λ (n : ℕ). WereSeen fence n submitted old new) first (subst (λ (n : ℕ). WereSeen fence x n old new) second seen))

-- no other cause
pub no_first : (ranks rank fence : ℕ) (old new : LaneView) (c : Cause) (s : Sums) → IsEmptyCell ranks rank c ⊎ IsOpen fence old new c → Waiting c ≡ Waiting (FirstPass s) → ⊥
no_first ranks rank fence old new c s (inl (p, is, near)) e = cc
no_first ranks rank fence old new c s (inr (ran, submitted, is, lt, seen)) e = cc

pub no_moved : (ranks rank fence : ℕ) (old new : LaneView) (c : Cause) (p : ℕ) (a b : Sums) → IsEmptyCell ranks rank c ⊎ IsOpen fence old new c → Waiting c ≡ Waiting (Moved p a b) → ⊥
no_moved ranks rank fence old new c p a b (inl (q, is, near)) e = cc
no_moved ranks rank fence old new c p a b (inr (ran, submitted, is, lt, seen)) e = cc

-- the lane's events and what it may still append are as many together
pub turned_length : (fence : ℕ) (old new : LaneView) → Turned fence old new → length new.mine + new.spare ≡ length old.mine + old.spare
turned_length fence old new t = let e = ap length t.events in let l = length-append t.more old.mine in let s = t.spare in omega (arith, e, l, s)
