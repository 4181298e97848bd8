-- Lemmas that crates above use: receipts are on one lane, one for each fence, in order.
use Rattle.std.proofs.Common.{◌≡◌, ◌≢◌, ◌⊎◌, ℕ, suc, ◌<◌, ◌≤◌, Bool, true, false, List, [], ◌∷◌, refl, sym, ap, ◌∙◌, subst, inl, inr, ⊎_elim, arith}
use Rattle.std.specs.Prelude.{Some, None, if◌then◌else◌, ◌==◌, ◌↔◌}
use Rattle.std.proofs.lemmas.Bool.{cases_eq, eq-eqb, eqb-true, or_cases, or_left, or_right, both_ways}
use Rattle.event_lists.specs.declared.lane.LaneName.{LaneName}
use Rattle.event_lists.specs.declared.event.Event.{Event}
use Rattle.event_lists.specs.declared.event.Event.TheVariants.{Enter, Leave, Receipt as Receives}
use Rattle.event_lists.specs.declared.receipt.Receipt.{Receipt}
use Rattle.event_lists.specs.declared.mark.Mark.{Mark}
use Rattle.event_lists.specs.Events.{same_lane, main_of, part, StandsOn}
use Rattle.event_lists.specs.Fences.{Fences, fence_in, enters, is_receipt, has_receipt}
use Rattle.event_lists.specs.Legal.{Legal}
use Rattle.event_lists.specs.OwnEvents.{has_receipt_on_lane}
use Rattle.event_lists.proofs.LaneLemmas.{same_lane_true}
use Rattle.event_lists.proofs.FenceLemmas.{receipt_lane, receipt_on}

-- a receipt is on the lane of rank 0's main
pub receipt_on_main : (ranks workers : ℕ) (log : List Mark) → Legal ranks workers log → (l : LaneName) (r : Receipt) → StandsOn l (Receives r) log → l ≡ main_of 0
receipt_on_main ranks workers [] h l r s = absurd s
receipt_on_main ranks workers (x ∷ log) h l r (inl i) =
    let is : is_receipt r.fence x.event ≡ true = ap (is_receipt r.fence) i.1 ∙ eq-eqb r.fence r.fence refl in
    sym i.0 ∙ receipt_lane ranks log x.lane (part x.lane log) x.event r.fence h.0.fences is
receipt_on_main ranks workers (x ∷ log) h l r (inr s) = receipt_on_main ranks workers log h.1 l r s

receipt_stands : (l : LaneName) (r : Receipt) (log : List Mark) → StandsOn l (Receives r) log → has_receipt r.fence log ≡ true
receipt_stands l r [] s = absurd s
receipt_stands l r (x ∷ log) (inl i) = or_left (is_receipt r.fence x.event) (has_receipt r.fence log) (ap (is_receipt r.fence) i.1 ∙ eq-eqb r.fence r.fence refl)
receipt_stands l r (x ∷ log) (inr s) = or_right (is_receipt r.fence x.event) (has_receipt r.fence log) (receipt_stands l r log s)

-- a fence that gets its receipt had none
first_receipt : (ranks : ℕ) (log : List Mark) (l : LaneName) (mine : List Event) (e : Event) (r : Receipt) → Fences ranks log l mine e → e ≡ Receives r → has_receipt r.fence log ≡ false
first_receipt ranks log l mine e r a i = (subst (Fences ranks log l mine) i a).2

-- receipts of one fence are one
pub one_receipt : (ranks workers : ℕ) (log : List Mark) → Legal ranks workers log → (l m : LaneName) (r s : Receipt) → r.fence ≡ s.fence → StandsOn l (Receives r) log → StandsOn m (Receives s) log → r ≡ s
one_receipt ranks workers [] h l m r s same a b = absurd a
one_receipt ranks workers (x ∷ log) h l m r s same (inl a) (inl b) = let e : Receives r ≡ Receives s = sym a.1 ∙ b.1 in cc
one_receipt ranks workers (x ∷ log) h l m r s same (inl a) (inr b) =
    absurd (both_ways (has_receipt s.fence log) (ap (λ f. has_receipt f log) (sym same) ∙ first_receipt ranks log x.lane (part x.lane log) x.event r h.0.fences a.1) (receipt_stands m s log b))
one_receipt ranks workers (x ∷ log) h l m r s same (inr a) (inl b) =
    absurd (both_ways (has_receipt r.fence log) (ap (λ f. has_receipt f log) same ∙ first_receipt ranks log x.lane (part x.lane log) x.event s h.0.fences b.1) (receipt_stands l r log a))
one_receipt ranks workers (x ∷ log) h l m r s same (inr a) (inr b) = one_receipt ranks workers log h.1 l m r s same a b

-- the fences that have a receipt among these events are those from 1 to n
abbrev HasUpTo : ℕ → List Event → Type 0
HasUpTo n es = (f : ℕ) → (has_receipt_on_lane f es ≡ true) ↔ ((1 ≤ f) × (f ≤ n))

-- a main outside of its fences has the receipts of all that it entered; inside of one, at least of those before
record InOrderSoFar (es : List Event) : Type 0 where
  outside : fence_in es ≡ None → HasUpTo (enters es) es
  inside : (f : ℕ) → fence_in es ≡ Some f → (f ≡ enters es) × (1 ≤ f) × (HasUpTo f es ⊎ ((j : ℕ) × (f ≡ suc j) × HasUpTo j es))

one_more : (r : Receipt) (j : ℕ) (es : List Event) → r.fence ≡ suc j → HasUpTo j es → HasUpTo (suc j) (Receives r ∷ es)
one_more r j es is up f = (
  (λ t. ⊎_elim
      (λ here. let same = eqb-true r.fence f here in (omega (arith, is, same), omega (arith, is, same)))
      (λ before. let b = (up f).0 before in (b.0, omega (arith, b.1)))
      (or_cases (r.fence == f) (has_receipt_on_lane f es) t)),
  (λ b. ⊎_elim
      (λ (same : r.fence ≡ f). or_left (r.fence == f) (has_receipt_on_lane f es) (eq-eqb r.fence f same))
      (λ (apart : r.fence ≢ f). or_right (r.fence == f) (has_receipt_on_lane f es) ((up f).1 (b.0, omega (arith, b.1, is, apart))))
      (cases_eq r.fence f)),
)

order_step : (ranks : ℕ) (log : List Mark) (es : List Event) (e : Event) → Fences ranks log (main_of 0) es e → ((f : ℕ) → has_receipt f log ≡ has_receipt_on_lane f es) → InOrderSoFar es → InOrderSoFar (e ∷ es)
order_step ranks log es (Enter f) a found h = record {
  outside = λ i. absurd (cc);
  inside = λ g i. let same : f ≡ g = cc in (sym same ∙ a.3, omega (arith, same, a.3), inr (enters es, sym same ∙ a.3, h.outside a.2));
}
order_step ranks log es (Leave f) a found h = record {
  outside = λ i. let here = h.inside f a.0.2 in
      ⊎_elim
      (λ all. subst (λ (n : ℕ). HasUpTo n es) here.0 all)
      (λ w. absurd (omega (arith, w.1, ((w.2 f).0 (sym (found f) ∙ a.1)).1)))
      here.2;
  inside = λ g i. absurd (cc);
}
order_step ranks log es (Receives r) a found h = record {
  outside = λ i. let inside = a.1.2 in absurd (cc);
  inside = λ g i.
      let in_it = a.1.2 in
      let same : r.fence ≡ g = cc in
      let here = h.inside r.fence in_it in (
        sym same ∙ here.0,
        omega (arith, same, here.1),
        inl (⊎_elim
            (λ all. absurd (both_ways (has_receipt r.fence log) a.2 (found r.fence ∙ (all r.fence).1 (here.1, omega arith))))
            (λ w. subst (λ (n : ℕ). HasUpTo n (Receives r ∷ es)) (sym w.1 ∙ same) (one_more r w.0 es w.1 w.2))
            here.2),
      );
}
order_step ranks log es _ a found h = record { outside = h.outside; inside = h.inside }

so_far : (ranks workers : ℕ) (log : List Mark) → Legal ranks workers log → InOrderSoFar (part (main_of 0) log)
so_far ranks workers [] h = record { outside = λ i f. ((λ t. absurd (cc)), (λ b. absurd (omega (arith, b.0, b.1)))); inside = λ f i. absurd (cc) }
so_far ranks workers (x ∷ log) h = go (so_far ranks workers log h.1) (same_lane x.lane (main_of 0)) refl
  where
    go : InOrderSoFar (part (main_of 0) log) → (b : Bool) → same_lane x.lane (main_of 0) ≡ b → InOrderSoFar (if b then x.event ∷ part (main_of 0) log else part (main_of 0) log)
    go rest true e =
        let asks = subst (λ (m : LaneName). Fences ranks log m (part m log) x.event) (same_lane_true x.lane (main_of 0) e) h.0.fences in
        order_step ranks log (part (main_of 0) log) x.event asks (λ f. receipt_on ranks workers log h.1 f) rest
    go rest false e = rest

-- when a fence gets its receipt, those below it have theirs, and no others
pub receipts_in_order : (ranks workers : ℕ) (log : List Mark) (x : Mark) → Legal ranks workers (x ∷ log) → (r : Receipt) → x.event ≡ Receives r → (f : ℕ) → (has_receipt f log ≡ true) ↔ ((1 ≤ f) × (f < r.fence))
receipts_in_order ranks workers log x h r i f = go (so_far ranks workers log h.1)
  where
    asks : Fences ranks log x.lane (part x.lane log) (Receives r)
    asks = subst (Fences ranks log x.lane (part x.lane log)) i h.0.fences

    inside : fence_in (part (main_of 0) log) ≡ Some r.fence
    inside = subst (λ (l : LaneName). fence_in (part l log) ≡ Some r.fence) asks.0 asks.1.2

    found : has_receipt f log ≡ has_receipt_on_lane f (part (main_of 0) log)
    found = receipt_on ranks workers log h.1 f

    go : InOrderSoFar (part (main_of 0) log) → (has_receipt f log ≡ true) ↔ ((1 ≤ f) × (f < r.fence))
    go so = let here = so.inside r.fence inside in
        ⊎_elim
        (λ all. absurd (both_ways (has_receipt r.fence log) asks.2 (receipt_on ranks workers log h.1 r.fence ∙ (all r.fence).1 (here.1, omega arith))))
        (λ w. (
          (λ t. let b = (w.2 f).0 (sym found ∙ t) in (b.0, omega (arith, b.1, w.1))),
          (λ b. found ∙ (w.2 f).1 (b.0, omega (arith, b.1, w.1))),
        ))
        here.2
