-- A receipt's passes, and the cut that its rows name.
use Rattle.std.proofs.Common.{◌≡◌, ℕ, suc, ◌<◌, List, [], ◌∷◌, refl, sym, ap, ◌∙◌, subst, inl, arith}
use Rattle.std.specs.Prelude.{Some, slice_get}
use Rattle.event_lists.specs.declared.event.Event.{Event}
use Rattle.event_lists.specs.declared.event.Event.TheVariants.{Sent, Handled, Ran, Receipt as Receives}
use Rattle.event_lists.specs.declared.receipt.Receipt.{Receipt}
use Rattle.event_lists.specs.declared.mark.Item.{Item}
use Rattle.event_lists.specs.declared.mark.Item.TheVariants.{Message, Task}
use Rattle.event_lists.specs.declared.mark.Mark.{Mark}
use Rattle.event_lists.specs.declared.kind.Kind.TheVariants.{Sends as sends}
use Rattle.event_lists.specs.Events.{part, main_of, Begins, Stands, ends}
use Rattle.event_lists.specs.Fences.{row_of, IsComplete}
use Rattle.event_lists.specs.Quiet.{named, IsCut, AllHandledOnce, AllRanOnce}
use Rattle.event_lists.specs.Legal.{Legal}
use Rattle.event_lists.proofs.CountLemmas.{stands_below, stood_below, same_event}
use Rattle.event_lists.proofs.ListLemmas.{legal_begins, begins_trans, on_begins, stands_named}
use Rattle.event_lists.proofs.FenceLemmas.{received}
use Rattle.event_lists.proofs.ItemLemmas.{made_here, ended_at}
use Rattle.event_lists.proofs.WaitingLemmas.{Holds, waiting, ended_once}
use Rattle.event_lists.proofs.HandLemmas.{ends_hand, hand_sent}
use Rattle.event_lists.proofs.AgreedPassLemmas.{Agreed, rows_are_counts}

pub agreed : (ranks workers : ℕ) (before : List Mark) (x : Mark) (r : Receipt) → Legal ranks workers (x ∷ before) → x.event ≡ Receives r → (d : ℕ) × (r.pass ≡ suc (suc d)) × Agreed ranks workers r.fence (suc d) before
agreed ranks workers before x r h e =
    let a = received ranks workers before x r h.0 e in
    let g = a.3 in (
      g.0,
      g.1,
      record { legal = h.1; lacks = a.2; first = g.2; second = subst (λ (p : ℕ). IsComplete ranks r.fence p before) g.1 g.3; agree = g.4 },
    )

-- the rows of a receipt name the cut
pub is_cut : (n workers : ℕ) (whole before : List Mark) (x : Mark) (r : Receipt) → Legal (suc n) workers whole → Begins (x ∷ before) whole → x.event ≡ Receives r → IsCut whole before r
is_cut n workers whole before x r legal to e k m y i s =
    let h = legal_begins (suc n) workers (x ∷ before) whole to legal in
    let a = agreed (suc n) workers before x r h e in
    let below = stands_named (suc n) workers whole legal y s in
    let asks = (received (suc n) workers before x r h.0 e).3 in
    let row = asks.3 y.lane.rank below in
    let get : slice_get r.rows y.lane.rank ≡ Some row.0 = sym (asks.5.1 y.lane.rank below) ∙ row.1 in
    let at : row_of r.fence (suc (suc a.0)) (part (main_of y.lane.rank) before) ≡ Some row.0 = subst (λ (p : ℕ). row_of r.fence p (part (main_of y.lane.rank) before) ≡ Some row.0) a.1 row.1 in
    let is = rows_are_counts n workers r.fence a.0 before a.2 y.lane.rank below row.0 at k in
    let all = begins_trans before (x ∷ before) whole (x ∷ [], refl) to in (
      row.0,
      get,
      (
        (λ (b : Stands y before). omega (arith, is, stands_below (suc n) workers before h.1 k m y i b)),
        (λ (b : m < named k row.0). stood_below (suc n) workers all.0 before (subst (Legal (suc n) workers) all.1 legal) k m y i (subst (Stands y) all.1 s) (omega (arith, is, b))),
      ),
    )

-- where nothing waits, each message was handled once, where it was sent to
pub all_handled : (ranks workers : ℕ) (log : List Mark) → Legal ranks workers log → ((c : Item) → Holds (waiting log) c → ⊥) → AllHandledOnce log
all_handled ranks workers log h none r n to p s =
    let once = ended_once (Message r n) ranks workers log h (none (Message r n)) (made_here (Message r n) s.0 _ log (ap (λ (q : ℕ). Some (Message q n)) s.1) s.2) in
    let e = ended_at (Message r n) log (omega (arith, once)) in
    let legal = legal_begins ranks workers (e.0 ∷ e.1) log e.2 h in
    let hand = ends_hand e.0.event (Message r n) ranks e.1 e.0.lane (part e.0.lane e.1) legal.0.counting e.3 in
    let sent = hand_sent ranks workers e.1 legal.1 e.0.lane r n hand in
    let before = begins_trans e.1 (e.0 ∷ e.1) log (e.0 ∷ [], refl) e.2 in
    let same = same_event ranks workers log h sends n s.0 sent.1.0 (Sent n to p) (Sent n e.0.lane.rank sent.0) refl refl (s.1 ∙ sym sent.1.1) s.2 (on_begins sent.1.0 _ e.1 log before sent.1.2) in
    let event = same.1 in
    let there : e.0.lane.rank ≡ to = cc in
    let handled = is_handled e.0.event e.3 in
    (once, (e.0.lane, handled.0, there, on_begins e.0.lane (Handled handled.0 r n) (e.0 ∷ e.1) log e.2 (inl (refl, handled.1))))
  where
    is_handled : (e : Event) → ends e ≡ Some (Message r n) → (m : ℕ) × (e ≡ Handled m r n)
    is_handled (Handled m q k) i =
        let same : q ≡ r = cc in
        let number : k ≡ n = cc in
        (m, λ i. Handled m (same i) (number i))
    is_handled (Ran m q k) i = absurd (cc)
    is_handled e i = absurd (cc)

-- and each task ran once
pub all_ran : (ranks workers : ℕ) (log : List Mark) → Legal ranks workers log → ((c : Item) → Holds (waiting log) c → ⊥) → AllRanOnce log
all_ran ranks workers log h none r n t s = ended_once (Task r n) ranks workers log h (none (Task r n)) (made_here (Task r n) s.0 _ log (ap (λ (q : ℕ). Some (Task q n)) s.1) s.2)
