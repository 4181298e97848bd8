-- Lemmas that crates above use: what a receipt tells, from its two passes.
use Rattle.std.proofs.Common.{length, ◌∙◌, inl, inr, ◌≡◌, ℕ, zero, suc, ◌<◌, false, List, [], ◌∷◌, refl, sym, ap, subst, arith}
use Rattle.std.specs.Prelude.{slice_get, Option, Some, None}
use Rattle.app_core.specs.declared.label.Label.{Label}
use Rattle.event_lists.specs.declared.event.Event.{Event}
use Rattle.event_lists.specs.declared.event.Event.TheVariants.{Sent, TookMessage, TookTask, Handled, Submitted, Ran, Gave, Receipt as Receives}
use Rattle.event_lists.specs.declared.event.Parcel.{Parcel}
use Rattle.event_lists.specs.declared.event.Parcel.TheVariants.{Give}
use Rattle.event_lists.specs.declared.mark.Item.TheVariants.{Message, Task}
use Rattle.event_lists.specs.Counting.{Counting}
use Rattle.event_lists.specs.Dues.{Dues, Carries, KeepsDue}
use Rattle.event_lists.specs.declared.future.Future.{Future}
use Rattle.event_lists.specs.Futures.{due_of, times_given}
use Rattle.event_lists.specs.declared.receipt.Receipt.{Receipt}
use Rattle.event_lists.specs.declared.receipt.Row.{Row}
use Rattle.event_lists.specs.declared.mark.Item.{Item}
use Rattle.event_lists.specs.declared.mark.Mark.{Mark}
use Rattle.event_lists.specs.declared.kind.Kind.{Kind}
use Rattle.event_lists.specs.Events.{Begins, part, main_of, in_hand, makes, takes, count, times_made, times_ended}
use Rattle.event_lists.specs.Fences.{row_of, IsComplete}
use Rattle.event_lists.specs.Quiet.{Quiet, named}
use Rattle.event_lists.specs.Laws.{Received, is_work}
use Rattle.event_lists.specs.Legal.{Legal}
use Rattle.event_lists.proofs.LastingDueLemmas.{due_given}
use Rattle.event_lists.proofs.ListLemmas.{legal_begins, begins_tail}
use Rattle.event_lists.proofs.WaitingLemmas.{Holds, waiting, all_ended, made_now, made_waits, hand_waits}
use Rattle.event_lists.proofs.ItemLemmas.{took_fresh}
use Rattle.event_lists.proofs.FenceLemmas.{received, complete_lasts}
use Rattle.event_lists.proofs.AgreedPassLemmas.{rows_are_counts, settled, settled_end, rows_are_equal}
use Rattle.event_lists.proofs.CutLemmas.{agreed, is_cut, all_handled, all_ran}
use Rattle.event_lists.proofs.GiveLemmas.{all_given}

-- a receipt has a row for each rank
pub receipt_length : (ranks workers : ℕ) (before : List Mark) (x : Mark) (r : Receipt) → Legal ranks workers (x ∷ before) → x.event ≡ Receives r → length r.rows ≡ ranks
receipt_length ranks workers before x r h e = (received ranks workers before x r h.0 e).3.5.0

-- and each is what was counted before it
pub receipt_row : (ranks workers : ℕ) (before : List Mark) (x : Mark) (r : Receipt) → Legal ranks workers (x ∷ before) → x.event ≡ Receives r → (q : ℕ) → q < ranks
    → (row : Row) × (slice_get r.rows q ≡ Some row) × ((k : Kind) → named k row ≡ count k q before)
receipt_row zero workers before x r h e q b = absurd (omega arith)
receipt_row (suc n) workers before x r h e q b =
    let a = agreed (suc n) workers before x r h e in
    let asks = (received (suc n) workers before x r h.0 e).3 in
    let row = asks.3 q b in
    let at : row_of r.fence (suc (suc a.0)) (part (main_of q) before) ≡ Some row.0 = subst (λ (p : ℕ). row_of r.fence p (part (main_of q) before) ≡ Some row.0) a.1 row.1 in
    (row.0, sym (asks.5.1 q b) ∙ row.1, λ k. rows_are_counts n workers r.fence a.0 before a.2 q b row.0 at k)

same_pass : (d p pass : ℕ) → pass ≡ suc (suc d) → pass ≡ suc p → p ≡ suc d
same_pass d p pass i j = omega arith

pub frozen : (ranks workers : ℕ) (before : List Mark) (x : Mark) (r : Receipt) (p : ℕ) → Received ranks workers before x r p → (q : ℕ) → q < ranks → row_of r.fence p (part (main_of q) before) ≡ row_of r.fence (suc p) (part (main_of q) before)
frozen zero workers before x r p h q b = absurd (omega arith)
frozen (suc n) workers before x r p h q b =
    let a = agreed (suc n) workers before x r h.legal h.is in
    let is = same_pass a.0 p r.pass a.1 h.last in
    subst (λ (z : ℕ). row_of r.fence z (part (main_of q) before) ≡ row_of r.fence (suc z) (part (main_of q) before)) (sym is) (rows_are_equal n workers r.fence a.0 before a.2 q b)

pub open_none : (ranks workers : ℕ) (before : List Mark) (x : Mark) (r : Receipt) (p : ℕ) → Received ranks workers before x r p → (at : List Mark) → Begins at before → IsComplete ranks r.fence p at → (c : Item) → times_ended c at ≡ times_made c at
open_none zero workers before x r p h at to done c = let b = h.legal.0.named.0 in absurd (omega arith)
open_none (suc n) workers before x r p h at to done c =
    let a = agreed (suc n) workers before x r h.legal h.is in
    let is = same_pass a.0 p r.pass a.1 h.last in
    let s = settled n workers r.fence a.0 before a.2 at to (subst (λ (z : ℕ). IsComplete (suc n) r.fence z at) is done) in
    all_ended c (suc n) workers at (legal_begins (suc n) workers at before to h.legal.1) (s.now c)

pub change_none : (ranks workers : ℕ) (before : List Mark) (x : Mark) (r : Receipt) (p : ℕ) → Received ranks workers before x r p → (at : List Mark) → Begins at before → IsComplete ranks r.fence p at → (k : Kind) (q : ℕ) → count k q before ≡ count k q at
change_none zero workers before x r p h at to done k q = let b = h.legal.0.named.0 in absurd (omega arith)
change_none (suc n) workers before x r p h at to done k q =
    let a = agreed (suc n) workers before x r h.legal h.is in
    let is = same_pass a.0 p r.pass a.1 h.last in
    (settled n workers r.fence a.0 before a.2 at to (subst (λ (z : ℕ). IsComplete (suc n) r.fence z at) is done)).counts_stay k q

-- where nothing waits, before an event and after it, it doesn't work
idle : (ranks workers : ℕ) (log : List Mark) (y : Mark) → Legal ranks workers (y ∷ log) → ((c : Item) → Holds (waiting log) c → ⊥) → ((c : Item) → Holds (waiting (y ∷ log)) c → ⊥) → is_work y.event ≡ false
idle ranks workers log y h none_before none_after = go y.event refl h.0.counting h.0.dues
  where
    hand_none : (c : Item) → in_hand (part y.lane log) ≡ Some c → ⊥
    hand_none c i = none_before c (hand_waits ranks workers log h.1 y.lane c i)

    takes_none : (e : Event) (c : Item) → Counting ranks log y.lane (part y.lane log) e → takes e ≡ Some c → ⊥
    takes_none e c a t = let f = took_fresh c e ranks log y.lane (part y.lane log) a t in none_before c (made_waits ranks workers log h.1 c f.0 f.1)

    carried : (h : Option Item) (p : Parcel) → in_hand (part y.lane log) ≡ h → Carries h p log → ⊥
    carried None p i c = c
    carried (Some d) p i c = hand_none d i

    kept : (h : Option Item) (d : Label) → in_hand (part y.lane log) ≡ h → KeepsDue h d log (part y.lane log) → ⊥
    kept None d i k = k
    kept (Some c) d i k = hand_none c i

    go : (e : Event) → y.event ≡ e → Counting ranks log y.lane (part y.lane log) e → Dues log y.lane (part y.lane log) e → is_work e ≡ false
    go (Sent n to p) i a d = absurd (none_after (Message y.lane.rank n) (made_now y log (Message y.lane.rank n) (ap (makes y.lane.rank) i)))
    go (Submitted n t) i a d = absurd (none_after (Task y.lane.rank n) (made_now y log (Task y.lane.rank n) (ap (makes y.lane.rank) i)))
    go (TookMessage r n) i a d = absurd (takes_none (TookMessage r n) (Message r n) a refl)
    go (TookTask r n) i a d = absurd (takes_none (TookTask r n) (Task r n) a refl)
    go (Handled n r m) i a d = absurd (hand_none (Message r m) a.1)
    go (Ran n r t) i a d = absurd (hand_none (Task r t) a.1)
    go (Gave f) i a (inl d) = absurd (carried (in_hand (part y.lane log)) (Give f) refl d.0)
    go (Gave f) i a (inr d) = absurd (kept (in_hand (part y.lane log)) f refl d)
    go _ i a d = refl

pub done_none : (ranks workers : ℕ) (before : List Mark) (x : Mark) (r : Receipt) (p : ℕ) → Received ranks workers before x r p → (at : List Mark) → IsComplete ranks r.fence p at → (y : Mark) (earlier : List Mark) → Begins at earlier → Begins (y ∷ earlier) before → is_work y.event ≡ false
done_none zero workers before x r p h at done y earlier from to = let b = h.legal.0.named.0 in absurd (omega arith)
done_none (suc n) workers before x r p h at done y earlier from to =
    let a = agreed (suc n) workers before x r h.legal h.is in
    let is = same_pass a.0 p r.pass a.1 h.last in
    let now = legal_begins (suc n) workers (y ∷ earlier) before to h.legal.1 in
    let to_earlier = begins_tail y earlier before to in
    let first = complete_lasts (suc n) workers at earlier now.1 from r.fence p done in
    let second = complete_lasts (suc n) workers earlier (y ∷ earlier) now (y ∷ [], refl) r.fence p first in
    let s = settled n workers r.fence a.0 before a.2 earlier to_earlier (subst (λ (z : ℕ). IsComplete (suc n) r.fence z earlier) is first) in
    let t = settled n workers r.fence a.0 before a.2 (y ∷ earlier) to (subst (λ (z : ℕ). IsComplete (suc n) r.fence z (y ∷ earlier)) is second) in
    idle (suc n) workers earlier y now s.now t.now

pub dues_given : (ranks workers : ℕ) (before : List Mark) (x : Mark) (r : Receipt) (p : ℕ) → Received ranks workers before x r p → (c : Item) (f : Future) → due_of c before ≡ Some f → times_given f before ≡ 1
dues_given zero workers before x r p h c f i = let b = h.legal.0.named.0 in absurd (omega arith)
dues_given (suc n) workers before x r p h c f i =
    let a = agreed (suc n) workers before x r h.legal h.is in
    due_given (suc n) workers before h.legal.1 (settled_end n workers r.fence a.0 before a.2) c f i

pub quiet : (ranks workers : ℕ) (whole before : List Mark) (x : Mark) (r : Receipt) → Legal ranks workers whole → Begins (x ∷ before) whole → x.event ≡ Receives r → Quiet whole before r
quiet zero workers whole before x r h to e = let b = (legal_begins zero workers (x ∷ before) whole to h).0.named.0 in absurd (omega arith)
quiet (suc n) workers whole before x r h to e =
    let legal = legal_begins (suc n) workers (x ∷ before) whole to h in
    let a = agreed (suc n) workers before x r legal e in
    let none = settled_end n workers r.fence a.0 before a.2 in
    record {
      cut = is_cut n workers whole before x r h to e;
      messages = all_handled (suc n) workers before legal.1 none;
      tasks_ran = all_ran (suc n) workers before legal.1 none;
      needs_given = all_given (suc n) workers before legal.1 none;
    }
