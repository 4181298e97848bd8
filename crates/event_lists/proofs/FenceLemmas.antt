-- Lemmas that crates above use: rows, completed passes and receipts last, and receipts are on one lane.
use Rattle.std.proofs.Common.{◌≡◌, ℕ, suc, ◌<◌, Bool, true, false, List, [], ◌∷◌, ◌++◌, refl, sym, ap, ◌∙◌, subst}
use Rattle.std.specs.Prelude.{Some, if◌then◌else◌, ◌||◌}
use Rattle.std.proofs.lemmas.Bool.{or_right, both_ways, false_from_ne_true}
use Rattle.event_lists.specs.declared.lane.LaneName.{LaneName}
use Rattle.event_lists.specs.declared.event.Event.{Event}
use Rattle.event_lists.specs.declared.event.Event.TheVariants.{Receipt as Receives}
use Rattle.event_lists.specs.declared.receipt.Row.{Row}
use Rattle.event_lists.specs.declared.receipt.Receipt.{Receipt}
use Rattle.event_lists.specs.declared.mark.Mark.{Mark}
use Rattle.event_lists.specs.declared.kind.Kind.{Kind}
use Rattle.event_lists.specs.declared.kind.Kind.TheVariants.{Sends as sends, Handlings as handlings, Submissions as submissions, Runs as runs}
use Rattle.event_lists.specs.declared.kind.Reading.{Reading}
use Rattle.event_lists.specs.Events.{same_lane, main_of, part, Begins}
use Rattle.event_lists.specs.Fences.{Fences, IsComplete, IsReady, InOrder, Agree, RowsAre, Receivable, total_sent, total_handled, sent_in, handled_in, row_of, is_receipt, has_receipt}
use Rattle.event_lists.specs.Legal.{Legal, May}
use Rattle.event_lists.specs.OwnEvents.{has_receipt_on_lane}
use Rattle.event_lists.proofs.MomentLemmas.{row_kept}
use Rattle.event_lists.proofs.LaneLemmas.{same_lane_refl}
use Rattle.event_lists.proofs.ListLemmas.{legal_begins}
use Rattle.event_lists.proofs.SumLemmas.{same_sum}

-- what a receipt asks of the list before it
pub received : (ranks workers : ℕ) (before : List Mark) (x : Mark) (r : Receipt) → May ranks workers before x → x.event ≡ Receives r → Fences ranks before x.lane (part x.lane before) (Receives r)
received ranks workers before x r may e = subst (λ (z : Event). Fences ranks before x.lane (part x.lane before) z) e may.fences

-- an event that is a receipt is on the lane of rank 0's main
pub receipt_lane : (ranks : ℕ) (log : List Mark) (l : LaneName) (mine : List Event) (e : Event) (f : ℕ) → Fences ranks log l mine e → is_receipt f e ≡ true → l ≡ main_of 0
receipt_lane ranks log l mine (Receives r) f a t = a.0
receipt_lane ranks log l mine e f a t = absurd (cc)

-- whether a fence has a receipt is found on that lane
pub receipt_on : (ranks workers : ℕ) (log : List Mark) → Legal ranks workers log → (f : ℕ) → has_receipt f log ≡ has_receipt_on_lane f (part (main_of 0) log)
receipt_on ranks workers [] h f = refl
receipt_on ranks workers (x ∷ log) h f = go (receipt_on ranks workers log h.1 f) (same_lane x.lane (main_of 0)) refl
  where
    go : has_receipt f log ≡ has_receipt_on_lane f (part (main_of 0) log) → (b : Bool) → same_lane x.lane (main_of 0) ≡ b
        → (is_receipt f x.event || has_receipt f log) ≡ has_receipt_on_lane f (if b then x.event ∷ part (main_of 0) log else part (main_of 0) log)
    go rest true e = ap (λ z. is_receipt f x.event || z) rest
    go rest false e =
        let none : is_receipt f x.event ≡ false = false_from_ne_true (is_receipt f x.event) (λ t.
        let s = receipt_lane ranks log x.lane (part x.lane log) x.event f h.0.fences t in
        both_ways (same_lane x.lane (main_of 0)) e (subst (λ (m : LaneName). same_lane x.lane m ≡ true) s (same_lane_refl x.lane))) in
        ap (λ z. z || has_receipt f log) none ∙ rest

pub receipt_lasts : (old log : List Mark) → Begins old log → (f : ℕ) → has_receipt f old ≡ true → has_receipt f log ≡ true
receipt_lasts old log b f t = subst (λ (z : List Mark). has_receipt f z ≡ true) (sym b.1) (more b.0)
  where
    more : (xs : List Mark) → has_receipt f (xs ++ old) ≡ true
    more [] = t
    more (x ∷ xs) = or_right (is_receipt f x.event) (has_receipt f (xs ++ old)) (more xs)

module _ (ranks workers : ℕ) (old log : List Mark) (legal : Legal ranks workers log) (beg : Begins old log) where
  -- a pass that a rank completed keeps its row
  pub row_lasts : (q f p : ℕ) (row : Row) → row_of f p (part (main_of q) old) ≡ Some row → row_of f p (part (main_of q) log) ≡ Some row
  row_lasts q f p row i = subst (λ (z : List Mark). row_of f p (part (main_of q) z) ≡ Some row) (sym beg.1) (row_kept ranks workers q beg.0 old (subst (Legal ranks workers) beg.1 legal) f p row i)

  -- a pass that is complete at every rank stays so, with its sums
  pub complete_lasts : (f p : ℕ) → IsComplete ranks f p old → IsComplete ranks f p log
  complete_lasts f p done q c = let row = done q c in (row.0, row_lasts q f p row.0 row.1)

  rows_same : (f p : ℕ) → IsComplete ranks f p old → (q : ℕ) → q < ranks → row_of f p (part (main_of q) log) ≡ row_of f p (part (main_of q) old)
  rows_same f p done q c = let row = done q c in row_lasts q f p row.0 row.1 ∙ sym row.1

  pub sent_lasts : (f p : ℕ) → IsComplete ranks f p old → total_sent ranks f p log ≡ total_sent ranks f p old
  sent_lasts f p done = same_sum _ _ ranks (λ q c. ap sent_in (rows_same f p done q c))

  pub handled_lasts : (f p : ℕ) → IsComplete ranks f p old → total_handled ranks f p log ≡ total_handled ranks f p old
  handled_lasts f p done = same_sum _ _ ranks (λ q c. ap handled_in (rows_same f p done q c))

  pub agree_lasts : (f p : ℕ) → IsComplete ranks f p old → IsComplete ranks f (suc p) old → Agree ranks f p old → Agree ranks f p log
  agree_lasts f p one two a = record {
    first = sent_lasts f p one ∙ a.first ∙ sym (handled_lasts f p one);
    sent_again = sent_lasts f (suc p) two ∙ a.sent_again ∙ sym (sent_lasts f p one);
    handled_again = handled_lasts f (suc p) two ∙ a.handled_again ∙ sym (handled_lasts f p one);
  }

  pub rows_last : (f p : ℕ) (rows : List Row) → IsComplete ranks f p old → RowsAre ranks f p old rows → RowsAre ranks f p log rows
  rows_last f p rows done a = (a.0, λ q c. rows_same f p done q c ∙ a.1 q c)

  -- so what a receipt asks of the passes holds from then on
  pub receivable_lasts : (r : Receipt) → Receivable ranks old r → Receivable ranks log r
  receivable_lasts r (d, pass, one, two, agree, rows) = (
    d,
    pass,
    complete_lasts r.fence (suc d) one,
    complete_lasts r.fence r.pass two,
    agree_lasts r.fence (suc d) one (subst (λ (z : ℕ). IsComplete ranks r.fence z old) pass two) agree,
    rows_last r.fence r.pass r.rows two rows,
  )

  ready_lasts : (f p : ℕ) → IsReady ranks f p old → IsReady ranks f p log
  ready_lasts f p ready d is = complete_lasts f (suc d) (ready d is)

  -- and a reading stays in its order
  pub order_lasts : (rs : List Reading) (k : Kind) (f p : ℕ) → InOrder ranks old rs k f p → InOrder ranks log rs k f p
  order_lasts rs handlings f p o = (o.0, ready_lasts f p o.1)
  order_lasts rs runs f p o = o
  order_lasts rs submissions f p o = o
  order_lasts rs sends f p o = o

  -- a fence without a receipt stays so where the lane of rank 0's main does
  pub no_receipt_lasts : (mine : List Event) → part (main_of 0) old ≡ mine → part (main_of 0) log ≡ mine → (f : ℕ) → has_receipt f old ≡ false → has_receipt f log ≡ false
  no_receipt_lasts mine own whole f none =
      receipt_on ranks workers log legal f ∙ ap (has_receipt_on_lane f) (whole ∙ sym own) ∙ sym (receipt_on ranks workers old (legal_begins ranks workers old log beg legal) f) ∙ none
