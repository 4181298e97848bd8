-- What a turn ends with: a verdict, or a state for the next turn.
use Rattle.std.proofs.Common.{◌≡◌, ℕ, suc, ◌<◌, List, [], ◌∷◌, length, refl, sym, ap, subst, ◌∙◌, inl, inr}
use Rattle.std.specs.Prelude.{None, slice_get}
use Rattle.app_core.specs.declared.label.Label.{Label}
use Rattle.app_core.specs.declared.outline.Outline.{Outline}
use Rattle.event_lists.specs.declared.event.Event.{Event}
use Rattle.event_lists.specs.declared.event.Event.TheVariants.{Receipt as Receives}
use Rattle.event_lists.specs.declared.receipt.Receipt.{Receipt}
use Rattle.event_lists.specs.declared.receipt.Row.{Row}
use Rattle.event_lists.specs.declared.mark.Mark.{Mark}
use Rattle.event_lists.specs.declared.lane.LaneName.{LaneName}
use Rattle.event_lists.specs.Events.{main_of, part, Begins, StandsOn}
use Rattle.event_lists.specs.Fences.{Fences, readings, passes, MayOpen, row_of, IsIdleIn, IsComplete, RowsAre, Receivable, Agree}
use Rattle.event_lists.specs.OwnEvents.{has_receipt_on_lane}
use Rattle.event_lists.specs.Legal.{Legal}
use Rattle.event_lists.specs.Laws.{ReceiptsAreQuiet}
use Rattle.event_lists.proofs.ListLemmas.{begins_refl, begins_more}
use Rattle.event_lists.proofs.FenceLemmas.{receipt_on}
use Rattle.world_words.specs.Lanes.{WordsView, LaneView, Grew}
use Rattle.fence_tree.specs.declared.rows.Sums.{Sums}
use Rattle.fence_tree.specs.declared.items.Verdict.{Verdict}
use Rattle.fence_tree.specs.declared.items.Verdict.TheVariants.{FirstPass, Moved, Done}
use Rattle.fence_tree.specs.Rows.{row_at, no_rows, sums_of, HasSubtree, AreRead}
use Rattle.fence_tree.specs.Verdicts.{AreSums, AreEqual, IsRight}
use Rattle.fence_tree.specs.Turns.{StateView, Knows, IsTurning, IsReached, Turned, IsQuietReceipt, HaveMoved, state_after}
use Rattle.fence_tree.proofs.TurnLemmas.{inside_after, idle, turned_one, no_row_read}
use Rattle.fence_tree.proofs.TreeLemmas.{are_sums, row_found, agreed, disagreed}

-- a verdict that the lane knows, at a rank without a receipt of its own
pub reached_by : {A : Type 0} (words : WordsView A) (s : StateView) (verdict : Verdict) (v : LaneView) → Knows words s (suc s.answered) v → IsRight words.ranks s.fence (suc s.answered) verdict v.seen → IsReached words s.rank s.fence s.answered verdict v
reached_by words s verdict v k right = record { read = k.read; right = right; no_receipt = λ not. k.no_receipt }

-- rank 0 has all rows
module _ {A : Type 0} (words : WordsView A) (s : StateView) (v : LaneView) (k : Knows words s (suc s.answered) v) (has : HasSubtree words.ranks 0 s.rows) where
  now_sums : (p : ℕ) → p ≡ suc s.answered → AreSums words.ranks s.fence p (sums_of s.rows words.ranks) v.seen
  now_sums p is = are_sums words.ranks s.fence p s.rows v.seen has (subst (λ (n : ℕ). AreRead s.fence n s.rows v.seen) (sym is) k.rows)

  pub first_right : s.answered ≡ 0 → (sums : Sums) → sums ≡ sums_of s.rows words.ranks → IsRight words.ranks s.fence (suc s.answered) (FirstPass sums) v.seen
  first_right zero_ sums is = (ap suc zero_, subst (λ (z : Sums). AreSums words.ranks s.fence 1 z v.seen) (sym is) (now_sums 1 (ap suc (sym zero_))))

  pub moved_right : (d : ℕ) → s.answered ≡ suc d → (sums : Sums) → sums ≡ sums_of s.rows words.ranks → (AreEqual s.last sums → ⊥) → IsRight words.ranks s.fence (suc s.answered) (Moved s.last sums) v.seen
  moved_right d e sums is differ = (d, ap suc e, k.last d e, subst (λ (z : Sums). AreSums words.ranks s.fence (suc s.answered) z v.seen) (sym is) (now_sums (suc s.answered) refl), differ)

  pub may_receive : (d : ℕ) → s.answered ≡ suc d → (sums : Sums) → sums ≡ sums_of s.rows words.ranks → AreEqual s.last sums → (rows : List Row) → length rows ≡ words.ranks → ((q : ℕ) → q < words.ranks → slice_get rows q ≡ row_at s.rows q)
      → (r : Receipt) → r.fence ≡ s.fence → r.pass ≡ suc s.answered → r.rows ≡ rows → Receivable words.ranks v.seen r
  may_receive d e sums is equal rows long are r fence pass has_rows =
      subst (λ (f : ℕ). (d : ℕ) × (r.pass ≡ suc (suc d)) × IsComplete words.ranks f (suc d) v.seen × IsComplete words.ranks f r.pass v.seen × Agree words.ranks f (suc d) v.seen × RowsAre words.ranks f r.pass v.seen r.rows) (sym fence) (
        d,
        pass ∙ ap suc e,
        (k.last d e).complete,
        subst (λ (p : ℕ). IsComplete words.ranks s.fence p v.seen) (sym pass) (now_sums (suc s.answered) refl).complete,
        agreed words.ranks s.fence d s.last (sums_of s.rows words.ranks) v.seen (k.last d e) (now_sums (suc (suc d)) (ap suc (sym e))) (subst (AreEqual s.last) is equal),
        (
          ap length has_rows ∙ long,
          λ q lt. subst (λ (p : ℕ). row_of s.fence p (part (main_of q) v.seen) ≡ slice_get r.rows q) (sym pass)
              (row_found words.ranks s.fence (suc s.answered) s.rows v.seen has k.rows q lt ∙ sym (are q lt) ∙ ap (λ (z : List Row). slice_get z q) (sym has_rows)),
        ),
      )

  pub fences_receipt : s.rank ≡ 0 → (r : Receipt) → r.fence ≡ s.fence → Receivable words.ranks v.seen r → Fences words.ranks v.seen v.name v.mine (Receives r)
  fences_receipt root r fence may =
      let i = k.read.lane in
      let name : v.name ≡ main_of 0 = i.name ∙ ap main_of root in (
        name,
        subst (λ (f : ℕ). IsIdleIn v.name v.mine f) (sym fence) (idle words s.rank s.fence v i),
        receipt_on words.ranks words.workers v.seen i.legal r.fence ∙ ap (has_receipt_on_lane r.fence) (ap (λ (l : LaneName). part l v.seen) (sym name) ∙ i.own) ∙ ap (λ (f : ℕ). has_receipt_on_lane f v.mine) fence ∙ k.no_receipt,
        may,
      )

  module _ (may : Label → List Outline → Type 0) (root : s.rank ≡ 0) (r : Receipt) (fence : r.fence ≡ s.fence) (new : LaneView) (g : Grew words may (Receives r) None v new) where
    pub received : IsReached words s.rank s.fence s.answered (Done r) new
    received = record {
      read = record {
        lane = inside_after words may v new s.rank s.fence (Receives r) g k.read.lane refl refl refl;
        passes = ap (λ (es : List Event). passes (readings es)) g.event ∙ k.read.passes;
        ended = subst (λ (es : List Event). MayOpen (readings es)) (sym g.event) k.read.ended;
      };
      right = (fence, subst (StandsOn (main_of 0) (Receives r)) (sym g.now) (inl (k.read.lane.name ∙ ap main_of root, refl)));
      no_receipt = λ not. absurd (not r refl);
    }

    pub receipt_turned : Turned s.fence v new
    receipt_turned = turned_one words may v new s.fence (Receives r) g fence k.read.lane.owes refl refl

-- the state after a verdict that isn't a receipt
concluded_rows : (f p : ℕ) (log : List Mark) → AreRead f p no_rows log
concluded_rows f p log = no_row_read f p log

pub concluded : {A : Type 0} (words : WordsView A) (s : StateView) (verdict : Verdict) (v : LaneView) → words.ranks ≡ s.ranks → IsReached words s.rank s.fence s.answered verdict v → ((r : Receipt) → verdict ≡ Done r → ⊥) → IsTurning words (state_after verdict s) v
concluded words s (FirstPass sums) v ranks h not = record {
  knows = record {
    ranks = ranks;
    read = h.read;
    no_receipt = h.no_receipt not;
    rows = concluded_rows s.fence (suc (suc s.answered)) v.seen;
    last = λ d e. subst (λ (p : ℕ). AreSums words.ranks s.fence p sums v.seen) (sym h.right.0 ∙ e) h.right.1;
  };
  gathered = refl;
}
concluded words s (Moved a b) v ranks h not = record {
  knows = record {
    ranks = ranks;
    read = h.read;
    no_receipt = h.no_receipt not;
    rows = concluded_rows s.fence (suc (suc s.answered)) v.seen;
    last = λ d e. subst (λ (p : ℕ). AreSums words.ranks s.fence p b v.seen) e h.right.3;
  };
  gathered = refl;
}
concluded words s (Done r) v ranks h not = absurd (not r refl)

-- a receipt in a legal list is quiet
on_list : (l : LaneName) (e : Event) (log : List Mark) → StandsOn l e log → (x : Mark) × (earlier : List Mark) × (x.lane ≡ l) × (x.event ≡ e) × Begins (x ∷ earlier) log
on_list l e [] on = elim on [ ]
on_list l e (x ∷ log) (inl here) = (x, log, here.0, here.1, begins_refl (x ∷ log))
on_list l e (x ∷ log) (inr on) = let f = on_list l e log on in (f.0, f.1, f.2, f.3, begins_more (f.0 ∷ f.1) log x f.4)

pub quiet_receipt : {A : Type 0} (words : WordsView A) (fence : ℕ) (r : Receipt) (log : List Mark) → ReceiptsAreQuiet → Legal words.ranks words.workers log → (r.fence ≡ fence) × StandsOn (main_of 0) (Receives r) log → IsQuietReceipt fence r log
quiet_receipt words fence r log law legal (is, on) =
    let f = on_list (main_of 0) (Receives r) log on in
    (is, f.0, f.1, f.2, f.3, f.4, law words.ranks words.workers log f.1 f.0 r legal f.4 f.3)

pub have_moved : {A : Type 0} (words : WordsView A) (fence p : ℕ) (a b : Sums) (log : List Mark) → IsRight words.ranks fence p (Moved a b) log → HaveMoved words.ranks fence p a b log
have_moved words fence p a b log (d, is, one, two, differ) = record {
  before = d;
  above = is;
  one = one;
  two = two;
  differ = λ agree. differ (disagreed words.ranks fence d a b log one (subst (λ (n : ℕ). AreSums words.ranks fence n b log) is two) agree);
}
