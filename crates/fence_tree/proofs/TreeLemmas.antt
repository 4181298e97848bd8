-- Subtrees of ranks, and rows of them.
use Rattle.std.proofs.Common.{◌≡◌, ◌⊎◌, ℕ, zero, suc, ◌+◌, ◌*◌, ◌/◌, ◌%◌, ◌-◌, ◌<◌, ◌≤◌, List, refl, sym, ap, subst, ◌∙◌, inl, inr, ⊎_elim, arith}
use Rattle.std.specs.Prelude.{Option, Some, None}
use Rattle.std.proofs.lemmas.Nat.{div-add-mod', shr_le, mod_below}
use Rattle.event_lists.specs.declared.receipt.Row.{Row}
use Rattle.event_lists.specs.declared.mark.Mark.{Mark}
use Rattle.event_lists.specs.Events.{main_of, part, Begins}
use Rattle.event_lists.specs.Fences.{row_of, sent_in, handled_in, Agree}
use Rattle.event_lists.proofs.SumLemmas.{same_sum}
use Rattle.app_core.specs.declared.label.Label.{Label}
use Rattle.app_core.specs.declared.outline.Outline.{Outline}
use Rattle.world_words.specs.Lanes.{WordsView, LaneView}
use Rattle.fence_tree.specs.Turns.{StateView, Knows}
use Rattle.fence_tree.proofs.TurnLemmas.{Still, knows_still, read_lasts}
use Rattle.fence_tree.specs.declared.rows.Sums.{Sums}
use Rattle.fence_tree.specs.Trees.{parent, ancestor, IsInSubtree}
use Rattle.fence_tree.specs.Rows.{row_at, row_or, sums_of, HasSubtree, AreRead}
use Rattle.fence_tree.specs.Verdicts.{AreSums, AreEqual, ReportView, IsReport}

-- a rank is no more than what is in its subtree
ancestor_below : (n q : ℕ) → ancestor n q ≤ q - n
ancestor_below zero q = omega arith
ancestor_below (suc n) q = let b = ancestor_below n q in let h = shr_le (ancestor n q - 1) 1 in omega (arith, b, h)

pub below_subtree : (r q : ℕ) → IsInSubtree r q → r ≤ q
below_subtree r q (n, e) = let b = ancestor_below n q in omega (arith, b, e)

-- all ranks are in that of rank 0
pub all_in_zero : (q : ℕ) → IsInSubtree 0 q
all_in_zero q = (q, (let b = ancestor_below q q in omega (arith, b)))

is_child : (c r : ℕ) → parent (suc c) ≡ r → (suc c ≡ 2 * r + 1) ⊎ (suc c ≡ 2 * r + 2)
is_child c r e = go (c % 2) (mod_below c 2 (omega arith)) (div-add-mod' c 2)
  where
    go : (m : ℕ) → m < 2 → c / 2 * 2 + m ≡ c → (suc c ≡ 2 * r + 1) ⊎ (suc c ≡ 2 * r + 2)
    go zero lt is = inl (omega (arith, e, is))
    go (suc zero) lt is = inr (omega (arith, e, is))
    go (suc (suc m)) lt is = absurd (omega (arith, lt))

-- what is in the subtree of a rank is the rank, or in that of a child
steps : (r q n : ℕ) → ancestor n q ≡ r → (q ≡ r) ⊎ (IsInSubtree (2 * r + 1) q ⊎ IsInSubtree (2 * r + 2) q)
steps r q zero e = inl e
steps r q (suc n) e = go (λ is. steps r q n is) (ancestor n q) refl
  where
    go : (ancestor n q ≡ r → (q ≡ r) ⊎ (IsInSubtree (2 * r + 1) q ⊎ IsInSubtree (2 * r + 2) q)) → (c : ℕ) → ancestor n q ≡ c → (q ≡ r) ⊎ (IsInSubtree (2 * r + 1) q ⊎ IsInSubtree (2 * r + 2) q)
    go before zero is = before (is ∙ sym (ap parent is) ∙ e)
    go before (suc c) is = inr (⊎_elim (λ a. inl (n, is ∙ a)) (λ b. inr (n, is ∙ b)) (is_child c r (sym (ap parent is) ∙ e)))

pub gathered : (ranks r : ℕ) (rows : List (Option Row)) → (row : Row) × (row_at rows r ≡ Some row) → HasSubtree ranks (2 * r + 1) rows → HasSubtree ranks (2 * r + 2) rows → HasSubtree ranks r rows
gathered ranks r rows own first second q (n, e) lt =
    ⊎_elim (λ same. subst (λ (z : ℕ). (row : Row) × (row_at rows z ≡ Some row)) (sym same) own) (λ under. ⊎_elim (λ a. first q a lt) (λ b. second q b lt) under) (steps r q n e)

-- there is no such child
pub no_child : (ranks child : ℕ) (rows : List (Option Row)) → ranks ≤ child → HasSubtree ranks child rows
no_child ranks child rows le q under lt = let b = below_subtree child q under in absurd (omega (arith, b, lt, le))

pub still_has : (ranks r : ℕ) (old new : List (Option Row)) → ((q : ℕ) (row : Row) → row_at old q ≡ Some row → (other : Row) × (row_at new q ≡ Some other)) → HasSubtree ranks r old → HasSubtree ranks r new
still_has ranks r old new kept has q under lt = let a = has q under lt in kept q a.0 a.1

-- rows that were added
module _ (now others old : List (Option Row)) (is : (q : ℕ) → row_at now q ≡ row_or (row_at others q) (row_at old q)) where
  pub added_has : (ranks r : ℕ) → HasSubtree ranks r others → HasSubtree ranks r now
  added_has ranks r has q under lt = let a = has q under lt in (a.0, is q ∙ ap (λ (o : Option Row). row_or o (row_at old q)) a.1)

  pub added_kept : (q : ℕ) (row : Row) → row_at old q ≡ Some row → (other : Row) × (row_at now q ≡ Some other)
  added_kept q row e = go (row_at others q) refl
    where
      go : (o : Option Row) → row_at others q ≡ o → (other : Row) × (row_at now q ≡ Some other)
      go None i = (row, is q ∙ ap (λ (o : Option Row). row_or o (row_at old q)) i ∙ e)
      go (Some other) i = (other, is q ∙ ap (λ (o : Option Row). row_or o (row_at old q)) i)

  pub added_read : (f p : ℕ) (log : List Mark) → AreRead f p others log → AreRead f p old log → AreRead f p now log
  added_read f p log one two q row e = go (row_at others q) refl
    where
      go : (o : Option Row) → row_at others q ≡ o → row_of f p (part (main_of q) log) ≡ Some row
      go None i = two q row (sym (is q ∙ ap (λ (o : Option Row). row_or o (row_at old q)) i) ∙ e)
      go (Some other) i = one q row (i ∙ sym (is q ∙ ap (λ (o : Option Row). row_or o (row_at old q)) i) ∙ e)

-- rows of all ranks
module _ (ranks f p : ℕ) (rows : List (Option Row)) (log : List Mark) (has : HasSubtree ranks 0 rows) (read : AreRead f p rows log) where
  pub all_there : (q : ℕ) → q < ranks → (row : Row) × (row_at rows q ≡ Some row)
  all_there q lt = has q (all_in_zero q) lt

  pub row_found : (q : ℕ) → q < ranks → row_of f p (part (main_of q) log) ≡ row_at rows q
  row_found q lt = let a = all_there q lt in read q a.0 a.1 ∙ sym a.1

  pub are_sums : AreSums ranks f p (sums_of rows ranks) log
  are_sums = record {
    complete = λ q lt. let a = all_there q lt in (a.0, read q a.0 a.1);
    sent = same_sum _ _ ranks (λ q lt. ap sent_in (sym (row_found q lt)));
    handled = same_sum _ _ ranks (λ q lt. ap handled_in (sym (row_found q lt)));
  }

-- sums that are equal agree
pub agreed : (ranks f d : ℕ) (a b : Sums) (log : List Mark) → AreSums ranks f (suc d) a log → AreSums ranks f (suc (suc d)) b log → AreEqual a b → Agree ranks f (suc d) log
agreed ranks f d a b log one two e = record {
  first = sym one.sent ∙ e.first ∙ one.handled;
  sent_again = sym two.sent ∙ e.sent_again ∙ one.sent;
  handled_again = sym two.handled ∙ e.handled_again ∙ one.handled;
}

pub disagreed : (ranks f d : ℕ) (a b : Sums) (log : List Mark) → AreSums ranks f (suc d) a log → AreSums ranks f (suc (suc d)) b log → Agree ranks f (suc d) log → AreEqual a b
disagreed ranks f d a b log one two e = record {
  first = one.sent ∙ e.first ∙ sym one.handled;
  sent_again = two.sent ∙ e.sent_again ∙ sym one.sent;
  handled_again = two.handled ∙ e.handled_again ∙ sym one.handled;
}

-- the rows of a report that was learnt
module _ {A : Type 0} (words : WordsView A) (may : Label → List Outline → Type 0) (s : StateView) (n : ℕ) (old new : LaneView) (still : Still words may old new) (k : Knows words s n old)
    (report : ReportView) (is : IsReport words report) (others now : List (Option Row)) (same : others ≡ report.rows) (added : (q : ℕ) → row_at now q ≡ row_or (row_at others q) (row_at s.rows q)) where
  pub gather_knows : report.fence ≡ s.fence → report.pass ≡ suc s.answered → Begins report.told.seen new.seen → Knows words (record s { rows = now }) n new
  gather_knows fence pass learnt =
      let after = knows_still words may old new still s n k in
      let told : AreRead report.fence report.pass report.rows new.seen = read_lasts words.ranks words.workers report.told.seen new.seen still.legal learnt report.fence report.pass report.rows is.read in
      let ours : AreRead s.fence (suc s.answered) others new.seen =
      subst (λ (z : List (Option Row)). AreRead s.fence (suc s.answered) z new.seen) (sym same)
      (subst (λ (f : ℕ). AreRead f (suc s.answered) report.rows new.seen) fence (subst (λ (p : ℕ). AreRead report.fence p report.rows new.seen) pass told)) in
      record {
        ranks = after.ranks;
        read = after.read;
        no_receipt = after.no_receipt;
        rows = added_read now others s.rows added s.fence (suc s.answered) new.seen ours after.rows;
        last = after.last;
      }

  pub gather_subtree : (child : ℕ) → report.rank ≡ child → HasSubtree words.ranks child now
  gather_subtree child rank = added_has now others s.rows added words.ranks child
      (subst (λ (z : List (Option Row)). HasSubtree words.ranks child z) (sym same) (subst (λ (r : ℕ). HasSubtree words.ranks r report.rows) rank is.subtree))
