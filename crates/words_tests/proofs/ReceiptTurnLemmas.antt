-- A receipt of three ranks may come where two passes found the same quiet rows.
use Rattle.std.proofs.Common.{◌≡◌, ℕ, zero, suc, ◌+◌, ◌<◌, List, [], ◌∷◌, refl, sym, subst, ◌∙◌, arith}
use Rattle.std.specs.Prelude.{slice_get, Bool, true, ◌&&◌, ◌==◌}
use Rattle.std.proofs.lemmas.Bool.{and_parts, eqb-true}
use Rattle.event_lists.specs.declared.mark.Mark.{Mark}
use Rattle.event_lists.specs.declared.receipt.Row.{Row}
use Rattle.event_lists.specs.Events.{main_of, part}
use Rattle.event_lists.specs.Fences.{row_of, IsComplete, total_sent, total_handled, sent_in, handled_in, RowsAre, Receivable, IsReady}
use Rattle.words_tests.specs.declared.turns.ThreeRows.{ThreeRows}
use Rattle.words_tests.specs.Turns.{HasRow, HasRows}

module _ (fence p : ℕ) (a b c : Row) (log : List Mark) (h : HasRows fence p a b c log) where
  three_complete : IsComplete 3 fence p log
  three_complete zero lt = (a, h.first)
  three_complete (suc zero) lt = (b, h.second)
  three_complete (suc (suc zero)) lt = (c, h.third)
  three_complete (suc (suc (suc q))) lt = absurd (omega (arith, lt))

  three_sent : total_sent 3 fence p log ≡ c.sent + (b.sent + (a.sent + 0))
  three_sent = λ i. sent_in (h.third i) + (sent_in (h.second i) + (sent_in (h.first i) + 0))

  three_handled : total_handled 3 fence p log ≡ c.handled + (b.handled + (a.handled + 0))
  three_handled = λ i. handled_in (h.third i) + (handled_in (h.second i) + (handled_in (h.first i) + 0))

  three_rows : RowsAre 3 fence p log (a ∷ b ∷ c ∷ [])
  three_rows = (refl, of_rank)
    where
      of_rank : (q : ℕ) → q < 3 → row_of fence p (part (main_of q) log) ≡ slice_get (a ∷ b ∷ c ∷ []) q
      of_rank zero lt = h.first
      of_rank (suc zero) lt = h.second
      of_rank (suc (suc zero)) lt = h.third
      of_rank (suc (suc (suc q))) lt = absurd (omega (arith, lt))

-- where the three rows of a pass are known, the next pass may be begun
pub ready_after : (fence p : ℕ) (a b c : Row) (log : List Mark) → HasRows fence p a b c log → IsReady 3 fence (suc p) log
ready_after fence p a b c log h = λ d e. let is : p ≡ suc d = omega (arith, e) in subst (λ (n : ℕ). IsComplete 3 fence n log) is (three_complete fence p a b c log h)

-- who knows all rows of another knows its three rows
pub more_rows : (fence p : ℕ) (a b c : Row) (old new : List Mark) → ((q : ℕ) (row : Row) → HasRow fence p q row old → HasRow fence p q row new) → HasRows fence p a b c old → HasRows fence p a b c new
more_rows fence p a b c old new more h = record {
  first = more 0 a h.first;
  second = more 1 b h.second;
  third = more 2 c h.third;
}

-- rows whose numbers are found equal are the same
abbrev is_same : Row → Row → Bool
is_same a b = (a.sent == b.sent) && ((a.handled == b.handled) && (a.tasks == b.tasks))

same_row : (a b : Row) → is_same a b ≡ true → a ≡ b
same_row a b e =
    let s = and_parts (a.sent == b.sent) ((a.handled == b.handled) && (a.tasks == b.tasks)) e in
    let h = and_parts (a.handled == b.handled) (a.tasks == b.tasks) s.1 in
    let sent = eqb-true a.sent b.sent s.0 in
    let handled = eqb-true a.handled b.handled h.0 in
    let tasks = eqb-true a.tasks b.tasks h.1 in
    λ i. record { sent = sent i; handled = handled i; tasks = tasks i }

pub same_rows : (a b : ThreeRows) → (is_same a.zero b.zero && (is_same a.one b.one && is_same a.two b.two)) ≡ true → a ≡ b
same_rows a b e =
    let z = and_parts (is_same a.zero b.zero) (is_same a.one b.one && is_same a.two b.two) e in
    let o = and_parts (is_same a.one b.one) (is_same a.two b.two) z.1 in
    let zero = same_row a.zero b.zero z.0 in
    let one = same_row a.one b.one o.0 in
    let two = same_row a.two b.two o.1 in
    λ i. record { zero = zero i; one = one i; two = two i }

pub receivable : (fence p : ℕ) (a b c : Row) (log : List Mark) → HasRows fence (suc p) a b c log → HasRows fence (suc (suc p)) a b c log
    → c.sent + (b.sent + (a.sent + 0)) ≡ c.handled + (b.handled + (a.handled + 0))
    → Receivable 3 log (record { fence = fence; pass = suc (suc p); rows = a ∷ b ∷ c ∷ [] })
receivable fence p a b c log one two quiet = (
  p,
  refl,
  three_complete fence (suc p) a b c log one,
  three_complete fence (suc (suc p)) a b c log two,
  record {
    first = three_sent fence (suc p) a b c log one ∙ quiet ∙ sym (three_handled fence (suc p) a b c log one);
    sent_again = three_sent fence (suc (suc p)) a b c log two ∙ sym (three_sent fence (suc p) a b c log one);
    handled_again = three_handled fence (suc (suc p)) a b c log two ∙ sym (three_handled fence (suc p) a b c log one);
  },
  three_rows fence (suc (suc p)) a b c log two,
)

-- the same with the numbers as they are known
pub may_receive : (ranks fence p pass : ℕ) (a b c : Row) (rows : List Row) (log : List Mark) → ranks ≡ 3 → pass ≡ suc (suc p) → rows ≡ a ∷ b ∷ c ∷ [] → HasRows fence (suc p) a b c log → HasRows fence pass a b c log
    → c.sent + (b.sent + (a.sent + 0)) ≡ c.handled + (b.handled + (a.handled + 0))
    → Receivable ranks log (record { fence = fence; pass = pass; rows = rows })
may_receive ranks fence p pass a b c rows log three two are first again quiet =
    subst (λ (n : ℕ). Receivable n log (record { fence = fence; pass = pass; rows = rows })) (sym three)
    (subst (λ (z : List Row). Receivable 3 log (record { fence = fence; pass = pass; rows = z })) (sym are)
    (subst (λ (n : ℕ). Receivable 3 log (record { fence = fence; pass = n; rows = a ∷ b ∷ c ∷ [] })) (sym two)
    (receivable fence p a b c log first (subst (λ (n : ℕ). HasRows fence n a b c log) two again) quiet)))
