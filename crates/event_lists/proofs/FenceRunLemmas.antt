-- Lemmas that crates above use: the lists of small runs, one event after another.
use Rattle.std.proofs.Common.{◌≡◌, ℕ, suc, ◌+◌, ◌<◌, List, [], ◌∷◌, refl, sym, ◌∙◌, ap, subst, inl, arith}
use Rattle.std.specs.Prelude.{Some, slice_get}
use Rattle.event_lists.specs.declared.event.Event.TheVariants.{ReadHandled, ReadRan, ReadSubmitted, Enter, Receipt as Receives}
use Rattle.event_lists.specs.declared.receipt.Row.{Row}
use Rattle.event_lists.specs.declared.mark.Mark.{Mark}
use Rattle.event_lists.specs.declared.kind.Kind.{Kind}
use Rattle.event_lists.specs.declared.kind.Kind.TheVariants.{Sends as sends, Handlings as handlings, Submissions as submissions, Runs as runs}
use Rattle.event_lists.specs.Events.{part, main_of}
use Rattle.event_lists.specs.declared.kind.Reading.{Reading}
use Rattle.event_lists.specs.Fences.{reading, row_of, sent_in, handled_in, IsComplete, IsReady, Receivable}
use Rattle.event_lists.specs.Legal.{Legal, Illegal}
use Rattle.event_lists.specs.FenceRuns.{by_main, empty_receipt, one_pass, two_passes, first_run, second_run, one_reading, third_run}

-- where there is one rank, what holds of it holds of each
pub each_rank : (P : ℕ → Type 0) → P 0 → (q : ℕ) → q < 1 → P q
each_rank P h q b = subst P (let e : 0 ≡ q = omega arith in e) h

pub complete_one : (f p : ℕ) (log : List Mark) (row : Row) → row_of f p (part (main_of 0) log) ≡ Some row → IsComplete 1 f p log
complete_one f p log row i = each_rank (λ q. (r : Row) × (row_of f p (part (main_of q) log) ≡ Some r)) (row, i)

pub ready_first : (ranks f : ℕ) (log : List Mark) → IsReady ranks f 1 log
ready_first ranks f log d e = absurd (omega arith)

pub ready_second : (f : ℕ) (log : List Mark) (row : Row) → row_of f 1 (part (main_of 0) log) ≡ Some row → IsReady 1 f 2 log
ready_second f log row i d e = subst (λ (z : ℕ). IsComplete 1 f (suc z) log) (let j : 0 ≡ d = omega arith in j) (complete_one f 1 log row i)

abbrev none : Row
none = record { sent = 0; handled = 0; tasks = 0 }

legal_enter : Legal 1 0 (by_main (Enter 1) ∷ [])
legal_enter = (record { named = (omega arith, omega arith); counting = tt; dues = λ d h. absurd (cc); fences = (refl, refl, refl, refl); bins = refl }, tt)

pub legal_reading : Legal 1 0 one_reading
legal_reading = (
  record { named = (omega arith, omega arith); counting = tt; dues = tt; fences = (refl, (refl, refl, refl), refl, (tt, ready_first 1 1 (by_main (Enter 1) ∷ []))); bins = refl },
  legal_enter,
)

legal_ran : Legal 1 0 (by_main (ReadRan 0 1 1) ∷ one_reading)
legal_ran = (
  record { named = (omega arith, omega arith); counting = tt; dues = tt; fences = (refl, (refl, refl, refl), refl, (0, [], refl)); bins = refl },
  legal_reading,
)

legal_submitted : Legal 1 0 (by_main (ReadSubmitted 0 1 1) ∷ (by_main (ReadRan 0 1 1) ∷ one_reading))
legal_submitted = (
  record { named = (omega arith, omega arith); counting = tt; dues = tt; fences = (refl, (refl, refl, refl), refl, (0, reading handlings 0 1 1 ∷ [], refl)); bins = refl },
  legal_ran,
)

pub legal_pass : Legal 1 0 one_pass
legal_pass = (
  record { named = (omega arith, omega arith); counting = tt; dues = tt; fences = (refl, (refl, refl, refl), refl, (0, reading handlings 0 1 1 ∷ [], refl)); bins = refl },
  legal_submitted,
)

-- the readings of the first pass
abbrev first_pass : List Reading
first_pass = reading sends 0 1 1 ∷ (reading submissions 0 1 1 ∷ (reading runs 0 1 1 ∷ (reading handlings 0 1 1 ∷ [])))

legal_again : Legal 1 0 (by_main (ReadHandled 0 1 2) ∷ one_pass)
legal_again = (
  record { named = (omega arith, omega arith); counting = tt; dues = tt; fences = (refl, (refl, refl, refl), refl, (inl refl, ready_second 1 one_pass none refl)); bins = refl },
  legal_pass,
)

legal_ran_again : Legal 1 0 (by_main (ReadRan 0 1 2) ∷ (by_main (ReadHandled 0 1 2) ∷ one_pass))
legal_ran_again = (
  record { named = (omega arith, omega arith); counting = tt; dues = tt; fences = (refl, (refl, refl, refl), refl, (0, first_pass, refl)); bins = refl },
  legal_again,
)

legal_submitted_again : Legal 1 0 (by_main (ReadSubmitted 0 1 2) ∷ (by_main (ReadRan 0 1 2) ∷ (by_main (ReadHandled 0 1 2) ∷ one_pass)))
legal_submitted_again = (
  record { named = (omega arith, omega arith); counting = tt; dues = tt; fences = (refl, (refl, refl, refl), refl, (0, reading handlings 0 1 2 ∷ first_pass, refl)); bins = refl },
  legal_ran_again,
)

legal_passes : Legal 1 0 two_passes
legal_passes = (
  record { named = (omega arith, omega arith); counting = tt; dues = tt; fences = (refl, (refl, refl, refl), refl, (0, reading handlings 0 1 2 ∷ first_pass, refl)); bins = refl },
  legal_submitted_again,
)

-- on one rank the first fence may have a receipt once two passes have this row, in which as many messages were handled as sent
pub receivable_one :
    (log : List Mark) (row : Row) →
    row.sent ≡ row.handled →
    row_of 1 1 (part (main_of 0) log) ≡ Some row →
    row_of 1 2 (part (main_of 0) log) ≡ Some row →
    Receivable 1 log (record { fence = 1; pass = 2; rows = row ∷ [] })
receivable_one log row even first second = (
  0,
  refl,
  complete_one 1 1 log row first,
  complete_one 1 2 log row second,
  record {
    first = ap (λ r. sent_in r + 0) first ∙ ap (λ n. n + 0) even ∙ sym (ap (λ r. handled_in r + 0) first);
    sent_again = ap (λ r. sent_in r + 0) (second ∙ sym first);
    handled_again = ap (λ r. handled_in r + 0) (second ∙ sym first);
  },
  (refl, each_rank (λ q. row_of 1 2 (part (main_of q) log) ≡ slice_get (row ∷ []) q) second),
)

legal_receipt : Legal 1 0 (by_main (Receives (empty_receipt 2)) ∷ two_passes)
legal_receipt = (
  record { named = (omega arith, omega arith); counting = tt; dues = tt; fences = (refl, (refl, refl, refl), refl, receivable_one two_passes none refl refl refl); bins = refl },
  legal_passes,
)

pub legal_first : Legal 1 0 first_run
legal_first = (
  record { named = (omega arith, omega arith); counting = tt; dues = tt; fences = ((refl, refl, refl), refl); bins = refl },
  legal_receipt,
)

-- a receipt after a single pass
pub illegal_second : Illegal 1 0 second_run
illegal_second h = let pass = h.0.fences.3.1 in absurd (omega (arith, pass))

kind_at : List Reading → Kind
kind_at [] = sends
kind_at (r ∷ rs) = r.kind

-- a reading of handled isn't one of ran
pub no_run : (t : ℕ) (before : List Reading) → reading handlings 0 1 1 ∷ [] ≡ reading runs t 1 1 ∷ before → ⊥
unfolding kind_at
no_run t before e = let kinds : handlings ≡ runs = ap kind_at e in absurd (cc)

-- submitted is read before ran
pub illegal_third : Illegal 1 0 third_run
illegal_third h = let order = h.0.fences.3 in no_run order.0 order.1 order.2
