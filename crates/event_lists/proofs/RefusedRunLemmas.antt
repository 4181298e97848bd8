-- Small runs, each with an event that may come next and with one that may not, one event after another.
use Rattle.std.proofs.Common.{◌≡◌, ℕ, ◌<◌, ◌≤◌, ◌||◌, Bool, true, false, List, [], ◌∷◌, refl, ap, inl, inr, arith}
use Rattle.std.specs.Prelude.{Some, None}
use Rattle.app_core.specs.declared.label.Label.{Label}
use Rattle.app_core.specs.Needs.{AreDistinct}
use Rattle.app_core.specs.Outlines.{same_label}
use Rattle.event_lists.specs.declared.event.Event.TheVariants.{Ran, ReadHandled, ReadRan, ReadSubmitted, ReadSent, Enter}
use Rattle.event_lists.specs.declared.receipt.Row.{Row}
use Rattle.event_lists.specs.declared.kind.Kind.TheVariants.{Sends as sends, Handlings as handlings, Submissions as submissions, Runs as runs}
use Rattle.event_lists.specs.declared.kind.Reading.{Reading}
use Rattle.event_lists.specs.Events.{main_of}
use Rattle.event_lists.specs.Fences.{reading, MayOpen}
use Rattle.event_lists.specs.Legal.{Legal}
use Rattle.event_lists.specs.TaskRuns.{label, giver, main_does}
use Rattle.event_lists.specs.RefusedRuns.{Accepts, Refuses, sends_to, with_needs, submits, one_task, hand_takes, puts_in, one_need, need_and_due, giver_in_hand, task_in_hand, spawned_a_need, spawned_its_due, in_a_fence, at_work, two_readings, found_different, found_equal, ran_then, passed_once, passed_twice, received, leaves}
use Rattle.event_lists.proofs.FenceRunLemmas.{ready_first, ready_second, receivable_one}

none_distinct : AreDistinct []
none_distinct i j d lt within = absurd (omega arith)

one_distinct : (d : Label) → AreDistinct (d ∷ [])
one_distinct d i j e lt within = absurd (omega arith)

-- what is needed is a due, where both ask for one label
meets : (b : Bool) → ((b || false) || false) ≡ true → (b || false) ≡ true
meets true h = refl
meets false h = h

-- messages

pub sent_to_another : Accepts 2 0 [] (sends_to 1)
sent_to_another = (record { named = (omega arith, omega arith); counting = (refl, refl, omega arith, λ e. absurd (omega arith)); dues = tt; fences = λ i. refl; bins = refl }, tt)

pub sent_to_itself : Refuses 2 0 [] (sends_to 0)
sent_to_itself = (tt, λ h. h.0.counting.3 refl)

pub sent_to_nobody : Refuses 2 0 [] (sends_to 2)
sent_to_nobody = (tt, λ h. let within : 2 < 2 = h.0.counting.2 in absurd (omega arith))

-- lanes

pub entered : Accepts 2 0 [] (main_does 1 (Enter 1))
entered = (record { named = (omega arith, omega arith); counting = tt; dues = λ d h. absurd (cc); fences = (refl, refl, refl, refl); bins = refl }, tt)

pub no_rank : Refuses 2 0 [] (main_does 2 (Enter 1))
no_rank = (tt, λ h. let within : 2 < 2 = h.0.named.0 in absurd (omega arith))

legal_task : (ranks workers : ℕ) → 0 < ranks → Legal ranks workers one_task
legal_task ranks workers some =
    (record { named = (some, omega arith); counting = (refl, refl); dues = (tt, none_distinct, tt); fences = λ i. refl; bins = refl }, tt)

pub worker_takes : Accepts 1 2 one_task (hand_takes 2)
worker_takes = (
  record {
    named = (omega arith, omega arith);
    counting = (refl, refl, (with_needs [], (main_of 0, refl, inl (refl, refl))), refl);
    dues = λ f i. absurd i;
    fences = tt;
    bins = refl;
  },
  legal_task 1 2 (omega arith),
)

pub no_worker : Refuses 1 2 one_task (hand_takes 3)
no_worker = (legal_task 1 2 (omega arith), λ h. let within : 3 ≤ 2 = h.0.named.1 in absurd (omega arith))

pub put_in_bin : Accepts 1 0 [] (puts_in 15)
put_in_bin = (record { named = (omega arith, omega arith); counting = tt; dues = tt; fences = tt; bins = (refl, refl) }, tt)

pub no_bin : Refuses 1 0 [] (puts_in 16)
no_bin = (tt, λ h. let within : 16 < 16 = h.0.named.1 in absurd (omega arith))

-- needs

legal_need : Legal 1 0 one_need
legal_need =
    (record { named = (omega arith, omega arith); counting = (refl, refl); dues = (tt, one_distinct (label 3), (refl, refl, tt)); fences = λ i. refl; bins = refl }, tt)

pub another_need : Accepts 1 0 one_need (submits 1 (label 4 ∷ []))
another_need = (
  record { named = (omega arith, omega arith); counting = (refl, refl); dues = (tt, one_distinct (label 4), (refl, refl, tt)); fences = λ i. refl; bins = refl },
  legal_need,
)

pub needed_twice : Refuses 1 0 one_need (submits 1 (label 3 ∷ []))
needed_twice = (legal_need, λ h. let free : true ≡ false = h.0.dues.2.1 in absurd (cc))

legal_giver : Legal 1 0 giver_in_hand
legal_giver = (
  record {
    named = (omega arith, omega arith);
    counting = (refl, refl, (giver, (main_of 0, refl, inl (refl, refl))), refl);
    dues = λ f i. absurd i;
    fences = tt;
    bins = refl;
  },
  (record { named = (omega arith, omega arith); counting = (refl, refl); dues = (inr (refl, refl), none_distinct, tt); fences = λ i. refl; bins = refl }, tt),
)

pub needed_beside_its_due : Accepts 1 0 giver_in_hand (submits 1 (label 4 ∷ []))
needed_beside_its_due = (
  record { named = (omega arith, omega arith); counting = (refl, tt); dues = (tt, one_distinct (label 4), (refl, refl, tt)); fences = λ i. refl; bins = refl },
  legal_giver,
)

pub needed_its_due : Refuses 1 0 giver_in_hand (submits 1 (label 3 ∷ []))
needed_its_due = (legal_giver, λ h. let free : true ≡ false = h.0.dues.2.0 in absurd (cc))

-- needs without dues

pub entered_with_dues : Accepts 1 0 need_and_due (main_does 0 (Enter 1))
entered_with_dues = (
  record {
    named = (omega arith, omega arith);
    counting = tt;
    dues = λ d h. meets (same_label d (label 3)) h;
    fences = (refl, refl, refl, refl);
    bins = refl;
  },
  (record { named = (omega arith, omega arith); counting = (refl, refl); dues = (inr (refl, refl), none_distinct, tt); fences = λ i. refl; bins = refl }, legal_need),
)

pub entered_without_a_due : Refuses 1 0 one_need (main_does 0 (Enter 1))
entered_without_a_due = (legal_need, λ h. let due : false ≡ true = h.0.dues (label 3) refl in absurd (cc))

legal_in_hand : Legal 1 0 task_in_hand
legal_in_hand = (
  record {
    named = (omega arith, omega arith);
    counting = (refl, refl, (with_needs [], (main_of 0, refl, inl (refl, refl))), refl);
    dues = λ f i. absurd i;
    fences = tt;
    bins = refl;
  },
  legal_task 1 0 (omega arith),
)

legal_spawned_need : Legal 1 0 spawned_a_need
legal_spawned_need = (
  record { named = (omega arith, omega arith); counting = (refl, tt); dues = (tt, one_distinct (label 3), (refl, refl, tt)); fences = λ i. refl; bins = refl },
  legal_in_hand,
)

pub ran_with_dues : Accepts 1 0 spawned_its_due (main_does 0 (Ran 0 0 0))
ran_with_dues = (
  record {
    named = (omega arith, omega arith);
    counting = (refl, refl);
    dues = (tt, λ d h. meets (same_label d (label 3)) h);
    fences = tt;
    bins = refl;
  },
  (record { named = (omega arith, omega arith); counting = (refl, tt); dues = (inr (refl, refl), none_distinct, tt); fences = λ i. refl; bins = refl }, legal_spawned_need),
)

pub ran_without_a_due : Refuses 1 0 spawned_a_need (main_does 0 (Ran 0 0 0))
ran_without_a_due = (legal_spawned_need, λ h. let due : false ≡ true = h.0.dues.1 (label 3) refl in absurd (cc))

-- work in a fence

legal_fence : (ranks : ℕ) → 0 < ranks → Legal ranks 0 in_a_fence
legal_fence ranks some = (
  record { named = (some, omega arith); counting = tt; dues = λ d h. absurd (cc); fences = (refl, refl, refl, refl); bins = refl },
  legal_task ranks 0 some,
)

pub took_in_a_fence : Accepts 2 0 in_a_fence (hand_takes 0)
took_in_a_fence = (
  record {
    named = (omega arith, omega arith);
    counting = (refl, refl, (with_needs [], (main_of 0, refl, inr (inl (refl, refl)))), refl);
    dues = λ f i. absurd i;
    fences = tt;
    bins = refl;
  },
  legal_fence 2 (omega arith),
)

pub submitted_at_work : Accepts 2 0 at_work (submits 1 [])
submitted_at_work =
    (record { named = (omega arith, omega arith); counting = (refl, tt); dues = (tt, none_distinct, tt); fences = λ i. absurd (cc); bins = refl }, took_in_a_fence)

pub sent_at_work : Accepts 2 0 at_work (sends_to 1)
sent_at_work =
    (record { named = (omega arith, omega arith); counting = (refl, tt, omega arith, λ e. absurd (omega arith)); dues = tt; fences = λ i. absurd (cc); bins = refl }, took_in_a_fence)

pub submitted_in_a_fence : Refuses 2 0 in_a_fence (submits 1 [])
submitted_in_a_fence = (legal_fence 2 (omega arith), λ h. let out : Some 1 ≡ None = h.0.fences refl in absurd (cc))

pub sent_in_a_fence : Refuses 2 0 in_a_fence (sends_to 1)
sent_in_a_fence = (legal_fence 2 (omega arith), λ h. let out : Some 1 ≡ None = h.0.fences refl in absurd (cc))

legal_handled : (ranks : ℕ) → 0 < ranks → Legal ranks 0 (main_does 0 (ReadHandled 0 1 1) ∷ in_a_fence)
legal_handled ranks some = (
  record { named = (some, omega arith); counting = tt; dues = tt; fences = (refl, (refl, refl, refl), refl, (tt, ready_first ranks 1 in_a_fence)); bins = refl },
  legal_fence ranks some,
)

pub read_in_a_fence : Accepts 2 0 in_a_fence (main_does 0 (ReadHandled 0 1 1))
read_in_a_fence = legal_handled 2 (omega arith)

pub read_at_work : Refuses 2 0 at_work (main_does 0 (ReadHandled 0 1 1))
read_at_work = (took_in_a_fence, λ h. let idle = h.0.fences.1.1 in absurd (cc))

-- an attempt that is opened again

-- the readings of the first attempt
abbrev first_two : List Reading
first_two = reading runs 0 1 1 ∷ (reading handlings 0 1 1 ∷ [])

abbrev first_attempt : List Reading
first_attempt = reading submissions 1 1 1 ∷ first_two

legal_two : Legal 1 0 two_readings
legal_two = (
  record { named = (omega arith, omega arith); counting = tt; dues = tt; fences = (refl, (refl, refl, refl), refl, (0, [], refl)); bins = refl },
  legal_handled 1 (omega arith),
)

legal_different : Legal 1 0 found_different
legal_different = (
  record { named = (omega arith, omega arith); counting = tt; dues = tt; fences = (refl, (refl, refl, refl), refl, (0, reading handlings 0 1 1 ∷ [], refl)); bins = refl },
  legal_two,
)

pub opened_again : Accepts 1 0 found_different (main_does 0 (ReadHandled 0 1 1))
opened_again = (
  record {
    named = (omega arith, omega arith);
    counting = tt;
    dues = tt;
    fences = (refl, (refl, refl, refl), refl, (inr (refl, λ e. absurd (omega arith)), ready_first 1 1 found_different));
    bins = refl;
  },
  legal_different,
)

found_at : List Reading → ℕ
found_at [] = 0
found_at (r ∷ rs) = r.found

found_next : List Reading → ℕ
found_next [] = 0
found_next (r ∷ rs) = found_at rs

not_one : (t : ℕ) (before : List Reading) → first_attempt ≡ reading submissions t 1 1 ∷ (reading runs t 1 1 ∷ before) → ⊥
unfolding found_at found_next
not_one t before e =
    let one : 1 ≡ t = ap found_at e in
    let zero : 0 ≡ t = ap found_next e in
    absurd (omega arith)

pub different_is_no_pass : Refuses 1 0 found_different (main_does 0 (ReadSent 0 1 1))
different_is_no_pass = (legal_different, λ h. let order = h.0.fences.3 in not_one order.0 order.1 order.2)

-- equal counts don't open an attempt again
shut : MayOpen (reading submissions 0 1 1 ∷ first_two) → ⊥
shut (inl e) = absurd (cc)
shut (inr p) = p.1 refl

legal_equal : Legal 1 0 found_equal
legal_equal = (
  record { named = (omega arith, omega arith); counting = tt; dues = tt; fences = (refl, (refl, refl, refl), refl, (0, reading handlings 0 1 1 ∷ [], refl)); bins = refl },
  (
    record { named = (omega arith, omega arith); counting = tt; dues = tt; fences = (refl, (refl, refl, refl), refl, (0, [], refl)); bins = refl },
    (
      record { named = (omega arith, omega arith); counting = tt; dues = tt; fences = (refl, (refl, refl, refl), refl, (tt, ready_first 1 1 (main_does 0 (Enter 1) ∷ []))); bins = refl },
      (record { named = (omega arith, omega arith); counting = tt; dues = λ d h. absurd (cc); fences = (refl, refl, refl, refl); bins = refl }, tt),
    ),
  ),
)

pub equal_stays : Refuses 1 0 found_equal (main_does 0 (ReadHandled 0 1 1))
equal_stays = (legal_equal, λ h. shut h.0.fences.3.0)

-- nor does a reading of ran
not_yet : MayOpen first_two → ⊥
not_yet (inl e) = absurd (cc)
not_yet (inr p) = let kinds = p.0 in absurd (cc)

pub submitted_is_open : Refuses 1 0 two_readings (main_does 0 (ReadHandled 0 1 1))
submitted_is_open = (legal_two, λ h. not_yet h.0.fences.3.0)

legal_took : Legal 1 0 (hand_takes 0 ∷ (main_does 0 (ReadHandled 0 1 1) ∷ found_different))
legal_took = (
  record {
    named = (omega arith, omega arith);
    counting = (refl, refl, (with_needs [], (main_of 0, refl, inr (inr (inr (inr (inr (inl (refl, refl)))))))), refl);
    dues = λ f i. absurd i;
    fences = tt;
    bins = refl;
  },
  opened_again,
)

legal_ran : Legal 1 0 ran_then
legal_ran = (record { named = (omega arith, omega arith); counting = (refl, refl); dues = (tt, λ d h. absurd (cc)); fences = tt; bins = refl }, legal_took)

legal_ran_read : Legal 1 0 (main_does 0 (ReadRan 1 1 1) ∷ ran_then)
legal_ran_read = (
  record { named = (omega arith, omega arith); counting = tt; dues = tt; fences = (refl, (refl, refl, refl), refl, (0, first_attempt, refl)); bins = refl },
  legal_ran,
)

-- the readings before ran in the second attempt, and in the second pass
abbrev begun : List Reading
begun = reading handlings 0 1 1 ∷ first_attempt

legal_submitted_read : Legal 1 0 (main_does 0 (ReadSubmitted 1 1 1) ∷ (main_does 0 (ReadRan 1 1 1) ∷ ran_then))
legal_submitted_read = (
  record { named = (omega arith, omega arith); counting = tt; dues = tt; fences = (refl, (refl, refl, refl), refl, (1, begun, refl)); bins = refl },
  legal_ran_read,
)

legal_once : Legal 1 0 passed_once
legal_once = (
  record { named = (omega arith, omega arith); counting = tt; dues = tt; fences = (refl, (refl, refl, refl), refl, (1, begun, refl)); bins = refl },
  legal_submitted_read,
)

-- the row of both passes
abbrev one_ran : Row
one_ran = record { sent = 0; handled = 0; tasks = 1 }

abbrev second_begun : List Reading
second_begun = reading sends 0 1 1 ∷ (reading submissions 1 1 1 ∷ (reading runs 1 1 1 ∷ begun))

legal_again : Legal 1 0 (main_does 0 (ReadHandled 0 1 2) ∷ passed_once)
legal_again = (
  record { named = (omega arith, omega arith); counting = tt; dues = tt; fences = (refl, (refl, refl, refl), refl, (inl refl, ready_second 1 passed_once one_ran refl)); bins = refl },
  legal_once,
)

legal_ran_again : Legal 1 0 (main_does 0 (ReadRan 1 1 2) ∷ (main_does 0 (ReadHandled 0 1 2) ∷ passed_once))
legal_ran_again = (
  record { named = (omega arith, omega arith); counting = tt; dues = tt; fences = (refl, (refl, refl, refl), refl, (0, second_begun, refl)); bins = refl },
  legal_again,
)

legal_submitted_again : Legal 1 0 (main_does 0 (ReadSubmitted 1 1 2) ∷ (main_does 0 (ReadRan 1 1 2) ∷ (main_does 0 (ReadHandled 0 1 2) ∷ passed_once)))
legal_submitted_again = (
  record { named = (omega arith, omega arith); counting = tt; dues = tt; fences = (refl, (refl, refl, refl), refl, (1, reading handlings 0 1 2 ∷ second_begun, refl)); bins = refl },
  legal_ran_again,
)

legal_twice : Legal 1 0 passed_twice
legal_twice = (
  record { named = (omega arith, omega arith); counting = tt; dues = tt; fences = (refl, (refl, refl, refl), refl, (1, reading handlings 0 1 2 ∷ second_begun, refl)); bins = refl },
  legal_submitted_again,
)

legal_received : Legal 1 0 received
legal_received = (
  record { named = (omega arith, omega arith); counting = tt; dues = tt; fences = (refl, (refl, refl, refl), refl, receivable_one passed_twice one_ran refl refl refl); bins = refl },
  legal_twice,
)

pub fence_ends : Accepts 1 0 received leaves
fence_ends = (
  record { named = (omega arith, omega arith); counting = tt; dues = tt; fences = ((refl, refl, refl), refl); bins = refl },
  legal_received,
)
