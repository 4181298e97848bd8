-- Weights of messages and of tasks, and the counts that they sum to.
use Rattle.std.proofs.Common.{◌≡◌, ℕ, ◌<◌, Bool, true, false, List, [], ◌∷◌, refl, sym, ap, ◌∙◌, subst, ⊎_elim, arith}
use Rattle.std.specs.Prelude.{◌==◌, ◌&&◌, Some}
use Rattle.event_lists.specs.declared.event.Event.{Event}
use Rattle.event_lists.specs.declared.event.Event.TheVariants.{Sent, Handled, Submitted, Ran}
use Rattle.event_lists.specs.declared.mark.Item.{Item}
use Rattle.event_lists.specs.declared.mark.Item.TheVariants.{Message, Task}
use Rattle.event_lists.specs.declared.mark.Mark.{Mark}
use Rattle.event_lists.specs.declared.kind.Kind.TheVariants.{Sends as sends, Handlings as handlings, Submissions as submissions, Runs as runs}
use Rattle.event_lists.specs.Events.{part, is_kind, count, makes, ends}
use Rattle.event_lists.specs.Counting.{Counting}
use Rattle.event_lists.specs.Legal.{Legal}
use Rattle.event_lists.proofs.CountLemmas.{one_if}
use Rattle.event_lists.proofs.HandLemmas.{hand_rank}
use Rattle.event_lists.proofs.WaitingLemmas.{waiting, Holds, new_or_old, weight_of, made_by, ended_by}
use Rattle.event_lists.proofs.SumLemmas.{total}

-- messages
abbrev pub message_weight : Item → ℕ
message_weight (Message r n) = 1
message_weight _ = 0

-- tasks of one rank
abbrev pub task_weight : ℕ → Item → ℕ
task_weight q (Task r n) = one_if (r == q)
task_weight q _ = 0

pub off : (b : Bool) → one_if (b && false) ≡ 0
off true = refl
off false = refl

on : (b : Bool) → one_if b ≡ one_if (b && true)
on true = refl
on false = refl

pub made_messages : (log : List Mark) → made_by message_weight log ≡ total sends log
made_messages [] = refl
made_messages (x ∷ log) = let e = one x.lane.rank x.event in omega (arith, made_messages log)
  where
    one : (r : ℕ) (e : Event) → weight_of message_weight (makes r e) ≡ one_if (is_kind sends e)
    one r (Sent n to p) = refl
    one r (Submitted n t) = refl
    one r _ = refl

pub ended_messages : (log : List Mark) → ended_by message_weight log ≡ total handlings log
ended_messages [] = refl
ended_messages (x ∷ log) = let e = one x.event in omega (arith, ended_messages log)
  where
    one : (e : Event) → weight_of message_weight (ends e) ≡ one_if (is_kind handlings e)
    one (Handled n r m) = refl
    one (Ran n r m) = refl
    one _ = refl

pub made_tasks : (q : ℕ) (log : List Mark) → made_by (task_weight q) log ≡ count submissions q log
made_tasks q [] = refl
made_tasks q (x ∷ log) = let e = one x.lane.rank x.event in omega (arith, made_tasks q log)
  where
    one : (r : ℕ) (e : Event) → weight_of (task_weight q) (makes r e) ≡ one_if ((r == q) && is_kind submissions e)
    one r (Submitted n t) = on (r == q)
    one r (Sent n to p) = sym (off (r == q))
    one r _ = sym (off (r == q))

pub ended_tasks : (q ranks workers : ℕ) (log : List Mark) → Legal ranks workers log → ended_by (task_weight q) log ≡ count runs q log
ended_tasks q ranks workers [] h = refl
ended_tasks q ranks workers (x ∷ log) h = let e = one x.event h.0.counting in omega (arith, ended_tasks q ranks workers log h.1)
  where
    one : (e : Event) → Counting ranks log x.lane (part x.lane log) e → weight_of (task_weight q) (ends e) ≡ one_if ((x.lane.rank == q) && is_kind runs e)
    one (Ran n r t) a = let same = hand_rank ranks workers log h.1 x.lane r t a.1 in ap (λ (z : ℕ). one_if (z == q)) same ∙ on (x.lane.rank == q)
    one (Handled n r t) a = sym (off (x.lane.rank == q))
    one _ a = sym (off (x.lane.rank == q))

pub makes_task : (r : ℕ) (e : Event) (q n : ℕ) → makes r e ≡ Some (Task q n) → r ≡ q
makes_task r (Submitted m u) q n i = cc
makes_task r (Sent m to p) q n i = absurd (cc)
makes_task r e q n i = absurd (cc)

pub waiting_rank : (ranks workers : ℕ) (log : List Mark) → Legal ranks workers log → (q n : ℕ) → Holds (waiting log) (Task q n) → q < ranks
waiting_rank ranks workers [] h q n w = absurd w
waiting_rank ranks workers (x ∷ log) h q n w = ⊎_elim
    (λ e. subst (λ (z : ℕ). z < ranks) (makes_task x.lane.rank x.event q n e) h.0.named.0)
    (λ b. waiting_rank ranks workers log h.1 q n b)
    (new_or_old x log (Task q n) w)
