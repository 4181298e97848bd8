-- The small run with tasks, one event after another.
use Rattle.std.proofs.Common.{◌≡◌, ◌≤◌, true, false, List, [], ◌∷◌, refl, subst, inl, inr, rules, arith}
use Rattle.std.specs.Prelude.{Some}
use Rattle.event_lists.specs.declared.event.Event.TheVariants.{Sent, TookMessage, TookTask, Submitted, Gave}
use Rattle.event_lists.specs.declared.event.Parcel.TheVariants.{Unit as Spawned, Give}
use Rattle.event_lists.specs.declared.mark.Mark.{Mark}
use Rattle.event_lists.specs.Events.{main_of}
use Rattle.event_lists.specs.declared.future.Bringer.TheVariants.{Main as main_at}
use Rattle.event_lists.specs.declared.future.Future.{Future}
use Rattle.event_lists.specs.Futures.{times_given, IsIn}
use Rattle.event_lists.specs.Legal.{Legal, Illegal}
use Rattle.event_lists.specs.TaskRuns.{label, giver, needer, main_does, spawned, taken, handled_there, ran_there, given_here, whole_run, taken_too_early, handled_too_early, ran_too_early}

legal_sent : Legal 2 0 (main_does 0 (Sent 0 1 (Spawned (label 2) (Some (label 3)))) ∷ [])
legal_sent = (record { named = (omega arith, omega arith); counting = (refl, refl, omega arith, λ e. absurd (omega arith)); dues = inr (refl, refl); fences = λ i. refl; bins = refl }, tt)

legal_spawned : Legal 2 0 spawned
legal_spawned = (record { named = (omega arith, omega arith); counting = (refl, refl); dues = (tt, search rules, (refl, refl, tt)); fences = λ i. refl; bins = refl }, legal_sent)

legal_taken : Legal 2 0 taken
legal_taken = (
  record {
    named = (omega arith, omega arith);
    counting = (refl, (Spawned (label 2) (Some (label 3)), (main_of 0, refl, inr (inl (refl, refl)))), refl);
    dues = tt;
    fences = tt;
    bins = refl;
  },
  legal_spawned,
)

legal_submitted : Legal 2 0 (main_does 1 (Submitted 0 giver) ∷ taken)
legal_submitted = (
  record {
    named = (omega arith, omega arith);
    counting = (refl, tt);
    dues = ((1, (main_of 0, refl, inr (inr (inl (refl, refl))))), refl, refl);
    fences = λ i. refl;
    bins = refl;
  },
  legal_taken,
)

legal_handled : Legal 2 0 handled_there
legal_handled = (record { named = (omega arith, omega arith); counting = (refl, refl); dues = refl; fences = tt; bins = refl }, legal_submitted)

legal_took : Legal 2 0 (main_does 1 (TookTask 1 0) ∷ handled_there)
legal_took = (
  record {
    named = (omega arith, omega arith);
    counting = (refl, refl, (giver, (main_of 1, refl, inr (inl (refl, refl)))), refl);
    dues = λ f i. absurd i;
    fences = tt;
    bins = refl;
  },
  legal_handled,
)

legal_gives : Legal 2 0 (main_does 1 (Sent 0 0 (Give (label 3))) ∷ (main_does 1 (TookTask 1 0) ∷ handled_there))
legal_gives = (record { named = (omega arith, omega arith); counting = (refl, tt, omega arith, λ e. absurd (omega arith)); dues = (refl, refl); fences = λ i. refl; bins = refl }, legal_took)

legal_ran : Legal 2 0 ran_there
legal_ran = (record { named = (omega arith, omega arith); counting = (refl, refl); dues = (refl, λ d h. absurd (cc)); fences = tt; bins = refl }, legal_gives)

legal_back : Legal 2 0 (main_does 0 (TookMessage 1 0) ∷ ran_there)
legal_back = (
  record {
    named = (omega arith, omega arith);
    counting = (refl, (Give (label 3), (main_of 1, refl, inr (inl (refl, refl)))), refl);
    dues = tt;
    fences = tt;
    bins = refl;
  },
  legal_ran,
)

legal_gave : Legal 2 0 (main_does 0 (Gave (label 3)) ∷ (main_does 0 (TookMessage 1 0) ∷ ran_there))
legal_gave = (
  record {
    named = (omega arith, omega arith);
    counting = tt;
    dues = inl ((0, (main_of 1, refl, inr (inr (inl (refl, refl))))), refl);
    fences = tt;
    bins = refl;
  },
  legal_back,
)

legal_given : Legal 2 0 given_here
legal_given = (record { named = (omega arith, omega arith); counting = (refl, refl); dues = refl; fences = tt; bins = refl }, legal_gave)

-- the one future that the needer needs
abbrev need : Future
need = record { by = main_at 0; label = label 3 }

one_need : (log : List Mark) (f : Future) → 1 ≤ times_given need log → IsIn f (need ∷ []) → 1 ≤ times_given f log
one_need log f given (inl e) = subst (λ (g : Future). 1 ≤ times_given g log) e given
one_need log f given (inr i) = absurd i

legal_took_needer : Legal 2 0 (main_does 0 (TookTask 0 0) ∷ given_here)
legal_took_needer = (
  record {
    named = (omega arith, omega arith);
    counting = (refl, refl, (needer, (main_of 0, refl, inr (inr (inr (inr (inr (inr (inr (inr (inr (inl (refl, refl)))))))))))), refl);
    dues = λ f i. one_need given_here f (omega arith) i;
    fences = tt;
    bins = refl;
  },
  legal_given,
)

pub legal_run : Legal 2 0 whole_run
legal_run = (record { named = (omega arith, omega arith); counting = (refl, refl); dues = (tt, λ d h. absurd (cc)); fences = tt; bins = refl }, legal_took_needer)

-- the needer is taken before its need was given
pub refused_taken : Illegal 2 0 taken_too_early
refused_taken h = let given : 1 ≤ times_given need ran_there = h.0.dues need (inl refl) in absurd (omega arith)

-- the message is handled before its unit was submitted
pub refused_handled : Illegal 2 0 handled_too_early
refused_handled h = let fresh : true ≡ false = h.0.dues in absurd (cc)

-- the giver ends without giving
pub refused_ran : Illegal 2 0 ran_too_early
refused_ran h = let kept : true ≡ false = h.0.dues.0 in absurd (cc)
