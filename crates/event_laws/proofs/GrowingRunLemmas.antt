-- Lemmas that crates above use: how a list that follows grows: by one event, and by the effects of one more begun task.
use Rattle.std.proofs.Common.{◌≡◌, ℕ, true, List, [], ◌∷◌, sym, subst, inr, ⊎_elim}
use Rattle.std.specs.Prelude.{Option, Some, None}
use Rattle.std.proofs.lemmas.Bool.{or_cases}
use Rattle.app_core.specs.declared.label.Label.{Label}
use Rattle.app_core.specs.declared.outline.Outline.{Outline}
use Rattle.event_lists.specs.declared.event.Event.{Event}
use Rattle.event_lists.specs.declared.event.Event.TheVariants.{Sent, Submitted, Ran, Gave, Put, Erased}
use Rattle.event_lists.specs.declared.mark.Item.{Item}
use Rattle.event_lists.specs.declared.mark.Item.TheVariants.{Message, Task}
use Rattle.event_lists.specs.declared.mark.Mark.{Mark}
use Rattle.event_lists.specs.Events.{part, in_hand}
use Rattle.event_lists.proofs.ItemLemmas.{taken_more}
use Rattle.event_laws.specs.Follows.{TaskEffects, Doing, Follows, FollowsBy, Goes, Acts, CarriesOut, is_effect, carried_out}
use Rattle.event_laws.proofs.EffectMarkLemmas.{effect_by}

-- one more event goes on
pub one_more_follows : (program : List Doing) (may : Label → List Outline → Type 0) (task_effects : TaskEffects) (log : List Mark) (x : Mark) (own : List Event) → part x.lane log ≡ own → Goes program task_effects log x own x.event → Follows program may task_effects log → Follows program may task_effects (x ∷ log)
one_more_follows program may task_effects log x own is goes f = record {
  planned = λ r m os e. let p = f.planned r m os e in record { task = p.task; submitted = (p.submitted.0, p.submitted.1, inr p.submitted.2); taken = taken_more (Task r m) x log p.taken; may_do = p.may_do };
  goes = (subst (λ (es : List Event). Goes program task_effects log x es x.event) (sym is) goes, f.goes);
}

-- a plan that was made stays, and what follows by the task_effects follows by more
carries_grow : (p q : TaskEffects) (log : List Mark) (x : Mark) (r n i : ℕ) → ((r n : ℕ) (os : List Outline) → p r n ≡ Some os → q r n ≡ Some os) → CarriesOut p log x r n i → CarriesOut q log x r n i
carries_grow p q log x r n i f c = record { os = c.os; o = c.o; plan = f r n c.os c.plan; here = c.here; says = c.says; rank = c.rank; effect = c.effect; taken = c.taken; once = c.once; before = c.before; turn = c.turn }

goes_grow : (program : List Doing) (p q : TaskEffects) (log : List Mark) (x : Mark) (mine : List Event) (e : Event) → ((r n : ℕ) (os : List Outline) → p r n ≡ Some os → q r n ≡ Some os) → Goes program p log x mine e → Goes program q log x mine e
goes_grow program p q log x mine e f g = by_event e g
  where
    acts : (h : Option Item) → Acts program p log x mine h → Acts program q log x mine h
    acts None a = a
    acts (Some (Message r n)) a = a
    acts (Some (Task r n)) (i, c) = (i, carries_grow p q log x r n i f c)

    by_event : (e : Event) → Goes program p log x mine e → Goes program q log x mine e
    by_event (Sent n to w) g = acts (in_hand mine) g
    by_event (Submitted n t) g = acts (in_hand mine) g
    by_event (Gave l) g = acts (in_hand mine) g
    by_event (Put m) (r, n, i, c, b) = (r, n, i, carries_grow p q log x r n i f c, b)
    by_event (Erased m) (r, n, i, c, b) = (r, n, i, carries_grow p q log x r n i f c, b)
    by_event (Ran n r t) (h, e) = (record { os = h.os; plan = f r t h.os h.plan; turn = h.turn; before = h.before }, e)
    by_event _ g = g

pub more_follow : (program : List Doing) (p q : TaskEffects) (log : List Mark) → ((r n : ℕ) (os : List Outline) → p r n ≡ Some os → q r n ≡ Some os) → FollowsBy program p log → FollowsBy program q log
more_follow program p q [] f g = g
more_follow program p q (x ∷ log) f g = (goes_grow program p q log x (part x.lane log) x.event f g.0, more_follow program p q log f g.1)

-- an effect that was carried out is one of a begun task
pub carried_is_begun : (program : List Doing) (p : TaskEffects) (log : List Mark) (r n i : ℕ) → FollowsBy program p log → carried_out r n i log ≡ true → (os : List Outline) × (p r n ≡ Some os)
carried_is_begun program p [] r n i g t = absurd (cc)
carried_is_begun program p (x ∷ log) r n i g t = ⊎_elim (λ here. let c = effect_by program p log x g.0 r n i here in (c.os, c.plan)) (λ before. carried_is_begun program p log r n i g.1 before) (or_cases (is_effect r n i x.effect) (carried_out r n i log) t)
