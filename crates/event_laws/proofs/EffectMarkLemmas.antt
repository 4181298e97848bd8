-- Lemmas that crates above use: effects that were carried out: the marks that name them.
use Rattle.std.proofs.Common.{◌≡◌, ℕ, true, false, List, [], ◌∷◌, ◌++◌, refl, sym, ap, ◌∙◌, subst, ⊎_elim}
use Rattle.std.specs.Prelude.{◌==◌, ◌&&◌, Option, Some, None}
use Rattle.std.proofs.lemmas.Bool.{and_parts, eqb-true, or_cases, or_left, and_from, eq-eqb}
use Rattle.event_lists.specs.declared.event.Event.{Event}
use Rattle.event_lists.specs.declared.event.Event.TheVariants.{Sent, TookMessage, TookTask, Handled, Submitted, Ran, Gave, Put, Erased, ReadHandled, ReadRan, ReadSubmitted, ReadSent, Enter, Leave, Receipt as Receives}
use Rattle.event_lists.specs.declared.mark.EffectName.{EffectName}
use Rattle.event_lists.specs.declared.mark.Item.{Item}
use Rattle.event_lists.specs.declared.mark.Item.TheVariants.{Message, Task}
use Rattle.event_lists.specs.declared.mark.Mark.{Mark}
use Rattle.event_lists.specs.Events.{part, in_hand, Begins}
use Rattle.event_lists.proofs.ListLemmas.{begins_refl, begins_more}
use Rattle.event_laws.specs.Follows.{TaskEffects, Doing, FollowsBy, Goes, Acts, CarriesOut, effect_name, is_effect, carried_out}

pub goes_before : (program : List Doing) (task_effects : TaskEffects) (more log : List Mark) → FollowsBy program task_effects (more ++ log) → FollowsBy program task_effects log
goes_before program task_effects [] log h = h
goes_before program task_effects (x ∷ more) log h = goes_before program task_effects more log h.1

pub goes_begins : (program : List Doing) (task_effects : TaskEffects) (old log : List Mark) → FollowsBy program task_effects log → Begins old log → FollowsBy program task_effects old
goes_begins program task_effects old log f to = goes_before program task_effects to.0 old (subst (FollowsBy program task_effects) to.1 f)

-- an effect that was carried out has a mark, with a list before it
pub effect_at : (r n i : ℕ) (log : List Mark) → carried_out r n i log ≡ true → (x : Mark) × (earlier : List Mark) × Begins (x ∷ earlier) log × (is_effect r n i x.effect ≡ true)
effect_at r n i [] c = absurd (cc)
effect_at r n i (x ∷ log) c = ⊎_elim
    (λ h. (x, log, begins_refl (x ∷ log), h))
    (λ h. let r = effect_at r n i log h in (r.0, r.1, begins_more (r.0 ∷ r.1) log x r.2, r.3))
    (or_cases (is_effect r n i x.effect) (carried_out r n i log) c)

pub effect_named : (r n i : ℕ) (f : Option EffectName) → is_effect r n i f ≡ true → (q m j : ℕ) → f ≡ Some (effect_name q m j) → (q ≡ r) × (m ≡ n) × (j ≡ i)
effect_named r n i f h q m j e =
    let t : ((r == q) && ((n == m) && (i == j))) ≡ true = sym (ap (is_effect r n i) e) ∙ h in
    let p = and_parts (r == q) ((n == m) && (i == j)) t in
    let s = and_parts (n == m) (i == j) p.1 in
    (sym (eqb-true r q p.0), sym (eqb-true n m s.0), sym (eqb-true i j s.1))

pub is_named : (r n i : ℕ) (f : Option EffectName) → f ≡ Some (effect_name r n i) → is_effect r n i f ≡ true
is_named r n i f e = ap (is_effect r n i) e ∙ and_from (r == r) ((n == n) && (i == i)) (eq-eqb r r refl) (and_from (n == n) (i == i) (eq-eqb n n refl) (eq-eqb i i refl))

no_effect : (r n i : ℕ) (f : Option EffectName) → is_effect r n i f ≡ true → f ≡ None → ⊥
no_effect r n i f h e = let t : false ≡ true = sym (ap (is_effect r n i) e) ∙ h in cc

-- a mark with an effect carries it out
pub effect_by : (program : List Doing) (task_effects : TaskEffects) (log : List Mark) (x : Mark) → Goes program task_effects log x (part x.lane log) x.event → (r n i : ℕ) → is_effect r n i x.effect ≡ true → CarriesOut task_effects log x r n i
effect_by program task_effects log x goes r n i h = by_event x.event goes
  where
    named : (q m j : ℕ) → CarriesOut task_effects log x q m j → CarriesOut task_effects log x r n i
    named q m j c =
        let e = effect_named r n i x.effect h q m j c.effect in
        subst (λ (z : ℕ). CarriesOut task_effects log x z n i) e.0 (subst (λ (z : ℕ). CarriesOut task_effects log x q z i) e.1 (subst (λ (z : ℕ). CarriesOut task_effects log x q m z) e.2 c))

    by_hand : (o : Option Item) → Acts program task_effects log x (part x.lane log) o → CarriesOut task_effects log x r n i
    by_hand None a = absurd (no_effect r n i x.effect h a.3)
    by_hand (Some (Message q m)) a = absurd (no_effect r n i x.effect h a)
    by_hand (Some (Task q m)) a = named q m a.0 a.1

    by_event : (e : Event) → Goes program task_effects log x (part x.lane log) e → CarriesOut task_effects log x r n i
    by_event (Sent k to p) g = by_hand (in_hand (part x.lane log)) g
    by_event (Submitted k t) g = by_hand (in_hand (part x.lane log)) g
    by_event (Gave f) g = by_hand (in_hand (part x.lane log)) g
    by_event (Put m) g = named g.0 g.1 g.2 g.3
    by_event (Erased m) g = named g.0 g.1 g.2 g.3
    by_event (TookMessage q m) g = absurd (no_effect r n i x.effect h g)
    by_event (TookTask q m) g = absurd (no_effect r n i x.effect h g)
    by_event (Handled k q m) g = absurd (no_effect r n i x.effect h g)
    by_event (Ran k q m) g = absurd (no_effect r n i x.effect h g.1)
    by_event (ReadHandled v f p) g = absurd (no_effect r n i x.effect h g)
    by_event (ReadRan v f p) g = absurd (no_effect r n i x.effect h g)
    by_event (ReadSubmitted v f p) g = absurd (no_effect r n i x.effect h g)
    by_event (ReadSent v f p) g = absurd (no_effect r n i x.effect h g)
    by_event (Enter f) g = absurd (no_effect r n i x.effect h g.1)
    by_event (Leave f) g = absurd (no_effect r n i x.effect h g)
    by_event (Receives f) g = absurd (no_effect r n i x.effect h g)

pub carried_here : (r n i : ℕ) (x : Mark) (log : List Mark) → is_effect r n i x.effect ≡ true → carried_out r n i (x ∷ log) ≡ true
carried_here r n i x log e = or_left (is_effect r n i x.effect) (carried_out r n i log) e
