-- Where an event is in a list, which of two comes first, and what it met there.
use Rattle.std.proofs.Common.{◌≡◌, ◌⊎◌, ℕ, true, List, [], ◌∷◌, ◌++◌, refl, sym, ◌∙◌, subst, inl, inr, ⊎_elim}
use Rattle.std.specs.Prelude.{Some}
use Rattle.std.proofs.lemmas.Bool.{or_cases, or_left, or_right}
use Rattle.event_lists.specs.declared.lane.LaneName.{LaneName}
use Rattle.event_lists.specs.declared.event.Event.{Event}
use Rattle.event_lists.specs.declared.mark.Item.{Item}
use Rattle.event_lists.specs.declared.mark.Mark.{Mark}
use Rattle.event_lists.specs.Events.{Begins, StandsOn, part, is_item, takes, is_taken}
use Rattle.event_lists.proofs.ListLemmas.{begins_refl, begins_more, begins_tail, on_begins}
use Rattle.event_lists.proofs.ItemLemmas.{is_item_some}
use Rattle.event_laws.specs.Follows.{TaskEffects, Doing, FollowsBy, Goes, effect_name, is_effect, carried_out}
use Rattle.event_laws.proofs.EffectMarkLemmas.{goes_before, is_named}

-- the last event of a list, or one of the rest
pub begins_cons : (x z : Mark) (before log : List Mark) → Begins (x ∷ before) (z ∷ log) → ((z ≡ x) × (log ≡ before)) ⊎ Begins (x ∷ before) log
begins_cons x z before log ([], e) = inl (cc, cc)
begins_cons x z before log (y ∷ more, e) = inr (more, cc)

pub begins_none : (x : Mark) (before : List Mark) → Begins (x ∷ before) [] → ⊥
begins_none x before ([], e) = cc
begins_none x before (y ∷ more, e) = cc

-- what comes before an event comes before the last one, or is what comes before it
pub begins_before : (y x : Mark) (old before : List Mark) → Begins (y ∷ old) (x ∷ before) → Begins old before
begins_before y x old before b = ⊎_elim
    (λ e. subst (Begins old) (sym e.1) (begins_refl old))
    (λ c. begins_tail y old before c)
    (begins_cons y x old before b)

-- of two events of a list, both are one, or one is before the other
pub order : (x y : Mark) (b c log : List Mark) → Begins (x ∷ b) log → Begins (y ∷ c) log → ((x ≡ y) × (b ≡ c)) ⊎ (Begins (x ∷ b) c ⊎ Begins (y ∷ c) b)
order x y b c [] p q = absurd (begins_none x b p)
order x y b c (z ∷ log) p q = ⊎_elim
    (λ i. ⊎_elim
    (λ j. inl (sym i.0 ∙ j.0, sym i.1 ∙ j.1))
    (λ j. inr (inr (subst (Begins (y ∷ c)) i.1 j)))
    (begins_cons y z c log q))
    (λ i. ⊎_elim
    (λ j. inr (inl (subst (Begins (x ∷ b)) j.1 i)))
    (λ j. order x y b c log i j)
    (begins_cons y z c log q))
    (begins_cons x z b log p)

-- an event on a lane is at a position
pub stands_at : (l : LaneName) (e : Event) (log : List Mark) → StandsOn l e log → (x : Mark) × (before : List Mark) × Begins (x ∷ before) log × (x.lane ≡ l) × (x.event ≡ e)
stands_at l e [] s = absurd s
stands_at l e (x ∷ log) (inl i) = (x, log, begins_refl (x ∷ log), i.0, i.1)
stands_at l e (x ∷ log) (inr s) = let r = stands_at l e log s in (r.0, r.1, begins_more (r.0 ∷ r.1) log x r.2, r.3, r.4)

pub at_stands : (x : Mark) (before log : List Mark) → Begins (x ∷ before) log → StandsOn x.lane x.event log
at_stands x before log b = on_begins x.lane x.event (x ∷ before) log b (inl (refl, refl))

-- each event of a list that follows goes on from the list before it
pub follows_begins : (program : List Doing) (task_effects : TaskEffects) (old log : List Mark) → Begins old log → FollowsBy program task_effects log → FollowsBy program task_effects old
follows_begins program task_effects old log b h = goes_before program task_effects b.0 old (subst (FollowsBy program task_effects) b.1 h)

pub goes_at : (program : List Doing) (task_effects : TaskEffects) (x : Mark) (before log : List Mark) → FollowsBy program task_effects log → Begins (x ∷ before) log → Goes program task_effects before x (part x.lane before) x.event
goes_at program task_effects x before log h b = (goes_before program task_effects b.0 (x ∷ before) (subst (FollowsBy program task_effects) b.1 h)).0

-- what was taken has an event that took it
pub taken_stands : (c : Item) (log : List Mark) → is_taken c log ≡ true → (x : Mark) × (before : List Mark) × Begins (x ∷ before) log × (takes x.event ≡ Some c)
taken_stands c [] t = absurd (cc)
taken_stands c (x ∷ log) t = ⊎_elim
    (λ here. (x, log, begins_refl (x ∷ log), is_item_some c (takes x.event) here))
    (λ rest. let s = taken_stands c log rest in (s.0, s.1, begins_more (s.0 ∷ s.1) log x s.2, s.3))
    (or_cases (is_item c (takes x.event)) (is_taken c log) t)

carried_grows : (r n i : ℕ) (more log : List Mark) → carried_out r n i log ≡ true → carried_out r n i (more ++ log) ≡ true
carried_grows r n i [] log t = t
carried_grows r n i (x ∷ more) log t = or_right (is_effect r n i x.effect) (carried_out r n i (more ++ log)) (carried_grows r n i more log t)

pub carried_begins : (r n i : ℕ) (old log : List Mark) → Begins old log → carried_out r n i old ≡ true → carried_out r n i log ≡ true
carried_begins r n i old log b t = subst (λ (z : List Mark). carried_out r n i z ≡ true) (sym b.1) (carried_grows r n i b.0 old t)

-- the effect that an event names is carried out
pub carried_at : (r n i : ℕ) (x : Mark) (before log : List Mark) → Begins (x ∷ before) log → x.effect ≡ Some (effect_name r n i) → carried_out r n i log ≡ true
carried_at r n i x before log b e = carried_begins r n i (x ∷ before) log b (or_left (is_effect r n i x.effect) (carried_out r n i before) (is_named r n i x.effect e))
