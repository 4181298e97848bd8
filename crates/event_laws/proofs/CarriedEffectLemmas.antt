-- An effect that was carried out has its event.
use Rattle.std.proofs.Common.{◌≡◌, ℕ, true, ◌&&◌, List, [], ◌∷◌, refl, sym, ap, ◌∙◌, subst, ⊎_elim}
use Rattle.std.specs.Prelude.{◌==◌, Option, Some, None, slice_get}
use Rattle.std.proofs.lemmas.Bool.{and_parts, eqb-true, or_cases}
use Rattle.app_core.specs.declared.label.CellName.{CellName}
use Rattle.app_core.specs.declared.outline.Outline.{Outline}
use Rattle.app_core.specs.declared.outline.Outline.TheVariants as of
use Rattle.event_lists.specs.declared.lane.LaneName.{LaneName}
use Rattle.event_lists.specs.declared.event.Event.{Event}
use Rattle.event_lists.specs.declared.event.Event.TheVariants.{Sent, Submitted, Ran, Gave, Put, Erased, Enter}
use Rattle.event_lists.specs.declared.mark.EffectName.{EffectName}
use Rattle.event_lists.specs.declared.mark.Item.{Item}
use Rattle.event_lists.specs.declared.mark.Item.TheVariants.{Message, Task}
use Rattle.event_lists.specs.declared.mark.Mark.{Mark}
use Rattle.event_lists.specs.Events.{Begins, StandsOn, part, in_hand}
use Rattle.event_lists.proofs.ListLemmas.{begins_refl, begins_more}
use Rattle.event_laws.specs.Follows.{TaskEffects, Doing, FollowsBy, Goes, Acts, Stores, event_of, CarriesOut, effect_name, is_effect, carried_out, bin_of}
use Rattle.event_laws.proofs.PositionLemmas.{goes_at, at_stands}

effect_some : (r n i : ℕ) (f : Option EffectName) → is_effect r n i f ≡ true → f ≡ Some (effect_name r n i)
effect_some r n i None e = absurd (cc)
effect_some r n i (Some f) e =
    let p = and_parts (r == f.rank) ((n == f.number) && (i == f.index)) e in
    let q = and_parts (n == f.number) (i == f.index) p.1 in
    ap Some (λ k. record { rank = sym (eqb-true r f.rank p.0) k; number = sym (eqb-true n f.number q.0) k; index = sym (eqb-true i f.index q.1) k })

-- what was carried out is at a position
pub carried_stands : (r n i : ℕ) (log : List Mark) → carried_out r n i log ≡ true → (x : Mark) × (before : List Mark) × Begins (x ∷ before) log × (x.effect ≡ Some (effect_name r n i))
carried_stands r n i [] t = absurd (cc)
carried_stands r n i (x ∷ log) t = ⊎_elim
    (λ here. (x, log, begins_refl (x ∷ log), effect_some r n i x.effect here))
    (λ rest. let s = carried_stands r n i log rest in (s.0, s.1, begins_more (s.0 ∷ s.1) log x s.2, s.3))
    (or_cases (is_effect r n i x.effect) (carried_out r n i log) t)

module _ (program : List Doing) (task_effects : TaskEffects) (x : Mark) (before : List Mark) (r n i : ℕ) (named : x.effect ≡ Some (effect_name r n i)) where
  same_effect : (q m j : ℕ) → CarriesOut task_effects before x q m j → CarriesOut task_effects before x r n i
  same_effect q m j c =
      let names : Some (effect_name q m j) ≡ Some (effect_name r n i) = sym c.effect ∙ named in
      let name : effect_name q m j ≡ effect_name r n i = cc in
      subst (λ (f : EffectName). CarriesOut task_effects before x f.rank f.number f.index) name c

  no_effect : x.effect ≡ None → ⊥
  no_effect none = let e : None ≡ Some (effect_name r n i) = sym none ∙ named in cc

  acting : (mine : List Event) (h : Option Item) → Acts program task_effects before x mine h → CarriesOut task_effects before x r n i
  acting mine None a = absurd (no_effect a.3)
  acting mine (Some (Message q m)) a = absurd (no_effect a)
  acting mine (Some (Task q m)) a = same_effect q m a.0 a.1

  -- an event that names an effect carries it out
  pub carries : (mine : List Event) (e : Event) → Goes program task_effects before x mine e → CarriesOut task_effects before x r n i
  carries mine (Sent k to p) g = acting mine (in_hand mine) g
  carries mine (Submitted k t) g = acting mine (in_hand mine) g
  carries mine (Gave f) g = acting mine (in_hand mine) g
  carries mine (Put c) g = same_effect g.0 g.1 g.2 g.3
  carries mine (Erased c) g = same_effect g.0 g.1 g.2 g.3
  carries mine (Ran k q t) g = absurd (no_effect g.1)
  carries mine (Enter f) g = absurd (no_effect g.1)
  carries mine e g = absurd (no_effect g)

module _ (program : List Doing) (task_effects : TaskEffects) (log : List Mark) (follows : FollowsBy program task_effects log) where
  -- an effect on an entry that was carried out is on the lane of the entry's bin; f is its outline, and g its event
  stored : (f : CellName → Outline) (g : CellName → Event) (c : CellName) → ((r k : ℕ) → event_of r (f c) k ≡ g c)
      → ((x : Mark) (before : List Mark) → Goes program task_effects before x (part x.lane before) (g c) → Stores task_effects before x c)
      → (r n i : ℕ) (os : List Outline) → task_effects r n ≡ Some os → slice_get os i ≡ Some (f c) → carried_out r n i log ≡ true → StandsOn (bin_of r c) (g c) log
  stored f g c event stores r n i os plan at t =
      let s = carried_stands r n i log t in
      let goes = goes_at program task_effects s.0 s.1 log follows s.2 in
      from s.0 s.1 s.2 goes (carries program task_effects s.0 s.1 r n i s.3 (part s.0.lane s.1) s.0.event goes)
    where
      on : (x : Mark) (before : List Mark) → Begins (x ∷ before) log → r ≡ x.lane.rank → Goes program task_effects before x (part x.lane before) x.event → x.event ≡ g c → StandsOn (bin_of r c) (g c) log
      on x before b rank goes is =
          let lane : x.lane ≡ bin_of r c = (stores x before (subst (Goes program task_effects before x (part x.lane before)) is goes)).4 ∙ ap (λ (q : ℕ). bin_of q c) (sym rank) in
          subst (λ (l : LaneName). StandsOn l (g c) log) lane (subst (λ (e : Event). StandsOn x.lane e log) is (at_stands x before log b))

      from : (x : Mark) (before : List Mark) → Begins (x ∷ before) log → Goes program task_effects before x (part x.lane before) x.event → CarriesOut task_effects before x r n i → StandsOn (bin_of r c) (g c) log
      from x before b goes d =
          let lists : Some d.os ≡ Some os = sym d.plan ∙ plan in
          let list : d.os ≡ os = cc in
          let outlines : Some d.o ≡ Some (f c) = sym d.here ∙ subst (λ (z : List Outline). slice_get z i ≡ Some (f c)) (sym list) at in
          let outline : d.o ≡ f c = cc in
          on x before b d.rank goes (d.says.1 ∙ ap (λ (o : Outline). event_of x.lane.rank o d.says.0) outline ∙ event x.lane.rank d.says.0)

  pub put_carried : (r n i : ℕ) (os : List Outline) (c : CellName) → task_effects r n ≡ Some os → slice_get os i ≡ Some (of.Put c) → carried_out r n i log ≡ true → StandsOn (bin_of r c) (Put c) log
  put_carried r n i os c plan at t = stored of.Put Put c (λ _ _. refl) (λ x before goes. goes) r n i os plan at t

  pub erase_carried : (r n i : ℕ) (os : List Outline) (c : CellName) → task_effects r n ≡ Some os → slice_get os i ≡ Some (of.Erase c) → carried_out r n i log ≡ true → StandsOn (bin_of r c) (Erased c) log
  erase_carried r n i os c plan at t = stored of.Erase Erased c (λ _ _. refl) (λ x before goes. goes) r n i os plan at t
