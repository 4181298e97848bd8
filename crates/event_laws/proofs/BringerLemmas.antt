-- Lemmas that crates above use: where a label tells its bringer, no label is created by two; and where two units that
-- may put or erase one entry never both do, no two begun tasks do.
use Rattle.std.proofs.Common.{◌≡◌, ℕ, Bool, true, false, List, [], ◌∷◌, ◌++◌, refl, sym, ap, ◌∙◌, subst, ⊎_elim}
use Rattle.std.specs.Prelude.{if◌then◌else◌, ◌==◌, Option, Some, None, slice_get, Contains}
use Rattle.std.specs.Option.{option_to_list}
use Rattle.std.proofs.lemmas.Bool.{both_ways}
use Rattle.std.proofs.lemmas.List.Elements.{Contains-append_left}
use Rattle.app_core.specs.declared.label.Label.{Label}
use Rattle.app_core.specs.declared.label.CellName.{CellName}
use Rattle.app_core.specs.declared.outline.Outline.{Outline}
use Rattle.app_core.specs.declared.outline.Outline.TheVariants as of
use Rattle.app_core.specs.Outlines.{named}
use Rattle.event_lists.specs.declared.lane.LaneName.{LaneName}
use Rattle.event_lists.specs.declared.event.Event.{Event}
use Rattle.event_lists.specs.declared.event.Event.TheVariants.{Sent, Submitted, Gave}
use Rattle.event_lists.specs.declared.event.Parcel.TheVariants.{Unit as Spawned, Give}
use Rattle.event_lists.specs.declared.event.TaskName.{TaskName}
use Rattle.event_lists.specs.declared.future.Bringer.{Bringer}
use Rattle.event_lists.specs.declared.future.Bringer.TheVariants.{Task as task_of, Main as main_at}
use Rattle.event_lists.specs.declared.future.Future.{Future}
use Rattle.event_lists.specs.declared.mark.Item.{Item}
use Rattle.event_lists.specs.declared.mark.Item.TheVariants.{Message, Task}
use Rattle.event_lists.specs.declared.mark.Mark.{Mark}
use Rattle.event_lists.specs.Events.{Begins, part, in_hand, IsSubmitted}
use Rattle.event_lists.specs.Futures.{bringer, is_own, own_due, spawned_due}
use Rattle.event_lists.specs.Laws.{label_of}
use Rattle.event_lists.proofs.ListLemmas.{legal_begins, begins_tail, begins_trans, on_begins}
use Rattle.event_lists.proofs.FutureLemmas.{same_label_refl}
use Rattle.event_lists.proofs.NameLemmas.{all_named}
use Rattle.event_laws.specs.Follows.{TaskEffects, Doing, Start, deeds, Says, Planned, IsRun}
use Rattle.event_laws.specs.Trees.{unit_of, LabelsAreTree, BringsUp, SpawnsNot, IsOnce}
use Rattle.event_laws.specs.Apart.{spawn_label, named_in, Brought, HasOneBringer, EffectsApart}
use Rattle.event_laws.proofs.MemberLemmas.{none_in}
use Rattle.event_laws.proofs.PositionLemmas.{stands_at}
use Rattle.event_laws.proofs.SpawnLemmas.{Spawns, Origin, itself, carried, origin, task_spawn, same_task}
use Rattle.event_laws.proofs.EventEffectLemmas.{spawn_is}
use Rattle.event_laws.proofs.SourceLemmas.{planned_at, Source, of_main, of_task, source, apart}

-- the labels that an event names are those of its effect
named_is : (r : ℕ) (o : Outline) (e : Event) (l : Label) → Says r o e → Contains (named_in e) l → Contains (named o) l
named_is r (of.Spawn u d ns h) e l s n = step (h == r) (subst (λ (z : Event). Contains (named_in z) l) s.1 n)
  where
    due_alone : (d : Option Label) → Contains (option_to_list d ++ []) l → Contains (option_to_list d ++ ns) l
    due_alone None n = absurd (none_in l n)
    due_alone (Some f) n = Contains-append_left (f ∷ []) ns l n

    step : (b : Bool) → Contains (named_in (if b then Submitted s.0 (record { unit = u; needs = ns; due = d }) else Sent s.0 h (Spawned u d))) l → Contains (option_to_list d ++ ns) l
    step true n = n
    step false n = due_alone d n
named_is r (of.Give f h) e l s n = absurd (step (h == r) (subst (λ (z : Event). Contains (named_in z) l) s.1 n))
  where
    step : (b : Bool) → Contains (named_in (if b then Gave f else Sent s.0 h (Give f))) l → ⊥
    step true n = none_in l n
    step false n = none_in l n
named_is r (of.Put c) e l s n = absurd (none_in l (subst (λ (z : Event). Contains (named_in z) l) s.1 n))
named_is r (of.Erase c) e l s n = absurd (none_in l (subst (λ (z : Event). Contains (named_in z) l) s.1 n))

-- an event that names labels, with no message in hand, spawns
naming_spawns : (r : ℕ) (h : Option Item) (b : Bringer) (e : Event) (l : Label) → bringer r h ≡ Some b → Contains (named_in e) l → (u : Label) × (spawn_label h e ≡ Some u)
naming_spawns r h b (Sent n to (Spawned u d)) l i c = (u, refl)
naming_spawns r None b (Submitted n t) l i c = (t.unit, refl)
naming_spawns r (Some (Message q m)) b (Submitted n t) l i c = absurd (cc)
naming_spawns r (Some (Task q m)) b (Submitted n t) l i c = (t.unit, refl)
naming_spawns r h b (Sent n to (Give f)) l i c = absurd (none_in l c)
naming_spawns r h b e l i c = absurd (none_in l c)

own_is : (o : Option Future) (l : Label) → label_of o ≡ Some l → is_own l o ≡ true
own_is None l e = absurd (cc)
own_is (Some f) l e = let same : f.label ≡ l = cc in subst (λ (z : Label). is_own l (Some (record { by = f.by; label = z })) ≡ true) (sym same) (same_label_refl l)

module _ (ranks workers : ℕ) (program : List Doing) (may : Label → List Outline → Type 0) (task_effects : TaskEffects) (end : List Mark) (run : IsRun ranks workers program may task_effects end) where
  module _ (raiser dues : Label → Option Label) (up : BringsUp program may raiser dues) where
    -- a spawn's due is that of its label
    spawn_due : (u : Label) (x : Mark) (before : List Mark) → Begins (x ∷ before) end → spawn_label (in_hand (part x.lane before)) x.event ≡ Some u → spawned_due x.event ≡ dues u
    spawn_due u x before b l = from (source ranks workers program may task_effects end run u x before b l)
      where
        from : Source ranks workers program may task_effects end run u x before → spawned_due x.event ≡ dues u
        from (of_main hand lane done o at says unit) =
            let i = spawn_is x.lane.rank o x.event (in_hand (part x.lane before)) u says l in
            up.start_due (deeds (part x.lane before)) u (spawned_due x.event) i.0 i.1 (at ∙ ap (λ (z : Outline). Some (Start z)) i.2)
        from (of_task r n j hand c unit) =
            let i = spawn_is x.lane.rank c.o x.event (in_hand (part x.lane before)) u c.says l in
            let p = planned_at ranks workers program may task_effects end run r n c.os before (begins_tail x before end b) c.plan c.taken in
            up.step_due (p.0).unit c.os j u (spawned_due x.event) i.0 i.1 p.2 (c.here ∙ ap Some i.2)

    -- and so is a task's
    pub due_is : (r n : ℕ) (t : TaskName) → IsSubmitted r n t end → t.due ≡ dues t.unit
    due_is r n t s =
        let a = stands_at s.0 (Submitted n t) end s.2 in
        go a.0 a.1 a.2 a.4
      where
        go : (x : Mark) (before : List Mark) → Begins (x ∷ before) end → x.event ≡ Submitted n t → t.due ≡ dues t.unit
        go x before b is = from (origin ranks workers end run.legal n t (record { x = x; before = before; begins = b; is = is }))
          where
            from : Origin end n t (record { x = x; before = before; begins = b; is = is }) → t.due ≡ dues t.unit
            from (itself l) = sym (ap spawned_due is) ∙ spawn_due t.unit x before b l
            from (carried q m to hand sent) =
                let z = stands_at sent.0 (Sent m to (Spawned t.unit t.due)) before sent.2 in
                sym (ap spawned_due z.4) ∙ spawn_due t.unit z.0 z.1 (begins_trans (z.0 ∷ z.1) before end z.2 (begins_tail x before end b)) (ap (spawn_label (in_hand (part z.0.lane z.1))) z.4)

    data Raised (b : Bringer) (l : Label) : Type 0 where
      by_main : b ≡ main_at 0 → raiser l ≡ None → Raised b l
      by_task : (r n : ℕ) (t : TaskName) → b ≡ task_of r n → raiser l ≡ Some t.unit → IsSubmitted r n t end → Raised b l

    raised : (b : Bringer) (l : Label) → Brought b l end → Raised b l
    raised b l w =
        let u = naming_spawns w.x.lane.rank (in_hand (part w.x.lane w.before)) b w.x.event l w.by w.names in
        from u.0 (source ranks workers program may task_effects end run u.0 w.x w.before w.begins u.1)
      where
        before : Begins w.before end
        before = begins_tail w.x w.before end w.begins

        from : (u : Label) → Source ranks workers program may task_effects end run u w.x w.before → Raised b l
        from u (of_main hand lane done o at says unit) =
            let is : Some (main_at w.x.lane.rank) ≡ Some b = sym (ap (bringer w.x.lane.rank) hand) ∙ w.by in
            let main : main_at w.x.lane.rank ≡ b = cc in
            by_main (sym main ∙ ap (λ (z : LaneName). main_at z.rank) lane) (up.starts (deeds (part w.x.lane w.before)) o l at (named_is w.x.lane.rank o w.x.event l says w.names))
        from u (of_task r n i hand c unit) =
            let is : Some (task_of r n) ≡ Some b = sym (ap (bringer w.x.lane.rank) hand) ∙ w.by in
            let task : task_of r n ≡ b = cc in
            let p = planned_at ranks workers program may task_effects end run r n c.os w.before before c.plan c.taken in
            let here : IsSubmitted r n p.0 end = (p.1.0, p.1.1, on_begins p.1.0 (Submitted n p.0) w.before end before p.1.2) in
            let named_by = all_named ranks workers w.before (legal_begins ranks workers w.before end before run.legal) p.1.0 (Submitted n p.0) (Task r n) (ap (λ (q : ℕ). Some (Task q n)) p.1.1) p.1.2 in
            let due : label_of (own_due (in_hand (part w.x.lane w.before)) w.before) ≡ dues (p.0).unit = ap (λ (h : Option Item). label_of (own_due h w.before)) hand ∙ named_by ∙ due_is r n p.0 here in
            by_task r n p.0 (sym task) (up.steps (p.0).unit c.os i c.o l p.2 c.here (named_is w.x.lane.rank c.o w.x.event l c.says w.names) (λ d. both_ways (is_own l (own_due (in_hand (part w.x.lane w.before)) w.before)) w.other (own_is (own_due (in_hand (part w.x.lane w.before)) w.before) l (due ∙ d)))) here

    -- no label is created by two bringers
    pub one_bringer : (parent : Label → Option Label) → LabelsAreTree program may parent → HasOneBringer end
    one_bringer parent tree b c l v w = meet (raised b l v) (raised c l w)
      where
        meet : Raised b l → Raised c l → b ≡ c
        meet (by_main e i) (by_main f j) = e ∙ sym f
        meet (by_main e i) (by_task r n t f j s) = absurd (let z : None ≡ Some t.unit = sym i ∙ j in cc)
        meet (by_task r n t f j s) (by_main e i) = absurd (let z : None ≡ Some t.unit = sym i ∙ j in cc)
        meet (by_task r n t e i s) (by_task q k u f j v) =
            let z : Some t.unit ≡ Some u.unit = sym i ∙ j in
            let units : t.unit ≡ u.unit = cc in
            let same = same_task ranks workers end run.legal (apart ranks workers program may task_effects end run parent tree) r n q k t u s v units in
            e ∙ (λ d. task_of (same.0 d) (same.1 d)) ∙ sym f

  -- where only the unit of a begun task spawns the unit of another task, one of its effects did
  spawned_by : (parent : Label → Option Label) → LabelsAreTree program may parent → (r n q m : ℕ) (t u : TaskName) (os : List Outline) → IsSubmitted r n t end → IsSubmitted q m u end → task_effects r n ≡ Some os → parent u.unit ≡ Some t.unit
      → (i : ℕ) × (o : Outline) × (slice_get os i ≡ Some o) × (unit_of o ≡ Some u.unit)
  spawned_by parent tree r n q m t u os s v plan up = from (task_spawn ranks workers end run.legal q m u v)
    where
      from : Spawns u.unit end → (i : ℕ) × (o : Outline) × (slice_get os i ≡ Some o) × (unit_of o ≡ Some u.unit)
      from w = by_source (source ranks workers program may task_effects end run u.unit w.x w.before w.begins w.label)
        where
          back : Begins w.before end
          back = begins_tail w.x w.before end w.begins

          by_source : Source ranks workers program may task_effects end run u.unit w.x w.before → (i : ℕ) × (o : Outline) × (slice_get os i ≡ Some o) × (unit_of o ≡ Some u.unit)
          by_source (of_main hand lane done o at says unit) = absurd (let e : None ≡ Some t.unit = sym (tree.starts (deeds (part w.x.lane w.before)) o u.unit at unit) ∙ up in cc)
          by_source (of_task k l i hand c unit) =
              let p = planned_at ranks workers program may task_effects end run k l c.os w.before back c.plan c.taken in
              let e : Some (p.0).unit ≡ Some t.unit = sym (tree.steps (p.0).unit c.os i c.o u.unit p.2 c.here unit) ∙ up in
              let units : (p.0).unit ≡ t.unit = cc in
              let there : IsSubmitted k l p.0 end = (p.1.0, p.1.1, on_begins p.1.0 (Submitted l p.0) w.before end back p.1.2) in
              let same = same_task ranks workers end run.legal (apart ranks workers program may task_effects end run parent tree) k l r n p.0 t there s units in
              let lists : Some c.os ≡ Some os = sym c.plan ∙ (λ d. task_effects (same.0 d) (same.1 d)) ∙ plan in
              let is : c.os ≡ os = cc in
              (i, c.o, subst (λ (z : List Outline). slice_get z i ≡ Some c.o) is c.here, unit)

  -- among the effects of begun tasks no entry has two of one kind
  pub effects_apart : (parent : Label → Option Label) → LabelsAreTree program may parent → (f : CellName → Outline) → IsOnce may parent f → EffectsApart f task_effects
  effects_apart parent tree f once r n i q m j os ps c plan plan' at at' =
      let p = run.follows.planned r n os plan in
      let w = run.follows.planned q m ps plan' in
      ⊎_elim
      (λ unit. one p w unit)
      (λ spawner. absurd (⊎_elim (λ a. spawns_not r n q m p.task w.task os p.submitted w.submitted plan a) (λ b. spawns_not q m r n w.task p.task ps w.submitted p.submitted plan' b) spawner))
      (once.unit p.task.unit w.task.unit os ps i j c p.may_do w.may_do at at')
    where
      spawns_not : (r n q m : ℕ) (t u : TaskName) (os : List Outline) → IsSubmitted r n t end → IsSubmitted q m u end → task_effects r n ≡ Some os → SpawnsNot parent t.unit os u.unit → ⊥
      spawns_not r n q m t u os s v plan a = let e = spawned_by parent tree r n q m t u os s v plan a.spawner in a.none e.0 e.1 e.2 e.3

      one : (p : Planned may end r n os) (w : Planned may end q m ps) → p.task.unit ≡ w.task.unit → (r ≡ q) × (n ≡ m) × (i ≡ j)
      one p w unit =
          let same = same_task ranks workers end run.legal (apart ranks workers program may task_effects end run parent tree) r n q m p.task w.task p.submitted w.submitted unit in
          let lists : Some ps ≡ Some os = sym plan' ∙ (λ d. task_effects (sym same.0 d) (sym same.1 d)) ∙ plan in
          let is : ps ≡ os = cc in
          (same.0, same.1, once.place p.task.unit os i j c p.may_do at (subst (λ k. slice_get k j ≡ Some (f c)) is at'))
