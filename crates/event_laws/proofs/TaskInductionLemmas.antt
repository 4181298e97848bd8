-- What holds of starts, and passes from each unit to those that it spawns, holds of each task.
use Rattle.std.proofs.Common.{◌≡◌, ℕ, ◌+◌, ◌<◌, ◌≤◌, Bool, true, false, List, [], ◌∷◌, ◌++◌, refl, sym, ap, ◌∙◌, subst, ⊎_elim, arith, append_assoc}
use Rattle.std.specs.Prelude.{if◌then◌else◌, ◌==◌, Option, Some, None, slice_get}
use Rattle.std.proofs.lemmas.Bool.{eqb-true}
use Rattle.app_core.specs.declared.label.Label.{Label}
use Rattle.app_core.specs.declared.outline.Outline.{Outline}
use Rattle.app_core.specs.declared.outline.Outline.TheVariants as of
use Rattle.event_lists.specs.declared.lane.LaneName.{LaneName}
use Rattle.event_lists.specs.declared.event.Event.{Event}
use Rattle.event_lists.specs.declared.event.Event.TheVariants.{Sent, Submitted, Gave}
use Rattle.event_lists.specs.declared.event.Parcel.TheVariants.{Unit as Spawned, Give}
use Rattle.event_lists.specs.declared.event.TaskName.{TaskName}
use Rattle.event_lists.specs.declared.mark.Item.{Item}
use Rattle.event_lists.specs.declared.mark.Item.TheVariants.{Message, Task}
use Rattle.event_lists.specs.declared.mark.Mark.{Mark}
use Rattle.event_lists.specs.Events.{part, main_of, in_hand, Begins, StandsOn, IsSubmitted}
use Rattle.event_lists.specs.Counting.{Counting, MaySpawn, MaySubmit}
use Rattle.event_lists.specs.Dues.{Dues, SubmitsFreely}
use Rattle.event_lists.specs.Legal.{Legal}
use Rattle.event_lists.proofs.LaneLemmas.{part_own}
use Rattle.event_lists.proofs.ListLemmas.{legal_begins, begins_tail}
use Rattle.event_lists.proofs.HandLemmas.{hand_sent}
use Rattle.event_laws.specs.Follows.{TaskEffects, Doing, Start, Goes, Acts, CarriesOut, Follows, Says, program_at, deeds, is_done, waits}
use Rattle.event_laws.proofs.PositionLemmas.{goes_at}
use Rattle.event_laws.proofs.SourceLemmas.{one_name, task_submitted}
use Rattle.event_laws.proofs.ParcelLemmas.{same_sent, submitted_begins}
use Rattle.event_laws.proofs.MainLemmas.{deeds_grow, no_starts}

abbrev one_if : Bool → ℕ
one_if b = if b then 1 else 0

-- the label of a unit that an event sends or submits
abbrev pub unit_in : Event → Option Label
unit_in (Sent n to (Spawned u d)) = Some u
unit_in (Submitted n t) = Some t.unit
unit_in _ = None

-- the rank at which it is to be, from a lane of rank r
abbrev pub rank_to : ℕ → Event → ℕ
rank_to r (Sent n to p) = to
rank_to r _ = r

-- the effect of an event that sends or submits a unit spawns it
pub spawn_is : (r : ℕ) (o : Outline) (e : Event) (u : Label) → Says r o e → unit_in e ≡ Some u → (d : Option Label) × (ns : List Label) × (o ≡ of.Spawn u d ns (rank_to r e))
spawn_is r (of.Spawn v d ns home) e u s i = go (home == r) refl s.1
  where
    go : (b : Bool) → (home == r) ≡ b → e ≡ (if b then Submitted s.0 (record { unit = v; needs = ns; due = d }) else Sent s.0 home (Spawned v d)) → (x : Option Label) × (ms : List Label) × (of.Spawn v d ns home ≡ of.Spawn u x ms (rank_to r e))
    go true h is =
        let label : Some v ≡ Some u = sym (ap unit_in is) ∙ i in
        let same : v ≡ u = cc in
        let there : rank_to r e ≡ home = ap (rank_to r) is ∙ sym (eqb-true home r h) in
        (d, ns, λ j. of.Spawn (same j) d ns (sym there j))
    go false h is =
        let label : Some v ≡ Some u = sym (ap unit_in is) ∙ i in
        let same : v ≡ u = cc in
        let there : rank_to r e ≡ home = ap (rank_to r) is in
        (d, ns, λ j. of.Spawn (same j) d ns (sym there j))
spawn_is r (of.Give f home) e u s i = absurd (go (home == r) (ap unit_in (sym s.1) ∙ i))
  where
    go : (b : Bool) → unit_in (if b then Gave f else Sent s.0 home (Give f)) ≡ Some u → ⊥
    go true i = cc
    go false i = cc
spawn_is r (of.Put c) e u s i = absurd (let z : None ≡ Some u = ap unit_in (sym s.1) ∙ i in cc)
spawn_is r (of.Erase c) e u s i = absurd (let z : None ≡ Some u = ap unit_in (sym s.1) ∙ i in cc)

module _ (ranks workers : ℕ) (program : List Doing) (may : Label → List Outline → Type 0) (task_effects : TaskEffects) (whole log : List Mark)
    (legal : Legal ranks workers whole) (follows : Follows program may task_effects whole) (to : Begins log whole) (P : Label → ℕ → Type 0)
    (starts : (k : ℕ) (u : Label) (d : Option Label) (ns : List Label) (home : ℕ) → slice_get program k ≡ Some (Start (of.Spawn u d ns home)) → k < deeds (part (main_of 0) log) → P u home)
    (steps : (p : Label) (q : ℕ) (os : List Outline) (i : ℕ) (u : Label) (d : Option Label) (ns : List Label) (home : ℕ) → P p q → may p os → slice_get os i ≡ Some (of.Spawn u d ns home) → P u home) where
  abbrev Has : List Mark → Type 0
  Has old = (l : LaneName) (e : Event) (u : Label) → StandsOn l e old → unit_in e ≡ Some u → P u (rank_to l.rank e)

  everywhere : (old more : List Mark) → log ≡ more ++ old → Has old
  everywhere [] more is l e u s i = absurd s
  everywhere (y ∷ old) more is l e u s i = ⊎_elim
      (λ here. subst (λ (m : LaneName). P u (rank_to m.rank e)) here.0 (subst (λ (z : Event). P u (rank_to y.lane.rank z)) here.1 (by_event y.event refl goes now.0.counting now.0.dues (ap unit_in here.1 ∙ i) (everywhere old (more ++ y ∷ []) again))))
      (λ there. everywhere old (more ++ y ∷ []) again l e u there i)
      s
    where
      again : log ≡ (more ++ y ∷ []) ++ old
      again = is ∙ sym (append_assoc more (y ∷ []) old)

      all : whole ≡ (to.0 ++ more) ++ (y ∷ old)
      all = to.1 ∙ ap (λ (z : List Mark). to.0 ++ z) is ∙ sym (append_assoc to.0 more (y ∷ old))

      now : Legal ranks workers (y ∷ old)
      now = legal_begins ranks workers (y ∷ old) whole (to.0 ++ more, all) legal

      goes : Goes program task_effects old y (part y.lane old) y.event
      goes = goes_at program task_effects y old whole follows.goes (to.0 ++ more, all)

      back : Begins old whole
      back = begins_tail y old whole (to.0 ++ more, all)

      of_main : y.lane ≡ main_of y.lane.rank → in_hand (part y.lane old) ≡ None → is_done None y.event ≡ true → (o : Outline) → slice_get (program_at y.lane.rank program) (deeds (part y.lane old)) ≡ Some (Start o) → Says y.lane.rank o y.event → unit_in y.event ≡ Some u → P u (rank_to y.lane.rank y.event)
      of_main main none d o at says unit = go (y.lane.rank == 0) refl at
        where
          go : (b : Bool) → (y.lane.rank == 0) ≡ b → slice_get (if b then program else waits program) (deeds (part y.lane old)) ≡ Some (Start o) → P u (rank_to y.lane.rank y.event)
          go true z at =
              let lane : y.lane ≡ main_of 0 = main ∙ ap main_of (eqb-true y.lane.rank 0 z) in
              let sp = spawn_is y.lane.rank o y.event u says unit in
              let grown : deeds (part (main_of 0) (y ∷ old)) ≤ deeds (part (main_of 0) log) = subst (λ (w : List Mark). deeds (part (main_of 0) (y ∷ old)) ≤ deeds (part (main_of 0) w)) (sym is) (deeds_grow (main_of 0) more (y ∷ old)) in
              let own : deeds (part (main_of 0) (y ∷ old)) ≡ one_if (is_done (in_hand (part y.lane old)) y.event) + deeds (part y.lane old) = ap deeds (part_own (main_of 0) y old lane) in
              let one : one_if (is_done (in_hand (part y.lane old)) y.event) ≡ 1 = ap one_if (ap (λ (h : Option Item). is_done h y.event) none ∙ d) in
              starts (deeds (part y.lane old)) u sp.0 sp.1 (rank_to y.lane.rank y.event) (at ∙ ap (λ (q : Outline). Some (Start q)) sp.2) (omega (arith, grown, own, one))
          go false z at = absurd (no_starts program (deeds (part y.lane old)) o at)

      of_task : (q n j : ℕ) → CarriesOut task_effects old y q n j → unit_in y.event ≡ Some u → Has old → P u (rank_to y.lane.rank y.event)
      of_task q n j c unit rec =
          let p = follows.planned q n c.os c.plan in
          let s = task_submitted ranks workers old now.1 q n c.taken in
          let same : s.0 ≡ p.task = one_name ranks workers whole legal q n s.0 p.task (submitted_begins ranks workers q n s.0 old whole back s.1) p.submitted in
          let sp = spawn_is y.lane.rank c.o y.event u c.says unit in
          steps s.0.unit s.1.0.rank c.os j u sp.0 sp.1 (rank_to y.lane.rank y.event) (rec s.1.0 (Submitted n s.0) s.0.unit s.1.2 refl) (subst (λ (z : TaskName). may z.unit c.os) (sym same) p.may_do) (c.here ∙ ap Some sp.2)

      spawns : (h : Option Item) → in_hand (part y.lane old) ≡ h → MaySpawn y.lane h → is_done None y.event ≡ true → Acts program task_effects old y (part y.lane old) h → unit_in y.event ≡ Some u → Has old → P u (rank_to y.lane.rank y.event)
      spawns None hand m d a unit rec = of_main m hand d a.0 a.1 a.2 unit
      spawns (Some (Task q n)) hand m d a unit rec = of_task q n a.0 a.1 unit rec
      spawns (Some (Message q n)) hand m d a unit rec = absurd m

      submits : (k : ℕ) (t : TaskName) → y.event ≡ Submitted k t → (h : Option Item) → in_hand (part y.lane old) ≡ h → MaySubmit y.lane h → SubmitsFreely h y.lane old (part y.lane old) t
          → Acts program task_effects old y (part y.lane old) h → unit_in y.event ≡ Some u → Has old → P u (rank_to y.lane.rank y.event)
      submits k t e None hand m f a unit rec = of_main m hand (ap (is_done None) e) a.0 a.1 a.2 unit
      submits k t e (Some (Task q n)) hand m f a unit rec = of_task q n a.0 a.1 unit rec
      submits k t e (Some (Message q n)) hand m f a unit rec =
          let label : Some t.unit ≡ Some u = sym (ap unit_in e) ∙ unit in
          let same : t.unit ≡ u = cc in
          let s = f.0.1 in
          let there = hand_sent ranks workers old now.1 y.lane q n hand in
          let rank : f.0.0 ≡ y.lane.rank = (same_sent ranks workers old now.1 q n f.0.0 y.lane.rank (Spawned t.unit t.due) there.0 s there.1).0 in
          let here : rank_to y.lane.rank y.event ≡ y.lane.rank = ap (rank_to y.lane.rank) e in
          subst (λ (z : ℕ). P u z) (rank ∙ sym here) (subst (λ (z : Label). P z f.0.0) same (rec s.0 (Sent n f.0.0 (Spawned t.unit t.due)) t.unit s.2 refl))

      by_event : (e : Event) → y.event ≡ e → Goes program task_effects old y (part y.lane old) e → Counting ranks old y.lane (part y.lane old) e → Dues old y.lane (part y.lane old) e → unit_in e ≡ Some u → Has old → P u (rank_to y.lane.rank y.event)
      by_event (Sent k q p) e g a d unit rec = spawns (in_hand (part y.lane old)) refl a.1 (ap (is_done None) e) g (ap unit_in e ∙ unit) rec
      by_event (Submitted k t) e g a d unit rec = submits k t e (in_hand (part y.lane old)) refl a.1 d g (ap unit_in e ∙ unit) rec
      by_event e i g a d unit rec = absurd (cc)

  pub of_tasks : (q n : ℕ) (t : TaskName) → IsSubmitted q n t log → P t.unit q
  of_tasks q n t s = subst (λ (z : ℕ). P t.unit z) s.1 (everywhere log [] refl s.0 (Submitted n t) t.unit s.2 refl)
