-- At the receipt of a fence all that comes before the fence is done, and nothing of it comes later.
use Rattle.std.proofs.Common.{◌≡◌, ◌⊎◌, ℕ, suc, ◌<◌, ◌≤◌, Bool, true, false, List, [], ◌∷◌, ◌++◌, refl, sym, ap, ◌∙◌, subst, inl, inr, ⊎_elim, arith, append_assoc}
use Rattle.std.specs.Prelude.{if◌then◌else◌, ◌==◌, Option, Some, None, take, slice_get}
use Rattle.std.proofs.lemmas.Bool.{cases_eq, cases_lt, eqb-true}
use Rattle.app_core.specs.declared.label.Label.{Label}
use Rattle.app_core.specs.declared.outline.Outline.{Outline}
use Rattle.app_core.specs.declared.outline.Outline.TheVariants as of
use Rattle.event_lists.specs.declared.lane.LaneName.{LaneName}
use Rattle.event_lists.specs.declared.event.Event.{Event}
use Rattle.event_lists.specs.declared.event.Event.TheVariants.{Sent, Handled, Submitted, Ran, Gave}
use Rattle.event_lists.specs.declared.event.Parcel.TheVariants.{Unit as Spawned, Give}
use Rattle.event_lists.specs.declared.event.TaskName.{TaskName}
use Rattle.event_lists.specs.declared.receipt.Receipt.{Receipt}
use Rattle.event_lists.specs.declared.mark.Item.{Item}
use Rattle.event_lists.specs.declared.mark.Item.TheVariants.{Message, Task}
use Rattle.event_lists.specs.declared.mark.Mark.{Mark}
use Rattle.event_lists.specs.Events.{part, main_of, in_hand, ends, Begins, StandsOn, IsSent, IsSubmitted}
use Rattle.event_lists.specs.Counting.{Counting, MaySpawn, MaySubmit}
use Rattle.event_lists.specs.Dues.{Dues, SubmitsFreely}
use Rattle.event_lists.specs.Fences.{fence_in, enters}
use Rattle.event_lists.specs.Quiet.{Quiet}
use Rattle.event_lists.specs.Legal.{Legal}
use Rattle.event_lists.proofs.ListLemmas.{legal_begins, begins_tail}
use Rattle.event_lists.proofs.ItemLemmas.{ended_at}
use Rattle.event_lists.proofs.HandLemmas.{ends_hand}
use Rattle.event_lists.proofs.FenceLemmas.{received}
use Rattle.event_lists.proofs.ReceiptLemmas.{quiet}
use Rattle.event_laws.specs.Follows.{TaskEffects, Doing, Start, Wait, Goes, Acts, CarriesOut, Finished, FollowsBy, IsRun, Says, program_at, deeds, waits, carried_out}
use Rattle.event_laws.specs.Trees.{unit_of}
use Rattle.event_laws.specs.Stages.{fences_in, IsStaged}
use Rattle.event_laws.specs.Done.{IsDone}
use Rattle.event_laws.specs.Held.{HasReceipt}
use Rattle.event_laws.proofs.PositionLemmas.{goes_at, at_stands, carried_begins}
use Rattle.event_laws.proofs.SourceLemmas.{one_name, task_submitted}
use Rattle.event_laws.proofs.EffectMarkLemmas.{goes_begins, effect_at, effect_by}
use Rattle.event_laws.proofs.FinishedTaskLemmas.{all_carried}
use Rattle.event_laws.proofs.TaskInductionLemmas.{unit_in}
use Rattle.event_laws.proofs.ParcelLemmas.{submitted_begins, spawn_arrives, still_open}
use Rattle.event_laws.proofs.MainLemmas.{Placed, placed, started, deeds_grow, fences_grow, before_wait, no_starts}

on_split : (l : LaneName) (e : Event) (a b : List Mark) → StandsOn l e (a ++ b) → StandsOn l e a ⊎ StandsOn l e b
on_split l e [] b s = inr s
on_split l e (x ∷ a) b (inl s) = inl (inl s)
on_split l e (x ∷ a) b (inr s) = ⊎_elim (λ z. inl (inr z)) (λ z. inr z) (on_split l e a b s)

module _ (ranks workers : ℕ) (program : List Doing) (may : Label → List Outline → Type 0) (task_effects : TaskEffects) (log before : List Mark) (x : Mark) (r : Receipt)
    (run : IsRun ranks workers program may task_effects log) (has : HasReceipt log before x r) where
  pub to_log : Begins before log
  to_log = begins_tail x before log has.begins

  pub legal_now : Legal ranks workers before
  legal_now = legal_begins ranks workers before log to_log run.legal

  legal_then : Legal ranks workers (x ∷ before)
  legal_then = legal_begins ranks workers (x ∷ before) log has.begins run.legal

  pub follows_now : FollowsBy program task_effects before
  follows_now = goes_begins program task_effects before log run.follows.goes to_log

  pub quiet_now : Quiet log before r
  quiet_now = quiet ranks workers log before x r run.legal has.begins has.is

  -- a task that was submitted has carried out all
  pub task_done : (q n : ℕ) (t : TaskName) → IsSubmitted q n t before → (os : List Outline) × IsDone may task_effects before q t.unit os × (task_effects q n ≡ Some os) × ((i : ℕ) (o : Outline) → slice_get os i ≡ Some o → carried_out q n i before ≡ true)
  task_done q n t s =
      let e = ended_at (Task q n) before (omega (arith, quiet_now.tasks_ran q n t s)) in
      let legal = legal_begins ranks workers (e.0 ∷ e.1) before e.2 legal_now in
      let hand = ends_hand e.0.event (Task q n) ranks e.1 e.0.lane (part e.0.lane e.1) legal.0.counting e.3 in
      let goes = goes_at program task_effects e.0 e.1 before follows_now e.2 in
      let to = begins_tail e.0 e.1 before e.2 in
      let d = finished e.0 e.1 (part e.0.lane e.1) e.0.event goes e.3 in
      let p = run.follows.planned q n d.os d.plan in
      let same : p.task ≡ t = one_name ranks workers log run.legal q n p.task t p.submitted (submitted_begins ranks workers q n t before log to_log s) in
      let all : (i : ℕ) (o : Outline) → slice_get d.os i ≡ Some o → carried_out q n i before ≡ true = λ i o at. carried_begins q n i e.1 before to (all_carried ranks workers program task_effects e.1 legal.1 (goes_begins program task_effects e.1 before follows_now to) e.0.lane q n hand d i o at) in (
        d.os,
        record {
          number = n;
          task = t;
          submitted = s;
          label = refl;
          plan = d.plan;
          may_do = subst (λ (z : TaskName). may z.unit d.os) {x = p.task} same p.may_do;
          all = λ i o at. all i o at;
        },
        d.plan,
        all,
      )
    where
      finished : (y : Mark) (earlier : List Mark) (mine : List Event) (e : Event) → Goes program task_effects earlier y mine e → ends e ≡ Some (Task q n) → Finished task_effects earlier mine q n
      finished y earlier mine (Ran k a b) g i =
          let same : a ≡ q = cc in
          let number : b ≡ n = cc in
          subst (λ (z : ℕ). Finished task_effects earlier mine z n) same (subst (λ (z : ℕ). Finished task_effects earlier mine a z) number g.0)
      finished y earlier mine (Handled k a b) g i = absurd (let z : Message a b ≡ Task q n = cc in cc)
      finished y earlier mine e g i = absurd (cc)

  -- rank 0's main waits in the fence
  pub main_waits : Placed program (Some r.fence) (deeds (part (main_of 0) before)) (enters (part (main_of 0) before))
  main_waits =
      let f = received ranks workers before x r legal_then.0 has.is in
      let inside : fence_in (part (main_of 0) before) ≡ Some r.fence = subst (λ (m : LaneName). fence_in (part m before) ≡ Some r.fence) f.0 f.1.2 in
      subst (λ (z : Option ℕ). Placed program z (deeds (part (main_of 0) before)) (enters (part (main_of 0) before))) inside (placed ranks workers program task_effects 0 before legal_now follows_now)

  not_here : (k : ℕ) (o : Outline) → slice_get program k ≡ Some (Start o) → k ≡ deeds (part (main_of 0) before) → ⊥
  not_here k o at here = let both : Some Wait ≡ Some (Start o) = sym main_waits.0 ∙ ap (slice_get program) (sym here) ∙ at in let z : Wait ≡ Start o = cc in cc

  -- a start is done where it has fewer fences before it
  pub early_start : (k : ℕ) (o : Outline) → slice_get program k ≡ Some (Start o) → fences_in (take k program) < r.fence → k < deeds (part (main_of 0) before)
  early_start k o at lt = ⊎_elim
      (λ (less : k < deeds (part (main_of 0) before)). less)
      (λ (more : deeds (part (main_of 0) before) ≤ k). ⊎_elim
      (λ (here : k ≡ deeds (part (main_of 0) before)). absurd (not_here k o at here))
      (λ apart.
      let past : suc (deeds (part (main_of 0) before)) ≤ k = omega (arith, more, apart) in
      absurd (omega (arith, lt, fences_grow program (suc (deeds (part (main_of 0) before))) k past, before_wait program (deeds (part (main_of 0) before)) main_waits.0, main_waits.1, main_waits.2)))
      (cases_eq k (deeds (part (main_of 0) before))))
      (cases_lt k (deeds (part (main_of 0) before)))

  -- and one at a later place has as many
  pub late_start : (k : ℕ) (o : Outline) → slice_get program k ≡ Some (Start o) → deeds (part (main_of 0) before) ≤ k → r.fence ≤ fences_in (take k program)
  late_start k o at le = ⊎_elim
      (λ (less : fences_in (take k program) < r.fence). absurd (omega (arith, early_start k o at less, le)))
      (λ (more : r.fence ≤ fences_in (take k program)). more)
      (cases_lt (fences_in (take k program)) r.fence)

  pub start_done : (k : ℕ) (u : Label) (d : Option Label) (ns : List Label) (home : ℕ) → slice_get program k ≡ Some (Start (of.Spawn u d ns home)) → fences_in (take k program) < r.fence → (os : List Outline) × IsDone may task_effects before home u os
  start_done k u d ns home at lt =
      let s = started ranks workers program task_effects before legal_now follows_now k (of.Spawn u d ns home) at (early_start k (of.Spawn u d ns home) at lt) in
      let a = spawn_arrives ranks workers before legal_now quiet_now.messages (main_of 0) 0 s.x.event u d ns home refl (subst (λ (m : LaneName). StandsOn m s.x.event before) s.lane (at_stands s.x s.before before s.begins)) s.says in
      let t = task_done home a.0 a.1 a.3 in
      (t.0, subst (λ (z : Label). IsDone may task_effects before home z t.0) {x = a.1.unit} a.2 t.1)

  pub spawn_done : (q : ℕ) (p : Label) (os : List Outline) → IsDone may task_effects before q p os → (i : ℕ) (u : Label) (d : Option Label) (ns : List Label) (home : ℕ) → slice_get os i ≡ Some (of.Spawn u d ns home) → (ps : List Outline) × IsDone may task_effects before home u ps
  spawn_done q p os done i u d ns home at =
      let y = effect_at q done.number i before (done.all i (of.Spawn u d ns home) at) in
      let c = effect_by program task_effects y.1 y.0 (goes_at program task_effects y.0 y.1 before follows_now y.2) q done.number i y.3 in
      let lists : c.os ≡ os = (let e = sym c.plan ∙ done.plan in cc) in
      let same : Some c.o ≡ Some (of.Spawn u d ns home) = sym c.here ∙ ap (λ (z : List Outline). slice_get z i) lists ∙ at in
      let is : c.o ≡ of.Spawn u d ns home = cc in
      let says : Says y.0.lane.rank (of.Spawn u d ns home) y.0.event = subst (λ (z : Outline). Says y.0.lane.rank z y.0.event) {x = c.o} is c.says in
      let a = spawn_arrives ranks workers before legal_now quiet_now.messages y.0.lane y.0.lane.rank y.0.event u d ns home refl (at_stands y.0 y.1 before y.2) says in
      let t = task_done home a.0 a.1 a.3 in
      (t.0, subst (λ (z : Label). IsDone may task_effects before home z t.0) {x = a.1.unit} a.2 t.1)

  module _ (stage : Label → ℕ) (staged : IsStaged program may stage) where
    abbrev LateIn : List Mark → Type 0
    LateIn more = (l : LaneName) (e : Event) (u : Label) → StandsOn l e more → unit_in e ≡ Some u → r.fence ≤ stage u

    label_is : (q : ℕ) (o : Outline) (e : Event) (u : Label) → Says q o e → unit_in e ≡ Some u → unit_of o ≡ Some u
    label_is q (of.Spawn v d ns home) e u s i = go (home == q) (ap unit_in (sym s.1) ∙ i)
      where
        go : (b : Bool) → unit_in (if b then Submitted s.0 (record { unit = v; needs = ns; due = d }) else Sent s.0 home (Spawned v d)) ≡ Some u → Some v ≡ Some u
        go true i = i
        go false i = i
    label_is q (of.Give f home) e u s i = go (home == q) (ap unit_in (sym s.1) ∙ i)
      where
        go : (b : Bool) → unit_in (if b then Gave f else Sent s.0 home (Give f)) ≡ Some u → None ≡ Some u
        go true i = i
        go false i = i
    label_is q (of.Put c) e u s i = ap unit_in (sym s.1) ∙ i
    label_is q (of.Erase c) e u s i = ap unit_in (sym s.1) ∙ i

    not_receipt : (e : Event) (u : Label) → e ≡ x.event → unit_in e ≡ Some u → ⊥
    not_receipt e u i j = let z : None ≡ Some u = sym (ap unit_in (i ∙ has.is)) ∙ j in cc

    -- what is after the receipt or before it
    after_or_before : (l : LaneName) (e : Event) (u : Label) (more : List Mark) → unit_in e ≡ Some u → StandsOn l e (more ++ x ∷ before) → StandsOn l e more ⊎ StandsOn l e before
    after_or_before l e u more i s = ⊎_elim
        (λ a. inl a)
        (λ b. ⊎_elim (λ z. absurd (not_receipt e u (sym z.1) i)) (λ z. inr z) b)
        (on_split l e more (x ∷ before) s)

    -- a unit that is sent or submitted after the receipt has as many fences before it
    late : (more front : List Mark) → log ≡ front ++ (more ++ x ∷ before) → LateIn more
    late [] front whole l e u s i = absurd s
    late (y ∷ more) front whole l e u s i = ⊎_elim
        (λ here. by_event y.event refl (goes_at program task_effects y (more ++ x ∷ before) log run.follows.goes (front, whole)) legal.0.counting legal.0.dues (ap unit_in here.1 ∙ i) (late more (front ++ y ∷ []) again))
        (λ there. late more (front ++ y ∷ []) again l e u there i)
        s
      where
        again : log ≡ (front ++ y ∷ []) ++ (more ++ x ∷ before)
        again = whole ∙ sym (append_assoc front (y ∷ []) (more ++ x ∷ before))

        legal : Legal ranks workers (y ∷ (more ++ x ∷ before))
        legal = legal_begins ranks workers (y ∷ (more ++ x ∷ before)) log (front, whole) run.legal

        back : Begins (more ++ x ∷ before) log
        back = (front ++ y ∷ [], again)

        since : Begins before (more ++ x ∷ before)
        since = (more ++ x ∷ [], sym (append_assoc more (x ∷ []) before))

        of_main : y.lane ≡ main_of y.lane.rank → (o : Outline) → slice_get (program_at y.lane.rank program) (deeds (part y.lane (more ++ x ∷ before))) ≡ Some (Start o) → unit_of o ≡ Some u → r.fence ≤ stage u
        of_main main o at unit = go (y.lane.rank == 0) refl at
          where
            go : (b : Bool) → (y.lane.rank == 0) ≡ b → slice_get (if b then program else waits program) (deeds (part y.lane (more ++ x ∷ before))) ≡ Some (Start o) → r.fence ≤ stage u
            go true z at =
                let lane : y.lane ≡ main_of 0 = main ∙ ap main_of (eqb-true y.lane.rank 0 z) in
                let grown : deeds (part (main_of 0) before) ≤ deeds (part (main_of 0) (more ++ x ∷ before)) = subst (λ (w : List Mark). deeds (part (main_of 0) before) ≤ deeds (part (main_of 0) w)) (sym since.1) (deeds_grow (main_of 0) since.0 before) in
                let here : deeds (part y.lane (more ++ x ∷ before)) ≡ deeds (part (main_of 0) (more ++ x ∷ before)) = ap (λ (m : LaneName). deeds (part m (more ++ x ∷ before))) lane in
                omega (arith, staged.starts (deeds (part y.lane (more ++ x ∷ before))) o u at unit, late_start (deeds (part y.lane (more ++ x ∷ before))) o at (omega (arith, grown, here)))
            go false z at = absurd (no_starts program (deeds (part y.lane (more ++ x ∷ before))) o at)

        of_task : (q n : ℕ) → in_hand (part y.lane (more ++ x ∷ before)) ≡ Some (Task q n) → (j : ℕ) → CarriesOut task_effects (more ++ x ∷ before) y q n j → unit_in y.event ≡ Some u → LateIn more → r.fence ≤ stage u
        of_task q n hand j c unit rec =
            let p = run.follows.planned q n c.os c.plan in
            let s = task_submitted ranks workers (more ++ x ∷ before) legal.1 q n c.taken in
            let same : s.0 ≡ p.task = one_name ranks workers log run.legal q n s.0 p.task (submitted_begins ranks workers q n s.0 (more ++ x ∷ before) log back s.1) p.submitted in
            let up : stage u ≡ stage p.task.unit = staged.steps p.task.unit c.os j c.o u p.may_do c.here (label_is y.lane.rank c.o y.event u c.says unit) in
            let spawner : r.fence ≤ stage s.0.unit = ⊎_elim
            (λ a. rec s.1.0 (Submitted n s.0) s.0.unit a refl)
            (λ b. absurd (still_open ranks workers before (more ++ x ∷ before) legal.1 since y.lane (Task q n) hand (quiet_now.tasks_ran q n s.0 (s.1.0, s.1.1, b))))
            (after_or_before s.1.0 (Submitted n s.0) s.0.unit more refl s.1.2) in
            omega (arith, spawner, up, ap (λ (z : TaskName). stage z.unit) same)

        of_message : (q n : ℕ) → in_hand (part y.lane (more ++ x ∷ before)) ≡ Some (Message q n) → (to : ℕ) (d : Option Label) → IsSent q n to (Spawned u d) (more ++ x ∷ before) → LateIn more → r.fence ≤ stage u
        of_message q n hand to d s rec = ⊎_elim
            (λ a. rec s.0 (Sent n to (Spawned u d)) u a refl)
            (λ b. absurd (still_open ranks workers before (more ++ x ∷ before) legal.1 since y.lane (Message q n) hand (quiet_now.messages q n to (Spawned u d) (s.0, s.1, b)).0))
            (after_or_before s.0 (Sent n to (Spawned u d)) u more refl s.2)

        spawns : (h : Option Item) → in_hand (part y.lane (more ++ x ∷ before)) ≡ h → MaySpawn y.lane h → Acts program task_effects (more ++ x ∷ before) y (part y.lane (more ++ x ∷ before)) h → unit_in y.event ≡ Some u → LateIn more → r.fence ≤ stage u
        spawns None hand m a unit rec = of_main m a.0 a.1 (label_is y.lane.rank a.0 y.event u a.2 unit)
        spawns (Some (Task q n)) hand m a unit rec = of_task q n hand a.0 a.1 unit rec
        spawns (Some (Message q n)) hand m a unit rec = absurd m

        submits : (k : ℕ) (t : TaskName) → y.event ≡ Submitted k t → (h : Option Item) → in_hand (part y.lane (more ++ x ∷ before)) ≡ h → MaySubmit y.lane h → SubmitsFreely h y.lane (more ++ x ∷ before) (part y.lane (more ++ x ∷ before)) t
            → Acts program task_effects (more ++ x ∷ before) y (part y.lane (more ++ x ∷ before)) h → unit_in y.event ≡ Some u → LateIn more → r.fence ≤ stage u
        submits k t is None hand m d a unit rec = of_main m a.0 a.1 (label_is y.lane.rank a.0 y.event u a.2 unit)
        submits k t is (Some (Task q n)) hand m d a unit rec = of_task q n hand a.0 a.1 unit rec
        submits k t is (Some (Message q n)) hand m d a unit rec =
            let label : Some t.unit ≡ Some u = sym (ap unit_in is) ∙ unit in
            let same : t.unit ≡ u = cc in
            of_message q n hand d.0.0 t.due (subst (λ (z : Label). IsSent q n d.0.0 (Spawned z t.due) (more ++ x ∷ before)) same d.0.1) rec

        by_event : (e : Event) → y.event ≡ e → Goes program task_effects (more ++ x ∷ before) y (part y.lane (more ++ x ∷ before)) e → Counting ranks (more ++ x ∷ before) y.lane (part y.lane (more ++ x ∷ before)) e
            → Dues (more ++ x ∷ before) y.lane (part y.lane (more ++ x ∷ before)) e → unit_in e ≡ Some u → LateIn more → r.fence ≤ stage u
        by_event (Sent k to p) is g a d unit rec = spawns (in_hand (part y.lane (more ++ x ∷ before))) refl a.1 g (ap unit_in is ∙ unit) rec
        by_event (Submitted k t) is g a d unit rec = submits k t is (in_hand (part y.lane (more ++ x ∷ before))) refl a.1 d g (ap unit_in is ∙ unit) rec
        by_event e is g a d unit rec = absurd (cc)

    -- so each task of a command before the fence was submitted before the receipt
    pub early_task : (q n : ℕ) (t : TaskName) → IsSubmitted q n t log → stage t.unit < r.fence → IsSubmitted q n t before
    early_task q n t s lt = (
      s.0,
      s.1,
      ⊎_elim
          (λ a. absurd (let z = late has.begins.0 [] has.begins.1 s.0 (Submitted n t) t.unit a refl in omega (arith, z, lt)))
          (λ b. b)
          (after_or_before s.0 (Submitted n t) t.unit has.begins.0 refl (subst (StandsOn s.0 (Submitted n t)) has.begins.1 s.2)),
    )
