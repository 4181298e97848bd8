-- Lemmas that crates above use: where the labels of units form a tree, no two spawns have one unit label.
use Rattle.std.proofs.Common.{◌≡◌, ℕ, ◌+◌, ◌≤◌, Bool, true, false, List, [], ◌∷◌, ◌++◌, refl, sym, ap, ◌∙◌, subst, ⊎_elim, arith}
use Rattle.std.specs.Prelude.{if◌then◌else◌, ◌==◌, Option, Some, None, slice_get}
use Rattle.std.specs.Option.{option_to_list}
use Rattle.std.proofs.lemmas.Bool.{both_ways, eqb-true, or_cases}
use Rattle.app_core.specs.declared.label.Label.{Label}
use Rattle.app_core.specs.declared.outline.Outline.{Outline}
use Rattle.event_lists.specs.declared.lane.LaneName.{LaneName}
use Rattle.event_lists.specs.declared.event.Event.{Event}
use Rattle.event_lists.specs.declared.event.Event.TheVariants.{Sent, TookTask, Submitted}
use Rattle.event_lists.specs.declared.event.TaskName.{TaskName}
use Rattle.event_lists.specs.declared.mark.Item.{Item}
use Rattle.event_lists.specs.declared.mark.Item.TheVariants.{Message, Task}
use Rattle.event_lists.specs.declared.mark.Mark.{Mark}
use Rattle.event_lists.specs.declared.kind.Kind.TheVariants.{Submissions as submissions}
use Rattle.event_lists.specs.Events.{main_of, Begins, part, in_hand, is_item, takes, is_taken, IsSubmitted}
use Rattle.event_lists.specs.Counting.{Counting, MaySpawn, MaySubmit}
use Rattle.event_lists.specs.Legal.{Legal}
use Rattle.event_lists.proofs.LaneLemmas.{part_own}
use Rattle.event_lists.proofs.ListLemmas.{legal_begins, begins_refl, begins_trans, begins_tail, on_begins}
use Rattle.event_lists.proofs.CountLemmas.{same_event}
use Rattle.event_lists.proofs.ItemLemmas.{is_item_some}
use Rattle.event_laws.specs.Follows.{TaskEffects, Doing, Start, waits, program_at, is_done, deeds, Says, CarriesOut, Acts, Goes, IsRun, carried_out}
use Rattle.event_laws.specs.Trees.{unit_of, LabelsAreTree}
use Rattle.event_laws.specs.Apart.{spawn_label, spawned, Apart}
use Rattle.event_laws.proofs.EventEffectLemmas.{label_is}
use Rattle.event_laws.proofs.MainLemmas.{deeds_grow, no_starts}
use Rattle.event_laws.proofs.PositionLemmas.{goes_at, carried_at}
use Rattle.event_laws.proofs.SpawnLemmas.{Spawns, spawn_in, same_task}

pub start_at : (r k : ℕ) (program : List Doing) (o : Outline) → slice_get (program_at r program) k ≡ Some (Start o) → (r ≡ 0) × (slice_get program k ≡ Some (Start o))
start_at r k program o e = go (r == 0) refl e
  where
    go : (b : Bool) → (r == 0) ≡ b → slice_get (if b then program else waits program) k ≡ Some (Start o) → (r ≡ 0) × (slice_get program k ≡ Some (Start o))
    go true i e = (eqb-true r 0 i, e)
    go false i e = absurd (no_starts program k o e)

-- the deeds of a main only grow
deeds_begin : (l : LaneName) (old log : List Mark) → Begins old log → deeds (part l old) ≤ deeds (part l log)
deeds_begin l old log b = subst (λ (z : List Mark). deeds (part l old) ≤ deeds (part l z)) (sym b.1) (deeds_grow l b.0 old)

-- a task that was taken was submitted, with one name
pub task_submitted : (ranks workers : ℕ) (log : List Mark) → Legal ranks workers log → (r n : ℕ) → is_taken (Task r n) log ≡ true → (t : TaskName) × IsSubmitted r n t log
task_submitted ranks workers [] h r n t = absurd (cc)
task_submitted ranks workers (x ∷ log) h r n t =
    ⊎_elim
    (λ here. older (took x.event h.0.counting (is_item_some (Task r n) (takes x.event) here)))
    (λ before. older (task_submitted ranks workers log h.1 r n before))
    (or_cases (is_item (Task r n) (takes x.event)) (is_taken (Task r n) log) t)
  where
    older : (t : TaskName) × IsSubmitted r n t log → (t : TaskName) × IsSubmitted r n t (x ∷ log)
    older a = (a.0, (a.1.0, a.1.1, on_begins a.1.0 (Submitted n a.0) log (x ∷ log) (x ∷ [], refl) a.1.2))

    took : (e : Event) → Counting ranks log x.lane (part x.lane log) e → takes e ≡ Some (Task r n) → (t : TaskName) × IsSubmitted r n t log
    took (TookTask q k) a t =
        let same : q ≡ r = cc in
        let number : k ≡ n = cc in
        subst (λ (z : ℕ). (t : TaskName) × IsSubmitted z n t log) same (subst (λ (z : ℕ). (t : TaskName) × IsSubmitted q z t log) number a.2)
    took e a t = absurd (cc)

pub one_name : (ranks workers : ℕ) (log : List Mark) → Legal ranks workers log → (r n : ℕ) (t u : TaskName) → IsSubmitted r n t log → IsSubmitted r n u log → t ≡ u
one_name ranks workers log h r n t u a b =
    let same = (same_event ranks workers log h submissions n a.0 b.0 (Submitted n t) (Submitted n u) refl refl (a.1 ∙ sym b.1) a.2 b.2).1 in
    cc

module _ (ranks workers : ℕ) (program : List Doing) (may : Label → List Outline → Type 0) (task_effects : TaskEffects) (end : List Mark) (run : IsRun ranks workers program may task_effects end) where
  -- a begun task was submitted before its effects, with the label of its plan
  pub planned_at : (r n : ℕ) (os : List Outline) (before : List Mark) → Begins before end → task_effects r n ≡ Some os → is_taken (Task r n) before ≡ true → (t : TaskName) × IsSubmitted r n t before × may t.unit os
  planned_at r n os before b plan taken =
      let p = run.follows.planned r n os plan in
      let s = task_submitted ranks workers before (legal_begins ranks workers before end b run.legal) r n taken in
      let same = one_name ranks workers end run.legal r n p.task s.0 p.submitted (s.1.0, s.1.1, on_begins s.1.0 _ before end b s.1.2) in
      (s.0, s.1, subst (λ (t : TaskName). may t.unit os) same p.may_do)

  -- a spawn is a start of rank 0's main, or an effect of a task
  pub data Source (u : Label) (x : Mark) (before : List Mark) : Type 0 where
    of_main : in_hand (part x.lane before) ≡ None → x.lane ≡ main_of 0 → is_done None x.event ≡ true → (o : Outline) → slice_get program (deeds (part x.lane before)) ≡ Some (Start o) → Says x.lane.rank o x.event → unit_of o ≡ Some u → Source u x before
    of_task : (r n i : ℕ) → in_hand (part x.lane before) ≡ Some (Task r n) → (c : CarriesOut task_effects before x r n i) → unit_of c.o ≡ Some u → Source u x before

  pub source : (u : Label) (x : Mark) (before : List Mark) → Begins (x ∷ before) end → spawn_label (in_hand (part x.lane before)) x.event ≡ Some u → Source u x before
  source u x before b label = by_event x.event refl (goes_at program task_effects x before end run.follows.goes b) here.0.counting
    where
      here : Legal ranks workers (x ∷ before)
      here = legal_begins ranks workers (x ∷ before) end b run.legal

      acts : (h : Option Item) → in_hand (part x.lane before) ≡ h → MaySpawn x.lane h → is_done None x.event ≡ true → Acts program task_effects before x (part x.lane before) h → spawn_label h x.event ≡ Some u → Source u x before
      acts None e lane done (o, at, says, _) l =
          let s = start_at x.lane.rank (deeds (part x.lane before)) program o at in
          of_main e (lane ∙ ap main_of s.0) done o s.1 says (label_is x.lane.rank o x.event None u says l)
      acts (Some (Message r n)) e lane done a l = absurd lane
      acts (Some (Task r n)) e lane done (i, c) l = of_task r n i e c (label_is x.lane.rank c.o x.event (Some (Task r n)) u c.says l)

      submits : (h : Option Item) → MaySubmit x.lane h → (n : ℕ) (t : TaskName) → spawn_label h (Submitted n t) ≡ Some u → MaySpawn x.lane h
      submits None lane n t l = lane
      submits (Some (Message r m)) lane n t l = absurd (cc)
      submits (Some (Task r m)) lane n t l = tt

      by_event : (e : Event) → x.event ≡ e → Goes program task_effects before x (part x.lane before) e → Counting ranks before x.lane (part x.lane before) e → Source u x before
      by_event (Sent n to p) i g c = acts (in_hand (part x.lane before)) refl c.1 (ap (is_done None) i) g label
      by_event (Submitted n t) i g c = acts (in_hand (part x.lane before)) refl (submits (in_hand (part x.lane before)) c.1 n t (ap (spawn_label (in_hand (part x.lane before))) (sym i) ∙ label)) (ap (is_done None) i) g label
      by_event e i g c = let l = ap (spawn_label (in_hand (part x.lane before))) (sym i) ∙ label in absurd (cc)

  -- no two spawns have one unit label
  module _ (parent : Label → Option Label) (tree : LabelsAreTree program may parent) where
    clash : (u : Label) (x : Mark) (log : List Mark) → Begins (x ∷ log) end → Apart (spawned log) → spawn_label (in_hand (part x.lane log)) x.event ≡ Some u → Spawns u log → ⊥
    clash u x log b a label o = meet (source u x log b label) (source u o.x o.before (begins_trans (o.x ∷ o.before) log end o.begins rest) o.label)
      where
        rest : Begins log end
        rest = begins_tail x log end b

        earlier : Begins o.before end
        earlier = begins_tail o.x o.before end (begins_trans (o.x ∷ o.before) log end o.begins rest)

        meet : Source u x log → Source u o.x o.before → ⊥
        meet (of_task r n i hand c unit) (of_task q m j hand' d unit') =
            let t = planned_at r n c.os log rest c.plan c.taken in
            let v = planned_at q m d.os o.before earlier d.plan d.taken in
            let up : Some (t.0).unit ≡ Some (v.0).unit = sym (tree.steps (t.0).unit c.os i c.o u t.2 c.here unit) ∙ tree.steps (v.0).unit d.os j d.o u v.2 d.here unit' in
            let units : (t.0).unit ≡ (v.0).unit = cc in
            let there : IsSubmitted q m v.0 log = (v.1.0, v.1.1, on_begins v.1.0 (Submitted m v.0) o.before log (begins_tail o.x o.before log o.begins) v.1.2) in
            let same = same_task ranks workers log (legal_begins ranks workers log end rest run.legal) a r n q m t.0 v.0 t.1 there units in
            let plans_are : Some c.os ≡ Some d.os = sym c.plan ∙ (λ k. task_effects (same.0 k) (same.1 k)) ∙ d.plan in
            let lists : c.os ≡ d.os = cc in
            let place : i ≡ j = tree.step_once (t.0).unit c.os i j c.o d.o u t.2 c.here (subst (λ (os : List Outline). slice_get os j ≡ Some d.o) (sym lists) d.here) unit unit' in
            let done = carried_at q m j o.x o.before log o.begins d.effect in
            both_ways (carried_out r n i log) c.once ((λ k. carried_out (same.0 k) (same.1 k) (place k) log) ∙ done)
        meet (of_task r n i hand c unit) (of_main none lane done w at says unit') =
            let t = planned_at r n c.os log rest c.plan c.taken in
            absurd (let e = sym (tree.steps (t.0).unit c.os i c.o u t.2 c.here unit) ∙ tree.starts (deeds (part o.x.lane o.before)) w u at unit' in cc)
        meet (of_main none lane done w at says unit) (of_task q m j hand' d unit') =
            let v = planned_at q m d.os o.before earlier d.plan d.taken in
            absurd (let e = sym (tree.steps (v.0).unit d.os j d.o u v.2 d.here unit') ∙ tree.starts (deeds (part x.lane log)) w u at unit in cc)
        meet (of_main none lane done w at says unit) (of_main none' lane' done' w' at' says' unit') =
            let same = tree.start_once (deeds (part x.lane log)) (deeds (part o.x.lane o.before)) w w' u at at' unit unit' in
            let one : is_done (in_hand (part o.x.lane o.before)) o.x.event ≡ true = ap (λ h. is_done h o.x.event) none' ∙ done' in
            let more : deeds (part o.x.lane (o.x ∷ o.before)) ≡ 1 + deeds (part o.x.lane o.before) = ap deeds (part_own o.x.lane o.x o.before refl) ∙ ap (λ (z : Bool). (if z then 1 else 0) + deeds (part o.x.lane o.before)) one in
            let grown = deeds_begin o.x.lane (o.x ∷ o.before) log o.begins in
            let here : deeds (part x.lane log) ≡ deeds (part o.x.lane log) = ap (λ (l : LaneName). deeds (part l log)) (lane ∙ sym lane') in
            omega arith

    apart_at : (log : List Mark) → Begins log end → Apart (spawned log)
    apart_at [] b = tt
    apart_at (x ∷ log) b = go (spawn_label (in_hand (part x.lane log)) x.event) refl (apart_at log (begins_tail x log end b))
      where
        go : (o : Option Label) → spawn_label (in_hand (part x.lane log)) x.event ≡ o → Apart (spawned log) → Apart (option_to_list o ++ spawned log)
        go None e a = a
        go (Some u) e a = (λ h. clash u x log b a e (spawn_in u log h), a)

    pub apart : Apart (spawned end)
    apart = apart_at end (begins_refl end)
