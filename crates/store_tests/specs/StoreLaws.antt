-- The laws of the application on lists of events.
use Rattle.std.proofs.Common.{◌≡◌, ℕ, zero, suc, ◌≤◌, Bool, true, false, List, [], ◌∷◌, refl, sym, ap, subst, ◌∙◌, inl, inr, arith}
use Rattle.std.specs.Prelude.{Option, Some, None, if◌then◌else◌, ◌==◌, slice_get, Contains}
use Rattle.app_core.specs.declared.Label.{Label}
use Rattle.app_core.specs.declared.CellName.{CellName}
use Rattle.app_core.specs.declared.Outline.{Outline}
use Rattle.app_core.specs.declared.outline.Outline.TheVariants as of
use Rattle.app_core.specs.Commands.{IsWork}
use Rattle.app_core.specs.Outlines.{named as futures_named, Touches}
use Rattle.app_core.proofs.CountLemmas.{some_is}
use Rattle.event_lists.specs.declared.lane.LaneName.{LaneName}
use Rattle.event_lists.specs.declared.event.Event.{Event}
use Rattle.event_lists.specs.declared.event.Event.TheVariants.{TookTask, Submitted, Put, Enter, Leave, Receipt as Receives}
use Rattle.event_lists.specs.declared.event.TaskName.{TaskName}
use Rattle.event_lists.specs.declared.mark.Item.TheVariants.{Task}
use Rattle.event_lists.specs.declared.mark.Mark.{Mark}
use Rattle.event_lists.specs.declared.receipt.Receipt.{Receipt}
use Rattle.event_lists.specs.Events.{Begins, StandsOn, part, same_lane, takes, IsSubmitted}
use Rattle.event_lists.specs.Counting.{Counting}
use Rattle.event_lists.specs.Fences.{Fences, fence_in}
use Rattle.event_lists.specs.Legal.{Legal}
use Rattle.event_lists.proofs.ListLemmas.{legal_begins, begins_trans, begins_tail, on_begins}
use Rattle.event_lists.proofs.LaneLemmas.{same_lane_true}
use Rattle.event_laws.specs.Follows.{TaskEffects, Start, IsRun, is_own, bin_of}
use Rattle.event_laws.specs.Trees.{unit_of, LabelsAreTree, BringsUp, IsOnce}
use Rattle.event_laws.specs.Apart.{Apart, spawned, HasOneBringer, EffectsApart, ErasesPut}
use Rattle.event_laws.specs.Held.{HasReceipt, AllSound}
use Rattle.event_laws.proofs.PositionLemmas.{follows_begins, taken_stands}
use Rattle.event_laws.proofs.SpawnLemmas.{Spawns, task_spawn}
use Rattle.event_laws.proofs.SourceLemmas.{apart, one_name, planned_at, Source, of_main, of_task, source}
use Rattle.event_laws.proofs.BringerLemmas.{one_bringer, effects_apart}
use Rattle.event_laws.proofs.CarriedEffectLemmas.{put_carried}
use Rattle.store_tests.specs.declared.store.StoreUnit.{StoreUnit}
use Rattle.store_tests.specs.declared.store.StoreUnit.TheVariants.{Fill, Move}
use Rattle.store_tests.specs.Store.{kinds, old_entry, first_entry, second_entry, label_of, starting_of, step_of, told, MayDo, program}

-- the command that writes the version of all entries
abbrev pub writer_of : ℕ → Option ℕ
writer_of version = if version == 1 then Some 1 else None

-- what the bins have at a fence, and what is counted there, isn't told: no command is sound
abbrev pub IsSound : ℕ → Type 0
IsSound command = ⊥

-- the spawn of a unit
abbrev spawn : StoreUnit → Outline
spawn unit = of.Spawn (label_of unit) None [] 0

-- the only start
by_start : (P : ℕ → Outline → Type 0) → P 0 (spawn Fill) → (k : ℕ) (o : Outline) → slice_get program k ≡ Some (Start o) → P k o
by_start P fill zero o e = subst (P 0) (let z : Start (spawn Fill) ≡ Start o = cc in cc) fill
by_start P fill (suc zero) o e = absurd (cc)
by_start P fill (suc (suc k)) o e = absurd (cc)

-- each effect of a unit
by_outline : (P : StoreUnit → ℕ → Outline → Type 0) → P Fill 0 (of.Put old_entry) → P Fill 1 (spawn Move) → P Move 0 (of.Put first_entry) → P Move 1 (of.Put second_entry) → P Move 2 (of.Erase old_entry)
    → (unit : StoreUnit) (i : ℕ) (o : Outline) → slice_get (told 1 (step_of unit)) i ≡ Some o → P unit i o
by_outline P put spawns first second erase Fill zero o e = subst (P Fill 0) (some_is _ o e) put
by_outline P put spawns first second erase Fill (suc zero) o e = subst (P Fill 1) (some_is _ o e) spawns
by_outline P put spawns first second erase Fill (suc (suc i)) o e = absurd (cc)
by_outline P put spawns first second erase Move zero o e = subst (P Move 0) (some_is _ o e) first
by_outline P put spawns first second erase Move (suc zero) o e = subst (P Move 1) (some_is _ o e) second
by_outline P put spawns first second erase Move (suc (suc zero)) o e = subst (P Move 2) (some_is _ o e) erase
by_outline P put spawns first second erase Move (suc (suc (suc i))) o e = absurd (cc)

-- the same of what a label allows
by_label : (P : Label → ℕ → Outline → Type 0) → P (label_of Fill) 0 (of.Put old_entry) → P (label_of Fill) 1 (spawn Move) → P (label_of Move) 0 (of.Put first_entry) → P (label_of Move) 1 (of.Put second_entry) → P (label_of Move) 2 (of.Erase old_entry)
    → (p : Label) (os : List Outline) (i : ℕ) (o : Outline) → MayDo p os → slice_get os i ≡ Some o → P p i o
by_label P put spawns first second erase p os i o (unit, label, lists) e =
    subst (λ (z : Label). P z i o) label (by_outline (λ u. P (label_of u)) put spawns first second erase unit i o (subst (λ (z : List Outline). slice_get z i ≡ Some o) lists e))

-- the label of the unit that spawns the unit of a label
abbrev parent : Label → Option Label
parent l = if l.part == 2 then Some (label_of Fill) else None

none : {A : Type 0} (u : Label) → None ≡ Some u → A
none u e = absurd (cc)

starts_only : (Q : ℕ → Label → Type 0) → Q 0 (label_of Fill) → (k : ℕ) (o : Outline) (u : Label) → slice_get program k ≡ Some (Start o) → unit_of o ≡ Some u → Q k u
starts_only Q fill k o u e unit = by_start (λ k o. (u : Label) → unit_of o ≡ Some u → Q k u) (λ u s. subst (Q 0) (some_is _ u s) fill) k o e u unit

spawns_only : (Q : Label → ℕ → Label → Type 0) → Q (label_of Fill) 1 (label_of Move) → (p : Label) (os : List Outline) (i : ℕ) (o : Outline) (u : Label) → MayDo p os → slice_get os i ≡ Some o → unit_of o ≡ Some u → Q p i u
spawns_only Q move p os i o u m e unit = by_label (λ p i o. (u : Label) → unit_of o ≡ Some u → Q p i u) (λ u s. none u s) (λ u s. subst (Q (label_of Fill) 1) (some_is _ u s) move) (λ u s. none u s) (λ u s. none u s) (λ u s. none u s) p os i o m e u unit

tree : LabelsAreTree program MayDo parent
tree = record {
  starts = starts_only (λ k u. parent u ≡ None) refl;
  steps = spawns_only (λ p i u. parent u ≡ Some p) refl;
  start_once = λ k j o q u e f s t. starts_only (λ k u. k ≡ 0) refl k o u e s ∙ sym (starts_only (λ k u. k ≡ 0) refl j q u f t);
  step_once = λ p os i j o q u m e f s t. spawns_only (λ p i u. i ≡ 1) refl p os i o u m e s ∙ sym (spawns_only (λ p i u. i ≡ 1) refl p os j q u m f t);
}

none_in : {A : Type 0} (l : Label) → Contains [] l → A
none_in l (k, lt, e) = absurd (omega (arith, lt))

-- nothing creates a future, and no unit has a due
abbrev no_label : Label → Option Label
no_label l = None

futures : BringsUp program MayDo no_label no_label
futures = record {
  starts = λ k o l e. by_start (λ k o. Contains (futures_named o) l → no_label l ≡ None) (λ c. none_in l c) k o e;
  steps = λ p os i o l m e c own. by_label (λ p i o. Contains (futures_named o) l → no_label l ≡ Some p) (λ c. none_in l c) (λ c. none_in l c) (λ c. none_in l c) (λ c. none_in l c) (λ c. none_in l c) p os i o m e c;
  start_due = λ k u d ns h e. by_start (λ k o. o ≡ of.Spawn u d ns h → d ≡ no_label u) (λ z. cc) k (of.Spawn u d ns h) e refl;
  step_due = λ p os i u d ns h m e. by_label (λ p i o. o ≡ of.Spawn u d ns h → d ≡ no_label u) (λ z. absurd (cc)) (λ z. cc) (λ z. absurd (cc)) (λ z. absurd (cc)) (λ z. absurd (cc)) p os i (of.Spawn u d ns h) m e refl;
}

-- the label of the unit that puts an entry, and the place of its effect
abbrev putter : CellName → Label
putter c = if c.place == 17 then label_of Fill else label_of Move

abbrev put_place : CellName → ℕ
put_place c = if c.place == 2 then 1 else 0

puts_only : (Q : Label → ℕ → CellName → Type 0) → Q (label_of Fill) 0 old_entry → Q (label_of Move) 0 first_entry → Q (label_of Move) 1 second_entry → (p : Label) (os : List Outline) (i : ℕ) (c : CellName) → MayDo p os → slice_get os i ≡ Some (of.Put c) → Q p i c
puts_only Q old first second p os i c m e = by_label (λ p i o. o ≡ of.Put c → Q p i c) (λ z. subst (Q (label_of Fill) 0) (let y : old_entry ≡ c = cc in y) old) (λ z. absurd (cc))
    (λ z. subst (Q (label_of Move) 0) (let y : first_entry ≡ c = cc in y) first) (λ z. subst (Q (label_of Move) 1) (let y : second_entry ≡ c = cc in y) second) (λ z. absurd (cc)) p os i (of.Put c) m e refl

erases_only : (Q : Label → ℕ → CellName → Type 0) → Q (label_of Move) 2 old_entry → (p : Label) (os : List Outline) (i : ℕ) (c : CellName) → MayDo p os → slice_get os i ≡ Some (of.Erase c) → Q p i c
erases_only Q old p os i c m e = by_label (λ p i o. o ≡ of.Erase c → Q p i c) (λ z. absurd (cc)) (λ z. absurd (cc)) (λ z. absurd (cc)) (λ z. absurd (cc)) (λ z. subst (Q (label_of Move) 2) (let y : old_entry ≡ c = cc in y) old) p os i (of.Erase c) m e refl

puts_once : IsOnce MayDo parent (λ c. of.Put c)
puts_once = record {
  unit = λ p q os ps i j c m n e f. inl (puts_only (λ p i c. p ≡ putter c) refl refl refl p os i c m e ∙ sym (puts_only (λ p i c. p ≡ putter c) refl refl refl q ps j c n f));
  place = λ p os i j c m e f. puts_only (λ p i c. i ≡ put_place c) refl refl refl p os i c m e ∙ sym (puts_only (λ p i c. i ≡ put_place c) refl refl refl p os j c m f);
}

erases_once : IsOnce MayDo parent (λ c. of.Erase c)
erases_once = record {
  unit = λ p q os ps i j c m n e f. inl (erases_only (λ p i c. p ≡ label_of Move) refl p os i c m e ∙ sym (erases_only (λ p i c. p ≡ label_of Move) refl q ps j c n f));
  place = λ p os i j c m e f. erases_only (λ p i c. i ≡ 2) refl p os i c m e ∙ sym (erases_only (λ p i c. i ≡ 2) refl p os j c m f);
}

-- who spawns does so after it put the old entry
filler : (p : Label) (os : List Outline) (i : ℕ) (o : Outline) (u : Label) → MayDo p os → slice_get os i ≡ Some o → unit_of o ≡ Some u → (i ≡ 1) × (is_own o ≡ true) × (slice_get os 0 ≡ Some (of.Put old_entry))
filler p os i o u (Fill, label, lists) e s =
    let m : MayDo p os = (Fill, label, lists) in (
      spawns_only (λ p i u. i ≡ 1) refl p os i o u m e s,
      by_label (λ p i o. unit_of o ≡ Some u → is_own o ≡ true) (λ s. none u s) (λ s. refl) (λ s. none u s) (λ s. none u s) (λ s. none u s) p os i o m e s,
      ap (λ (z : List Outline). slice_get z 0) lists,
    )
filler p os i o u (Move, label, lists) e s =
    let one = spawns_only (λ p i u. p.part ≡ 1) refl p os i o u (Move, label, lists) e s in
    let two : 2 ≡ p.part = ap (λ (l : Label). l.part) label in
    absurd (omega (arith, one, two))

takes_task : (e : Event) (r n : ℕ) → takes e ≡ Some (Task r n) → e ≡ TookTask r n
takes_task (TookTask q m) r n t = let rank : q ≡ r = cc in let number : m ≡ n = cc in λ i. TookTask (rank i) (number i)
takes_task e r n t = absurd (cc)

-- a main in a fence is in one with a number from 1 on
in_fence : (ranks : ℕ) (log : List Mark) (l : LaneName) (es : List Event) (e : Event) (f : ℕ) → Fences ranks log l es e → (fence_in es ≡ Some f → 1 ≤ f) → fence_in (e ∷ es) ≡ Some f → 1 ≤ f
in_fence ranks log l es (Enter g) f a before i = let same : g ≡ f = cc in omega (arith, same, a.3)
in_fence ranks log l es (Leave g) f a before i = absurd (cc)
in_fence ranks log l es _ f a before i = before i

fence_is_numbered : (ranks workers : ℕ) (log : List Mark) → Legal ranks workers log → (l : LaneName) (f : ℕ) → fence_in (part l log) ≡ Some f → 1 ≤ f
fence_is_numbered ranks workers [] h l f i = absurd (cc)
fence_is_numbered ranks workers (x ∷ log) h l f i = go (fence_is_numbered ranks workers log h.1 l f) (same_lane x.lane l) refl i
  where
    go : (fence_in (part l log) ≡ Some f → 1 ≤ f) → (b : Bool) → same_lane x.lane l ≡ b → fence_in (if b then x.event ∷ part l log else part l log) ≡ Some f → 1 ≤ f
    go before true e j = in_fence ranks log l (part l log) x.event f (subst (λ (m : LaneName). Fences ranks log m (part m log) x.event) (same_lane_true x.lane l e) h.0.fences) before j
    go before false e j = before j

module _ (workers : ℕ) (task_effects : TaskEffects) (log : List Mark) (run : IsRun 1 workers program MayDo task_effects log) where
  pub spawns_apart : Apart (spawned log)
  spawns_apart = apart 1 workers program MayDo task_effects log run parent tree

  pub bringer_is_one : HasOneBringer log
  bringer_is_one = one_bringer 1 workers program MayDo task_effects log run no_label no_label futures parent tree

  pub puts_apart : EffectsApart (λ c. of.Put c) task_effects
  puts_apart = effects_apart 1 workers program MayDo task_effects log run parent tree (λ c. of.Put c) puts_once

  pub erases_apart : EffectsApart (λ c. of.Erase c) task_effects
  erases_apart = effects_apart 1 workers program MayDo task_effects log run parent tree (λ c. of.Erase c) erases_once

  rank_zero : (r n : ℕ) (t : TaskName) → IsSubmitted r n t log → r ≡ 0
  rank_zero r n t (l, rank, on) = go log run.legal on
    where
      go : (old : List Mark) → Legal 1 workers old → StandsOn l (Submitted n t) old → r ≡ 0
      go [] h s = absurd s
      go (x ∷ old) h (inl i) = let below = h.0.named.0 in let same : x.lane.rank ≡ r = ap (λ (z : LaneName). z.rank) i.0 ∙ rank in omega (arith, below, same)
      go (x ∷ old) h (inr s) = go old h.1 s

  -- before the unit that moves is submitted, the old entry is put
  filled : (before : List Mark) → Begins before log → (n : ℕ) (t : TaskName) → t.unit ≡ label_of Move → IsSubmitted 0 n t before → StandsOn (bin_of 0 old_entry) (Put old_entry) before
  filled before to n t unit_is s = from (task_spawn 1 workers before (legal_begins 1 workers before log to run.legal) 0 n t s)
    where
      from : Spawns t.unit before → StandsOn (bin_of 0 old_entry) (Put old_entry) before
      from w = by_source (source 1 workers program MayDo task_effects log run t.unit w.x w.before there w.label)
        where
          there : Begins (w.x ∷ w.before) log
          there = begins_trans (w.x ∷ w.before) before log w.begins to

          back : Begins w.before log
          back = begins_tail w.x w.before log there

          by_source : Source 1 workers program MayDo task_effects log run t.unit w.x w.before → StandsOn (bin_of 0 old_entry) (Put old_entry) before
          by_source (of_main hand lane done o at says unit) = absurd (let e = starts_only (λ k u. u.part ≡ 1) refl _ o t.unit at unit in let f = ap (λ (l : Label). l.part) unit_is in omega (arith, e, f))
          by_source (of_task r m i hand c unit) =
              let v = planned_at 1 workers program MayDo task_effects log run r m c.os w.before back c.plan c.taken in
              let rank : r ≡ 0 = rank_zero r m v.0 (v.1.0, v.1.1, on_begins v.1.0 (Submitted m v.0) w.before log back v.1.2) in
              let f = filler (v.0).unit c.os i c.o t.unit v.2 c.here unit in
              let one = f.0 in
              let done = c.before 0 (of.Put old_entry) f.1 (omega (arith, one)) f.2 refl in
              let stands = put_carried program task_effects w.before (follows_begins program task_effects w.before log back run.follows.goes) r m 0 c.os old_entry c.plan f.2 done in
              on_begins (bin_of 0 old_entry) (Put old_entry) w.before before (begins_tail w.x w.before before w.begins) (subst (λ (q : ℕ). StandsOn (bin_of q old_entry) (Put old_entry) w.before) rank stands)

  pub erased_was_put : ErasesPut task_effects log
  erased_was_put r n i os c plan at =
      let p = run.follows.planned r n os plan in
      let move : (p.task.unit ≡ label_of Move) × (c ≡ old_entry) = erases_only (λ p i c. (p ≡ label_of Move) × (c ≡ old_entry)) (refl, refl) p.task.unit os i c p.may_do at in
      let rank : r ≡ 0 = rank_zero r n p.task p.submitted in
      let x = taken_stands (Task r n) log p.taken in
      let took = takes_task x.0.event r n x.3 in
      let here = legal_begins 1 workers (x.0 ∷ x.1) log x.2 run.legal in
      let count : Counting 1 x.1 x.0.lane (part x.0.lane x.1) (TookTask r n) = subst (Counting 1 x.1 x.0.lane (part x.0.lane x.1)) took here.0.counting in
      let u = count.2 in
      let back = begins_tail x.0 x.1 log x.2 in
      let name : u.0 ≡ p.task = one_name 1 workers log run.legal r n u.0 p.task (u.1.0, u.1.1, on_begins u.1.0 (Submitted n u.0) x.1 log back u.1.2) p.submitted in
      let put = filled x.1 back n u.0 (ap (λ (t : TaskName). t.unit) name ∙ move.0) (subst (λ (q : ℕ). IsSubmitted q n u.0 x.1) rank u.1) in
      let at_rank : StandsOn (bin_of r old_entry) (Put old_entry) x.1 = subst (λ (q : ℕ). StandsOn (bin_of q old_entry) (Put old_entry) x.1) (sym rank) put in
      record { x = x.0; before = x.1; begins = x.2; takes_it = took; was_put = subst (λ (z : CellName). StandsOn (bin_of r z) (Put z) x.1) (sym move.1) at_rank }

pub totals_are_told : (workers : ℕ) (log before : List Mark) (x : Mark) (r : Receipt) → Legal 1 workers log → HasReceipt log before x r → AllSound kinds IsSound r.fence → ⊥
totals_are_told workers log before x r legal has sound =
    let here = legal_begins 1 workers (x ∷ before) log has.begins legal in
    let asks : Fences 1 before x.lane (part x.lane before) (Receives r) = subst (Fences 1 before x.lane (part x.lane before)) has.is here.0.fences in
    let numbered = fence_is_numbered 1 workers before here.1 x.lane r.fence asks.1.2 in
    sound 1 (omega arith, omega arith) (omega (arith, numbered))

pub starts_are_of_the_command : (command index : ℕ) (start : Outline) (unit : Label) → IsWork kinds command → slice_get (told 1 (starting_of command)) index ≡ Some start → unit_of start ≡ Some unit → unit.command ≡ command
starts_are_of_the_command zero index start unit is at named = absurd (cc)
starts_are_of_the_command (suc zero) zero start unit is at named =
    let e : spawn Fill ≡ start = cc in
    sym (ap (λ (l : Label). l.command) (some_is (label_of Fill) unit (subst (λ (o : Outline). unit_of o ≡ Some unit) (sym e) named)))
starts_are_of_the_command (suc zero) (suc index) start unit is at named = absurd (cc)
starts_are_of_the_command (suc (suc more)) index start unit is at named = absurd (cc)

pub spawns_stay_in_their_command : (label : Label) (os : List Outline) (index : ℕ) (spawn : Outline) (unit : Label) → MayDo label os → slice_get os index ≡ Some spawn → unit_of spawn ≡ Some unit → unit.command ≡ label.command
spawns_stay_in_their_command label os index spawn unit may at named = spawns_only (λ p i u. u.command ≡ p.command) refl label os index spawn unit may at named

pub writes_are_of_the_command : (label : Label) (os : List Outline) (c : CellName) → MayDo label os → Touches os c → writer_of c.version ≡ Some label.command
writes_are_of_the_command label os c (unit, named, lists) touches = subst (λ (l : Label). writer_of c.version ≡ Some l.command) named (go unit (subst (λ (z : List Outline). Touches z c) lists touches))
  where
    one : (d : CellName) (unit : StoreUnit) → d ≡ c → d.version ≡ 1 → writer_of c.version ≡ Some (label_of unit).command
    one d Fill e is = ap (λ (z : CellName). writer_of z.version) (sym e) ∙ ap writer_of is
    one d Move e is = ap (λ (z : CellName). writer_of z.version) (sym e) ∙ ap writer_of is

    go : (unit : StoreUnit) → Touches (told 1 (step_of unit)) c → writer_of c.version ≡ Some (label_of unit).command
    go Fill (zero, lt, e) = one old_entry Fill e refl
    go Fill (suc k, lt, e) = absurd (omega (arith, lt))
    go Move (zero, lt, e) = one first_entry Move e refl
    go Move (suc zero, lt, e) = one second_entry Move e refl
    go Move (suc (suc zero), lt, e) = one old_entry Move e refl
    go Move (suc (suc (suc k)), lt, e) = absurd (omega (arith, lt))

pub none_dropped : (index version : ℕ) → slice_get [] index ≡ Some version → ⊥
none_dropped index version e = cc
