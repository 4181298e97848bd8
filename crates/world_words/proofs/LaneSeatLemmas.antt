-- From what a step tells of a lane's seat to what is kept of the seat, and what contracts see of the lane.
use Rattle.std.proofs.Common.{◌≡◌, ◌⊎◌, ℕ, suc, ◌+◌, ◌-◌, ◌*◌, ◌^◌, ◌<◌, ◌≤◌, Bool, true, false, List, [], ◌∷◌, ◌++◌, length, refl, sym, ap, ◌∙◌, subst, inl, inr, arith, append-nil}
use Rattle.std.specs.Prelude.{Option, Some, None, slice_get, ◌||◌, if◌then◌else◌, Contains}
use Rattle.atomic_table.specs.Seated.{TableId}
use Rattle.app_core.specs.declared.label.Label.{Label}
use Rattle.app_core.specs.declared.label.CellName.{CellName}
use Rattle.app_core.specs.declared.outline.Outline.{Outline}
use Rattle.app_core.specs.declared.outline.Outline.TheVariants as of
use Rattle.event_lists.specs.declared.lane.LaneName.{LaneName}
use Rattle.event_lists.specs.declared.event.Event.{Event}
use Rattle.event_lists.specs.declared.mark.Item.{Item}
use Rattle.event_lists.specs.declared.mark.Item.TheVariants.{Message, Task}
use Rattle.event_lists.specs.declared.mark.EffectName.{EffectName}
use Rattle.event_lists.specs.declared.mark.Mark.{Mark}
use Rattle.event_lists.specs.Events.{Begins, in_hand, part}
use Rattle.event_lists.proofs.ListLemmas.{begins_more}
use Rattle.lane_trace.specs.Records.{RecordData, recorded, taking, ending}
use Rattle.event_laws.specs.Follows.{TaskEffects, IsRun, Doing, is_own}
use Rattle.world_rule.specs.declared.view.Pending.{Pending}
use Rattle.world_rule.specs.declared.view.Pending.TheVariants.{Counted, Drawn}
use Rattle.world_rule.specs.declared.view.Owed.{Owed}
use Rattle.world_rule.specs.declared.view.OwnPart.{OwnPart}
use Rattle.world_rule.specs.declared.view.Progress.{Progress}
use Rattle.world_rule.specs.declared.view.View.{View}
use Rattle.world_rule.specs.Owing.{made_by, took, ended, Made, ComesFrom, item_in}
use Rattle.world_rule.specs.Views.{mark, numbered, own_part, own_events, joined, first_of, after_draw, further, next_outline, unburdened, packed_by, drawn_from}
use Rattle.world_rule.specs.CounterWords.{word_count}
use Rattle.world_rule.specs.Steps.{IsUnderWay, SeesRun, Looked, Appended, M, Appends}
use Rattle.world_rule.proofs.ContainsLemmas.{contains_first, contains_one}
use Rattle.world_rule.proofs.PendingLemmas.{made_begins}
use Rattle.world_words.specs.Lanes.{WordsView, LaneView, SeesMore, Grew}
use Rattle.world_words.specs.Seats.{IsLaneSeat, IsPassive, IsCarrier, the_owed, the_task, the_outline, owed_item}

-- what contracts see of a lane with this seat
abbrev pub lane_view : TableId → LaneName → RecordData → M → LaneView
lane_view t l d m = record {
  table = t;
  name = l;
  mine = own_events m.0.parts;
  seen = m.0.seen;
  owes = m.0.owes;
  progress = m.0.progress;
  set_stop = m.0.set_stop;
  stop_looks = m.0.stop_looks;
  saw_stop = m.0.saw_stop;
  ran_looks = m.0.ran_looks;
  submitted_looks = m.0.submitted_looks;
  spare = d.spare;
  kept = d.kept;
}

pub lane_room : (t : TableId) (l : LaneName) (hand owes : Option Item) (d : RecordData) (m : M) → IsLaneSeat t l hand owes d m → 0 < d.spare → length (own_events m.0.parts) < 2 ^ 48
lane_room t l hand owes d m is some = let r = is.room in omega (arith, r, some)

-- the trace of a record has one more event
traced_more : (e : Event) (d : RecordData) (es : List Event) → d.kept ≡ true → d.events ≡ es → (recorded e d).events ≡ e ∷ es
traced_more e d es kept same = ap (λ (b : Bool). if b then e ∷ d.events else d.events) kept ∙ ap (λ xs. e ∷ xs) same

-- the same seat, with another view that has the same lane
pub seat_with : (t u : TableId) (l : LaneName) (hand owes : Option Item) (d : RecordData) (m w : M) → IsLaneSeat t l hand owes d m → u ≡ t → w.1 ≡ m.1 → w.0.parts ≡ m.0.parts → owed_item w.0.owes ≡ owes
    → ((o : Owed) → w.0.owes ≡ Some o → Made o w.0.seen) → ((b : Progress) → w.0.progress ≡ Some b → in_hand (own_events w.0.parts) ≡ Some (Task b.rank b.number)) → part l w.0.seen ≡ own_events w.0.parts
    → IsLaneSeat u l hand owes d w
seat_with t u l hand owes d m w is same slots parts owing made begun own = record {
  slots = slots ∙ is.slots;
  alone = parts ∙ is.alone ∙ ap (λ ps. own_part l (own_events ps) ∷ []) (sym parts);
  room = (let j = ap (λ ps. length (own_events ps)) parts in let r = is.room in omega arith);
  counted = is.counted ∙ sym (ap (λ ps. length (own_events ps)) parts);
  traced = λ k. is.traced k ∙ sym (ap own_events parts);
  words = subst (λ (z : TableId). 16 * l.rank + 48 ≤ z.words) (sym same) is.words;
  hand_is = ap (λ ps. in_hand (own_events ps)) parts ∙ is.hand_is;
  owing = owing;
  made = made;
  begun = begun;
  own = own;
}

-- what a seat with one lane sees of its task
under_way : (ranks workers : ℕ) (program : List Doing) (may : Label → List Outline → Type 0) (log : List Mark) (ps : List OwnPart) (l : LaneName) (es : List Event) (task : Option Progress) → ps ≡ own_part l es ∷ []
    → SeesRun ranks workers program may log ps task → (task_effects : TaskEffects) × IsRun ranks workers program may task_effects log × ((b : Progress) → task ≡ Some b → IsUnderWay task_effects es b)
under_way ranks workers program may log ps l es task alone s = (
  s.task_effects,
  s.run,
  λ b e. let t = s.begun b e in
      let here : own_part l es ≡ t.0 = contains_one (own_part l es) t.0 (subst (λ (qs : List OwnPart). Contains qs t.0) alone t.1) in
      subst (λ (p : OwnPart). IsUnderWay s.task_effects p.events b) (sym here) t.2,
)

-- what a record has after the end of what is in hand, and after it was taken in
pub ended_recorded : (n : ℕ) (h : Option Item) (c : Item) (d d' : RecordData) → h ≡ Some c → d' ≡ recorded (ending n c) d → d' ≡ recorded (numbered n (ended 0 h)) d
ended_recorded n h (Message r m) d d' is now = now ∙ ap (λ (k : Option Item). recorded (numbered n (ended 0 k)) d) (sym is)
ended_recorded n h (Task r m) d d' is now = now ∙ ap (λ (k : Option Item). recorded (numbered n (ended 0 k)) d) (sym is)

pub took_recorded : (n : ℕ) (p : Pending) (c : Item) (d d' : RecordData) → p ≡ Counted c → d' ≡ recorded (taking c) d → d' ≡ recorded (numbered n (took p)) d
took_recorded n p (Message r m) d d' is now = now ∙ ap (λ (k : Pending). recorded (numbered n (took k)) d) (sym is)
took_recorded n p (Task r m) d d' is now = now ∙ ap (λ (k : Pending). recorded (numbered n (took k)) d) (sym is)

-- then nothing is in hand and nothing is owed
no_hand : (n : ℕ) (h : Option Item) (c : Item) (es : List Event) → h ≡ Some c → None ≡ in_hand (numbered n (ended 0 h) ∷ es)
no_hand n h (Message r m) es is = ap (λ (k : Option Item). in_hand (numbered n (ended 0 k) ∷ es)) (sym is)
no_hand n h (Task r m) es is = ap (λ (k : Option Item). in_hand (numbered n (ended 0 k) ∷ es)) (sym is)

no_owed : (l : LaneName) (n : ℕ) (h : Option Item) (c : Item) → h ≡ Some c → None ≡ owed_item (made_by l (numbered n (ended 0 h)))
no_owed l n h (Message r m) is = ap (λ (k : Option Item). owed_item (made_by l (numbered n (ended 0 k)))) (sym is)
no_owed l n h (Task r m) is = ap (λ (k : Option Item). owed_item (made_by l (numbered n (ended 0 k)))) (sym is)

module _ {A : Type 0} (words : WordsView A) (may : Label → List Outline → Type 0) where
  -- a lane after a step without an event, from a seat whose view but for what it sees was to be m'
  pub sees_more : (l : LaneName) (d : RecordData) (t u : TableId) (hand owes : Option Item) (m w : M) (v' : View) (old : LaneView) → IsLaneSeat t l hand owes d m → v'.parts ≡ m.0.parts
      → lane_view t l d m ≡ old → Looked words.ranks words.workers words.program may m.0 v' w.0 → SeesMore words may old (lane_view u l d w)
  sees_more l d t u hand owes m w v' old seat parts is s = subst (λ (v : LaneView). SeesMore words may v (lane_view u l d w)) is (record {
    seen = s.seen;
    own = looked_own;
    run = under_way words.ranks words.workers words.program may w.0.seen w.0.parts l (own_events w.0.parts) w.0.progress alone s.run;
  })
    where
      now : w.0.parts ≡ m.0.parts
      now = ap (λ (v : View). v.parts) s.changes ∙ parts

      alone : w.0.parts ≡ own_part l (own_events w.0.parts) ∷ []
      alone = now ∙ seat.alone ∙ ap (λ ps. own_part l (own_events ps) ∷ []) (sym now)

      looked_own : part l w.0.seen ≡ own_events w.0.parts
      looked_own = s.own (own_part l (own_events w.0.parts)) (subst (λ (ps : List OwnPart). Contains ps (own_part l (own_events w.0.parts))) (sym alone) (contains_first (own_part l (own_events w.0.parts)) []))

  -- and its seat, where it owes what it owed
  pub looked_seat : (l : LaneName) (d : RecordData) (t u : TableId) (hand owes : Option Item) (m w : M) (v' : View) → IsLaneSeat t l hand owes d m → u ≡ t → w.1 ≡ m.1 → v'.parts ≡ m.0.parts → v'.owes ≡ m.0.owes
      → Looked words.ranks words.workers words.program may m.0 v' w.0 → IsLaneSeat u l hand owes d w
  looked_seat l d t u hand owes m w v' seat same slots parts owed s =
      let now : w.0.parts ≡ m.0.parts = ap (λ (v : View). v.parts) s.changes ∙ parts in
      let owing : w.0.owes ≡ m.0.owes = ap (λ (v : View). v.owes) s.changes ∙ owed in
      let more = sees_more l d t u hand owes m w v' (lane_view t l d m) seat parts refl s in
      seat_with t u l hand owes d m w seat same slots now (ap owed_item owing ∙ seat.owing)
      (λ o e. made_begins o m.0.seen w.0.seen s.seen (seat.made o (sym owing ∙ e)))
      (λ b e. (more.run.2 b e).hand)
      more.own

  -- a lane after an event
  pub grew : (l : LaneName) (e : Event) (f : Option EffectName) (m : M) (n : ℕ) (w : M) (t u : TableId) (d d' : RecordData) (old : LaneView) → lane_view t l d m ≡ old → 0 < old.spare → u ≡ t
      → Appends words.ranks words.workers words.program may l e f m n w → d' ≡ recorded (numbered n e) d → Grew words may (numbered n e) f old (lane_view u l d' w)
  grew l e f m n w t u d d' old is some same s now = subst (λ (v : LaneView). Grew words may (numbered n e) f v (lane_view u l d' w)) is (record {
    event = ap own_events parts;
    before = s.0.before;
    now = s.0.now;
    knew = s.0.seen;
    owing = ap (λ (v : View). v.owes) s.0.changes;
    progress = ap (λ (v : View). v.progress) s.0.changes;
    spare = (let k : d.spare ≡ old.spare = ap (λ (v : LaneView). v.spare) is in let r : d'.spare ≡ d.spare - 1 = ap (λ (y : RecordData). y.spare) now in omega (arith, k, r, some));
    kept = ap (λ (y : RecordData). y.kept) now;
    same = (same, refl);
    stop = (ap (λ (v : View). v.set_stop) s.0.changes, ap (λ (v : View). v.saw_stop) s.0.changes, ap (λ (v : View). v.stop_looks) s.0.changes);
    looks = (ap (λ (v : View). v.ran_looks) s.0.changes, ap (λ (v : View). v.submitted_looks) s.0.changes);
    sees = record {
      seen = subst (Begins m.0.seen) (sym s.0.now) (begins_more m.0.seen s.0.before (mark l (numbered n e) f) s.0.seen);
      own = s.0.own ∙ sym (ap own_events parts);
      run = under_way words.ranks words.workers words.program may w.0.seen w.0.parts l (own_events w.0.parts) w.0.progress (parts ∙ ap (λ es. own_part l es ∷ []) (sym (ap own_events parts))) s.0.run;
    };
  })
    where
      parts : w.0.parts ≡ own_part l (numbered n e ∷ own_events m.0.parts) ∷ []
      parts = ap (λ (v : View). v.parts) s.0.changes

  -- and its seat
  pub grown_seat : (l : LaneName) (e : Event) (f : Option EffectName) (m : M) (n : ℕ) (w : M) (t u : TableId) (hand hand' owes owes' : Option Item) (d d' : RecordData) → IsLaneSeat t l hand owes d m → 0 < d.spare → u ≡ t
      → Appends words.ranks words.workers words.program may l e f m n w → hand' ≡ in_hand (numbered n e ∷ own_events m.0.parts) → owes' ≡ owed_item (made_by l (numbered n e)) → d' ≡ recorded (numbered n e) d → IsLaneSeat u l hand' owes' d' w
  grown_seat l e f m n w t u hand hand' owes owes' d d' is some same s in_it now one_more =
      let parts : w.0.parts ≡ own_part l (numbered n e ∷ own_events m.0.parts) ∷ [] = ap (λ (v : View). v.parts) s.0.changes in
      let own = ap own_events parts in
      let owing : w.0.owes ≡ made_by l (numbered n e) = ap (λ (v : View). v.owes) s.0.changes in
      let task = under_way words.ranks words.workers words.program may w.0.seen w.0.parts l (own_events w.0.parts) w.0.progress (parts ∙ ap (λ es. own_part l es ∷ []) (sym own)) s.0.run in
      record {
        slots = s.1 ∙ is.slots;
        alone = parts ∙ ap (λ es. own_part l es ∷ []) (sym own);
        room = (let k = ap length own in let r = is.room in let j : d'.spare ≡ d.spare - 1 = ap (λ (y : RecordData). y.spare) one_more in omega (arith, k, r, j, some));
        counted = ap (λ (y : RecordData). y.made) one_more ∙ ap suc is.counted ∙ sym (ap length own);
        traced = λ k. let was : d.kept ≡ true = sym (ap (λ (y : RecordData). y.kept) one_more) ∙ k in
            ap (λ (y : RecordData). y.events) one_more ∙ traced_more (numbered n e) d (own_events m.0.parts) was (is.traced was) ∙ sym own;
        words = subst (λ (z : TableId). 16 * l.rank + 48 ≤ z.words) (sym same) is.words;
        hand_is = ap in_hand own ∙ sym in_it;
        owing = ap owed_item owing ∙ sym now;
        made = λ o i. subst (Made o) (sym s.0.now) (l, numbered n e, sym owing ∙ i, inl (refl, refl));
        begun = λ b i. (task.2 b i).hand;
        own = s.0.own ∙ sym own;
      }

  -- and where the event ends what is in hand
  pub ended_seat : (l : LaneName) (m : M) (n : ℕ) (w : M) (t u : TableId) (hand owes : Option Item) (d d' : RecordData) (c : Item) → IsLaneSeat t l hand owes d m → 0 < d.spare → u ≡ t → m.0.owes ≡ None → in_hand (own_events m.0.parts) ≡ Some c
      → Appends words.ranks words.workers words.program may l (ended 0 (in_hand (own_events m.0.parts))) None m n w → d' ≡ recorded (ending n c) d → IsLaneSeat u l None owes d' w
  ended_seat l m n w t u hand owes d d' c is some same none has s one_more =
      grown_seat l (ended 0 (in_hand (own_events m.0.parts))) None m n w t u hand None owes owes d d' is some same s
      (no_hand n (in_hand (own_events m.0.parts)) c (own_events m.0.parts) has)
      (sym is.owing ∙ ap owed_item none ∙ no_owed l n (in_hand (own_events m.0.parts)) c has)
      (ended_recorded n (in_hand (own_events m.0.parts)) c d d' has one_more)

or_none : (a b : Bool) → b ≡ false → (a || b) ≡ a
or_none true b e = refl
or_none false b e = e

no_more : {A : Type 0} (a : Option A) → first_of a None ≡ a
no_more None = refl
no_more (Some x) = refl

-- the view of a lane's seat that took in a seat without lanes
pub took_in : (t : TableId) (l : LaneName) (hand owes : Option Item) (o : Option Owed) (d : RecordData) (m w n : M) → IsLaneSeat t l hand owes d m → IsPassive o w → n ≡ (joined m.0 w.0, m.1)
    → n.0 ≡ record m.0 { told = w.0.seen; owes = first_of m.0.owes o }
took_in t l hand owes o d m w n is pass now = ap (λ (z : M). z.0) now ∙ (λ i. record m.0 {
  parts = (ap (λ ps. m.0.parts ++ ps) pass.parts ∙ append-nil m.0.parts) i;
  told = w.0.seen;
  owes = first_of m.0.owes (pass.owing i);
  progress = (ap (first_of m.0.progress) pass.progress ∙ no_more m.0.progress) i;
  set_stop = or_none m.0.set_stop w.0.set_stop pass.stop.0 i;
  saw_stop = or_none m.0.saw_stop w.0.saw_stop pass.stop.1 i;
})

-- so where the lane owed nothing, the seat with a carrier's load is that of the lane, but for what the lane owes by name
pub loaded_seat : (t u : TableId) (l : LaneName) (hand owes item : Option Item) (o : Owed) (d : RecordData) (m w n : M) → IsLaneSeat t l hand owes d m → IsPassive (Some o) w → n ≡ (joined m.0 w.0, m.1) → m.0.owes ≡ None → u ≡ t
    → (part l n.0.seen ≡ own_events n.0.parts) × (n.0.parts ≡ own_part l (own_events n.0.parts) ∷ []) × (own_events n.0.parts ≡ own_events m.0.parts) × (n.0.owes ≡ Some o)
loaded_seat t u l hand owes item o d m w n is pass now none same =
    let k = took_in t l hand owes (Some o) d m w n is pass now in
    let parts : n.0.parts ≡ m.0.parts = ap (λ (v : View). v.parts) k in (
      ap (λ (v : View). part l v.seen) k ∙ is.own ∙ sym (ap own_events parts),
      parts ∙ is.alone ∙ ap (λ ps. own_part l (own_events ps) ∷ []) (sym parts),
      ap own_events parts,
      ap (λ (v : View). v.owes) k ∙ ap (λ z. first_of z (Some o)) none,
    )

-- what contracts see of a lane whose seat was loaded
pub loaded_view : (t u : TableId) (l : LaneName) (d : RecordData) (m n : M) (seen : List Mark) (owes : Option Owed) → n.0 ≡ record m.0 { told = seen; owes = owes } → u ≡ t → lane_view u l d n ≡ record (lane_view t l d m) { owes = owes }
loaded_view t u l d m n seen owes k same = λ i. lane_view (same i) l d (k i, n.1)

-- a lane grew from one that owed something else
pub grew_unloaded : {A : Type 0} (words : WordsView A) (may : Label → List Outline → Type 0) (e : Event) (f : Option EffectName) (owes : Option Owed) (old new : LaneView) → Grew words may e f (record old { owes = owes }) new → Grew words may e f old new
grew_unloaded words may e f owes old new g = record {
  event = g.event;
  before = g.before;
  now = g.now;
  knew = g.knew;
  owing = g.owing;
  progress = g.progress;
  spare = g.spare;
  kept = g.kept;
  same = g.same;
  stop = g.stop;
  looks = g.looks;
  sees = record { seen = g.sees.seen; own = g.sees.own; run = g.sees.run };
}

-- what the seat was told it sees after an event
pub learnt : (ranks workers : ℕ) (program : List Doing) (may : Label → List Outline → Type 0) (x : Mark) (n w : View) (log : List Mark) → n.told ≡ log → Appended ranks workers program may x n w → Begins log w.seen
learnt ranks workers program may x n w log is s = subst (λ (z : List Mark). Begins z w.seen) is (subst (Begins n.told) (sym s.now) (begins_more n.told s.before x s.told))

-- a seat that took in one that owes nothing is that of its lane, and was told what the other knew
pub told_seat : (t u : TableId) (l : LaneName) (hand owes : Option Item) (d : RecordData) (m w n : M) → IsLaneSeat t l hand owes d m → IsPassive None w → n ≡ (joined m.0 w.0, m.1) → u ≡ t
    → (n.0 ≡ record m.0 { told = w.0.seen }) × IsLaneSeat u l hand owes d n
told_seat t u l hand owes d m w n is pass now same =
    let k : n.0 ≡ record m.0 { told = w.0.seen } = took_in t l hand owes None d m w n is pass now ∙ (λ i. record m.0 { told = w.0.seen; owes = no_more m.0.owes i }) in (
      k,
      seat_with t u l hand owes d m n is same (ap (λ (z : M). z.1) now) (ap (λ (v : View). v.parts) k) (ap (λ (v : View). owed_item v.owes) k ∙ is.owing)
          (λ o e. subst (λ (v : View). Made o v.seen) (sym k) (is.made o (sym (ap (λ (v : View). v.owes) k) ∙ e)))
          (λ b e. ap (λ (v : View). in_hand (own_events v.parts)) k ∙ is.begun b (sym (ap (λ (v : View). v.progress) k) ∙ e))
          (ap (λ (v : View). part l v.seen) k ∙ is.own ∙ sym (ap (λ (v : View). own_events v.parts) k)),
    )

-- the same event, by what is in hand
pub ended_numbered : (n : ℕ) (h : Option Item) → numbered n (ended 0 h) ≡ ended n h
ended_numbered n None = refl
ended_numbered n (Some (Message r m)) = refl
ended_numbered n (Some (Task r m)) = refl

-- the seat of a lane that drew an effect, which then left it
pub drew_seat : (ranks workers : ℕ) (program : List Doing) (may : Label → List Outline → Type 0) (b : Progress) (o : Outline) (l : LaneName) (m w n : M) (t u z : TableId) (hand owes : Option Item) (d : RecordData)
    → IsLaneSeat t l hand owes d m → m.0.owes ≡ None → m.0.progress ≡ Some b → u ≡ t → Looked ranks workers program may m.0 (after_draw b o m.0) w.0 → w.1 ≡ m.1 → z ≡ u → n ≡ (unburdened w.0, w.1) → IsLaneSeat z l hand owes d n
drew_seat ranks workers program may b o l m w n t u z hand owes d is none task same s slots there now =
    let parts : n.0.parts ≡ m.0.parts = ap (λ (y : M). y.0.parts) now ∙ ap (λ (v : View). v.parts) s.changes in
    let empty : n.0.owes ≡ None = ap (λ (y : M). y.0.owes) now in
    let progress : n.0.progress ≡ Some (further b) = ap (λ (y : M). y.0.progress) now ∙ ap (λ (v : View). v.progress) s.changes in
    seat_with t z l hand owes d m n is (there ∙ same) (ap (λ (y : M). y.1) now ∙ slots) parts
    (ap owed_item empty ∙ sym (ap owed_item none) ∙ is.owing)
    (λ q e. absurd (let y : None ≡ Some q = sym empty ∙ e in cc))
    (λ c e. let y : Some (further b) ≡ Some c = sym progress ∙ e in let same_is : further b ≡ c = cc in subst (λ (q : Progress). in_hand (own_events n.0.parts) ≡ Some (Task q.rank q.number)) same_is (ap (λ ps. in_hand (own_events ps)) parts ∙ is.begun b task))
    (ap (λ (y : M). part l y.0.seen) now ∙ drew_own ∙ sym (ap own_events parts))
  where
    drew_own : part l w.0.seen ≡ own_events m.0.parts
    drew_own = s.own (own_part l (own_events m.0.parts)) (subst (λ (ps : List OwnPart). Contains ps (own_part l (own_events m.0.parts))) (sym (ap (λ (v : View). v.parts) s.changes ∙ is.alone)) (contains_first (own_part l (own_events m.0.parts)) []))

-- and the carrier that it left in
pub drew_carrier : (ranks workers : ℕ) (program : List Doing) (may : Label → List Outline → Type 0) (b : Progress) (o : Outline) (l : LaneName) (m w n : M) (t : TableId) (hand owes : Option Item) (d : RecordData)
    → IsLaneSeat t l hand owes d m → m.0.progress ≡ Some b → is_own o ≡ false → Looked ranks workers program may m.0 (after_draw b o m.0) w.0 → n ≡ (packed_by w.0, []) → IsCarrier None n
drew_carrier ranks workers program may b o l m w n t hand owes d is task stored s now =
    let loaded : n.0.owes ≡ Some (drawn_from b o) = ap (λ (y : M). y.0.owes) now ∙ ap (λ (v : View). v.owes) s.changes in
    let own : part l w.0.seen ≡ own_events m.0.parts = s.own (own_part l (own_events m.0.parts)) (subst (λ (ps : List OwnPart). Contains ps (own_part l (own_events m.0.parts))) (sym (ap (λ (v : View). v.parts) s.changes ∙ is.alone)) (contains_first (own_part l (own_events m.0.parts)) [])) in
    let hand_is : in_hand (part l n.0.seen) ≡ Some (Task b.rank b.number) = ap (λ (y : M). in_hand (part l y.0.seen)) now ∙ ap in_hand own ∙ is.begun b task in record {
      passive = record {
        slots = ap (λ (y : M). y.1) now;
        parts = ap (λ (y : M). y.0.parts) now;
        owing = loaded ∙ ap (λ (q : Option Owed). Some (the_owed q)) (sym loaded);
        progress = ap (λ (y : M). y.0.progress) now;
        stop = (ap (λ (y : M). y.0.set_stop) now, ap (λ (y : M). y.0.saw_stop) now);
      };
      item_is = ap (λ (q : Option Owed). item_in (the_owed q).pending) loaded;
      origin = subst (λ (q : Option Owed). ComesFrom (the_owed q) n.0.seen) (sym loaded) (o, refl, stored, refl, (l, hand_is));
    }

-- an event that takes something has no number
pub took_numbered : (n : ℕ) (p : Pending) → numbered n (took p) ≡ took p
took_numbered n (Counted (Message r m)) = refl
took_numbered n (Counted (Task r m)) = refl
took_numbered n (Drawn f) = refl

-- a put or erase that comes next is the next effect of the task, and isn't the hand's own
pub stored_next : (name : CellName) (p : Option Progress) → (next_outline p ≡ Some (of.Put name)) ⊎ (next_outline p ≡ Some (of.Erase name))
    → (p ≡ Some (the_task p)) × (slice_get (the_task p).outlines (the_task p).at ≡ Some (the_outline (next_outline p))) × (is_own (the_outline (next_outline p)) ≡ false)
stored_next name None (inl e) = absurd (cc)
stored_next name None (inr e) = absurd (cc)
stored_next name (Some b) (inl e) = (refl, e ∙ ap (λ z. Some (the_outline z)) (sym e), ap (λ z. is_own (the_outline z)) e)
stored_next name (Some b) (inr e) = (refl, e ∙ ap (λ z. Some (the_outline z)) (sym e), ap (λ z. is_own (the_outline z)) e)

-- a lane's rank is one of the words' ranks
pub rank_below : (ranks rank : ℕ) (table : TableId) → 16 * rank + 48 ≤ table.words → table.words ≡ word_count ranks → rank < ranks
rank_below ranks rank table room words = omega (arith, room, words)
