-- What holds of a task that is carried out, from one of its effects to the next.
use Rattle.std.proofs.Common.{◌≡◌, ◌≢◌, ℕ, suc, Bool, true, false, List, [], ◌∷◌, refl, sym, ap, subst, ◌∙◌, ⊎_elim, arith}
use Rattle.std.specs.Prelude.{Option, Some, None, ◌&&◌, ◌||◌, slice_get}
use Rattle.std.proofs.lemmas.Bool.{both_ways, cases_eq, or_left}
use Rattle.app_core.specs.declared.label.Label.{Label}
use Rattle.app_core.specs.declared.outline.Outline.{Outline}
use Rattle.app_core.specs.declared.outline.Outline.TheVariants as of
use Rattle.app_core.proofs.CountLemmas.{some_is}
use Rattle.event_lists.specs.declared.lane.LaneName.{LaneName}
use Rattle.event_lists.specs.declared.event.Event.{Event}
use Rattle.event_lists.specs.declared.event.Event.TheVariants.{Submitted}
use Rattle.event_lists.specs.declared.mark.Item.{Item}
use Rattle.event_lists.specs.declared.mark.Item.TheVariants.{Task}
use Rattle.event_lists.specs.declared.mark.Mark.{Mark}
use Rattle.event_lists.specs.declared.mark.EffectName.{EffectName}
use Rattle.event_lists.specs.declared.future.Future.{Future}
use Rattle.event_lists.specs.declared.future.Bringer.TheVariants.{Task as task_of}
use Rattle.event_lists.specs.Events.{part, in_hand, Begins}
use Rattle.event_lists.specs.Futures.{bringer, is_bringer, due_of, was_needed}
use Rattle.event_lists.specs.Dues.{Dues, HasPassedOn, NeedsAreDues}
use Rattle.event_lists.specs.Laws.{label_of}
use Rattle.event_lists.specs.OwnEvents.{SpawnsFor, was_needed_on_lane}
use Rattle.event_lists.proofs.ListLemmas.{on_begins, begins_trans}
use Rattle.event_lists.proofs.NameLemmas.{all_named}
use Rattle.event_lists.proofs.OwnLemmas.{need_here}
use Rattle.event_laws.specs.Follows.{is_own, event_of, carried_out, is_effect, effect_name}
use Rattle.event_laws.proofs.PositionLemmas.{carried_begins}
use Rattle.event_laws.proofs.EffectMarkLemmas.{is_named}
use Rattle.world_rule.specs.declared.view.Progress.{Progress}
use Rattle.world_rule.specs.Owing.{ended}
use Rattle.world_rule.specs.Views.{progress, next, mark}
use Rattle.world_rule.specs.Steps.{IsNextEffect, KnowsStored}
use Rattle.world_words.specs.Lanes.{WordsView, LaneView, SeesMore, task_name}
use Rattle.store_tests.specs.Turns.{NeedsNothing, IsAt}

module _ {A : Type 0} (words : WordsView A) where
  -- room for events changes nothing
  pub respared : (os : List Outline) (at n : ℕ) (v w : LaneView) → w ≡ record v { spare = n } → IsAt words os at v → IsAt words os at w
  respared os at n v w e h = subst (IsAt words os at) (sym e) (record {
    number = h.number;
    table = h.table;
    owes = h.owes;
    kept = h.kept;
    name = h.name;
    hand = h.hand;
    far = h.far;
    knows = h.knows;
    quiet = h.quiet;
    unit = h.unit;
    submitted = h.submitted;
    legal = h.legal;
    own = h.own;
  })

  -- the lane tells at which effect it is
  pub same_place : (os ps : List Outline) (at to : ℕ) (v : LaneView) (o : Outline) → IsAt words os at v → IsAt words ps to v → slice_get ps to ≡ Some o → slice_get os at ≡ Some o
  same_place os ps at to v o h k e =
      let same = some_is (progress 0 h.number os at) (progress 0 k.number ps to) (sym h.far ∙ k.far) in
      ap (λ (b : Progress). slice_get b.outlines b.at) same ∙ e

  -- a task without a due, none of whose spawns needs anything, may end
  pub may_end : (os : List Outline) (at : ℕ) (v : LaneView) → IsAt words os at v → Dues v.seen v.name v.mine (ended 0 (in_hand v.mine))
  may_end os at v h = subst (λ (k : Option Item). Dues v.seen v.name v.mine (ended 0 k)) (sym h.hand) (subst (λ (o : Option Future). HasPassedOn o v.mine) (sym due) tt, needs)
    where
      no_label : (o : Option Future) → label_of o ≡ None → o ≡ None
      no_label None e = refl
      no_label (Some f) e = absurd (cc)

      due : due_of (Task 0 h.number) v.seen ≡ None
      due =
          let s = h.submitted in
          no_label _ (all_named words.ranks words.workers v.seen h.legal s.0 (Submitted h.number (task_name h.unit [] None)) (Task 0 h.number) (ap (λ (z : ℕ). Some (Task z h.number)) s.1) s.2)

      here : in_hand (part v.name v.seen) ≡ Some (Task 0 h.number)
      here = ap in_hand h.own ∙ h.hand

      spawns : SpawnsFor v.name (in_hand (part v.name v.seen)) (task_of 0 h.number)
      spawns = subst (λ (k : Option Item). SpawnsFor v.name k (task_of 0 h.number)) (sym here) (tt, refl)

      rank : v.name.rank ≡ 0
      rank = ap (λ (l : LaneName). l.rank) h.name

      needs : NeedsAreDues (task_of 0 h.number) v.seen
      needs d t =
          let found = need_here words.ranks words.workers v.seen h.legal v.name (task_of 0 h.number) spawns d ∙ (λ i. was_needed_on_lane (rank i) (task_of 0 h.number) d (h.own i)) ∙ h.quiet (task_of 0 h.number) d in
          absurd (both_ways (was_needed (task_of 0 h.number) d v.seen) found t)

  -- the spawn that comes next may be submitted
  pub spawn_is_next : (os : List Outline) (at : ℕ) (v : LaneView) (unit : Label) → IsAt words os at v → slice_get os at ≡ Some (of.Spawn unit None [] 0)
      → IsNextEffect words.program v.progress v.seen v.name v.mine (Submitted 0 (task_name unit [] None)) (in_hand v.mine)
  spawn_is_next os at v unit h e = subst (IsNextEffect words.program v.progress v.seen v.name v.mine (Submitted 0 (task_name unit [] None))) (sym h.hand)
      (progress 0 h.number os at, of.Spawn unit None [] 0, h.far, e, refl, (λ m i. event_of (sym h.name i).rank (of.Spawn unit None [] 0) m), h.knows)

  -- what is known of the stored effects lasts, and one more is known
  pub knows_more : (n at : ℕ) (os : List Outline) (old new : List Mark) → Begins old new → KnowsStored (progress 0 n os at) at old
      → ((p : Outline) → slice_get os at ≡ Some p → is_own p ≡ false → carried_out 0 n at new ≡ true) → KnowsStored (progress 0 n os (suc at)) (suc at) new
  knows_more n at os old new b knew this j p lt e own = ⊎_elim
      (λ (same : j ≡ at). subst (λ (k : ℕ). carried_out 0 n k new ≡ true) (sym same) (this p (subst (λ (k : ℕ). slice_get os k ≡ Some p) same e) own))
      (λ (apart : j ≢ at). carried_begins 0 n j old new b (knew j p (omega (arith, lt, apart)) e own))
      (cases_eq j at)

pub and_false_or : (a b : Bool) → b ≡ false → ((a && false) || b) ≡ false
and_false_or true b e = e
and_false_or false b e = e

-- a submission without needs needs nothing
pub quiet_still : (n : ℕ) (unit : Label) (old new : List Event) → new ≡ Submitted n (task_name unit [] None) ∷ old → NeedsNothing old → NeedsNothing new
quiet_still n unit old new e h b d = ap (was_needed_on_lane 0 b d) e ∙ and_false_or (is_bringer b (bringer 0 (in_hand old))) (was_needed_on_lane 0 b d old) (h b d)

-- an effect whose event is the last that was told is carried out
pub drawn_is_done : (n at : ℕ) (l : LaneName) (e : Event) (f : Option EffectName) (before told : List Mark) → told ≡ mark l e f ∷ before → f ≡ Some (effect_name 0 n at) → carried_out 0 n at told ≡ true
drawn_is_done n at l e f before told is named =
    ap (carried_out 0 n at) is ∙ or_left (is_effect 0 n at f) (carried_out 0 n at before) (is_named 0 n at f named)

-- after an effect was drawn, and learnt to be carried out, the lane is at the next one
pub stored : {A : Type 0} (words : WordsView A) (may : Label → List Outline → Type 0) (os : List Outline) (at : ℕ) (v drawn learnt : LaneView) (told : List Mark) → IsAt words os at v
    → drawn ≡ record v { seen = drawn.seen; progress = next v.progress } → Begins v.seen drawn.seen → learnt ≡ record drawn { seen = learnt.seen } → SeesMore words may drawn learnt → Begins told learnt.seen
    → ((n : ℕ) → v.progress ≡ Some (progress 0 n os at) → carried_out 0 n at told ≡ true) → IsAt words os (suc at) learnt
stored words may os at v drawn learnt told h draws before learns sees knew done = record {
  number = h.number;
  table = ap (λ (z : LaneView). z.table) learns ∙ ap (λ (z : LaneView). z.table) draws ∙ h.table;
  owes = ap (λ (z : LaneView). z.owes) learns ∙ ap (λ (z : LaneView). z.owes) draws ∙ h.owes;
  kept = ap (λ (z : LaneView). z.kept) learns ∙ ap (λ (z : LaneView). z.kept) draws ∙ h.kept;
  name = ap (λ (z : LaneView). z.name) learns ∙ ap (λ (z : LaneView). z.name) draws ∙ h.name;
  hand = ap (λ (z : LaneView). in_hand z.mine) learns ∙ ap (λ (z : LaneView). in_hand z.mine) draws ∙ h.hand;
  far = ap (λ (z : LaneView). z.progress) learns ∙ ap (λ (z : LaneView). z.progress) draws ∙ ap next h.far;
  knows = knows_more words h.number at os v.seen learnt.seen begins h.knows (λ p e own. carried_begins 0 h.number at told learnt.seen knew (done h.number h.far));
  quiet = λ b d. ap (λ (z : LaneView). was_needed_on_lane 0 b d z.mine) learns ∙ ap (λ (z : LaneView). was_needed_on_lane 0 b d z.mine) draws ∙ h.quiet b d;
  unit = h.unit;
  submitted = (h.submitted.0, h.submitted.1, on_begins h.submitted.0 (Submitted h.number (task_name h.unit [] None)) v.seen learnt.seen begins h.submitted.2);
  legal = sees.run.1.legal;
  own = sees.own;
}
  where
    begins : Begins v.seen learnt.seen
    begins = begins_trans v.seen drawn.seen learnt.seen before sees.seen
