-- An event of a lane, on any word.
use Rattle.std.proofs.Common.{◌≡◌, ◌≢◌, ◌⊎◌, ℕ, ◌^◌, ◌<◌, Bool, true, false, List, [], ◌∷◌, length, set, refl, sym, ap, ◌∙◌, subst, inl, inr, ⊎_elim, arith}
use Rattle.std.specs.Prelude.{Option, Some, None, slice_index, if◌then◌else◌}
use Rattle.std.proofs.lemmas.Bool.{both_ways}
use Rattle.atomic_table.specs.Table.{keeps, Allows}
use Rattle.app_core.specs.declared.label.Label.{Label}
use Rattle.app_core.specs.declared.outline.Outline.{Outline}
use Rattle.event_lists.specs.declared.lane.LaneName.{LaneName}
use Rattle.event_lists.specs.declared.event.Event.{Event}
use Rattle.event_lists.specs.declared.event.Event.TheVariants.{Sent, TookMessage, TookTask, Handled, Submitted, Ran, Gave}
use Rattle.event_lists.specs.declared.mark.Item.{Item}
use Rattle.event_lists.specs.declared.mark.Item.TheVariants.{Task}
use Rattle.world_rule.specs.declared.view.Pending.{Pending}
use Rattle.world_rule.specs.declared.view.Pending.TheVariants.{Counted, Drawn}
use Rattle.event_lists.specs.declared.mark.EffectName.{EffectName}
use Rattle.event_lists.specs.declared.mark.Mark.{Mark}
use Rattle.event_lists.specs.declared.kind.Kind.{Kind}
use Rattle.event_lists.specs.Events.{part, Begins, count, is_item, makes, takes, is_taken, hand_after, in_hand}
use Rattle.event_lists.specs.Counting.{Counting}
use Rattle.event_lists.specs.Dues.{Dues}
use Rattle.event_lists.specs.Fences.{Fences}
use Rattle.event_lists.specs.Bins.{Bins}
use Rattle.event_lists.specs.Legal.{Legal, May, IsLane}
use Rattle.event_lists.proofs.ItemLemmas.{untaken_new}
use Rattle.event_lists.proofs.LaneLemmas.{part_own}
use Rattle.event_lists.proofs.ItemLemmas.{new_item, taken_here, taken_more, took_fresh}
use Rattle.event_laws.specs.Follows.{TaskEffects, Doing, Follows, Goes}
use Rattle.world_rule.specs.declared.view.Owed.{Owed}
use Rattle.world_rule.specs.declared.view.OwnPart.{OwnPart}
use Rattle.world_rule.specs.declared.view.Progress.{Progress}
use Rattle.world_rule.specs.declared.view.View.{View}
use Rattle.world_rule.proofs.PendingLemmas.{appended_view, left_more, claimed_plain, makes_of, made_times, made_effect, counted_or_drawn, owner_with, stays_borne, bears}
use Rattle.world_rule.proofs.ViewLemmas.{its, appends}
use Rattle.world_rule.proofs.CounterWordLemmas.{count_fits}
use Rattle.world_rule.proofs.ContainsLemmas.{contains_first, contains_one}
use Rattle.std.specs.Prelude.{Contains}
use Rattle.world_rule.specs.Owing.{same_pending, settles, is_settled, made_by}
use Rattle.world_rule.specs.Views.{mark, numbered, own_part, own_events, progress_after}
use Rattle.world_rule.specs.CounterWords.{stop_word, WordsShow}
use Rattle.world_rule.specs.Shows.{DrawnCounts, IsDrawn, IsMadeOrDrawn, ItsTaskIsInHand, ShowsOneRun}
use Rattle.world_rule.specs.Steps.{M, Appends}
use Rattle.event_laws.proofs.GrowingRunLemmas.{one_more_follows}

-- what is in hand after an event was taken by it, or was in hand
pub hand_event : (e : Event) (h : Option Item) (c : Item) → hand_after e h ≡ Some c → (takes e ≡ Some c) ⊎ (h ≡ Some c)
hand_event (TookMessage r n) h c i = inl i
hand_event (TookTask r n) h c i = inl i
hand_event (Handled n r m) h c i = absurd (cc)
hand_event (Ran n r t) h c i = absurd (cc)
hand_event _ h c i = inr i

makes_takes : (r : ℕ) (e : Event) (c : Item) → makes r e ≡ Some c → takes e ≡ None
makes_takes r (TookMessage q n) c m = absurd (cc)
makes_takes r (TookTask q n) c m = absurd (cc)
makes_takes r _ c m = refl

doing_none : (e : Event) → progress_after e None ≡ None
doing_none (Sent n to p) = refl
doing_none (Submitted n t) = refl
doing_none (Gave f) = refl
doing_none (Ran n r t) = refl
doing_none _ = refl

pub bearer_id : (os : Option Owed) (id : ℕ) (b : Pending → ℕ) (d : Pending) → b d ≡ id → owner_with os id b d ≡ id
bearer_id None id b d e = e
bearer_id (Some o) id b d e = go (same_pending o.pending d)
  where
    go : (t : Bool) → (if t then id else b d) ≡ id
    go true = refl
    go false = e

drawn_effect : (p : TaskEffects) (d : DrawnCounts) (c : Pending) (to : ℕ) (w : Outline) → IsDrawn p d c to w → (f : EffectName) × (c ≡ Drawn f)
drawn_effect p d (Drawn f) to w h = (f, refl)
drawn_effect p d (Counted c) to w h = absurd h

-- what an event makes is owed by nobody, and not gone
pub owing_new : (ranks workers : ℕ) (log : List Mark) (x : Mark) → Legal ranks workers (x ∷ log) → (o q : Owed) (p : TaskEffects) (d : DrawnCounts) → made_by x.lane x.event ≡ Some o → IsMadeOrDrawn p d q log → o.pending ≢ q.pending
owing_new ranks workers log x h o q p d is (inl m) same =
    let k = makes_of x.lane x.event o is in
    let none = new_item ranks workers log x h k.0 k.2 in
    let some = made_times q log m k.0 (sym same ∙ k.1) in
    omega arith
owing_new ranks workers log x h o q p d is (inr w) same =
    let e = drawn_effect p d q.pending q.to w.0 w.2 in
    made_effect x.lane x.event o e.0 is (same ∙ e.1)

pub left_new : (ranks workers : ℕ) (log : List Mark) (x : Mark) → Legal ranks workers (x ∷ log) → (o : Owed) → made_by x.lane x.event ≡ Some o → is_settled o.pending log ≡ false
left_new ranks workers log x h o is = let k = makes_of x.lane x.event o is in ap (λ (c : Pending). is_settled c log) k.1 ∙ untaken_new ranks workers log x h k.0 k.2

pub unclaimed : (x : Mark) (o : Owed) → made_by x.lane x.event ≡ Some o → settles o.pending x ≡ false
unclaimed x o is =
    let k = makes_of x.lane x.event o is in
    ap (λ (c : Pending). settles c x) k.1 ∙ ap (is_item k.0) (makes_takes x.lane.rank x.event k.0 k.2)

pub made_in_hand : (x : Mark) (o : Owed) → (log : List Mark) → made_by x.lane x.event ≡ Some o → ItsTaskIsInHand o.pending log
made_in_hand x o log is = let k = makes_of x.lane x.event o is in subst (λ (c : Pending). ItsTaskIsInHand c log) (sym k.1) tt

pub unplanned : (p : Option (List Outline)) → ((os : List Outline) → p ≡ Some os → ⊥) → p ≡ None
unplanned None f = refl
unplanned (Some os) f = absurd (f os refl)

pub undone : (d : Option Progress) → ((b : Progress) → d ≡ Some b → ⊥) → d ≡ None
undone None f = refl
undone (Some b) f = absurd (f b refl)

-- what the seat knows of any list in which it may step
pub record Sees (ranks workers : ℕ) (program : List Doing) (may : Label → List Outline → Type 0) (task_effects : TaskEffects) (drawn : DrawnCounts) (log : List Mark) (v : View) (l : LaneName) (mine : List Event) : Type 0 where
  pub legal : Legal ranks workers log
  pub follows : Follows program may task_effects log
  pub seen : Begins v.seen log
  pub told : Begins v.told log
  pub own : part l log ≡ mine
  pub named : IsLane ranks workers l
  pub owes : (o : Owed) → v.owes ≡ Some o → IsMadeOrDrawn task_effects drawn o log × (is_settled o.pending log ≡ false)

-- what an event of a lane asks of the list
pub record Conditions (ranks : ℕ) (log : List Mark) (l : LaneName) (mine : List Event) (e : Event) : Type 0 where
  pub counting : Counting ranks log l mine e
  pub dues : Dues log l mine e
  pub fences : Fences ranks log l mine e
  pub bins : Bins l mine e

module _ (ranks workers : ℕ) (program : List Doing) (may : Label → List Outline → Type 0) (slots id : ℕ) (me : M) (l : LaneName) (mine : List Event) (alone : me.0.parts ≡ own_part l mine ∷ []) (room : length mine < 2 ^ 48) where
  abbrev here : OwnPart
  here = own_part l mine

  has : Contains me.0.parts here
  has = subst (λ (ps : List OwnPart). Contains ps here) (sym alone) (contains_first here [])

  pub only_here : (p : OwnPart) → Contains me.0.parts p → here ≡ p
  only_here p h = contains_one here p (subst (λ (ps : List OwnPart). Contains ps p) alone h)

  -- what a step on the word i, which becomes f of what it was, owes: the event's conditions, and the words
  abbrev pub Right : ℕ → (ℕ → ℕ) → Event → Type 0
  Right i f e = (words : List ℕ) (log : List Mark) (task_effects : TaskEffects) (drawn : DrawnCounts) → WordsShow ranks words log → ((k : Kind) → count k l.rank log < 2 ^ 60) → Sees ranks workers program may task_effects drawn log me.0 l mine
      → Conditions ranks log l mine (numbered (slice_index words i) e) × (slice_index (set words i (f (slice_index words i))) stop_word ≡ slice_index words stop_word) × ((g : Option EffectName) → WordsShow ranks (set words i (f (slice_index words i))) (mark l (numbered (slice_index words i) e) g ∷ log))

  pub may_come : (log : List Mark) (e : Event) (g : Option EffectName) → part l log ≡ mine → IsLane ranks workers l → Conditions ranks log l mine e → May ranks workers log (mark l e g)
  may_come log e g own named c = record {
    named = named;
    counting = subst (λ (es : List Event). Counting ranks log l es e) (sym own) c.counting;
    dues = subst (λ (es : List Event). Dues log l es e) (sym own) c.dues;
    fences = subst (λ (es : List Event). Fences ranks log l es e) (sym own) c.fences;
    bins = subst (λ (es : List Event). Bins l es e) (sym own) c.bins;
  }

  own_was : own_events me.0.parts ≡ mine
  own_was = ap own_events alone

  -- an event of a lane that has no task in hand, which carries out no effect
  pub says : (i : ℕ) (f : ℕ → ℕ) (e : Event) → ((r n : ℕ) → in_hand mine ≡ Some (Task r n) → ⊥)
      → ((c : Item) (n : ℕ) → takes (numbered n e) ≡ Some c → (o : Owed) × (me.0.owes ≡ Some o) × (o.pending ≡ Counted c))
      → ((n : ℕ) (task_effects : TaskEffects) (log : List Mark) → Goes program task_effects log (mark l (numbered n e) None) mine (numbered n e))
      → Right i f e
      → Allows (ShowsOneRun ranks workers program may) slots id me i f (Appends ranks workers program may l e None me)
  says i f e calm its' goes right s k homes at fits =
      let fit = k.views id me.0 at in
      let lane = fit.parts here has in
      let n = slice_index s.words i in
      let ev = numbered n e in
      let x = mark l ev None in
      let sees : Sees ranks workers program may k.task_effects k.drawn k.log me.0 l mine = record { legal = k.legal; follows = k.follows; seen = fit.seen; told = fit.told; own = lane.1; named = lane.2; owes = λ o h. let g = fit.owes o h in (g.1, g.2) } in
      let got = right s.words k.log k.task_effects k.drawn k.words (λ j. count_fits ranks workers k.log j l.rank k.few.0 k.few.1 k.legal k.short) sees in
      let may_x : May ranks workers k.log x = may_come k.log ev None lane.1 lane.2 got.0 in
      let legal : Legal ranks workers (x ∷ k.log) = (may_x, k.legal) in
      let owes = made_by l ev in
      let item_owner : Pending → ℕ = owner_with owes id k.item_owner in
      let none : me.0.progress ≡ None = undone me.0.progress (λ b e'. let is = fit.progress b e' in calm b.rank b.number (ap (λ (q : OwnPart). in_hand q.events) (only_here is.lane is.has) ∙ is.hand)) in
      let held : (d : Item) → takes ev ≡ Some d → k.item_owner (Counted d) ≡ id = λ d t. let o = its' d n t in ap k.item_owner (sym o.2) ∙ (fit.owes o.0 o.1).0 in
      let w : View = record me.0 { parts = own_part l (ev ∷ mine) ∷ []; seen = x ∷ k.log; told = []; owes = owes; progress = None } in (
        w,
        keeps,
        tt,
        appends ranks workers program may s k id me.0 at x mine owes None item_owner k.drawn i (f n) me.1 alone may_x (goes n k.task_effects k.log) room
            (λ q w. stays_borne owes q.pending (λ z e' same. owing_new ranks workers k.log x legal z q k.task_effects k.drawn e' w same) id k.item_owner)
            (λ d t. stays_borne owes d (λ z e' same. both_ways (is_settled z.pending k.log) (left_new ranks workers k.log x legal z e') (ap (λ c. is_settled c k.log) same ∙ t)) id k.item_owner)
            (λ q m. omega arith)
            (λ q m away. refl)
            (λ d t. let tk = claimed_plain d x refl t in its (bearer_id owes id k.item_owner d (ap k.item_owner tk.1 ∙ held tk.0 tk.2)) (λ g h. counted_or_drawn tk.0 g d tk.1 h))
            (λ d h. ⊎_elim
            (λ t. (bearer_id owes id k.item_owner (Counted d) (held d t), taken_here d x k.log t))
            (λ t. let g = fit.hand here d has t in (bearer_id owes id k.item_owner (Counted d) g.0, taken_more d x k.log g.1))
            (hand_event ev (in_hand mine) d h))
            (λ q e'. (bears owes q e' id k.item_owner, inl (l, ev, e', inl (refl, refl)), left_more q.pending x k.log (unclaimed x q e') (left_new ranks workers k.log x legal q e'), made_in_hand x q (x ∷ k.log) e'))
            (λ b e'. absurd (cc))
            (λ e' r m h. ⊎_elim
            (λ t. unplanned (k.task_effects r m) (λ os p. both_ways (is_taken (Task r m) k.log) (took_fresh (Task r m) ev ranks k.log l mine got.0.counting t).1 (k.follows.planned r m os p).taken))
            (λ t. absurd (calm r m t))
            (hand_event ev (in_hand mine) (Task r m) h))
            got.1
            (got.2 None),
        (
          record {
            before = k.log;
            now = refl;
            seen = fit.seen;
            told = fit.told;
            own = part_own x.lane x k.log refl ∙ ap (λ es. ev ∷ es) (lane.1 ∙ sym own_was);
            changes = appended_view me.0 l ev mine _ _ own_was (ap (progress_after ev) none ∙ doing_none ev);
            run = record { task_effects = k.task_effects; run = record { legal = legal; follows = one_more_follows program may k.task_effects k.log x mine lane.1 (goes n k.task_effects k.log) k.follows }; begun = λ b e'. absurd (cc) };
          },
          refl,
        ),
      )
