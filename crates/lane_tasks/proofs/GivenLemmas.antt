-- What lanes know of tasks that they submitted, and of futures that they gave.
use Rattle.std.proofs.Common.{◌≡◌, ◌≤◌, ◌+◌, ℕ, Bool, true, false, List, [], ◌∷◌, Option, Some, None, refl, ap, sym, ◌∙◌, subst, arith}
use Rattle.std.specs.Prelude.{if◌then◌else◌}
use Rattle.app_core.specs.declared.label.Label.{Label}
use Rattle.app_core.specs.declared.outline.Outline.{Outline}
use Rattle.event_lists.specs.declared.event.Event.{Event}
use Rattle.event_lists.specs.declared.event.Event.TheVariants.{Submitted, Gave}
use Rattle.event_lists.specs.declared.future.Future.{Future}
use Rattle.event_lists.specs.declared.mark.EffectName.{EffectName}
use Rattle.event_lists.specs.declared.mark.Item.{Item}
use Rattle.event_lists.specs.declared.mark.Item.TheVariants.{Task}
use Rattle.event_lists.specs.declared.mark.Mark.{Mark}
use Rattle.event_lists.specs.declared.event.TaskName.{TaskName}
use Rattle.event_lists.specs.Events.{part, in_hand, is_item, makes, times_made, Begins, IsSubmitted}
use Rattle.event_lists.specs.Futures.{bringer, due_made, due_of, own_due, futures_by, spawned_needs, is_future, gives, needs_of, times_given}
use Rattle.event_lists.specs.Legal.{Legal}
use Rattle.event_lists.proofs.CountLemmas.{one_if}
use Rattle.event_lists.proofs.LaneLemmas.{part_own}
use Rattle.event_lists.proofs.ListLemmas.{on_begins}
use Rattle.event_lists.proofs.ItemLemmas.{some_is_item}
use Rattle.event_lists.proofs.FutureLemmas.{due_lasts, some_is_future}
use Rattle.world_rule.specs.Views.{mark}
use Rattle.world_words.specs.Lanes.{WordsView, LaneView, Grew, task_name}

tail_same : (d e : Event) (xs ys : List Event) → d ∷ xs ≡ e ∷ ys → xs ≡ ys
tail_same d e xs ys same = cc

module _ {A : Type 0} (words : WordsView A) (may : Label → List Outline → Type 0) (e : Event) (f : Option EffectName) (old new : LaneView) (grew : Grew words may e f old new) where
  -- before its event the lane's part was what the lane had
  own_before : part old.name grew.before ≡ old.mine
  own_before =
      let own : part new.name new.seen ≡ new.mine = grew.sees.own in
      let whole : part old.name (mark old.name e f ∷ grew.before) ≡ e ∷ old.mine = ap (λ l. part l (mark old.name e f ∷ grew.before)) (sym grew.same.1) ∙ ap (part new.name) (sym grew.now) ∙ own ∙ grew.event in
      tail_same e e (part old.name grew.before) old.mine (sym (part_own old.name (mark old.name e f) grew.before refl) ∙ whole)

  legal_now : Legal words.ranks words.workers (mark old.name e f ∷ grew.before)
  legal_now = subst (Legal words.ranks words.workers) grew.now grew.sees.run.1.legal

pub needs_by_hand : {A : Type 0} (words : WordsView A) (may : Label → List Outline → Type 0) (n : ℕ) (u : Label) (ns : List Label) (d : Option Label) (f : Option EffectName) (old new : LaneView)
    → Grew words may (Submitted n (task_name u ns d)) f old new → needs_of (Task new.name.rank n) new.seen ≡ futures_by (bringer new.name.rank (in_hand old.mine)) ns
needs_by_hand words may n u ns d f old new grew =
    let e = Submitted n (task_name u ns d) in
    let r = old.name.rank in
    let here : is_item (Task r n) (makes r e) ≡ true = some_is_item (Task r n) (makes r e) refl in
    let first : needs_of (Task r n) (mark old.name e f ∷ grew.before) ≡ futures_by (bringer r (in_hand (part old.name grew.before))) ns
    = ap (λ (b : Bool). if b then futures_by (bringer r (in_hand (part old.name grew.before))) ns else needs_of (Task r n) grew.before) here in
    let hand : futures_by (bringer r (in_hand (part old.name grew.before))) ns ≡ futures_by (bringer r (in_hand old.mine)) ns
    = ap (λ mine. futures_by (bringer r (in_hand mine)) ns) (own_before words may e f old new grew) in
    rw (grew.same.1, grew.now) (first ∙ hand)

-- what has a due was made
due_was_made : (c : Item) (f : Future) (log : List Mark) → due_of c log ≡ Some f → 1 ≤ times_made c log
due_was_made c f [] is = absurd (cc)
due_was_made c f (x ∷ log) is = go (due_was_made c f log) (is_item c (makes x.lane.rank x.event)) is
  where
    go : (due_of c log ≡ Some f → 1 ≤ times_made c log) → (b : Bool) → (if b then due_made x.lane.rank (in_hand (part x.lane log)) (own_due (in_hand (part x.lane log)) log) x.event else due_of c log) ≡ Some f → 1 ≤ one_if b + times_made c log
    go rest true is = omega arith
    go rest false is = omega (arith, rest is)

-- the due of what is in hand stays its due
own_due_lasts : (ranks workers : ℕ) (hand : Option Item) (f : Future) (old log : List Mark) → Legal ranks workers log → Begins old log → own_due hand old ≡ Some f → own_due hand log ≡ Some f
own_due_lasts ranks workers None f old log legal begins is = absurd (cc)
own_due_lasts ranks workers (Some c) f old log legal begins is = due_lasts ranks workers old log legal begins c (due_was_made c f old is) ∙ is

pub given_is_known : {A : Type 0} (words : WordsView A) (may : Label → List Outline → Type 0) (label : Label) (future : Future) (f : Option EffectName) (old new : LaneView)
    → Grew words may (Gave label) f old new → own_due (in_hand old.mine) old.seen ≡ Some future → 1 ≤ times_given future new.seen
given_is_known words may label future f old new grew due =
    let e = Gave label in
    let legal = legal_now words may e f old new grew in
    let owned : own_due (in_hand old.mine) grew.before ≡ Some future = own_due_lasts words.ranks words.workers (in_hand old.mine) future old.seen grew.before legal.1 grew.knew due in
    let hand : own_due (in_hand (part old.name grew.before)) grew.before ≡ Some future = ap (λ mine. own_due (in_hand mine) grew.before) (own_before words may e f old new grew) ∙ owned in
    let counts : is_future future (own_due (in_hand (part old.name grew.before)) grew.before) ≡ true = some_is_future future _ hand in
    let one : one_if (is_future future (own_due (in_hand (part old.name grew.before)) grew.before)) ≡ 1 = ap one_if counts in
    rw grew.now (omega (arith, one))

-- a task stays submitted
pub submission_lasts : (old log : List Mark) (r q n : ℕ) (t : TaskName) → Begins old log → r ≡ q → IsSubmitted r n t old → IsSubmitted q n t log
submission_lasts old log r q n t begins same (l, at, stands) = (l, at ∙ same, on_begins l (Submitted n t) old log begins stands)
