-- Lemmas that crates above use: steps without an event: a task is begun, an effect is drawn, a word is looked at.
use Rattle.std.proofs.Common.{◌<◌, ◌≡◌, ◌⊎◌, ℕ, zero, suc, ◌+◌, ◌≤◌, Bool, true, false, List, [], ◌∷◌, take, set, refl, sym, ap, ◌∙◌, subst, inl, inr, ⊎_elim, arith, get_or-set_same}
use Rattle.std.specs.Prelude.{Some, None, slice_index, slice_get, if◌then◌else◌, ◌==◌, ◌&&◌}
use Rattle.std.proofs.lemmas.Bool.{cases_Bool, eq-eqb, eqb-true, and_parts, and_from, both_ways}
use mathlib.Core.Option.{some}
use lib.ListN.{get_elem?}
use Rattle.atomic_table.specs.Table.{keeps, stepped, Allows}
use Rattle.app_core.specs.declared.label.Label.{Label}
use Rattle.app_core.specs.declared.outline.Outline.{Outline}
use Rattle.event_lists.specs.declared.lane.LaneName.{LaneName}
use Rattle.event_lists.specs.declared.event.Event.{Event}
use Rattle.event_lists.specs.declared.event.Event.TheVariants.{Submitted}
use Rattle.event_lists.specs.declared.event.TaskName.{TaskName}
use Rattle.event_lists.specs.declared.mark.Item.TheVariants.{Task}
use Rattle.world_rule.specs.declared.view.Pending.{Pending}
use Rattle.world_rule.specs.declared.view.Pending.TheVariants.{Counted, Drawn}
use Rattle.event_lists.specs.declared.mark.Mark.{Mark}
use Rattle.event_lists.specs.Events.{count, is_taken, in_hand, IsSubmitted}
use Rattle.event_lists.proofs.HandLemmas.{hand_rank}
use Rattle.event_lists.proofs.ListLemmas.{begins_refl, begins_empty, on_begins}
use Rattle.event_laws.specs.Follows.{TaskEffects, Doing, Follows, Planned, owns, since, is_own, carried_out, effect_name}
use Rattle.world_rule.specs.declared.view.Load.TheVariants.{OfEffect}
use Rattle.world_rule.specs.declared.view.Owed.{Owed}
use Rattle.world_rule.specs.declared.view.OwnPart.{OwnPart}
use Rattle.world_rule.specs.declared.view.Progress.{Progress}
use Rattle.world_rule.specs.declared.view.CountLooks.{CountLooks}
use Rattle.world_rule.specs.declared.view.View.{View}
use Rattle.event_lists.specs.declared.kind.Kind.{Kind}
use Rattle.event_lists.specs.declared.kind.Kind.TheVariants.{Sends as sends, Handlings as handlings, Submissions as submissions, Runs as runs}
use Rattle.world_rule.proofs.PendingLemmas.{owner_with, borne, not_borne}
use Rattle.world_rule.proofs.ViewLemmas.{St, set_view, if_true, if_false, owing_apart, owing_grows, rewitness, replaces}
use Rattle.std.specs.Prelude.{bit_or}
use Rattle.world_rule.proofs.StopWordLemmas.{stops_now, stops_found}
use Rattle.world_rule.proofs.CounterWordLemmas.{set_own, words_stop}
use Rattle.world_rule.proofs.ContainsLemmas.{contains_first}
use Rattle.std.specs.Prelude.{Contains}
use Rattle.world_rule.specs.Owing.{is_settled, owed}
use Rattle.world_rule.specs.Views.{progress, further, seeing, after_begin, after_draw, after_stop, after_stop_look, after_look}
use Rattle.world_rule.specs.CounterWords.{word_at, stop_word, StopWordShows}
use Rattle.world_rule.specs.Shows.{DrawnCounts, IsMadeOrDrawn, ItsTaskIsInHand, LooksShow, ProgressShows, ViewShows, ShowsOneRun, drawn_more, drawn_none, with_effects}
use Rattle.world_rule.specs.Steps.{IsUnderWay, SeesRun, SeesCount, Looked, M, Finds, BeginsTask, DrawsEffect, SetsStop, SeesStop}
use Rattle.event_laws.proofs.GrowingRunLemmas.{more_follow, carried_is_begun}

-- one more effect
pub owns_next : (os : List Outline) (i : ℕ) (o : Outline) → slice_get os i ≡ Some o → owns (take (suc i) os) ≡ (if is_own o then 1 else 0) + owns (take i os)
owns_next [] i o e = absurd (cc)
owns_next (p ∷ os) zero o e = let s : p ≡ o = cc in ap (λ q. (if is_own q then 1 else 0) + 0) s
owns_next (p ∷ os) (suc i) o e = let r = owns_next os i o e in omega arith

-- the place of one task among all
pub one_place : {A : Type 0} (r n q m : ℕ) (a b : A) → ((r ≡ q) → (n ≡ m) → ⊥) → (if (q == r) && (m == n) then a else b) ≡ b
one_place r n q m a b apart = ⊎_elim
    (λ t. let p = and_parts (q == r) (m == n) t in absurd (apart (sym (eqb-true q r p.0)) (sym (eqb-true m n p.1))))
    (λ f. if_false ((q == r) && (m == n)) a b f)
    (cases_Bool ((q == r) && (m == n)))

pub that_place : {A : Type 0} (r n : ℕ) (a b : A) → (if (r == r) && (n == n) then a else b) ≡ a
that_place r n a b = if_true ((r == r) && (n == n)) a b (and_from (r == r) (n == n) (eq-eqb r r refl) (eq-eqb n n refl))

module _ (ranks workers : ℕ) (program : List Doing) (may : Label → List Outline → Type 0) (slots id : ℕ) (me : M) (l : LaneName) (mine : List Event) (alone : me.0.parts ≡ record { lane = l; events = mine } ∷ []) where
  abbrev here : OwnPart
  here = record { lane = l; events = mine }

  has : Contains me.0.parts here
  has = subst (λ (ps : List OwnPart). Contains ps here) (sym alone) (contains_first here [])

  -- the task in hand is begun with the outline of its step
  pub begins : (r n : ℕ) (task : TaskName) (os : List Outline) → in_hand mine ≡ Some (Task r n) → since mine ≡ 0 → me.0.progress ≡ None → IsSubmitted r n task me.0.seen → may task.unit os
      → Allows (ShowsOneRun ranks workers program may) slots id me 0 (λ k. k) (λ k w. BeginsTask ranks workers program may (progress r n os 0) me w)
  begins r n task os hand fresh idle made right s k homes at fits =
      let fit = k.views id me.0 at in
      let b : Progress = progress r n os 0 in
      let task_effects : TaskEffects = with_effects r n os k.task_effects in
      let drawn : DrawnCounts = drawn_none r n k.drawn in
      let mine_is = fit.hand here (Task r n) has hand in
      let none : k.task_effects r n ≡ None = fit.idle idle here r n has hand in
      let grow : (q m : ℕ) (ps : List Outline) → k.task_effects q m ≡ Some ps → task_effects q m ≡ Some ps = λ q m ps e. one_place r n q m (Some os) (k.task_effects q m) (λ a c. absurd (let z : k.task_effects r n ≡ Some ps = (λ i. k.task_effects (a i) (c i)) ∙ e in let y : None ≡ Some ps = sym none ∙ z in cc)) ∙ e in
      let more : (q m : ℕ) (ps : List Outline) → k.task_effects q m ≡ Some ps → drawn q m ≡ k.drawn q m = λ q m ps e. one_place r n q m 0 (k.drawn q m) (λ a c. absurd (let z : k.task_effects r n ≡ Some ps = (λ i. k.task_effects (a i) (c i)) ∙ e in let y : None ≡ Some ps = sym none ∙ z in cc)) in
      let follows : Follows program may task_effects k.log = record { planned = λ q m ps e. new s k q m ps mine_is.1 (made.0, made.1, on_begins made.0 (Submitted n task) me.0.seen k.log fit.seen made.2) (cases_Bool ((q == r) && (m == n))) e; goes = more_follow program k.task_effects task_effects k.log grow k.follows.goes } in
      let w : View = seeing k.log (after_begin b me.0) in (
        w,
        keeps,
        tt,
        replaces ranks workers program may s k id me.0 at w refl refl k.item_owner task_effects drawn 0 (slice_index s.words 0) me.1 (set_own s.words 0)
            follows
            (λ j u apart f. rewitness ranks workers id k.log k.lane_owner k.item_owner k.item_owner k.task_effects task_effects k.drawn drawn j u apart grow
            (λ q m away e. one_place r n q m (Some os) (k.task_effects q m) (λ a c. away ((λ i. k.item_owner (Counted (Task (sym a i) (sym c i)))) ∙ mine_is.0)) ∙ e)
            (λ q m ps e. let z = more q m ps e in omega arith)
            (λ q m ps away e. more q m ps e)
            (λ o _. refl) (λ c _. refl) f)
            (record {
              seen = begins_refl k.log;
              told = begins_empty k.log;
              parts = fit.parts;
              hand = fit.hand;
              owes = λ o e. let t = fit.owes o e in (t.0, owing_grows k.task_effects task_effects k.drawn drawn o k.log grow (λ q m ps e. let z = more q m ps e in omega arith) t.1, t.2, t.3);
              looks = fit.looks;
              progress = λ c e. let same : b ≡ c = cc in subst (ProgressShows task_effects drawn k.log me.0.parts) same (record {
                lane = here;
                has = has;
                hand = hand;
                rank = hand_rank ranks workers k.log k.legal l r n (ap in_hand (fit.parts here has).1 ∙ hand);
                plan = that_place r n (Some os) (k.task_effects r n);
                drawn_is = that_place r n 0 (k.drawn r n);
                turn = sym fresh;
                left = λ i le. ⊎_elim (λ t. let p = carried_is_begun program k.task_effects k.log r n i k.follows.goes t in absurd (let y : None ≡ Some p.0 = sym none ∙ p.1 in cc)) (λ f. f) (cases_Bool (carried_out r n i k.log));
              });
              idle = λ e q a c h i. absurd (cc);
            }),
        (record { changes = refl; seen = fit.seen; told = fit.told; own = λ p h. (fit.parts p h).1; named = λ p h. (fit.parts p h).2; run = record { task_effects = task_effects; run = record { legal = k.legal; follows = follows }; begun = λ c e. let same : b ≡ c = cc in subst (λ (z : Progress). (p : OwnPart) × Contains me.0.parts p × IsUnderWay task_effects p.events z) same (here, has, record { hand = hand; plan = that_place r n (Some os) (k.task_effects r n); turn = sym fresh }) } }, refl),
      )
    where
      new : (s : St) (k : ShowsOneRun ranks workers program may s) (q m : ℕ) (ps : List Outline) → is_taken (Task r n) k.log ≡ true → IsSubmitted r n task k.log → ((q == r) && (m == n) ≡ true) ⊎ ((q == r) && (m == n) ≡ false) → with_effects r n os k.task_effects q m ≡ Some ps → Planned may k.log q m ps
      new s k q m ps taken made (inl t) e =
          let p = and_parts (q == r) (m == n) t in
          let a = eqb-true q r p.0 in
          let c = eqb-true m n p.1 in
          let is : Some os ≡ Some ps = sym (if_true ((q == r) && (m == n)) (Some os) (k.task_effects q m) t) ∙ e in
          let same : os ≡ ps = cc in
          subst (λ (z : ℕ × ℕ × List Outline). Planned may k.log z.0 z.1 z.2) (λ i. (sym a i, sym c i, same i)) (record { task = task; submitted = made; taken = taken; may_do = right })
      new s k q m ps taken made (inr f) e =
          let old = k.follows.planned q m ps (sym (if_false ((q == r) && (m == n)) (Some os) (k.task_effects q m) f) ∙ e) in
          old

  -- the next effect of the task in hand is drawn, which is a put or an erase
  pub draws : (b : Progress) (o : Outline) → me.0.progress ≡ Some b → slice_get b.outlines b.at ≡ Some o → is_own o ≡ false
      → Allows (ShowsOneRun ranks workers program may) slots id me 0 (λ k. k) (λ k w. DrawsEffect ranks workers program may b o me w)
  draws b o progress here_is other s k homes at fits =
      let fit = k.views id me.0 at in
      let r = b.rank in
      let n = b.number in
      let c : Pending = Drawn (effect_name r n b.at) in
      let it : Owed = owed c r (OfEffect o) in
      let is = fit.progress b progress in
      let item_owner : Pending → ℕ = owner_with (Some it) id k.item_owner in
      let drawn : DrawnCounts = drawn_more r n k.drawn in
      let mine_is = fit.hand is.lane (Task r n) is.has is.hand in
      let grows : (q m : ℕ) → k.drawn q m ≤ drawn q m = λ q m. up ((q == r) && (m == n)) (k.drawn q m) in
      let owing : (e : Owed) → IsMadeOrDrawn k.task_effects k.drawn e k.log → item_owner e.pending ≡ k.item_owner e.pending = λ e w. not_borne it id k.item_owner e.pending (λ same. let lt = owing_apart k.task_effects k.drawn e k.log (effect_name r n b.at) w (sym same) in let d = is.drawn_is in omega arith) in
      let taken : (e : Pending) → is_settled e k.log ≡ true → item_owner e ≡ k.item_owner e = λ e t. not_borne it id k.item_owner e (λ same. both_ways (is_settled c k.log) (is.left b.at (omega arith)) (ap (λ d. is_settled d k.log) same ∙ t)) in
      let w : View = seeing k.log (after_draw b o me.0) in (
        w,
        keeps,
        tt,
        replaces ranks workers program may s k id me.0 at w refl refl item_owner k.task_effects drawn 0 (slice_index s.words 0) me.1 (set_own s.words 0)
            k.follows
            (λ j u apart f. rewitness ranks workers id k.log k.lane_owner k.item_owner item_owner k.task_effects k.task_effects k.drawn drawn j u apart (λ q m os e. e) (λ q m _ e. e)
            (λ q m os e. grows q m)
            (λ q m os away e. one_place r n q m (suc (k.drawn q m)) (k.drawn q m) (λ a d. away ((λ i. k.item_owner (Counted (Task (sym a i) (sym d i)))) ∙ mine_is.0)))
            owing taken f)
            (record {
              seen = begins_refl k.log;
              told = begins_empty k.log;
              parts = fit.parts;
              hand = λ q d h e. let t = fit.hand q d h e in (taken (Counted d) t.1 ∙ t.0, t.1);
              owes = λ e i. let same : it ≡ e = cc in subst (λ (z : Owed). (item_owner z.pending ≡ id) × IsMadeOrDrawn k.task_effects drawn z k.log × (is_settled z.pending k.log ≡ false) × ItsTaskIsInHand z.pending k.log) same (borne it id k.item_owner, inr (o, refl, (b.outlines, is.plan, here_is, other, (let d = is.drawn_is in let z = that_place r n (suc (k.drawn r n)) (k.drawn r n) in omega arith), refl)), is.left b.at (omega arith), (is.lane.lane, ap in_hand (fit.parts is.lane is.has).1 ∙ is.hand));
              progress = λ d e. let same : further b ≡ d = cc in subst (ProgressShows k.task_effects drawn k.log me.0.parts) same (record {
                lane = is.lane;
                has = is.has;
                hand = is.hand;
                rank = is.rank;
                plan = is.plan;
                drawn_is = that_place r n (suc (k.drawn r n)) (k.drawn r n) ∙ ap suc is.drawn_is;
                turn = (let a = owns_next b.outlines b.at o here_is in let z = ap (λ (z : Bool). (if z then 1 else 0) + owns (take b.at b.outlines)) other in let t = is.turn in omega arith);
                left = λ i le. is.left i (omega arith);
              });
              looks = fit.looks;
              idle = λ e q a d h i. absurd (cc);
            }),
        (record { changes = refl; seen = fit.seen; told = fit.told; own = λ p h. (fit.parts p h).1; named = λ p h. (fit.parts p h).2; run = record { task_effects = k.task_effects; run = record { legal = k.legal; follows = k.follows }; begun = λ d e. let same : further b ≡ d = cc in subst (λ (z : Progress). (p : OwnPart) × Contains me.0.parts p × IsUnderWay k.task_effects p.events z) same (is.lane, is.has, record { hand = is.hand; plan = is.plan; turn = (let a = owns_next b.outlines b.at o here_is in let z = ap (λ (z : Bool). (if z then 1 else 0) + owns (take b.at b.outlines)) other in let t = is.turn in omega arith) }) } }, refl),
      )
    where
      up : (z : Bool) (m : ℕ) → m ≤ (if z then suc m else m)
      up true m = omega arith
      up false m = omega arith

-- a view whose seat sees the whole list, and is otherwise as it was but for its looks and the stop word
sees_all : {ranks workers : ℕ} (log : List Mark) (lane_owner : LaneName → ℕ) (item_owner : Pending → ℕ) (task_effects : TaskEffects) (drawn : DrawnCounts) {id : ℕ} {v : View} {set_stop saw_stop : Bool} {stop_looks : ℕ} {ran submitted : CountLooks}
    → LooksShow runs ran log × LooksShow submissions submitted log
    → ViewShows ranks workers log lane_owner item_owner task_effects drawn id v
    → ViewShows ranks workers log lane_owner item_owner task_effects drawn id (record v { seen = log; told = []; set_stop = set_stop; saw_stop = saw_stop; stop_looks = stop_looks; ran_looks = ran; submitted_looks = submitted })
sees_all log lane_owner item_owner task_effects drawn looks f = record { seen = begins_refl log; told = begins_empty log; parts = f.parts; hand = f.hand; owes = f.owes; progress = f.progress; looks = looks; idle = f.idle }

module _ (ranks workers : ℕ) (program : List Doing) (may : Label → List Outline → Type 0) (slots id : ℕ) (me : M) where
  -- what the seat sees is a run
  sees_run : (s : St) (k : ShowsOneRun ranks workers program may s) → get_elem? s.views id ≡ some me.0 → SeesRun ranks workers program may k.log me.0.parts me.0.progress
  sees_run s k at = record { task_effects = k.task_effects; run = record { legal = k.legal; follows = k.follows }; begun = λ b e. let t = (k.views id me.0 at).progress b e in (t.lane, t.has, record { hand = t.hand; plan = t.plan; turn = t.turn }) }

  -- a look at any word
  pub looks : (i : ℕ) → Allows (ShowsOneRun ranks workers program may) slots id me i (λ n. n) (Finds ranks workers program may i me)
  looks i s k homes at fits =
      let fit = k.views id me.0 at in
      let w : View = seeing k.log me.0 in (
        w,
        keeps,
        tt,
        replaces ranks workers program may s k id me.0 at w refl refl k.item_owner k.task_effects k.drawn i (slice_index s.words i) me.1 (set_own s.words i) k.follows
            (λ j u apart f. f)
            (sees_all k.log k.lane_owner k.item_owner k.task_effects k.drawn fit.looks fit),
        (record { changes = refl; seen = fit.seen; told = fit.told; own = λ p h. (fit.parts p h).1; named = λ p h. (fit.parts p h).2; run = sees_run s k at }, (λ j r h e. ap (slice_index s.words) e ∙ k.words.each j r h), refl),
      )

  -- the rule after a step on the stop word
  restops : (s : St) (k : ShowsOneRun ranks workers program may s) → (w : View) (n : ℕ) → ViewShows ranks workers k.log k.lane_owner k.item_owner k.task_effects k.drawn id w
      → StopWordShows (slice_index (set s.words stop_word n) stop_word) (set s.views id w)
      → ShowsOneRun ranks workers program may (stepped s stop_word n id me.1 w keeps)
  restops s k w n fit ok = record {
    log = k.log;
    lane_owner = k.lane_owner;
    item_owner = k.item_owner;
    task_effects = k.task_effects;
    drawn = k.drawn;
    few = k.few;
    legal = k.legal;
    follows = k.follows;
    short = k.short;
    words = words_stop ranks n s.words k.log k.words;
    stop = ok;
    views = set_view (ViewShows ranks workers k.log k.lane_owner k.item_owner k.task_effects k.drawn) s.views id w (λ j u a e. k.views j u e) fit;
  }

  -- the stop word is set
  pub sets_stop : Allows (ShowsOneRun ranks workers program may) slots id me stop_word (λ n. bit_or n 1) (λ n w. SetsStop ranks workers program may me w)
  sets_stop s k homes at fits =
      let fit = k.views id me.0 at in
      let old = slice_index s.words stop_word in
      let n = bit_or old 1 in
      let w : View = seeing k.log (after_stop me.0) in
      let one : n ≡ 1 = ⊎_elim (λ (e : old ≡ 0). ap (λ z. bit_or z 1) e) (λ (e : old ≡ 1). ap (λ z. bit_or z 1) e) k.stop.one in
      let now : slice_index (set s.words stop_word n) stop_word ≡ 1 = get_or-set_same s.words stop_word n 0 (let size = k.words.size in omega arith) ∙ one in (
        w,
        keeps,
        tt,
        restops s k w n (sees_all k.log k.lane_owner k.item_owner k.task_effects k.drawn fit.looks fit) (subst (λ (z : ℕ). StopWordShows z (set s.views id w)) (sym now) (stops_now old s.views id me.0 w at refl k.stop)),
        (record { changes = refl; seen = fit.seen; told = fit.told; own = λ p h. (fit.parts p h).1; named = λ p h. (fit.parts p h).2; run = sees_run s k at }, refl),
      )

  after_stop_same : (j : Kind) (r n : ℕ) → (after_look j r n me.0).set_stop ≡ me.0.set_stop
  after_stop_same sends r n = refl
  after_stop_same handlings r n = refl
  after_stop_same submissions r n = refl
  after_stop_same runs r n = refl

  after_saw_same : (j : Kind) (r n : ℕ) → (after_look j r n me.0).saw_stop ≡ me.0.saw_stop
  after_saw_same sends r n = refl
  after_saw_same handlings r n = refl
  after_saw_same submissions r n = refl
  after_saw_same runs r n = refl

  looked_shows : (j : Kind) (r n : ℕ) (log : List Mark) (lane_owner : LaneName → ℕ) (item_owner : Pending → ℕ) (task_effects : TaskEffects) (drawn : DrawnCounts) → n ≡ count j r log
      → ViewShows ranks workers log lane_owner item_owner task_effects drawn id me.0 → ViewShows ranks workers log lane_owner item_owner task_effects drawn id (seeing log (after_look j r n me.0))
  looked_shows sends r n log a b p d found f = sees_all log a b p d f.looks f
  looked_shows handlings r n log a b p d found f = sees_all log a b p d f.looks f
  looked_shows submissions r n log a b p d found f = sees_all log a b p d (f.looks.0, (let e = found in omega arith)) f
  looked_shows runs r n log a b p d found f = sees_all log a b p d ((let e = found in omega arith), f.looks.1) f

  looked_tells : (j : Kind) (r n : ℕ) (s : St) (k : ShowsOneRun ranks workers program may s) → get_elem? s.views id ≡ some me.0 → Looked ranks workers program may me.0 (after_look j r n me.0) (seeing k.log (after_look j r n me.0))
  looked_tells j r n s k at = by_kind j
    where
      by_kind : (j : Kind) → Looked ranks workers program may me.0 (after_look j r n me.0) (seeing k.log (after_look j r n me.0))
      by_kind sends = let fit = k.views id me.0 at in record { changes = refl; seen = fit.seen; told = fit.told; own = λ p h. (fit.parts p h).1; named = λ p h. (fit.parts p h).2; run = sees_run s k at }
      by_kind handlings = let fit = k.views id me.0 at in record { changes = refl; seen = fit.seen; told = fit.told; own = λ p h. (fit.parts p h).1; named = λ p h. (fit.parts p h).2; run = sees_run s k at }
      by_kind submissions = let fit = k.views id me.0 at in record { changes = refl; seen = fit.seen; told = fit.told; own = λ p h. (fit.parts p h).1; named = λ p h. (fit.parts p h).2; run = sees_run s k at }
      by_kind runs = let fit = k.views id me.0 at in record { changes = refl; seen = fit.seen; told = fit.told; own = λ p h. (fit.parts p h).1; named = λ p h. (fit.parts p h).2; run = sees_run s k at }

  -- the count of a kind at a rank is looked at
  pub sees_count : (j : Kind) (r : ℕ) → r < ranks → Allows (ShowsOneRun ranks workers program may) slots id me (word_at j r) (λ n. n) (SeesCount ranks workers program may j r me)
  sees_count j r here s k homes at fits =
      let fit = k.views id me.0 at in
      let n = slice_index s.words (word_at j r) in
      let found : n ≡ count j r k.log = k.words.each j r here in
      let w : View = seeing k.log (after_look j r n me.0) in (
        w,
        keeps,
        tt,
        replaces ranks workers program may s k id me.0 at w (after_stop_same j r n) (after_saw_same j r n) k.item_owner k.task_effects k.drawn (word_at j r) n me.1 (set_own s.words (word_at j r)) k.follows
            (λ j u apart f. f)
            (looked_shows j r n k.log k.lane_owner k.item_owner k.task_effects k.drawn found fit),
        (looked_tells j r n s k at, found, refl),
      )

  -- the stop word is looked at
  pub finds_stop : Allows (ShowsOneRun ranks workers program may) slots id me stop_word (λ n. n) (SeesStop ranks workers program may me)
  finds_stop s k homes at fits =
      let fit = k.views id me.0 at in
      let n = slice_index s.words stop_word in
      let w : View = seeing k.log (after_stop_look (n == 1) me.0) in (
        w,
        keeps,
        tt,
        restops s k w n (sees_all k.log k.lane_owner k.item_owner k.task_effects k.drawn fit.looks fit) (subst (λ (ws : List ℕ). StopWordShows (slice_index ws stop_word) (set s.views id w)) (sym (set_own s.words stop_word)) (stops_found n s.views id me.0 w at refl refl k.stop)),
        (record { changes = refl; seen = fit.seen; told = fit.told; own = λ p h. (fit.parts p h).1; named = λ p h. (fit.parts p h).2; run = sees_run s k at }, k.stop.known id me.0 at, k.stop.one, refl),
      )
