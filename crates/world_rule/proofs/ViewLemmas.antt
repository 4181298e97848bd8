-- A step keeps the rule where it is right of its own view.
use Rattle.std.proofs.Common.{◌≡◌, ◌≢◌, ◌⊎◌, ℕ, zero, suc, ◌^◌, ◌<◌, ◌≤◌, Bool, true, false, List, [], ◌∷◌, ◌++◌, length, set, refl, sym, ap, ◌∙◌, subst, inl, inr, ⊎_elim, arith}
use Rattle.std.specs.Prelude.{Option, Some, None, slice_index, slice_get, if◌then◌else◌}
use Rattle.std.proofs.lemmas.Bool.{cases_Bool, both_ways}
use mathlib.Core.Option.{some, some-ne-none, some-injective}
use lib.ListN.{get_elem?}
use Rattle.atomic_table.specs.Table.{State, keeps, stepped}
use Rattle.atomic_table.proofs.Lists.{at_set}
use Rattle.app_core.specs.declared.label.Label.{Label}
use Rattle.app_core.specs.declared.outline.Outline.{Outline}
use Rattle.event_lists.specs.declared.lane.LaneName.{LaneName}
use Rattle.event_lists.specs.declared.event.Event.{Event}
use Rattle.event_lists.specs.declared.mark.Item.{Item}
use Rattle.event_lists.specs.declared.mark.Item.TheVariants.{Message, Task}
use Rattle.world_rule.specs.declared.view.Pending.{Pending}
use Rattle.world_rule.specs.declared.view.Pending.TheVariants.{Counted, Drawn}
use Rattle.event_lists.specs.declared.mark.EffectName.{EffectName}
use Rattle.event_lists.specs.declared.mark.Mark.{Mark}
use Rattle.event_lists.specs.declared.kind.Kind.{Kind}
use Rattle.event_lists.specs.declared.kind.Kind.TheVariants.{Submissions as submissions, Runs as runs}
use Rattle.event_lists.specs.declared.event.Event.TheVariants.{TookMessage, TookTask, Handled, Ran}
use Rattle.event_lists.specs.Counting.{Counting}
use Rattle.world_rule.specs.declared.view.Load.TheVariants.{OfEffect}
use Rattle.event_lists.specs.Events.{same_lane, part, is_taken, in_hand, hand_after}
use Rattle.event_lists.specs.Legal.{May, IsLane}
use Rattle.event_lists.proofs.LaneLemmas.{same_lane_true, same_lane_refl, part_own, part_other}
use Rattle.event_lists.proofs.ListLemmas.{begins_refl, begins_more, begins_empty}
use Rattle.event_lists.proofs.ItemLemmas.{taken_more}
use Rattle.event_laws.specs.Follows.{TaskEffects, Doing, Follows, Finished, Goes, is_own, carried_out, effect_name}
use Rattle.world_rule.specs.declared.view.Owed.{Owed}
use Rattle.world_rule.specs.declared.view.OwnPart.{OwnPart}
use Rattle.world_rule.specs.declared.view.Progress.{Progress}
use Rattle.world_rule.specs.declared.view.CountLooks.{CountLooks}
use Rattle.world_rule.specs.declared.view.View.{View}
use Rattle.world_rule.proofs.PendingLemmas.{left_more, made_more, made_effect, drawn_is_one}
use Rattle.world_rule.proofs.StopWordLemmas.{stops_set}
use Rattle.world_rule.proofs.ContainsLemmas.{contains_none, contains_first, contains_later, contains_cases, contains_one}
use Rattle.std.specs.Prelude.{Contains}
use Rattle.world_rule.specs.Owing.{settles, is_settled, Made}
use Rattle.world_rule.specs.Views.{own_part, without, first_of, progress}
use Rattle.world_rule.specs.CounterWords.{stop_word, WordsShow, StopWordShows}
use Rattle.world_rule.specs.Shows.{DrawnCounts, IsDrawn, IsMadeOrDrawn, ItsTaskIsInHand, LooksShow, ProgressShows, ViewShows, ShowsOneRun}
use Rattle.event_laws.proofs.GrowingRunLemmas.{one_more_follows}

-- lists of views
pub set_view : (P : ℕ → View → Type 0) (views : List View) (id : ℕ) (w : View) → ((j : ℕ) (u : View) → j ≢ id → get_elem? views j ≡ some u → P j u) → P id w → (j : ℕ) (u : View) → get_elem? (set views id w) j ≡ some u → P j u
set_view P views id w others mine j u e =
    ⊎_elim
    (λ (x : (j ≡ id) × (w ≡ u)). subst (λ (y : ℕ × View). P y.0 y.1) (λ i. (sym x.0 i, x.1 i)) mine)
    (λ (x : (j ≢ id) × (get_elem? views j ≡ some u)). others j u x.0 x.1)
    (at_set views id j w u e)

pub add_view : (P : ℕ → View → Type 0) (views : List View) (w : View) → ((j : ℕ) (u : View) → j < length views → get_elem? views j ≡ some u → P j u) → P (length views) w → (j : ℕ) (u : View) → get_elem? (views ++ w ∷ []) j ≡ some u → P j u
add_view P [] w others mine zero u e = subst (P zero) (some-injective w u e) mine
add_view P [] w others mine (suc j) u e = absurd (some-ne-none u (sym e))
add_view P (x ∷ views) w others mine zero u e = others zero u (omega arith) e
add_view P (x ∷ views) w others mine (suc j) u e = add_view (λ k. P (suc k)) views w (λ k t h. others (suc k) t (omega arith)) mine j u e

abbrev pub St : Type 0
St = State (Unit {0}) View

pub if_true : {X : Type 0} (b : Bool) (x y : X) → b ≡ true → (if b then x else y) ≡ x
if_true true x y e = refl
if_true false x y e = absurd (cc)

pub if_false : {X : Type 0} (b : Bool) (x y : X) → b ≡ false → (if b then x else y) ≡ y
if_false true x y e = absurd (cc)
if_false false x y e = refl

pub in_without : (l : LaneName) (xs : List OwnPart) (p : OwnPart) → Contains (without l xs) p → Contains xs p × (p.lane ≢ l)
in_without l [] p h = contains_none p h
in_without l (x ∷ xs) p h = step (in_without l xs p) (same_lane x.lane l) refl h
  where
    step : (Contains (without l xs) p → Contains xs p × (p.lane ≢ l)) → (b : Bool) → same_lane x.lane l ≡ b → Contains (if b then without l xs else x ∷ without l xs) p → Contains (x ∷ xs) p × (p.lane ≢ l)
    step rest true e h = let r = rest h in (contains_later x xs p r.0, r.1)
    step rest false e h = ⊎_elim
        (λ (i : x ≡ p). (subst (Contains (x ∷ xs)) i (contains_first x xs), λ (is : p.lane ≡ l). both_ways (same_lane x.lane l) e (subst (λ (z : LaneName). same_lane x.lane z ≡ true) (ap (λ (q : OwnPart). q.lane) i ∙ is) (same_lane_refl x.lane))))
        (λ t. let r = rest t in (contains_later x xs p r.0, r.1))
        (contains_cases x (without l xs) p h)

pub first_is : {A : Type 0} (a b : Option A) (o : A) → first_of a b ≡ Some o → (a ≡ Some o) ⊎ (b ≡ Some o)
first_is (Some x) b o e = inl e
first_is None b o e = inr e

-- what an event settles is owed by the seat, or is the next effect of its task in hand
pub data Claim (b : Pending → ℕ) (d : DrawnCounts) (id : ℕ) (c : Pending) : Type 0 where
  its : b c ≡ id → ((f : EffectName) → c ≡ Drawn f → f.index < d f.rank f.number) → Claim b d id c
  ahead : (f : EffectName) → c ≡ Drawn f → b (Counted (Task f.rank f.number)) ≡ id → d f.rank f.number ≤ f.index → Claim b d id c

drawn_apart : (p : TaskEffects) (d : DrawnCounts) (c : Pending) (to : ℕ) (w : Outline) (f : EffectName) → IsDrawn p d c to w → c ≡ Drawn f → f.index < d f.rank f.number
drawn_apart p d (Drawn g) to w f h e = subst (λ (z : EffectName). z.index < d z.rank z.number) (drawn_is_one g f e) h.4
drawn_apart p d (Counted c) to w f h e = absurd h

pub owing_apart : (p : TaskEffects) (d : DrawnCounts) (o : Owed) (log : List Mark) (f : EffectName) → IsMadeOrDrawn p d o log → o.pending ≡ Drawn f → f.index < d f.rank f.number
owing_apart p d o log f (inl m) e = made_effect m.0 m.1 o f m.2 e
owing_apart p d o log f (inr h) e = drawn_apart p d o.pending o.to h.0 f h.2 e

drawn_grows : (p q : TaskEffects) (d e : DrawnCounts) (c : Pending) (to : ℕ) (w : Outline) → ((r n : ℕ) (os : List Outline) → p r n ≡ Some os → q r n ≡ Some os) → ((r n : ℕ) (os : List Outline) → p r n ≡ Some os → d r n ≤ e r n) → IsDrawn p d c to w → IsDrawn q e c to w
drawn_grows p q d e (Drawn f) to w more grow h = (h.0, more f.rank f.number h.0 h.1, h.2, h.3, (let a = grow f.rank f.number h.0 h.1 in let b = h.4 in omega arith), h.5)
drawn_grows p q d e (Counted c) to w more grow h = absurd h

pub owing_grows : (p q : TaskEffects) (d e : DrawnCounts) (o : Owed) (log : List Mark) → ((r n : ℕ) (os : List Outline) → p r n ≡ Some os → q r n ≡ Some os) → ((r n : ℕ) (os : List Outline) → p r n ≡ Some os → d r n ≤ e r n) → IsMadeOrDrawn p d o log → IsMadeOrDrawn q e o log
owing_grows p q d e o log f g (inl m) = inl m
owing_grows p q d e o log f g (inr h) = inr (h.0, h.1, drawn_grows p q d e o.pending o.to h.0 f g h.2)

pub owing_more : (p : TaskEffects) (d : DrawnCounts) (o : Owed) (x : Mark) (log : List Mark) → IsMadeOrDrawn p d o log → IsMadeOrDrawn p d o (x ∷ log)
owing_more p d o x log (inl m) = inl (made_more o x log m)
owing_more p d o x log (inr h) = inr h

-- a lane that has a task in hand has it after an event, as long as an effect of the task on an entry waits
module _ (ranks workers : ℕ) (program : List Doing) (p : TaskEffects) (log : List Mark) (x : Mark) (may : May ranks workers log x) (goes : Goes program p log x (part x.lane log) x.event) where
  task_stays : (f : EffectName) (os : List Outline) (w : Outline) → p f.rank f.number ≡ Some os → slice_get os f.index ≡ Some w → is_own w ≡ false → carried_out f.rank f.number f.index log ≡ false
      → (l : LaneName) → in_hand (part l log) ≡ Some (Task f.rank f.number) → in_hand (part l (x ∷ log)) ≡ Some (Task f.rank f.number)
  task_stays f os w plan at other left l hand = by_lane (same_lane x.lane l) refl
    where
      by_event : (mine : List Event) (e : Event) → in_hand mine ≡ Some (Task f.rank f.number) → Counting ranks log x.lane mine e → Goes program p log x mine e → hand_after e (in_hand mine) ≡ Some (Task f.rank f.number)
      by_event mine (TookMessage q m) h c g = absurd (let z : None ≡ Some (Task f.rank f.number) = sym c.0 ∙ h in cc)
      by_event mine (TookTask q m) h c g = absurd (let z : None ≡ Some (Task f.rank f.number) = sym c.0 ∙ h in cc)
      by_event mine (Handled n q m) h c g = absurd (let z : Some (Message q m) ≡ Some (Task f.rank f.number) = sym c.1 ∙ h in cc)
      by_event mine (Ran n q m) h c g =
          let z : Some (Task q m) ≡ Some (Task f.rank f.number) = sym c.1 ∙ h in
          let a : q ≡ f.rank = cc in
          let b : m ≡ f.number = cc in
          let done : Finished p log mine f.rank f.number = subst (λ (y : ℕ × ℕ). Finished p log mine y.0 y.1) (λ i. (a i, b i)) g.0 in
          let both : Some done.os ≡ Some os = sym done.plan ∙ plan in
          let same : os ≡ done.os = cc in
          absurd (both_ways (carried_out f.rank f.number f.index log) left (done.before f.index w (subst (λ (ps : List Outline). slice_get ps f.index ≡ Some w) same at) other))
      by_event mine e h c g = h

      by_lane : (b : Bool) → same_lane x.lane l ≡ b → in_hand (if b then x.event ∷ part l log else part l log) ≡ Some (Task f.rank f.number)
      by_lane true e =
          let same = same_lane_true x.lane l e in
          let own : in_hand (part x.lane log) ≡ Some (Task f.rank f.number) = ap (λ (m : LaneName). in_hand (part m log)) same ∙ hand in
          subst (λ (m : LaneName). in_hand (x.event ∷ part m log) ≡ Some (Task f.rank f.number)) same (by_event (part x.lane log) x.event own may.counting goes)
      by_lane false e = hand

  stays_in_hand : (d : DrawnCounts) (o : Owed) → IsMadeOrDrawn p d o log → is_settled o.pending log ≡ false → ItsTaskIsInHand o.pending log → ItsTaskIsInHand o.pending (x ∷ log)
  stays_in_hand d o made left hand = by_pending o.pending refl made left hand
    where
      by_pending : (c : Pending) → o.pending ≡ c → Made o log ⊎ ((w : Outline) × (o.load ≡ OfEffect w) × IsDrawn p d c o.to w) → is_settled c log ≡ false → ItsTaskIsInHand c log → ItsTaskIsInHand c (x ∷ log)
      by_pending (Counted c) is made left hand = tt
      by_pending (Drawn f) is (inl m) left hand = made_effect m.0 m.1 o f m.2 is
      by_pending (Drawn f) is (inr (w, load, d')) left hand = (hand.0, task_stays f d'.0 w d'.1 d'.2 d'.3 left hand.0 hand.1)

-- what was found of a count isn't above it later
look_lasts : (k : Kind) (l : CountLooks) (x : Mark) (log : List Mark) → LooksShow k l log → LooksShow k l (x ∷ log)
look_lasts k l x log h = omega (arith, h)

module _ (ranks workers : ℕ) (id : ℕ) where
  -- the witnesses change, and what is said of another seat stays
  pub rewitness : (log : List Mark) (lane_owner : LaneName → ℕ) (b b' : Pending → ℕ) (p p' : TaskEffects) (d d' : DrawnCounts) (j : ℕ) (u : View) → j ≢ id
      → ((q m : ℕ) (os : List Outline) → p q m ≡ Some os → p' q m ≡ Some os)
      → ((q m : ℕ) → b (Counted (Task q m)) ≢ id → p q m ≡ None → p' q m ≡ None)
      → ((q m : ℕ) (os : List Outline) → p q m ≡ Some os → d q m ≤ d' q m)
      → ((q m : ℕ) (os : List Outline) → b (Counted (Task q m)) ≢ id → p q m ≡ Some os → d' q m ≡ d q m)
      → ((o : Owed) → IsMadeOrDrawn p d o log → b' o.pending ≡ b o.pending)
      → ((c : Pending) → is_settled c log ≡ true → b' c ≡ b c)
      → ViewShows ranks workers log lane_owner b p d j u → ViewShows ranks workers log lane_owner b' p' d' j u
  rewitness log lane_owner b b' p p' d d' j u apart grow none more same owing taken f = record {
    seen = f.seen;
    told = f.told;
    parts = f.parts;
    hand = λ q c h e. let t = f.hand q c h e in (taken (Counted c) t.1 ∙ t.0, t.1);
    owes = λ o e. let t = f.owes o e in (owing o t.1 ∙ t.0, owing_grows p p' d d' o log grow more t.1, t.2, t.3);
    looks = f.looks;
    progress = λ w e. let t = f.progress w e in record {
      lane = t.lane;
      has = t.has;
      hand = t.hand;
      rank = t.rank;
      plan = grow w.rank w.number w.outlines t.plan;
      drawn_is = same w.rank w.number w.outlines (λ a. apart (sym (f.hand t.lane (Task w.rank w.number) t.has t.hand).0 ∙ a)) t.plan ∙ t.drawn_is;
      turn = t.turn;
      left = t.left;
    };
    idle = λ e q r n h i. none r n (λ a. apart (sym (f.hand q (Task r n) h i).0 ∙ a)) (f.idle e q r n h i);
  }

  -- an event of the seat id, and what is said of another seat stays
  pub extends : (log : List Mark) (x : Mark) (lane_owner : LaneName → ℕ) (b : Pending → ℕ) (p : TaskEffects) (d : DrawnCounts) (j : ℕ) (u : View) → j ≢ id
      → lane_owner x.lane ≡ id
      → ((c : Pending) → settles c x ≡ true → Claim b d id c)
      → (program : List Doing) → May ranks workers log x → Goes program p log x (part x.lane log) x.event
      → ViewShows ranks workers log lane_owner b p d j u → ViewShows ranks workers (x ∷ log) lane_owner b p d j u
  extends log x lane_owner b p d j u apart lane pays program may goes f = record {
    seen = begins_more u.seen log x f.seen;
    told = begins_more u.told log x f.told;
    parts = λ q h. let g = f.parts q h in (g.0, part_other q.lane x log (λ (e : x.lane ≡ q.lane). apart (sym g.0 ∙ ap lane_owner (sym e) ∙ lane)) ∙ g.1, g.2);
    hand = λ q c h e. let t = f.hand q c h e in (t.0, taken_more c x log t.1);
    owes = λ o e. let t = f.owes o e in (t.0, owing_more p d o x log t.1, left_more o.pending x log (⊎_elim (λ k. absurd (not_other o t.0 t.1 (pays o.pending k))) (λ n. n) (cases_Bool (settles o.pending x))) t.2, stays_in_hand ranks workers program p log x may goes d o t.1 t.2 t.3);
    looks = (look_lasts runs u.ran_looks x log f.looks.0, look_lasts submissions u.submitted_looks x log f.looks.1);
    progress = λ w e. let t = f.progress w e in record {
      lane = t.lane;
      has = t.has;
      hand = t.hand;
      rank = t.rank;
      plan = t.plan;
      drawn_is = t.drawn_is;
      turn = t.turn;
      left = λ i le. left_more (Drawn (effect_name w.rank w.number i)) x log (⊎_elim (λ k. absurd (not_left w.rank w.number i w.at (f.hand t.lane (Task w.rank w.number) t.has t.hand).0 t.drawn_is le (pays (Drawn (effect_name w.rank w.number i)) k))) (λ n. n) (cases_Bool (settles (Drawn (effect_name w.rank w.number i)) x))) (t.left i le);
    };
    idle = f.idle;
  }
    where
      not_other : (o : Owed) → b o.pending ≡ j → IsMadeOrDrawn p d o log → Claim b d id o.pending → ⊥
      not_other o is w (its e _) = apart (sym is ∙ e)
      not_other o is w (ahead f e _ le) = let lt = owing_apart p d o log f w e in omega arith

      not_left : (r n i at : ℕ) → b (Counted (Task r n)) ≡ j → d r n ≡ at → at ≤ i → Claim b d id (Drawn (effect_name r n i)) → ⊥
      not_left r n i at is e le (its _ lt) = let k = lt (effect_name r n i) refl in omega arith
      not_left r n i at is e le (ahead f same t _) = let z = drawn_is_one (effect_name r n i) f same in apart (sym is ∙ ap (λ (g : EffectName). b (Counted (Task g.rank g.number))) z ∙ t)

module _ (ranks workers : ℕ) (program : List Doing) (may : Label → List Outline → Type 0) where
  -- The seat appends the event x. It has that lane alone; the event may come next and follows the application
  pub appends : (s : St) (k : ShowsOneRun ranks workers program may s) (id : ℕ) (v : View) → get_elem? s.views id ≡ some v
      → (x : Mark) (own : List Event) (owes : Option Owed) (progress : Option Progress) (item_owner : Pending → ℕ) (drawn : DrawnCounts) (i n : ℕ) (c : List (ℕ × Unit {0}))
      → v.parts ≡ record { lane = x.lane; events = own } ∷ []
      → May ranks workers k.log x
      → Goes program k.task_effects k.log x own x.event
      → length own < 2 ^ 48
      → ((o : Owed) → IsMadeOrDrawn k.task_effects k.drawn o k.log → item_owner o.pending ≡ k.item_owner o.pending)
      → ((d : Pending) → is_settled d k.log ≡ true → item_owner d ≡ k.item_owner d)
      → ((q m : ℕ) → k.drawn q m ≤ drawn q m)
      → ((q m : ℕ) → item_owner (Counted (Task q m)) ≢ id → drawn q m ≡ k.drawn q m)
      → ((d : Pending) → settles d x ≡ true → Claim item_owner k.drawn id d)
      → ((d : Item) → in_hand (x.event ∷ own) ≡ Some d → (item_owner (Counted d) ≡ id) × (is_taken d (x ∷ k.log) ≡ true))
      → ((o : Owed) → owes ≡ Some o → (item_owner o.pending ≡ id) × IsMadeOrDrawn k.task_effects drawn o (x ∷ k.log) × (is_settled o.pending (x ∷ k.log) ≡ false) × ItsTaskIsInHand o.pending (x ∷ k.log))
      → ((b : Progress) → progress ≡ Some b → ProgressShows k.task_effects drawn (x ∷ k.log) (record { lane = x.lane; events = x.event ∷ own } ∷ []) b)
      → (progress ≡ None → (r m : ℕ) → in_hand (x.event ∷ own) ≡ Some (Task r m) → k.task_effects r m ≡ None)
      → slice_index (set s.words i n) stop_word ≡ slice_index s.words stop_word
      → WordsShow ranks (set s.words i n) (x ∷ k.log)
      → ShowsOneRun ranks workers program may (stepped s i n id c (record v { parts = own_part x.lane (x.event ∷ own) ∷ []; seen = x ∷ k.log; told = []; owes = owes; progress = progress }) keeps)
  appends s k id v at x own owes progress item_owner drawn i n c alone may_x goes room agrees still more same pays hand' owes' progress' idle' unstopped words = record {
    log = x ∷ k.log;
    lane_owner = k.lane_owner;
    item_owner = item_owner;
    task_effects = k.task_effects;
    drawn = drawn;
    few = k.few;
    legal = (may_x, k.legal);
    follows = one_more_follows program may k.task_effects k.log x own lane.1 goes k.follows;
    short = short;
    words = words;
    stop = subst (λ (z : ℕ). StopWordShows z (set s.views id w)) (sym unstopped) (stops_set (slice_index s.words stop_word) s.views id v w at refl refl k.stop);
    views = set_view (ViewShows ranks workers (x ∷ k.log) k.lane_owner item_owner k.task_effects drawn) s.views id w others mine;
  }
    where
      here : OwnPart
      here = record { lane = x.lane; events = own }

      w : View
      w = record v { parts = own_part x.lane (x.event ∷ own) ∷ []; seen = x ∷ k.log; told = []; owes = owes; progress = progress }

      lane : (k.lane_owner x.lane ≡ id) × (part x.lane k.log ≡ own) × IsLane ranks workers x.lane
      lane = (k.views id v at).parts here (subst (λ (ps : List OwnPart). Contains ps here) (sym alone) (contains_first here []))

      looks : LooksShow runs v.ran_looks k.log × LooksShow submissions v.submitted_looks k.log
      looks = (k.views id v at).looks

      short : (l : LaneName) → length (part l (x ∷ k.log)) ≤ 2 ^ 48
      short l = ⊎_elim
          (λ t. let e = same_lane_true x.lane l t in
          subst (λ (m : LaneName). length (part m (x ∷ k.log)) ≤ 2 ^ 48) e
          (let a = ap length (part_own x.lane x k.log refl) in let b = ap length lane.1 in omega arith))
          (λ f. subst (λ (b : Bool). length (if b then x.event ∷ part l k.log else part l k.log) ≤ 2 ^ 48) (sym f) (k.short l))
          (cases_Bool (same_lane x.lane l))

      only : (q : OwnPart) (P : OwnPart → Type 0) → Contains w.parts q → P (record { lane = x.lane; events = x.event ∷ own }) → P q
      only q P h p = subst P (contains_one _ q h) p

      mine : ViewShows ranks workers (x ∷ k.log) k.lane_owner item_owner k.task_effects drawn id w
      mine = record {
        seen = begins_refl (x ∷ k.log);
        told = begins_empty (x ∷ k.log);
        parts = λ q h. only q (λ z. (k.lane_owner z.lane ≡ id) × (part z.lane (x ∷ k.log) ≡ z.events) × IsLane ranks workers z.lane) h (lane.0, part_own x.lane x k.log refl ∙ ap (λ es. x.event ∷ es) lane.1, lane.2);
        hand = λ q d h. only q (λ z. in_hand z.events ≡ Some d → (item_owner (Counted d) ≡ id) × (is_taken d (x ∷ k.log) ≡ true)) h (hand' d);
        owes = owes';
        looks = (look_lasts runs v.ran_looks x k.log looks.0, look_lasts submissions v.submitted_looks x k.log looks.1);
        progress = progress';
        idle = λ e q r m h. only q (λ z. in_hand z.events ≡ Some (Task r m) → k.task_effects r m ≡ None) h (idle' e r m);
      }

      others : (j : ℕ) (u : View) → j ≢ id → get_elem? s.views j ≡ some u → ViewShows ranks workers (x ∷ k.log) k.lane_owner item_owner k.task_effects drawn j u
      others j u apart there =
          let a = rewitness ranks workers id k.log k.lane_owner k.item_owner item_owner k.task_effects k.task_effects k.drawn k.drawn j u apart (λ q m os e. e) (λ q m _ e. e) (λ q m os e. omega arith) (λ q m os _ e. refl) agrees still (k.views j u there) in
          let b = extends ranks workers id k.log x k.lane_owner item_owner k.task_effects k.drawn j u apart lane.0 pays program may_x (subst (λ (es : List Event). Goes program k.task_effects k.log x es x.event) (sym lane.1) goes) a in
          rewitness ranks workers id (x ∷ k.log) k.lane_owner item_owner item_owner k.task_effects k.task_effects k.drawn drawn j u apart (λ q m os e. e) (λ q m _ e. e) (λ q m os e. more q m) (λ q m os a e. same q m a) (λ o w. refl) (λ d t. refl) b

  -- A seat's own view changes, and the witnesses with it, and nothing else
  pub replaces : (s : St) (k : ShowsOneRun ranks workers program may s) (id : ℕ) (v : View) → get_elem? s.views id ≡ some v → (w : View) → w.set_stop ≡ v.set_stop → w.saw_stop ≡ v.saw_stop → (item_owner : Pending → ℕ) (task_effects : TaskEffects) (drawn : DrawnCounts) (i n : ℕ) (c : List (ℕ × Unit {0}))
      → set s.words i n ≡ s.words
      → Follows program may task_effects k.log
      → ((j : ℕ) (u : View) → j ≢ id → ViewShows ranks workers k.log k.lane_owner k.item_owner k.task_effects k.drawn j u → ViewShows ranks workers k.log k.lane_owner item_owner task_effects drawn j u)
      → ViewShows ranks workers k.log k.lane_owner item_owner task_effects drawn id w
      → ShowsOneRun ranks workers program may (stepped s i n id c w keeps)
  replaces s k id v at w st fo item_owner task_effects drawn i n c same follows others fits = record {
    log = k.log;
    lane_owner = k.lane_owner;
    item_owner = item_owner;
    task_effects = task_effects;
    drawn = drawn;
    few = k.few;
    legal = k.legal;
    follows = follows;
    short = k.short;
    words = subst (λ (ws : List ℕ). WordsShow ranks ws k.log) (sym same) k.words;
    stop = subst (λ (ws : List ℕ). StopWordShows (slice_index ws stop_word) (set s.views id w)) (sym same) (stops_set (slice_index s.words stop_word) s.views id v w at st fo k.stop);
    views = set_view (ViewShows ranks workers k.log k.lane_owner item_owner task_effects drawn) s.views id w (λ j u a e. others j u a (k.views j u e)) fits;
  }
