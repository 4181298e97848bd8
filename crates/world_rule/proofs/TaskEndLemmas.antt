-- Lemmas that crates above use: a task ends, and a drawn put or erase is carried out.
use Rattle.std.proofs.Common.{◌≡◌, ◌≢◌, ℕ, zero, suc, ◌+◌, ◌^◌, ◌%◌, ◌<◌, Bool, true, false, List, [], ◌∷◌, length, take, refl, sym, ap, ◌∙◌, subst, inl, inr, arith}
use Rattle.std.specs.Prelude.{Some, None, slice_index, slice_get, if◌then◌else◌}
use Rattle.std.proofs.lemmas.Bool.{both_ways}
use Rattle.atomic_table.specs.Table.{keeps, Allows}
use Rattle.app_core.specs.declared.label.Label.{Label}
use Rattle.app_core.specs.declared.label.CellName.{CellName}
use Rattle.app_core.specs.declared.outline.Outline.{Outline}
use Rattle.event_lists.specs.declared.lane.LaneName.{LaneName}
use Rattle.event_lists.specs.declared.event.Event.{Event}
use Rattle.event_lists.specs.declared.event.Event.TheVariants.{Ran, Put, Erased}
use Rattle.event_lists.specs.declared.mark.Item.TheVariants.{Task}
use Rattle.world_rule.specs.declared.view.Pending.{Pending}
use Rattle.world_rule.specs.declared.view.Pending.TheVariants.{Drawn}
use Rattle.event_lists.specs.declared.mark.EffectName.{EffectName}
use Rattle.event_lists.specs.declared.mark.Mark.{Mark}
use Rattle.event_lists.specs.declared.kind.Kind.{Kind}
use Rattle.event_lists.specs.declared.kind.Kind.TheVariants.{Sends as sends, Handlings as handlings, Submissions as submissions, Runs as runs}
use Rattle.event_lists.specs.Events.{part, is_kind, takes, in_hand}
use Rattle.event_lists.specs.Counting.{Counting}
use Rattle.event_lists.specs.Dues.{Dues}
use Rattle.event_lists.specs.Fences.{Fences}
use Rattle.event_lists.specs.Bins.{Bins, is_put}
use Rattle.event_lists.specs.Legal.{Legal, May}
use Rattle.event_lists.proofs.OwnLemmas.{dues_last}
use Rattle.event_lists.proofs.LaneLemmas.{part_own}
use Rattle.event_laws.specs.Follows.{TaskEffects, Doing, Follows, Goes, Stores, CarriesOut, Finished, owns, since, is_own, event_of, bin_of, carried_out, effect_name}
use Rattle.world_rule.specs.declared.view.Load.TheVariants.{OfEffect}
use Rattle.world_rule.specs.declared.view.Owed.{Owed}
use Rattle.world_rule.specs.declared.view.OwnPart.{OwnPart}
use Rattle.world_rule.specs.declared.view.Progress.{Progress}
use Rattle.world_rule.specs.declared.view.View.{View}
use Rattle.world_rule.proofs.PendingLemmas.{appended_view, gone_begins, settled_drawn, claimed_plain, made_effect}
use Rattle.world_rule.proofs.ViewLemmas.{its, appends, owing_apart}
use Rattle.world_rule.proofs.CounterWordLemmas.{count_fits, words_same, words_add, stop_same, stop_add}
use Rattle.world_rule.proofs.AppendLemmas.{Conditions, may_come, only_here, undone}
use Rattle.world_rule.proofs.ContainsLemmas.{contains_first}
use Rattle.std.specs.Prelude.{Contains}
use Rattle.world_rule.specs.Owing.{owed, made_by}
use Rattle.world_rule.specs.Views.{mark, numbered, own_part, own_events, progress, progress_after, stored_event, stored_outline}
use Rattle.world_rule.specs.CounterWords.{place, word_at}
use Rattle.world_rule.specs.Shows.{DrawnCounts, IsMadeOrDrawn, ShowsOneRun}
use Rattle.world_rule.specs.Steps.{Appended, M, Appends, KnowsStored}
use Rattle.event_laws.proofs.GrowingRunLemmas.{one_more_follows}

only_runs : (n r t : ℕ) (j : Kind) → place j ≢ place runs → is_kind j (Ran n r t) ≡ false
only_runs n r t sends a = refl
only_runs n r t handlings a = refl
only_runs n r t submissions a = refl
only_runs n r t runs a = absurd (a refl)

whole_list : (os : List Outline) → take (length os) os ≡ os
whole_list [] = refl
whole_list (o ∷ os) = ap (λ ps. o ∷ ps) (whole_list os)

for_store : (P : Event → Type 0) (b : Bool) (m : CellName) → P (Put m) → P (Erased m) → P (stored_event b m)
for_store P true m p q = p
for_store P false m p q = q

store_numbered : (b : Bool) (n : ℕ) (m : CellName) → numbered n (stored_event b m) ≡ stored_event b m
store_numbered true n m = refl
store_numbered false n m = refl

store_bins : (b : Bool) (l : LaneName) (mine : List Event) (m : CellName) → l.bin ≡ true → is_put m mine ≡ (if b then false else true) → Bins l mine (stored_event b m)
store_bins true l mine m is was = (is, was)
store_bins false l mine m is was = (is, was)

store_says : (b : Bool) (r : ℕ) (m : CellName) → stored_event b m ≡ event_of r (stored_outline b m) 0
store_says true r m = refl
store_says false r m = refl

pub store_own : (b : Bool) (m : CellName) → is_own (stored_outline b m) ≡ false
store_own true m = refl
store_own false m = refl

store_goes : (b : Bool) (program : List Doing) (task_effects : TaskEffects) (log : List Mark) (x : Mark) (mine : List Event) (m : CellName) → Stores task_effects log x m → Goes program task_effects log x mine (stored_event b m)
store_goes true program task_effects log x mine m h = h
store_goes false program task_effects log x mine m h = h

no_kind : (b : Bool) (m : CellName) (k : Kind) → is_kind k (stored_event b m) ≡ false
no_kind true m sends = refl
no_kind true m handlings = refl
no_kind true m submissions = refl
no_kind true m runs = refl
no_kind false m sends = refl
no_kind false m handlings = refl
no_kind false m submissions = refl
no_kind false m runs = refl

module _ (ranks workers : ℕ) (program : List Doing) (may : Label → List Outline → Type 0) (slots id : ℕ) (me : M) (l : LaneName) (mine : List Event) (alone : me.0.parts ≡ own_part l mine ∷ []) (room : length mine < 2 ^ 48) (whole : part l me.0.seen ≡ mine) where
  abbrev here : OwnPart
  here = own_part l mine

  has : Contains me.0.parts here
  has = subst (λ (ps : List OwnPart). Contains ps here) (sym alone) (contains_first here [])

  -- the task in hand ends, all of whose effects were carried out, and known so
  pub runs_one : (k : ℕ) (b : Progress) → l.bin ≡ false → me.0.progress ≡ Some b → b.at ≡ length b.outlines → KnowsStored b (length b.outlines) me.0.seen → Dues me.0.seen l mine (Ran k b.rank b.number)
      → Allows (ShowsOneRun ranks workers program may) slots id me (word_at runs l.rank) (λ n. (n + 1) % 2 ^ 64) (Appends ranks workers program may l (Ran k b.rank b.number) None me)
  runs_one k' b hand_lane progress end known dues s k homes at fits =
      let fit = k.views id me.0 at in
      let lane = fit.parts here has in
      let n = slice_index s.words (word_at runs l.rank) in
      let ev = Ran n b.rank b.number in
      let x = mark l ev None in
      let is = fit.progress b progress in
      let same_lane_is : here ≡ is.lane = only_here ranks workers program may slots id me l mine alone room is.lane is.has in
      let hand : in_hand mine ≡ Some (Task b.rank b.number) = ap (λ (q : OwnPart). in_hand q.events) same_lane_is ∙ is.hand in
      let turn : owns b.outlines ≡ since mine = ap owns (sym (whole_list b.outlines)) ∙ ap (λ z. owns (take z b.outlines)) (sym end) ∙ is.turn ∙ ap (λ (q : OwnPart). since q.events) (sym same_lane_is) in
      let conds : Conditions ranks k.log l mine ev = record {
        counting = (k.words.each runs l.rank lane.2.0, hand);
        dues = dues_last ranks workers me.0.seen k.log k.legal l mine (record { begins = fit.seen; own = whole; whole = lane.1 }) ev hand dues;
        fences = tt;
        bins = hand_lane;
      } in
      let may_x : May ranks workers k.log x = may_come ranks workers program may slots id me l mine alone room k.log ev None lane.1 lane.2 conds in
      let done : Finished k.task_effects k.log mine b.rank b.number = record { os = b.outlines; plan = is.plan; turn = turn; before = λ j p e o. gone_begins me.0.seen k.log fit.seen (Drawn (effect_name b.rank b.number j)) (known j p (within b.outlines j p e) e o) } in
      let w : View = record me.0 { parts = own_part l (ev ∷ mine) ∷ []; seen = x ∷ k.log; told = []; owes = None; progress = None } in (
        w,
        keeps,
        tt,
        appends ranks workers program may s k id me.0 at x mine None None k.item_owner k.drawn (word_at runs l.rank) ((n + 1) % 2 ^ 64) me.1 alone may_x (done, refl) room
            (λ q w. refl)
            (λ d t. refl)
            (λ q j. omega arith)
            (λ q j away. refl)
            (λ d t. absurd (let w = claimed_plain d x refl t in let z : None ≡ Some w.0 = w.2 in cc))
            (λ d e. absurd (cc))
            (λ q e. absurd (cc))
            (λ c e. absurd (cc))
            (λ e q j h. absurd (cc))
            (stop_add ranks s.words runs l.rank ((n + 1) % 2 ^ 64) lane.2.0)
            (words_add ranks s.words k.log x runs k.words lane.2.0 refl (only_runs n b.rank b.number) (count_fits ranks workers k.log runs l.rank k.few.0 k.few.1 k.legal k.short)),
        (
          record {
            before = k.log;
            now = refl;
            seen = fit.seen;
            told = fit.told;
            own = part_own x.lane x k.log refl ∙ ap (λ es. ev ∷ es) (lane.1 ∙ sym (ap own_events alone));
            changes = appended_view me.0 l ev mine _ _ (ap own_events alone) refl;
            run = record { task_effects = k.task_effects; run = record { legal = (may_x, k.legal); follows = one_more_follows program may k.task_effects k.log x mine lane.1 (done, refl) k.follows }; begun = λ c e. absurd (cc) };
          },
          refl,
        ),
      )
    where
      within : (os : List Outline) (j : ℕ) (p : Outline) → slice_get os j ≡ Some p → j < length os
      within [] j p e = absurd (cc)
      within (o ∷ os) zero p e = omega arith
      within (o ∷ os) (suc j) p e = omega (arith, within os j p e)

  -- a drawn put or erase comes to its bin's lane, where the laws over lists say what the lane's last event of the name is
  pub stores_one : (put : Bool) (g : EffectName) (m : CellName) → me.0.owes ≡ Some (owed (Drawn g) l.rank (OfEffect (stored_outline put m))) → in_hand mine ≡ None → l ≡ bin_of l.rank m
      → ((task_effects : TaskEffects) (log : List Mark) (os : List Outline) → Legal ranks workers log → Follows program may task_effects log → task_effects g.rank g.number ≡ Some os → slice_get os g.index ≡ Some (stored_outline put m) → carried_out g.rank g.number g.index log ≡ false → g.rank ≡ l.rank → is_put m (part l log) ≡ (if put then false else true))
      → Allows (ShowsOneRun ranks workers program may) slots id me 0 (λ k. k) (Appends ranks workers program may l (stored_event put m) (Some g) me)
  stores_one put g m owes idle bin law s k homes at fits =
      let fit = k.views id me.0 at in
      let lane = fit.parts here has in
      let number = slice_index s.words 0 in
      let c : Pending = Drawn g in
      let w' = stored_outline put m in
      let it : Owed = owed c l.rank (OfEffect w') in
      let ev = stored_event put m in
      let x = mark l ev (Some g) in
      let own = fit.owes it owes in
      let drawn = drawn_of k.task_effects k.drawn it k.log own.1 in
      let put_is : slice_get drawn.1.0 g.index ≡ Some w' = drawn.1.2 ∙ ap Some (let y : OfEffect w' ≡ OfEffect drawn.0.0 = drawn.0.1 in let z : w' ≡ drawn.0.0 = cc in sym z) in
      let once : carried_out g.rank g.number g.index k.log ≡ false = own.2 in
      let was : is_put m (part l k.log) ≡ (if put then false else true) = law k.task_effects k.log drawn.1.0 k.legal k.follows drawn.1.1 put_is once (sym drawn.1.5) in
      let conds : Conditions ranks k.log l mine ev = record {
        counting = for_store (Counting ranks k.log l mine) put m tt tt;
        dues = for_store (Dues k.log l mine) put m tt tt;
        fences = for_store (Fences ranks k.log l mine) put m tt tt;
        bins = store_bins put l mine m (ap (λ (q : LaneName). q.bin) bin) (ap (is_put m) (sym lane.1) ∙ was);
      } in
      let may_x : May ranks workers k.log x = may_come ranks workers program may slots id me l mine alone room k.log ev (Some g) lane.1 lane.2 conds in
      let planned_is = k.follows.planned g.rank g.number drawn.1.0 drawn.1.1 in
      let out : CarriesOut k.task_effects k.log x g.rank g.number g.index = record {
        os = drawn.1.0;
        o = w';
        plan = drawn.1.1;
        here = put_is;
        says = (0, store_says put l.rank m);
        rank = sym drawn.1.5;
        effect = refl;
        taken = planned_is.taken;
        once = once;
        before = λ j p e. absurd (both_ways (is_own w') (store_own put m) e);
        turn = λ e. absurd (both_ways (is_own w') (store_own put m) e);
      } in
      let none : takes ev ≡ None = for_store (λ e. takes e ≡ None) put m refl refl in
      let hands : in_hand (ev ∷ mine) ≡ in_hand mine = for_store (λ e. in_hand (e ∷ mine) ≡ in_hand mine) put m refl refl in
      let made : made_by l ev ≡ None = for_store (λ e. made_by l e ≡ None) put m refl refl in
      let calm : me.0.progress ≡ None = undone me.0.progress (λ b e. let is = fit.progress b e in let z : None ≡ Some (Task b.rank b.number) = sym idle ∙ ap (λ (q : OwnPart). in_hand q.events) (only_here ranks workers program may slots id me l mine alone room is.lane is.has) ∙ is.hand in cc) in
      let after : progress_after ev None ≡ None = for_store (λ e. progress_after e None ≡ None) put m refl refl in
      let w : View = record me.0 { parts = own_part l (ev ∷ mine) ∷ []; seen = x ∷ k.log; told = []; owes = made_by l ev; progress = None } in
      let said : Appended ranks workers program may x me.0 w = record {
        before = k.log;
        now = refl;
        seen = fit.seen;
        told = fit.told;
        own = part_own x.lane x k.log refl ∙ ap (λ es. ev ∷ es) (lane.1 ∙ sym (ap own_events alone));
        changes = appended_view me.0 l ev mine _ _ (ap own_events alone) (ap (progress_after ev) calm ∙ after);
        run = record { task_effects = k.task_effects; run = record { legal = (may_x, k.legal); follows = one_more_follows program may k.task_effects k.log x mine lane.1 (store_goes put program k.task_effects k.log x mine m (g.rank, g.number, g.index, out, bin)) k.follows }; begun = λ c e. absurd (cc) };
      } in (
        w,
        keeps,
        tt,
        appends ranks workers program may s k id me.0 at x mine (made_by l ev) None k.item_owner k.drawn 0 number me.1 alone may_x (store_goes put program k.task_effects k.log x mine m (g.rank, g.number, g.index, out, bin)) room
            (λ q w. refl)
            (λ d t. refl)
            (λ q j. omega arith)
            (λ q j away. refl)
            (λ d t. let is : d ≡ c = settled_drawn d x g none refl t in
            its (ap k.item_owner is ∙ own.0) (λ f h. owing_apart k.task_effects k.drawn it k.log f own.1 (sym is ∙ h)))
            (λ d e. absurd (let z : None ≡ Some d = sym idle ∙ sym hands ∙ e in cc))
            (λ q e. absurd (let z : None ≡ Some q = sym made ∙ e in cc))
            (λ b e. absurd (cc))
            (λ e q j h. absurd (let z : None ≡ Some (Task q j) = sym idle ∙ sym hands ∙ h in cc))
            (stop_same ranks 0 s.words)
            (words_same ranks 0 s.words k.log x k.words (no_kind put m)),
        (subst (λ (e : Event). Appended ranks workers program may (mark l e (Some g)) me.0 w) (sym (store_numbered put number m)) said, refl),
      )
    where
      drawn_of : (p : TaskEffects) (d : DrawnCounts) (o : Owed) (log : List Mark) → IsMadeOrDrawn p d (owed (Drawn g) o.to o.load) log → (w : (w : Outline) × (o.load ≡ OfEffect w)) × ((os : List Outline) × (p g.rank g.number ≡ Some os) × (slice_get os g.index ≡ Some w.0) × (is_own w.0 ≡ false) × (g.index < d g.rank g.number) × (o.to ≡ g.rank))
      drawn_of p d o log (inl z) = made_effect z.0 z.1 (owed (Drawn g) o.to o.load) g z.2 refl
      drawn_of p d o log (inr z) = ((z.0, z.1), z.2)

  -- the same, by the task's numbers
  pub ran_named : (k : ℕ) (b : Progress) (r t : ℕ) → b.rank ≡ r → b.number ≡ t → l.bin ≡ false → me.0.progress ≡ Some b → b.at ≡ length b.outlines → KnowsStored b (length b.outlines) me.0.seen → Dues me.0.seen l mine (Ran k r t)
      → Allows (ShowsOneRun ranks workers program may) slots id me (word_at runs l.rank) (λ n. (n + 1) % 2 ^ 64) (Appends ranks workers program may l (Ran k r t) None me)
  ran_named k b r t p q hand_lane progress end known dues =
      let e : Ran k b.rank b.number ≡ Ran k r t = λ i. Ran k (p i) (q i) in
      subst (λ (e : Event). Allows (ShowsOneRun ranks workers program may) slots id me (word_at runs l.rank) (λ n. (n + 1) % 2 ^ 64) (Appends ranks workers program may l e None me)) e
      (runs_one k b hand_lane progress end known (subst (Dues me.0.seen l mine) (sym e) dues))
