-- The events of a task in hand.
use Rattle.std.proofs.Common.{◌≡◌, ℕ, suc, ◌+◌, ◌^◌, ◌<◌, ◌≤◌, Bool, true, false, List, [], ◌∷◌, length, take, refl, sym, ap, ◌∙◌, subst, inl, arith}
use Rattle.std.specs.Prelude.{Option, Some, None, slice_index, slice_get, if◌then◌else◌, ◌==◌, ◌&&◌}
use Rattle.std.proofs.lemmas.Bool.{both_ways, false_from_ne_true}
use Rattle.atomic_table.specs.Table.{keeps, Allows}
use Rattle.app_core.specs.declared.label.Label.{Label}
use Rattle.app_core.specs.declared.outline.Outline.{Outline}
use Rattle.event_lists.specs.declared.lane.LaneName.{LaneName}
use Rattle.event_lists.specs.declared.event.Event.{Event}
use Rattle.event_lists.specs.declared.event.Event.TheVariants.{Sent, Submitted, Gave}
use Rattle.event_lists.specs.declared.event.Parcel.{Parcel}
use Rattle.event_lists.specs.declared.event.TaskName.{TaskName}
use Rattle.event_lists.specs.declared.mark.Item.{Item}
use Rattle.event_lists.specs.declared.mark.Item.TheVariants.{Message, Task}
use Rattle.world_rule.specs.declared.view.Pending.{Pending}
use Rattle.world_rule.specs.declared.view.Pending.TheVariants.{Counted, Drawn}
use Rattle.event_lists.specs.declared.mark.EffectName.{EffectName}
use Rattle.event_lists.specs.declared.mark.Mark.{Mark}
use Rattle.event_lists.specs.Events.{takes, is_taken, in_hand}
use Rattle.event_lists.specs.Legal.{Legal, May}
use Rattle.event_lists.proofs.LaneLemmas.{part_own}
use Rattle.event_lists.proofs.ItemLemmas.{taken_more}
use Rattle.event_laws.specs.Follows.{TaskEffects, Doing, Goes, Acts, CarriesOut, owns, since, is_own, event_of, is_effect, effect_name}
use Rattle.world_rule.specs.declared.view.Owed.{Owed}
use Rattle.world_rule.specs.declared.view.OwnPart.{OwnPart}
use Rattle.world_rule.specs.declared.view.Progress.{Progress}
use Rattle.world_rule.specs.declared.view.View.{View}
use Rattle.world_rule.proofs.PendingLemmas.{appended_view, same_effect_true, gone_begins, left_more, settled_drawn, owner_with, stays_borne, bears}
use Rattle.world_rule.proofs.ViewLemmas.{ahead, appends}
use Rattle.world_rule.proofs.CounterWordLemmas.{count_fits}
use Rattle.world_rule.proofs.LookLemmas.{owns_next, one_place, that_place}
use Rattle.world_rule.proofs.AppendLemmas.{Sees, Right, may_come, only_here, says, owing_new, left_new, unclaimed, made_in_hand, undone}
use Rattle.world_rule.proofs.ContainsLemmas.{contains_first}
use Rattle.std.specs.Prelude.{Contains}
use Rattle.world_rule.specs.Owing.{settles, is_settled, made_by}
use Rattle.world_rule.specs.Views.{mark, numbered, own_part, own_events, progress, further, progress_after}
use Rattle.world_rule.specs.Shows.{DrawnCounts, ProgressShows, ShowsOneRun, drawn_more}
use Rattle.world_rule.specs.Steps.{IsUnderWay, M, Appends, effect_of, acts, KnowsStored, IsNextEffect}
use Rattle.event_laws.proofs.GrowingRunLemmas.{one_more_follows}

for_act : (P : Event → Type 0) (e : Event) → acts e ≡ true → ((k to : ℕ) (p : Parcel) → P (Sent k to p)) → ((k : ℕ) (t : TaskName) → P (Submitted k t)) → ((f : Label) → P (Gave f)) → P e
for_act P (Sent k to p) a s t g = s k to p
for_act P (Submitted k w) a s t g = t k w
for_act P (Gave f) a s t g = g f
for_act P e a s t g = absurd (cc)

acts_numbered : (n : ℕ) (e : Event) → acts e ≡ true → acts (numbered n e) ≡ true
acts_numbered n (Sent k to p) a = refl
acts_numbered n (Submitted k w) a = refl
acts_numbered n (Gave f) a = refl
acts_numbered n e a = absurd (cc)

up : (z : Bool) (m : ℕ) → m ≤ (if z then suc m else m)
up true m = omega arith
up false m = omega arith

module _ (ranks workers : ℕ) (program : List Doing) (may : Label → List Outline → Type 0) (slots id : ℕ) (me : M) (l : LaneName) (mine : List Event) (alone : me.0.parts ≡ own_part l mine ∷ []) (room : length mine < 2 ^ 48) where
  abbrev here : OwnPart
  here = own_part l mine

  has : Contains me.0.parts here
  has = subst (λ (ps : List OwnPart). Contains ps here) (sym alone) (contains_first here [])

  -- the next effect of the task in hand, which the hand does itself
  pub carries : (b : Progress) (o : Outline) (i : ℕ) (f : ℕ → ℕ) (e : Event) → me.0.progress ≡ Some b → slice_get b.outlines b.at ≡ Some o → is_own o ≡ true → acts e ≡ true
      → ((n : ℕ) → numbered n e ≡ event_of l.rank o n)
      → KnowsStored b b.at me.0.seen
      → Right ranks workers program may slots id me l mine alone room i f e
      → Allows (ShowsOneRun ranks workers program may) slots id me i f (Appends ranks workers program may l e (Some (effect_name b.rank b.number b.at)) me)
  carries b o i f e progress here_is own act says known right s k homes at fits =
      let fit = k.views id me.0 at in
      let lane = fit.parts here has in
      let n = slice_index s.words i in
      let ev = numbered n e in
      let r = b.rank in
      let c : Pending = Drawn (effect_name r b.number b.at) in
      let x = mark l ev (Some (effect_name r b.number b.at)) in
      let act_ev : acts ev ≡ true = acts_numbered n e act in
      let is = fit.progress b progress in
      let same_lane_is : here ≡ is.lane = only_here ranks workers program may slots id me l mine alone room is.lane is.has in
      let hand : in_hand mine ≡ Some (Task r b.number) = ap (λ (q : OwnPart). in_hand q.events) same_lane_is ∙ is.hand in
      let turn : owns (take b.at b.outlines) ≡ since mine = is.turn ∙ ap (λ (q : OwnPart). since q.events) (sym same_lane_is) in
      let rank : r ≡ l.rank = is.rank ∙ ap (λ (q : OwnPart). q.lane.rank) (sym same_lane_is) in
      let mine_is = fit.hand here (Task r b.number) has hand in
      let sees : Sees ranks workers program may k.task_effects k.drawn k.log me.0 l mine = record { legal = k.legal; follows = k.follows; seen = fit.seen; told = fit.told; own = lane.1; named = lane.2; owes = λ o h. let g = fit.owes o h in (g.1, g.2) } in
      let got = right s.words k.log k.task_effects k.drawn k.words (λ j. count_fits ranks workers k.log j l.rank k.few.0 k.few.1 k.legal k.short) sees in
      let may_x : May ranks workers k.log x = may_come ranks workers program may slots id me l mine alone room k.log ev (Some (effect_name r b.number b.at)) lane.1 lane.2 got.0 in
      let legal : Legal ranks workers (x ∷ k.log) = (may_x, k.legal) in
      let owes = made_by l ev in
      let item_owner : Pending → ℕ = owner_with owes id k.item_owner in
      let drawn : DrawnCounts = drawn_more r b.number k.drawn in
      let next_is : since (ev ∷ mine) ≡ suc (since mine) = for_act (λ e. since (e ∷ mine) ≡ suc (since mine)) ev act_ev (λ _ _ _. refl) (λ _ _. refl) (λ _. refl) in
      let hands : in_hand (ev ∷ mine) ≡ in_hand mine = for_act (λ e. in_hand (e ∷ mine) ≡ in_hand mine) ev act_ev (λ _ _ _. refl) (λ _ _. refl) (λ _. refl) in
      let none : takes ev ≡ None = for_act (λ e. takes e ≡ None) ev act_ev (λ _ _ _. refl) (λ _ _. refl) (λ _. refl) in
      let goes_on : progress_after ev (Some b) ≡ Some (further b) = for_act (λ e. progress_after e (Some b) ≡ Some (further b)) ev act_ev (λ _ _ _. refl) (λ _ _. refl) (λ _. refl) in
      let out : CarriesOut k.task_effects k.log x r b.number b.at = record {
        os = b.outlines;
        o = o;
        plan = is.plan;
        here = here_is;
        says = (n, says n);
        rank = rank;
        effect = refl;
        taken = mine_is.1;
        once = is.left b.at (omega arith);
        before = λ j p _ lt e' w. gone_begins me.0.seen k.log fit.seen (Drawn (effect_name r b.number j)) (known j p lt e' w);
        turn = λ _. turn ∙ ap since (sym lane.1);
      } in
      let acting : Acts program k.task_effects k.log x mine (in_hand mine) = subst (Acts program k.task_effects k.log x mine) (sym hand) (b.at, out) in
      let goes : Goes program k.task_effects k.log x mine ev = for_act (Goes program k.task_effects k.log x mine) ev act_ev (λ _ _ _. acting) (λ _ _. acting) (λ _. acting) in
      let same : (d : Pending) → is_settled d k.log ≡ true → item_owner d ≡ k.item_owner d = λ d t. stays_borne owes d (λ z e' same. both_ways (is_settled z.pending k.log) (left_new ranks workers k.log x legal z e') (ap (λ c. is_settled c k.log) same ∙ t)) id k.item_owner in
      let task : item_owner (Counted (Task r b.number)) ≡ id = same (Counted (Task r b.number)) mine_is.1 ∙ mine_is.0 in
      let claim : (d : Pending) → settles d x ≡ true → d ≡ c = λ d t. settled_drawn d x (effect_name r b.number b.at) none refl t in
      let ps : List OwnPart = own_part l (ev ∷ mine) ∷ [] in
      let w : View = record me.0 { parts = ps; seen = x ∷ k.log; told = []; owes = owes; progress = Some (further b) } in (
        w,
        keeps,
        tt,
        appends ranks workers program may s k id me.0 at x mine owes (Some (further b)) item_owner drawn i (f n) me.1 alone may_x goes room
            (λ q w. stays_borne owes q.pending (λ z e' same. owing_new ranks workers k.log x legal z q k.task_effects k.drawn e' w same) id k.item_owner)
            same
            (λ q m. up ((q == r) && (m == b.number)) (k.drawn q m))
            (λ q m away. one_place r b.number q m (suc (k.drawn q m)) (k.drawn q m) (λ a d. away ((λ z. item_owner (Counted (Task (sym a z) (sym d z)))) ∙ task)))
            (λ d t. ahead (effect_name r b.number b.at) (claim d t) task (let z = is.drawn_is in omega arith))
            (λ d e'. let z : Some (Task r b.number) ≡ Some d = sym hand ∙ sym hands ∙ e' in let y : Task r b.number ≡ d = cc in subst (λ (q : Item). (item_owner (Counted q) ≡ id) × (is_taken q (x ∷ k.log) ≡ true)) y (task, taken_more (Task r b.number) x k.log mine_is.1))
            (λ q e'. (bears owes q e' id k.item_owner, inl (l, ev, e', inl (refl, refl)), left_more q.pending x k.log (unclaimed x q e') (left_new ranks workers k.log x legal q e'), made_in_hand x q (x ∷ k.log) e'))
            (λ d e'. let y : further b ≡ d = cc in subst (ProgressShows k.task_effects drawn (x ∷ k.log) ps) y (record {
              lane = own_part l (ev ∷ mine);
              has = contains_first (own_part l (ev ∷ mine)) [];
              hand = hands ∙ hand;
              rank = rank;
              plan = is.plan;
              drawn_is = that_place r b.number (suc (k.drawn r b.number)) (k.drawn r b.number) ∙ ap suc is.drawn_is;
              turn = (let a = owns_next b.outlines b.at o here_is in let z = ap (λ (z : Bool). (if z then 1 else 0) + owns (take b.at b.outlines)) own in omega arith);
              left = λ j le. left_more (Drawn (effect_name r b.number j)) x k.log (later j b.at le) (is.left j (omega arith));
            }))
            (λ e' q m h. absurd (cc))
            got.1
            (got.2 (Some (effect_name r b.number b.at))),
        (
          record {
            before = k.log;
            now = refl;
            seen = fit.seen;
            told = fit.told;
            own = part_own x.lane x k.log refl ∙ ap (λ es. ev ∷ es) (lane.1 ∙ sym (ap own_events alone));
            changes = appended_view me.0 l ev mine _ _ (ap own_events alone) (ap (progress_after ev) progress ∙ goes_on);
            run = record { task_effects = k.task_effects; run = record { legal = legal; follows = one_more_follows program may k.task_effects k.log x mine lane.1 goes k.follows }; begun = λ d e'. let y : further b ≡ d = cc in subst (λ (z : Progress). (p : OwnPart) × Contains ps p × IsUnderWay k.task_effects p.events z) y (own_part l (ev ∷ mine), contains_first (own_part l (ev ∷ mine)) [], record { hand = hands ∙ hand; plan = is.plan; turn = (let a = owns_next b.outlines b.at o here_is in let z = ap (λ (z : Bool). (if z then 1 else 0) + owns (take b.at b.outlines)) own in omega arith) }) };
          },
          refl,
        ),
      )
    where
      later : (j at : ℕ) → suc at ≤ j → is_effect b.rank b.number j (Some (effect_name b.rank b.number at)) ≡ false
      later j at le = false_from_ne_true (is_effect b.rank b.number j (Some (effect_name b.rank b.number at))) (λ t. let z = same_effect_true (effect_name b.rank b.number j) (effect_name b.rank b.number at) t in let y : j ≡ at = ap (λ (g : EffectName). g.index) z in omega arith)

  -- a sent, submitted or gave, with whatever is in hand
  pub does : (i : ℕ) (f : ℕ → ℕ) (e : Event) → acts e ≡ true → IsNextEffect program me.0.progress me.0.seen l mine e (in_hand mine)
      → Right ranks workers program may slots id me l mine alone room i f e
      → Allows (ShowsOneRun ranks workers program may) slots id me i f (Appends ranks workers program may l e (effect_of me.0.progress) me)
  does i f e act turn right = by_hand (in_hand mine) refl turn
    where
      none_taken : (c : Item) (n : ℕ) → takes (numbered n e) ≡ Some c → (o : Owed) × (me.0.owes ≡ Some o) × (o.pending ≡ Counted c)
      none_taken c n t = absurd (let z : takes (numbered n e) ≡ None = for_act (λ e. takes e ≡ None) (numbered n e) (acts_numbered n e act) (λ _ _ _. refl) (λ _ _. refl) (λ _. refl) in let y : None ≡ Some c = sym z ∙ t in cc)

      goes_by : (n : ℕ) (task_effects : TaskEffects) (log : List Mark) → Acts program task_effects log (mark l (numbered n e) None) mine (in_hand mine) → Goes program task_effects log (mark l (numbered n e) None) mine (numbered n e)
      goes_by n task_effects log a = for_act (Goes program task_effects log (mark l (numbered n e) None) mine) (numbered n e) (acts_numbered n e act) (λ _ _ _. a) (λ _ _. a) (λ _. a)

      plainly : ((r n : ℕ) → in_hand mine ≡ Some (Task r n) → ⊥) → ((n : ℕ) (task_effects : TaskEffects) (log : List Mark) → Acts program task_effects log (mark l (numbered n e) None) mine (in_hand mine)) → Allows (ShowsOneRun ranks workers program may) slots id me i f (Appends ranks workers program may l e (effect_of me.0.progress) me)
      plainly calm a s k homes at fits =
          let fit = k.views id me.0 at in
          let none : me.0.progress ≡ None = undone me.0.progress (λ b e'. let is = fit.progress b e' in calm b.rank b.number (ap (λ (q : OwnPart). in_hand q.events) (only_here ranks workers program may slots id me l mine alone room is.lane is.has) ∙ is.hand)) in
          subst (λ (g : Option EffectName). Allows (ShowsOneRun ranks workers program may) slots id me i f (Appends ranks workers program may l e g me)) (sym (ap effect_of none))
          (says ranks workers program may slots id me l mine alone room i f e calm none_taken (λ n task_effects log. goes_by n task_effects log (a n task_effects log)) right)
          s k homes at fits

      by_hand : (h : Option Item) → in_hand mine ≡ h → IsNextEffect program me.0.progress me.0.seen l mine e h → Allows (ShowsOneRun ranks workers program may) slots id me i f (Appends ranks workers program may l e (effect_of me.0.progress) me)
      by_hand None j t = plainly
          (λ r n h. absurd (let z : None ≡ Some (Task r n) = sym j ∙ h in cc))
          (λ n task_effects log. subst (Acts program task_effects log (mark l (numbered n e) None) mine) (sym j) (t.0, t.1, (n, t.2 n), refl))
      by_hand (Some (Message q m)) j t = plainly
          (λ r n h. absurd (let z : Some (Message q m) ≡ Some (Task r n) = sym j ∙ h in cc))
          (λ n task_effects log. subst (Acts program task_effects log (mark l (numbered n e) None) mine) (sym j) refl)
      by_hand (Some (Task q m)) j t =
          subst (λ (g : Option EffectName). Allows (ShowsOneRun ranks workers program may) slots id me i f (Appends ranks workers program may l e g me)) (sym (ap effect_of t.2))
          (carries t.0 t.1 i f e t.2 t.3 t.4 act t.5 t.6 right)
