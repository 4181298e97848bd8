-- Lemmas that crates above use: seats are split and joined.
use Rattle.std.proofs.Common.{arith, ◌≡◌, ◌≢◌, ℕ, false, List, [], ◌∷◌, ◌++◌, length, set, refl, sym, ap, ◌∙◌, subst, ⊎_elim, length-set}
use Rattle.std.specs.Prelude.{Option, Some, None, slice_index, if◌then◌else◌, ◌==◌}
use Rattle.std.proofs.lemmas.Bool.{eq-eqb, ne_eqb, both_ways}
use mathlib.Core.Option.{some}
use lib.ListN.{get_elem?}
use Rattle.atomic_table.specs.Table.{Splits, Joins}
use Rattle.atomic_table.proofs.Lists.{at_set}
use Rattle.app_core.specs.declared.label.Label.{Label}
use Rattle.app_core.specs.declared.outline.Outline.{Outline}
use Rattle.event_lists.specs.declared.lane.LaneName.{LaneName}
use Rattle.world_rule.specs.declared.view.Pending.{Pending}
use Rattle.world_rule.specs.declared.view.Pending.TheVariants.{Counted}
use Rattle.event_lists.proofs.ListLemmas.{begins_empty}
use Rattle.event_laws.specs.Follows.{Doing}
use Rattle.world_rule.specs.declared.view.Owed.{Owed}
use Rattle.world_rule.specs.declared.view.OwnPart.{OwnPart}
use Rattle.world_rule.specs.declared.view.Progress.{Progress}
use Rattle.world_rule.specs.declared.view.View.{View}
use Rattle.world_rule.proofs.PendingLemmas.{owner_with, borne, not_borne}
use Rattle.world_rule.proofs.StopWordLemmas.{stops_set, stops_add, stops_join}
use Rattle.world_rule.proofs.ViewLemmas.{St, set_view, add_view, first_is, if_true, if_false}
use Rattle.world_rule.proofs.ContainsLemmas.{contains_none}
use Rattle.std.proofs.lemmas.List.Elements.{Contains-append_cases, Contains-append_left, Contains-append_right}
use Rattle.std.specs.Prelude.{Contains}
use Rattle.world_rule.specs.Owing.{is_settled}
use Rattle.world_rule.specs.Views.{spent, told_by, unburdened, packed_by, first_of, joined}
use Rattle.world_rule.specs.CounterWords.{stop_word}
use Rattle.world_rule.specs.Shows.{ProgressShows, ViewShows, ShowsOneRun}

first_none : {A : Type 0} (a b : Option A) → first_of a b ≡ None → (a ≡ None) × (b ≡ None)
first_none None b e = (refl, e)
first_none (Some x) b e = absurd (cc)

module _ (ranks workers : ℕ) (program : List Doing) (may : Label → List Outline → Type 0) where
  pub parts_with : (s : St) (k : ShowsOneRun ranks workers program may s) (id : ℕ) (v : View) → get_elem? s.views id ≡ some v
      → (left right : View) (lane_owner : LaneName → ℕ) (item_owner : Pending → ℕ)
      → left.set_stop ≡ v.set_stop → left.saw_stop ≡ v.saw_stop → right.set_stop ≡ false → right.saw_stop ≡ false
      → ((l : LaneName) → k.lane_owner l ≢ id → lane_owner l ≡ k.lane_owner l)
      → ((d : Pending) → k.item_owner d ≢ id → item_owner d ≡ k.item_owner d)
      → ViewShows ranks workers k.log lane_owner item_owner k.task_effects k.drawn id left
      → ViewShows ranks workers k.log lane_owner item_owner k.task_effects k.drawn (length s.views) right
      → ShowsOneRun ranks workers program may (record { words = s.words; homes = s.homes; views = set s.views id left ++ right ∷ [] })
  parts_with s k id v at left right lane_owner item_owner st fo st' fo' lanes items mine new = record {
    log = k.log;
    lane_owner = lane_owner;
    item_owner = item_owner;
    task_effects = k.task_effects;
    drawn = k.drawn;
    few = k.few;
    legal = k.legal;
    follows = k.follows;
    short = k.short;
    words = k.words;
    stop = stops_add (slice_index s.words stop_word) (set s.views id left) right st' fo' (stops_set (slice_index s.words stop_word) s.views id v left at st fo k.stop);
    views = add_view (ViewShows ranks workers k.log lane_owner item_owner k.task_effects k.drawn) (set s.views id left) right
        (λ j u b e. set_view (ViewShows ranks workers k.log lane_owner item_owner k.task_effects k.drawn) s.views id left others mine j u e)
        (subst (λ (n : ℕ). ViewShows ranks workers k.log lane_owner item_owner k.task_effects k.drawn n right) (sym (length-set s.views id left)) new);
  }
    where
      others : (j : ℕ) (u : View) → j ≢ id → get_elem? s.views j ≡ some u → ViewShows ranks workers k.log lane_owner item_owner k.task_effects k.drawn j u
      others j u apart there = let f = k.views j u there in record {
        seen = f.seen;
        told = f.told;
        parts = λ q h. let g = f.parts q h in (lanes q.lane (λ e. apart (sym g.0 ∙ e)) ∙ g.0, g.1, g.2);
        hand = λ q c h e. let g = f.hand q c h e in (items (Counted c) (λ e'. apart (sym g.0 ∙ e')) ∙ g.0, g.1);
        owes = λ o e. let g = f.owes o e in (items o.pending (λ e'. apart (sym g.0 ∙ e')) ∙ g.0, g.1, g.2, g.3);
        looks = f.looks;
        progress = f.progress;
        idle = f.idle;
      }

  pub tells : (id : ℕ) (v : View) → Splits (ShowsOneRun ranks workers program may) id v v (told_by v)
  tells id v s k at = let f = k.views id v at in
      parts_with s k id v at v (told_by v) k.lane_owner k.item_owner refl refl refl refl (λ l n. refl) (λ d n. refl) f
      (record { seen = f.seen; told = begins_empty k.log; parts = λ q h. contains_none q h; hand = λ q c h e. contains_none q h; owes = λ o e. absurd (cc); progress = λ b e. absurd (cc); looks = (omega arith, omega arith); idle = λ e q r n h i. contains_none q h })

  pub packs : (id : ℕ) (v : View) → Splits (ShowsOneRun ranks workers program may) id v (unburdened v) (packed_by v)
  packs id v s k at = let f = k.views id v at in
      let item_owner : Pending → ℕ = owner_with v.owes (length s.views) k.item_owner in
      parts_with s k id v at (unburdened v) (packed_by v) k.lane_owner item_owner refl refl refl refl (λ l n. refl)
      (λ d n. stays v.owes d (λ o e same. n (sym (ap k.item_owner same) ∙ (f.owes o e).0)))
      (record { seen = f.seen; told = f.told; parts = f.parts; hand = λ q c h e. let t = f.hand q c h e in (stays v.owes (Counted c) (λ o i same. both_ways (is_settled o.pending k.log) (f.owes o i).2 (ap (λ d. is_settled d k.log) same ∙ t.1)) ∙ t.0, t.1); owes = λ o e. absurd (cc); progress = f.progress; looks = f.looks; idle = f.idle })
      (record {
        seen = f.seen;
        told = begins_empty k.log;
        parts = λ q h. contains_none q h;
        hand = λ q c h e. contains_none q h;
        owes = λ o e. let g = f.owes o e in (goes v.owes o e, g.1, g.2, g.3);
        looks = (omega arith, omega arith);
        progress = λ b e. absurd (cc);
        idle = λ e q r n h i. contains_none q h;
      })
    where
      stays : (os : Option Owed) (d : Pending) → ((o : Owed) → os ≡ Some o → o.pending ≢ d) → owner_with os (length s.views) k.item_owner d ≡ k.item_owner d
      stays None d apart = refl
      stays (Some o) d apart = not_borne o (length s.views) k.item_owner d (apart o refl)

      goes : (os : Option Owed) (o : Owed) → os ≡ Some o → owner_with os (length s.views) k.item_owner o.pending ≡ length s.views
      goes None o e = absurd (cc)
      goes (Some p) o e = let same : p ≡ o = cc in subst (λ (z : Owed). owner_with (Some p) (length s.views) k.item_owner z.pending ≡ length s.views) same (borne p (length s.views) k.item_owner)

  pub unites : (id : ℕ) (v : View) (other : ℕ) (w : View) → Joins (ShowsOneRun ranks workers program may) id v other w (joined v w) spent
  unites id v other w s k at apart there = record {
    log = k.log;
    lane_owner = lane_owner;
    item_owner = item_owner;
    task_effects = k.task_effects;
    drawn = k.drawn;
    few = k.few;
    legal = k.legal;
    follows = k.follows;
    short = k.short;
    words = k.words;
    stop = stops_join (slice_index s.words stop_word) s.views id v other w (joined v w) spent at here apart refl refl refl refl k.stop;
    views = set_view (ViewShows ranks workers k.log lane_owner item_owner k.task_effects k.drawn) (set s.views id (joined v w)) other spent
        (λ j u n e. set_view (λ i t. i ≢ other → ViewShows ranks workers k.log lane_owner item_owner k.task_effects k.drawn i t) s.views id (joined v w) (λ i t a b d. others i t a d b) (λ _. mine) j u e n)
        none;
  }
    where
      lane_owner : LaneName → ℕ
      lane_owner l = if k.lane_owner l == other then id else k.lane_owner l

      item_owner : Pending → ℕ
      item_owner d = if k.item_owner d == other then id else k.item_owner d

      here : get_elem? s.views other ≡ some w
      here = ⊎_elim (λ (t : (other ≡ id) × (joined v w ≡ w)). absurd (apart t.0)) (λ (t : (other ≢ id) × (get_elem? s.views other ≡ some w)). t.1) (at_set s.views id other (joined v w) w there)

      f : ViewShows ranks workers k.log k.lane_owner k.item_owner k.task_effects k.drawn id v
      f = k.views id v at

      g : ViewShows ranks workers k.log k.lane_owner k.item_owner k.task_effects k.drawn other w
      g = k.views other w (⊎_elim (λ (t : (other ≡ id) × (joined v w ≡ w)). absurd (apart t.0)) (λ (t : (other ≢ id) × (get_elem? s.views other ≡ some w)). t.1) (at_set s.views id other (joined v w) w there))

      stays : (n j : ℕ) → n ≡ j → j ≢ other → (if n == other then id else n) ≡ j
      stays n j e a = if_false (n == other) id n (ne_eqb n other (λ b. a (sym e ∙ b))) ∙ e

      comes : (n : ℕ) → n ≡ other → (if n == other then id else n) ≡ id
      comes n e = if_true (n == other) id n (eq-eqb n other e)

      others : (j : ℕ) (u : View) → j ≢ id → j ≢ other → get_elem? s.views j ≡ some u → ViewShows ranks workers k.log lane_owner item_owner k.task_effects k.drawn j u
      others j u a b e = let h = k.views j u e in record {
        seen = h.seen;
        told = h.told;
        parts = λ q i. let t = h.parts q i in (stays (k.lane_owner q.lane) j t.0 b, t.1, t.2);
        hand = λ q c i x. let t = h.hand q c i x in (stays (k.item_owner (Counted c)) j t.0 b, t.1);
        owes = λ o i. let t = h.owes o i in (stays (k.item_owner o.pending) j t.0 b, t.1, t.2, t.3);
        looks = h.looks;
        progress = h.progress;
        idle = h.idle;
      }

      none : ViewShows ranks workers k.log lane_owner item_owner k.task_effects k.drawn other spent
      none = record { seen = begins_empty k.log; told = begins_empty k.log; parts = λ q h. contains_none q h; hand = λ q c h e. contains_none q h; owes = λ o e. absurd (cc); progress = λ b e. absurd (cc); looks = (omega arith, omega arith); idle = λ e q r n h i. contains_none q h }

      far : id ≢ other
      far e = apart (sym e)

      wider : (ps qs : List OwnPart) (b : Progress) → ((q : OwnPart) → Contains ps q → Contains qs q) → ProgressShows k.task_effects k.drawn k.log ps b → ProgressShows k.task_effects k.drawn k.log qs b
      wider ps qs b sub t = record { lane = t.lane; has = sub t.lane t.has; hand = t.hand; rank = t.rank; plan = t.plan; drawn_is = t.drawn_is; turn = t.turn; left = t.left }

      mine : ViewShows ranks workers k.log lane_owner item_owner k.task_effects k.drawn id (joined v w)
      mine = record {
        seen = f.seen;
        told = g.seen;
        parts = λ q h. ⊎_elim
            (λ a. let t = f.parts q a in (stays (k.lane_owner q.lane) id t.0 far, t.1, t.2))
            (λ b. let t = g.parts q b in (comes (k.lane_owner q.lane) t.0, t.1, t.2))
            (Contains-append_cases v.parts w.parts q h);
        hand = λ q c h e. ⊎_elim
            (λ a. let t = f.hand q c a e in (stays (k.item_owner (Counted c)) id t.0 far, t.1))
            (λ b. let t = g.hand q c b e in (comes (k.item_owner (Counted c)) t.0, t.1))
            (Contains-append_cases v.parts w.parts q h);
        owes = λ o e. ⊎_elim
            (λ a. let t = f.owes o a in (stays (k.item_owner o.pending) id t.0 far, t.1, t.2, t.3))
            (λ b. let t = g.owes o b in (comes (k.item_owner o.pending) t.0, t.1, t.2, t.3))
            (first_is v.owes w.owes o e);
        looks = f.looks;
        progress = λ b e. ⊎_elim
            (λ a. wider v.parts (v.parts ++ w.parts) b (λ q h. Contains-append_left v.parts w.parts q h) (f.progress b a))
            (λ c. wider w.parts (v.parts ++ w.parts) b (λ q h. Contains-append_right v.parts w.parts q h) (g.progress b c))
            (first_is v.progress w.progress b e);
        idle = λ e q r n h i. let both = first_none v.progress w.progress e in ⊎_elim
            (λ a. f.idle both.0 q r n a i)
            (λ b. g.idle both.1 q r n b i)
            (Contains-append_cases v.parts w.parts q h);
      }
