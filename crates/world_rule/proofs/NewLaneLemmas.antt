-- Lemmas that crates above use: a lane is made of the first seat.
use Rattle.std.proofs.Common.{arith, ◌≡◌, ◌≢◌, ◌⊎◌, ℕ, Bool, true, false, List, [], ◌∷◌, length, refl, sym, ap, ◌∙◌, subst, inl, inr}
use Rattle.std.specs.Prelude.{Some, None, if◌then◌else◌}
use Rattle.atomic_table.specs.Table.{Splits}
use Rattle.app_core.specs.declared.label.Label.{Label}
use Rattle.app_core.specs.declared.outline.Outline.{Outline}
use Rattle.event_lists.specs.declared.lane.LaneName.{LaneName}
use Rattle.event_lists.specs.declared.mark.Item.TheVariants.{Task}
use Rattle.event_lists.specs.Events.{same_lane, part, in_hand}
use Rattle.event_lists.specs.Legal.{IsLane}
use Rattle.event_lists.proofs.LaneLemmas.{same_lane_true, same_lane_refl, other_lane}
use Rattle.event_lists.proofs.ListLemmas.{begins_empty}
use Rattle.event_laws.specs.Follows.{Doing}
use Rattle.world_rule.specs.declared.view.OwnPart.{OwnPart}
use Rattle.world_rule.specs.declared.view.View.{View}
use Rattle.world_rule.proofs.ViewLemmas.{in_without, if_true, if_false}
use Rattle.world_rule.proofs.SeatLemmas.{parts_with}
use Rattle.world_rule.proofs.ContainsLemmas.{contains_none, contains_first, contains_later, contains_cases, contains_one}
use Rattle.std.specs.Prelude.{Contains}
use Rattle.world_rule.specs.Views.{empty_part, without, gives_away, lane_of}
use Rattle.world_rule.specs.Shows.{ShowsOneRun}

pub stay_in : (l : LaneName) (xs : List OwnPart) (p : OwnPart) → Contains xs p → p.lane ≢ l → Contains (without l xs) p
stay_in l [] p h apart = contains_none p h
stay_in l (x ∷ xs) p h apart = step (λ i. stay_in l xs p i apart) (same_lane x.lane l) refl (contains_cases x xs p h)
  where
    step : (Contains xs p → Contains (without l xs) p) → (b : Bool) → same_lane x.lane l ≡ b → (x ≡ p) ⊎ Contains xs p → Contains (if b then without l xs else x ∷ without l xs) p
    step rec true e (inl i) = absurd (apart (sym (ap (λ (q : OwnPart). q.lane) i) ∙ same_lane_true x.lane l e))
    step rec true e (inr t) = rec t
    step rec false e (inl i) = subst (Contains (x ∷ without l xs)) i (contains_first x (without l xs))
    step rec false e (inr t) = contains_later x (without l xs) p (rec t)

module _ (ranks workers : ℕ) (program : List Doing) (may : Label → List Outline → Type 0) where
  pub gives_lane : (id : ℕ) (v : View) (l : LaneName) → Contains v.parts (empty_part l) → Splits (ShowsOneRun ranks workers program may) id v (gives_away l v) (lane_of l v)
  gives_lane id v l has s k at = let f = k.views id v at in
      let lane = f.parts (empty_part l) has in
      let lane_owner : LaneName → ℕ = λ m. if same_lane l m then length s.views else k.lane_owner m in
      parts_with ranks workers program may s k id v at (gives_away l v) (lane_of l v) lane_owner k.item_owner refl refl refl refl
      (λ m n. if_false (same_lane l m) (length s.views) (k.lane_owner m) (other_lane l m (λ e. n (ap k.lane_owner (sym e) ∙ lane.0))))
      (λ d n. refl)
      (record {
        seen = f.seen;
        told = f.told;
        parts = λ q h. let w = in_without l v.parts q h in let g = f.parts q w.0 in (if_false (same_lane l q.lane) (length s.views) (k.lane_owner q.lane) (other_lane l q.lane (λ e. w.1 (sym e))) ∙ g.0, g.1, g.2);
        hand = λ q c h e. f.hand q c (in_without l v.parts q h).0 e;
        owes = f.owes;
        looks = f.looks;
        progress = λ b e. let t = f.progress b e in record {
          lane = t.lane;
          has = stay_in l v.parts t.lane t.has (λ same. let z : None ≡ Some (Task b.rank b.number) = ap in_hand (sym lane.1 ∙ ap (λ (m : LaneName). part m k.log) (sym same) ∙ (f.parts t.lane t.has).1) ∙ t.hand in cc);
          hand = t.hand;
          rank = t.rank;
          plan = t.plan;
          drawn_is = t.drawn_is;
          turn = t.turn;
          left = t.left;
        };
        idle = λ e q r n h i. f.idle e q r n (in_without l v.parts q h).0 i;
      })
      (record {
        seen = f.seen;
        told = begins_empty k.log;
        parts = λ q h. subst (λ (z : OwnPart). (lane_owner z.lane ≡ length s.views) × (part z.lane k.log ≡ z.events) × IsLane ranks workers z.lane) (contains_one (empty_part l) q h) (if_true (same_lane l l) (length s.views) (k.lane_owner l) (same_lane_refl l), lane.1, lane.2);
        hand = λ q c h e. absurd (let z : None ≡ Some c = ap (λ (p : OwnPart). in_hand p.events) (contains_one (empty_part l) q h) ∙ e in cc);
        owes = λ o e. absurd (cc);
        looks = (omega arith, omega arith);
        progress = λ b e. absurd (cc);
        idle = λ e q r n h i. absurd (let z : None ≡ Some (Task r n) = ap (λ (p : OwnPart). in_hand p.events) (contains_one (empty_part l) q h) ∙ i in cc);
      })
