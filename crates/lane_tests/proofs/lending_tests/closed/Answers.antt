use Rattle.std.proofs.Common.{◌≡◌, suc, List, [], ◌∷◌, map, sym, subst, ◌∙◌, arith}
use Rattle.std.proofs.lemmas.List.Elements.{All-cons}
use Rattle.event_lists.specs.Events.{main_of}
use Rattle.world_words.specs.Lanes.{WordsView, LaneView}
use Rattle.world_words.specs.Closing.{name_of, all_of, IsFree, AreAllLanes, new_lane}
use Rattle.lane_tests.specs.Lending.{worker}
use Rattle.lane_tests.proofs.lending_tests.closed.Goals as goal

-- two lanes of the same names, which are free too, stand in place of the only two hands of a rank
in_place : {A : Type 0} (words : WordsView A) (a b x y : LaneView) (bins : List (List LaneView)) → AreAllLanes words ((a ∷ b ∷ []) ∷ []) bins
    → x.name ≡ a.name → y.name ≡ b.name → IsFree words x → IsFree words y → AreAllLanes words ((x ∷ y ∷ []) ∷ []) bins
in_place words a b x y bins all e f p q = record {
  names = (λ j. e j ∷ f j ∷ map name_of (all_of bins)) ∙ all.names;
  free = All-cons (IsFree words) x (y ∷ all_of bins) p (All-cons (IsFree words) y (all_of bins) q (λ i d lt. all.free (suc (suc i)) d (omega arith)));
}

pub close-requires-clause-lanes : goal.close-requires-clause-lanes
close-requires-clause-lanes g c =
    let words = c.in_ok-words.words in
    let bins = c.in_ok-words.lanes.bins.items in
    let given : List (List LaneView) → Type 0 = (λ hands. AreAllLanes words hands bins) in
    let new = subst given c.in_ok-words.ensures.hands c.in_ok-words.ensures.all in
    let one = c.lend_and_borrow-main.result.0 in
    let two = c.lend_and_borrow-main.result.1 in
    subst given (sym c.in_ok-hands.ensures)
    (in_place words (new_lane words (main_of 0)) (new_lane words worker) one two bins new c.lend_and_borrow-main.ensures.main.1 c.lend_and_borrow-main.ensures.lane.1 c.lend_and_borrow-main.ensures.main.0 c.lend_and_borrow-main.ensures.lane.0)
