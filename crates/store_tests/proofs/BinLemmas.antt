-- The lanes of all bins, of which one is used; and all lanes, before and after a run.
use Rattle.std.proofs.Common.{◌≡◌, ℕ, zero, suc, ◌+◌, ◌<◌, true, List, [], ◌∷◌, length, map, refl, sym, ap, subst, ◌∙◌, arith}
use Rattle.std.specs.Prelude.{All}
use Rattle.std.proofs.Math.ListN.{set, get_or}
use Rattle.std.proofs.lemmas.List.{map-set, set-get_or, get_or-map, length-map, append-nil}
use Rattle.std.proofs.lemmas.List.Elements.{All-cons, All-set}
use Rattle.event_lists.specs.declared.lane.LaneName.{LaneName}
use Rattle.event_lists.specs.Events.{main_of}
use Rattle.event_books.specs.Books.{lanes_from, lanes_in_order}
use Rattle.world_words.specs.Lanes.{WordsView, LaneView}
use Rattle.world_words.specs.Closing.{name_of, IsFree, AreAllLanes, new_lane}
use Rattle.store_tests.specs.Turns.{IsResting, IsBin, AreBins}

-- the lane at a place of those from k on
lane_at : (k n i : ℕ) (e : LaneName) → i < n → get_or (lanes_from true 0 k n) i e ≡ record { rank = 0; bin = true; number = k + i }
lane_at k zero i e lt = absurd (omega (arith, lt))
lane_at k (suc n) zero e lt = ap (λ (m : ℕ). record { rank = 0; bin = true; number = m }) (omega arith)
lane_at k (suc n) (suc i) e lt = lane_at (suc k) n i e (omega (arith, lt)) ∙ ap (λ (m : ℕ). record { rank = 0; bin = true; number = m }) (omega arith)

module _ {A : Type 0} (words : WordsView A) where
  pub sixteen : (bins : List LaneView) → AreBins words bins → length bins ≡ 16
  sixteen bins are = sym (length-map bins name_of) ∙ ap length are.names

  -- the lane at a place is that of the bin with this number
  pub bin_at : (bins : List LaneView) (i : ℕ) (d : LaneView) → AreBins words bins → i < 16 → IsBin words (get_or bins i d) × ((get_or bins i d).name ≡ record { rank = 0; bin = true; number = i })
  bin_at bins i d are lt =
      let long = sixteen bins are in
      let within : i < length bins = omega (arith, long, lt) in (
        are.all i d within,
        sym (get_or-map name_of bins i d (name_of d) within) ∙ ap (λ (ls : List LaneName). get_or ls i (name_of d)) are.names ∙ lane_at 0 16 i (name_of d) lt ∙ ap (λ (m : ℕ). record { rank = 0; bin = true; number = m }) (omega arith),
      )

  -- another free lane of its name in its place changes nothing
  pub bins_still : (bins : List LaneView) (i : ℕ) (d v : LaneView) → AreBins words bins → i < 16 → IsBin words v → v.name ≡ (get_or bins i d).name → AreBins words (set bins i v)
  bins_still bins i d v are lt is same =
      let long = sixteen bins are in
      let within : i < length bins = omega (arith, long, lt) in
      record {
        names = map-set name_of bins i v ∙ ap (λ (l : LaneName). set (map name_of bins) i l) (same ∙ sym (get_or-map name_of bins i d (name_of d) within)) ∙ set-get_or (map name_of bins) i (name_of d) ∙ are.names;
        all = All-set (IsBin words) bins i v is are.all;
      }

  new_is_free : (l : LaneName) → IsFree words (new_lane words l)
  new_is_free l = record { table = refl; owes = refl; progress = refl; kept = refl }

  pub new_hand_rests : IsResting words (new_lane words (main_of 0))
  new_hand_rests = record { free = new_is_free (main_of 0); name = refl; hand = refl; quiet = λ b d. refl }

  new_bins : (ls : List LaneName) → All (IsBin words) (map (new_lane words) ls)
  new_bins [] = λ i d lt. absurd (omega (arith, lt))
  new_bins (l ∷ ls) = All-cons (IsBin words) (new_lane words l) (map (new_lane words) ls) (record { free = new_is_free l; hand = refl }) (new_bins ls)

  pub new_bins_are : AreBins words (map (new_lane words) (lanes_from true 0 0 16))
  new_bins_are = record { names = refl; all = new_bins (lanes_from true 0 0 16) }

  -- the main's lane and those of the bins are all lanes of one rank without workers
  pub all_lanes_are : (hand : LaneView) (bins : List LaneView) → words.ranks ≡ 1 → words.workers ≡ 0 → IsResting words hand → AreBins words bins → AreAllLanes words ((hand ∷ []) ∷ []) (bins ∷ [])
  all_lanes_are hand bins ranks workers rests are =
      let none = append-nil bins in
      record {
        names = ap (λ (vs : List LaneView). map name_of (hand ∷ vs)) none ∙ (λ j. rests.name j ∷ are.names j) ∙ (λ j. lanes_in_order (sym ranks j) (sym workers j));
        free = subst (λ (vs : List LaneView). All (IsFree words) (hand ∷ vs)) (sym none) (All-cons (IsFree words) hand bins rests.free (λ i d lt. (are.all i d lt).free));
      }
