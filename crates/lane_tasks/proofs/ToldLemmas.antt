-- Places for what was told are filled with those for values, and tell of the needs of their task.
use Rattle.std.proofs.Common.{◌≡◌, ◌<◌, ◌⊎◌, ℕ, zero, suc, Bool, true, false, List, [], ◌∷◌, Option, Some, None, length, map, refl, ap, sym, ◌∙◌, subst, inl, inr, arith}
use Rattle.std.specs.Prelude.{◌↔◌, replicate, Contains, IfSome, IsNone, IsSome, slice_set}
use Rattle.std.specs.List.{slice_index_or}
use Rattle.app_core.specs.declared.label.Label.{Label}
use Rattle.depend.specs.Slots.{IsReady}
use Rattle.event_lists.specs.declared.future.Bringer.{Bringer}
use Rattle.event_lists.specs.declared.future.Future.{Future}
use Rattle.event_lists.specs.Futures.{future_by, futures_by, IsIn}
use Rattle.task_tables.specs.Places.{AreRightPlaces}
use Rattle.task_tables.specs.Tasks.{TaskData, with_value}
use Rattle.task_tables.proofs.PlaceLemmas.{fill_place}
use Rattle.world_words.specs.Lanes.{WordsView, CarrierView, ToldView}
use Rattle.lane_tasks.specs.LaneTasks.{AreFilledAlike, IsLaneTask, IsPlaceOf}
use Rattle.lane_tasks.specs.Tolds.{IsTableOf, IsToldOf, KnowsGiven}

pub empty_alike : (S T : Type 0) (n : ℕ) → AreFilledAlike {S = S} {T = T} (replicate n None) (replicate n None)
empty_alike S T zero = tt
empty_alike S T (suc n) = ((λ x. x, λ x. x), empty_alike S T n)

module _ {S T : Type 0} where
  pub as_many : (xs : List (Option S)) (ys : List (Option T)) → AreFilledAlike xs ys → length ys ≡ length xs
  as_many [] [] all = refl
  as_many [] (y ∷ ys) all = absurd all
  as_many (x ∷ xs) [] all = absurd all
  as_many (x ∷ xs) (y ∷ ys) all = ap suc (as_many xs ys all.1)

  neither : (x : Option S) (y : Option T) → (IsSome x ↔ IsSome y) → IsNone x → IsNone y
  neither None None same none = refl
  neither None (Some y) same none = let wrong : false ≡ true = same.1 refl in absurd (cc)
  neither (Some x) y same none = absurd (cc)

  -- a place that is empty in one is empty in the other
  pub empty_too : (xs : List (Option S)) (ys : List (Option T)) (i : ℕ) → AreFilledAlike xs ys → IsNone (slice_index_or xs i None) → IsNone (slice_index_or ys i None)
  empty_too [] [] i all none = refl
  empty_too [] (y ∷ ys) i all none = absurd all
  empty_too (x ∷ xs) [] i all none = absurd all
  empty_too (x ∷ xs) (y ∷ ys) zero all none = neither x y all.0 none
  empty_too (x ∷ xs) (y ∷ ys) (suc i) all none = empty_too xs ys i all.1 none

  -- a place is filled in both
  pub fill_both : (xs : List (Option S)) (ys : List (Option T)) (i : ℕ) (x : S) (y : T) → AreFilledAlike xs ys → AreFilledAlike (slice_set xs i (Some x)) (slice_set ys i (Some y))
  fill_both [] [] i x y all = tt
  fill_both [] (b ∷ bs) i x y all = absurd all
  fill_both (a ∷ xs) [] i x y all = absurd all
  fill_both (a ∷ xs) (b ∷ ys) zero x y all = ((λ _. refl, λ _. refl), all.1)
  fill_both (a ∷ xs) (b ∷ ys) (suc i) x y all = (all.0, fill_both xs ys i x y all.1)

  -- where all of one are filled, all of the other are
  pub ready_too : (xs : List (Option S)) (ys : List (Option T)) → AreFilledAlike xs ys → IsReady xs → IsReady ys
  ready_too [] [] all ready k d lt = absurd (omega (arith, lt))
  ready_too [] (y ∷ ys) all ready k d lt = absurd all
  ready_too (x ∷ xs) [] all ready k d lt = absurd (omega (arith, lt))
  ready_too (x ∷ xs) (y ∷ ys) all ready zero d lt = all.0.0 (ready 0 None (omega arith))
  ready_too (x ∷ xs) (y ∷ ys) all ready (suc k) d lt = ready_too xs ys all.1 (λ i e short. ready (suc i) e (omega (arith, short))) k d (omega (arith, lt))

module _ {A : Type 0} (words : Option (WordsView A)) where
  -- what was told is of the words
  pub tolds_are_of : (by : Option Bringer) (ns : List Label) (ts : List ToldView) → AreRightPlaces (IsToldOf words by) ns (map Some ts) → (told : ToldView) → Contains ts told → IsTableOf words told.table
  tolds_are_of by [] [] all told (k, lt, is) = absurd (omega (arith, lt))
  tolds_are_of by [] (t ∷ ts) all told at = absurd all
  tolds_are_of by (n ∷ ns) [] all told (k, lt, is) = absurd (omega (arith, lt))
  tolds_are_of by (n ∷ ns) (t ∷ ts) all told (zero, lt, is) = subst (λ (z : ToldView). IsTableOf words z.table) is all.0.0
  tolds_are_of by (n ∷ ns) (t ∷ ts) all told (suc k, lt, is) = tolds_are_of by ns ts all.1 told (k, omega (arith, lt), is)

  -- each need is known as given to one who told
  needs_by : (b : Bringer) (ns : List Label) (ts : List ToldView) → AreRightPlaces (IsToldOf words (Some b)) ns (map Some ts) → (f : Future) → IsIn f (map (λ d. record { by = b; label = d }) ns)
      → (told : ToldView) × Contains ts told × KnowsGiven f told
  needs_by b [] ts all f at = absurd at
  needs_by b (n ∷ ns) [] all f at = absurd all
  needs_by b (n ∷ ns) (t ∷ ts) all f (inl is) = (t, (0, omega arith, refl), all.0.1 f (ap Some is))
  needs_by b (n ∷ ns) (t ∷ ts) all f (inr at) =
      let rest = needs_by b ns ts all.1 f at in
      (rest.0, (suc rest.1.0, (let lt = rest.1.1 in omega (arith, lt)), rest.1.2), rest.2)

  pub needs_are_told : (by : Option Bringer) (ns : List Label) (ts : List ToldView) → AreRightPlaces (IsToldOf words by) ns (map Some ts) → (f : Future) → IsIn f (futures_by by ns)
      → (told : ToldView) × Contains ts told × KnowsGiven f told
  needs_are_told None ns ts all f at = absurd at
  needs_are_told (Some b) ns ts all f at = needs_by b ns ts all f at

  -- the future of a place that is one for it
  this_future : (by : Option Bringer) (future f : Future) → by ≡ Some future.by → future_by by future.label ≡ Some f → future ≡ f
  this_future by future f is same = let both : Some future ≡ Some f = ap (λ b. future_by b future.label) (sym is) ∙ same in cc

  -- a value came with what was told
  pub told_more : {U V C : Type 0} (old new : TaskData U V C) (by : Option Bringer) (carrier : CarrierView) (ts us : List (Option ToldView)) (i : ℕ) (future : Future) (v : V) (told : ToldView)
      → IsLaneTask words (record { task = old; by = by; carrier = carrier; tolds = ts }) → new ≡ with_value old i v → us ≡ slice_set ts i (Some told) → IsPlaceOf (record { task = old; by = by; carrier = carrier; tolds = ts }) i future
      → IsTableOf words told.table → KnowsGiven future told → IsLaneTask words (record { task = new; by = by; carrier = carrier; tolds = us })
  told_more old new by carrier ts us i future v told is filled kept place of known = rw (filled, kept) (record {
    table = is.table;
    carries = is.carries;
    needs = is.needs;
    told = fill_place (IsToldOf words by) old.needs ts i future.label told is.told place.empty.named (of, λ f same. subst (λ (z : Future). KnowsGiven z told) (this_future by future f place.by same) known);
    alike = fill_both old.values ts i v told is.alike;
  })

-- nothing is left to tell
pub nothing_left : (ts : List ToldView) → length ts ≡ 0 → ts ≡ []
nothing_left [] none = refl
nothing_left (t ∷ ts) none = absurd (omega (arith, none))
