-- What a bin's type keeps stays true.
use Rattle.std.proofs.Common.{◌≡◌, ℕ, Bool, true, false, cond, not, List, [], ◌∷◌, ◌++◌, Option, Some, None, refl, ◌∙◌, ap}
use Rattle.std.specs.Prelude.{◌&&◌, ◌||◌, IfSome, is_some}
use Rattle.std.specs.List.{AllByRecursion}
use Rattle.std.specs.FinMap as fin
use Rattle.app_core.specs.declared.CellName.{CellName}
use Rattle.app_core.specs.declared.label.Label.{Label}
use Rattle.app_core.specs.declared.outline.Outline.{Outline}
use Rattle.event_lists.specs.declared.event.Event.{Event}
use Rattle.event_lists.specs.declared.event.Event.TheVariants.{Put, Erased}
use Rattle.event_lists.specs.Events.{in_hand}
use Rattle.event_lists.specs.Bins.{is_put}
use Rattle.container.specs.declared.look_ups.LookUp.{LookUp}
use Rattle.container.specs.Names.{name_cmp, same_name}
use Rattle.container.specs.LookUps.{others}
use Rattle.event_lists.specs.declared.mark.EffectName.{EffectName}
use Rattle.container.specs.BinState.{BinData}
use Rattle.container.specs.RightBins.{AreRight}
use Rattle.container.proofs.MapLemmas.{names_total, tied}
use Rattle.container.proofs.RightLemmas.{none_are_right, right_after_insert}
use Rattle.container.proofs.WaitLemmas.{same_self}
use Rattle.world_words.specs.Lanes.{WordsView, LaneView, Grew}
use Rattle.world_words.specs.Closing.{IsFree}
use Rattle.lane_bins.specs.LaneBins.{HasWhatWasPut, IsReadAt, IsOfBin, IsBinLane, IsLaneBin}

-- what holds of all look-ups holds of those that are left, and of one more
pub all_others : (P : LookUp → Type 0) (name : CellName) (waiting : List LookUp) → AllByRecursion P waiting → AllByRecursion P (others name waiting)
all_others P name [] all = tt
all_others P name (l ∷ ls) all = go (same_name l.name name) (all_others P name ls all.1)
  where
    go : (b : Bool) → AllByRecursion P (others name ls) → AllByRecursion P (cond (not b) (l ∷ others name ls) (others name ls))
    go true rest = rest
    go false rest = (all.0, rest)

pub all_and_one : (P : LookUp → Type 0) (waiting : List LookUp) (l : LookUp) → AllByRecursion P waiting → P l → AllByRecursion P (waiting ++ l ∷ [])
all_and_one P [] l all one = (one, tt)
all_and_one P (m ∷ ls) l all one = (all.0, all_and_one P ls l all.1 one)

-- the entries of a lane without events
pub none_put : (C : Type 0) → HasWhatWasPut (fin.empty {X = C} {R = name_cmp}) []
none_put C q = ap is_some (fin.get-empty name_cmp q)

module _ {C : Type 0} where
  pub get_after_insert : (entries : fin.FinMap name_cmp C) (name : CellName) (cell : C) (q : CellName) → fin.get (fin.insert entries name cell) q ≡ cond (same_name q name) (Some cell) (fin.get entries q)
  get_after_insert entries name cell q = fin.get-insert names_total entries name cell q ∙ ap (λ b. cond b (Some cell) (fin.get entries q)) (tied q name)

  pub get_after_remove : (entries : fin.FinMap name_cmp C) (name q : CellName) → fin.get (fin.remove entries name) q ≡ cond (same_name q name) None (fin.get entries q)
  get_after_remove entries name q = fin.get-remove names_total entries name q ∙ ap (λ b. cond b None (fin.get entries q)) (tied q name)

  pub put_after_insert : (entries : fin.FinMap name_cmp C) (mine : List Event) (name : CellName) (cell : C) → HasWhatWasPut entries mine → HasWhatWasPut (fin.insert entries name cell) (Put name ∷ mine)
  put_after_insert entries mine name cell has q = ap is_some (get_after_insert entries name cell q) ∙ go (same_name q name)
    where
      go : (b : Bool) → is_some (cond b (Some cell) (fin.get entries q)) ≡ (b || is_put q mine)
      go true = refl
      go false = has q

  pub put_after_remove : (entries : fin.FinMap name_cmp C) (mine : List Event) (name : CellName) → HasWhatWasPut entries mine → HasWhatWasPut (fin.remove entries name) (Erased name ∷ mine)
  put_after_remove entries mine name has q = ap is_some (get_after_remove entries name q) ∙ go (same_name q name)
    where
      go : (b : Bool) → is_some (cond b None (fin.get entries q)) ≡ (not b && is_put q mine)
      go true = refl
      go false = has q

  pub right_after_remove : (right_cell : CellName → C → Type 0) (entries : fin.FinMap name_cmp C) (name : CellName) → AreRight right_cell entries → AreRight right_cell (fin.remove entries name)
  right_after_remove right_cell entries name all = λ q. go q (same_name q name) refl
    where
      go : (q : CellName) (b : Bool) → same_name q name ≡ b → IfSome (fin.get (fin.remove entries name) q) (λ cell. right_cell q cell)
      go q true same =
          let is : fin.get (fin.remove entries name) q ≡ None = get_after_remove entries name q ∙ ap (λ b. cond b None (fin.get entries q)) same in
          rw is tt
      go q false apart =
          let is : fin.get (fin.remove entries name) q ≡ fin.get entries q = get_after_remove entries name q ∙ ap (λ b. cond b None (fin.get entries q)) apart in
          rw is (all q)

  pub get_inserted : (entries : fin.FinMap name_cmp C) (name : CellName) (cell : C) → fin.get (fin.insert entries name cell) name ≡ Some cell
  get_inserted entries name cell = get_after_insert entries name cell name ∙ ap (λ b. cond b (Some cell) (fin.get entries name)) (same_self name)

  pub get_removed : (entries : fin.FinMap name_cmp C) (name : CellName) → fin.get (fin.remove entries name) name ≡ None
  get_removed entries name = get_after_remove entries name name ∙ ap (λ b. cond b None (fin.get entries name)) (same_self name)

-- a fact of what an option has, from another, or from none
if_some : {T : Type 0} {P Q : T → Type 0} (o : Option T) → ((x : T) → P x → Q x) → IfSome o P → IfSome o Q
if_some None f p = tt
if_some (Some x) f p = f x p

if_any : {T : Type 0} {Q : T → Type 0} (o : Option T) → ((x : T) → Q x) → IfSome o Q
if_any None f = tt
if_any (Some x) f = f x

if_both : {T : Type 0} {P Q R : T → Type 0} (o : Option T) → ((x : T) → P x → Q x → R x) → IfSome o P → IfSome o Q → IfSome o R
if_both None f p q = tt
if_both (Some x) f p q = f x p q

module _ {A U C : Type 0} (app : Option A) (words : Option (WordsView A)) (right_cell : A → CellName → C → Type 0) (is_unit : A → U → Type 0) (reads_of : A → U → List CellName) (home_of : A → U → ℕ) where
  -- a bin before any event
  pub new_is_bin : (state : BinData C) (lane : LaneView) → state.entries ≡ fin.empty → state.waiting ≡ [] → lane.name.bin ≡ true → lane.mine ≡ [] → IfSome words (λ w. IsFree w lane)
      → IsLaneBin app words right_cell is_unit reads_of home_of (record { state = state; lane = lane })
  new_is_bin state lane entries waiting bin new free = record {
    put = rw (entries, new) (none_put C);
    right = if_any app (λ a. rw entries (none_are_right (right_cell a)));
    read = if_any app (λ a. rw waiting tt);
    here = rw waiting tt;
    lane = record { bin = bin; hand = rw new refl; free = free };
  }

  -- a lane after a put or an erase
  lane_after : (w : WordsView A) (may : Label → List Outline → Type 0) (e : Event) (f : Option EffectName) (lane after : LaneView) → in_hand (e ∷ lane.mine) ≡ in_hand lane.mine → after.owes ≡ None → after.progress ≡ lane.progress
      → Grew w may e f lane after → IsBinLane words lane → IsBinLane words after
  lane_after w may e f lane after hand owes progress grew is = record {
    bin = ap (λ n. n.bin) grew.same.1 ∙ is.bin;
    hand = ap in_hand grew.event ∙ hand ∙ is.hand;
    free = if_some words (λ v free. record { table = grew.same.0 ∙ free.table; owes = owes; progress = progress ∙ free.progress; kept = grew.kept ∙ free.kept }) is.free;
  }

  pub put_is_bin : (w : WordsView A) (may : Label → List Outline → Type 0) (f : Option EffectName) (old new : BinData C) (lane after : LaneView) (name : CellName) (cell : C)
      → new.entries ≡ fin.insert old.entries name cell → new.waiting ≡ others name old.waiting → IfSome app (λ a. right_cell a name cell) → Grew w may (Put name) f lane after
      → IsLaneBin app words right_cell is_unit reads_of home_of (record { state = old; lane = lane })
      → IsLaneBin app words right_cell is_unit reads_of home_of (record { state = new; lane = after })
  put_is_bin w may f old new lane after name cell entries waiting right grew is = record {
    put = rw (entries, grew.event) (put_after_insert old.entries lane.mine name cell is.put);
    right = if_both app (λ a one all. rw entries (right_after_insert (right_cell a) old.entries name cell one all)) right is.right;
    read = if_some app (λ a read. rw (waiting, grew.same.1) (all_others (λ l. IsReadAt (is_unit a) (reads_of a) (home_of a) lane.name.rank l.name) name old.waiting read)) is.read;
    here = rw (waiting, grew.same.1) (all_others (λ l. IsOfBin lane.name l.name) name old.waiting is.here);
    lane = lane_after w may (Put name) f lane after refl grew.owing grew.progress grew is.lane;
  }

  pub erased_is_bin : (w : WordsView A) (may : Label → List Outline → Type 0) (f : Option EffectName) (old new : BinData C) (lane after : LaneView) (name : CellName)
      → new ≡ record { entries = fin.remove old.entries name; waiting = old.waiting } → Grew w may (Erased name) f lane after
      → IsLaneBin app words right_cell is_unit reads_of home_of (record { state = old; lane = lane })
      → IsLaneBin app words right_cell is_unit reads_of home_of (record { state = new; lane = after })
  erased_is_bin w may f old new lane after name rest grew is = record {
    put = rw (rest, grew.event) (put_after_remove old.entries lane.mine name is.put);
    right = if_some app (λ a all. rw rest (right_after_remove (right_cell a) old.entries name all)) is.right;
    read = if_some app (λ a read. rw (rest, grew.same.1) read) is.read;
    here = rw (rest, grew.same.1) is.here;
    lane = lane_after w may (Erased name) f lane after refl grew.owing grew.progress grew is.lane;
  }
