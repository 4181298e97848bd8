-- What is right in a bin stays right.
use Rattle.std.proofs.Common.{◌≡◌, Bool, true, false, cond, not, List, [], ◌∷◌, Option, Some, None, refl, sym, ◌∙◌, ap, subst}
use Rattle.std.specs.Prelude.{IfSome, Result, Ok, Err, OnOk, OnErr}
use Rattle.std.specs.FinMap as fin
use Rattle.app_core.specs.declared.CellName.{CellName}
use Rattle.container.specs.declared.look_ups.LookUp.{LookUp}
use Rattle.container.specs.Names.{name_cmp, same_name}
use Rattle.container.specs.LookUps.{others}
use Rattle.container.specs.BinState.{BinData}
use Rattle.container.specs.RightBins.{AreRight, AreRead}
use Rattle.container.proofs.LookUpLemmas.{same_names}
use Rattle.container.proofs.MapLemmas.{names_total, tied}

module _ {C : Type 0} where
  pub none_are_right : (right_cell : CellName → C → Type 0) → AreRight right_cell fin.empty
  none_are_right right_cell name =
      let none : fin.get (fin.empty {X = C} {R = name_cmp}) name ≡ None = fin.get-empty name_cmp name in
      rw none tt

  pub right_after_insert : (right_cell : CellName → C → Type 0) (entries : fin.FinMap name_cmp C) (name : CellName) (cell : C) → right_cell name cell → AreRight right_cell entries
      → AreRight right_cell (fin.insert entries name cell)
  right_after_insert right_cell entries name cell right all = λ q. go q (same_name q name) refl
    where
      go : (q : CellName) (b : Bool) → same_name q name ≡ b → IfSome (fin.get (fin.insert entries name cell) q) (λ cell. right_cell q cell)
      go q true same =
          let is : fin.get (fin.insert entries name cell) q ≡ Some cell =
          fin.get-insert names_total entries name cell q ∙ ap (λ b. cond b (Some cell) (fin.get entries q)) (tied q name ∙ same) in
          let q_is : name ≡ q = sym (same_names q name same) in
          rw is (subst (λ (n : CellName). right_cell n cell) q_is right)
      go q false apart =
          let is : fin.get (fin.insert entries name cell) q ≡ fin.get entries q =
          fin.get-insert names_total entries name cell q ∙ ap (λ b. cond b (Some cell) (fin.get entries q)) (tied q name ∙ apart) in
          rw is (all q)

module _ {U : Type 0} where
  pub others_are_read : (is_unit : U → Type 0) (reads_of : U → List CellName) (name : CellName) (waiting : List LookUp) → AreRead is_unit reads_of waiting
      → AreRead is_unit reads_of (others name waiting)
  others_are_read is_unit reads_of name [] read = tt
  others_are_read is_unit reads_of name (l ∷ ls) read = go (same_name l.name name) (others_are_read is_unit reads_of name ls read.1)
    where
      go : (b : Bool) → AreRead is_unit reads_of (others name ls) → AreRead is_unit reads_of (cond (not b) (l ∷ others name ls) (others name ls))
      go true rest = rest
      go false rest = (read.0, rest)

-- a bin of no entries
pub empty_is_right : {A C U : Type 0} (app : Option A) (right_cell : A → CellName → C → Type 0) (is_unit : A → U → Type 0) (reads_of : A → U → List CellName) (bin : BinData C)
    → bin.entries ≡ fin.empty → bin.waiting ≡ [] → IfSome app (λ a. AreRight (right_cell a) bin.entries × AreRead (is_unit a) (reads_of a) bin.waiting)
empty_is_right None right_cell is_unit reads_of bin entries waiting = tt
empty_is_right (Some a) right_cell is_unit reads_of bin entries waiting = rw (entries, waiting) (none_are_right (right_cell a), tt)

-- a bin after a put, which may have been refused
pub put_is_right : {A C U T E : Type 0} (app : Option A) (right_cell : A → CellName → C → Type 0) (is_unit : A → U → Type 0) (reads_of : A → U → List CellName) (old new : BinData C) (name : CellName) (cell : C) (r : Result T E)
    → IfSome app (λ a. right_cell a name cell)
    → IfSome app (λ a. AreRight (right_cell a) old.entries × AreRead (is_unit a) (reads_of a) old.waiting)
    → OnOk r (new.entries ≡ fin.insert old.entries name cell) → OnOk r (new.waiting ≡ others name old.waiting) → OnErr r (new ≡ old)
    → IfSome app (λ a. AreRight (right_cell a) new.entries × AreRead (is_unit a) (reads_of a) new.waiting)
put_is_right None right_cell is_unit reads_of old new name cell r right all entries waiting same = tt
put_is_right (Some a) right_cell is_unit reads_of old new name cell (Ok x) right all entries waiting same =
    rw (entries, waiting) (right_after_insert (right_cell a) old.entries name cell right all.0, others_are_read (is_unit a) (reads_of a) name old.waiting all.1)
put_is_right (Some a) right_cell is_unit reads_of old new name cell (Err e) right all entries waiting same = rw same all
