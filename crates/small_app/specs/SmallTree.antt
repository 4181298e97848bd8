-- The labels of the small application's units form a tree, and tell who creates each future.
use Rattle.std.proofs.Common.{◌≡◌, ℕ, zero, suc, Bool, true, false, List, refl, sym, ap, subst, ◌∙◌}
use Rattle.std.specs.Prelude.{Option, Some, None, slice_get, slice_index, if◌then◌else◌, ◌==◌}
use Rattle.app_core.specs.declared.Label.{Label}
use Rattle.app_core.specs.declared.Outline.{Outline}
use Rattle.app_core.specs.declared.Outline.TheVariants as of
use Rattle.app_core.specs.Given.{Given}
use Rattle.app_core.proofs.CountLemmas.{some_is}
use Rattle.event_laws.specs.Follows.{Start, Wait}
use Rattle.event_laws.specs.Trees.{unit_of, LabelsAreTree}
use Rattle.small_app.specs.declared.unit.Unit.{Unit}
use Rattle.small_app.specs.declared.unit.Unit.TheVariants.{Fill, Leaf, Sum, Clear, Read, Count, Total, Guessed}
use Rattle.small_app.specs.declared.guess.GuessUnit.TheVariants.{Guess, Early, Late}
use Rattle.small_app.specs.Guess.{guess_result, guess_future, guess_entry, early_step}
use Rattle.small_app.specs.Small.{first_result, last_result, leaf_future, read_future, count_future, leaf_entry, leaf_value, label_of, due_of, needs_of, home_of, kept_at, step_of, told, IsUnit, MayDo}
use Rattle.small_app.specs.SmallUnits.{program, unit_at, parent}

-- a unit's own label tells the unit
pub at_label : (unit : Unit) → IsUnit unit → unit_at (label_of unit) ≡ unit
at_label Fill is = refl
at_label (Leaf false value) is = ap (Leaf false) (sym is)
at_label (Leaf true value) is = ap (Leaf true) (sym is)
at_label Sum is = refl
at_label Clear is = refl
at_label Read is = refl
at_label Count is = refl
at_label Total is = refl
at_label (Guessed Guess) is = refl
at_label (Guessed Early) is = refl
at_label (Guessed Late) is = refl

-- the effect that spawns a unit
abbrev pub spawn : ℕ → Unit → Outline
spawn ranks unit = of.Spawn (label_of unit) (due_of unit) (needs_of unit) (home_of unit ranks)

-- each start of the program
pub by_start : (ranks : ℕ) (P : ℕ → Outline → Type 0) → P 0 (spawn ranks Fill) → P 2 (spawn ranks Read) → P 3 (spawn ranks Count) → P 4 (spawn ranks Total)
    → P 6 (spawn ranks (Guessed Guess)) → P 7 (spawn ranks (Guessed Early))
    → (k : ℕ) (o : Outline) → slice_get (program ranks) k ≡ Some (Start o) → P k o
by_start ranks P fill read count total guess early k o e = go k e
  where
    go : (k : ℕ) → slice_get (program ranks) k ≡ Some (Start o) → P k o
    go zero e = subst (P 0) (let z : Start (spawn ranks Fill) ≡ Start o = cc in cc) fill
    go (suc zero) e = absurd (let z : Wait ≡ Start o = cc in cc)
    go (suc (suc zero)) e = subst (P 2) (let z : Start (spawn ranks Read) ≡ Start o = cc in cc) read
    go (suc (suc (suc zero))) e = subst (P 3) (let z : Start (spawn ranks Count) ≡ Start o = cc in cc) count
    go (suc (suc (suc (suc zero)))) e = subst (P 4) (let z : Start (spawn ranks Total) ≡ Start o = cc in cc) total
    go (suc (suc (suc (suc (suc zero))))) e = absurd (let z : Wait ≡ Start o = cc in cc)
    go (suc (suc (suc (suc (suc (suc zero)))))) e = subst (P 6) (let z : Start (spawn ranks (Guessed Guess)) ≡ Start o = cc in cc) guess
    go (suc (suc (suc (suc (suc (suc (suc zero))))))) e = subst (P 7) (let z : Start (spawn ranks (Guessed Early)) ≡ Start o = cc in cc) early
    go (suc (suc (suc (suc (suc (suc (suc (suc zero)))))))) e = absurd (let z : Wait ≡ Start o = cc in cc)
    go (suc (suc (suc (suc (suc (suc (suc (suc (suc k))))))))) e = absurd (cc)

-- what holds of an outline that spawns, and of one that doesn't
pub record OfOutlines (ranks : ℕ) (P : Unit → ℕ → Outline → Type 0) : Type 0 where
  pub left : P Fill 0 (spawn ranks (Leaf false (leaf_value false)))
  pub right : P Fill 1 (spawn ranks (Leaf true (leaf_value true)))
  pub sum : P Fill 2 (spawn ranks Sum)
  pub put : (right : Bool) (value : ℕ) → P (Leaf right value) 0 (of.Put (leaf_entry right))
  pub leaf_gives : (right : Bool) (value : ℕ) → P (Leaf right value) 1 (of.Give (leaf_future right) (kept_at (leaf_future right) ranks))
  pub clear : P Sum 0 (spawn ranks Clear)
  pub sum_gives : P Sum 1 (of.Give first_result (kept_at first_result ranks))
  pub erase : P Clear 0 (of.Erase (leaf_entry true))
  pub read_gives : P Read 0 (of.Give read_future (kept_at read_future ranks))
  pub count_gives : P Count 0 (of.Give count_future (kept_at count_future ranks))
  pub total_gives : P Total 0 (of.Give last_result (kept_at last_result ranks))
  pub guess_gives : P (Guessed Guess) 0 (of.Give guess_future (kept_at guess_future ranks))
  pub early_puts : P (Guessed Early) 0 (of.Put guess_entry)
  pub early_gives : P (Guessed Early) 1 (of.Give guess_result (kept_at guess_result ranks))
  pub late : P (Guessed Early) 0 (spawn ranks (Guessed Late))
  pub late_puts : P (Guessed Late) 0 (of.Put guess_entry)
  pub late_gives : P (Guessed Late) 1 (of.Give guess_result (kept_at guess_result ranks))

pub by_outline : (ranks : ℕ) (P : Unit → ℕ → Outline → Type 0) → OfOutlines ranks P → (unit : Unit) (given : Given ℕ ℕ) (i : ℕ) (o : Outline) → slice_get (told ranks (step_of unit given)) i ≡ Some o → P unit i o
by_outline ranks P h Fill given zero o e = subst (P Fill 0) (some_is _ o e) h.left
by_outline ranks P h Fill given (suc zero) o e = subst (P Fill 1) (some_is _ o e) h.right
by_outline ranks P h Fill given (suc (suc zero)) o e = subst (P Fill 2) (some_is _ o e) h.sum
by_outline ranks P h Fill given (suc (suc (suc i))) o e = absurd (cc)
by_outline ranks P h (Leaf right value) given zero o e = subst (P (Leaf right value) 0) (some_is _ o e) (h.put right value)
by_outline ranks P h (Leaf right value) given (suc zero) o e = subst (P (Leaf right value) 1) (some_is _ o e) (h.leaf_gives right value)
by_outline ranks P h (Leaf right value) given (suc (suc i)) o e = absurd (cc)
by_outline ranks P h Sum given zero o e = subst (P Sum 0) (some_is _ o e) h.clear
by_outline ranks P h Sum given (suc zero) o e = subst (P Sum 1) (some_is _ o e) h.sum_gives
by_outline ranks P h Sum given (suc (suc i)) o e = absurd (cc)
by_outline ranks P h Clear given zero o e = subst (P Clear 0) (some_is _ o e) h.erase
by_outline ranks P h Clear given (suc i) o e = absurd (cc)
by_outline ranks P h Read given zero o e = subst (P Read 0) (some_is _ o e) h.read_gives
by_outline ranks P h Read given (suc i) o e = absurd (cc)
by_outline ranks P h Count given zero o e = subst (P Count 0) (some_is _ o e) h.count_gives
by_outline ranks P h Count given (suc i) o e = absurd (cc)
by_outline ranks P h Total given zero o e = subst (P Total 0) (some_is _ o e) h.total_gives
by_outline ranks P h Total given (suc i) o e = absurd (cc)
by_outline ranks P h (Guessed Guess) given zero o e = subst (P (Guessed Guess) 0) (some_is _ o e) h.guess_gives
by_outline ranks P h (Guessed Guess) given (suc i) o e = absurd (cc)
by_outline ranks P h (Guessed Early) given i o e = go (slice_index given.values 0 == 0) i e
  where
    go : (b : Bool) (i : ℕ) → slice_get (told ranks (early_step b)) i ≡ Some o → P (Guessed Early) i o
    go true zero e = subst (P (Guessed Early) 0) (some_is _ o e) h.early_puts
    go true (suc zero) e = subst (P (Guessed Early) 1) (some_is _ o e) h.early_gives
    go true (suc (suc i)) e = absurd (cc)
    go false zero e = subst (P (Guessed Early) 0) (some_is _ o e) h.late
    go false (suc i) e = absurd (cc)
by_outline ranks P h (Guessed Late) given zero o e = subst (P (Guessed Late) 0) (some_is _ o e) h.late_puts
by_outline ranks P h (Guessed Late) given (suc zero) o e = subst (P (Guessed Late) 1) (some_is _ o e) h.late_gives
by_outline ranks P h (Guessed Late) given (suc (suc i)) o e = absurd (cc)

-- the same of what a label allows
pub by_label : (ranks : ℕ) (P : Label → ℕ → Outline → Type 0) → OfOutlines ranks (λ unit. P (label_of unit)) → (p : Label) (os : List Outline) (i : ℕ) (o : Outline) → MayDo ranks p os → slice_get os i ≡ Some o → P p i o
by_label ranks P h p os i o (unit, given, is, label, right, lists) e = subst (λ (z : Label). P z i o) label (by_outline ranks (λ u. P (label_of u)) h unit given i o (subst (λ (z : List Outline). slice_get z i ≡ Some o) lists e))

-- what is to be shown of the spawn of a unit by the unit of a label: by its label, its due, its needs and its home
abbrev pub Spawned : (Label → Label → Option Label → List Label → ℕ → Type 0) → ℕ → Label → Unit → Type 0
Spawned P ranks p unit = (u : Label) (d : Option Label) (ns : List Label) (h : ℕ) → spawn ranks unit ≡ of.Spawn u d ns h → P p u d ns h

-- each spawn of a step
pub by_spawn :
    (ranks : ℕ) (P : Label → Label → Option Label → List Label → ℕ → Type 0) →
    Spawned P ranks (label_of Fill) (Leaf false (leaf_value false)) →
    Spawned P ranks (label_of Fill) (Leaf true (leaf_value true)) →
    Spawned P ranks (label_of Fill) Sum →
    Spawned P ranks (label_of Sum) Clear →
    Spawned P ranks (label_of (Guessed Early)) (Guessed Late) →
    (p : Label) (os : List Outline) (i : ℕ) (u : Label) (d : Option Label) (ns : List Label) (h : ℕ) →
    MayDo ranks p os →
    slice_get os i ≡ Some (of.Spawn u d ns h) →
    P p u d ns h
by_spawn ranks P left right sum clear late p os i u d ns h m e = by_label ranks (λ p i o. (u : Label) (d : Option Label) (ns : List Label) (h : ℕ) → o ≡ of.Spawn u d ns h → P p u d ns h) (record {
  left = left;
  right = right;
  sum = sum;
  put = λ _ _ u d ns h e. absurd (cc);
  leaf_gives = λ _ _ u d ns h e. absurd (cc);
  clear = clear;
  sum_gives = λ u d ns h e. absurd (cc);
  erase = λ u d ns h e. absurd (cc);
  read_gives = λ u d ns h e. absurd (cc);
  count_gives = λ u d ns h e. absurd (cc);
  total_gives = λ u d ns h e. absurd (cc);
  guess_gives = λ u d ns h e. absurd (cc);
  early_puts = λ u d ns h e. absurd (cc);
  early_gives = λ u d ns h e. absurd (cc);
  late = late;
  late_puts = λ u d ns h e. absurd (cc);
  late_gives = λ u d ns h e. absurd (cc);
}) p os i (of.Spawn u d ns h) m e u d ns h refl

-- a fact on a label is one on an equal one
moved : {A : Type 0} (f : Label → A) (a u : Label) (v : A) → f a ≡ v → Some a ≡ Some u → f u ≡ v
moved f a u v h e = ap f (sym (some_is a u e)) ∙ h

none : {A : Type 0} (u : Label) → None ≡ Some u → A
none u e = absurd (cc)

-- of the spawns alone
pub spawns_only : (ranks : ℕ) (Q : Label → ℕ → Label → Type 0) → Q (label_of Fill) 0 (leaf_future false) → Q (label_of Fill) 1 (leaf_future true) → Q (label_of Fill) 2 (label_of Sum) → Q (label_of Sum) 0 (label_of Clear) → Q (label_of (Guessed Early)) 0 (label_of (Guessed Late))
    → (p : Label) (os : List Outline) (i : ℕ) (o : Outline) (u : Label) → MayDo ranks p os → slice_get os i ≡ Some o → unit_of o ≡ Some u → Q p i u
spawns_only ranks Q left right sum clear late p os i o u m e unit = by_label ranks (λ p i o. (u : Label) → unit_of o ≡ Some u → Q p i u) (record {
  left = λ u s. subst (Q (label_of Fill) 0) (some_is _ u s) left;
  right = λ u s. subst (Q (label_of Fill) 1) (some_is _ u s) right;
  sum = λ u s. subst (Q (label_of Fill) 2) (some_is _ u s) sum;
  put = λ _ _ u s. none u s;
  leaf_gives = λ _ _ u s. none u s;
  clear = λ u s. subst (Q (label_of Sum) 0) (some_is _ u s) clear;
  sum_gives = λ u s. none u s;
  erase = λ u s. none u s;
  read_gives = λ u s. none u s;
  count_gives = λ u s. none u s;
  total_gives = λ u s. none u s;
  guess_gives = λ u s. none u s;
  early_puts = λ u s. none u s;
  early_gives = λ u s. none u s;
  late = λ u s. subst (Q (label_of (Guessed Early)) 0) (some_is _ u s) late;
  late_puts = λ u s. none u s;
  late_gives = λ u s. none u s;
}) p os i o m e u unit

pub starts_only : (ranks : ℕ) (Q : ℕ → Label → Type 0) → Q 0 (label_of Fill) → Q 2 (label_of Read) → Q 3 (label_of Count) → Q 4 (label_of Total) → Q 6 (label_of (Guessed Guess)) → Q 7 (label_of (Guessed Early))
    → (k : ℕ) (o : Outline) (u : Label) → slice_get (program ranks) k ≡ Some (Start o) → unit_of o ≡ Some u → Q k u
starts_only ranks Q fill read count total guess early k o u e unit = by_start ranks (λ k o. (u : Label) → unit_of o ≡ Some u → Q k u)
    (λ u s. subst (Q 0) (some_is _ u s) fill) (λ u s. subst (Q 2) (some_is _ u s) read) (λ u s. subst (Q 3) (some_is _ u s) count) (λ u s. subst (Q 4) (some_is _ u s) total)
    (λ u s. subst (Q 6) (some_is _ u s) guess) (λ u s. subst (Q 7) (some_is _ u s) early) k o e u unit

-- the place of a unit among the starts, and among the spawns of its parent
abbrev start_place : Label → ℕ
start_place l = if l.command == 1 then 0 else if l.command == 5 then (if l.part == 0 then 6 else 7) else if l.part == 1 then 4 else if l.place == 2 then 2 else 3

abbrev spawn_place : Label → ℕ
spawn_place l = if l.part == 1 then 2 else if l.part == 0 then (if l.place == 3 then 1 else 0) else 0

pub tree : (ranks : ℕ) → LabelsAreTree (program ranks) (MayDo ranks) parent
tree ranks = record {
  starts = starts_only ranks (λ k u. parent u ≡ None) refl refl refl refl refl refl;
  steps = spawns_only ranks (λ p i u. parent u ≡ Some p) refl refl refl refl refl;
  start_once = λ k j o q u e f s t. place k o u e s ∙ sym (place j q u f t);
  step_once = λ p os i j o q u m e f s t. among p os i o u m e s ∙ sym (among p os j q u m f t);
}
  where
    place : (k : ℕ) (o : Outline) (u : Label) → slice_get (program ranks) k ≡ Some (Start o) → unit_of o ≡ Some u → k ≡ start_place u
    place = starts_only ranks (λ k u. k ≡ start_place u) refl refl refl refl refl refl

    among : (p : Label) (os : List Outline) (i : ℕ) (o : Outline) (u : Label) → MayDo ranks p os → slice_get os i ≡ Some o → unit_of o ≡ Some u → i ≡ spawn_place u
    among = spawns_only ranks (λ p i u. i ≡ spawn_place u) refl refl refl refl refl
