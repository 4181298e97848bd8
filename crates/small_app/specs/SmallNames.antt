-- Who creates each future of the small application, which units put and erase an entry, where its units are, and what
-- the eraser waits for.
use Rattle.std.proofs.Common.{◌≡◌, ◌≢◌, ◌⊎◌, ℕ, zero, suc, ◌<◌, Bool, true, false, List, [], ◌∷◌, refl, sym, ap, subst, ◌∙◌, inl, inr, arith}
use Rattle.std.specs.Prelude.{Option, Some, None, slice_get, slice_index, if◌then◌else◌, ◌==◌, Contains}
use Rattle.app_core.specs.declared.Label.{Label}
use Rattle.app_core.specs.declared.CellName.{CellName}
use Rattle.app_core.specs.declared.Outline.{Outline}
use Rattle.app_core.specs.declared.Outline.TheVariants as of
use Rattle.app_core.specs.Given.{Given}
use Rattle.app_core.proofs.CountLemmas.{some_is}
use Rattle.app_core.specs.Outlines.{named}
use Rattle.event_laws.specs.Trees.{unit_of, BringsUp, SpawnsNot, IsOnce, IsPlaced, IsAbove, same, above, GivesAfterPut, ErasesWait}
use Rattle.small_app.specs.declared.unit.Unit.{Unit}
use Rattle.small_app.specs.declared.unit.Unit.TheVariants.{Fill, Leaf, Sum, Clear, Read, Count, Total, Guessed}
use Rattle.small_app.specs.declared.guess.GuessUnit.{GuessUnit}
use Rattle.small_app.specs.declared.guess.GuessUnit.TheVariants.{Guess, Early, Late}
use Rattle.small_app.specs.Guess.{guess_result, guess_future, guess_entry, early_step}
use Rattle.small_app.specs.Small.{first_result, last_result, leaf_future, read_future, count_future, leaf_entry, leaf_value, label_of, due_of, needs_of, home_of, kept_at, step_of, told, IsUnit, MayDo}
use Rattle.small_app.specs.SmallUnits.{program, home, needs, dues, parent, raiser}
use Rattle.small_app.specs.SmallLaws.{first_rank}
use Rattle.small_app.specs.SmallTree.{spawn, by_start, by_label, by_spawn, by_outline}

-- futures

no_label : {A : Type 0} (l : Label) → Contains [] l → A
no_label l (k, lt, e) = absurd (omega (arith, lt))

-- where a fact holds of each of a few labels, it holds of one that they contain
one_label : (P : Label → Type 0) (a l : Label) → P a → Contains (a ∷ []) l → P l
one_label P a l p (zero, lt, e) = subst P e p
one_label P a l p (suc k, lt, e) = absurd (omega (arith, lt))

two_labels : (P : Label → Type 0) (a b l : Label) → P a → P b → Contains (a ∷ b ∷ []) l → P l
two_labels P a b l p q (zero, lt, e) = subst P e p
two_labels P a b l p q (suc zero, lt, e) = subst P e q
two_labels P a b l p q (suc (suc k), lt, e) = absurd (omega (arith, lt))

three_labels : (P : Label → Type 0) (a b c l : Label) → P a → P b → P c → Contains (a ∷ b ∷ c ∷ []) l → P l
three_labels P a b c l p q r (zero, lt, e) = subst P e p
three_labels P a b c l p q r (suc zero, lt, e) = subst P e q
three_labels P a b c l p q r (suc (suc zero), lt, e) = subst P e r
three_labels P a b c l p q r (suc (suc (suc k)), lt, e) = absurd (omega (arith, lt))

-- a spawn is told by its unit, with its due
due_is : (ranks : ℕ) (unit : Unit) → due_of unit ≡ dues (label_of unit) → (u : Label) (d : Option Label) (ns : List Label) (h : ℕ) → spawn ranks unit ≡ of.Spawn u d ns h → d ≡ dues u
due_is ranks unit is u d ns h e = let a : label_of unit ≡ u = cc in let b : due_of unit ≡ d = cc in sym b ∙ is ∙ ap dues a

pub futures : (ranks : ℕ) → BringsUp (program ranks) (MayDo ranks) raiser dues
futures ranks = record {
  starts = λ k o l e n. by_start ranks (λ k o. (l : Label) → Contains (named o) l → raiser l ≡ None)
      (λ l n. one_label (λ l. raiser l ≡ None) first_result l refl n)
      (λ l n. one_label (λ l. raiser l ≡ None) read_future l refl n)
      (λ l n. one_label (λ l. raiser l ≡ None) count_future l refl n)
      (λ l n. three_labels (λ l. raiser l ≡ None) last_result read_future count_future l refl refl refl n)
      (λ l n. one_label (λ l. raiser l ≡ None) guess_future l refl n)
      (λ l n. two_labels (λ l. raiser l ≡ None) guess_result guess_future l refl refl n) k o e l n;
  steps = λ p os i o l m e n other. by_label ranks (λ p i o. (l : Label) → Contains (named o) l → dues p ≢ Some l → raiser l ≡ Some p) (record {
    left = λ l n other. one_label (λ l. raiser l ≡ Some (label_of Fill)) (leaf_future false) l refl n;
    right = λ l n other. one_label (λ l. raiser l ≡ Some (label_of Fill)) (leaf_future true) l refl n;
    sum = λ l n other. three_labels (λ l. dues (label_of Fill) ≢ Some l → raiser l ≡ Some (label_of Fill)) first_result (leaf_future false) (leaf_future true) l (λ o. absurd (o refl)) (λ _. refl) (λ _. refl) n other;
    put = λ _ _ l n other. no_label l n;
    leaf_gives = λ _ _ l n other. no_label l n;
    clear = λ l n other. no_label l n;
    sum_gives = λ l n other. no_label l n;
    erase = λ l n other. no_label l n;
    read_gives = λ l n other. no_label l n;
    count_gives = λ l n other. no_label l n;
    total_gives = λ l n other. no_label l n;
    guess_gives = λ l n other. no_label l n;
    early_puts = λ l n other. no_label l n;
    early_gives = λ l n other. no_label l n;
    late = λ l n other. one_label (λ l. dues (label_of (Guessed Early)) ≢ Some l → raiser l ≡ Some (label_of (Guessed Early))) guess_result l (λ o. absurd (o refl)) n other;
    late_puts = λ l n other. no_label l n;
    late_gives = λ l n other. no_label l n;
  }) p os i o m e l n other;
  start_due = λ k u d ns h e. by_start ranks (λ k o. (u : Label) (d : Option Label) (ns : List Label) (h : ℕ) → o ≡ of.Spawn u d ns h → d ≡ dues u)
      (due_is ranks Fill refl) (due_is ranks Read refl) (due_is ranks Count refl) (due_is ranks Total refl) (due_is ranks (Guessed Guess) refl) (due_is ranks (Guessed Early) refl) k (of.Spawn u d ns h) e u d ns h refl;
  step_due = by_spawn ranks (λ _ u d _ _. d ≡ dues u)
      (due_is ranks (Leaf false (leaf_value false)) refl) (due_is ranks (Leaf true (leaf_value true)) refl) (due_is ranks Sum refl) (due_is ranks Clear refl) (due_is ranks (Guessed Late) refl);
}

-- homes and needs

-- where it goes and what it needs; with needs, it goes where its spawner is
abbrev Placed : ℕ → ℕ → Label → List Label → ℕ → Type 0
Placed ranks from u ns h = (h ≡ home ranks u) × (ns ≡ needs u) × (ns ≢ [] → h ≡ from)

placed_as : (ranks from : ℕ) (unit : Unit) → Placed ranks from (label_of unit) (needs_of unit) (home_of unit ranks) → (u : Label) (d : Option Label) (ns : List Label) (h : ℕ) → spawn ranks unit ≡ of.Spawn u d ns h → Placed ranks from u ns h
placed_as ranks from unit is u d ns h e =
    let a : label_of unit ≡ u = cc in
    let b : needs_of unit ≡ ns = cc in
    let c : home_of unit ranks ≡ h = cc in
    subst (λ (z : Label). Placed ranks from z ns h) a (subst (λ (z : List Label). Placed ranks from (label_of unit) z h) b (subst (λ (z : ℕ). Placed ranks from (label_of unit) (needs_of unit) z) c is))

needless : (ranks from : ℕ) (unit : Unit) → home_of unit ranks ≡ home ranks (label_of unit) → needs_of unit ≡ needs (label_of unit) → needs_of unit ≡ [] → Placed ranks from (label_of unit) (needs_of unit) (home_of unit ranks)
needless ranks from unit h n e = (h, n, λ some. absurd (some e))

pub places : (ranks : ℕ) → IsPlaced (program ranks) (MayDo ranks) (home ranks) needs
places ranks = record {
  starts = λ k u d ns h e. by_start ranks (λ k o. (u : Label) (d : Option Label) (ns : List Label) (h : ℕ) → o ≡ of.Spawn u d ns h → Placed ranks 0 u ns h)
      (placed_as ranks 0 Fill (needless ranks 0 Fill refl refl refl)) (placed_as ranks 0 Read (needless ranks 0 Read refl refl refl)) (placed_as ranks 0 Count (needless ranks 0 Count refl refl refl))
      (placed_as ranks 0 Total (refl, refl, (λ _. first_rank ranks)))
      (placed_as ranks 0 (Guessed Guess) (needless ranks 0 (Guessed Guess) refl refl refl)) (placed_as ranks 0 (Guessed Early) (refl, refl, (λ _. first_rank ranks))) k (of.Spawn u d ns h) e u d ns h refl;
  steps = by_spawn ranks (λ p u _ ns h. Placed ranks (home ranks p) u ns h)
      (placed_as ranks (home ranks (label_of Fill)) (Leaf false (leaf_value false)) (needless ranks _ (Leaf false (leaf_value false)) refl refl refl))
      (placed_as ranks (home ranks (label_of Fill)) (Leaf true (leaf_value true)) (needless ranks _ (Leaf true (leaf_value true)) refl refl refl))
      (placed_as ranks (home ranks (label_of Fill)) Sum (refl, refl, (λ _. refl)))
      (placed_as ranks (home ranks (label_of Sum)) Clear (needless ranks _ Clear refl refl refl))
      (placed_as ranks (home ranks (label_of (Guessed Early))) (Guessed Late) (needless ranks _ (Guessed Late) refl refl refl));
}

-- entries

-- the leaf of an entry
abbrev putter : CellName → Label
putter c = if c.place == 2 then leaf_future false else leaf_future true

-- the unit is the leaf of an entry of version 1
abbrev IsLeafPut : Label → ℕ → CellName → Type 0
IsLeafPut p i c = (p ≡ putter c) × (i ≡ 0) × (c.version ≡ 1)

-- the unit is the late one, or the early one that doesn't spawn it, of version 2
abbrev IsGuessPut : Label → List Outline → ℕ → CellName → Type 0
IsGuessPut p os i c = ((p ≡ label_of (Guessed Late)) ⊎ ((p ≡ label_of (Guessed Early)) × SpawnsNot parent p os (label_of (Guessed Late)))) × (i ≡ 0) × (c.version ≡ 2)

leaf_puts : (right : Bool) (c : CellName) → of.Put (leaf_entry right) ≡ of.Put c → IsLeafPut (leaf_future right) 0 c
leaf_puts false c e = let z : leaf_entry false ≡ c = cc in (ap putter z, refl, ap (λ (n : CellName). n.version) (sym z))
leaf_puts true c e = let z : leaf_entry true ≡ c = cc in (ap putter z, refl, ap (λ (n : CellName). n.version) (sym z))

guess_version : (c : CellName) → Some (of.Put guess_entry) ≡ Some (of.Put c) → c.version ≡ 2
guess_version c e = let z : guess_entry ≡ c = cc in ap (λ (n : CellName). n.version) (sym z)

-- with the entry put, the early unit spawns nothing
spawns_not : (ranks : ℕ) → SpawnsNot parent (label_of (Guessed Early)) (told ranks (early_step true)) (label_of (Guessed Late))
spawns_not ranks = record { spawner = refl; none = nothing }
  where
    nothing : (i : ℕ) (o : Outline) → slice_get (told ranks (early_step true)) i ≡ Some o → unit_of o ≡ Some (label_of (Guessed Late)) → ⊥
    nothing zero o e s = let a : None ≡ Some (label_of (Guessed Late)) = ap unit_of (some_is _ o e) ∙ s in cc
    nothing (suc zero) o e s = let a : None ≡ Some (label_of (Guessed Late)) = ap unit_of (some_is _ o e) ∙ s in cc
    nothing (suc (suc i)) o e s = absurd (cc)

unit_puts : (ranks : ℕ) (unit : Unit) (given : Given ℕ ℕ) (i : ℕ) (c : CellName) → slice_get (told ranks (step_of unit given)) i ≡ Some (of.Put c)
    → IsLeafPut (label_of unit) i c ⊎ IsGuessPut (label_of unit) (told ranks (step_of unit given)) i c
unit_puts ranks Fill given zero c e = absurd (cc)
unit_puts ranks Fill given (suc zero) c e = absurd (cc)
unit_puts ranks Fill given (suc (suc zero)) c e = absurd (cc)
unit_puts ranks Fill given (suc (suc (suc i))) c e = absurd (cc)
unit_puts ranks (Leaf right value) given zero c e = inl (leaf_puts right c (some_is _ _ e))
unit_puts ranks (Leaf right value) given (suc zero) c e = absurd (cc)
unit_puts ranks (Leaf right value) given (suc (suc i)) c e = absurd (cc)
unit_puts ranks Sum given zero c e = absurd (cc)
unit_puts ranks Sum given (suc zero) c e = absurd (cc)
unit_puts ranks Sum given (suc (suc i)) c e = absurd (cc)
unit_puts ranks Clear given zero c e = absurd (cc)
unit_puts ranks Clear given (suc i) c e = absurd (cc)
unit_puts ranks Read given zero c e = absurd (cc)
unit_puts ranks Read given (suc i) c e = absurd (cc)
unit_puts ranks Count given zero c e = absurd (cc)
unit_puts ranks Count given (suc i) c e = absurd (cc)
unit_puts ranks Total given zero c e = absurd (cc)
unit_puts ranks Total given (suc i) c e = absurd (cc)
unit_puts ranks (Guessed Guess) given zero c e = absurd (cc)
unit_puts ranks (Guessed Guess) given (suc i) c e = absurd (cc)
unit_puts ranks (Guessed Early) given i c e = go (slice_index given.values 0 == 0) i e
  where
    go : (b : Bool) (i : ℕ) → slice_get (told ranks (early_step b)) i ≡ Some (of.Put c) → IsLeafPut (label_of (Guessed Early)) i c ⊎ IsGuessPut (label_of (Guessed Early)) (told ranks (early_step b)) i c
    go true zero e = inr (inr (refl, spawns_not ranks), refl, guess_version c e)
    go true (suc zero) e = absurd (cc)
    go true (suc (suc i)) e = absurd (cc)
    go false zero e = absurd (cc)
    go false (suc i) e = absurd (cc)
unit_puts ranks (Guessed Late) given zero c e = inr (inl refl, refl, guess_version c e)
unit_puts ranks (Guessed Late) given (suc zero) c e = absurd (cc)
unit_puts ranks (Guessed Late) given (suc (suc i)) c e = absurd (cc)

one_put : (ranks : ℕ) (p : Label) (os : List Outline) (i : ℕ) (c : CellName) → MayDo ranks p os → slice_get os i ≡ Some (of.Put c) → IsLeafPut p i c ⊎ IsGuessPut p os i c
one_put ranks p os i c (unit, given, is, label, right, lists) e =
    subst (λ (z : List Outline). IsLeafPut p i c ⊎ IsGuessPut p z i c) (sym lists)
    (subst (λ (z : Label). IsLeafPut z i c ⊎ IsGuessPut z (told ranks (step_of unit given)) i c) label
    (unit_puts ranks unit given i c (subst (λ (z : List Outline). slice_get z i ≡ Some (of.Put c)) lists e)))

first_place : (p : Label) (os : List Outline) (i : ℕ) (c : CellName) → IsLeafPut p i c ⊎ IsGuessPut p os i c → i ≡ 0
first_place p os i c (inl leaf) = leaf.1
first_place p os i c (inr guess) = guess.1

-- only one unit erases, an entry alone
pub unit_erases : (ranks : ℕ) (unit : Unit) (given : Given ℕ ℕ) (i : ℕ) (c : CellName) → slice_get (told ranks (step_of unit given)) i ≡ Some (of.Erase c) → (label_of unit ≡ label_of Clear) × (i ≡ 0) × (c ≡ leaf_entry true)
unit_erases ranks unit given i c e = by_outline ranks (λ unit i o. (c : CellName) → o ≡ of.Erase c → (label_of unit ≡ label_of Clear) × (i ≡ 0) × (c ≡ leaf_entry true)) (record {
  left = λ c e. absurd (cc);
  right = λ c e. absurd (cc);
  sum = λ c e. absurd (cc);
  put = λ _ _ c e. absurd (cc);
  leaf_gives = λ _ _ c e. absurd (cc);
  clear = λ c e. absurd (cc);
  sum_gives = λ c e. absurd (cc);
  erase = λ c e. let z : leaf_entry true ≡ c = cc in (refl, refl, sym z);
  read_gives = λ c e. absurd (cc);
  count_gives = λ c e. absurd (cc);
  total_gives = λ c e. absurd (cc);
  guess_gives = λ c e. absurd (cc);
  early_puts = λ c e. absurd (cc);
  early_gives = λ c e. absurd (cc);
  late = λ c e. absurd (cc);
  late_puts = λ c e. absurd (cc);
  late_gives = λ c e. absurd (cc);
}) unit given i (of.Erase c) e c refl

pub one_erase : (ranks : ℕ) (p : Label) (os : List Outline) (i : ℕ) (c : CellName) → MayDo ranks p os → slice_get os i ≡ Some (of.Erase c) → (p ≡ label_of Clear) × (i ≡ 0) × (c ≡ leaf_entry true)
one_erase ranks p os i c (unit, given, is, label, right, lists) e =
    let erases = unit_erases ranks unit given i c (subst (λ (z : List Outline). slice_get z i ≡ Some (of.Erase c)) lists e) in
    (sym label ∙ erases.0, erases.1, erases.2)

-- two units that put an entry are one, or the early one and the late one, which the early one then doesn't spawn
apart : (p q : Label) (os ps : List Outline) (i j : ℕ) (c : CellName) → IsLeafPut p i c ⊎ IsGuessPut p os i c → IsLeafPut q j c ⊎ IsGuessPut q ps j c
    → (p ≡ q) ⊎ (SpawnsNot parent p os q ⊎ SpawnsNot parent q ps p)
apart p q os ps i j c (inl a) (inl b) = inl (a.0 ∙ sym b.0)
apart p q os ps i j c (inl a) (inr b) = absurd (let z = a.2 in let y = b.2 in omega (arith, z, y))
apart p q os ps i j c (inr a) (inl b) = absurd (let z = a.2 in let y = b.2 in omega (arith, z, y))
apart p q os ps i j c (inr a) (inr b) = guesses a.0 b.0
  where
    guesses : (p ≡ label_of (Guessed Late)) ⊎ ((p ≡ label_of (Guessed Early)) × SpawnsNot parent p os (label_of (Guessed Late)))
        → (q ≡ label_of (Guessed Late)) ⊎ ((q ≡ label_of (Guessed Early)) × SpawnsNot parent q ps (label_of (Guessed Late)))
        → (p ≡ q) ⊎ (SpawnsNot parent p os q ⊎ SpawnsNot parent q ps p)
    guesses (inl a) (inl b) = inl (a ∙ sym b)
    guesses (inl a) (inr b) = inr (inr (subst (λ (z : Label). SpawnsNot parent q ps z) (sym a) b.1))
    guesses (inr a) (inl b) = inr (inl (subst (λ (z : Label). SpawnsNot parent p os z) (sym b) a.1))
    guesses (inr a) (inr b) = inl (a.0 ∙ sym b.0)

pub puts_once : (ranks : ℕ) → IsOnce (MayDo ranks) parent (λ c. of.Put c)
puts_once ranks = record {
  unit = λ p q os ps i j c m n e f. apart p q os ps i j c (one_put ranks p os i c m e) (one_put ranks q ps j c n f);
  place = λ p os i j c m e f. first_place p os i c (one_put ranks p os i c m e) ∙ sym (first_place p os j c (one_put ranks p os j c m f));
}

pub erases_once : (ranks : ℕ) → IsOnce (MayDo ranks) parent (λ c. of.Erase c)
erases_once ranks = record {
  unit = λ p q os ps i j c m n e f. inl ((one_erase ranks p os i c m e).0 ∙ sym (one_erase ranks q ps j c n f).0);
  place = λ p os i j c m e f. (one_erase ranks p os i c m e).1 ∙ sym (one_erase ranks p os j c m f).1;
}

-- the unit above the eraser needs the right leaf's future, which the leaf gives after its put
leaf_after : (ranks : ℕ) → GivesAfterPut (MayDo ranks) (home ranks) (leaf_future true) (leaf_entry true) (home ranks (label_of Clear))
leaf_after ranks w os i h m e = go m e
  where
    leaf_gives : (right : Bool) (value : ℕ) (given : Given ℕ ℕ) (i : ℕ) → leaf_future right ≡ leaf_future true → slice_get (told ranks (step_of (Leaf right value) given)) i ≡ Some (of.Give (leaf_future true) h)
        → (home ranks (leaf_future right) ≡ home ranks (label_of Clear)) × ((k : ℕ) × (k < i) × (slice_get (told ranks (step_of (Leaf right value) given)) k ≡ Some (of.Put (leaf_entry true))))
    leaf_gives false value given i is e = absurd (let z : 2 ≡ 3 = ap (λ (l : Label). l.place) is in omega (arith, z))
    leaf_gives true value given zero is e = absurd (cc)
    leaf_gives true value given (suc i) is e = (refl, (0, omega arith, refl))

    other : (l : Label) (at : ℕ) → l.command ≡ 5 → Some (of.Give l at) ≡ Some (of.Give (leaf_future true) h) → ⊥
    other l at is e = let z : l ≡ leaf_future true = cc in let y : 5 ≡ 1 = sym is ∙ ap (λ (n : Label). n.command) z in omega (arith, y)

    guess_gives : (unit : GuessUnit) (given : Given ℕ ℕ) (i : ℕ) → slice_get (told ranks (step_of (Guessed unit) given)) i ≡ Some (of.Give (leaf_future true) h) → ⊥
    guess_gives Guess given zero e = other guess_future (kept_at guess_future ranks) refl e
    guess_gives Guess given (suc i) e = absurd (cc)
    guess_gives Early given i e = on_guess (slice_index given.values 0 == 0) i e
      where
        on_guess : (b : Bool) (i : ℕ) → slice_get (told ranks (early_step b)) i ≡ Some (of.Give (leaf_future true) h) → ⊥
        on_guess true zero e = absurd (cc)
        on_guess true (suc zero) e = other guess_result (kept_at guess_result ranks) refl e
        on_guess true (suc (suc i)) e = absurd (cc)
        on_guess false zero e = absurd (cc)
        on_guess false (suc i) e = absurd (cc)
    guess_gives Late given zero e = absurd (cc)
    guess_gives Late given (suc zero) e = other guess_result (kept_at guess_result ranks) refl e
    guess_gives Late given (suc (suc i)) e = absurd (cc)

    gives : (unit : Unit) (given : Given ℕ ℕ) (i : ℕ) → IsUnit unit → slice_get (told ranks (step_of unit given)) i ≡ Some (of.Give (leaf_future true) h)
        → (home ranks (label_of unit) ≡ home ranks (label_of Clear)) × ((k : ℕ) × (k < i) × (slice_get (told ranks (step_of unit given)) k ≡ Some (of.Put (leaf_entry true))))
    gives Fill given zero is e = absurd (cc)
    gives Fill given (suc zero) is e = absurd (cc)
    gives Fill given (suc (suc zero)) is e = absurd (cc)
    gives Fill given (suc (suc (suc i))) is e = absurd (cc)
    gives (Leaf right value) given zero is e = absurd (cc)
    gives (Leaf right value) given (suc zero) is e = leaf_gives right value given 1 (let z : leaf_future right ≡ leaf_future true = cc in z) e
    gives (Leaf right value) given (suc (suc i)) is e = absurd (cc)
    gives Sum given zero is e = absurd (cc)
    gives Sum given (suc zero) is e = absurd (let z : first_result ≡ leaf_future true = cc in let y : 1 ≡ 3 = ap (λ (l : Label). l.place) z in omega (arith, y))
    gives Sum given (suc (suc i)) is e = absurd (cc)
    gives Clear given zero is e = absurd (cc)
    gives Clear given (suc i) is e = absurd (cc)
    gives Read given zero is e = absurd (let z : read_future ≡ leaf_future true = cc in let y : 3 ≡ 1 = ap (λ (l : Label). l.command) z in omega (arith, y))
    gives Read given (suc i) is e = absurd (cc)
    gives Count given zero is e = absurd (let z : count_future ≡ leaf_future true = cc in let y : 3 ≡ 1 = ap (λ (l : Label). l.command) z in omega (arith, y))
    gives Count given (suc i) is e = absurd (cc)
    gives Total given zero is e = absurd (let z : last_result ≡ leaf_future true = cc in let y : 3 ≡ 1 = ap (λ (l : Label). l.command) z in omega (arith, y))
    gives Total given (suc i) is e = absurd (cc)
    gives (Guessed unit) given i is e = absurd (guess_gives unit given i e)

    go : MayDo ranks w os → slice_get os i ≡ Some (of.Give (leaf_future true) h) → (home ranks w ≡ home ranks (label_of Clear)) × ((k : ℕ) × (k < i) × (slice_get os k ≡ Some (of.Put (leaf_entry true))))
    go (unit, given, is, label, right, lists) e =
        let g = gives unit given i is (subst (λ (z : List Outline). slice_get z i ≡ Some (of.Give (leaf_future true) h)) lists e) in
        (subst (λ (z : Label). home ranks z ≡ home ranks (label_of Clear)) label g.0, (g.1.0, g.1.1, subst (λ (z : List Outline). slice_get z g.1.0 ≡ Some (of.Put (leaf_entry true))) (sym lists) g.1.2))

pub eraser_waits : (ranks : ℕ) → ErasesWait (MayDo ranks) parent (home ranks) needs
eraser_waits ranks = record {
  waits_for = λ p os i c m e.
      let one = one_erase ranks p os i c m e in
      let is : label_of Clear ≡ p = sym one.0 in
      let entry : leaf_entry true ≡ c = sym one.2 in (
        label_of Sum,
        leaf_future true,
        subst (λ (z : Label). IsAbove parent (label_of Sum) z) is (above (label_of Clear) (label_of Sum) refl (same (label_of Sum) refl)),
        (1, omega arith, refl),
        subst (λ (z : CellName). GivesAfterPut (MayDo ranks) (home ranks) (leaf_future true) z (home ranks p)) entry (subst (λ (z : Label). GivesAfterPut (MayDo ranks) (home ranks) (leaf_future true) (leaf_entry true) (home ranks z)) is (leaf_after ranks)),
      );
}
