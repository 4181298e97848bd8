-- What fills the places of a task stays right for their names.
use Rattle.std.proofs.Common.{◌≡◌, ℕ, zero, suc, List, [], ◌∷◌, Option, Some, None, length, map, Bool, true, false, refl, ap, sym, subst}
use Rattle.std.proofs.lemmas.List.{length-set}
use Rattle.std.specs.Prelude.{replicate, slice_get, slice_set}
use Rattle.app_core.specs.Inputs.{AreRight}
use Rattle.task_tables.specs.Places.{AreRightPlaces}

module _ {N T : Type 0} (right : N → T → Type 0) where
  pub empty_places : (ns : List N) → AreRightPlaces right ns (replicate (length ns) None)
  empty_places [] = tt
  empty_places (n ∷ ns) = (tt, empty_places ns)

  -- there are as many places as names
  pub many_places : (ns : List N) (xs : List (Option T)) → AreRightPlaces right ns xs → length xs ≡ length ns
  many_places [] [] all = refl
  many_places [] (x ∷ xs) all = absurd all
  many_places (n ∷ ns) [] all = absurd all
  many_places (n ∷ ns) (x ∷ xs) all = ap suc (many_places ns xs all.1)

  -- one more place is filled
  pub fill_place : (ns : List N) (xs : List (Option T)) (i : ℕ) (n : N) (x : T) → AreRightPlaces right ns xs → slice_get ns i ≡ Some n → right n x → AreRightPlaces right ns (slice_set xs i (Some x))
  fill_place [] xs i n x all at here = absurd (cc)
  fill_place (m ∷ ms) [] i n x all at here = absurd all
  fill_place (m ∷ ms) (y ∷ ys) zero n x all at here = (subst (λ k. right k x) (sym (some_is m n at)) here, all.1)
    where
      some_is : (a b : N) → Some a ≡ Some b → a ≡ b
      some_is a b e = cc
  fill_place (m ∷ ms) (y ∷ ys) (suc i) n x all at here = (all.0, fill_place ms ys i n x all.1 at here)

  -- all are filled
  pub filled_places : (ns : List N) (xs : List T) → AreRightPlaces right ns (map Some xs) → AreRight right ns xs
  filled_places [] [] all = tt
  filled_places [] (x ∷ xs) all = absurd all
  filled_places (n ∷ ns) [] all = absurd all
  filled_places (n ∷ ns) (x ∷ xs) all = (all.0, filled_places ns xs all.1)

-- there are as many places after one was to be filled
pub as_many_places : {T : Type 0} (xs ys : List T) (b : Bool) (i : ℕ) (x : T) → (b ≡ true → ys ≡ slice_set xs i x) → (b ≡ false → ys ≡ xs) → length ys ≡ length xs
as_many_places xs ys true i x filled same = rw (filled refl) (length-set xs i x)
as_many_places xs ys false i x filled same = ap length (same refl)
