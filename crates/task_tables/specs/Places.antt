-- The places of a task: what fills each, once it is there.
use Rattle.std.specs.Prelude.{◌≡◌, ℕ, List, [], ◌∷◌, Option, None, Some, IsNone, IfSome, slice_get, ⊤}
use Rattle.std.specs.List.{slice_index_or}

-- the place of this index is empty, and it is one for what has this name
pub record IsEmptyPlaceOf {N T : Type 0} (names : List N) (places : List (Option T)) (index : ℕ) (name : N) : Type 0 where
  pub named : slice_get names index ≡ Some name
  pub empty : IsNone (slice_index_or places index None)

-- there is a place for each name, and what fills a place is right for the name
abbrev pub AreRightPlaces : {N T : Type 0} → (N → T → Type 0) → List N → List (Option T) → Type 0
AreRightPlaces right [] [] = ⊤
AreRightPlaces right [] (x ∷ xs) = ⊥
AreRightPlaces right (n ∷ ns) [] = ⊥
AreRightPlaces right (n ∷ ns) (x ∷ xs) = IfSome x (λ value. right n value) × AreRightPlaces right ns xs
