-- Filters, maps and flat maps of lists, one after another.
use Rattle.std.proofs.Common.{◌≡◌, List, [], ◌∷◌, ◌++◌, map, filter, Bool, true, false, cond, refl, ◌∙◌, ap}
use Rattle.std.specs.List.{flat_map}
use Rattle.std.specs.List.{AllByRecursion}
use Rattle.std.proofs.lemmas.List.{map-append}
use Rattle.std.proofs.lemmas.List.Elements.{filter-append}

-- a filter of lists joined is the filters joined
pub filter_flat_map : {X Y : Type 0} (p : Y → Bool) (f : X → List Y) (xs : List X) → filter p (flat_map f xs) ≡ flat_map (λ x. filter p (f x)) xs
filter_flat_map p f [] = refl
filter_flat_map p f (x ∷ xs) = filter-append p (f x) (flat_map f xs) ∙ ap (λ rest. filter p (f x) ++ rest) (filter_flat_map p f xs)

pub map_flat_map : {X Y Z : Type 0} (g : Y → Z) (f : X → List Y) (xs : List X) → map g (flat_map f xs) ≡ flat_map (λ x. map g (f x)) xs
map_flat_map g f [] = refl
map_flat_map g f (x ∷ xs) = map-append g (f x) (flat_map f xs) ∙ ap (λ rest. map g (f x) ++ rest) (map_flat_map g f xs)

-- functions that agree on each element make the same list
pub flat_map_agree : {X Y : Type 0} (f g : X → List Y) (xs : List X) → AllByRecursion (λ x. f x ≡ g x) xs → flat_map f xs ≡ flat_map g xs
flat_map_agree f g [] all = refl
flat_map_agree f g (x ∷ xs) all = rw all.0 (ap (λ rest. g x ++ rest) (flat_map_agree f g xs all.1))

pub filter_agree : {X : Type 0} (p q : X → Bool) (xs : List X) → AllByRecursion (λ x. p x ≡ q x) xs → filter p xs ≡ filter q xs
filter_agree p q [] all = refl
filter_agree p q (x ∷ xs) all = rw all.0 (ap (λ rest. cond (q x) (x ∷ rest) rest) (filter_agree p q xs all.1))

-- a flat map over what a filter keeps
pub flat_map_filter : {X Y : Type 0} (f : X → List Y) (p : X → Bool) (xs : List X) → flat_map f (filter p xs) ≡ flat_map (λ x. cond (p x) (f x) []) xs
flat_map_filter f p [] = refl
flat_map_filter f p (x ∷ xs) = elim (p x) as (λ b. flat_map f (cond b (x ∷ filter p xs) (filter p xs)) ≡ cond b (f x) [] ++ flat_map (λ y. cond (p y) (f y) []) xs) [
  | true ↦ ap (λ rest. f x ++ rest) (flat_map_filter f p xs)
  | false ↦ flat_map_filter f p xs
]

-- a filter of what a filter keeps
pub filter_filter : {X : Type 0} (p q : X → Bool) (xs : List X) → filter p (filter q xs) ≡ filter (λ x. cond (q x) (p x) false) xs
filter_filter p q [] = refl
filter_filter p q (x ∷ xs) = elim (q x) as (λ b. filter p (cond b (x ∷ filter q xs) (filter q xs)) ≡ cond (cond b (p x) false) (x ∷ filter (λ y. cond (q y) (p y) false) xs) (filter (λ y. cond (q y) (p y) false) xs)) [
  | true ↦ ap (λ rest. cond (p x) (x ∷ rest) rest) (filter_filter p q xs)
  | false ↦ filter_filter p q xs
]

-- what holds of all elements, and of each that a filter keeps
pub all_filter : {X : Type 0} (P : X → Type 0) (p : X → Bool) (xs : List X) → AllByRecursion (λ x. p x ≡ true → P x) xs → AllByRecursion P (filter p xs)
all_filter P p [] all = all
all_filter P p (x ∷ xs) all = elim (p x) as (λ b. (b ≡ true → P x) → AllByRecursion P (cond b (x ∷ filter p xs) (filter p xs))) [
  | true ↦ λ here. (here refl, all_filter P p xs all.1)
  | false ↦ λ here. all_filter P p xs all.1
] all.0
