-- The lanes of a rank's bins, by number.
use Rattle.std.proofs.Common.{◌≡◌, ℕ, zero, suc, ◌+◌, Bool, true, List, [], ◌∷◌, ◌++◌, Option, Some, None, map, sym, ◌∙◌, ap, rules, arith, All}
use Rattle.std.proofs.lemmas.List.{map-append}
use Rattle.std.proofs.lemmas.List.Elements.{All-append}
use Rattle.std.specs.Prelude.{IfSome}
use Rattle.event_lists.specs.declared.lane.LaneName.{LaneName}
use Rattle.event_books.specs.Books.{lanes_from}
use Rattle.world_words.specs.Lanes.{WordsView, LaneView}
use Rattle.world_words.specs.Closing.{name_of, IsFree}

abbrev named : Bool → ℕ → ℕ → LaneName
named b r k = record { rank = r; bin = b; number = k }

more_lanes : (b : Bool) (r k n : ℕ) → lanes_from b r k (suc n) ≡ lanes_from b r k n ++ named b r (k + n) ∷ []
more_lanes b r k zero = let e : k ≡ k + 0 = omega arith in ap (λ m. named b r m ∷ []) e
more_lanes b r k (suc n) =
    let e : suc k + n ≡ k + suc n = omega arith in
    ap (λ ls. named b r k ∷ ls) (more_lanes b r (suc k) n ∙ ap (λ m. lanes_from b r (suc k) n ++ named b r m ∷ []) e)

-- one lane more
pub names_more : (r n next : ℕ) (lanes more : List LaneView) (v : LaneView) → next ≡ n + 1 → more ≡ lanes ++ v ∷ [] → map name_of lanes ≡ lanes_from true r 0 n → v.name ≡ named true r n → map name_of more ≡ lanes_from true r 0 next
names_more r n next lanes more v is grown names name =
    let e : next ≡ suc n = omega (arith, is) in
    let none : n ≡ 0 + n = omega arith in
    ap (map name_of) grown ∙ map-append name_of lanes (v ∷ []) ∙ ap (λ ls. ls ++ v.name ∷ []) names ∙ ap (λ m. lanes_from true r 0 n ++ m ∷ []) name
    ∙ ap (λ m. lanes_from true r 0 n ++ named true r m ∷ []) none ∙ sym (more_lanes true r 0 n) ∙ ap (λ m. lanes_from true r 0 m) (sym e)

pub free_more : {A : Type 0} (words : Option (WordsView A)) (lanes more : List LaneView) (v : LaneView) → more ≡ lanes ++ v ∷ [] → IfSome words (λ w. All (IsFree w) lanes) → IfSome words (λ w. IsFree w v) → IfSome words (λ w. All (IsFree w) more)
free_more None lanes more v grown all one = tt
free_more (Some w) lanes more v grown all one = rw grown (All-append (IsFree w) lanes (v ∷ []) all (search (rules, one)))

pub free_none : {A : Type 0} (words : Option (WordsView A)) (lanes : List LaneView) → lanes ≡ [] → IfSome words (λ w. All (IsFree w) lanes)
free_none None lanes none = tt
free_none (Some w) lanes none = rw none (search rules)
