-- What is in a lawful book once.
use Rattle.std.proofs.Common.{◌≡◌, ℕ, zero, suc, Bool, true, false, List, [], ◌∷◌, refl, sym, ap, subst, ◌∙◌, inl, inr, arith}
use Rattle.std.specs.Prelude.{if◌then◌else◌, Some, slice_get}
use Rattle.event_lists.specs.declared.lane.LaneName.{LaneName}
use Rattle.event_lists.specs.declared.kind.Kind.{Kind}
use Rattle.event_lists.specs.declared.event.Event.{Event}
use Rattle.event_lists.specs.declared.mark.Item.{Item}
use Rattle.event_lists.specs.declared.mark.Mark.{Mark}
use Rattle.event_lists.specs.Events.{same_lane, part, StandsOn, takes, is_taken, number, count}
use Rattle.event_lists.specs.Legal.{Legal}
use Rattle.event_lists.proofs.LaneLemmas.{same_lane_true}
use Rattle.event_lists.proofs.CountLemmas.{numbered, on_below}
use Rattle.event_lists.proofs.ItemLemmas.{taken_here, taken_more, took_fresh}
use Rattle.event_books.specs.Books.{TakingsAreApart, NumbersAreApart}

-- an event of a lane's part is in the list
part_stands : (l : LaneName) (log : List Mark) (i : ℕ) (e : Event) → slice_get (part l log) i ≡ Some e → StandsOn l e log
part_stands l [] i e at = absurd (cc)
part_stands l (x ∷ log) i e at = go (λ k. part_stands l log k e) (same_lane x.lane l) refl i at
  where
    go : ((k : ℕ) → slice_get (part l log) k ≡ Some e → StandsOn l e log) → (b : Bool) → same_lane x.lane l ≡ b → (k : ℕ) → slice_get (if b then x.event ∷ part l log else part l log) k ≡ Some e → StandsOn l e (x ∷ log)
    go rest true same zero at = inl (same_lane_true x.lane l same, cc)
    go rest true same (suc k) at = inr (rest k at)
    go rest false same k at = inr (rest k at)

-- what holds of a new event of a legal list and of no earlier one, holds of one event at most
once : (Q : LaneName → Event → Type 0) (ranks workers : ℕ)
    → ((x : Mark) (log : List Mark) (l : LaneName) (e : Event) → Legal ranks workers (x ∷ log) → Q x.lane x.event → StandsOn l e log → Q l e → ⊥)
    → (log : List Mark) → Legal ranks workers log → (l m : LaneName) (i j : ℕ) (d e : Event) → slice_get (part l log) i ≡ Some d → slice_get (part m log) j ≡ Some e → Q l d → Q m e
    → (l ≡ m) × (i ≡ j)
once Q ranks workers fresh [] h l m i j d e s t p q = absurd (cc)
once Q ranks workers fresh (x ∷ log) h l m i j d e s t p q =
    go (λ a b. once Q ranks workers fresh log h.1 l m a b d e) (same_lane x.lane l) refl (same_lane x.lane m) refl i j s t
  where
    Rest : Type 0
    Rest = (a b : ℕ) → slice_get (part l log) a ≡ Some d → slice_get (part m log) b ≡ Some e → Q l d → Q m e → (l ≡ m) × (a ≡ b)

    -- both can't hold, of the new event and of one before it
    left : same_lane x.lane l ≡ true → x.event ≡ d → (b : ℕ) → slice_get (part m log) b ≡ Some e → ⊥
    left same is b t = fresh x log m e h (subst (λ k. Q k x.event) (sym (same_lane_true x.lane l same)) (subst (Q l) (sym is) p)) (part_stands m log b e t) q

    right : same_lane x.lane m ≡ true → x.event ≡ e → (a : ℕ) → slice_get (part l log) a ≡ Some d → ⊥
    right same is a s = fresh x log l d h (subst (λ k. Q k x.event) (sym (same_lane_true x.lane m same)) (subst (Q m) (sym is) q)) (part_stands l log a d s) p

    apart : same_lane x.lane l ≡ true → same_lane x.lane m ≡ false → l ≡ m → ⊥
    apart one two is = let e : true ≡ false = sym (subst (λ k. same_lane x.lane k ≡ true) is one) ∙ two in cc

    go : Rest → (a : Bool) → same_lane x.lane l ≡ a → (b : Bool) → same_lane x.lane m ≡ b → (i j : ℕ)
        → slice_get (if a then x.event ∷ part l log else part l log) i ≡ Some d → slice_get (if b then x.event ∷ part m log else part m log) j ≡ Some e → (l ≡ m) × (i ≡ j)
    go rest true el true em zero zero s t = (sym (same_lane_true x.lane l el) ∙ same_lane_true x.lane m em, refl)
    go rest true el true em zero (suc j) s t = absurd (left el (cc) j t)
    go rest true el true em (suc i) zero s t = absurd (right em (cc) i s)
    go rest true el true em (suc i) (suc j) s t = let r = rest i j s t p q in (r.0, ap suc r.1)
    go rest true el false em zero j s t = absurd (left el (cc) j t)
    go rest true el false em (suc i) j s t = absurd (apart el em (rest i j s t p q).0)
    go rest false el true em i zero s t = absurd (right em (cc) i s)
    go rest false el true em i (suc j) s t =
        absurd (let e : true ≡ false = sym (subst (λ k. same_lane x.lane k ≡ true) (sym (rest i j s t p q).0) em) ∙ el in cc)
    go rest false el false em i j s t = rest i j s t p q

taken_stands : (l : LaneName) (e : Event) (c : Item) (log : List Mark) → takes e ≡ Some c → StandsOn l e log → is_taken c log ≡ true
taken_stands l e c [] t s = absurd s
taken_stands l e c (x ∷ log) t (inl i) = taken_here c x log (ap takes i.1 ∙ t)
taken_stands l e c (x ∷ log) t (inr s) = taken_more c x log (taken_stands l e c log t s)

taking_is_new : (ranks workers : ℕ) (c : Item) (x : Mark) (log : List Mark) (l : LaneName) (e : Event) → Legal ranks workers (x ∷ log) → takes x.event ≡ Some c → StandsOn l e log → takes e ≡ Some c → ⊥
taking_is_new ranks workers c x log l e h t s u =
    let f : is_taken c log ≡ false = (took_fresh c x.event ranks log x.lane (part x.lane log) h.0.counting t).1 in
    let g : is_taken c log ≡ true = taken_stands l e c log u s in
    let w : true ≡ false = sym g ∙ f in cc

number_is_new : (ranks workers : ℕ) (k : Kind) (n r : ℕ) (x : Mark) (log : List Mark) (l : LaneName) (e : Event) → Legal ranks workers (x ∷ log)
    → (x.lane.rank ≡ r) × (number k x.event ≡ Some n) → StandsOn l e log → (l.rank ≡ r) × (number k e ≡ Some n) → ⊥
number_is_new ranks workers k n r x log l e h t s u =
    let is = numbered k n ranks log x.lane (part x.lane log) x.event h.0.counting t.1 in
    let same : count k x.lane.rank log ≡ count k l.rank log = ap (λ q. count k q log) (t.0 ∙ sym u.0) in
    omega (arith, is, same, on_below ranks workers log h.1 k n l e u.1 s)

pub takings_apart : TakingsAreApart
takings_apart b (log, legal, parts) l m i j d e c s t p q =
    once (λ k f. takes f ≡ Some c) b.ranks b.workers (taking_is_new b.ranks b.workers c) log legal l m i j d e (ap (λ es. slice_get es i) (parts l) ∙ s) (ap (λ es. slice_get es j) (parts m) ∙ t) p q

pub numbers_apart : NumbersAreApart
numbers_apart b (log, legal, parts) l m i j d e k n s t p q r =
    once (λ a f. (a.rank ≡ m.rank) × (number k f ≡ Some n)) b.ranks b.workers (number_is_new b.ranks b.workers k n m.rank) log legal l m i j d e
    (ap (λ es. slice_get es i) (parts l) ∙ s) (ap (λ es. slice_get es j) (parts m) ∙ t) (r, p) (refl, q)
