-- The places of the effects that send, of units and of starts.
use Rattle.std.proofs.Common.{◌≡◌, ℕ, zero, suc, ◌+◌, ◌<◌, Bool, true, false, List, [], ◌∷◌, ◌++◌, length, refl, sym, ap, ◌∙◌, subst, inl, inr, ⊎_elim, arith, length-append}
use Rattle.std.specs.Prelude.{if◌then◌else◌, Some, take, slice_get}
use Rattle.app_core.specs.declared.label.Label.{Label}
use Rattle.app_core.specs.declared.outline.Outline.{Outline}
use Rattle.event_laws.specs.Follows.{Doing, Start, Wait}
use Rattle.event_laws.specs.Stages.{fences_in}
use Rattle.event_laws.specs.Totals.{is_away, sends_of, unit_sends, start_sends}
use Rattle.event_laws.proofs.MatchingListLemmas.{Has, Distinct, has_left, has_right, has_parts, distinct_append}

-- of a unit's effects, those from place b on
abbrev pub places_of : Label → ℕ → ℕ → List Outline → List (Label × ℕ)
places_of u r b [] = []
places_of u r b (o ∷ os) = if is_away r o then (u, b) ∷ places_of u r (suc b) os else places_of u r (suc b) os

pub record IsPlace (u : Label) (r b : ℕ) (os : List Outline) (p : Label × ℕ) : Type 0 where
  pub label : u ≡ p.0
  pub at : ℕ
  pub place : b + at ≡ p.1
  pub o : Outline
  pub here : slice_get os at ≡ Some o
  pub away : is_away r o ≡ true

next_place : (u : Label) (r b : ℕ) (o : Outline) (os : List Outline) (p : Label × ℕ) → IsPlace u r (suc b) os p → IsPlace u r b (o ∷ os) p
next_place u r b o os p i = record { label = i.label; at = suc i.at; place = (let e = i.place in omega (arith, e)); o = i.o; here = i.here; away = i.away }

pub in_places : (u : Label) (r b : ℕ) (os : List Outline) (p : Label × ℕ) → Has (places_of u r b os) p → IsPlace u r b os p
in_places u r b [] p h = absurd h
in_places u r b (o ∷ os) p h = go (λ k. in_places u r (suc b) os p k) (is_away r o) refl h
  where
    go : (Has (places_of u r (suc b) os) p → IsPlace u r (suc b) os p) → (c : Bool) → is_away r o ≡ c → Has (if c then (u, b) ∷ places_of u r (suc b) os else places_of u r (suc b) os) p → IsPlace u r b (o ∷ os) p
    go rec true e (inl h) = record { label = ap (λ (z : Label × ℕ). z.0) h; at = 0; place = (let k : b ≡ p.1 = ap (λ (z : Label × ℕ). z.1) h in omega (arith, k)); o = o; here = refl; away = e }
    go rec true e (inr h) = next_place u r b o os p (rec h)
    go rec false e h = next_place u r b o os p (rec h)

pub places_have : (u : Label) (r b : ℕ) (os : List Outline) (i : ℕ) (o : Outline) → slice_get os i ≡ Some o → is_away r o ≡ true → Has (places_of u r b os) (u, b + i)
places_have u r b [] i o e a = absurd (cc)
places_have u r b (q ∷ os) zero o e a =
    let same : q ≡ o = cc in
    let here : is_away r q ≡ true = ap (is_away r) same ∙ a in
    let place : b ≡ b + 0 = omega arith in
    subst (λ (c : Bool). Has (if c then (u, b) ∷ places_of u r (suc b) os else places_of u r (suc b) os) (u, b + 0)) (sym here) (inl (ap (λ (k : ℕ). (u, k)) place))
places_have u r b (q ∷ os) (suc i) o e a =
    let place : suc b + i ≡ b + suc i = omega arith in
    go (is_away r q) (subst (λ (k : ℕ). Has (places_of u r (suc b) os) (u, k)) place (places_have u r (suc b) os i o e a))
  where
    go : (c : Bool) → Has (places_of u r (suc b) os) (u, b + suc i) → Has (if c then (u, b) ∷ places_of u r (suc b) os else places_of u r (suc b) os) (u, b + suc i)
    go true h = inr h
    go false h = h

places_distinct : (u : Label) (r b : ℕ) (os : List Outline) → Distinct (places_of u r b os)
places_distinct u r b [] = tt
places_distinct u r b (o ∷ os) = go (is_away r o) (places_distinct u r (suc b) os)
  where
    go : (c : Bool) → Distinct (places_of u r (suc b) os) → Distinct (if c then (u, b) ∷ places_of u r (suc b) os else places_of u r (suc b) os)
    go true d = ((λ h. let p = in_places u r (suc b) os (u, b) h in let e = p.place in absurd (omega (arith, e))), d)
    go false d = d

places_count : (u : Label) (r b : ℕ) (os : List Outline) → length (places_of u r b os) ≡ sends_of r os
places_count u r b [] = refl
places_count u r b (o ∷ os) = go (is_away r o) (places_count u r (suc b) os)
  where
    go : (c : Bool) → length (places_of u r (suc b) os) ≡ sends_of r os → length (if c then (u, b) ∷ places_of u r (suc b) os else places_of u r (suc b) os) ≡ (if c then 1 else 0) + sends_of r os
    go true e = omega (arith, e)
    go false e = omega (arith, e)

-- of all effects of these units
abbrev pub all_places : (Label → List Outline) → (Label → ℕ) → List Label → List (Label × ℕ)
all_places plan home [] = []
all_places plan home (u ∷ us) = places_of u (home u) 0 (plan u) ++ all_places plan home us

module _ (plan : Label → List Outline) (home : Label → ℕ) where
  pub in_all : (us : List Label) (p : Label × ℕ) → Has (all_places plan home us) p → Has us p.0 × ((o : Outline) × (slice_get (plan p.0) p.1 ≡ Some o) × (is_away (home p.0) o ≡ true))
  in_all [] p h = absurd h
  in_all (u ∷ us) p h = ⊎_elim
      (λ a.
      let i = in_places u (home u) 0 (plan u) p a in
      let at : i.at ≡ p.1 = (let e = i.place in omega (arith, e)) in
      (inl i.label, (i.o, subst (λ (v : Label). slice_get (plan v) p.1 ≡ Some i.o) i.label (subst (λ (k : ℕ). slice_get (plan u) k ≡ Some i.o) at i.here), subst (λ (v : Label). is_away (home v) i.o ≡ true) i.label i.away)))
      (λ b. let r = in_all us p b in (inr r.0, r.1))
      (has_parts (places_of u (home u) 0 (plan u)) (all_places plan home us) p h)

  pub all_have : (us : List Label) (u : Label) (i : ℕ) (o : Outline) → Has us u → slice_get (plan u) i ≡ Some o → is_away (home u) o ≡ true → Has (all_places plan home us) (u, i)
  all_have [] u i o h e a = absurd h
  all_have (v ∷ us) u i o (inl s) e a =
      let here : slice_get (plan v) i ≡ Some o = subst (λ (w : Label). slice_get (plan w) i ≡ Some o) (sym s) e in
      let away : is_away (home v) o ≡ true = subst (λ (w : Label). is_away (home w) o ≡ true) (sym s) a in
      let k : 0 + i ≡ i = omega arith in
      has_left (places_of v (home v) 0 (plan v)) (all_places plan home us) (u, i) (subst (λ (w : Label). Has (places_of v (home v) 0 (plan v)) (w, i)) s (subst (λ (j : ℕ). Has (places_of v (home v) 0 (plan v)) (v, j)) k (places_have v (home v) 0 (plan v) i o here away)))
  all_have (v ∷ us) u i o (inr h) e a = has_right (places_of v (home v) 0 (plan v)) (all_places plan home us) (u, i) (all_have us u i o h e a)

  pub all_distinct : (us : List Label) → Distinct us → Distinct (all_places plan home us)
  all_distinct [] d = tt
  all_distinct (u ∷ us) d = distinct_append (places_of u (home u) 0 (plan u)) (all_places plan home us) (places_distinct u (home u) 0 (plan u)) (all_distinct us d.1)
      (λ p a b. d.0 (subst (Has us) (sym (in_places u (home u) 0 (plan u) p a).label) (in_all us p b).0))

  pub all_count : (us : List Label) → length (all_places plan home us) ≡ unit_sends plan home us
  all_count [] = refl
  all_count (u ∷ us) = omega (arith, length-append (places_of u (home u) 0 (plan u)) (all_places plan home us), places_count u (home u) 0 (plan u), all_count us)

-- of starts before a fence, those from place b on
abbrev pub start_places : ℕ → ℕ → List Doing → List ℕ
start_places zero b ds = []
start_places (suc e) b [] = []
start_places (suc e) b (Start o ∷ ds) = if is_away 0 o then b ∷ start_places (suc e) (suc b) ds else start_places (suc e) (suc b) ds
start_places (suc e) b (Wait ∷ ds) = start_places e (suc b) ds

pub record IsStart (e b : ℕ) (ds : List Doing) (k : ℕ) : Type 0 where
  pub at : ℕ
  pub place : b + at ≡ k
  pub o : Outline
  pub here : slice_get ds at ≡ Some (Start o)
  pub away : is_away 0 o ≡ true
  pub before : fences_in (take at ds) < e

next_start : (e b : ℕ) (o : Outline) (ds : List Doing) (k : ℕ) → IsStart e (suc b) ds k → IsStart e b (Start o ∷ ds) k
next_start e b o ds k i = record { at = suc i.at; place = (let p = i.place in omega (arith, p)); o = i.o; here = i.here; away = i.away; before = i.before }

pub in_starts : (e b : ℕ) (ds : List Doing) (k : ℕ) → Has (start_places e b ds) k → IsStart e b ds k
in_starts zero b ds k h = absurd h
in_starts (suc e) b [] k h = absurd h
in_starts (suc e) b (Start o ∷ ds) k h = go (λ i. in_starts (suc e) (suc b) ds k i) (is_away 0 o) refl h
  where
    go : (Has (start_places (suc e) (suc b) ds) k → IsStart (suc e) (suc b) ds k) → (c : Bool) → is_away 0 o ≡ c → Has (if c then b ∷ start_places (suc e) (suc b) ds else start_places (suc e) (suc b) ds) k → IsStart (suc e) b (Start o ∷ ds) k
    go rec true a (inl h) = record { at = 0; place = omega (arith, h); o = o; here = refl; away = a; before = omega arith }
    go rec true a (inr h) = next_start (suc e) b o ds k (rec h)
    go rec false a h = next_start (suc e) b o ds k (rec h)
in_starts (suc e) b (Wait ∷ ds) k h =
    let i = in_starts e (suc b) ds k h in
    record { at = suc i.at; place = (let p = i.place in omega (arith, p)); o = i.o; here = i.here; away = i.away; before = (let p = i.before in omega (arith, p)) }

pub starts_have : (e b : ℕ) (ds : List Doing) (i : ℕ) (o : Outline) → slice_get ds i ≡ Some (Start o) → is_away 0 o ≡ true → fences_in (take i ds) < e → Has (start_places e b ds) (b + i)
starts_have zero b ds i o at a lt = absurd (omega (arith, lt))
starts_have (suc e) b [] i o at a lt = absurd (cc)
starts_have (suc e) b (Start q ∷ ds) zero o at a lt =
    let z : Start q ≡ Start o = cc in
    let same : q ≡ o = cc in
    let here : is_away 0 q ≡ true = ap (is_away 0) same ∙ a in
    subst (λ (c : Bool). Has (if c then b ∷ start_places (suc e) (suc b) ds else start_places (suc e) (suc b) ds) (b + 0)) (sym here) (inl (omega arith))
starts_have (suc e) b (Start q ∷ ds) (suc i) o at a lt =
    let place : suc b + i ≡ b + suc i = omega arith in
    go (is_away 0 q) (subst (λ (k : ℕ). Has (start_places (suc e) (suc b) ds) k) place (starts_have (suc e) (suc b) ds i o at a lt))
  where
    go : (c : Bool) → Has (start_places (suc e) (suc b) ds) (b + suc i) → Has (if c then b ∷ start_places (suc e) (suc b) ds else start_places (suc e) (suc b) ds) (b + suc i)
    go true h = inr h
    go false h = h
starts_have (suc e) b (Wait ∷ ds) zero o at a lt = absurd (let z : Wait ≡ Start o = cc in cc)
starts_have (suc e) b (Wait ∷ ds) (suc i) o at a lt =
    let place : suc b + i ≡ b + suc i = omega arith in
    subst (λ (k : ℕ). Has (start_places e (suc b) ds) k) place (starts_have e (suc b) ds i o at a (omega (arith, lt)))

pub starts_distinct : (e b : ℕ) (ds : List Doing) → Distinct (start_places e b ds)
starts_distinct zero b ds = tt
starts_distinct (suc e) b [] = tt
starts_distinct (suc e) b (Start o ∷ ds) = go (is_away 0 o) (starts_distinct (suc e) (suc b) ds)
  where
    go : (c : Bool) → Distinct (start_places (suc e) (suc b) ds) → Distinct (if c then b ∷ start_places (suc e) (suc b) ds else start_places (suc e) (suc b) ds)
    go true d = ((λ h. let i = in_starts (suc e) (suc b) ds b h in let p = i.place in absurd (omega (arith, p))), d)
    go false d = d
starts_distinct (suc e) b (Wait ∷ ds) = starts_distinct e (suc b) ds

pub starts_count : (e b : ℕ) (ds : List Doing) → length (start_places e b ds) ≡ start_sends e ds
starts_count zero b ds = refl
starts_count (suc e) b [] = refl
starts_count (suc e) b (Start o ∷ ds) = go (is_away 0 o) (starts_count (suc e) (suc b) ds)
  where
    go : (c : Bool) → length (start_places (suc e) (suc b) ds) ≡ start_sends (suc e) ds → length (if c then b ∷ start_places (suc e) (suc b) ds else start_places (suc e) (suc b) ds) ≡ (if c then 1 else 0) + start_sends (suc e) ds
    go true e = omega (arith, e)
    go false e = omega (arith, e)
starts_count (suc e) b (Wait ∷ ds) = starts_count e (suc b) ds
