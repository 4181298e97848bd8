-- Which effect an event is that of.
use Rattle.std.proofs.Common.{◌≡◌, ◌≢◌, ℕ, Bool, true, false, List, refl, sym, ap, ◌∙◌}
use Rattle.std.specs.Prelude.{if◌then◌else◌, ◌==◌, Option, Some, None}
use Rattle.std.proofs.lemmas.Bool.{eqb-true, eq-eqb, both_ways}
use Rattle.app_core.specs.declared.label.Label.{Label}
use Rattle.app_core.specs.declared.label.CellName.{CellName}
use Rattle.app_core.specs.declared.outline.Outline.{Outline}
use Rattle.app_core.specs.declared.outline.Outline.TheVariants as of
use Rattle.event_lists.specs.declared.event.Event.{Event}
use Rattle.event_lists.specs.declared.event.Event.TheVariants.{Sent, Submitted, Gave, Put, Erased}
use Rattle.event_lists.specs.declared.event.Parcel.TheVariants.{Unit as Spawned, Give}
use Rattle.event_lists.specs.declared.event.TaskName.{TaskName}
use Rattle.event_lists.specs.declared.mark.Item.{Item}
use Rattle.event_lists.specs.declared.mark.Item.TheVariants.{Message, Task}
use Rattle.event_lists.specs.Futures.{spawned_due}
use Rattle.event_laws.specs.Follows.{Says}
use Rattle.event_laws.specs.Trees.{unit_of}
use Rattle.event_laws.specs.Apart.{spawn_label}

-- an event that spawns is that of a spawn, with its label and its due
pub spawn_is : (r : ℕ) (o : Outline) (e : Event) (h : Option Item) (u : Label) → Says r o e → spawn_label h e ≡ Some u → (ns : List Label) × (q : ℕ) × (o ≡ of.Spawn u (spawned_due e) ns q)
spawn_is r (of.Spawn v d ns q) e h u s l = (ns, q, step (q == r) s.1)
  where
    label : (h : Option Item) (t : TaskName) → spawn_label h (Submitted s.0 t) ≡ Some u → t.unit ≡ u
    label None t l = cc
    label (Some (Message a b)) t l = absurd (cc)
    label (Some (Task a b)) t l = cc

    step : (b : Bool) → e ≡ (if b then Submitted s.0 (record { unit = v; needs = ns; due = d }) else Sent s.0 q (Spawned v d)) → of.Spawn v d ns q ≡ of.Spawn u (spawned_due e) ns q
    step true i =
        let unit : v ≡ u = label h (record { unit = v; needs = ns; due = d }) (sym (ap (spawn_label h) i) ∙ l) in
        let due : d ≡ spawned_due e = sym (ap spawned_due i) in
        λ k. of.Spawn (unit k) (due k) ns q
    step false i =
        let some : Some v ≡ Some u = sym (ap (spawn_label h) i) ∙ l in
        let unit : v ≡ u = cc in
        let due : d ≡ spawned_due e = sym (ap spawned_due i) in
        λ k. of.Spawn (unit k) (due k) ns q
spawn_is r (of.Give f q) e h u s l = absurd (step (q == r) s.1)
  where
    step : (b : Bool) → e ≡ (if b then Gave f else Sent s.0 q (Give f)) → ⊥
    step true i = let none : None ≡ Some u = sym (ap (spawn_label h) i) ∙ l in cc
    step false i = let none : None ≡ Some u = sym (ap (spawn_label h) i) ∙ l in cc
spawn_is r (of.Put c) e h u s l = absurd (let none : None ≡ Some u = sym (ap (spawn_label h) s.1) ∙ l in cc)
spawn_is r (of.Erase c) e h u s l = absurd (let none : None ≡ Some u = sym (ap (spawn_label h) s.1) ∙ l in cc)

pub label_is : (r : ℕ) (o : Outline) (e : Event) (h : Option Item) (u : Label) → Says r o e → spawn_label h e ≡ Some u → unit_of o ≡ Some u
label_is r o e h u s l = let i = spawn_is r o e h u s l in ap unit_of i.2

-- a submission is that of a spawn at its own rank, with its due and its needs
pub submits_is : (r : ℕ) (o : Outline) (n : ℕ) (t : TaskName) → Says r o (Submitted n t) → o ≡ of.Spawn t.unit t.due t.needs r
submits_is r (of.Spawn u d ns h) n t (k, e) = step (h == r) refl e
  where
    step : (b : Bool) → (h == r) ≡ b → Submitted n t ≡ (if b then Submitted k (record { unit = u; needs = ns; due = d }) else Sent k h (Spawned u d)) → of.Spawn u d ns h ≡ of.Spawn t.unit t.due t.needs r
    step true i e =
        let s : t ≡ record { unit = u; needs = ns; due = d } = cc in
        λ j. of.Spawn (ap (λ (z : TaskName). z.unit) (sym s) j) (ap (λ (z : TaskName). z.due) (sym s) j) (ap (λ (z : TaskName). z.needs) (sym s) j) (eqb-true h r i j)
    step false i e = absurd (cc)
submits_is r (of.Give f h) n t (k, e) = absurd (step (h == r) e)
  where
    step : (b : Bool) → Submitted n t ≡ (if b then Gave f else Sent k h (Give f)) → ⊥
    step true e = cc
    step false e = cc
submits_is r (of.Put c) n t (k, e) = absurd (cc)
submits_is r (of.Erase c) n t (k, e) = absurd (cc)

-- a unit that is sent is that of a spawn at another rank
pub sends_is : (r : ℕ) (o : Outline) (n to : ℕ) (u : Label) (d : Option Label) → Says r o (Sent n to (Spawned u d)) → (ns : List Label) × (o ≡ of.Spawn u d ns to) × (to ≢ r)
sends_is r (of.Spawn v f ns h) n to u d (k, e) = let s = step (h == r) refl e in (ns, s.0, s.1)
  where
    step : (b : Bool) → (h == r) ≡ b → Sent n to (Spawned u d) ≡ (if b then Submitted k (record { unit = v; needs = ns; due = f }) else Sent k h (Spawned v f)) → (of.Spawn v f ns h ≡ of.Spawn u d ns to) × (to ≢ r)
    step true i e = absurd (cc)
    step false i e =
        let unit : v ≡ u = cc in
        let due : f ≡ d = cc in
        let home : h ≡ to = cc in
        ((λ j. of.Spawn (unit j) (due j) ns (home j)), λ same. both_ways (h == r) i (eq-eqb h r (home ∙ same)))
sends_is r (of.Give f h) n to u d (k, e) = absurd (step (h == r) e)
  where
    step : (b : Bool) → Sent n to (Spawned u d) ≡ (if b then Gave f else Sent k h (Give f)) → ⊥
    step true e = cc
    step false e = cc
sends_is r (of.Put c) n to u d (k, e) = absurd (cc)
sends_is r (of.Erase c) n to u d (k, e) = absurd (cc)

-- a give at the own rank, and one that is sent
pub gave_is : (r : ℕ) (o : Outline) (f : Label) → Says r o (Gave f) → o ≡ of.Give f r
gave_is r (of.Spawn u d ns h) f (k, e) = absurd (step (h == r) e)
  where
    step : (b : Bool) → Gave f ≡ (if b then Submitted k (record { unit = u; needs = ns; due = d }) else Sent k h (Spawned u d)) → ⊥
    step true e = cc
    step false e = cc
gave_is r (of.Give g h) f (k, e) = step (h == r) refl e
  where
    step : (b : Bool) → (h == r) ≡ b → Gave f ≡ (if b then Gave g else Sent k h (Give g)) → of.Give g h ≡ of.Give f r
    step true i e = let same : g ≡ f = cc in λ j. of.Give (same j) (eqb-true h r i j)
    step false i e = absurd (cc)
gave_is r (of.Put c) f (k, e) = absurd (cc)
gave_is r (of.Erase c) f (k, e) = absurd (cc)

pub gives_is : (r : ℕ) (o : Outline) (n to : ℕ) (f : Label) → Says r o (Sent n to (Give f)) → o ≡ of.Give f to
gives_is r (of.Spawn u d ns h) n to f (k, e) = absurd (step (h == r) e)
  where
    step : (b : Bool) → Sent n to (Give f) ≡ (if b then Submitted k (record { unit = u; needs = ns; due = d }) else Sent k h (Spawned u d)) → ⊥
    step true e = cc
    step false e = cc
gives_is r (of.Give g h) n to f (k, e) = step (h == r) e
  where
    step : (b : Bool) → Sent n to (Give f) ≡ (if b then Gave g else Sent k h (Give g)) → of.Give g h ≡ of.Give f to
    step true e = absurd (cc)
    step false e = let same : g ≡ f = cc in let home : h ≡ to = cc in λ j. of.Give (same j) (home j)
gives_is r (of.Put c) n to f (k, e) = absurd (cc)
gives_is r (of.Erase c) n to f (k, e) = absurd (cc)

-- the effect of a put or an erase
pub says_put : (r : ℕ) (o : Outline) (c : CellName) → Says r o (Put c) → o ≡ of.Put c
says_put r (of.Spawn u d ns h) c (k, e) = absurd (step (h == r) e)
  where
    step : (b : Bool) → Put c ≡ (if b then Submitted k (record { unit = u; needs = ns; due = d }) else Sent k h (Spawned u d)) → ⊥
    step true e = cc
    step false e = cc
says_put r (of.Give f h) c (k, e) = absurd (step (h == r) e)
  where
    step : (b : Bool) → Put c ≡ (if b then Gave f else Sent k h (Give f)) → ⊥
    step true e = cc
    step false e = cc
says_put r (of.Put d) c (k, e) = let s : c ≡ d = cc in ap of.Put (sym s)
says_put r (of.Erase d) c (k, e) = absurd (cc)

pub says_erase : (r : ℕ) (o : Outline) (c : CellName) → Says r o (Erased c) → o ≡ of.Erase c
says_erase r (of.Spawn u d ns h) c (k, e) = absurd (step (h == r) e)
  where
    step : (b : Bool) → Erased c ≡ (if b then Submitted k (record { unit = u; needs = ns; due = d }) else Sent k h (Spawned u d)) → ⊥
    step true e = cc
    step false e = cc
says_erase r (of.Give f h) c (k, e) = absurd (step (h == r) e)
  where
    step : (b : Bool) → Erased c ≡ (if b then Gave f else Sent k h (Give f)) → ⊥
    step true e = cc
    step false e = cc
says_erase r (of.Put d) c (k, e) = absurd (cc)
says_erase r (of.Erase d) c (k, e) = let s : c ≡ d = cc in ap of.Erase (sym s)
