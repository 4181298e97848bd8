-- The tasks and messages of a list, without repetition: tasks by the labels of their units, messages by the effects or
-- the starts that sent them.
use Rattle.std.proofs.Common.{◌≡◌, ℕ, ◌+◌, Bool, true, false, not, List, [], ◌∷◌, ◌++◌, length, refl, sym, ap, ◌∙◌, subst, inl, inr, arith}
use Rattle.std.specs.Prelude.{if◌then◌else◌, ◌==◌, Option, Some, None}
use Rattle.std.proofs.lemmas.Bool.{both_ways}
use Rattle.app_core.specs.declared.label.Label.{Label}
use Rattle.app_core.specs.declared.outline.Outline.{Outline}
use Rattle.app_core.specs.declared.outline.Outline.TheVariants as of
use Rattle.event_lists.specs.declared.lane.LaneName.{LaneName}
use Rattle.event_lists.specs.declared.event.Event.{Event}
use Rattle.event_lists.specs.declared.event.Event.TheVariants.{Sent, TookMessage, TookTask, Handled, Submitted, Ran, Gave, Put, Erased, ReadHandled, ReadRan, ReadSubmitted, ReadSent, Enter, Leave, Receipt as Receives}
use Rattle.event_lists.specs.declared.event.Parcel.{Parcel}
use Rattle.event_lists.specs.declared.event.Parcel.TheVariants.{Unit as Spawned, Give}
use Rattle.event_lists.specs.declared.event.TaskName.{TaskName}
use Rattle.event_lists.specs.declared.mark.EffectName.{EffectName}
use Rattle.event_lists.specs.declared.mark.Mark.{Mark}
use Rattle.event_lists.specs.declared.kind.Kind.TheVariants.{Sends as sends, Submissions as submissions}
use Rattle.event_lists.specs.Events.{part, count, is_kind, Begins, StandsOn, IsSubmitted}
use Rattle.event_lists.specs.Counting.{Counting}
use Rattle.event_lists.specs.Legal.{Legal}
use Rattle.event_lists.proofs.ListLemmas.{begins_refl, begins_more}
use Rattle.event_lists.proofs.CountLemmas.{on_below}
use Rattle.event_lists.proofs.SumLemmas.{total}
use Rattle.event_laws.specs.Follows.{TaskEffects, Doing, FollowsBy, Says, deeds, carried_out}
use Rattle.event_laws.specs.Apart.{Apart, spawned}
use Rattle.event_laws.specs.Totals.{is_away}
use Rattle.event_laws.proofs.PositionLemmas.{carried_begins}
use Rattle.event_laws.proofs.EffectMarkLemmas.{effect_by, is_named, carried_here}
use Rattle.event_laws.proofs.SpawnLemmas.{same_task, apart_before}
use Rattle.event_laws.proofs.MatchingListLemmas.{Has, Distinct}

-- an event that sends
abbrev pub Sends : Event → Type 0
Sends e = (n : ℕ) × (to : ℕ) × (p : Parcel) × (e ≡ Sent n to p)

-- an effect is away where its event sends
pub sent_away : (r : ℕ) (o : Outline) (e : Event) → Says r o e → Sends e → is_away r o ≡ true
sent_away r (of.Spawn u d ns h) e s t = go (h == r) (sym t.3 ∙ s.1)
  where
    go : (b : Bool) → Sent t.0 t.1 t.2 ≡ (if b then Submitted s.0 (record { unit = u; needs = ns; due = d }) else Sent s.0 h (Spawned u d)) → not b ≡ true
    go true e = absurd (cc)
    go false e = refl
sent_away r (of.Give f h) e s t = go (h == r) (sym t.3 ∙ s.1)
  where
    go : (b : Bool) → Sent t.0 t.1 t.2 ≡ (if b then Gave f else Sent s.0 h (Give f)) → not b ≡ true
    go true e = absurd (cc)
    go false e = refl
sent_away r (of.Put c) e s t = absurd (let z = sym t.3 ∙ s.1 in cc)
sent_away r (of.Erase c) e s t = absurd (let z = sym t.3 ∙ s.1 in cc)

pub away_sent : (r : ℕ) (o : Outline) (e : Event) → Says r o e → is_away r o ≡ true → Sends e
away_sent r (of.Spawn u d ns h) e s a = go (h == r) s.1 a
  where
    go : (b : Bool) → e ≡ (if b then Submitted s.0 (record { unit = u; needs = ns; due = d }) else Sent s.0 h (Spawned u d)) → not b ≡ true → Sends e
    go true i a = absurd (cc)
    go false i a = (s.0, h, Spawned u d, i)
away_sent r (of.Give f h) e s a = go (h == r) s.1 a
  where
    go : (b : Bool) → e ≡ (if b then Gave f else Sent s.0 h (Give f)) → not b ≡ true → Sends e
    go true i a = absurd (cc)
    go false i a = (s.0, h, Give f, i)
away_sent r (of.Put c) e s a = absurd (let z : false ≡ true = a in cc)
away_sent r (of.Erase c) e s a = absurd (let z : false ≡ true = a in cc)

-- the labels of the tasks
abbrev pub with_label : Event → List Label → List Label
with_label (Submitted n t) us = t.unit ∷ us
with_label _ us = us

abbrev pub labels_in : List Mark → List Label
labels_in [] = []
labels_in (x ∷ log) = with_label x.event (labels_in log)

abbrev one_if : Bool → ℕ
one_if b = if b then 1 else 0

pub labels_count : (log : List Mark) → length (labels_in log) ≡ total submissions log
labels_count [] = refl
labels_count (x ∷ log) = go x.event (labels_count log)
  where
    go : (e : Event) → length (labels_in log) ≡ total submissions log → length (with_label e (labels_in log)) ≡ one_if (is_kind submissions e) + total submissions log
    go (Submitted n t) i = omega (arith, i)
    go (Sent n q p) i = omega (arith, i)
    go (TookMessage q m) i = omega (arith, i)
    go (TookTask q m) i = omega (arith, i)
    go (Handled n q m) i = omega (arith, i)
    go (Ran n q m) i = omega (arith, i)
    go (Gave f) i = omega (arith, i)
    go (Put c) i = omega (arith, i)
    go (Erased c) i = omega (arith, i)
    go (ReadHandled v e p) i = omega (arith, i)
    go (ReadRan v e p) i = omega (arith, i)
    go (ReadSubmitted v e p) i = omega (arith, i)
    go (ReadSent v e p) i = omega (arith, i)
    go (Enter f) i = omega (arith, i)
    go (Leave f) i = omega (arith, i)
    go (Receives r) i = omega (arith, i)

-- a task with this label
pub record Task_of (u : Label) (log : List Mark) : Type 0 where
  pub rank : ℕ
  pub number : ℕ
  pub task : TaskName
  pub submitted : IsSubmitted rank number task log
  pub label : task.unit ≡ u

pub in_labels : (u : Label) (log : List Mark) → Has (labels_in log) u → Task_of u log
in_labels u [] h = absurd h
in_labels u (x ∷ log) h = go x.event refl (λ k. in_labels u log k) h
  where
    later : Task_of u log → Task_of u (x ∷ log)
    later t = record { rank = t.rank; number = t.number; task = t.task; submitted = (t.submitted.0, t.submitted.1, inr t.submitted.2); label = t.label }

    go : (e : Event) → x.event ≡ e → (Has (labels_in log) u → Task_of u log) → Has (with_label e (labels_in log)) u → Task_of u (x ∷ log)
    go (Submitted n t) i rec (inl s) = record { rank = x.lane.rank; number = n; task = t; submitted = (x.lane, refl, inl (refl, i)); label = s }
    go (Submitted n t) i rec (inr h) = later (rec h)
    go _ i rec h = later (rec h)

pub labels_have : (l : LaneName) (n : ℕ) (t : TaskName) (log : List Mark) → StandsOn l (Submitted n t) log → Has (labels_in log) t.unit
labels_have l n t [] s = absurd s
labels_have l n t (x ∷ log) (inl s) = subst (λ (e : Event). Has (with_label e (labels_in log)) t.unit) (sym s.1) (inl refl)
labels_have l n t (x ∷ log) (inr s) = go x.event (labels_have l n t log s)
  where
    go : (e : Event) → Has (labels_in log) t.unit → Has (with_label e (labels_in log)) t.unit
    go (Submitted m u) h = inr h
    go _ h = h

module _ (ranks workers : ℕ) where
  pub labels_distinct : (log : List Mark) → Legal ranks workers log → Apart (spawned log) → Distinct (labels_in log)
  labels_distinct [] h a = tt
  labels_distinct (x ∷ log) h a = go x.event refl h.0.counting (labels_distinct log h.1 (apart_before (x ∷ []) log a))
    where
      go : (e : Event) → x.event ≡ e → Counting ranks log x.lane (part x.lane log) e → Distinct (labels_in log) → Distinct (with_label e (labels_in log))
      go (Submitted n t) i c d = (
        (λ k.
            let w = in_labels t.unit log k in
            let one = same_task ranks workers (x ∷ log) h a x.lane.rank n w.rank w.number t w.task (x.lane, refl, inl (refl, i)) (w.submitted.0, w.submitted.1, inr w.submitted.2) (sym w.label) in
            let below = on_below ranks workers log h.1 submissions w.number w.submitted.0 (Submitted w.number w.task) refl w.submitted.2 in
            let rank : w.submitted.0.rank ≡ x.lane.rank = w.submitted.1 ∙ sym one.0 in
            let counts : count submissions w.submitted.0.rank log ≡ count submissions x.lane.rank log = ap (λ (q : ℕ). count submissions q log) rank in
            let number = one.1 in
            absurd (omega (arith, c.0, below, counts, number))),
        d,
      )
      go _ i c d = d

-- the effects that sent
abbrev pub with_name : Event → Option EffectName → List EffectName → List EffectName
with_name (Sent n to p) (Some f) fs = f ∷ fs
with_name (Sent n to p) None fs = fs
with_name _ o fs = fs

abbrev pub names_in : List Mark → List EffectName
names_in [] = []
names_in (x ∷ log) = with_name x.event x.effect (names_in log)

-- and the starts that did, by their places
abbrev pub with_place : Event → Option EffectName → ℕ → List ℕ → List ℕ
with_place (Sent n to p) (Some f) k ks = ks
with_place (Sent n to p) None k ks = k ∷ ks
with_place _ o k ks = ks

abbrev pub places_in : List Mark → List ℕ
places_in [] = []
places_in (x ∷ log) = with_place x.event x.effect (deeds (part x.lane log)) (places_in log)

pub sends_count : (log : List Mark) → length (names_in log) + length (places_in log) ≡ total sends log
sends_count [] = refl
sends_count (x ∷ log) = go x.event x.effect (sends_count log)
  where
    go : (e : Event) (o : Option EffectName) → length (names_in log) + length (places_in log) ≡ total sends log
        → length (with_name e o (names_in log)) + length (with_place e o (deeds (part x.lane log)) (places_in log)) ≡ one_if (is_kind sends e) + total sends log
    go (Sent n q p) (Some f) i = omega (arith, i)
    go (Sent n q p) None i = omega (arith, i)
    go (Submitted n t) o i = omega (arith, i)
    go (TookMessage q m) o i = omega (arith, i)
    go (TookTask q m) o i = omega (arith, i)
    go (Handled n q m) o i = omega (arith, i)
    go (Ran n q m) o i = omega (arith, i)
    go (Gave f) o i = omega (arith, i)
    go (Put c) o i = omega (arith, i)
    go (Erased c) o i = omega (arith, i)
    go (ReadHandled v e p) o i = omega (arith, i)
    go (ReadRan v e p) o i = omega (arith, i)
    go (ReadSubmitted v e p) o i = omega (arith, i)
    go (ReadSent v e p) o i = omega (arith, i)
    go (Enter f) o i = omega (arith, i)
    go (Leave f) o i = omega (arith, i)
    go (Receives r) o i = omega (arith, i)

-- a mark that sends, as this effect or as none
pub record SentAs (o : Option EffectName) (log : List Mark) : Type 0 where
  pub x : Mark
  pub before : List Mark
  pub begins : Begins (x ∷ before) log
  pub sends : Sends x.event
  pub effect : x.effect ≡ o

sent_more : (o : Option EffectName) (x : Mark) (log : List Mark) → SentAs o log → SentAs o (x ∷ log)
sent_more o x log s = record { x = s.x; before = s.before; begins = begins_more (s.x ∷ s.before) log x s.begins; sends = s.sends; effect = s.effect }

pub in_names : (f : EffectName) (log : List Mark) → Has (names_in log) f → SentAs (Some f) log
in_names f [] h = absurd h
in_names f (x ∷ log) h = go x.event refl x.effect refl (λ k. in_names f log k) h
  where
    go : (e : Event) → x.event ≡ e → (o : Option EffectName) → x.effect ≡ o → (Has (names_in log) f → SentAs (Some f) log) → Has (with_name e o (names_in log)) f → SentAs (Some f) (x ∷ log)
    go (Sent n q p) i (Some g) j rec (inl s) = record { x = x; before = log; begins = begins_refl (x ∷ log); sends = (n, q, p, i); effect = j ∙ ap Some s }
    go (Sent n q p) i (Some g) j rec (inr h) = sent_more (Some f) x log (rec h)
    go (Sent n q p) i None j rec h = sent_more (Some f) x log (rec h)
    go _ i o j rec h = sent_more (Some f) x log (rec h)

names_more : (f : EffectName) (x : Mark) (log : List Mark) → Has (names_in log) f → Has (names_in (x ∷ log)) f
names_more f x log h = go x.event x.effect
  where
    go : (e : Event) (o : Option EffectName) → Has (with_name e o (names_in log)) f
    go (Sent n q p) (Some g) = inr h
    go (Sent n q p) None = h
    go _ o = h

pub names_have : (f : EffectName) (log : List Mark) → SentAs (Some f) log → Has (names_in log) f
names_have f log s = subst (λ (z : List Mark). Has (names_in z) f) (sym s.begins.1) (within s.begins.0)
  where
    here : Has (names_in (s.x ∷ s.before)) f
    here = subst (λ (e : Event). Has (with_name e s.x.effect (names_in s.before)) f) (sym s.sends.3) (subst (λ (o : Option EffectName). Has (with_name (Sent s.sends.0 s.sends.1 s.sends.2) o (names_in s.before)) f) (sym s.effect) (inl refl))

    within : (more : List Mark) → Has (names_in (more ++ s.x ∷ s.before)) f
    within [] = here
    within (y ∷ more) = names_more f y (more ++ s.x ∷ s.before) (within more)

module _ (program : List Doing) (task_effects : TaskEffects) where
  pub names_distinct : (log : List Mark) → FollowsBy program task_effects log → Distinct (names_in log)
  names_distinct [] f = tt
  names_distinct (x ∷ log) f = go x.event x.effect refl (names_distinct log f.1)
    where
      go : (e : Event) (o : Option EffectName) → x.effect ≡ o → Distinct (names_in log) → Distinct (with_name e o (names_in log))
      go (Sent n q p) (Some g) i d = (
        (λ h.
            let s = in_names g log h in
            let c = effect_by program task_effects log x f.0 g.rank g.number g.index (is_named g.rank g.number g.index x.effect i) in
            let there = carried_begins g.rank g.number g.index (s.x ∷ s.before) log s.begins (carried_here g.rank g.number g.index s.x s.before (is_named g.rank g.number g.index s.x.effect s.effect)) in
            both_ways (carried_out g.rank g.number g.index log) c.once there),
        d,
      )
      go (Sent n q p) None i d = d
      go _ o i d = d
