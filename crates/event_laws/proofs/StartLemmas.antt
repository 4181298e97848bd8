-- The starts that sent a message, by their places in the program.
use Rattle.std.proofs.Common.{◌≡◌, ℕ, suc, ◌+◌, ◌≤◌, Bool, true, false, List, [], ◌∷◌, ◌++◌, refl, sym, ap, ◌∙◌, subst, inl, inr, arith}
use Rattle.std.specs.Prelude.{if◌then◌else◌, ◌==◌, Option, Some, None, slice_get}
use Rattle.std.proofs.lemmas.Bool.{eqb-true}
use Rattle.app_core.specs.declared.outline.Outline.{Outline}
use Rattle.event_lists.specs.declared.lane.LaneName.{LaneName}
use Rattle.event_lists.specs.declared.event.Event.{Event}
use Rattle.event_lists.specs.declared.event.Event.TheVariants.{Sent}
use Rattle.event_lists.specs.declared.mark.EffectName.{EffectName}
use Rattle.event_lists.specs.declared.mark.Item.{Item}
use Rattle.event_lists.specs.declared.mark.Item.TheVariants.{Message, Task}
use Rattle.event_lists.specs.declared.mark.Mark.{Mark}
use Rattle.event_lists.specs.Events.{part, main_of, in_hand, Begins}
use Rattle.event_lists.specs.Counting.{Counting, MaySpawn}
use Rattle.event_lists.specs.Legal.{Legal}
use Rattle.event_lists.proofs.LaneLemmas.{part_own}
use Rattle.event_lists.proofs.ListLemmas.{legal_begins, begins_refl, begins_more}
use Rattle.event_laws.specs.Follows.{TaskEffects, Doing, Start, FollowsBy, Goes, Acts, Says, deeds, is_done, waits, effect_name}
use Rattle.event_laws.proofs.EffectMarkLemmas.{goes_begins}
use Rattle.event_laws.proofs.MainLemmas.{deeds_grow, no_starts}
use Rattle.event_laws.proofs.MatchingListLemmas.{Has, Distinct}
use Rattle.event_laws.proofs.TaskListLemmas.{Sends, with_place, places_in}

abbrev one_if : Bool → ℕ
one_if b = if b then 1 else 0

-- a mark that sends with no effect, and has this place
pub record StartAt (k : ℕ) (log : List Mark) : Type 0 where
  pub x : Mark
  pub before : List Mark
  pub begins : Begins (x ∷ before) log
  pub sends : Sends x.event
  pub effect : x.effect ≡ None
  pub place : k ≡ deeds (part x.lane before)

later : (k : ℕ) (x : Mark) (log : List Mark) → StartAt k log → StartAt k (x ∷ log)
later k x log s = record { x = s.x; before = s.before; begins = begins_more (s.x ∷ s.before) log x s.begins; sends = s.sends; effect = s.effect; place = s.place }

pub in_log : (k : ℕ) (log : List Mark) → Has (places_in log) k → StartAt k log
in_log k [] h = absurd h
in_log k (x ∷ log) h = go x.event refl x.effect refl (λ i. in_log k log i) h
  where
    go : (e : Event) → x.event ≡ e → (o : Option EffectName) → x.effect ≡ o → (Has (places_in log) k → StartAt k log) → Has (with_place e o (deeds (part x.lane log)) (places_in log)) k → StartAt k (x ∷ log)
    go (Sent n q p) i None j rec (inl s) = record { x = x; before = log; begins = begins_refl (x ∷ log); sends = (n, q, p, i); effect = j; place = sym s }
    go (Sent n q p) i None j rec (inr h) = later k x log (rec h)
    go (Sent n q p) i (Some g) j rec h = later k x log (rec h)
    go _ i o j rec h = later k x log (rec h)

more : (k : ℕ) (x : Mark) (log : List Mark) → Has (places_in log) k → Has (places_in (x ∷ log)) k
more k x log h = go x.event x.effect
  where
    go : (e : Event) (o : Option EffectName) → Has (with_place e o (deeds (part x.lane log)) (places_in log)) k
    go (Sent n q p) (Some g) = h
    go (Sent n q p) None = inr h
    go _ o = h

pub log_has : (k : ℕ) (log : List Mark) → StartAt k log → Has (places_in log) k
log_has k log s = subst (λ (z : List Mark). Has (places_in z) k) (sym s.begins.1) (within s.begins.0)
  where
    here : Has (places_in (s.x ∷ s.before)) k
    here = subst (λ (e : Event). Has (with_place e s.x.effect (deeds (part s.x.lane s.before)) (places_in s.before)) k) (sym s.sends.3) (subst (λ (o : Option EffectName). Has (with_place (Sent s.sends.0 s.sends.1 s.sends.2) o (deeds (part s.x.lane s.before)) (places_in s.before)) k) (sym s.effect) (inl (sym s.place)))

    within : (more_marks : List Mark) → Has (places_in (more_marks ++ s.x ∷ s.before)) k
    within [] = here
    within (y ∷ ys) = more k y (ys ++ s.x ∷ s.before) (within ys)

-- such a mark is a start by rank 0's main
pub record IsStarted (program : List Doing) (x : Mark) (log : List Mark) : Type 0 where
  pub lane : x.lane ≡ main_of 0
  pub hand : in_hand (part (main_of 0) log) ≡ None
  pub o : Outline
  pub here : slice_get program (deeds (part (main_of 0) log)) ≡ Some (Start o)
  pub says : Says 0 o x.event

module _ (ranks workers : ℕ) (program : List Doing) (task_effects : TaskEffects) where
  pub sent_start : (x : Mark) (log : List Mark) → Legal ranks workers (x ∷ log) → FollowsBy program task_effects (x ∷ log) → Sends x.event → x.effect ≡ None → IsStarted program x log
  sent_start x log h f s none = go (in_hand (part x.lane log)) refl counting.1 goes
    where
      goes : Acts program task_effects log x (part x.lane log) (in_hand (part x.lane log))
      goes = subst (Goes program task_effects log x (part x.lane log)) s.3 f.0

      counting : Counting ranks log x.lane (part x.lane log) (Sent s.0 s.1 s.2)
      counting = subst (Counting ranks log x.lane (part x.lane log)) s.3 h.0.counting

      go : (o : Option Item) → in_hand (part x.lane log) ≡ o → MaySpawn x.lane o → Acts program task_effects log x (part x.lane log) o → IsStarted program x log
      go (Some (Task q n)) hand m a = absurd (let z : Some (effect_name q n a.0) ≡ None = sym a.1.effect ∙ none in cc)
      go (Some (Message q n)) hand m a = absurd m
      go None hand m a = at_rank (x.lane.rank == 0) refl a.1
        where
          at_rank : (b : Bool) → (x.lane.rank == 0) ≡ b → slice_get (if b then program else waits program) (deeds (part x.lane log)) ≡ Some (Start a.0) → IsStarted program x log
          at_rank true e at =
              let lane : x.lane ≡ main_of 0 = m ∙ ap main_of (eqb-true x.lane.rank 0 e) in
              record {
                lane = lane;
                hand = subst (λ (l : LaneName). in_hand (part l log) ≡ None) lane hand;
                o = a.0;
                here = subst (λ (l : LaneName). slice_get program (deeds (part l log)) ≡ Some (Start a.0)) lane at;
                says = subst (λ (l : LaneName). Says l.rank a.0 x.event) lane a.2;
              }
          at_rank false e at = absurd (no_starts program (deeds (part x.lane log)) a.0 at)

  -- and the main has done it after that
  pub done_after : (x : Mark) (earlier log : List Mark) → Begins (x ∷ earlier) log → Sends x.event → IsStarted program x earlier → suc (deeds (part (main_of 0) earlier)) ≤ deeds (part (main_of 0) log)
  done_after x earlier log to s i =
      let own : deeds (part (main_of 0) (x ∷ earlier)) ≡ one_if (is_done (in_hand (part x.lane earlier)) x.event) + deeds (part x.lane earlier) = ap deeds (part_own (main_of 0) x earlier i.lane) in
      let hand : in_hand (part x.lane earlier) ≡ None = ap (λ (l : LaneName). in_hand (part l earlier)) i.lane ∙ i.hand in
      let is : is_done (in_hand (part x.lane earlier)) x.event ≡ true = ap (λ (o : Option Item). is_done o x.event) hand ∙ ap (is_done None) s.3 in
      let one : one_if (is_done (in_hand (part x.lane earlier)) x.event) ≡ 1 = ap one_if is in
      let lanes : deeds (part x.lane earlier) ≡ deeds (part (main_of 0) earlier) = ap (λ (l : LaneName). deeds (part l earlier)) i.lane in
      let grown : deeds (part (main_of 0) (x ∷ earlier)) ≤ deeds (part (main_of 0) log) = subst (λ (z : List Mark). deeds (part (main_of 0) (x ∷ earlier)) ≤ deeds (part (main_of 0) z)) (sym to.1) (deeds_grow (main_of 0) to.0 (x ∷ earlier)) in
      omega arith

  pub places_distinct : (log : List Mark) → Legal ranks workers log → FollowsBy program task_effects log → Distinct (places_in log)
  places_distinct [] h f = tt
  places_distinct (x ∷ log) h f = go x.event refl x.effect refl (places_distinct log h.1 f.1)
    where
      go : (e : Event) → x.event ≡ e → (o : Option EffectName) → x.effect ≡ o → Distinct (places_in log) → Distinct (with_place e o (deeds (part x.lane log)) (places_in log))
      go (Sent n q p) i None j d = (
        (λ k.
            let s = in_log (deeds (part x.lane log)) log k in
            let now = sent_start x log h f (n, q, p, i) j in
            let old = sent_start s.x s.before (legal_begins ranks workers (s.x ∷ s.before) log s.begins h.1) (goes_begins program task_effects (s.x ∷ s.before) log f.1 s.begins) s.sends s.effect in
            let after = done_after s.x s.before log s.begins s.sends old in
            let here : deeds (part x.lane log) ≡ deeds (part (main_of 0) log) = ap (λ (l : LaneName). deeds (part l log)) now.lane in
            let there : deeds (part s.x.lane s.before) ≡ deeds (part (main_of 0) s.before) = ap (λ (l : LaneName). deeds (part l s.before)) old.lane in
            let place = s.place in
            absurd (omega (arith, after, here, there, place))),
        d,
      )
      go (Sent n q p) i (Some g) j d = d
      go _ i o j d = d
