-- A task that ran has carried out each of its effects.
use Rattle.std.proofs.Common.{◌≡◌, ℕ, zero, suc, ◌<◌, ◌≤◌, Bool, true, false, List, [], ◌∷◌, refl, sym, ap, ◌∙◌, subst, ⊎_elim, arith}
use Rattle.std.specs.Prelude.{if◌then◌else◌, Some, None, take, slice_get}
use Rattle.std.proofs.lemmas.Bool.{cases_Bool, cases_lt}
use Rattle.app_core.specs.declared.outline.Outline.{Outline}
use Rattle.app_core.specs.declared.outline.Outline.TheVariants as of
use Rattle.event_lists.specs.declared.lane.LaneName.{LaneName}
use Rattle.event_lists.specs.declared.event.Event.{Event}
use Rattle.event_lists.specs.declared.event.Event.TheVariants.{Sent, TookMessage, TookTask, Handled, Submitted, Ran, Gave, Put, Erased, ReadHandled, ReadRan, ReadSubmitted, ReadSent, Enter, Leave, Receipt as Receives}
use Rattle.event_lists.specs.declared.mark.Item.{Item}
use Rattle.event_lists.specs.declared.mark.Item.TheVariants.{Task}
use Rattle.event_lists.specs.declared.mark.Mark.{Mark}
use Rattle.event_lists.specs.Events.{part, same_lane, in_hand, takes}
use Rattle.event_lists.specs.Bins.{Bins}
use Rattle.event_lists.specs.Fences.{Fences}
use Rattle.event_lists.specs.Legal.{Legal}
use Rattle.event_lists.proofs.LaneLemmas.{same_lane_true}
use Rattle.event_lists.proofs.ListLemmas.{legal_begins}
use Rattle.event_lists.proofs.HandLemmas.{taken_at}
use Rattle.event_laws.specs.Follows.{TaskEffects, Doing, FollowsBy, Goes, Acts, Finished, CarriesOut, Says, is_own, owns, since, carried_out}
use Rattle.event_laws.proofs.PositionLemmas.{carried_begins}
use Rattle.event_laws.proofs.EffectMarkLemmas.{is_named, carried_here}

-- effects on the hand's lane, counted
abbrev one_if : Bool → ℕ
one_if b = if b then 1 else 0

pub owns_below : (os : List Outline) (i : ℕ) (o : Outline) → slice_get os i ≡ Some o → is_own o ≡ true → suc (owns (take i os)) ≤ owns os
owns_below [] i o e own = absurd (cc)
owns_below (p ∷ os) zero o e own = let same : p ≡ o = cc in let one : one_if (is_own p) ≡ 1 = ap one_if (ap is_own same ∙ own) in omega (arith, one)
owns_below (p ∷ os) (suc i) o e own = omega (arith, owns_below os i o e own)

pub owns_apart : (os : List Outline) (i j : ℕ) (o p : Outline) → slice_get os i ≡ Some o → is_own o ≡ true → slice_get os j ≡ Some p → is_own p ≡ true → owns (take i os) ≡ owns (take j os) → i ≡ j
owns_apart [] i j o p e own f own' same = absurd (cc)
owns_apart (q ∷ os) zero zero o p e own f own' same = refl
owns_apart (q ∷ os) zero (suc j) o p e own f own' same = let is : q ≡ o = cc in let one : one_if (is_own q) ≡ 1 = ap one_if (ap is_own is ∙ own) in absurd (omega (arith, one, same))
owns_apart (q ∷ os) (suc i) zero o p e own f own' same = let is : q ≡ p = cc in let one : one_if (is_own q) ≡ 1 = ap one_if (ap is_own is ∙ own') in absurd (omega (arith, one, same))
owns_apart (q ∷ os) (suc i) (suc j) o p e own f own' same = ap suc (owns_apart os i j o p e own f own' (omega (arith, same)))

-- a lane with something in hand is a hand's
pub hand_lane : (ranks workers : ℕ) (log : List Mark) → Legal ranks workers log → (l : LaneName) (c : Item) → in_hand (part l log) ≡ Some c → l.bin ≡ false
hand_lane ranks workers log h l c e =
    let t = taken_at l c log e in
    let legal = legal_begins ranks workers (t.0 ∷ t.1) log t.2 h in
    subst (λ (m : LaneName). m.bin ≡ false) t.4 (go t.0.lane (part t.0.lane t.1) t.0.event legal.0.bins t.3)
  where
    go : (m : LaneName) (mine : List Event) (e : Event) → Bins m mine e → takes e ≡ Some c → m.bin ≡ false
    go m mine (TookMessage r n) b t = b
    go m mine (TookTask r n) b t = b
    go m mine e b t = absurd (cc)

-- the effect of an event that isn't a put or an erase is on the hand's lane
pub own_says : (r : ℕ) (o : Outline) (e : Event) → Says r o e → ((c : _) → e ≡ Put c → ⊥) → ((c : _) → e ≡ Erased c → ⊥) → is_own o ≡ true
own_says r (of.Spawn u d ns h) e s p q = refl
own_says r (of.Give f h) e s p q = refl
own_says r (of.Put c) e s p q = absurd (p c s.1)
own_says r (of.Erase c) e s p q = absurd (q c s.1)

-- what is to be shown of the list before
abbrev Earlier : LaneName → ℕ → ℕ → List Outline → ℕ → List Mark → Type 0
Earlier l r n os i log = in_hand (part l log) ≡ Some (Task r n) → suc (owns (take i os)) ≤ since (part l log) → carried_out r n i log ≡ true

module _ (ranks workers : ℕ) (program : List Doing) (task_effects : TaskEffects) where
  -- of a task in hand the effects on the hand's lane were carried out in order, one with each event
  pub own_carried : (log : List Mark) → Legal ranks workers log → FollowsBy program task_effects log → (l : LaneName) (r n : ℕ) → in_hand (part l log) ≡ Some (Task r n) → (os : List Outline) → task_effects r n ≡ Some os
      → (i : ℕ) (o : Outline) → slice_get os i ≡ Some o → is_own o ≡ true → suc (owns (take i os)) ≤ since (part l log) → carried_out r n i log ≡ true
  own_carried [] h f l r n hand os plan i o at own lt = absurd (cc)
  own_carried (x ∷ log) h f l r n hand os plan i o at own lt = by_lane (λ a b. own_carried log h.1 f.1 l r n a os plan i o at own b) (same_lane x.lane l) refl hand lt
    where
      before : Earlier l r n os i log → in_hand (part l log) ≡ Some (Task r n) → suc (owns (take i os)) ≤ since (part l log) → carried_out r n i (x ∷ log) ≡ true
      before rec hand lt = carried_begins r n i log (x ∷ log) (x ∷ [], refl) (rec hand lt)

      here : Earlier l r n os i log → x.lane ≡ l → in_hand (part l log) ≡ Some (Task r n) → suc (owns (take i os)) ≤ suc (since (part l log)) → Acts program task_effects log x (part x.lane log) (in_hand (part x.lane log))
          → ((c : _) → x.event ≡ Put c → ⊥) → ((c : _) → x.event ≡ Erased c → ⊥) → carried_out r n i (x ∷ log) ≡ true
      here rec same hand lt acts p q = ⊎_elim
          (λ (less : owns (take i os) < since (part l log)). before rec hand (omega (arith, less)))
          (λ (more : since (part l log) ≤ owns (take i os)).
          let hand' : in_hand (part x.lane log) ≡ Some (Task r n) = ap (λ (m : LaneName). in_hand (part m log)) same ∙ hand in
          let a : (j : ℕ) × CarriesOut task_effects log x r n j = subst (Acts program task_effects log x (part x.lane log)) hand' acts in
          let c = a.1 in
          let lists : c.os ≡ os = (let e = sym c.plan ∙ plan in cc) in
          let there : slice_get os a.0 ≡ Some c.o = subst (λ (z : List Outline). slice_get z a.0 ≡ Some c.o) lists c.here in
          let its_own = own_says x.lane.rank c.o x.event c.says p q in
          let turn : owns (take a.0 os) ≡ since (part l log) = subst (λ (z : List Outline). owns (take a.0 z) ≡ since (part l log)) lists (c.turn its_own ∙ ap (λ (m : LaneName). since (part m log)) same) in
          let place : a.0 ≡ i = owns_apart os a.0 i c.o o there its_own at own (omega (arith, turn, more, lt)) in
          carried_here r n i x log (is_named r n i x.effect (subst (λ (z : ℕ). x.effect ≡ Some (record { rank = r; number = n; index = z })) place c.effect)))
          (cases_lt (owns (take i os)) (since (part l log)))

      idle : in_hand (part l log) ≡ Some (Task r n) → in_hand (part l log) ≡ None → carried_out r n i (x ∷ log) ≡ true
      idle a b = absurd (let e : Some (Task r n) ≡ None = sym a ∙ b in cc)

      stored : x.lane ≡ l → in_hand (part l log) ≡ Some (Task r n) → x.lane.bin ≡ true → carried_out r n i (x ∷ log) ≡ true
      stored same hand bin = absurd (let e : true ≡ false = sym bin ∙ ap (λ (m : LaneName). m.bin) same ∙ hand_lane ranks workers log h.1 l (Task r n) hand in cc)

      by_event : Earlier l r n os i log → x.lane ≡ l → (e : Event) → x.event ≡ e → Goes program task_effects log x (part x.lane log) e → Fences ranks log l (part l log) e → Bins x.lane (part x.lane log) e
          → in_hand (e ∷ part l log) ≡ Some (Task r n) → suc (owns (take i os)) ≤ since (e ∷ part l log) → carried_out r n i (x ∷ log) ≡ true
      by_event rec same (Sent k to p) is g fe b hand lt = here rec same hand lt g (λ c e. let z : Sent k to p ≡ Put c = sym is ∙ e in cc) (λ c e. let z : Sent k to p ≡ Erased c = sym is ∙ e in cc)
      by_event rec same (Submitted k t) is g fe b hand lt = here rec same hand lt g (λ c e. let z : Submitted k t ≡ Put c = sym is ∙ e in cc) (λ c e. let z : Submitted k t ≡ Erased c = sym is ∙ e in cc)
      by_event rec same (Gave d) is g fe b hand lt = here rec same hand lt g (λ c e. let z : Gave d ≡ Put c = sym is ∙ e in cc) (λ c e. let z : Gave d ≡ Erased c = sym is ∙ e in cc)
      by_event rec same (TookMessage q m) is g fe b hand lt = absurd (omega (arith, lt))
      by_event rec same (TookTask q m) is g fe b hand lt = absurd (omega (arith, lt))
      by_event rec same (Handled k q m) is g fe b hand lt = absurd (cc)
      by_event rec same (Ran k q m) is g fe b hand lt = absurd (cc)
      by_event rec same (Put c) is g fe b hand lt = stored same hand b.0
      by_event rec same (Erased c) is g fe b hand lt = stored same hand b.0
      by_event rec same (ReadHandled v e p) is g fe b hand lt = idle hand fe.1.1
      by_event rec same (ReadRan v e p) is g fe b hand lt = idle hand fe.1.1
      by_event rec same (ReadSubmitted v e p) is g fe b hand lt = idle hand fe.1.1
      by_event rec same (ReadSent v e p) is g fe b hand lt = idle hand fe.1.1
      by_event rec same (Enter e) is g fe b hand lt = idle hand fe.1
      by_event rec same (Leave e) is g fe b hand lt = idle hand fe.0.1
      by_event rec same (Receives e) is g fe b hand lt = idle hand fe.1.1

      by_lane : Earlier l r n os i log → (b : Bool) → same_lane x.lane l ≡ b → in_hand (if b then x.event ∷ part l log else part l log) ≡ Some (Task r n) → suc (owns (take i os)) ≤ since (if b then x.event ∷ part l log else part l log) → carried_out r n i (x ∷ log) ≡ true
      by_lane rec true e hand lt = let same = same_lane_true x.lane l e in by_event rec same x.event refl f.0 (subst (λ (m : LaneName). Fences ranks log m (part m log) x.event) same h.0.fences) h.0.bins hand lt
      by_lane rec false e hand lt = before rec hand lt

  -- so where a task ends, all of its effects were
  pub all_carried : (log : List Mark) → Legal ranks workers log → FollowsBy program task_effects log → (l : LaneName) (r n : ℕ) → in_hand (part l log) ≡ Some (Task r n) → (d : Finished task_effects log (part l log) r n) → (i : ℕ) (o : Outline) → slice_get d.os i ≡ Some o → carried_out r n i log ≡ true
  all_carried log h f l r n hand d i o at = ⊎_elim
      (λ (own : is_own o ≡ true). own_carried log h f l r n hand d.os d.plan i o at own (omega (arith, owns_below d.os i o at own, d.turn)))
      (λ (other : is_own o ≡ false). d.before i o at other)
      (cases_Bool (is_own o))
