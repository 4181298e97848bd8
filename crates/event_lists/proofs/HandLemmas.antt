-- Lemmas that crates above use: what a lane has in hand.
use Rattle.std.proofs.Common.{◌≡◌, ◌⊎◌, ℕ, ◌≤◌, Bool, true, false, List, [], ◌∷◌, refl, sym, ap, ◌∙◌, subst, inl, inr, ⊎_elim}
use Rattle.std.specs.Prelude.{if◌then◌else◌, Option, Some, None}
use Rattle.std.proofs.lemmas.Bool.{both_ways}
use Rattle.event_lists.specs.declared.lane.LaneName.{LaneName}
use Rattle.event_lists.specs.declared.event.Event.{Event}
use Rattle.event_lists.specs.declared.event.Event.TheVariants.{TookMessage, TookTask, Handled, Ran}
use Rattle.event_lists.specs.declared.mark.Item.{Item}
use Rattle.event_lists.specs.declared.mark.Item.TheVariants.{Message, Task}
use Rattle.event_lists.specs.declared.mark.Mark.{Mark}
use Rattle.event_lists.specs.Events.{part, same_lane, takes, ends, times_made, is_taken, in_hand, hand_after, Begins, IsSent}
use Rattle.event_lists.specs.Counting.{Counting}
use Rattle.event_lists.specs.Legal.{Legal}
use Rattle.event_lists.specs.OwnEvents.{IsTakenOn}
use Rattle.event_lists.specs.declared.event.Parcel.{Parcel}
use Rattle.event_lists.proofs.LaneLemmas.{same_lane_true, same_lane_refl}
use Rattle.event_lists.proofs.ItemLemmas.{taken_here, taken_more, took_fresh, taken_made}
use Rattle.event_lists.proofs.ListLemmas.{legal_begins, begins_refl, begins_more, begins_trans, on_begins}

-- what is in hand was taken now, or was in hand and isn't ended on this lane now
hand_event : (e : Event) (h : Option Item) (c : Item) → hand_after e h ≡ Some c → (takes e ≡ Some c) ⊎ ((h ≡ Some c) × (ends e ≡ None))
hand_event (TookMessage r n) h c i = inl i
hand_event (TookTask r n) h c i = inl i
hand_event (Handled n r m) h c i = absurd (cc)
hand_event (Ran n r t) h c i = absurd (cc)
hand_event _ h c i = inr (i, refl)

pub hand_before : (l : LaneName) (x : Mark) (log : List Mark) (c : Item) → in_hand (part l (x ∷ log)) ≡ Some c
    → ((x.lane ≡ l) × (takes x.event ≡ Some c)) ⊎ ((in_hand (part l log) ≡ Some c) × (x.lane ≡ l → ends x.event ≡ None))
hand_before l x log c h = step (same_lane x.lane l) refl h
  where
    step : (b : Bool) → same_lane x.lane l ≡ b → in_hand (if b then x.event ∷ part l log else part l log) ≡ Some c → ((x.lane ≡ l) × (takes x.event ≡ Some c)) ⊎ ((in_hand (part l log) ≡ Some c) × (x.lane ≡ l → ends x.event ≡ None))
    step true e i = ⊎_elim (λ t. inl (same_lane_true x.lane l e, t)) (λ r. inr (r.0, λ _. r.1)) (hand_event x.event (in_hand (part l log)) c i)
    step false e i = inr (i, λ (same : x.lane ≡ l). absurd (both_ways (same_lane x.lane l) e (subst (λ (m : LaneName). same_lane x.lane m ≡ true) same (same_lane_refl x.lane))))

pub hand_taken : (l : LaneName) (log : List Mark) (c : Item) → in_hand (part l log) ≡ Some c → is_taken c log ≡ true
hand_taken l [] c h = absurd (cc)
hand_taken l (x ∷ log) c h = ⊎_elim
    (λ t. taken_here c x log t.1)
    (λ r. taken_more c x log (hand_taken l log c r.0))
    (hand_before l x log c h)

-- an item is in one hand
pub one_hand : (ranks workers : ℕ) (log : List Mark) → Legal ranks workers log → (l m : LaneName) (c : Item) → in_hand (part l log) ≡ Some c → in_hand (part m log) ≡ Some c → l ≡ m
one_hand ranks workers [] h l m c p q = absurd (cc)
one_hand ranks workers (x ∷ log) h l m c p q =
    let fresh = took_fresh c x.event ranks log x.lane (part x.lane log) h.0.counting in
    ⊎_elim
    (λ a. ⊎_elim
    (λ b. sym a.0 ∙ b.0)
    (λ b. absurd (both_ways (is_taken c log) (fresh a.1).1 (hand_taken m log c b.0)))
    (hand_before m x log c q))
    (λ a. ⊎_elim
    (λ b. absurd (both_ways (is_taken c log) (fresh b.1).1 (hand_taken l log c a.0)))
    (λ b. one_hand ranks workers log h.1 l m c a.0 b.0)
    (hand_before m x log c q))
    (hand_before l x log c p)

-- what an event ends was in the hand of its lane
pub ends_hand : (e : Event) (c : Item) (ranks : ℕ) (log : List Mark) (l : LaneName) (mine : List Event) → Counting ranks log l mine e → ends e ≡ Some c → in_hand mine ≡ Some c
ends_hand (Handled n r m) c ranks log l mine a e = a.1 ∙ e
ends_hand (Ran n r t) c ranks log l mine a e = a.1 ∙ e
ends_hand _ c ranks log l mine a e = absurd (cc)

pub hand_made : (ranks workers : ℕ) (log : List Mark) → Legal ranks workers log → (l : LaneName) (c : Item) → in_hand (part l log) ≡ Some c → 1 ≤ times_made c log
hand_made ranks workers log h l c i = taken_made ranks workers log h c (hand_taken l log c i)

-- a lane took what it has in hand
pub hand_taken_on : (l : LaneName) (log : List Mark) (c : Item) → in_hand (part l log) ≡ Some c → IsTakenOn l c log
hand_taken_on l [] c i = absurd (cc)
hand_taken_on l (x ∷ log) c i = ⊎_elim
    (λ a. (x.event, a.1, inl (a.0, refl)))
    (λ a. let t = hand_taken_on l log c a.0 in (t.0, t.1, inr t.2))
    (hand_before l x log c i)

-- what is in hand has an event that took it
pub taken_at : (l : LaneName) (c : Item) (log : List Mark) → in_hand (part l log) ≡ Some c → (x : Mark) × (earlier : List Mark) × Begins (x ∷ earlier) log × (takes x.event ≡ Some c) × (x.lane ≡ l)
taken_at l c [] h = absurd (cc)
taken_at l c (x ∷ log) h = ⊎_elim
    (λ a. (x, log, begins_refl (x ∷ log), a.1, a.0))
    (λ a. let r = taken_at l c log a.0 in (r.0, r.1, begins_more (r.0 ∷ r.1) log x r.2, r.3, r.4))
    (hand_before l x log c h)

-- a message in hand was sent to the lane's rank
pub hand_sent : (ranks workers : ℕ) (log : List Mark) → Legal ranks workers log → (l : LaneName) (r m : ℕ) → in_hand (part l log) ≡ Some (Message r m) → (p : Parcel) × IsSent r m l.rank p log
hand_sent ranks workers log h l r m e =
    let t = taken_at l (Message r m) log e in
    let legal = legal_begins ranks workers (t.0 ∷ t.1) log t.2 h in
    let s = sent t.0 t.1 t.0.event legal.0.counting t.3 in
    let before = begins_trans t.1 (t.0 ∷ t.1) log (t.0 ∷ [], refl) t.2 in
    let rank : t.0.lane.rank ≡ l.rank = ap (λ (z : LaneName). z.rank) t.4 in
    subst (λ (q : ℕ). (p : Parcel) × IsSent r m q p log) rank (s.0, (s.1.0, s.1.1, on_begins s.1.0 _ t.1 log before s.1.2))
  where
    sent : (x : Mark) (earlier : List Mark) (e : Event) → Counting ranks earlier x.lane (part x.lane earlier) e → takes e ≡ Some (Message r m) → (p : Parcel) × IsSent r m x.lane.rank p earlier
    sent x earlier (TookMessage q k) a t =
        let same : q ≡ r = cc in
        let number : k ≡ m = cc in
        subst (λ (z : ℕ). (p : Parcel) × IsSent z m x.lane.rank p earlier) same (subst (λ (z : ℕ). (p : Parcel) × IsSent q z x.lane.rank p earlier) number a.1)
    sent x earlier e a t = absurd (cc)

-- a task in hand is of the lane's rank
pub hand_rank : (ranks workers : ℕ) (log : List Mark) → Legal ranks workers log → (l : LaneName) (r n : ℕ) → in_hand (part l log) ≡ Some (Task r n) → r ≡ l.rank
hand_rank ranks workers [] h l r n e = absurd (cc)
hand_rank ranks workers (x ∷ log) h l r n e = ⊎_elim
    (λ a. took x.event (part x.lane log) h.0.counting a.1 ∙ ap (λ (m : LaneName). m.rank) a.0)
    (λ a. hand_rank ranks workers log h.1 l r n a.0)
    (hand_before l x log (Task r n) e)
  where
    took : (e : Event) (mine : List Event) → Counting ranks log x.lane mine e → takes e ≡ Some (Task r n) → r ≡ x.lane.rank
    took (TookTask q m) mine a t = let same : q ≡ r = cc in sym same ∙ a.1
    took e mine a t = absurd (cc)
