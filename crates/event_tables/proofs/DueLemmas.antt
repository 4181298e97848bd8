-- What an event doesn't change: the dues of what was made.
use Rattle.std.proofs.Common.{◌≡◌, ℕ, Bool, true, false, List, [], ◌∷◌, refl, ap, arith}
use Rattle.std.specs.Prelude.{if◌then◌else◌, Option, Some, None}
use Rattle.event_lists.specs.declared.lane.LaneName.{LaneName}
use Rattle.event_lists.specs.declared.event.Event.{Event}
use Rattle.event_lists.specs.declared.event.Event.TheVariants.{Sent, Submitted}
use Rattle.event_lists.specs.declared.mark.Item.{Item}
use Rattle.event_lists.specs.declared.mark.Mark.{Mark}
use Rattle.event_lists.specs.Events.{part, in_hand, is_item, makes, is_taken}
use Rattle.event_lists.specs.Futures.{due_made, due_of, own_due}
use Rattle.event_lists.specs.Legal.{Legal}
use Rattle.event_lists.proofs.ItemLemmas.{is_item_some, new_item, taken_made}
use Rattle.event_lists.proofs.HandLemmas.{hand_taken}
use Rattle.event_rules.specs.Shown.{load_made, load_of}

-- what was taken isn't made now
pub taken_old : (ranks workers : ℕ) (log : List Mark) (x : Mark) → Legal ranks workers (x ∷ log) → (c : Item) → is_taken c log ≡ true → is_item c (makes x.lane.rank x.event) ≡ false
taken_old ranks workers log x h c t = go (is_item c (makes x.lane.rank x.event)) refl
  where
    go : (b : Bool) → is_item c (makes x.lane.rank x.event) ≡ b → b ≡ false
    go true e = absurd (omega (arith, taken_made ranks workers log h.1 c t, new_item ranks workers log x h c (is_item_some c (makes x.lane.rank x.event) e)))
    go false e = refl

-- the due of what was taken stays
pub due_stays : (ranks workers : ℕ) (log : List Mark) (x : Mark) → Legal ranks workers (x ∷ log) → (c : Item) → is_taken c log ≡ true → due_of c (x ∷ log) ≡ due_of c log
due_stays ranks workers log x h c t =
    ap (λ (b : Bool). if b then due_made x.lane.rank (in_hand (part x.lane log)) (own_due (in_hand (part x.lane log)) log) x.event else due_of c log) (taken_old ranks workers log x h c t)

-- the due of what a lane has in hand stays while it has it in hand
pub own_stays : (ranks workers : ℕ) (log : List Mark) (x : Mark) → Legal ranks workers (x ∷ log) → (l : LaneName) → own_due (in_hand (part l log)) (x ∷ log) ≡ own_due (in_hand (part l log)) log
own_stays ranks workers log x h l = go (in_hand (part l log)) refl
  where
    go : (o : Option Item) → in_hand (part l log) ≡ o → own_due o (x ∷ log) ≡ own_due o log
    go None i = refl
    go (Some c) i = due_stays ranks workers log x h c (hand_taken l log c i)

loaded : (r : ℕ) (e : Event) (c : Item) → makes r e ≡ Some c → load_made e ≡ None → ⊥
loaded r (Sent n to p) c m i = absurd (cc)
loaded r (Submitted n t) c m i = absurd (cc)
loaded r e c m i = absurd (cc)

-- what wasn't made has no due
pub unmade_due : (c : Item) (log : List Mark) → load_of c log ≡ None → due_of c log ≡ None
unmade_due c [] i = refl
unmade_due c (x ∷ log) i = go (unmade_due c log) (is_item c (makes x.lane.rank x.event)) refl i
  where
    go : (load_of c log ≡ None → due_of c log ≡ None) → (b : Bool) → is_item c (makes x.lane.rank x.event) ≡ b → (if b then load_made x.event else load_of c log) ≡ None
        → (if b then due_made x.lane.rank (in_hand (part x.lane log)) (own_due (in_hand (part x.lane log)) log) x.event else due_of c log) ≡ None
    go rest true e i = absurd (loaded x.lane.rank x.event c (is_item_some c (makes x.lane.rank x.event) e) i)
    go rest false e i = rest i
