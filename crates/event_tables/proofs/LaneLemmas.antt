-- One more event in the state of its lane, and in those of the others.
use Rattle.std.proofs.Common.{◌≡◌, ℕ, ◌≤◌, ◌<◌, Bool, true, false, not, ◌&&◌, List, [], ◌∷◌, length, refl, sym, ap, ◌∙◌, subst, arith}
use Rattle.std.specs.Prelude.{if◌then◌else◌, Option, Some, slice_get}
use Rattle.event_lists.specs.declared.lane.LaneName.{LaneName}
use Rattle.event_lists.specs.declared.event.Event.{Event}
use Rattle.event_lists.specs.declared.event.Event.TheVariants.{TookMessage, TookTask, Handled, Submitted, Ran, Gave, ReadHandled, ReadRan, ReadSubmitted, ReadSent, Enter}
use Rattle.event_lists.specs.declared.future.Future.{Future}
use Rattle.event_lists.specs.declared.mark.Item.{Item}
use Rattle.event_lists.specs.declared.mark.Item.TheVariants.{Message, Task}
use Rattle.event_lists.specs.declared.mark.Mark.{Mark}
use Rattle.event_lists.specs.Events.{part, same_lane, in_hand, hand_after}
use Rattle.event_lists.specs.Futures.{own_due, passes_on, is_kept, is_fresh}
use Rattle.event_lists.specs.Fences.{fence_in, enters, readings, passes}
use Rattle.event_lists.specs.Legal.{Legal}
use Rattle.event_lists.proofs.LaneLemmas.{same_lane_true, part_own}
use Rattle.event_rules.specs.declared.values.LaneState.{LaneState}
use Rattle.event_rules.specs.Listed.{on}
use Rattle.event_rules.specs.Shown.{ShowsLane}
use Rattle.event_tables.specs.Lanes.{own_after, passes_own, keeps_after, fresh_after, AreLast, IsDueTaken}
use Rattle.event_tables.specs.declared.table.Table.{Table}
use Rattle.event_tables.specs.Tables.{value_at}
use Rattle.event_tables.specs.Contents.{KeepsLanes, max_events}
use Rattle.event_tables.proofs.DueLemmas.{own_stays}

-- counts in a part are bounded by the list
pub part_length : (l : LaneName) (log : List Mark) → length (part l log) ≤ length log
part_length l [] = omega arith
part_length l (x ∷ log) = go (part_length l log) (same_lane x.lane l)
  where
    go : length (part l log) ≤ length log → (b : Bool) → length (if b then x.event ∷ part l log else part l log) ≤ length (x ∷ log)
    go h true = omega (arith, h)
    go h false = omega (arith, h)

pub enters_length : (mine : List Event) → enters mine ≤ length mine
enters_length [] = omega arith
enters_length (Enter f ∷ mine) = omega (arith, enters_length mine)
enters_length (e ∷ mine) = omega (arith, enters_length mine)

pub passes_length : (mine : List Event) → passes (readings mine) ≤ length mine
passes_length [] = omega arith
passes_length (Enter f ∷ mine) = omega arith
passes_length (ReadHandled v f p ∷ mine) = omega (arith, passes_length mine)
passes_length (ReadRan v f p ∷ mine) = omega (arith, passes_length mine)
passes_length (ReadSubmitted v f p ∷ mine) = omega (arith, passes_length mine)
passes_length (ReadSent v f p ∷ mine) = omega (arith, passes_length mine)
passes_length (e ∷ mine) = omega (arith, passes_length mine)

-- the due of what is in hand
pub own_now : (ranks workers : ℕ) (log : List Mark) (l : LaneName) (e : Event) (own due : Option Future) → Legal ranks workers (on l e ∷ log) → own ≡ own_due (in_hand (part l log)) log → IsDueTaken e due log
    → own_after e own due ≡ own_due (hand_after e (in_hand (part l log))) (on l e ∷ log)
own_now ranks workers log l (TookMessage r n) own due h is taken = taken (Message r n) refl
own_now ranks workers log l (TookTask r n) own due h is taken = taken (Task r n) refl
own_now ranks workers log l (Handled n r m) own due h is taken = refl
own_now ranks workers log l (Ran n r t) own due h is taken = refl
own_now ranks workers log l e own due h is taken = is ∙ sym (own_stays ranks workers log (on l e) h l)

-- whether a task in hand keeps its due
pub keeps_now : (e : Event) (hand : Option Item) (own due : Option Future) (keeps : Bool) (mine : List Event)
    → ((r n : ℕ) (f : Future) → hand ≡ Some (Task r n) → own ≡ Some f → keeps ≡ is_kept f.label mine)
    → (r n : ℕ) (f : Future) → hand_after e hand ≡ Some (Task r n) → own_after e own due ≡ Some f → keeps_after e own keeps ≡ is_kept f.label (e ∷ mine)
keeps_now (TookTask q m) hand own due keeps mine h r n f i j = refl
keeps_now (TookMessage q m) hand own due keeps mine h r n f i j = absurd (cc)
keeps_now (Handled k q m) hand own due keeps mine h r n f i j = absurd (cc)
keeps_now (Ran k q m) hand own due keeps mine h r n f i j = absurd (cc)
keeps_now e hand own due keeps mine h r n f i j =
    ap (λ (o : Option Future). not (passes_own o e) && keeps) j ∙ ap (λ (b : Bool). not (passes_on f.label e) && b) (h r n f i j)

-- whether nothing was submitted or given for a message in hand
pub fresh_now : (e : Event) (hand : Option Item) (fresh : Bool) (mine : List Event)
    → ((r m : ℕ) → hand ≡ Some (Message r m) → fresh ≡ is_fresh mine)
    → (r m : ℕ) → hand_after e hand ≡ Some (Message r m) → fresh_after e fresh ≡ is_fresh (e ∷ mine)
fresh_now (TookMessage q n) hand fresh mine h r m i = refl
fresh_now (TookTask q n) hand fresh mine h r m i = absurd (cc)
fresh_now (Handled k q n) hand fresh mine h r m i = absurd (cc)
fresh_now (Ran k q n) hand fresh mine h r m i = absurd (cc)
fresh_now (Submitted n t) hand fresh mine h r m i = refl
fresh_now (Gave f) hand fresh mine h r m i = refl
fresh_now e hand fresh mine h r m i = h r m i

-- an event on one lane leaves the states of the others
pub others_stay : (ranks workers : ℕ) (log : List Mark) (x : Mark) (l : LaneName) (s : LaneState) → Legal ranks workers (x ∷ log) → same_lane x.lane l ≡ false → ShowsLane log l s → ShowsLane (x ∷ log) l s
others_stay ranks workers log x l s h e shown =
    let same : part l log ≡ part l (x ∷ log) = sym (ap (λ (b : Bool). if b then x.event ∷ part l log else part l log) e) in
    let own : s.own ≡ own_due (in_hand (part l log)) (x ∷ log) = shown.own ∙ sym (own_stays ranks workers log x h l) in
    record {
      hand = subst (λ (es : List Event). s.hand ≡ in_hand es) same shown.hand;
      own = subst (λ (es : List Event). s.own ≡ own_due (in_hand es) (x ∷ log)) same own;
      keeps = λ r n f i j. subst (λ (es : List Event). s.keeps ≡ is_kept f.label es) same (shown.keeps r n f i j);
      fresh = λ r m i. subst (λ (es : List Event). s.fresh ≡ is_fresh es) same (shown.fresh r m i);
      fence = subst (λ (es : List Event). s.fence ≡ fence_in es) same shown.fence;
      entered = subst (λ (es : List Event). s.entered ≡ enters es) same shown.entered;
      passed = subst (λ (es : List Event). s.passes ≡ passes (readings es)) same shown.passed;
      first = subst (λ (es : List Event). s.recent.first ≡ slice_get (readings es) 0) same shown.first;
      second = subst (λ (es : List Event). s.recent.second ≡ slice_get (readings es) 1) same shown.second;
      third = subst (λ (es : List Event). s.recent.third ≡ slice_get (readings es) 2) same shown.third;
    }

-- a state that each part of an event changed as these say shows the lane after the event
module _ (ranks workers : ℕ) (log : List Mark) (l : LaneName) (e : Event) (due : Option Future) (s t : LaneState) (h : Legal ranks workers (on l e ∷ log)) (below : length log < max_events) (taken : IsDueTaken e due log) (shown : ShowsLane log l s) where
  now : part l (on l e ∷ log) ≡ e ∷ part l log
  now = part_own l (on l e) log refl

  pub lane_shows : t.hand ≡ hand_after e s.hand → t.own ≡ own_after e s.own due → t.keeps ≡ keeps_after e s.own s.keeps → t.fresh ≡ fresh_after e s.fresh
      → ((mine : List Event) → s.fence ≡ fence_in mine → t.fence ≡ fence_in (e ∷ mine))
      → ((mine : List Event) → enters mine < max_events → s.entered ≡ enters mine → t.entered ≡ enters (e ∷ mine))
      → ((mine : List Event) → passes (readings mine) < max_events → s.passes ≡ passes (readings mine) → t.passes ≡ passes (readings (e ∷ mine)))
      → ((mine : List Event) → AreLast (readings mine) s.recent → AreLast (readings (e ∷ mine)) t.recent)
      → ShowsLane (on l e ∷ log) l t
  lane_shows hand own keeps fresh fence entered passed recent =
      let mine = part l log in
      let back = sym now in
      let last = recent mine (record { first = shown.first; second = shown.second; third = shown.third }) in
      let has : t.hand ≡ hand_after e (in_hand mine) = hand ∙ ap (hand_after e) shown.hand in
      let owns : t.own ≡ own_due (hand_after e (in_hand mine)) (on l e ∷ log) = own ∙ own_now ranks workers log l e s.own due h shown.own taken in
      let kept = keeps_now e s.hand s.own due s.keeps mine shown.keeps in
      let new = fresh_now e s.hand s.fresh mine shown.fresh in
      record {
        hand = subst (λ (es : List Event). t.hand ≡ in_hand es) back has;
        own = subst (λ (es : List Event). t.own ≡ own_due (in_hand es) (on l e ∷ log)) back owns;
        keeps = λ r n f i j. subst (λ (es : List Event). t.keeps ≡ is_kept f.label es) back (keeps ∙ kept r n f (sym hand ∙ i) (sym own ∙ j));
        fresh = λ r m i. subst (λ (es : List Event). t.fresh ≡ is_fresh es) back (fresh ∙ new r m (sym hand ∙ i));
        fence = subst (λ (es : List Event). t.fence ≡ fence_in es) back (fence mine shown.fence);
        entered = subst (λ (es : List Event). t.entered ≡ enters es) back (entered mine (omega (arith, below, part_length l log, enters_length mine)) shown.entered);
        passed = subst (λ (es : List Event). t.passes ≡ passes (readings es)) back (passed mine (omega (arith, below, part_length l log, passes_length mine)) shown.passed);
        first = subst (λ (es : List Event). t.recent.first ≡ slice_get (readings es) 0) back last.first;
        second = subst (λ (es : List Event). t.recent.second ≡ slice_get (readings es) 1) back last.second;
        third = subst (λ (es : List Event). t.recent.third ≡ slice_get (readings es) 2) back last.third;
      }

-- the states of all lanes after an event
pub lanes_kept : (ranks workers : ℕ) (log : List Mark) (x : Mark) (old new : Table LaneName LaneState) (t : LaneState) → Legal ranks workers (x ∷ log) → KeepsLanes log old → ShowsLane (x ∷ log) x.lane t
    → ((l : LaneName) → value_at same_lane new l ≡ (if same_lane x.lane l then t else value_at same_lane old l)) → KeepsLanes (x ∷ log) new
lanes_kept ranks workers log x old new t h keeps shown values l = subst (ShowsLane (x ∷ log) l) (sym (values l)) (go (same_lane x.lane l) refl)
  where
    go : (b : Bool) → same_lane x.lane l ≡ b → ShowsLane (x ∷ log) l (if b then t else value_at same_lane old l)
    go true e = subst (λ (m : LaneName). ShowsLane (x ∷ log) m t) (same_lane_true x.lane l e) shown
    go false e = others_stay ranks workers log x l (value_at same_lane old l) h e (keeps l)
