-- Stored events stay what they are where units, needs or rows are added after those that are there; and what one more
-- event makes of a trace.
use Rattle.std.proofs.Common.{◌≡◌, ℕ, ◌+◌, ◌<◌, ◌≤◌, List, [], ◌∷◌, ◌++◌, reverse, map, take, drop, get_or, slice_get, length, Some, refl, arith, ap, sym, ◌∙◌, length-append, length-drop}
use Rattle.std.proofs.Math.Seq.{get_or-append_seam}
use Rattle.std.proofs.lemmas.List.{get_or_append_left, take-append-le, drop-append-le, append-nil, map-append, reverse-append, reverse-reverse, length-reverse, length-map, get_or-map}
use Rattle.std.proofs.lemmas.Option.{slice_get-get_or}
use Rattle.std.proofs.lemmas.Grind.{common_steps}
use Rattle.app_core.specs.declared.label.Label.{Label}
use Rattle.app_core.specs.Needs.{max_needs, AreDistinct}
use Rattle.event_lists.specs.declared.event.Event.{Event}
use Rattle.event_lists.specs.declared.event.Event.TheVariants as full
use Rattle.event_lists.specs.declared.receipt.Row.{Row}
use Rattle.event_lists.specs.declared.receipt.Receipt.{Receipt as ReceiptData}
use Rattle.event_lists.specs.Rows.{max_ranks}
use Rattle.lane_trace.specs.declared.stored_event.UnitName.{UnitName}
use Rattle.lane_trace.specs.declared.stored_event.StoredEvent.{StoredEvent}
use Rattle.lane_trace.specs.declared.stored_event.StoredEvent.TheVariants.{SentUnit, SentGive, TookMessage, TookTask, Handled, Submitted, Ran, Gave, Put, Erased, ReadHandled, ReadRan, ReadSubmitted, ReadSent, Enter, Leave, Receipt}
use Rattle.lane_trace.specs.StoredEvents.{Beside, no_unit, unit_at, needs_at, rows_at, parcel_of, task_of, stored_event, stored_events, IsStored, AreStored}

slice_grown : {A : Type 0} → (xs more : List A) (i count : ℕ) → i + count ≤ length xs → take count (drop i (xs ++ more)) ≡ take count (drop i xs)
slice_grown xs more i count within =
    let before : i ≤ length xs = omega (arith, within) in
    let there : count ≤ length (drop i xs) = omega (arith, length-drop i xs, within) in
    ap (take count) (drop-append-le i xs more before) ∙ take-append-le count (drop i xs) more there

slice_last : {A : Type 0} → (xs more : List A) → take (length more) (drop (length xs) (xs ++ more)) ≡ more
slice_last xs more = grind (arith, common_steps)

-- what is in the lists of b is at the same places in those of c
pub record Grows (b c : Beside) : Type 0 where
  pub units_within : length b.units ≤ length c.units
  pub needs_within : length b.needs ≤ length c.needs
  pub rows_within : length b.rows ≤ length c.rows
  pub units : (i : ℕ) → i < length b.units → unit_at c.units i ≡ unit_at b.units i
  pub needs : (i count : ℕ) → i + count ≤ length b.needs → needs_at c.needs i count ≡ needs_at b.needs i count
  pub rows : (i count : ℕ) → i + count ≤ length b.rows → rows_at c.rows i count ≡ rows_at b.rows i count

pub grows : (b c : Beside) (us : List UnitName) (ns : List Label) (rs : List Row) → c.units ≡ b.units ++ us → c.needs ≡ b.needs ++ ns → c.rows ≡ b.rows ++ rs → Grows b c
grows b c us ns rs units needs rows = record {
  units_within = rw units (omega (arith, length-append b.units us));
  needs_within = rw needs (omega (arith, length-append b.needs ns));
  rows_within = rw rows (omega (arith, length-append b.rows rs));
  units = λ i within. rw units (get_or_append_left b.units us no_unit i within);
  needs = λ i count within. rw needs (slice_grown b.needs ns i count within);
  rows = λ i count within. rw rows (slice_grown b.rows rs i count within);
}

event_grown : (b c : Beside) (e : StoredEvent) → Grows b c → IsStored b e → stored_event c e ≡ stored_event b e
event_grown b c (SentUnit n i to) more is = ap (λ u. full.Sent n to (parcel_of u)) (more.units i is)
event_grown b c (Submitted n i first count) more is =
    let unit = more.units i is.0 in let needs = more.needs first count is.1 in rw (unit, needs) refl
event_grown b c (Receipt p first f count) more is = rw (more.rows first count is.0) refl
event_grown b c (SentGive n f to) more is = refl
event_grown b c (TookMessage r n) more is = refl
event_grown b c (TookTask r n) more is = refl
event_grown b c (Handled n r m) more is = refl
event_grown b c (Ran n r t) more is = refl
event_grown b c (Gave f) more is = refl
event_grown b c (Put name) more is = refl
event_grown b c (Erased name) more is = refl
event_grown b c (ReadHandled v f p) more is = refl
event_grown b c (ReadRan v f p) more is = refl
event_grown b c (ReadSubmitted v f p) more is = refl
event_grown b c (ReadSent v f p) more is = refl
event_grown b c (Enter f) more is = refl
event_grown b c (Leave f) more is = refl

stored_grown : (b c : Beside) (e : StoredEvent) → Grows b c → IsStored b e → IsStored c e
stored_grown b c (SentUnit n i to) more is = omega (arith, is, more.units_within)
stored_grown b c (Submitted n i first count) more is =
    (omega (arith, is.0, more.units_within), omega (arith, is.1, more.needs_within), is.2, rw (more.needs first count is.1) is.3)
stored_grown b c (Receipt p first f count) more is = (omega (arith, is.0, more.rows_within), is.1)
stored_grown b c (SentGive n f to) more is = is
stored_grown b c (TookMessage r n) more is = is
stored_grown b c (TookTask r n) more is = is
stored_grown b c (Handled n r m) more is = is
stored_grown b c (Ran n r t) more is = is
stored_grown b c (Gave f) more is = is
stored_grown b c (Put name) more is = is
stored_grown b c (Erased name) more is = is
stored_grown b c (ReadHandled v f p) more is = is
stored_grown b c (ReadRan v f p) more is = is
stored_grown b c (ReadSubmitted v f p) more is = is
stored_grown b c (ReadSent v f p) more is = is
stored_grown b c (Enter f) more is = is
stored_grown b c (Leave f) more is = is

same_events : (b c : Beside) (es : List StoredEvent) → Grows b c → AreStored b es → map (stored_event c) es ≡ map (stored_event b) es
same_events b c [] more are = refl
same_events b c (e ∷ es) more are = let here = event_grown b c e more are.0 in let rest = same_events b c es more are.1 in cc

still_stored : (b c : Beside) (es : List StoredEvent) (last : StoredEvent) → Grows b c → AreStored b es → IsStored c last → AreStored c (es ++ last ∷ [])
still_stored b c [] last more are is = (is, are)
still_stored b c (e ∷ es) last more are is = (stored_grown b c e more are.0, still_stored b c es last more are.1 is)

-- the trace with one more event
pub record IsAdded (b c : Beside) (es now : List StoredEvent) (e : Event) : Type 0 where
  pub stored : AreStored c now
  pub events : stored_events c now ≡ e ∷ stored_events b es

pub added : (b c : Beside) (es : List StoredEvent) (last : StoredEvent) (e : Event) → Grows b c → AreStored b es → IsStored c last → stored_event c last ≡ e → IsAdded b c es (es ++ last ∷ []) e
added b c es last e more are is stands = record {
  stored = still_stored b c es last more are is;
  events = rw (map-append (stored_event c) es (last ∷ []), same_events b c es more are, stands, reverse-append (map (stored_event b) es) (e ∷ [])) refl;
}

-- a message with a unit is added, and its unit is the last
pub unit_added : (us : List UnitName) (ns : List Label) (rs : List Row) (es : List StoredEvent) (n to : ℕ) (u : UnitName) → AreStored (record { units = us; needs = ns; rows = rs }) es
    → (all : List UnitName) (now : List StoredEvent) (i : ℕ) → all ≡ us ++ u ∷ [] → now ≡ es ++ SentUnit n i to ∷ [] → i ≡ length us
    → IsAdded (record { units = us; needs = ns; rows = rs }) (record { units = all; needs = ns; rows = rs }) es now (full.Sent n to (parcel_of u))
unit_added us ns rs es n to u are all now i grown pushed at =
    let b : Beside = record { units = us; needs = ns; rows = rs } in
    let c : Beside = record { units = us ++ u ∷ []; needs = ns; rows = rs } in
    let more = grows b c (u ∷ []) [] [] refl (sym (append-nil ns)) (sym (append-nil rs)) in
    let last = get_or-append_seam us u [] no_unit in
    rw (grown, pushed, at)
    (added b c es (SentUnit n (length us) to) (full.Sent n to (parcel_of u)) more are (omega (arith, length-append us (u ∷ []))) (ap (λ v. full.Sent n to (parcel_of v)) last))

-- a task is added, and its unit and its needs are the last
pub task_added : (us : List UnitName) (ns : List Label) (rs : List Row) (es : List StoredEvent) (n : ℕ) (u : UnitName) (needed : List Label) → AreStored (record { units = us; needs = ns; rows = rs }) es → length needed ≤ max_needs → AreDistinct needed
    → (all : List UnitName) (all_needs : List Label) (now : List StoredEvent) (i first : ℕ) → all ≡ us ++ u ∷ [] → all_needs ≡ ns ++ needed → now ≡ es ++ Submitted n i first (length needed) ∷ [] → i ≡ length us → first ≡ length ns
    → IsAdded (record { units = us; needs = ns; rows = rs }) (record { units = all; needs = all_needs; rows = rs }) es now (full.Submitted n (task_of u needed))
task_added us ns rs es n u needed are few distinct all all_needs now i first grown grown_needs pushed at at_first =
    let b : Beside = record { units = us; needs = ns; rows = rs } in
    let c : Beside = record { units = us ++ u ∷ []; needs = ns ++ needed; rows = rs } in
    let more = grows b c (u ∷ []) needed [] refl refl (sym (append-nil rs)) in
    let unit = get_or-append_seam us u [] no_unit in
    let needs = slice_last ns needed in
    rw (grown, grown_needs, pushed, at, at_first)
    (added b c es (Submitted n (length us) (length ns) (length needed)) (full.Submitted n (task_of u needed)) more are
    (omega (arith, length-append us (u ∷ [])), omega (arith, length-append ns needed), few, rw needs distinct) (rw (unit, needs) refl))

-- a receipt is added, and its rows are the last
pub receipt_added : (us : List UnitName) (ns : List Label) (rs : List Row) (es : List StoredEvent) (r : ReceiptData) → AreStored (record { units = us; needs = ns; rows = rs }) es → length r.rows ≤ max_ranks
    → (all : List Row) (now : List StoredEvent) (first count : ℕ) → all ≡ rs ++ r.rows → now ≡ es ++ Receipt r.pass first r.fence count ∷ [] → first ≡ length rs → count ≡ length r.rows
    → IsAdded (record { units = us; needs = ns; rows = rs }) (record { units = us; needs = ns; rows = all }) es now (full.Receipt r)
receipt_added us ns rs es r are few all now first count grown pushed at is_count =
    let b : Beside = record { units = us; needs = ns; rows = rs } in
    let c : Beside = record { units = us; needs = ns; rows = rs ++ r.rows } in
    let more = grows b c [] [] r.rows (sym (append-nil us)) (sym (append-nil ns)) refl in
    let rows = slice_last rs r.rows in
    rw (grown, pushed, at, is_count)
    (added b c es (Receipt r.pass (length rs) r.fence (length r.rows)) (full.Receipt r) more are (omega (arith, length-append rs r.rows), few) (rw rows refl))

-- the event at an index, from 0 for the oldest
pub event_found : (f : StoredEvent → Event) (es : List StoredEvent) (i : ℕ) (s : StoredEvent) → i < length (reverse (map f es)) → s ≡ get_or es i s → slice_get (reverse (reverse (map f es))) i ≡ Some (f s)
event_found f es i s within is =
    let here : i < length es = simp (length-reverse, length-map) at within in
    let there : i < length (map f es) = simp length-map here in
    let found = slice_get-get_or (map f es) i (f s) there in
    let same = get_or-map f es i s (f s) here in
    rw reverse-reverse (found ∙ ap Some (same ∙ ap f (sym is)))
