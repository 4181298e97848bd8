-- The third part of what an event asks of the list before it: fences, their readings and their receipts.
use Rattle.std.specs.Prelude.{◌≡◌, ◌≢◌, ◌⊎◌, ℕ, zero, suc, ◌+◌, ◌<◌, Bool, true, false, ◌&&◌, ◌||◌, ◌==◌, if◌then◌else◌, List, [], ◌∷◌, Option, Some, None, length, slice_get}
use Rattle.event_lists.specs.declared.lane.LaneName.{LaneName}
use Rattle.event_lists.specs.declared.kind.Reading.{Reading}
use Rattle.event_lists.specs.declared.event.Event.{Event}
use Rattle.event_lists.specs.declared.event.Event.TheVariants.{Sent, Submitted, ReadHandled, ReadRan, ReadSubmitted, ReadSent, Enter, Leave, Receipt as Receives}
use Rattle.event_lists.specs.declared.receipt.Row.{Row}
use Rattle.event_lists.specs.declared.receipt.Receipt.{Receipt}
use Rattle.event_lists.specs.declared.mark.Mark.{Mark}
use Rattle.event_lists.specs.declared.kind.Kind.{Kind}
use Rattle.event_lists.specs.declared.kind.Kind.TheVariants.{Sends as sends, Handlings as handlings, Submissions as submissions, Runs as runs}
use Rattle.event_lists.specs.Events.{main_of, part, count, in_hand}

-- the fence that a main is in, by its part
abbrev pub fence_in : List Event → Option ℕ
fence_in [] = None
fence_in (Enter e ∷ es) = Some e
fence_in (Leave e ∷ es) = None
fence_in (_ ∷ es) = fence_in es

-- how many fences a main entered
abbrev pub enters : List Event → ℕ
enters [] = 0
enters (Enter e ∷ es) = suc (enters es)
enters (_ ∷ es) = enters es

abbrev pub reading : Kind → ℕ → ℕ → ℕ → Reading
reading k v f p = record { kind = k; found = v; fence = f; pass = p }

-- the readings of a main since it last entered a fence
abbrev pub readings : List Event → List Reading
readings [] = []
readings (ReadHandled v f p ∷ es) = reading handlings v f p ∷ readings es
readings (ReadRan v f p ∷ es) = reading runs v f p ∷ readings es
readings (ReadSubmitted v f p ∷ es) = reading submissions v f p ∷ readings es
readings (ReadSent v f p ∷ es) = reading sends v f p ∷ readings es
readings (Enter e ∷ es) = []
readings (_ ∷ es) = readings es

abbrev pub is_sent : Kind → ℕ
is_sent sends = 1
is_sent _ = 0

-- how many passes these readings complete: a reading of sent completes one
abbrev pub passes : List Reading → ℕ
passes [] = 0
passes (r ∷ rs) = is_sent r.kind + passes rs

-- a new attempt may be opened: none is open, or the open one found ran and submitted different
abbrev pub MayOpen : List Reading → Type 0
MayOpen [] = Unit {0}
MayOpen (r ∷ []) = r.kind ≡ sends
MayOpen (r ∷ (s ∷ rs)) = (r.kind ≡ sends) ⊎ ((r.kind ≡ submissions) × (r.found ≢ s.found))

-- the row of a pass that is completed after these readings: handled, ran and submitted were read just before
abbrev pub row_after : ℕ → List Reading → Row
row_after s (u ∷ (t ∷ (h ∷ rs))) = record { sent = s; handled = h.found; tasks = t.found }
row_after s _ = record { sent = s; handled = 0; tasks = 0 }

-- the row of a pass of a fence, by a main's part; none where it didn't complete the pass
abbrev pub row_of : ℕ → ℕ → List Event → Option Row
row_of f p [] = None
row_of f p (ReadSent v e o ∷ es) = if ((e == f) && (o == p)) then Some (row_after v (readings es)) else row_of f p es
row_of f p (_ ∷ es) = row_of f p es

-- a pass of a fence is complete at every rank
abbrev pub IsComplete : ℕ → ℕ → ℕ → List Mark → Type 0
IsComplete ranks f p log = (q : ℕ) → q < ranks → (row : Row) × (row_of f p (part (main_of q) log) ≡ Some row)

-- a pass above the first begins where the pass before is complete at every rank
abbrev pub IsReady : ℕ → ℕ → ℕ → List Mark → Type 0
IsReady ranks f p log = (d : ℕ) → p ≡ suc (suc d) → IsComplete ranks f (suc d) log

-- the place of a reading in the order: handled, ran, submitted, sent
abbrev pub InOrder : ℕ → List Mark → List Reading → Kind → ℕ → ℕ → Type 0
InOrder ranks log rs handlings f p = MayOpen rs × IsReady ranks f p log
InOrder ranks log rs runs f p = (h : ℕ) × (before : List Reading) × (rs ≡ reading handlings h f p ∷ before)
InOrder ranks log rs submissions f p = (t : ℕ) × (before : List Reading) × (rs ≡ reading runs t f p ∷ before)
InOrder ranks log rs sends f p = (t : ℕ) × (before : List Reading) × (rs ≡ reading submissions t f p ∷ (reading runs t f p ∷ before))

-- the main of this rank has nothing in hand, and is in this fence
abbrev pub IsIdleIn : LaneName → List Event → ℕ → Type 0
IsIdleIn l mine f = (l ≡ main_of l.rank) × (in_hand mine ≡ None) × (fence_in mine ≡ Some f)

abbrev pub Reads : ℕ → List Mark → LaneName → List Event → Kind → ℕ → ℕ → ℕ → Type 0
Reads ranks log l mine k v f p = (v ≡ count k l.rank log) × IsIdleIn l mine f × (p ≡ suc (passes (readings mine))) × InOrder ranks log (readings mine) k f p

abbrev pub is_receipt : ℕ → Event → Bool
is_receipt f (Receives r) = r.fence == f
is_receipt f _ = false

-- whether the fence has a receipt
abbrev pub has_receipt : ℕ → List Mark → Bool
has_receipt f [] = false
has_receipt f (x ∷ log) = is_receipt f x.event || has_receipt f log

-- the sum over the ranks below n
abbrev pub sum_ranks : (ℕ → ℕ) → ℕ → ℕ
sum_ranks f zero = 0
sum_ranks f (suc r) = f r + sum_ranks f r

abbrev pub sent_in : Option Row → ℕ
sent_in None = 0
sent_in (Some r) = r.sent

abbrev pub handled_in : Option Row → ℕ
handled_in None = 0
handled_in (Some r) = r.handled

-- what all ranks read in a pass, of messages sent and of messages handled
abbrev pub total_sent : ℕ → ℕ → ℕ → List Mark → ℕ
total_sent ranks f p log = sum_ranks (λ q. sent_in (row_of f p (part (main_of q) log))) ranks

abbrev pub total_handled : ℕ → ℕ → ℕ → List Mark → ℕ
total_handled ranks f p log = sum_ranks (λ q. handled_in (row_of f p (part (main_of q) log))) ranks

-- the pass after p agrees with pass p: the two sums of the two passes are four equal numbers
pub record Agree (ranks f p : ℕ) (log : List Mark) : Type 0 where
  pub first : total_sent ranks f p log ≡ total_handled ranks f p log
  pub sent_again : total_sent ranks f (suc p) log ≡ total_sent ranks f p log
  pub handled_again : total_handled ranks f (suc p) log ≡ total_handled ranks f p log

-- the rows are those of the pass, one for each rank
abbrev pub RowsAre : ℕ → ℕ → ℕ → List Mark → List Row → Type 0
RowsAre ranks f p log rows = (length rows ≡ ranks) × ((q : ℕ) → q < ranks → row_of f p (part (main_of q) log) ≡ slice_get rows q)

-- a receipt of a fence comes after a pass above the first that agrees with the one before, both complete at every rank
abbrev pub Receivable : ℕ → List Mark → Receipt → Type 0
Receivable ranks log r =
    (d : ℕ) × (r.pass ≡ suc (suc d)) × IsComplete ranks r.fence (suc d) log × IsComplete ranks r.fence r.pass log × Agree ranks r.fence (suc d) log × RowsAre ranks r.fence r.pass log r.rows

abbrev pub Fences : ℕ → List Mark → LaneName → List Event → Event → Type 0
Fences ranks log l mine (Sent n to p) = in_hand mine ≡ None → fence_in mine ≡ None
Fences ranks log l mine (Submitted n t) = in_hand mine ≡ None → fence_in mine ≡ None
Fences ranks log l mine (ReadHandled v f p) = Reads ranks log l mine handlings v f p
Fences ranks log l mine (ReadRan v f p) = Reads ranks log l mine runs v f p
Fences ranks log l mine (ReadSubmitted v f p) = Reads ranks log l mine submissions v f p
Fences ranks log l mine (ReadSent v f p) = Reads ranks log l mine sends v f p
Fences ranks log l mine (Enter f) = (l ≡ main_of l.rank) × (in_hand mine ≡ None) × (fence_in mine ≡ None) × (f ≡ suc (enters mine))
Fences ranks log l mine (Leave f) = IsIdleIn l mine f × (has_receipt f log ≡ true)
Fences ranks log l mine (Receives r) = (l ≡ main_of 0) × IsIdleIn l mine r.fence × (has_receipt r.fence log ≡ false) × Receivable ranks log r
Fences ranks log l mine _ = Unit {0}
