-- The rows of some ranks in a pass of a fence: a list by rank, none where the rank's row isn't known.
use Rattle.std.specs.Prelude.{◌≡◌, ℕ, ◌<◌, List, Option, Some, None, slice_get, replicate}
use Rattle.event_lists.specs.declared.receipt.Row.{Row}
use Rattle.event_lists.specs.declared.mark.Mark.{Mark}
use Rattle.event_lists.specs.Events.{main_of, part}
use Rattle.event_lists.specs.Fences.{row_of, sum_ranks, sent_in, handled_in}
use Rattle.fence_tree.specs.declared.rows.Sums.{Sums}
use Rattle.fence_tree.specs.Trees.{IsInSubtree}

abbrev pub no_rows : List (Option Row)
no_rows = replicate 16 None

abbrev pub flat : Option (Option Row) → Option Row
flat None = None
flat (Some row) = row

-- the row of a rank, where the list has one
abbrev pub row_at : List (Option Row) → ℕ → Option Row
row_at rows q = flat (slice_get rows q)

-- the first, and where there is none the second
abbrev pub row_or : Option Row → Option Row → Option Row
row_or None other = other
row_or (Some row) other = Some row

-- what the ranks below n sent and handled, by these rows
abbrev pub sums_of : List (Option Row) → ℕ → Sums
sums_of rows n = record { sent = sum_ranks (λ q. sent_in (row_at rows q)) n; handled = sum_ranks (λ q. handled_in (row_at rows q)) n }

-- the list has a row for each rank of the subtree of r
abbrev pub HasSubtree : ℕ → ℕ → List (Option Row) → Type 0
HasSubtree ranks r rows = (q : ℕ) → IsInSubtree r q → q < ranks → (row : Row) × (row_at rows q ≡ Some row)

-- each row of the list is what the rank's main read in this pass, by this list of events
abbrev pub AreRead : ℕ → ℕ → List (Option Row) → List Mark → Type 0
AreRead f p rows log = (q : ℕ) (row : Row) → row_at rows q ≡ Some row → row_of f p (part (main_of q) log) ≡ Some row
