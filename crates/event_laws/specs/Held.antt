-- When commands come, by the fences between them, and what the bins hold at a receipt.
use Rattle.std.specs.Prelude.{◌≡◌, ◌≢◌, ◌↔◌, ℕ, zero, suc, ◌+◌, ◌<◌, ◌≤◌, true, List, [], ◌∷◌, Option, Some, Contains, AllPairs}
use Rattle.app_core.specs.declared.label.CellName.{CellName}
use Rattle.app_core.specs.declared.outline.CommandKind.{CommandKind}
use Rattle.app_core.specs.declared.outline.CommandKind.TheVariants.{Work, Fence}
use Rattle.app_core.specs.Commands.{IsCommand}
use Rattle.event_lists.specs.declared.lane.LaneName.{LaneName}
use Rattle.event_lists.specs.declared.event.Event.TheVariants.{Receipt as Receives}
use Rattle.event_lists.specs.declared.receipt.Row.{Row}
use Rattle.event_lists.specs.declared.receipt.Receipt.{Receipt}
use Rattle.event_lists.specs.declared.mark.Mark.{Mark}
use Rattle.event_lists.specs.Events.{part, Begins}
use Rattle.event_lists.specs.Bins.{is_put}
use Rattle.event_laws.specs.Follows.{bin_of}

-- how many fences are among the first so many commands
abbrev pub fences_before : ℕ → List CommandKind → ℕ
fences_before zero ks = 0
fences_before (suc c) [] = 0
fences_before (suc c) (Work ∷ ks) = fences_before c ks
fences_before (suc c) (Fence ∷ ks) = suc (fences_before c ks)

-- a command comes before the fence of a number
abbrev pub IsBefore : List CommandKind → ℕ → ℕ → Type 0
IsBefore kinds command fence = fences_before command kinds < fence

-- or after it
abbrev pub IsAfter : List CommandKind → ℕ → ℕ → Type 0
IsAfter kinds command fence = fence ≤ fences_before command kinds

-- a receipt is in a list, at a mark with a list before it
pub record HasReceipt (log before : List Mark) (x : Mark) (r : Receipt) : Type 0 where
  pub begins : Begins (x ∷ before) log
  pub is : x.event ≡ Receives r

abbrev pub entry : ℕ → ℕ → CellName
entry version place = record { version = version; place = place }

-- of a version the bins of each rank hold the entries at just these places, each in its own bin
abbrev pub BinsHold : ℕ → (ℕ → ℕ → List ℕ) → ℕ → List Mark → Type 0
BinsHold ranks holds version log =
    (l : LaneName) (place : ℕ) → l.rank < ranks → l.bin ≡ true
    → (is_put (entry version place) (part l log) ≡ true) ↔ (Contains (holds l.rank version) place × (l ≡ bin_of l.rank (entry version place)))

abbrev pub AreDifferent : List ℕ → Type 0
AreDifferent places = AllPairs (λ a b. a ≢ b) places

-- all commands before a fence are sound
abbrev pub AllSound : List CommandKind → (ℕ → Type 0) → ℕ → Type 0
AllSound kinds sound fence = (command : ℕ) → IsCommand kinds command → IsBefore kinds command fence → sound command

-- no sound command writes the version
abbrev pub HasNoWriter : (ℕ → Option ℕ) → (ℕ → Type 0) → ℕ → Type 0
HasNoWriter writer sound version = (command : ℕ) → writer version ≡ Some command → sound command → ⊥

-- a command that comes before a fence which another comes after
pub record ComesAfter (kinds : List CommandKind) (writer : Option ℕ) (command : ℕ) : Type 0 where
  pub by : ℕ
  pub fence : ℕ
  pub writes : writer ≡ Some by
  pub before : IsBefore kinds by fence
  pub after : IsAfter kinds command fence

-- all ranks together
abbrev pub sum_rows : (Row → ℕ) → List Row → ℕ
sum_rows f [] = 0
sum_rows f (row ∷ rows) = f row + sum_rows f rows

-- what a receipt counts of messages and of tasks, at all ranks
abbrev pub all_told : Receipt → ℕ × ℕ
all_told r = (sum_rows (λ row. row.sent) r.rows, sum_rows (λ row. row.tasks) r.rows)
