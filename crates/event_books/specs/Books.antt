-- Books: what each lane of a run wrote, and which books are lawful.
use Rattle.std.specs.Prelude.{◌≡◌, ◌⊎◌, ℕ, zero, suc, ◌<◌, ◌≤◌, Bool, true, false, if◌then◌else◌, List, [], ◌∷◌, ◌++◌, reverse, length, All, AllPairs, Some, slice_get}
use Rattle.app_core.specs.Commands.{IsRankCount}
use Rattle.app_core.specs.declared.label.Label.{Label}
use Rattle.app_core.specs.declared.outline.Outline.{Outline}
use Rattle.event_lists.specs.declared.lane.LaneName.{LaneName}
use Rattle.event_lists.specs.declared.event.Event.{Event}
use Rattle.event_lists.specs.declared.event.Event.TheVariants.{Receipt as Receives}
use Rattle.event_lists.specs.declared.kind.Kind.{Kind}
use Rattle.event_lists.specs.declared.mark.Item.{Item}
use Rattle.event_lists.specs.declared.mark.Mark.{Mark}
use Rattle.event_lists.specs.Events.{same_lane, part, takes, number}
use Rattle.event_lists.specs.Legal.{IsLane, Legal}
use Rattle.event_laws.specs.Follows.{TaskEffects, Doing, IsRun}

-- a lane with its events, in order
pub record PartData : Type 0 where
  pub lane : LaneName
  pub events : List Event

-- the parts of all lanes, over so many ranks and workers
pub record BookData : Type 0 where
  pub ranks : ℕ
  pub workers : ℕ
  pub parts : List PartData

-- the order of lanes in a book: hands before bins, each by rank and number
abbrev pub IsBefore : LaneName → LaneName → Type 0
IsBefore a b = ((a.bin ≡ false) × (b.bin ≡ true)) ⊎ ((a.bin ≡ b.bin) × ((a.rank < b.rank) ⊎ ((a.rank ≡ b.rank) × (a.number < b.number))))

-- a receipt has one row for each rank
abbrev pub HasRows : ℕ → Event → Type 0
HasRows ranks e = (r : _) → e ≡ Receives r → length r.rows ≡ ranks

-- what a book keeps: lanes that there are, in order and each at most once, with at least one event each (a lane without
-- events is absent), and the rows of each receipt
pub record IsBook (b : BookData) : Type 0 where
  pub ranks : IsRankCount b.ranks
  pub workers : b.workers ≤ 4
  pub named : All (λ p. IsLane b.ranks b.workers p.lane) b.parts
  pub ordered : AllPairs (λ p q. IsBefore p.lane q.lane) b.parts
  pub written : All (λ p. 1 ≤ length p.events) b.parts
  pub rows : All (λ p. All (HasRows b.ranks) p.events) b.parts

-- the events of a lane in a book, in order: none where it isn't there
abbrev pub events_of : LaneName → List PartData → List Event
events_of l [] = []
events_of l (p ∷ ps) = if same_lane p.lane l then p.events else events_of l ps

-- the lane parts of a list are those of a book
abbrev pub HasParts : List Mark → BookData → Type 0
HasParts log b = (l : LaneName) → part l log ≡ reverse (events_of l b.parts)

-- a book is lawful where a legal list has its lane parts
abbrev pub IsLawful : BookData → Type 0
IsLawful b = (log : List Mark) × Legal b.ranks b.workers log × HasParts log b

-- and some such list follows an application
abbrev pub BookFollows : List Doing → (Label → List Outline → Type 0) → BookData → Type 0
BookFollows program may b = (log : List Mark) × (task_effects : TaskEffects) × IsRun b.ranks b.workers program may task_effects log × HasParts log b

-- the event is in a book on this lane, with so many later ones there
abbrev pub StandsIn : BookData → LaneName → ℕ → Event → Type 0
StandsIn b l later e = slice_get (reverse (events_of l b.parts)) later ≡ Some e

-- in a lawful book no two events take one message or task
abbrev pub TakingsAreApart : Type 0
TakingsAreApart =
    (b : BookData) → IsLawful b → (l m : LaneName) (i j : ℕ) (d e : Event) (c : Item) → StandsIn b l i d → StandsIn b m j e
    → takes d ≡ Some c → takes e ≡ Some c → (l ≡ m) × (i ≡ j)

-- and no two events of one kind on lanes of one rank carry one number
abbrev pub NumbersAreApart : Type 0
NumbersAreApart =
    (b : BookData) → IsLawful b → (l m : LaneName) (i j : ℕ) (d e : Event) (k : Kind) (n : ℕ) → StandsIn b l i d → StandsIn b m j e
    → number k d ≡ Some n → number k e ≡ Some n → l.rank ≡ m.rank → (l ≡ m) × (i ≡ j)

-- the lanes of so many hands or bins of a rank, by number from k on; and of so many ranks, by rank from r on
abbrev pub lanes_from : Bool → ℕ → ℕ → ℕ → List LaneName
lanes_from b r k zero = []
lanes_from b r k (suc n) = record { rank = r; bin = b; number = k } ∷ lanes_from b r (suc k) n

abbrev pub lanes_of_ranks : Bool → ℕ → ℕ → ℕ → List LaneName
lanes_of_ranks b each r zero = []
lanes_of_ranks b each r (suc n) = lanes_from b r 0 each ++ lanes_of_ranks b each (suc r) n

-- all lanes in the order of a book
abbrev pub lanes_in_order : ℕ → ℕ → List LaneName
lanes_in_order ranks workers = lanes_of_ranks false (suc workers) 0 ranks ++ lanes_of_ranks true 16 0 ranks

-- a lane with these events, the newest first, where there are any; and the parts of some lanes in a list
abbrev pub part_with : LaneName → List Event → List PartData
part_with l [] = []
part_with l (e ∷ es) = record { lane = l; events = reverse (e ∷ es) } ∷ []

abbrev pub parts_in : List Mark → List LaneName → List PartData
parts_in log [] = []
parts_in log (l ∷ ls) = part_with l (part l log) ++ parts_in log ls

-- the parts of all lanes in a list
abbrev pub book_of : ℕ → ℕ → List Mark → BookData
book_of ranks workers log = record { ranks = ranks; workers = workers; parts = parts_in log (lanes_in_order ranks workers) }

-- the parts of a legal list are those of a book
abbrev pub PartsAreOfABook : Type 0
PartsAreOfABook =
    (ranks workers : ℕ) (log : List Mark) → IsRankCount ranks → workers ≤ 4 → Legal ranks workers log
    → IsBook (book_of ranks workers log) × HasParts log (book_of ranks workers log)
