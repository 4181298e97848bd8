-- The words of the table, what they show of a list of events, and the names of the lanes.
use Rattle.std.specs.Prelude.{◌≡◌, ◌⊎◌, ℕ, zero, suc, ◌+◌, ◌*◌, ◌<◌, Bool, true, false, List, [], ◌∷◌, ◌++◌, slice_index, length}
use mathlib.Core.Option.{some}
use lib.ListN.{get_elem?}
use Rattle.event_lists.specs.declared.lane.LaneName.{LaneName}
use Rattle.event_lists.specs.declared.mark.Mark.{Mark}
use Rattle.event_lists.specs.declared.kind.Kind.{Kind}
use Rattle.event_lists.specs.declared.kind.Kind.TheVariants.{Sends as sends, Handlings as handlings, Submissions as submissions, Runs as runs}
use Rattle.event_lists.specs.Events.{count}
use Rattle.world_rule.specs.declared.view.View.{View}

-- the lanes of the hands below a number of one rank, or of its bins; and of all ranks
abbrev pub lanes_of : ℕ → Bool → ℕ → List LaneName
lanes_of r b zero = []
lanes_of r b (suc n) = record { rank = r; bin = b; number = n } ∷ lanes_of r b n

abbrev pub all_lanes : ℕ → ℕ → List LaneName
all_lanes zero workers = []
all_lanes (suc r) workers = lanes_of r false (suc workers) ++ (lanes_of r true 16 ++ all_lanes r workers)

-- the words lie in groups of 16, of which the first of each group serve: word 0, which never changes, the stop word, and
-- the four counts of each rank. So words of two groups are never on one cache line of 64 bytes
abbrev pub stop_word : ℕ
stop_word = 16

abbrev pub place : Kind → ℕ
place sends = 0
place handlings = 1
place submissions = 2
place runs = 3

-- the word of a kind at a rank
abbrev pub word_at : Kind → ℕ → ℕ
word_at k r = 16 * r + (32 + place k)

abbrev pub word_count : ℕ → ℕ
word_count ranks = 16 * ranks + 32

-- the words are the counts, and word 0 is 0
pub record WordsShow (ranks : ℕ) (words : List ℕ) (log : List Mark) : Type 0 where
  pub size : length words ≡ word_count ranks
  pub zero : slice_index words 0 ≡ 0
  pub each : (k : Kind) (r : ℕ) → r < ranks → slice_index words (word_at k r) ≡ count k r log

-- the stop word is set exactly where some seat's view has that it set it, and it is set wherever one's last look found it
-- set
pub record StopWordShows (word : ℕ) (views : List View) : Type 0 where
  pub one : (word ≡ 0) ⊎ (word ≡ 1)
  pub known : (id : ℕ) (v : View) → get_elem? views id ≡ some v → (v.set_stop ≡ true) ⊎ (v.saw_stop ≡ true) → word ≡ 1
  pub setter : word ≡ 1 → (id : ℕ) × (v : View) × (get_elem? views id ≡ some v) × (v.set_stop ≡ true)
