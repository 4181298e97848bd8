-- What an item says of a pass of a fence, and what is to be known for it.
use Rattle.std.specs.Prelude.{◌≡◌, ℕ, suc, List, Option}
use Rattle.event_lists.specs.declared.event.Event.TheVariants.{Receipt as Receives}
use Rattle.event_lists.specs.declared.receipt.Row.{Row}
use Rattle.event_lists.specs.declared.mark.Mark.{Mark}
use Rattle.event_lists.specs.Events.{main_of, StandsOn}
use Rattle.event_lists.specs.Fences.{IsComplete, total_sent, total_handled}
use Rattle.world_words.specs.Lanes.{WordsView, ToldView}
use Rattle.fence_tree.specs.declared.rows.Sums.{Sums}
use Rattle.fence_tree.specs.declared.items.Verdict.{Verdict}
use Rattle.fence_tree.specs.declared.items.Verdict.TheVariants.{FirstPass, Moved, Done}
use Rattle.fence_tree.specs.Rows.{HasSubtree, AreRead}

-- the pass is complete at every rank, and these are the sums of what all ranks read in it
pub record AreSums (ranks f p : ℕ) (s : Sums) (log : List Mark) : Type 0 where
  pub complete : IsComplete ranks f p log
  pub sent : s.sent ≡ total_sent ranks f p log
  pub handled : s.handled ≡ total_handled ranks f p log

-- the sums of two passes are four equal numbers
pub record AreEqual (one two : Sums) : Type 0 where
  pub first : one.sent ≡ one.handled
  pub sent_again : two.sent ≡ one.sent
  pub handled_again : two.handled ≡ one.handled

-- a verdict on pass p of fence f, by a list of events
abbrev pub IsRight : ℕ → ℕ → ℕ → Verdict → List Mark → Type 0
IsRight ranks f p (FirstPass s) log = (p ≡ 1) × AreSums ranks f 1 s log
IsRight ranks f p (Moved first second) log = (d : ℕ) × (p ≡ suc (suc d)) × AreSums ranks f (suc d) first log × AreSums ranks f p second log × (AreEqual first second → ⊥)
IsRight ranks f p (Done r) log = (r.fence ≡ f) × StandsOn (main_of 0) (Receives r) log

-- what contracts see of an item on its way up, and on its way down
pub record ReportView : Type 0 where
  pub rank : ℕ
  pub fence : ℕ
  pub pass : ℕ
  pub rows : List (Option Row)
  pub told : ToldView

pub record AnnouncementView : Type 0 where
  pub rank : ℕ
  pub fence : ℕ
  pub pass : ℕ
  pub verdict : Verdict
  pub told : ToldView

-- what was told with the rows of a rank's subtree has them, and is of these words
pub record IsReport {A : Type 0} (words : WordsView A) (v : ReportView) : Type 0 where
  pub table : v.told.table ≡ words.table
  pub subtree : HasSubtree words.ranks v.rank v.rows
  pub read : AreRead v.fence v.pass v.rows v.told.seen

-- what was told with a verdict shows that it is right, and is of these words
pub record IsAnnouncement {A : Type 0} (words : WordsView A) (v : AnnouncementView) : Type 0 where
  pub table : v.told.table ≡ words.table
  pub right : IsRight words.ranks v.fence v.pass v.verdict v.told.seen

-- for how many ranks the cells are
pub record CellsView : Type 0 where
  pub ranks : ℕ
