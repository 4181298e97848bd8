-- Lemmas that crates above use: what the tables of a list have when they are made, when room is made, and when an
-- event is noted.
use Rattle.std.proofs.Common.{◌≡◌, ℕ, ◌<◌, List, [], ◌∷◌, ◌++◌, length, reverse, false, refl, sym, ap, subst, ◌∙◌, arith}
use Rattle.std.proofs.lemmas.List.{reverse-append, length-reverse}
use Rattle.std.specs.Prelude.{None}
use Rattle.event_lists.specs.declared.lane.LaneName.{LaneName}
use Rattle.event_lists.specs.declared.mark.Mark.{Mark}
use Rattle.event_lists.specs.Events.{same_lane, same_item}
use Rattle.event_lists.specs.Futures.{same_future}
use Rattle.event_lists.specs.Legal.{May}
use Rattle.event_rules.specs.declared.values.LaneState.{LaneState}
use Rattle.event_rules.specs.Shown.{ShowsLane, ShowsItem, ShowsFuture}
use Rattle.event_tables.specs.declared.indexes.Indexes.{Indexes}
use Rattle.event_tables.specs.declared.table.Table.{Table}
use Rattle.event_tables.specs.Tables.{value_at}
use Rattle.event_tables.specs.Contents.{max_events, KeepsLanes}
use Rattle.event_tables.specs.Indexed.{Keeps, IsKept, HasSameValues}
use Rattle.event_tables.proofs.ValueLemmas.{keeps_on, lacks_on}

-- a lane that has no events
idle : LaneState
idle = record { hand = None; own = None; keeps = false; fresh = false; fence = None; entered = 0; passes = 0; recent = record { first = None; second = None; third = None } }

idle_shows : (l : LaneName) → ShowsLane [] l idle
unfolding idle
idle_shows l = record {
  hand = refl;
  own = refl;
  keeps = λ r n f e. absurd (cc);
  fresh = λ r m e. absurd (cc);
  fence = refl;
  entered = refl;
  passed = refl;
  first = refl;
  second = refl;
  third = refl;
}

pub lanes_first : (t : Table LaneName LaneState) → ((l : LaneName) → value_at same_lane t l ≡ record { hand = None; own = None; keeps = false; fresh = false; fence = None; entered = 0; passes = 0; recent = record { first = None; second = None; third = None } })
    → KeepsLanes [] t
unfolding idle
lanes_first t e l = subst (ShowsLane [] l) (sym (e l)) (idle_shows l)

-- tables whose values stay keep what they kept
pub same_keeps : (log : List Mark) (s t : Indexes) → HasSameValues s t → Keeps log s → Keeps log t
same_keeps log s t same keeps = record {
  lanes = keeps_on same_lane (ShowsLane log) s.lanes t.lanes same.lanes keeps.lanes;
  items = keeps_on same_item (ShowsItem log) s.items t.items same.items keeps.items;
  futures = keeps_on same_future (ShowsFuture log) s.futures t.futures same.futures keeps.futures;
  lacking = lacks_on log s.lacking t.lacking same.lacking keeps.lacking;
  counts = λ c. same.counts c ∙ keeps.counts c;
  rows = λ p. same.rows p ∙ keeps.rows p;
  receipts = λ f. same.receipts f ∙ keeps.receipts f;
  puts = λ e. same.puts e ∙ keeps.puts e;
}

pub same_kept : (ranks workers : ℕ) (log : List Mark) (s t : Indexes) → HasSameValues s t → IsKept ranks workers log s → IsKept ranks workers log t
same_kept ranks workers log s t same is = record { range = is.range; legal = is.legal; within = is.within; keeps = same_keeps log s t same is.keeps }

-- an event at the end of the marks is the newest of the list
pub newest : (marks more : List Mark) (x : Mark) → more ≡ marks ++ x ∷ [] → reverse more ≡ x ∷ reverse marks
newest marks more x e = ap reverse e ∙ reverse-append marks (x ∷ [])

pub one_more : (ranks workers : ℕ) (marks more : List Mark) (s t : Indexes) (x : Mark) → more ≡ marks ++ x ∷ [] → IsKept ranks workers (reverse marks) s
    → May ranks workers (reverse marks) x → length marks < max_events → Keeps (x ∷ reverse marks) t → IsKept ranks workers (reverse more) t
one_more ranks workers marks more s t x e is may short keeps = subst (λ log. IsKept ranks workers log t) (sym (newest marks more x e)) (record {
  range = is.range;
  legal = (may, is.legal);
  within = (let w = length-reverse marks in omega (arith, w, short));
  keeps = keeps;
})
