-- How the state of a turn goes on from stage to stage.
use Rattle.std.proofs.Common.{◌≡◌, ℕ, suc, ◌+◌, ◌*◌, ◌<◌, List, [], refl, sym, ap, subst, ◌∙◌, arith}
use Rattle.std.specs.Prelude.{Option, Some, Result, Ok, Err, OnErr}
use Rattle.app_core.specs.declared.label.Label.{Label}
use Rattle.app_core.specs.declared.outline.Outline.{Outline}
use Rattle.event_lists.specs.declared.receipt.Row.{Row}
use Rattle.event_lists.specs.declared.mark.Mark.{Mark}
use Rattle.event_lists.specs.Events.{Begins, part}
use Rattle.event_lists.specs.Legal.{Legal}
use Rattle.world_words.specs.Lanes.{WordsView, LaneView, ToldView}
use Rattle.fence_tree.specs.declared.state.Stage.{Stage}
use Rattle.fence_tree.specs.declared.state.Stage.TheVariants.{SecondChild, Reported}
use Rattle.fence_tree.specs.Rows.{row_at, no_rows, HasSubtree, AreRead}
use Rattle.fence_tree.specs.Verdicts.{IsReport}
use Rattle.fence_tree.specs.Turns.{StateView, Knows, IsTurning, AreGathered, passes_read, Turned}
use Rattle.fence_tree.proofs.TurnLemmas.{Still, no_row_read}
use Rattle.fence_tree.proofs.TreeLemmas.{gathered, still_has}

-- only what the lane sees grew
pub still_seen : {A : Type 0} (words : WordsView A) (may : Label → List Outline → Type 0) (old new : LaneView) → new ≡ record old { seen = new.seen } → Begins old.seen new.seen → Legal words.ranks words.workers new.seen → part new.name new.seen ≡ new.mine → Still words may old new
still_seen words may old new is seen legal own = record {
  table = ap (λ (v : LaneView). v.table) is;
  name = ap (λ (v : LaneView). v.name) is;
  owes = ap (λ (v : LaneView). v.owes) is;
  mine = ap (λ (v : LaneView). v.mine) is;
  seen = seen;
  legal = legal;
  own = own;
  spare = ap (λ (v : LaneView). v.spare) is;
  progress = ap (λ (v : LaneView). v.progress) is;
  other = (ap (λ (v : LaneView). v.set_stop) is, ap (λ (v : LaneView). v.kept) is);
}

pub turned_seen : (fence : ℕ) (old new : LaneView) → new ≡ record old { seen = new.seen } → Begins old.seen new.seen → Turned fence old new
turned_seen fence old new is seen = record {
  more = [];
  events = ap (λ (v : LaneView). v.mine) is;
  of_fence = tt;
  spare = let e = ap (λ (v : LaneView). v.spare) is in omega (arith, e);
  knew = seen;
  same = (ap (λ (v : LaneView). v.table) is, ap (λ (v : LaneView). v.name) is, ap (λ (v : LaneView). v.owes) is, ap (λ (v : LaneView). v.progress) is);
  other = (ap (λ (v : LaneView). v.set_stop) is, ap (λ (v : LaneView). v.kept) is);
}

pub on_err : {T E P Q : Type 0} (r : Result T E) → (P → Q) → OnErr r P → OnErr r Q
on_err (Ok v) f p = p
on_err (Err e) f p = f p

module _ {A : Type 0} (words : WordsView A) (s : StateView) (v : LaneView) where
  -- the pass was read
  pub read_in : (g : Stage) → s.stage ≡ g → passes_read g s.answered ≡ suc s.answered → IsTurning words s v → Knows words s (suc s.answered) v
  read_in g at read t = subst (λ (n : ℕ). Knows words s n v) (ap (λ (z : Stage). passes_read z s.answered) at ∙ read) t.knows

  pub gathered_in : (g : Stage) → s.stage ≡ g → IsTurning words s v → AreGathered words.ranks s.rank g s.rows
  gathered_in g at t = subst (λ (z : Stage). AreGathered words.ranks s.rank z s.rows) at t.gathered

  -- a child's cell was empty
  pub refused : (g : Stage) → s.stage ≡ g → passes_read g s.answered ≡ suc s.answered → AreGathered words.ranks s.rank s.stage s.rows → (new : StateView) → new ≡ s → Knows words new (suc s.answered) v → IsTurning words new v
  refused g at read there new is k = subst (λ (z : StateView). IsTurning words z v) (sym is) (record {
    knows = subst (λ (n : ℕ). Knows words s n v) (sym (ap (λ (z : Stage). passes_read z s.answered) at ∙ read)) (subst (λ (z : StateView). Knows words z (suc s.answered) v) is k);
    gathered = there;
  })

  -- a child's report was taken in
  module _ (new : StateView) (state : new ≡ record s { rows = new.rows }) (k : Knows words new (suc s.answered) v) (kept : (q : ℕ) (row : Row) → row_at s.rows q ≡ Some row → (other : Row) × (row_at new.rows q ≡ Some other)) where
    pub taken_in : Knows words new (suc new.answered) v
    taken_in = subst (λ (n : ℕ). Knows words new (suc n) v) (sym (ap (λ (z : StateView). z.answered) state)) k

    pub second_stage : (own : (row : Row) × (row_at s.rows s.rank ≡ Some row)) → HasSubtree words.ranks (2 * s.rank + 1) new.rows → IsTurning words (record new { stage = SecondChild }) v
    second_stage own has = record {
      knows = record {
        ranks = taken_in.ranks;
        read = taken_in.read;
        no_receipt = taken_in.no_receipt;
        rows = taken_in.rows;
        last = taken_in.last;
      };
      gathered = (
        subst (λ (r : ℕ). (row : Row) × (row_at new.rows r ≡ Some row)) (sym (ap (λ (z : StateView). z.rank) state)) (kept s.rank own.0 own.1),
        subst (λ (r : ℕ). HasSubtree words.ranks (2 * r + 1) new.rows) (sym (ap (λ (z : StateView). z.rank) state)) has,
      );
    }

    pub whole_subtree : AreGathered words.ranks s.rank SecondChild s.rows → HasSubtree words.ranks (2 * s.rank + 2) new.rows → HasSubtree words.ranks new.rank new.rows
    whole_subtree there second = subst (λ (r : ℕ). HasSubtree words.ranks r new.rows) (sym (ap (λ (z : StateView). z.rank) state))
        (gathered words.ranks s.rank new.rows (kept s.rank there.0.0 there.0.1) (still_has words.ranks (2 * s.rank + 1) s.rows new.rows kept there.1) second)

  -- the rows were reported
  pub reported_knows : (n : ℕ) → Knows words s n v → Knows words (record s { stage = Reported; rows = no_rows }) n v
  reported_knows n k = record {
    ranks = k.ranks;
    read = k.read;
    no_receipt = k.no_receipt;
    rows = no_row_read s.fence (suc s.answered) v.seen;
    last = k.last;
  }

  pub reported : 0 < s.rank → Knows words s (suc s.answered) v → IsTurning words (record s { stage = Reported; rows = no_rows }) v
  reported above k = record { knows = reported_knows (suc s.answered) k; gathered = (above, refl) }

  pub is_report : Knows words s (suc s.answered) v → HasSubtree words.ranks s.rank s.rows → (told : ToldView) → (told.table ≡ v.table) × (told.seen ≡ v.seen) → (rows : List (Option Row)) → rows ≡ s.rows → (pass : ℕ) → pass ≡ suc s.answered
      → IsReport words (record { rank = s.rank; fence = s.fence; pass = pass; rows = rows; told = told })
  is_report k has told knew rows is pass next = record {
    table = knew.0 ∙ k.read.lane.table;
    subtree = subst (λ (z : List (Option Row)). HasSubtree words.ranks s.rank z) (sym is) has;
    read = subst (λ (p : ℕ). AreRead s.fence p rows told.seen) (sym next)
        (subst (λ (z : List (Option Row)). AreRead s.fence (suc s.answered) z told.seen) (sym is) (subst (λ (l : List Mark). AreRead s.fence (suc s.answered) s.rows l) (sym knew.1) k.rows));
  }
