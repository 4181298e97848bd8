use Rattle.std.proofs.Common.{◌≡◌}
use Rattle.future_cell.specs.CellState.{StillKnows}
use Rattle.future_cell.proofs.cell.FutureCell.on_assigned.Given as goal

abbrev pub invariant-loop : goal.invariant-loop
invariant-loop g l =
    (goal.iterator-loop g).can_next l.iterator' × (goal.iterator-loop g).is_finite l.iterator' × (l.note.cell ≡ l.initial.note.cell) × StillKnows l.initial.note.known l.note.known
