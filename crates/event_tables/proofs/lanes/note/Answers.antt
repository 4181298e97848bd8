use Rattle.std.proofs.Common.{sym, subst}
use Rattle.event_rules.specs.Shown.{ShowsLane}
use Rattle.event_rules.specs.Listed.{on}
use Rattle.event_tables.proofs.LaneLemmas.{lanes_kept}
use Rattle.event_tables.proofs.lanes.note.Goals as goal

pub returns : goal.returns
returns c = λ ranks workers log h below items keeps.
    let e = c.args.event.now in
    let l = c.args.lane in
    let state = subst (ShowsLane log l) (sym c.get-state.ensures) (keeps l) in
    let shown = c.after.ensures ranks workers log l h below (c.due_taken-due.ensures log items) state in
    lanes_kept ranks workers log (on l e) c.args.lanes.now c.set.new.self c.after.result h keeps shown c.set.ensures.values
