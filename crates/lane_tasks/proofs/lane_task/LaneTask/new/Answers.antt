use Rattle.std.proofs.Common.{◌≡◌, Some, length}
use Rattle.task_tables.proofs.PlaceLemmas.{empty_places}
use Rattle.lane_tasks.specs.Tolds.{IsToldOf}
use Rattle.lane_tasks.proofs.ToldLemmas.{empty_alike}
use Rattle.lane_tasks.proofs.lane_task.LaneTask.new.Goals as goal

pub invariant_of-result : goal.invariant_of-result
invariant_of-result g c =
    let named : g.J.Naming.app ≡ Some c.args.app.now = c.requires.named in
    rw (c.in-Ok.ensures.ok, c.in_ok-task.ensures, c.in_ok-tolds.ensures, named) (
      record {
        table = c.requires.table;
        carries = (_, c.requires.carries);
        needs = rw c.requires.to c.requires.futures;
        told = empty_places (IsToldOf g.J.WordsNaming.words c.args.submission.by) c.args.needs.now;
        alike = empty_alike _ _ (length c.args.needs.now);
      },
      c.requires.carries,
      c.requires.to,
    )
