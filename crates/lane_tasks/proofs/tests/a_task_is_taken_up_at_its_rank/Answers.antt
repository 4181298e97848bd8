use Rattle.std.proofs.Common.{◌≡◌, ap, false, arith}
use Rattle.event_lists.specs.declared.lane.LaneName.{LaneName}
use Rattle.lane_tasks.proofs.tests.a_task_is_taken_up_at_its_rank.Goals as goal

abbrev of_main : LaneName
of_main = record { rank = 0; bin = false; number = 0 }

abbrev of_other : LaneName
of_other = record { rank = 1; bin = false; number = 0 }

abbrev of_worker : LaneName
of_worker = record { rank = 0; bin = false; number = 1 }

pub lane-main-requires-clause-has : goal.lane-main-requires-clause-has
lane-main-requires-clause-has g c = c.in_ok-words.ensures.has of_main (omega arith, omega arith)

pub lane-other-requires-clause-has : goal.lane-other-requires-clause-has
lane-other-requires-clause-has g c =
    c.lane-main.ensures.others of_other (λ same. let ranks : 1 ≡ 0 = ap (λ (l : LaneName). l.rank) same in omega arith) (c.in_ok-words.ensures.has of_other (omega arith, omega arith))

pub lane-worker-requires-clause-has : goal.lane-worker-requires-clause-has
lane-worker-requires-clause-has g c =
    c.lane-other.ensures.others of_worker (λ same. let ranks : 0 ≡ 1 = ap (λ (l : LaneName). l.rank) same in omega arith)
    (c.lane-main.ensures.others of_worker (λ same. let numbers : 1 ≡ 0 = ap (λ (l : LaneName). l.number) same in omega arith) (c.in_ok-words.ensures.has of_worker (omega arith, omega arith)))
