use Rattle.std.proofs.Common.{◌≡◌, ap, arith}
use Rattle.event_lists.specs.declared.lane.LaneName.{LaneName}
use Rattle.event_lists.specs.Events.{main_of}
use Rattle.words_tests.proofs.turns.three_mains.Goals as goal

pub lane-zero-requires-clause-has : goal.lane-zero-requires-clause-has
lane-zero-requires-clause-has g c = c.requires.has (main_of 0) (omega arith, omega arith)

pub lane-one-requires-clause-has : goal.lane-one-requires-clause-has
lane-one-requires-clause-has g c = c.lane-zero.ensures.others (main_of 1) (λ e. let z : 1 ≡ 0 = ap (λ (l : LaneName). l.rank) e in omega (arith, z)) (c.requires.has (main_of 1) (omega arith, omega arith))

pub lane-two-requires-clause-has : goal.lane-two-requires-clause-has
lane-two-requires-clause-has g c =
    c.lane-one.ensures.others (main_of 2) (λ e. let z : 2 ≡ 1 = ap (λ (l : LaneName). l.rank) e in omega (arith, z))
    (c.lane-zero.ensures.others (main_of 2) (λ e. let z : 2 ≡ 0 = ap (λ (l : LaneName). l.rank) e in omega (arith, z)) (c.requires.has (main_of 2) (omega arith, omega arith)))
