use Rattle.tree_totals.specs.Counts.{distribution_of}
use Rattle.plain_tree.proofs.CountingLemmas.{kept_shape, matched}
use Rattle.plain_tree.proofs.counting.visits_total.Goals as goal

pub returns-in-Some-clause-total : goal.returns-in-Some-clause-total
returns-in-Some-clause-total c = λ depth version matches.
    let m = matched depth c.in-Some.tree.now version (rw c.in-Some.is at matches) in
    let t = m.version.tree in
    rw m.is (c.of_visits.ensures.total (distribution_of c.args.distribution) depth t.shape (kept_shape depth m.version.form t c.in-Some.tree.now m.keeps) (c.count_of.ensures depth m.version m.keeps))
