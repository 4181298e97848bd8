use Rattle.std.proofs.Common.{◌≡◌, sym, ◌∙◌, subst}
use Rattle.tree_model.specs.Nodes.Form.{Compressed}
use Rattle.tree_model.specs.Totals.{intersection, over, visits_total}
use Rattle.tree_model.specs.Versions.{read_two}
use Rattle.tree_model.proofs.CutLemmas.{intersection_shape}
use Rattle.tree_totals.specs.Counts.{distribution_of, total_of}
use Rattle.plain_tree.proofs.CountingLemmas.{differences}
use Rattle.plain_tree.proofs.FoundTreeLemmas.{both_differences_read}
use Rattle.plain_tree.proofs.counting.inner_total.Goals as goal

pub count_common-requires : goal.count_common-requires
count_common-requires c =
    let versions = c.requires.1 in
    let r = both_differences_read c.requires.0 c.in-Some.left.now c.in-Some.right.now (read_two versions Compressed c.args.left.now c.args.right.now) (c.in-Some.ensures c.requires.0 versions c.requires.2) in
    (r.first, r.second, differences r.first c.in-Some.left.now.differences r.keeps_first.keeps, differences r.second c.in-Some.right.now.differences r.keeps_second.keeps, r.keeps_first.deep ∙ sym r.keeps_second.deep)

pub returns-in-Some-clause-total : goal.returns-in-Some-clause-total
returns-in-Some-clause-total c = λ depth versions has.
    let d = distribution_of c.args.distribution in
    let r = both_differences_read depth c.in-Some.left.now c.in-Some.right.now (read_two versions Compressed c.args.left.now c.args.right.now) (c.in-Some.ensures depth versions has) in
    let f = r.first in
    let g = r.second in
    let same = r.keeps_first.deep ∙ sym r.keeps_second.deep in
    let count = c.count_common.ensures f g (differences f c.in-Some.left.now.differences r.keeps_first.keeps) (differences g c.in-Some.right.now.differences r.keeps_second.keeps) same in
    let shape = intersection_shape f.depth f.shape g.shape r.keeps_first.keeps.sound.tree.shape (rw same r.keeps_second.keeps.sound.tree.shape) in
    let total = c.of_visits.ensures.total d f.depth (intersection f.shape g.shape) shape count in
    rw r.is (subst (λ n. total_of c.of_visits.result ≡ visits_total d n (over (intersection f.shape g.shape))) r.keeps_first.deep total)
