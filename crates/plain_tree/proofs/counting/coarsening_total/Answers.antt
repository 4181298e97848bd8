use Rattle.std.proofs.Common.{◌≡◌, sym, subst}
use Rattle.tree_model.specs.Nodes.Form.{Reconstructed}
use Rattle.tree_model.specs.Operations.{coarsened}
use Rattle.tree_model.specs.Totals.{over_coarsened, visits_total}
use Rattle.tree_model.specs.Versions.{Version, read}
use Rattle.tree_totals.specs.Counts.{Counts, distribution_of, total_of}
use Rattle.plain_tree.proofs.CountingLemmas.{coarsened_read, leaf_sums}
use Rattle.plain_tree.proofs.counting.coarsening_total.Goals as goal

pub count_of-after-requires : goal.count_of-after-requires
count_of-after-requires c =
    let depth = c.requires.0 in
    let versions = c.requires.1 in
    let r = coarsened_read depth c.in-Some.before.now c.in-Some-coarser.after.now (read versions Reconstructed c.args.name.now) (c.in-Some.ensures depth versions c.requires.2) (rw c.in-Some-coarser.is at c.requires.3) in
    let version : Version = record { form = Reconstructed; tree = coarsened r.tree } in
    (depth, version, r.keeps_coarser)

pub of_coarsening-requires : goal.of_coarsening-requires
of_coarsening-requires c =
    let depth = c.requires.0 in
    let versions = c.requires.1 in
    let d = distribution_of c.args.distribution in
    let r = coarsened_read depth c.in-Some.before.now c.in-Some-coarser.after.now (read versions Reconstructed c.args.name.now) (c.in-Some.ensures depth versions c.requires.2) (rw c.in-Some-coarser.is at c.requires.3) in
    let version : Version = record { form = Reconstructed; tree = coarsened r.tree } in
    let before = c.count_leaves-before.ensures r.tree (leaf_sums r.tree c.in-Some.before.now r.keeps.keeps) in
    let after = c.count_of-after.ensures depth version r.keeps_coarser in
    (d, r.tree, r.keeps.keeps.sound.tree, before, subst (λ n. Counts d.owner n (coarsened r.tree).shape c.count_of-after.result) (sym r.keeps.deep) after)

pub returns-clause-total : goal.returns-clause-total
returns-clause-total c = λ depth versions has matches.
    let d = distribution_of c.args.distribution in
    let r = coarsened_read depth c.in-Some.before.now c.in-Some-coarser.after.now (read versions Reconstructed c.args.name.now) (c.in-Some.ensures depth versions has) (rw c.in-Some-coarser.is at matches) in
    let version : Version = record { form = Reconstructed; tree = coarsened r.tree } in
    let before = c.count_leaves-before.ensures r.tree (leaf_sums r.tree c.in-Some.before.now r.keeps.keeps) in
    let after = c.count_of-after.ensures depth version r.keeps_coarser in
    let total = c.of_coarsening.ensures.total d r.tree r.keeps.keeps.sound.tree before (subst (λ n. Counts d.owner n (coarsened r.tree).shape c.count_of-after.result) (sym r.keeps.deep) after) in
    rw r.is (subst (λ n. total_of c.of_coarsening.result ≡ visits_total d n (over_coarsened r.tree)) r.keeps.deep total)
