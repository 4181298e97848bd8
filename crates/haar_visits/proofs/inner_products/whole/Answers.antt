use Rattle.std.proofs.Common.{◌≡◌, ◌^◌, ◌∙◌, ◌+ℤ◌, ◌*ℤ◌, arith, w64, FitsSigned}
use Rattle.std.specs.Int.{w128}
use Rattle.std.proofs.lemmas.Int.{ints, to_z-of_z}
use Rattle.tree_model.proofs.IntegerLemmas.{product_within}
use Rattle.haar_node.proofs.StoredNumberLemmas.{stored_product}
use Rattle.haar_visits.proofs.inner_products.whole.Goals as goal

pub returns : goal.returns
returns c =
    let s = c.args.sum in
    let t = c.args.other in
    let q = c.args.part in
    let first = (c.from.ensures ∙ to_z-of_z w64 s c.ranges.sum) in
    let second = (c.from-2.ensures ∙ to_z-of_z w64 t c.ranges.other) in
    let within = product_within s t (2 ^ 41) (2 ^ 41) c.requires.sum c.requires.other in
    let fs : FitsSigned w128 s = omega (arith, ints, c.requires.sum) in
    let ft : FitsSigned w128 t = omega (arith, ints, c.requires.other) in
    let fst : FitsSigned w128 (s *ℤ t) = omega (arith, ints, within) in
    let fq : FitsSigned w128 q = omega (arith, ints, c.requires.part) in
    let fits : FitsSigned w128 (s *ℤ t +ℤ q) = omega (arith, ints, within, c.requires.part) in
    let product = stored_product w128 s t fs ft fst in
    let part = to_z-of_z w128 q fq in
    rw (first, second, product, part) (to_z-of_z w128 (s *ℤ t +ℤ q) fits)
