use Rattle.std.proofs.Common.{◌≡◌, ◌∙◌, ◌&&◌, true, ap, sym, arith, w64, FitsSigned}
use Rattle.std.proofs.lemmas.Int.{ints, to_z-of_z}
use Rattle.std.proofs.lemmas.Bool.{and_parts, leb-true}
use Rattle.std.specs.Int.RustNames.{unsigned_abs}
use Rattle.haar_visits.specs.Adding.{visit_added}
use Rattle.haar_base.specs.Operations.{is_factor, is_within}
use Rattle.haar_visits.specs.Visits.{visit}
use Rattle.haar_visits.proofs.visits.visit.Goals as goal

pub returns-in-Add : goal.returns-in-Add
returns-in-Add c =
    let within = (ap (is_within c.args.depth) (sym c.in-Add.is) ∙ c.requires.within) in
    let p = and_parts (is_factor c.in-Add.left_factor) (is_factor c.in-Add.right_factor) within in
    let few_left = leb-true (unsigned_abs c.in-Add.left_factor) 1048576 p.0 in
    let few_right = leb-true (unsigned_abs c.in-Add.right_factor) 1048576 p.1 in
    let fl : FitsSigned w64 c.in-Add.left_factor = omega (arith, ints, few_left) in
    let fr : FitsSigned w64 c.in-Add.right_factor = omega (arith, ints, few_right) in
    let el = to_z-of_z w64 c.in-Add.left_factor fl in
    let er = to_z-of_z w64 c.in-Add.right_factor fr in
    c.visit-in-Add.ensures
    ∙ (λ i. visit_added c.args.depth (record { left = el i; right = er i }) c.args.key c.args.sides.now c.args.first c.args.second)
    ∙ ap (λ o. visit c.args.depth o c.args.key c.args.sides.now c.args.first c.args.second) (sym c.in-Add.is)
