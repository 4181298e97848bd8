use Rattle.std.proofs.Common.{◌≡◌, ◌∙◌, ◌*◌, ◌≤◌, ap, sym, true, false, Some, None, ◌+ℤ◌, ◌*ℤ◌, ℤ, arith, w64, FitsSigned, nat_le, to_z, of_z}
use Rattle.std.specs.Int.RustNames.{unsigned_abs}
use Rattle.std.proofs.lemmas.Int.{ints, to_z-of_z}
use Rattle.std.proofs.lemmas.Bool.{cond-true, cond-false, leb-true}
use Rattle.tree_key.specs.Keys.{width}
use Rattle.tree_model.specs.Functions.{max_value}
use Rattle.haar_base.specs.declared.value.Value.TheVariants.{Done}
use Rattle.haar_base.specs.declared.decisions.Visit.TheVariants.{Give}
use Rattle.haar_visits.specs.Adding.{weighted}
use Rattle.haar_visits.specs.Compressing.{compressed_node}
use Rattle.haar_base.specs.Decisions.{bad_visit}
use Rattle.haar_base.specs.Readings.{sums}
use Rattle.haar_visits.proofs.CombinationLemmas.{within_of_ok, over_of_err}
use Rattle.haar_visits.proofs.adding.leaf.Goals as goal

pub returns-in-Ok : goal.returns-in-Ok
returns-in-Ok c =
    let a = c.args.factors.left in
    let b = c.args.factors.right in
    let s = c.get-one.result in
    let t = c.get-other.result in
    let code = to_z w64 (of_z w64 a) *ℤ to_z w64 (of_z w64 s) +ℤ to_z w64 (of_z w64 b) *ℤ to_z w64 (of_z w64 t) in
    let w = weighted c.args.factors c.args.left.now.sum c.args.right.now.sum in
    let fa : FitsSigned w64 a = omega (arith, ints, c.requires.factors.left) in
    let fb : FitsSigned w64 b = omega (arith, ints, c.requires.factors.right) in
    let fs : FitsSigned w64 s = omega (arith, ints, c.get-one.ensures.bound) in
    let ft : FitsSigned w64 t = omega (arith, ints, c.get-other.ensures.bound) in
    let ea = to_z-of_z w64 a fa in
    let eb = to_z-of_z w64 b fb in
    let es = to_z-of_z w64 s fs ∙ c.get-one.ensures.value in
    let et = to_z-of_z w64 t ft ∙ c.get-other.ensures.value in
    let same : code ≡ w = (λ i. ea i *ℤ es i +ℤ eb i *ℤ et i) in
    let cells = c.width-cells.ensures.value in
    let under = within_of_ok c.combine_add.result c.in-Ok.sum code (c.width-cells.result * max_value) c.in-Ok.is c.combine_add.ensures.over in
    let fits : nat_le (unsigned_abs w) (width c.args.depth c.args.key * max_value) ≡ true = (λ i. nat_le (unsigned_abs (sym same i)) (sym cells i * max_value)) ∙ under in
    let few = leb-true (unsigned_abs code) (c.width-cells.result * max_value) under in
    let sum_is : c.in-Ok.sum ≡ code = c.in-Ok.ensures.sum in
    let least : unsigned_abs c.in-Ok.sum ≤ c.width-cells.result * max_value = rw sum_is few in
    let fz : FitsSigned w64 c.in-Ok.sum = omega (arith, ints, least, c.width-cells.ensures.most) in
    let new_is : c.new.result ≡ w = c.new.ensures ∙ to_z-of_z w64 c.in-Ok.sum fz ∙ sum_is ∙ same in
    let node_is = c.leaf_node.ensures ∙ ap (λ (z : ℤ). compressed_node c.args.key (sums z None)) new_is in
    (λ i. Give (Some (node_is i)) Done)
    ∙ sym (cond-true (nat_le (unsigned_abs w) (width c.args.depth c.args.key * max_value)) (Give (Some (compressed_node c.args.key (sums w None))) Done) (bad_visit true) fits)

pub returns-in-Err : goal.returns-in-Err
returns-in-Err c =
    let a = c.args.factors.left in
    let b = c.args.factors.right in
    let s = c.get-one.result in
    let t = c.get-other.result in
    let code = to_z w64 (of_z w64 a) *ℤ to_z w64 (of_z w64 s) +ℤ to_z w64 (of_z w64 b) *ℤ to_z w64 (of_z w64 t) in
    let w = weighted c.args.factors c.args.left.now.sum c.args.right.now.sum in
    let fa : FitsSigned w64 a = omega (arith, ints, c.requires.factors.left) in
    let fb : FitsSigned w64 b = omega (arith, ints, c.requires.factors.right) in
    let fs : FitsSigned w64 s = omega (arith, ints, c.get-one.ensures.bound) in
    let ft : FitsSigned w64 t = omega (arith, ints, c.get-other.ensures.bound) in
    let ea = to_z-of_z w64 a fa in
    let eb = to_z-of_z w64 b fb in
    let es = to_z-of_z w64 s fs ∙ c.get-one.ensures.value in
    let et = to_z-of_z w64 t ft ∙ c.get-other.ensures.value in
    let same : code ≡ w = (λ i. ea i *ℤ es i +ℤ eb i *ℤ et i) in
    let cells = c.width-cells.ensures.value in
    let over = over_of_err c.combine_add.result c.in-Err.field-0 code (c.width-cells.result * max_value) c.in-Err.is c.combine_add.ensures.over in
    let fails : nat_le (unsigned_abs w) (width c.args.depth c.args.key * max_value) ≡ false = (λ i. nat_le (unsigned_abs (sym same i)) (sym cells i * max_value)) ∙ over in
    c.bad_visit.ensures
    ∙ sym (cond-false (nat_le (unsigned_abs w) (width c.args.depth c.args.key * max_value)) (Give (Some (compressed_node c.args.key (sums w None))) Done) (bad_visit true) fails)
