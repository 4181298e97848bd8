use Rattle.std.proofs.Common.{◌^◌, w64, arith}
use Rattle.std.proofs.lemmas.Int.{fits_signed_mul, to_z-of_z}
use Rattle.haar_node.proofs.func.ramp_value.Goals as goal

pub overflow_mul-rise : goal.overflow_mul-rise
overflow_mul-rise c =
    let fit = fits_signed_mul w64 c.args.slope c.from.result (2 ^ 25) (2 ^ 16) c.requires.slope (rw c.from.ensures (omega arith)) (omega arith) in
    grind (arith, to_z-of_z, fit)
