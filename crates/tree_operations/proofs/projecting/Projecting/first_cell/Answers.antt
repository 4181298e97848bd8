use Rattle.std.proofs.Common.{◌≡◌, ◌+◌, ◌-◌, ◌*◌, ◌^◌, ◌<◌, ◌≤◌, arith, subst}
use Rattle.std.proofs.Math.Pow.{pow_mono}
use Rattle.std.proofs.lemmas.Nat.{shl_below}
use Rattle.tree_operations.proofs.projecting.Projecting.first_cell.Goals as goal

pub returns-clause-below : goal.returns-clause-below
returns-clause-below c =
    let level = c.args.key.level in
    let depth = c.args.self.depth in
    let parts : level + (depth - level) ≡ depth = omega arith in
    let within = shl_below c.args.key.at level (depth - level) c.at.ensures.key.at in
    let below : c.args.key.at * 2 ^ (depth - level) < 2 ^ depth = subst (λ n. c.args.key.at * 2 ^ (depth - level) < 2 ^ n) parts within in
    let room : 2 ^ depth ≤ 2 ^ 16 = pow_mono {i = depth} {j = 16} c.args.self.is_deep in
    rw (c.at.ensures.value, c.level.ensures.value) (omega (arith, below, room))
