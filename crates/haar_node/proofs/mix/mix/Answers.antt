use Rattle.std.proofs.Common.{◌≡◌, ℕ, ◌+◌, ◌*◌, ◌%◌, ◌^◌, ap, arith}
use Rattle.tree_model.specs.Mix.{state, output}
use Rattle.haar_node.proofs.mix.mix.Goals as goal

-- a sum that wraps, of which a part has wrapped before
wrapped_twice : (m n : ℕ) → (m + n % 2 ^ 64) % 2 ^ 64 ≡ (m + n) % 2 ^ 64
wrapped_twice m n = omega arith

pub returns : goal.returns
unfolding state output
returns c =
    let counted : (c.from.result + (c.from-count.result + 1) * 0x9E3779B97F4A7C15 % 2 ^ 64) % 2 ^ 64 ≡ state c.args.seed c.args.number = rw (c.from.ensures, c.from-count.ensures) (wrapped_twice c.args.seed ((c.args.number + 1) * 0x9E3779B97F4A7C15)) in
    ap output counted
