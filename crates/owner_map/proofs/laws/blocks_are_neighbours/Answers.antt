use Rattle.std.proofs.Common.{◌≡◌, ℕ, ◌+◌, ◌*◌, ◌/◌, ◌^◌, sym, ◌∙◌, ap, arith}
use Rattle.std.proofs.Math.Nat.{div-div-eq-div-mul, mul-div_cancel_left}
use Rattle.tree_key.proofs.PowerLemmas.{twice}
use Rattle.owner_map.proofs.laws.blocks_are_neighbours.Goals as goal

-- twice as many among twice as many are as many
halves : (x whole : ℕ) → 2 * x / (2 * whole) ≡ x / whole
halves x whole = sym (div-div-eq-div-mul (2 * x) 2 whole) ∙ ap (λ n. n / whole) (mul-div_cancel_left x (omega arith))

pub returns-clause-left : goal.returns-clause-left
returns-clause-left c = λ k ranks.
    let left : (2 * k.at + 0) * ranks ≡ 2 * (k.at * ranks) = omega arith in
    rw (left, twice k.level) (halves (k.at * ranks) (2 ^ k.level))
