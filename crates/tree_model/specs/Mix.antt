-- The numbers of `Hash`: those of SplitMix64, Steele, Lea and Flood's generator of 64-bit numbers. Its state begins with the
-- seed and is counted up by an odd number before each output; the output step mixes the state's bits.
use Rattle.std.specs.Prelude.{ℕ, ◌+◌, ◌*◌, ◌/◌, ◌%◌, ◌^◌, bit_xor}

-- a number modulo 2 ^ 64: arithmetic on 64 bits wraps
abbrev pub wrapped : ℕ → ℕ
wrapped n = n % 2 ^ 64

-- z xor (z shifted right)
abbrev pub xor_shifted : ℕ → ℕ → ℕ
xor_shifted shift z = bit_xor z (z / 2 ^ shift)

-- the state before output `cell`, counted from 0
unfoldable pub state : ℕ → ℕ → ℕ
state seed cell = wrapped (seed + (cell + 1) * 0x9E3779B97F4A7C15)

-- the output step
unfoldable pub output : ℕ → ℕ
output z =
    let first = wrapped (xor_shifted 30 z * 0xBF58476D1CE4E5B9) in
    let second = wrapped (xor_shifted 27 first * 0x94D049BB133111EB) in
    xor_shifted 31 second

-- output `cell` of the generator that begins with the seed
abbrev pub mix : ℕ → ℕ → ℕ
mix seed cell = output (state seed cell)
