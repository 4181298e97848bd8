use Rattle.std.proofs.Common.{ℕ, ◌≤◌, ◌+◌, ◌-◌, List, ◌++◌, vec_len, take, arith, length-append}
use Rattle.std.proofs.lemmas.List.{length-take}
use Rattle.outside.proofs.KnownByteLemmas.{consumes_more, consumes_kept}
use Rattle.outside.proofs.reading.read_all.Goals as goal

pub returns-in-Err-clause-gone : goal.returns-in-Err-clause-gone
returns-in-Err-clause-gone g c = (
  c.loop-buf.out.items,
  omega arith,
  consumes_kept _ _ _ _ c.loop-buf.invariant.given c.in-Err.ensures.bytes,
)

-- a read that failed gave no byte, and there was room before it
pub returns-in-Err-clause-fault_within : goal.returns-in-Err-clause-fault_within
returns-in-Err-clause-fault_within g c told = (
  c.loop-buf.out.items,
  omega arith,
  consumes_kept _ _ _ _ c.loop-buf.invariant.given c.in-Err.ensures.bytes,
)

pub returns-in-Ok-eq0-clause-gone : goal.returns-in-Ok-eq0-clause-gone
returns-in-Ok-eq0-clause-gone g c =
    let piece = take c.in-Ok-eq0.field-0 c.read.new.buf in (
      c.loop-buf.out.items ++ piece,
      omega (arith, length-append c.loop-buf.out.items piece, length-take c.in-Ok-eq0.field-0 c.read.new.buf),
      consumes_more _ _ _ _ _ c.loop-buf.invariant.given c.in-Ok-eq0.ensures.bytes.0,
    )

-- the bytes of the last read were given too, though there was no memory for them
pub returns-then-is_err-clause-gone : goal.returns-then-is_err-clause-gone
returns-then-is_err-clause-gone g c =
    let piece : List ℕ = take c.in-Ok.count c.read.new.buf in
    let within : c.in-Ok.count ≤ c.min-room.result = omega (arith, c.in-Ok.ensures.bound.0, c.read.auto.buf, length-take c.min-room.result c.loop-buf.buf) in
    let more : c.min-room.result ≤ c.args.limit - vec_len c.loop-buf.out + 1 = omega arith in (
      c.loop-buf.out.items ++ piece,
      omega (arith, length-append c.loop-buf.out.items piece, length-take c.in-Ok.count c.read.new.buf),
      consumes_more _ _ _ _ _ c.loop-buf.invariant.given c.in-Ok.ensures.bytes.0,
    )
