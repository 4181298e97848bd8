use Rattle.std.proofs.Common.{◌≡◌, replicate, None}
use Rattle.depend.specs.Slots.{empty_count}
use Rattle.depend.proofs.waiting.Waiting.new.Given as goal

abbrev pub invariant-loop : goal.invariant-loop
invariant-loop g l = record { slots : l.slots.items ≡ replicate l.counter None; empty : empty_count l.slots.items ≡ l.counter }
