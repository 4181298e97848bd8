use Rattle.std.proofs.Common.{◌≤◌, ◌-◌, ◌≡◌, ℕ, List, length, take, drop}
use Rattle.std.specs.Io.KnownBytes.{Appends}
use Rattle.outside.proofs.writing.write_all.Given as goal

abbrev pub invariant-loop-at : goal.invariant-loop-at
invariant-loop-at g l = record {
  taken : Appends (g.K.Sink.taken l.initial.sink) (g.K.Sink.taken l.sink) (take l.at l.bytes);
  within : l.at ≤ length l.bytes;
  made : g.K.Sink.made l.sink ≡ g.K.Sink.made l.initial.sink;
  fits : g.K.Sink.fits l.sink (drop l.at l.bytes);
  later : g.K.Sink.faults l.initial.sink ≤ g.K.Sink.faults l.sink;
  always : ((piece : List ℕ) → g.K.Sink.fits l.initial.sink piece) → (piece : List ℕ) → g.K.Sink.fits l.sink piece;
}

abbrev pub decreases-loop-at : goal.decreases-loop-at
decreases-loop-at g l = length l.bytes - l.at
