use Rattle.std.proofs.Common.{◌≡◌, ◌+◌, ◌<◌, ◌^◌, [], length}
use Rattle.std.specs.Str.Lines.{lines}
use Rattle.job_lang.specs.Reading.{commands_from}
use Rattle.job_lang.proofs.reading.commands_from.Given as goal

abbrev pub invariant-loop-line : goal.invariant-loop-line
invariant-loop-line l = record {
  depth : l.accepted.depth ≡ l.depth;
  reading : commands_from l.depth l.accepted.commands l.number (lines l.rest) ≡ commands_from l.depth [] l.fn.number (lines l.text);
  number : l.number + length l.rest < 2 ^ 64;
}

abbrev pub decreases-loop-line : goal.decreases-loop-line
decreases-loop-line l = length l.rest
