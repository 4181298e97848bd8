-- Sources and sinks in memory, as contracts see them.
use Rattle.std.specs.Prelude.{ℕ, List, Contains}

-- a source whose calls fail as planned
pub record MemSourceState : Type 0 where
  -- the bytes that were not read yet
  pub left : List ℕ
  -- the most that one call gives
  pub piece : ℕ
  -- the numbers of the calls that fail, from 0
  pub failing : List ℕ
  -- the number of the next call
  pub calls : ℕ
  pub faults : ℕ

-- a sink whose calls fail as planned, and when memory is refused
pub record MemSinkState : Type 0 where
  -- the bytes that it took
  pub taken : List ℕ
  -- the most that one call takes
  pub piece : ℕ
  -- the numbers of the calls that fail, from 0
  pub failing : List ℕ
  -- the number of the next call
  pub calls : ℕ
  pub faults : ℕ
  -- those of the faults at which memory was refused
  pub starved : ℕ

-- a sink that never fails
pub record SureSinkState : Type 0 where
  -- the bytes that it took
  pub taken : List ℕ
  -- how many more it takes
  pub room : ℕ

-- the next call of a source is one of those that fail
abbrev pub IsReadToFail : MemSourceState → Type 0
IsReadToFail source = Contains source.failing source.calls

-- the next call of a sink is one of those that fail, whatever memory there is
abbrev pub IsWriteToFail : MemSinkState → Type 0
IsWriteToFail sink = Contains sink.failing sink.calls
