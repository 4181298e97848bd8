-- The adapters over std's readers and writers, as contracts see them.
use Rattle.std.specs.Prelude.{ℕ}

-- the reader or writer inside, and how often it failed
pub record Adapter (T : Type 0) : Type 0 where
  pub inner : T
  pub faults : ℕ
