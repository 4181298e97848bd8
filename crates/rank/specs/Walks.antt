-- How far a main has gone through the commands, where there are so many.
use Rattle.std.specs.Prelude.{◌≡◌, ℕ, ◌≤◌, IsTrue}
use Rattle.rank.specs.declared.walk.Walk.{Walk}

-- it has gone through some of them and has seen the results of some of those; once it has seen all, it has gone through all
pub record IsWalk (total : ℕ) (walk : Walk) : Type 0 where
  pub commands : walk.commands ≤ total
  pub results : walk.results ≤ walk.commands
  pub complete : IsTrue walk.complete → walk.commands ≡ total
