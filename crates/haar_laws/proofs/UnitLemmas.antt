-- Lemmas that crates above use: the units of a job have the form of units.
use Rattle.std.proofs.Common.{◌≡◌, ℕ, ◌^◌, ◌≤◌, ◌<◌, true, ◌&&◌, nat_le, nat_lt, Some, refl, leb-true, ltb-true}
use Rattle.std.proofs.lemmas.Bool.{and_parts}
use Rattle.tree_key.specs.Keys.{Key}
use Rattle.tree_model.specs.Shapes.{is_key_of}
use Rattle.haar_base.specs.declared.unit.Unit.{Unit}
use Rattle.haar_base.specs.declared.unit.Unit.TheVariants.{Down, Up, Clear, Count, Total}
use Rattle.haar_base.specs.declared.operation.Operation.TheVariants as operations
use Rattle.haar_meaning.specs.PlannedJobs.{PlannedJob}
use Rattle.haar_meaning.specs.JobUnits.{IsUnit}
use Rattle.haar_steps.specs.Forms.{IsOfForm}
use Rattle.haar_laws.specs.Laws.{UnitsAreOfForm}

pub key_level : (depth : ℕ) (k : Key) → is_key_of depth k ≡ true → k.level ≤ depth
key_level depth k is = leb-true k.level depth (and_parts (nat_le k.level depth) (nat_lt k.at (2 ^ k.level)) is).0

pub key_place : (depth : ℕ) (k : Key) → is_key_of depth k ≡ true → k.at < 2 ^ k.level
key_place depth k is = ltb-true k.at (2 ^ k.level) (and_parts (nat_le k.level depth) (nat_lt k.at (2 ^ k.level)) is).1

pub of_form : UnitsAreOfForm
of_form job (Down u) (operation, is) =
    record { operation = operation; at = is.command.at; one = is.command.on_trees; within = key_level job.depth u.key is.key; place = key_place job.depth u.key is.key }
of_form job (Up u) (operation, is) =
    (record { operation = operation; at = is.command.at; one = is.command.on_trees; within = key_level job.depth u.key is.key; place = key_place job.depth u.key is.key }, is.above)
of_form job (Clear command key) (source, is) =
    record { operation = operations.Coarsen source; at = is.at; one = refl; within = key_level job.depth key is.key; place = key_place job.depth key is.key }
of_form job (Count command rank) (source, is) = (record { operation = operations.Size source; at = is.at; size = refl }, is.within)
of_form job (Total command ranks) (source, is) = (record { operation = operations.Size source; at = is.at; size = refl }, is.all)
