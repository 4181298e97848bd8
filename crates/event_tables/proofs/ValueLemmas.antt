-- A table whose values all stay keeps what it told of a list.
use Rattle.std.proofs.Common.{◌≡◌, ℕ, Bool, List, sym, subst, ◌∙◌, arith}
use Rattle.event_lists.specs.declared.future.Bringer.{Bringer}
use Rattle.event_lists.specs.declared.mark.Mark.{Mark}
use Rattle.event_lists.specs.Futures.{same_bringer}
use Rattle.event_tables.specs.declared.table.Table.{Table}
use Rattle.event_tables.specs.Tables.{value_at}
use Rattle.event_tables.specs.Lacking.{KeepsLacks}

pub keeps_on : {K V : Type 0} (same : K → K → Bool) (P : K → V → Type 0) (old new : Table K V) → ((k : K) → value_at same new k ≡ value_at same old k) → ((k : K) → P k (value_at same old k)) → (k : K) → P k (value_at same new k)
keeps_on same P old new stays keeps k = subst (P k) (sym (stays k)) (keeps k)

pub lacks_on : (log : List Mark) (old new : Table Bringer ℕ) → ((b : Bringer) → value_at same_bringer new b ≡ value_at same_bringer old b) → KeepsLacks log old → KeepsLacks log new
lacks_on log old new stays keeps = record { counts = λ b. stays b ∙ keeps.counts b; within = λ b. omega (arith, stays b, keeps.within b) }
