-- Maps that have a value for every key.
use Rattle.std.specs.Prelude.{Bool, Option, Some, None, is_some}
use Rattle.std.specs.Map.{lookup}
use Rattle.event_tables.specs.declared.table.Table.{Table}

abbrev pub or_else : {V : Type 0} → V → Option V → V
or_else absent None = absent
or_else absent (Some v) = v

-- the value of a key: the stored one, or that of all absent keys
abbrev pub value_at : {K V : Type 0} → (K → K → Bool) → Table K V → K → V
value_at same t k = or_else t.absent (lookup (same k) t.entries.entries)

-- whether there is room for a value of this key
abbrev pub has_place : {K V : Type 0} → (K → K → Bool) → Table K V → K → Bool
has_place same t k = is_some (lookup (same k) t.entries.entries)
