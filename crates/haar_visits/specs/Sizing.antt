-- Units of `size`.
use Rattle.std.specs.Prelude.{ℕ, ◌+◌, ◌^◌, nat_lt, if◌then◌else◌, List, Option, Some, None}
use Rattle.std.specs.List.{fold}
use Rattle.haar_base.specs.declared.value.Value.{Value}
use Rattle.haar_base.specs.declared.value.Value.TheVariants.{Done, Sum, Product, Lines, Count, Bad}

-- the count that a value is
abbrev pub count_of : Value → Option ℕ
count_of Done = None
count_of (Sum sum) = None
count_of (Product product) = None
count_of (Lines rows) = None
count_of (Count count) = Some count
count_of Bad = None

-- two counts together, where they fit
abbrev pub added : Option ℕ → Option ℕ → Option ℕ
added None count = None
added (Some sum) None = None
added (Some sum) (Some count) = if nat_lt (sum + count) (2 ^ 64) then Some (sum + count) else None

abbrev pub add_count : Option ℕ → Value → Option ℕ
add_count sum value = added sum (count_of value)

abbrev pub counted : Option ℕ → Value
counted None = Bad
counted (Some count) = Count count

-- the sum of what was counted; anything else is bad
abbrev pub total : List Value → Value
total values = counted (fold add_count (Some 0) values)
