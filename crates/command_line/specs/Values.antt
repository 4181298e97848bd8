-- What the values of options are: numbers within limits, and owner maps.
use Rattle.std.specs.Prelude.{ℕ, ◌&&◌, nat_le, List, length, Option, Some, None, option_and_then, if◌then◌else◌}
use Rattle.job_words.specs.Numbers.{size_of_digits}
use Rattle.owner_map.specs.Owners.{map_of_word}
use Rattle.owner_map.specs.declared.map.OwnerMap.{OwnerMap}
use Rattle.owner_map.specs.declared.map.OwnerMap.TheVariants.{Block}

-- the number that 1 to 10 decimal digits write, where it is from `least` to `most`
abbrev pub between : ℕ → ℕ → ℕ → Option ℕ
between least most number = if nat_le least number && nat_le number most then Some number else None

abbrev pub digits_of : List ℕ → Option ℕ
digits_of text = if nat_le (length text) 10 then size_of_digits text else None

abbrev pub number_in : ℕ → ℕ → List ℕ → Option ℕ
number_in least most text = option_and_then (between least most) (digits_of text)

-- the number of ranks, which is 1 where it isn't said
abbrev pub max_ranks : ℕ
max_ranks = 16

abbrev pub ranks_of : Option (List ℕ) → Option ℕ
ranks_of None = Some 1
ranks_of (Some text) = number_in 1 max_ranks text

-- the number of workers of each rank, which is 0 where it isn't said
abbrev pub max_workers : ℕ
max_workers = 4

abbrev pub workers_of : Option (List ℕ) → Option ℕ
workers_of None = Some 0
workers_of (Some text) = number_in 0 max_workers text

-- the owner map, which is `block` where it isn't said
abbrev pub map_of : Option (List ℕ) → Option OwnerMap
map_of None = Some Block
map_of (Some word) = map_of_word word

-- the number of a generated job
abbrev pub max_number : ℕ
max_number = 4294967295

abbrev pub number_of : Option (List ℕ) → Option ℕ
number_of None = None
number_of (Some text) = number_in 0 max_number text
