-- The array and the count of rows are found again from the list.
use Rattle.std.proofs.Common.{◌≡◌, ℕ, ◌-◌, ◌≤◌, List, ◌++◌, length, take, drop, refl, arith, length-append}
use Rattle.std.specs.Prelude.{replicate}
use Rattle.std.proofs.lemmas.List.{take-append-drop, length-take-le, drop_at, drop-replicate, length-replicate}
use Rattle.event_lists.specs.declared.receipt.Row.{Row}
use Rattle.event_lists.specs.Rows.{AreRows, no_row}
use Rattle.event_lists.specs.declared.receipt.Rows.TheInside.{Inside}

count_back : (rows : List Row) (count : ℕ) → AreRows rows count → length (take count rows) ≡ count
count_back rows count are = length-take-le count rows (omega (arith, are.size, are.within))

rows_back : (rows : List Row) (count : ℕ) → AreRows rows count → take count rows ++ replicate (16 - length (take count rows)) no_row ≡ rows
rows_back rows count are =
    let long = count_back rows count are in
    rw (long, ← are.filled) (take-append-drop count rows)

-- the list has all of what is kept
pub back : (a : Inside) → AreRows a.rows a.count → record { rows = take a.count a.rows ++ replicate (16 - length (take a.count a.rows)) no_row; count = length (take a.count a.rows) } ≡ a
back a are = rw (rows_back a.rows a.count are, count_back a.rows a.count are) refl

-- rows copied to the start of an empty array
pub made : (rows front : List Row) → front ≡ rows → length rows ≤ 16 → AreRows (front ++ drop (length rows) (replicate 16 no_row)) (length rows)
made rows front is within =
    let filled = drop-replicate (length rows) 16 no_row in
    rw (is, filled) (record {
      size = rw (length-append, length-replicate) (omega arith);
      within = within;
      filled = drop_at rows (replicate (16 - length rows) no_row) (length rows) refl;
    })
