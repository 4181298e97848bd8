-- The array and the count of needs are found again from the list.
use Rattle.std.proofs.Common.{◌≡◌, ℕ, ◌-◌, ◌≤◌, List, ◌++◌, length, take, drop, refl, arith, length-append}
use Rattle.std.specs.Prelude.{replicate}
use Rattle.std.proofs.lemmas.List.{take-append-drop, length-take-le, drop_at, drop-replicate, length-replicate}
use Rattle.std.proofs.Math.Seq.{take-append_seam}
use Rattle.app_core.specs.declared.label.Label.{Label}
use Rattle.app_core.specs.Needs.{AreNeeds, AreDistinct, nothing}
use Rattle.app_core.specs.declared.needs.Needs.TheInside.{Inside}

labels_back : (labels : List Label) (count : ℕ) → AreNeeds labels count → take count labels ++ replicate (16 - length (take count labels)) nothing ≡ labels
labels_back labels count are =
    let long : length (take count labels) ≡ count = length-take-le count labels (omega (arith, are.size, are.within)) in
    rw (long, ← are.filled) (take-append-drop count labels)

count_back : (labels : List Label) (count : ℕ) → AreNeeds labels count → length (take count labels) ≡ count
count_back labels count are = length-take-le count labels (omega (arith, are.size, are.within))

-- the list has all of what is kept
pub back : (a : Inside) → AreNeeds a.labels a.count → record { labels = take a.count a.labels ++ replicate (16 - length (take a.count a.labels)) nothing; count = length (take a.count a.labels) } ≡ a
back a are = rw (labels_back a.labels a.count are, count_back a.labels a.count are) refl

-- labels copied to the start of an empty array
pub made : (labels front : List Label) → front ≡ labels → length labels ≤ 16 → AreDistinct labels → AreNeeds (front ++ drop (length labels) (replicate 16 nothing)) (length labels)
made labels front is within apart =
    let filled = drop-replicate (length labels) 16 nothing in
    rw (is, filled) (record {
      size = rw (length-append, length-replicate) (omega arith);
      within = within;
      filled = drop_at labels (replicate (16 - length labels) nothing) (length labels) refl;
      distinct = rw (take-append_seam) apart;
    })
