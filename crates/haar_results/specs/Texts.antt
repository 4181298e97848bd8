-- The lines of results in code, and how they grow.
use Rattle.std.specs.Prelude.{◌≡◌, ℕ, ◌++◌, Bool, true, false, List, Option, Some, None}
use Rattle.haar_results.specs.declared.results.JobLines.{JobLines}
use Rattle.haar_results.specs.Results.{Made}

abbrev pub made_in : JobLines → Made
made_in lines = record { text = lines.text; overflow = lines.overflow }

-- lines are added, where there are some; else the text stays
abbrev pub IsAddedTo : List ℕ → Option (List ℕ) → Bool → List ℕ → Type 0
IsAddedTo before None added text = (added ≡ false) × (text ≡ before)
IsAddedTo before (Some lines) added text = (added ≡ true) × (text ≡ before ++ lines)
