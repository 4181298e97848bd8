-- Rows of pieces, and their bytes.
use Rattle.std.proofs.Common.{◌≡◌, ℕ, zero, suc, ◌+◌, ◌<◌, ◌≤◌, List, [], ◌∷◌, ◌++◌, length, map, set, get_or, refl, ap, ◌∙◌, arith}
use Rattle.std.specs.List.{flat_map}
use Rattle.std.proofs.lemmas.Grind.{flat_map-append}
use Rattle.haar_lines.specs.Rows.{row_bytes, row_put, rows_put, beside}

-- the bytes of all rows, row by row
pub flat_rows : (rows : List (List (List ℕ))) → flat_map (λ row. row) (map row_bytes rows) ≡ flat_map row_bytes rows
flat_rows [] = refl
flat_rows (row ∷ rows) = ap (λ more. row_bytes row ++ more) (flat_rows rows)

-- to put rows of pieces is to put their bytes
row_put_bytes : (rows : List (List (List ℕ))) (at : ℕ) (other : List (List ℕ)) → map row_bytes (row_put rows at other) ≡ row_put (map row_bytes rows) at (row_bytes other)
row_put_bytes [] at other = refl
row_put_bytes (row ∷ rows) zero other = ap (λ bytes. bytes ∷ map row_bytes rows) (flat_map-append (λ piece. piece) row other)
row_put_bytes (row ∷ rows) (suc at) other = ap (λ more. row_bytes row ∷ more) (row_put_bytes rows at other)

pub rows_put_bytes : (rows : List (List (List ℕ))) (at : ℕ) (others : List (List (List ℕ))) → map row_bytes (rows_put rows at others) ≡ rows_put (map row_bytes rows) at (map row_bytes others)
rows_put_bytes rows at [] = refl
rows_put_bytes rows at (other ∷ others) = rows_put_bytes (row_put rows at other) (at + 1) others ∙ ap (λ r. rows_put r (at + 1) (map row_bytes others)) (row_put_bytes rows at other)

-- what a row is put into, by whether there is a row at the place
pub put_there : {A : Type 0} (rows : List (List A)) (at : ℕ) (row other new : List A) → at < length rows → row ≡ get_or rows at row → new ≡ row ++ other → set rows at new ≡ row_put rows at other
put_there [] at row other new below is joined = absurd (no_below below)
  where
    no_below : at < 0 → ⊥
    no_below h = omega (arith, h)
put_there (first ∷ rows) zero row other new below is joined = ap (λ r. r ∷ rows) (joined ∙ ap (λ r. r ++ other) is)
put_there (first ∷ rows) (suc at) row other new below is joined = ap (λ more. first ∷ more) (put_there rows at row other new (omega (arith, below)) is joined)

pub put_after : {A : Type 0} (rows : List (List A)) (at : ℕ) (other : List A) → length rows ≤ at → rows ++ other ∷ [] ≡ row_put rows at other
put_after [] at other past = refl
put_after (first ∷ rows) zero other past = absurd (omega (arith, past))
put_after (first ∷ rows) (suc at) other past = ap (λ more. first ∷ more) (put_after rows at other (omega (arith, past)))
