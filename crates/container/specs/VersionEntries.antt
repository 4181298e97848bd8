-- Entries by version, as a bin has them.
use Rattle.std.specs.Prelude.{◌≡◌, ◌≢◌, ℕ, ◌<◌, ◌==◌, cond, not, if◌then◌else◌, List, [], ◌∷◌, ◌++◌, Option, None, map, length, slice_index_or, nat_eq}
use Rattle.std.specs.List.{filter, IsDistinct}
use Rattle.std.specs.Map.{lookup, keys_of}
use Rattle.std.specs.HashMap as hash
use Rattle.std.specs.HashMap.{HashMap}
use Rattle.app_core.specs.declared.CellName.{CellName}
use Rattle.container.specs.declared.version_entries.VersionEntries.{VersionEntries}
use Rattle.container.specs.Names.{is_of, same_name}

-- the entries of one version, by their names
abbrev pub name_at : {C : Type 0} → ℕ → ℕ × C → CellName × C
name_at version p = (record { version = version; place = p.0 }, p.1)

abbrev pub named : {C : Type 0} → VersionEntries C → List (CellName × C)
named e = map (name_at e.version) e.cells.entries

-- all entries; of a version that is in the list twice, those that come first
abbrev pub all_entries : {C : Type 0} → List (VersionEntries C) → List (CellName × C)
all_entries [] = []
all_entries (e ∷ es) = named e ++ filter (λ p. not (is_of e.version p.0)) (all_entries es)

-- the cell of a name
abbrev pub find_in : {C : Type 0} → List (VersionEntries C) → CellName → Option C
find_in [] q = None
find_in (e ∷ es) q = if e.version == q.version then hash.get nat_eq e.cells q.place else find_in es q

-- the first index of a version in the list
pub record IsFirstAt {C : Type 0} (version : ℕ) (es : List (VersionEntries C)) (i : ℕ) : Type 0 where
  pub within : i < length es
  pub here : (d : VersionEntries C) → (slice_index_or es i d).version ≡ version
  pub before : (k : ℕ) (d : VersionEntries C) → k < i → (slice_index_or es k d).version ≢ version

-- the second list has w at the name, and at each other name what the first has
abbrev pub Updates : {C : Type 0} → List (VersionEntries C) → List (VersionEntries C) → CellName → Option C → Type 0
Updates es fs n w = (q : CellName) → find_in fs q ≡ cond (same_name q n) w (find_in es q)

-- the second list has at each name what the first has
abbrev pub FindsTheSame : {C : Type 0} → List (VersionEntries C) → List (VersionEntries C) → Type 0
FindsTheSame es fs = (q : CellName) → find_in fs q ≡ find_in es q

-- the second map has at each place what the first has
abbrev pub HasTheSame : {C S : Type 0} → HashMap ℕ C S → HashMap ℕ C S → Type 0
HasTheSame old new = (place : ℕ) → hash.get nat_eq new place ≡ hash.get nat_eq old place

-- the number is that of the entries of the version, no two of which have one place
abbrev pub Counts : {C : Type 0} → ℕ → List (VersionEntries C) → ℕ → Type 0
Counts {C} version es n = (ps : List (ℕ × C)) × IsDistinct nat_eq (keys_of ps) × (length ps ≡ n) × ((place : ℕ) → find_in es (record { version = version; place = place }) ≡ lookup (nat_eq place) ps)
