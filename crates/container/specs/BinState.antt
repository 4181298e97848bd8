-- What contracts see of a bin: its entries, and the look-ups that wait.
use Rattle.std.specs.Prelude.{◌≡◌, List, None, refl}
use Rattle.std.specs.List.{AllByRecursion}
use Rattle.std.specs.Coded.{Coded, code_by, coded×, coded_list}
use Rattle.std.specs.FinMap as fin
use Rattle.container.specs.declared.look_ups.LookUp.{LookUp}
use Rattle.container.specs.Names.{name_cmp}

pub record BinData (C : Type 0) : Type 0 where
  pub entries : fin.FinMap name_cmp C
  pub waiting : List LookUp

abbrev pub bin_code : {C : Type 0} → Coded (fin.FinMap name_cmp C) → Coded LookUp → Coded (BinData C)
bin_code {C} entries look_up =
    code_by (fin.FinMap name_cmp C × List LookUp) (coded× entries (coded_list look_up)) (λ b. (b.entries, b.waiting)) (λ p. record { entries = p.0; waiting = p.1 }) (λ _. refl)

-- the names that are waited for have no entry
abbrev pub AreMissing : {C : Type 0} → fin.FinMap name_cmp C → List LookUp → Type 0
AreMissing entries waiting = AllByRecursion (λ l. fin.get entries l.name ≡ None) waiting
