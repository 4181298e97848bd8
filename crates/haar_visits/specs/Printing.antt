-- Units of `print`: the lines of a key and of those below it are rows of bytes, one for each level from the key's own
-- down. At the root a row with the line that names the tree stands before them.
use Rattle.std.specs.Prelude.{ℕ, Bool, true, false, ◌==◌, nat_lt, if◌then◌else◌, List, [], ◌∷◌, ◌++◌, codes, Option, Some, None, ℤ, pos}
use Rattle.std.specs.Fmt.{signed_decimal}
use Rattle.tree_key.specs.Keys.{Key}
use Rattle.haar_node.specs.declared.Node.{Node}
use Rattle.job_data.specs.declared.TreeForm.{TreeForm}
use Rattle.job_data.specs.declared.TreeForm.TheVariants.{Reconstructed, Compressed}
use Rattle.job_words.specs.NameBytes.{bytes_of}
use Rattle.haar_visits.specs.declared.printing.Printed.{Printed}
use Rattle.haar_base.specs.declared.unit.Side.{Side}
use Rattle.haar_base.specs.declared.unit.Held.{Held}
use Rattle.haar_base.specs.declared.value.Value.{Value}
use Rattle.haar_base.specs.declared.value.Value.TheVariants.{Done, Sum, Product, Lines, Count, Bad}
use Rattle.haar_base.specs.declared.decisions.Visit.{Visit}
use Rattle.haar_base.specs.declared.decisions.Visit.TheVariants as visit
use Rattle.haar_base.specs.declared.decisions.Combination.{Combination}
use Rattle.haar_base.specs.declared.decisions.Combination.TheVariants as combination
use Rattle.haar_base.specs.declared.readings.Leaf.{Leaf}
use Rattle.haar_base.specs.declared.readings.Leaf.TheVariants.{Whole, Cut, Wrong}
use Rattle.haar_base.specs.declared.readings.Sums.{Sums}
use Rattle.haar_base.specs.Readings.{leaf_at, sums_at, one, entry, nothing_held, no_haar}
use Rattle.haar_lines.specs.Rows.{beside}
use Rattle.haar_lines.specs.Texts.{key_line}
use Rattle.haar_base.specs.Decisions.{bad_visit, bad_combination}
use Rattle.haar_visits.specs.InnerProducts.{haar}

-- the line that names the tree
abbrev pub heading_in : TreeForm → Printed → ℤ → List ℕ
heading_in Reconstructed printed sum = codes "tree " ++ bytes_of printed.name ++ codes " reconstructed\n"
heading_in Compressed printed sum = codes "tree " ++ bytes_of printed.name ++ codes " compressed " ++ signed_decimal sum ++ codes "\n"

abbrev pub heading : Printed → ℤ → List ℕ
heading printed sum = heading_in printed.form printed sum

-- the rows with the heading before them, at the root
abbrev pub headed : Printed → Key → ℤ → List (List ℕ) → List (List ℕ)
headed printed key sum rows = if key.level == 0 then heading printed sum ∷ rows else rows

abbrev pub print_key : Printed → Key → ℤ → List ℕ → Visit
print_key printed key sum own = visit.Give None (Lines (headed printed key sum (own ∷ [])))

abbrev pub print_cut : ℕ → Key → Held → Visit
print_cut depth key held = if nat_lt key.level depth then visit.Split None (one entry) (one entry) held else bad_visit false

abbrev pub print_leaf : ℕ → Printed → Key → Leaf → Visit
print_leaf depth printed key (Whole sum) = print_key printed key sum (key_line key sum)
print_leaf depth printed key Cut = print_cut depth key nothing_held
print_leaf depth printed key Wrong = bad_visit false

abbrev pub print_by : ℕ → Printed → Key → ℤ → Option ℤ → Visit
print_by depth printed key sum None = print_key printed key sum []
print_by depth printed key sum (Some difference) = print_cut depth key (record { first = haar sum difference; second = no_haar })

abbrev pub print_sums : ℕ → Printed → Key → Option Sums → Visit
print_sums depth printed key None = bad_visit false
print_sums depth printed key (Some s) = print_by depth printed key s.sum s.difference

-- a leaf has a line in the reconstructed form, and a key with children one in the compressed form
abbrev pub visit_in : TreeForm → ℕ → Printed → Key → Side → Option Node → Visit
visit_in Reconstructed depth printed key side cell = print_leaf depth printed key (leaf_at side cell)
visit_in Compressed depth printed key side cell = print_sums depth printed key (sums_at (key.level == 0) side cell)

abbrev pub visit_printed : ℕ → Printed → Key → Side → Option Node → Visit
visit_printed depth printed key side cell = visit_in printed.form depth printed key side cell

-- the key's own line
abbrev pub own_line : TreeForm → Key → Held → List ℕ
own_line Reconstructed key held = []
own_line Compressed key held = key_line key held.first.difference

abbrev pub print_rows : Printed → Key → Held → List (List ℕ) → List (List ℕ) → Value
print_rows printed key held left right = Lines (headed printed key held.first.sum (own_line printed.form key held ∷ beside left right))

abbrev pub print_right : Printed → Key → Held → List (List ℕ) → Value → Value
print_right printed key held left (Lines right) = print_rows printed key held left right
print_right printed key held left Done = Bad
print_right printed key held left (Sum sum) = Bad
print_right printed key held left (Product product) = Bad
print_right printed key held left (Count count) = Bad
print_right printed key held left Bad = Bad

abbrev pub print_value : Printed → Key → Held → Value → Value → Value
print_value printed key held (Lines left) right = print_right printed key held left right
print_value printed key held Done right = Bad
print_value printed key held (Sum sum) right = Bad
print_value printed key held (Product product) right = Bad
print_value printed key held (Count count) right = Bad
print_value printed key held Bad right = Bad

-- the lines of both children, behind the key's own
abbrev pub combine_printed : Printed → Key → Held → Value → Value → Combination
combine_printed printed key held left right = combination.Give None (print_value printed key held left right)
