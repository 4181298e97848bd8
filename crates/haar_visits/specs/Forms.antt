-- The form of what units decide for, whatever they find: it follows from what the command does.
use Rattle.std.specs.Prelude.{◌≡◌, ℕ, ◌<◌, Bool, true, ◌||◌, is_some, Option}
use Rattle.tree_key.specs.Keys.{Key}
use Rattle.haar_node.specs.declared.Node.{Node}
use Rattle.haar_units.specs.Jobs.{is_on_trees, is_coarsen, puts_down, puts_up}
use Rattle.haar_units.specs.Jobs.{Operation as Word}
use Rattle.haar_base.specs.declared.unit.Sides.{Sides}
use Rattle.haar_base.specs.declared.unit.Held.{Held}
use Rattle.haar_base.specs.declared.value.Value.{Value}
use Rattle.haar_base.specs.declared.operation.Operation.{Operation}
use Rattle.haar_base.specs.declared.decisions.Visit.{Visit}
use Rattle.haar_base.specs.declared.decisions.Visit.TheVariants as visits
use Rattle.haar_base.specs.declared.decisions.Combination.{Combination}
use Rattle.haar_base.specs.declared.decisions.Combination.TheVariants as combinations
use Rattle.haar_base.specs.Operations.{word_of}
use Rattle.haar_visits.specs.Visits.{visit, combine}

-- a down unit puts a node exactly where its command puts one then, and has children visited only above the depth
abbrev pub IsVisitOf : ℕ → Key → Word → Visit → Type 0
IsVisitOf depth key word (visits.Give node value) = is_some node ≡ (puts_down word || puts_up word)
IsVisitOf depth key word (visits.Split node left right held) = (is_some node ≡ puts_down word) × (key.level < depth)

-- an up unit puts a node exactly where its command puts one on the way up, and only `coarsen` merges children
abbrev pub IsCombinationOf : Word → Combination → Type 0
IsCombinationOf word (combinations.Give node value) = is_some node ≡ puts_up word
IsCombinationOf word (combinations.Merge sum) = is_coarsen word ≡ true

abbrev pub VisitsHaveTheirForm : Type 0
VisitsHaveTheirForm =
    (depth : ℕ) (operation : Operation) (key : Key) (sides : Sides) (first second : Option Node)
    → is_on_trees (word_of operation) ≡ true → IsVisitOf depth key (word_of operation) (visit depth operation key sides first second)

abbrev pub CombinationsHaveTheirForm : Type 0
CombinationsHaveTheirForm =
    (depth : ℕ) (operation : Operation) (key : Key) (held : Held) (left right : Value)
    → is_on_trees (word_of operation) ≡ true → IsCombinationOf (word_of operation) (combine depth operation key held left right)
