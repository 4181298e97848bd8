-- The forms of the trees that a command reads.
use Rattle.std.specs.Prelude.{List, [], ◌∷◌, Option}
use Rattle.std.specs.Option.{option_map}
use Rattle.tree_model.specs.Nodes.{Form}
use Rattle.job_data.specs.Data.{form_of}
use Rattle.job_data.specs.declared.found.Found.{Found}
use Rattle.job_data.specs.declared.found.Found.TheVariants.{Nothing, One, Two}

abbrev pub forms_in : Found → List (Option Form)
forms_in Nothing = []
forms_in (One form) = option_map form_of form ∷ []
forms_in (Two left right) = option_map form_of left ∷ option_map form_of right ∷ []
