-- The plan of one more command.
use Rattle.std.proofs.Common.{◌≡◌, List, [], ◌∷◌, ◌++◌, ap, refl, append_assoc, append-nil}
use Rattle.tree_model.specs.Commands.{Command}
use Rattle.job_data.specs.Versions.{step_of, plan_from}

pub plan_from_append : (before cs : List Command) (c : Command) → plan_from before (cs ++ c ∷ []) ≡ plan_from before cs ++ step_of (before ++ cs) c ∷ []
plan_from_append before [] c = rw append-nil refl
plan_from_append before (d ∷ ds) c =
    let more = rw append_assoc at (plan_from_append (before ++ d ∷ []) ds c) in
    ap (λ steps. step_of before d ∷ steps) more
