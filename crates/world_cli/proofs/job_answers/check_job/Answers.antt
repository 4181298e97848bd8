use Rattle.std.proofs.Common.{◌≡◌, ℕ, List, [], length, ◌++◌, ap, append_assoc}
use Rattle.std.specs.Prelude.{codes, decimal}
use Rattle.job_data.specs.Checks.{trees_behind}
use Rattle.world_cli.proofs.job_answers.check_job.Goals as goal

pieces : (a b c d : List ℕ) → a ++ (b ++ (c ++ d)) ≡ ((a ++ b) ++ c) ++ d
pieces a b c d = simp append_assoc

pub returns-clause-text : goal.returns-clause-text
returns-clause-text c =
    let job = c.args.job.now in
    rw (c.of_bytes.ensures, c.into_bytes.ensures.value, c.in_ok-line.ensures.ok, c.command_count-commands.ensures, c.trees-trees.ensures)
    (ap (λ rest. codes "ok commands " ++ rest) (pieces (decimal (length job.commands)) (codes " trees ") (decimal (trees_behind [] job.commands)) (codes "\n")))
