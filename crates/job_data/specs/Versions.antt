-- The versions that the commands of a job read and write, and the fences that end them. A version has the number of the
-- command that writes it; commands are numbered from 1, and so are fences.
use Rattle.std.specs.Prelude.{ℕ, ◌+◌, Bool, ◌&&◌, nat_le, List, [], ◌∷◌, ◌++◌, length, count_by, if◌then◌else◌}
use Rattle.std.specs.Option.{option_map}
use Rattle.tree_model.specs.Commands.{Command}
use Rattle.tree_model.specs.Signatures.{Signature, signature_of, writes}
use Rattle.tree_model.specs.Jobs.{JobData}
use Rattle.job_data.specs.declared.sources.Sources.{Sources}
use Rattle.job_data.specs.declared.sources.Sources.TheVariants.{Nothing, One, Two}
use Rattle.job_data.specs.declared.step.Step.{Step}
use Rattle.job_data.specs.Checks.{is_fence}

-- the number of the last of these commands that writes a name, where the first has this number; `last` where none does
abbrev pub version_from : ℕ → ℕ → List Command → List ℕ → ℕ
version_from number last [] name = last
version_from number last (c ∷ cs) name = version_from (number + 1) (if writes name c then number else last) cs name

-- the version that a name has after these commands, or 0
abbrev pub version_behind : List Command → List ℕ → ℕ
version_behind commands name = version_from 1 0 commands name

-- the versions of the names that a command reads
abbrev pub sources_of : List Command → List (List ℕ) → Sources
sources_of before [] = Nothing
sources_of before (name ∷ []) = One (version_behind before name)
sources_of before (left ∷ right ∷ more) = Two (version_behind before left) (version_behind before right)

-- what a command reads and writes after those before it, and the fence that ends it: the next, or itself
abbrev pub step_for : List Command → Signature → Step
step_for before s = record {
  reads = sources_of before s.reads;
  writes = option_map (λ target. length before + 1) s.writes;
  fence = count_by is_fence before + 1;
}

abbrev pub step_of : List Command → Command → Step
step_of before c = step_for before (signature_of c)

abbrev pub plan_from : List Command → List Command → List Step
plan_from before [] = []
plan_from before (c ∷ cs) = step_of before c ∷ plan_from (before ++ c ∷ []) cs

abbrev pub plan_of : JobData → List Step
plan_of job = plan_from [] job.commands

-- the largest job that may be traced
abbrev pub max_traced_depth : ℕ
max_traced_depth = 10

abbrev pub max_traced_commands : ℕ
max_traced_commands = 64

abbrev pub trace_fits : JobData → Bool
trace_fits job = nat_le job.depth max_traced_depth && nat_le (length job.commands) max_traced_commands
