use Rattle.std.proofs.Common.{map}
use Rattle.job_data.specs.Data.{data_of}
use Rattle.haar_results.proofs.MadeLemmas.{IsMade}
use Rattle.haar_results.proofs.results.lines_of_results.Given as goal

abbrev pub invariant-loop-index : goal.invariant-loop-index
invariant-loop-index l = IsMade (map data_of l.commands) l.values l.index l.place l.text
