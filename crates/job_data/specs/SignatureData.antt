-- The signature that the code's value of one is.
use Rattle.std.specs.Option.{option_map}
use Rattle.haar_node.specs.Func.{function_of}
use Rattle.job_words.specs.NameBytes.{bytes_of}
use Rattle.tree_model.specs.Signatures.{Target as TargetData, Numbers as NumbersData, Signature as SignatureData}
use Rattle.tree_model.specs.Signatures.Numbers.{NoNumbers, ProjectionNumbers, LevelNumber, FactorNumbers}
use Rattle.job_data.specs.Data.{form_of}
use Rattle.job_data.specs.Reads.{names_of}
use Rattle.job_data.specs.declared.signature.Target.{Target}
use Rattle.job_data.specs.declared.signature.Numbers.{Numbers}
use Rattle.job_data.specs.declared.signature.Numbers.TheVariants.{Nothing, Projection, Level, Factors}
use Rattle.job_data.specs.declared.signature.Signature.{Signature}

abbrev pub target_of : Target → TargetData
target_of target = record { name = bytes_of target.name; form = form_of target.form }

abbrev pub numbers_of : Numbers → NumbersData
numbers_of Nothing = NoNumbers
numbers_of (Projection function level tolerance) = ProjectionNumbers (record { function = function_of function; level = level; tolerance = tolerance })
numbers_of (Level level) = LevelNumber level
numbers_of (Factors left right) = FactorNumbers left right

abbrev pub signature_data : Signature → SignatureData
signature_data s = record {
  writes = option_map target_of s.writes;
  reads = names_of s.reads;
  needs = option_map form_of s.needs;
  numbers = numbers_of s.numbers;
  prints = s.prints;
  fences = s.fences;
  needs_fence = s.needs_fence;
}
