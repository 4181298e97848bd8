use Rattle.std.proofs.Common.{◌≡◌, Bool, true, false, map, refl, ◌∙◌}
use Rattle.std.specs.Prelude.{is_some, not}
use Rattle.job_data.specs.Data.{data_of}
use Rattle.job_data.proofs.CommandLemmas.{data_of_names}
use Rattle.job_data.proofs.FaultLemmas.{faultless}
use Rattle.job_data.proofs.history.History.is_accepted.Goals as goal

turned : (a b : Bool) → a ≡ not b → b ≡ not a
turned true true is = cc
turned true false is = refl
turned false true is = refl
turned false false is = cc

pub returns : goal.returns
returns c =
    turned (is_some c.fault_of.result) c.is_none.result c.is_none.ensures
    ∙ faultless c.args.depth (map data_of c.args.before.now) (data_of c.args.command.now) c.fault_of.result (data_of_names c.args.command.now) c.fault_of.ensures
