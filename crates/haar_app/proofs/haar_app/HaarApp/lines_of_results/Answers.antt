use Rattle.std.proofs.Common.{◌≡◌, ◌∙◌, ap, List, map}
use Rattle.tree_model.specs.Commands.{Command}
use Rattle.job_data.specs.Data.{data_of}
use Rattle.haar_results.specs.Results.{work_of, made_of}
use Rattle.haar_results.specs.RightResults.{IsJobText}
use Rattle.haar_results.specs.Texts.{made_in}
use Rattle.haar_results.specs.declared.results.JobLines.{JobLines}
use Rattle.haar_app.proofs.ResultLemmas.{if_ok, results_text}
use Rattle.haar_app.proofs.haar_app.HaarApp.lines_of_results.Goals as goal

pub returns-clause-right : goal.returns-clause-right
returns-clause-right c right =
    let app = c.args.self.now in
    if_ok (λ (lines : JobLines). made_in lines ≡ made_of (work_of (map data_of c.commands.result.now)) c.args.values.now) (λ (lines : JobLines). IsJobText app.job (made_in lines))
    c.lines_of_results.result c.lines_of_results.ensures
    (λ lines is. results_text app.job app.commands.depth app.commands.operations.items app.map app.ranks c.args.values.now (made_in lines) app.same_depth app.is_kept right
    (is ∙ ap (λ (commands : List Command). made_of (work_of commands) c.args.values.now) c.commands.ensures))
