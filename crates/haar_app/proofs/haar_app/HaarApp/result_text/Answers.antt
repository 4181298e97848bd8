use Rattle.std.proofs.Common.{◌≡◌, ◌∙◌, sym, ap, Some, Option, List, ℕ}
use Rattle.tree_model.specs.Commands.{Command}
use Rattle.job_data.specs.Data.{data_of}
use Rattle.haar_units.specs.ModelJobs.{command_at}
use Rattle.haar_results.specs.Results.{lines_from_value, value_lines}
use Rattle.haar_results.specs.RightResults.{lines_of}
use Rattle.haar_app.proofs.ResultLemmas.{at_number, if_ok, right_text, right_fine, right_bad}
use Rattle.haar_app.proofs.haar_app.HaarApp.result_text.Goals as goal

pub returns-clause-lines : goal.returns-clause-lines
returns-clause-lines c =
    let app = c.args.self.now in
    let k = c.index-commands-command.result in
    let v = c.args.value.now in
    let at = at_number c.commands-commands.result.now app.job.commands app.commands.operations.items c.args.command k c.commands-commands.ensures app.is_kept.number c.requires c.index-commands-command.is in
    if_ok (λ (text : List ℕ). value_lines (data_of k) v ≡ Some text) (λ (text : List ℕ). lines_from_value (command_at app.job.commands c.args.command) v ≡ Some text) c.result_text.result c.result_text.ensures.lines
    (λ text is. ap (λ (o : Option Command). lines_from_value o v) at ∙ is)

pub returns-clause-right : goal.returns-clause-right
returns-clause-right c future has right early =
    let app = c.args.self.now in
    let k = c.index-commands-command.result in
    let v = c.args.value.now in
    let at = at_number c.commands-commands.result.now app.job.commands app.commands.operations.items c.args.command k c.commands-commands.ensures app.is_kept.number c.requires c.index-commands-command.is in
    if_ok (λ (text : List ℕ). value_lines (data_of k) v ≡ Some text) (λ (text : List ℕ). text ≡ lines_of app.job c.args.command) c.result_text.result c.result_text.ensures.lines
    (λ text is. right_text app.job app.commands.depth app.commands.operations.items app.map app.ranks app.same_depth app.is_kept c.args.command v future has right text
    (ap (λ (o : Option Command). lines_from_value o v) at ∙ is) early)

pub returns-clause-fine : goal.returns-clause-fine
returns-clause-fine c future has right early over =
    let app = c.args.self.now in
    right_fine app.job app.commands.depth app.commands.operations.items app.map app.ranks app.same_depth app.is_kept c.args.command c.args.value.now future has right early (c.result_text.ensures.overflow.0 over)

pub returns-clause-first : goal.returns-clause-first
returns-clause-first c future has right first =
    let app = c.args.self.now in
    c.result_text.ensures.overflow.1
    (right_bad app.job app.commands.depth app.commands.operations.items app.map app.ranks app.same_depth app.is_kept c.args.command c.args.value.now future has right first)
