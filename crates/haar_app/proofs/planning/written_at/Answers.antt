use Rattle.std.proofs.Common.{sym, ◌∙◌}
use Rattle.haar_app.proofs.PlanLemmas.{written_is, written_none}
use Rattle.haar_app.proofs.planning.written_at.Goals as goal

pub returns-in-Some : goal.returns-in-Some
returns-in-Some c = c.written_form.ensures ∙ sym (written_is c.args.commands.now c.args.version c.in-Some.command (sym c.command_at.ensures ∙ c.in-Some.is))

pub returns-in-None : goal.returns-in-None
returns-in-None c = sym (written_none c.args.commands.now c.args.version (sym c.command_at.ensures ∙ c.in-None.is))
