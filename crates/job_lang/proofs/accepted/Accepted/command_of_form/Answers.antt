use Rattle.std.proofs.Common.{◌≡◌, true, map, sym, ◌∙◌, ap, subst}
use Rattle.std.specs.Prelude.{Ok, Err}
use Rattle.std.specs.Option.{option_map}
use Rattle.tree_model.specs.Jobs.{JobData}
use Rattle.job_data.specs.declared.fault_kind.FaultKind.TheVariants.{BeyondLimits}
use Rattle.job_data.specs.Checks.{is_accepted}
use Rattle.job_lang.specs.Code.{form_data}
use Rattle.job_data.specs.Data.{data_of}
use Rattle.job_lang.specs.Grammar.{command_of_form}
use Rattle.job_data.specs.CheckedCommands.{checked_command, unless_fault}
use Rattle.job_lang.specs.Reading.{read}
use Rattle.job_data.proofs.CommandLemmas.{data_of_names}
use Rattle.job_lang.proofs.LimitLemmas.{form_read}
use Rattle.job_data.proofs.FaultLemmas.{checked_accepted}
use Rattle.job_lang.proofs.accepted.Accepted.command_of_form.Goals as goal

pub returns-in_default-clause-command : goal.returns-in_default-clause-command
returns-in_default-clause-command c =
    let form = form_data c.args.form.now in
    let depth = c.self.inside.depth in
    let before = map data_of c.self.inside.commands.items in
    let none = sym c.to_command.ensures ∙ ap (option_map data_of) c.in_default.is in
    subst (λ (job : JobData). Err BeyondLimits ≡ read BeyondLimits (command_of_form form) (checked_command job.depth job.commands)) c.self.view_is
    (sym (form_read depth before form c.self.invariant.is_job.depth ∙ ap (λ o. read BeyondLimits o (checked_command depth before)) none))

pub returns-in-Some-fault-clause-command : goal.returns-in-Some-fault-clause-command
returns-in-Some-fault-clause-command c =
    let form = form_data c.args.form.now in
    let depth = c.self.inside.depth in
    let before = map data_of c.self.inside.commands.items in
    let command = data_of c.in-Some.command in
    let some = sym c.to_command.ensures ∙ ap (option_map data_of) c.in-Some.is in
    let told = rw c.deref.ensures.value at c.fault_of-fault.ensures in
    subst (λ (job : JobData). Err c.in-Some-fault.kind ≡ read BeyondLimits (command_of_form form) (checked_command job.depth job.commands)) c.self.view_is
    (ap (λ fault. unless_fault fault command) (sym c.in-Some-fault.is)
    ∙ told
    ∙ sym (form_read depth before form c.self.invariant.is_job.depth ∙ ap (λ o. read BeyondLimits o (checked_command depth before)) some))

pub returns-in-None-clause-command : goal.returns-in-None-clause-command
returns-in-None-clause-command c =
    let form = form_data c.args.form.now in
    let depth = c.self.inside.depth in
    let before = map data_of c.self.inside.commands.items in
    let command = data_of c.in-Some.command in
    let some = sym c.to_command.ensures ∙ ap (option_map data_of) c.in-Some.is in
    let told = rw c.deref.ensures.value at c.fault_of-fault.ensures in
    subst (λ (job : JobData). Ok command ≡ read BeyondLimits (command_of_form form) (checked_command job.depth job.commands)) c.self.view_is
    (ap (λ fault. unless_fault fault command) (sym c.in-None.is)
    ∙ told
    ∙ sym (form_read depth before form c.self.invariant.is_job.depth ∙ ap (λ o. read BeyondLimits o (checked_command depth before)) some))

pub returns-in-None-clause-accepted : goal.returns-in-None-clause-accepted
returns-in-None-clause-accepted c =
    let depth = c.self.inside.depth in
    let before = map data_of c.self.inside.commands.items in
    let command = data_of c.in-Some.command in
    let told = rw c.deref.ensures.value at c.fault_of-fault.ensures in
    subst (λ (job : JobData). is_accepted job.depth job.commands command ≡ true) c.self.view_is
    (checked_accepted depth before command (data_of_names c.in-Some.command) (ap (λ fault. unless_fault fault command) (sym c.in-None.is) ∙ told))
