use Rattle.std.proofs.Common.{◌≡◌, ◌∙◌, None, ap, subst, sym, refl, codes, map, string_bytes}
use Rattle.std.specs.Option.{MatchOption}
use Rattle.std.specs.Prelude.{option_and_then}
use Rattle.command_line.specs.Parsing.{HasSettings}
use Rattle.command_line.specs.Requests.{run_form, run_request}
use Rattle.command_line.specs.Settings.{read_settings}
use Rattle.command_line.proofs.request.read_run.Goals as goal

pub returns-in-Some : goal.returns-in-Some
returns-in-Some c =
    let words = map string_bytes c.args.words.now in
    let found : MatchOption c.in_ok-matches.field-0 (read_settings run_form words ≡ None) (HasSettings run_form words) =
    c.in_ok-matches.ensures (codes "run") run_form c.in_ok-run_command.ensures refl in
    let has : HasSettings run_form words c.in-Some.matches =
    subst (λ o. MatchOption o (read_settings run_form words ≡ None) (HasSettings run_form words)) c.in-Some.is found in
    c.run_request.ensures words has ∙ sym (ap (option_and_then run_request) has.read)

pub returns-in-None : goal.returns-in-None
returns-in-None c =
    let words = map string_bytes c.args.words.now in
    let found : MatchOption c.in_ok-matches.field-0 (read_settings run_form words ≡ None) (HasSettings run_form words) =
    c.in_ok-matches.ensures (codes "run") run_form c.in_ok-run_command.ensures refl in
    let none : read_settings run_form words ≡ None =
    subst (λ o. MatchOption o (read_settings run_form words ≡ None) (HasSettings run_form words)) c.in-None.is found in
    sym (ap (option_and_then run_request) none)
