use Rattle.std.proofs.Common.{◌≡◌, ◌∙◌, None, ap, subst, sym, refl, codes, map, string_bytes}
use Rattle.std.specs.Option.{MatchOption}
use Rattle.std.specs.Prelude.{option_and_then}
use Rattle.command_line.specs.Parsing.{HasSettings}
use Rattle.command_line.specs.Requests.{serial_form, serial_request}
use Rattle.command_line.specs.Settings.{read_settings}
use Rattle.command_line.proofs.request.read_serial.Goals as goal

pub returns-in-Some : goal.returns-in-Some
returns-in-Some c =
    let words = map string_bytes c.args.words.now in
    let found : MatchOption c.in_ok-matches.field-0 (read_settings serial_form words ≡ None) (HasSettings serial_form words) =
    c.in_ok-matches.ensures (codes "serial") serial_form c.in_ok-serial_command.ensures refl in
    let has : HasSettings serial_form words c.in-Some.matches =
    subst (λ o. MatchOption o (read_settings serial_form words ≡ None) (HasSettings serial_form words)) c.in-Some.is found in
    c.serial_request.ensures words has ∙ sym (ap (option_and_then serial_request) has.read)

pub returns-in-None : goal.returns-in-None
returns-in-None c =
    let words = map string_bytes c.args.words.now in
    let found : MatchOption c.in_ok-matches.field-0 (read_settings serial_form words ≡ None) (HasSettings serial_form words) =
    c.in_ok-matches.ensures (codes "serial") serial_form c.in_ok-serial_command.ensures refl in
    let none : read_settings serial_form words ≡ None =
    subst (λ o. MatchOption o (read_settings serial_form words ≡ None) (HasSettings serial_form words)) c.in-None.is found in
    sym (ap (option_and_then serial_request) none)
