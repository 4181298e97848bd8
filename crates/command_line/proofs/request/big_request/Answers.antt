use Rattle.std.proofs.Common.{◌≡◌, ◌∙◌, Bool, true, false, cond, ◌&&◌, List, Option, Some, None, ap, sym, refl, codes, option_map}
use Rattle.clap.specs.Words.{found_of, one_text}
use Rattle.clap.specs.declared.parser.matches.ArgMatches.{ArgMatches}
use Rattle.command_line.specs.Parsing.{HasSettings, flag_text}
use Rattle.command_line.specs.Requests.{big_form, big_request, has_run_values}
use Rattle.command_line.specs.Settings.{Word, has, value_of}
use Rattle.command_line.specs.Values.{number_of}
use Rattle.command_line.specs.declared.request.Request.{Request}
use Rattle.command_line.specs.declared.request.Request.TheVariants.{BigJob}
use Rattle.command_line.proofs.request.big_request.Goals as goal

-- a flag is there where its text says so
told_flag : (text : Option Word) (result : Bool) → (text ≡ Some (flag_text true) → result ≡ true) → (text ≡ Some (flag_text false) → result ≡ false)
    → (b : Bool) → text ≡ Some (flag_text b) → result ≡ b
told_flag text result there missing true e = there e
told_flag text result there missing false e = missing e

not_asked : (asked have : Bool) (request : Option Request) → asked ≡ false → None ≡ cond (asked && have) request None
not_asked asked have request e = rw e refl

not_had : (asked have : Bool) (request : Option Request) → asked ≡ true → have ≡ false → None ≡ cond (asked && have) request None
not_had asked have request e f = rw (e, f) refl

asked_for : (asked have : Bool) (request : Option Request) → asked ≡ true → have ≡ true → request ≡ cond (asked && have) request None
asked_for asked have request e f = rw (e, f) refl

pub returns-then-not-get_flag : goal.returns-then-not-get_flag
returns-then-not-get_flag c words s =
    let flag : c.get_flag.result ≡ has big_form (codes "job") s.settings = told_flag _ _ c.get_flag.ensures.value c.get_flag.ensures.other _ (s.flags (codes "job") refl) in
    not_asked _ (has_run_values s.settings) _ (sym flag ∙ c.if-not-get_flag.true)

pub returns-then-not-has_run_values : goal.returns-then-not-has_run_values
returns-then-not-has_run_values c words s =
    let flag : c.get_flag.result ≡ has big_form (codes "job") s.settings = told_flag _ _ c.get_flag.ensures.value c.get_flag.ensures.other _ (s.flags (codes "job") refl) in
    let have = c.has_run_values.ensures words s in
    not_had _ _ _ (sym flag ∙ c.if-not-get_flag.false) (sym have ∙ c.if-not-has_run_values.true)

pub returns-in_err-number : goal.returns-in_err-number
returns-in_err-number c words s =
    let flag : c.get_flag.result ≡ has big_form (codes "job") s.settings = told_flag _ _ c.get_flag.ensures.value c.get_flag.ensures.other _ (s.flags (codes "job") refl) in
    let have = c.has_run_values.ensures words s in
    let number : number_of (value_of big_form (codes "number") s.settings) ≡ c.number_of.result =
    ap number_of (sym (s.word (codes "number") refl) ∙ sym c.get_str.ensures) ∙ sym c.number_of.ensures in
    c.from_residual.ensures ∙ ap (option_map BigJob) (sym (number ∙ c.in_err-number.was)) ∙ asked_for _ _ _ (sym flag ∙ c.if-not-get_flag.false) (sym have ∙ c.if-not-has_run_values.false)

pub returns : goal.returns
returns c words s =
    let flag : c.get_flag.result ≡ has big_form (codes "job") s.settings = told_flag _ _ c.get_flag.ensures.value c.get_flag.ensures.other _ (s.flags (codes "job") refl) in
    let have = c.has_run_values.ensures words s in
    let number : number_of (value_of big_form (codes "number") s.settings) ≡ Some c.in_ok-number.number =
    ap number_of (sym (s.word (codes "number") refl) ∙ sym c.get_str.ensures) ∙ sym c.in_ok-number.ensures in
    ap (option_map BigJob) (sym number) ∙ asked_for _ _ _ (sym flag ∙ c.if-not-get_flag.false) (sym have ∙ c.if-not-has_run_values.false)
