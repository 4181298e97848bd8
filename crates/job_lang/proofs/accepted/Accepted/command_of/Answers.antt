use Rattle.std.proofs.Common.{◌≡◌, ◌∷◌, sym, ◌∙◌, rules}
use Rattle.job_lang.specs.Code.{form_data}
use Rattle.job_lang.specs.Slices.{texts}
use Rattle.job_lang.proofs.ReadLemmas.{command_of_words_form}
use Rattle.job_lang.proofs.accepted.Accepted.command_of.Goals as goal

pub returns-clause-command : goal.returns-clause-command
returns-clause-command c =
    let words : texts c.args.words.now ≡ c.in-Some.first.now.now ∷ texts c.in-Some.rest.now = search rules in
    c.command_of_form.ensures.command ∙ sym (command_of_words_form c.args.self.now.depth c.args.self.now.commands (texts c.args.words.now) c.in-Some.first.now.now (texts c.in-Some.rest.now) c.in-Some-of_word.verb (form_data c.in-Some-of_words.form) words (sym c.in-Some-of_word.ensures) (sym c.in-Some-of_words.ensures))
