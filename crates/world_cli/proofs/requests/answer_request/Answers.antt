use Rattle.std.proofs.Common.{◌∙◌, sym}
use Rattle.world_cli.proofs.AnswerLemmas.{needs_no_input}
use Rattle.world_cli.proofs.requests.answer_request.Goals as goal

pub returns-in_ok-answer_bytes-clause-answer : goal.returns-in_ok-answer_bytes-clause-answer
returns-in_ok-answer_bytes-clause-answer g c =
    let none = sym c.has_input.ensures ∙ c.if-has_input.false in
    needs_no_input c.args.request _ _ _ none (sym c.in_ok-answer_bytes.ensures.status) (sym c.in_ok-answer_bytes.ensures.text)
