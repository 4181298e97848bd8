use Rattle.std.proofs.Common.{◌∙◌, rules}
use Rattle.world_cli.proofs.AnswerLemmas.{too_long_text}
use Rattle.world_cli.proofs.requests.answer_input.Goals as goal

pub returns-in_ok-too_long-in-Err-TooLong-clause-answer : goal.returns-in_ok-too_long-in-Err-TooLong-clause-answer
returns-in_ok-too_long-in-Err-TooLong-clause-answer g c =
    let given = c.in-Err-TooLong.ensures.too_long (search rules) in
    let says = c.fault_answer.ensures.text ∙ c.in_ok-too_long-in-Err-TooLong.ensures in
    rw c.fault_answer.ensures.status (too_long_text c.args.request _ _ given.0 c.fault_answer.result.text c.requires.input given.1 given.2 says)
