use Rattle.std.proofs.Common.{◌≡◌, ◌∙◌, ap₂, codes}
use Rattle.clap.specs.Words.{rule_of, with_rule}
use Rattle.command_line.specs.Parsing.{flag_rule, option_rule, word_rule}
use Rattle.command_line.proofs.parsing.big_command.Goals as goal

pub returns : goal.returns
returns c =
    let ranks : rule_of c.option.result ≡ option_rule (codes "ranks") = c.option.ensures.rule in
    let workers : rule_of c.option-2.result ≡ option_rule (codes "workers") = c.option-2.ensures.rule in
    let map : rule_of c.option-3.result ≡ option_rule (codes "map") = c.option-3.ensures.rule in
    let receipts : rule_of c.flag.result ≡ flag_rule (codes "receipts") = c.flag.ensures.rule in
    let job : rule_of c.flag-2.result ≡ flag_rule (codes "job") = c.flag-2.ensures.rule in
    let number : rule_of c.word.result ≡ word_rule (codes "number") = c.word.ensures.rule in
    let one = c.in_ok-arg.ensures.shape c.option.ensures.local ∙ ap₂ with_rule c.bare.ensures ranks in
    let two = c.in_ok-arg-2.ensures.shape c.option-2.ensures.local ∙ ap₂ with_rule one workers in
    let three = c.in_ok-arg-3.ensures.shape c.option-3.ensures.local ∙ ap₂ with_rule two map in
    let four = c.in_ok-arg-4.ensures.shape c.flag.ensures.local ∙ ap₂ with_rule three receipts in
    let five = c.in_ok-arg-5.ensures.shape c.flag-2.ensures.local ∙ ap₂ with_rule four job in
    c.in_ok-command.ensures.shape c.word.ensures.local ∙ ap₂ with_rule five number
