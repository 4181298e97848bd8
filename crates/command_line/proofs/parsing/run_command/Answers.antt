use Rattle.std.proofs.Common.{◌≡◌, ◌∙◌, ap₂, codes}
use Rattle.clap.specs.Words.{rule_of, with_rule}
use Rattle.command_line.specs.Parsing.{option_rule}
use Rattle.command_line.proofs.parsing.run_command.Goals as goal

pub returns : goal.returns
returns c =
    let ranks : rule_of c.option.result ≡ option_rule (codes "ranks") = c.option.ensures.rule in
    let workers : rule_of c.option-2.result ≡ option_rule (codes "workers") = c.option-2.ensures.rule in
    let map : rule_of c.option-3.result ≡ option_rule (codes "map") = c.option-3.ensures.rule in
    let one = c.in_ok-arg.ensures.shape c.option.ensures.local ∙ ap₂ with_rule c.bare.ensures ranks in
    let two = c.in_ok-arg-2.ensures.shape c.option-2.ensures.local ∙ ap₂ with_rule one workers in
    c.in_ok-command.ensures.shape c.option-3.ensures.local ∙ ap₂ with_rule two map
