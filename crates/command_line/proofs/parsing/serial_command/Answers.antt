use Rattle.std.proofs.Common.{◌≡◌, ◌∙◌, ap₂, codes}
use Rattle.clap.specs.Words.{rule_of, with_rule}
use Rattle.command_line.specs.Parsing.{flag_rule, option_rule}
use Rattle.command_line.proofs.parsing.serial_command.Goals as goal

pub returns : goal.returns
returns c =
    let ranks : rule_of c.option.result ≡ option_rule (codes "ranks") = c.option.ensures.rule in
    let map : rule_of c.option-2.result ≡ option_rule (codes "map") = c.option-2.ensures.rule in
    let receipts : rule_of c.flag.result ≡ flag_rule (codes "receipts") = c.flag.ensures.rule in
    let one = c.in_ok-arg.ensures.shape c.option.ensures.local ∙ ap₂ with_rule c.bare.ensures ranks in
    let two = c.in_ok-arg-2.ensures.shape c.option-2.ensures.local ∙ ap₂ with_rule one map in
    c.in_ok-command.ensures.shape c.flag.ensures.local ∙ ap₂ with_rule two receipts
