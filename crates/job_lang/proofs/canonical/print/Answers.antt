use Rattle.std.proofs.Common.{ℕ, List, ◌++◌, map, take, sym, ◌∙◌, ap, append_assoc, append-nil}
use Rattle.std.specs.Prelude.{codes}
use Rattle.std.specs.List.{flat_map}
use Rattle.std.proofs.lemmas.List.{take_all}
use Rattle.job_lang.specs.Canonical.{command_text, header_words}
use Rattle.job_words.specs.Lines.{line_of}
use Rattle.job_data.specs.Data.{data_of}
use Rattle.job_lang.specs.Reading.{reading_of}
use Rattle.job_lang.proofs.CanonicalLemmas.{reads_back, flat_map_more}
use Rattle.job_lang.proofs.canonical.print.Goals as goal

abbrev header_text : ℕ → List ℕ
header_text depth = line_of (header_words depth) ++ codes "\n"

pub loop-command-init : goal.loop-command-init
loop-command-init c =
    c.in_ok-add_header.ensures
    ∙ ap (λ (t : List ℕ). t ++ header_text c.depth.result) c.new-text.ensures
    ∙ ap header_text c.depth.ensures.value
    ∙ sym (append-nil (header_text c.args.job.now.depth))

pub loop-command-preserved : goal.loop-command-preserved
loop-command-preserved c =
    let items = c.commands-command-items.result.now in
    let before = flat_map command_text (map data_of (take c.loop-command.command-index items)) in
    c.in_ok-add_command.ensures
    ∙ ap (λ (t : List ℕ). t ++ command_text (data_of c.command-item.result)) c.loop-command.invariant
    ∙ append_assoc (header_text c.args.job.now.depth) before (command_text (data_of c.command-item.result))
    ∙ ap (λ (t : List ℕ). header_text c.args.job.now.depth ++ t) (sym (flat_map_more data_of items c.loop-command.command-index c.command-item.result c.loop-command-test.true c.command-item.is))

pub returns-clause-text : goal.returns-clause-text
returns-clause-text c =
    let items = c.commands-command-items.result.now in
    let all = ap (map data_of) (take_all c.loop-command.command-index items c.loop-command-test.false) ∙ c.commands-command-items.ensures in
    c.into_bytes.ensures ∙ c.loop-command.invariant ∙ ap (λ cs. header_text c.args.job.now.depth ++ flat_map command_text cs) all

pub returns-clause-reads_back : goal.returns-clause-reads_back
returns-clause-reads_back c = ap reading_of (returns-clause-text c) ∙ reads_back c.args.job.now c.depth.ensures.job
