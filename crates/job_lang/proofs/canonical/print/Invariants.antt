use Rattle.std.proofs.Common.{◌≡◌, ◌++◌, codes, map, take}
use Rattle.std.specs.List.{flat_map}
use Rattle.job_lang.specs.Canonical.{command_text, header_words}
use Rattle.job_words.specs.Lines.{line_of}
use Rattle.job_data.specs.Data.{data_of}
use Rattle.job_lang.proofs.canonical.print.Given as goal

abbrev pub invariant-loop-command : goal.invariant-loop-command
invariant-loop-command l = l.text ≡ (line_of (header_words l.job.depth) ++ codes "\n") ++ flat_map command_text (map data_of (take l.command-index l.command-items))
