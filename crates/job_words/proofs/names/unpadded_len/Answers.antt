use Rattle.std.proofs.Common.{sym, ◌∙◌}
use Rattle.job_words.specs.Names.{is_zero}
use Rattle.job_words.proofs.PositionLemmas.{position_place, no_place}
use Rattle.job_words.proofs.names.unpadded_len.Goals as goal

pub returns-in-Some : goal.returns-in-Some
returns-in-Some c = position_place is_zero c.args.padded.now c.in-Some.len (sym c.first_zero.ensures ∙ c.in-Some.is)

pub returns-in-None : goal.returns-in-None
returns-in-None c = no_place is_zero c.args.padded.now (sym c.first_zero.ensures ∙ c.in-None.is)
