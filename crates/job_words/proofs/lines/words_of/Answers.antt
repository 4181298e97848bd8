use Rattle.std.proofs.Common.{length, rules, tests}
use Rattle.std.specs.Prelude.{nat_lt}
use Rattle.std.proofs.lemmas.Iterator.Splits.{YieldsList-from_slice_split}
use Rattle.std.proofs.lemmas.Iterator.Consumers.{map_from_collect, YieldsList-from_filter}
use Rattle.job_words.specs.Lines.{is_blank}
use Rattle.job_words.proofs.lines.words_of.Goals as goal

pub returns : goal.returns
returns c =
    map_from_collect _ c.collect.ensures.ran
    (YieldsList-from_filter _ (λ w. nat_lt 0 (length w))
    (YieldsList-from_slice_split _ is_blank c.args.line.now (cc) (cc) (cc) (λ x b q k. search (rules, tests)))
    c.filter.ensures.closure
    (λ x b q k. search (rules, tests)))
