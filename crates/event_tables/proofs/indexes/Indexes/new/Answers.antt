use Rattle.std.proofs.Common.{sym, subst, refl, []}
use Rattle.event_rules.specs.Shown.{ShowsItem}
use Rattle.event_tables.proofs.IndexLemmas.{lanes_first}
use Rattle.event_tables.proofs.indexes.Indexes.new.Goals as goal

pub returns : goal.returns
returns c = record {
  lanes = lanes_first c.new.result c.new.ensures;
  items = λ k. subst (ShowsItem [] k) (sym (c.new-2.ensures k)) refl;
  futures = c.empty.ensures;
  lacking = record { counts = c.empty-2.ensures.counts; within = c.empty-2.ensures.within };
  counts = λ k. c.new-3.ensures k;
  rows = λ k. c.new-4.ensures k;
  receipts = λ k. c.new-5.ensures k;
  puts = λ k. c.new-6.ensures k;
}
