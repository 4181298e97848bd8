use Rattle.std.proofs.Common.{◌≡◌, ◌≢◌, AllPairs, sym, ◌∙◌, subst, List}
use Rattle.app_core.specs.declared.Label.{Label}
use Rattle.app_core.specs.Needs.{AreDistinct}
use Rattle.haar_units.specs.Units.{count_futures}
use Rattle.haar_steps.proofs.CountLemmas.{counts_length, counts_apart}
use Rattle.haar_steps.proofs.starts.push_total.Goals as goal

pub push_needing-requires-clause-within : goal.push_needing-requires-clause-within
push_needing-requires-clause-within g c = rw (c.as_slice.ensures, c.in_ok-labels.ensures, counts_length c.args.command 0 c.args.ranks) c.requires.1

pub push_needing-requires-clause-distinct : goal.push_needing-requires-clause-distinct
push_needing-requires-clause-distinct g c = rw (c.as_slice.ensures, c.in_ok-labels.ensures) (counts_apart c.args.command 0 c.args.ranks)
