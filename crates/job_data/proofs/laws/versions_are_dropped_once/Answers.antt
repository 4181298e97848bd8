use Rattle.job_data.proofs.DroppedOnceLemmas.{dropped_is_done, dropped_once, all_dropped}
use Rattle.job_data.proofs.laws.versions_are_dropped_once.Goals as goal

pub returns : goal.returns
returns c = record {
  done = dropped_is_done;
  once = dropped_once;
  all = all_dropped;
}
