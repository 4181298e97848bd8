use Rattle.std.proofs.Common.{◌≤◌, List, arith}
use Rattle.event_lists.specs.declared.mark.Mark.{Mark}
use Rattle.event_lists.specs.declared.mark.Item.TheVariants.{Message, Task}
use Rattle.event_lists.specs.Events.{Begins}
use Rattle.event_lists.proofs.FutureLemmas.{gives_last}
use Rattle.world_rule.specs.declared.view.Pending.{Pending}
use Rattle.world_rule.specs.declared.view.Pending.TheVariants.{Counted, Drawn}
use Rattle.world_rule.specs.Owing.{NeedsKnown}
use Rattle.world_carriers.proofs.laws.known_needs_stay_known.Goals as goal

stay_known : (p : Pending) (told old new : List Mark) → NeedsKnown p told old → Begins old new → NeedsKnown p told new
stay_known (Counted (Message r n)) told old new known more = known
stay_known (Counted (Task r n)) told old new known more = λ f needed. let given = known f needed in let grows = gives_last old new more f in omega (arith, given, grows)
stay_known (Drawn f) told old new known more = known

pub returns : goal.returns
returns c = stay_known
