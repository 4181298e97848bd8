use Rattle.std.proofs.Common.{◌≤◌}
use Rattle.std.proofs.lemmas.List.Elements.{All-pop}
use Rattle.crew.proofs.hands.add_hands.Goals as goal

pub loop-seat-preserved : goal.loop-seat-preserved
loop-seat-preserved g c = (All-pop (λ seat. seat ≤ c.args.share.now.workers) c.loop-seat.seats.items c.pop.new.self.items c.pop.result c.pop.ensures.items c.loop-seat.invariant).0
