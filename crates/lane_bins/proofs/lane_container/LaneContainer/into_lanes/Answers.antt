use Rattle.std.proofs.Common.{◌≡◌, ◌∷◌, length, ap, refl, arith}
use Rattle.std.specs.Vec.Iter.{into_iter_items}
use Rattle.lane_bins.proofs.LaneLemmas.{names_more, free_more}
use Rattle.lane_bins.proofs.lane_container.LaneContainer.into_lanes.Goals as goal

pub loop-bin-preserved : goal.loop-bin-preserved
loop-bin-preserved g c =
    let at = c.loop-bin in
    let steps : into_iter_items at.bin-iterator ≡ c.in-Some.bin ∷ into_iter_items c.next.new.self = c.in-Some.ensures.steps.0 in
    let short = ap length steps in
    let gone = c.in-Some.ensures.steps.1 in
    let len = c.push_reserved.ensures.len in
    let capacity = c.push_reserved.ensures.capacity in
    let was = at.invariant in
    record {
      len = (let n = was.len in omega (arith, n, len));
      left = (let n = was.left in omega (arith, n, short));
      room = (let n = was.room in omega (arith, n, capacity));
      iterator = (let n = was.iterator in omega (arith, n, short, gone));
      names = names_more c.self.inside.rank at.number _ at.lanes.items _ c.lane_named.result refl c.push_reserved.ensures.items was.names c.lane_named.ensures.name;
      free = free_more g.J.WordsNaming.words at.lanes.items _ c.lane_named.result c.push_reserved.ensures.items was.free c.lane_named.ensures.free;
    }
