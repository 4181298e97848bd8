use Rattle.std.proofs.Common.{◌≡◌, suc, ◌∷◌, length, ap, subst, All, arith}
use Rattle.std.specs.Vec.Iter.{into_iter_items}
use Rattle.lane_bins.specs.LaneBins.{IsNewBinLane}
use Rattle.lane_bins.proofs.lane_container.LaneContainer.new.Goals as goal

pub loop-lane-preserved : goal.loop-lane-preserved
loop-lane-preserved g c =
    let at = c.loop-lane in
    let steps : into_iter_items at.lane-iterator ≡ c.in-Some.lane ∷ into_iter_items c.next.new.self = c.in-Some.ensures.steps.0 in
    let short = ap length steps in
    let gone = c.in-Some.ensures.steps.1 in
    let len = c.push_reserved.ensures.len in
    let capacity = c.push_reserved.ensures.capacity in
    let new = subst (All (IsNewBinLane g.J.WordsNaming.words)) steps at.invariant.3 in (
      (let was = at.invariant.0 in omega (arith, was, short, len)),
      (let was = at.invariant.1 in omega (arith, was, capacity)),
      (let was = at.invariant.2 in omega (arith, was, short, gone)),
      (λ k d within. new (suc k) d (omega (arith, within))),
    )
