use Rattle.std.proofs.Common.{◌≡◌, ℕ, ◌+◌, ap, arith}
use Rattle.event_lists.specs.declared.lane.LaneName.{LaneName}
use Rattle.world_words.proofs.ClosingLemmas.{row_grown, root_kept}
use Rattle.world_words.proofs.words.Words.new_rank.Goals as goal

pub loop-number-preserved : goal.loop-number-preserved
loop-number-preserved g c =
    let a = c.args in
    let at = c.loop-number in
    let was = at.invariant in
    record {
      lanes = row_grown a.self.now a.bin a.rank at.number (at.number + 1) c.lane-lane.result at.lanes.items c.push_reserved.new.self.items (omega arith) was.lanes c.lane-lane.ensures.lane c.push_reserved.ensures.items;
      len = (let k = c.push_reserved.ensures.len in let j = was.len in omega (arith, k, j));
      room = (let k = c.push_reserved.ensures.capacity in let j = was.room in omega (arith, k, j));
      root = root_kept a.root.now at.root c.lane-lane.new.root _ was.root c.lane-lane.ensures.root;
      left = λ n low high. c.lane-lane.ensures.others (record { rank = a.rank; bin = a.bin; number = n })
          (λ e. let z : n ≡ at.number = ap (λ (x : LaneName). x.number) e in omega (arith, z, low)) (was.left n (omega (arith, low)) high);
      others = λ x apart has. c.lane-lane.ensures.others x (λ e. apart (ap (λ (y : LaneName). y.bin) e, ap (λ (y : LaneName). y.rank) e)) (was.others x apart has);
    }
