use Rattle.std.proofs.Common.{◌≡◌, ℕ, ◌+◌, arith}
use Rattle.world_words.proofs.ClosingLemmas.{ranks_grown, root_kept}
use Rattle.world_words.proofs.words.Words.new_ranks.Goals as goal

pub loop-rank-preserved : goal.loop-rank-preserved
loop-rank-preserved g c =
    let a = c.args in
    let at = c.loop-rank in
    let was = at.invariant in
    record {
      lanes = ranks_grown a.self.now a.bin a.count at.rank (at.rank + 1) c.in_ok-row.row at.lanes.items c.push_reserved.new.self.items (omega arith) was.lanes c.in_ok-row.ensures.lanes c.push_reserved.ensures.items;
      len = (let k = c.push_reserved.ensures.len in let j = was.len in omega (arith, k, j));
      room = (let k = c.push_reserved.ensures.capacity in let j = was.room in omega (arith, k, j));
      root = root_kept a.root.now at.root c.new_rank.new.root _ was.root c.in_ok-row.ensures.root;
      left = λ r n low high below. c.in_ok-row.ensures.others (record { rank = r; bin = a.bin; number = n })
          (λ e. let z : r ≡ at.rank = e.1 in omega (arith, z, low)) (was.left r n (omega (arith, low)) high below);
      others = λ x apart has. c.in_ok-row.ensures.others x (λ e. apart e.0) (was.others x apart has);
    }
