use Rattle.std.proofs.Common.{rules, ◌≡◌, ◌≤◌, All, [], ◌∷◌, ◌++◌, length, sym, subst}
use Rattle.std.proofs.lemmas.List.Elements.{All-push}
use Rattle.crew.specs.Shares.{IsShareOf, AreShares}
use Rattle.crew.proofs.ShareLemmas.{one_rank_more, few_seats}
use Rattle.crew.proofs.ranks.ranks_of.Goals as goal

pub loop-rank-preserved : goal.loop-rank-preserved
loop-rank-preserved g c =
    let is : c.push.new.self.items ≡ c.loop-rank.shares.items ++ c.in_ok-share.share ∷ [] = search rules in
    let are : c.push-in-loop-rank.new.self.items ≡ c.loop-rank.seats.items ++ c.in_ok-made.made.1.seats ∷ [] = search rules in
    record {
      many = search rules;
      each = search rules;
      shares =
          let last : IsShareOf (length c.args.inboxes.now) (length c.loop-rank.shares.items) c.in_ok-share.share = search rules in
          subst (AreShares (length c.args.inboxes.now)) (sym is) (one_rank_more (length c.args.inboxes.now) c.loop-rank.shares.items c.in_ok-share.share c.loop-rank.invariant.shares last);
      staff =
          let last : c.in_ok-share.share.workers ≡ c.args.workers = search rules in
          subst (All (λ share. share.workers ≡ c.args.workers)) (sym is) (All-push (λ share. share.workers ≡ c.args.workers) c.loop-rank.shares.items c.in_ok-share.share c.loop-rank.invariant.staff last);
      seats =
          let few = few_seats c.args.workers c.in_ok-made.made.1.seats.items c.in_ok-made.ensures in
          subst (All (λ at_pool. All (λ seat. seat ≤ c.args.workers) at_pool.items)) (sym are) (All-push (λ at_pool. All (λ seat. seat ≤ c.args.workers) at_pool.items) c.loop-rank.seats.items c.in_ok-made.made.1.seats c.loop-rank.invariant.seats few);
    }
