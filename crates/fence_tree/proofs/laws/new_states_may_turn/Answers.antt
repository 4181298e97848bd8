use Rattle.std.proofs.Common.{refl, sym, ap, subst, arith}
use Rattle.event_lists.specs.Fences.{passes, MayOpen}
use Rattle.fence_tree.proofs.TurnLemmas.{no_row_read}
use Rattle.fence_tree.proofs.laws.new_states_may_turn.Goals as goal

pub returns : goal.returns
returns g c = λ rank fence v inside none no_receipt. record {
  knows = record {
    ranks = refl;
    read = record { lane = inside; passes = ap passes none; ended = subst MayOpen (sym none) tt };
    no_receipt = no_receipt;
    rows = no_row_read fence 1 v.seen;
    last = λ d e. absurd (omega (arith, e));
  };
  gathered = refl;
}
