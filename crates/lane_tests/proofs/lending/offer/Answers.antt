use Rattle.std.proofs.Common.{List, sym, subst}
use Rattle.std.specs.Prelude.{Some, [], slice_get}
use Rattle.app_core.specs.declared.outline.Outline.TheVariants as of
use Rattle.event_lists.specs.declared.event.Event.{Event}
use Rattle.event_lists.specs.declared.event.Event.TheVariants.{Submitted}
use Rattle.event_lists.specs.Events.{in_hand}
use Rattle.event_laws.specs.Follows.{program_at, event_of}
use Rattle.world_rule.specs.Steps.{IsNextEffect}
use Rattle.lane_tests.specs.declared.loans.Loan.TheVariants.{Lender}
use Rattle.lane_tests.specs.Loans.{sum_lent, label_of}
use Rattle.lane_tests.specs.Lending.{lender}
use Rattle.lane_tests.proofs.lending.offer.Goals as goal

pub submitted-requires-clause-next : goal.submitted-requires-clause-next
submitted-requires-clause-next c =
    let w = c.args.words.now in
    let v = c.args.main.now in
    let new = c.requires.new.0 in
    let o = of.Spawn (label_of Lender) (Some sum_lent) [] 0 in
    subst (λ (es : List Event). IsNextEffect w.program v.progress v.seen v.name es (Submitted 0 lender) (in_hand es)) (sym new.mine)
    (o, (λ i. slice_get (program_at (new.name i).rank (c.requires.program i)) 0), λ n i. event_of (sym new.name i).rank o n)
