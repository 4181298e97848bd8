use Rattle.std.proofs.Common.{◌≡◌, false, List, ◌∷◌, refl, sym, subst, rules}
use Rattle.std.specs.Prelude.{None, [], slice_get}
use Rattle.app_core.specs.declared.outline.Outline.TheVariants as of
use Rattle.app_core.specs.Needs.{AreDistinct}
use Rattle.event_lists.specs.declared.lane.LaneName.{LaneName}
use Rattle.event_lists.specs.declared.event.Event.{Event}
use Rattle.event_lists.specs.declared.event.Event.TheVariants.{Submitted}
use Rattle.event_lists.specs.declared.future.Bringer.TheVariants.{Main as main_at}
use Rattle.event_lists.specs.Events.{in_hand}
use Rattle.event_lists.specs.Futures.{was_needed}
use Rattle.event_lists.specs.Dues.{SubmitsFreely}
use Rattle.event_laws.specs.Follows.{program_at, event_of}
use Rattle.world_rule.specs.Steps.{IsNextEffect}
use Rattle.lane_tests.specs.declared.loans.Loan.TheVariants.{Borrower}
use Rattle.lane_tests.specs.Loans.{sum_lent, label_of}
use Rattle.lane_tests.specs.Lending.{borrower}
use Rattle.lane_tests.proofs.LendingLemmas.{not_needed}
use Rattle.lane_tests.proofs.lending.ask.Goals as goal

pub submitted-requires-clause-dues : goal.submitted-requires-clause-dues
submitted-requires-clause-dues c =
    let w = c.args.words.now in
    let v = c.args.main.now in
    let m = c.requires.main in
    let distinct : AreDistinct (sum_lent ∷ []) = search rules in
    let none = subst (λ (l : LaneName). was_needed (main_at l.rank) sum_lent v.seen ≡ false) (sym m.name) (not_needed w.ranks w.workers v.seen v.name v.mine m.number m.legal m.name m.own m.mine) in
    subst (λ (es : List Event). SubmitsFreely (in_hand es) v.name v.seen es borrower) (sym m.mine) (tt, distinct, (refl, none, tt))

pub submitted-requires-clause-next : goal.submitted-requires-clause-next
submitted-requires-clause-next c =
    let w = c.args.words.now in
    let v = c.args.main.now in
    let m = c.requires.main in
    let o = of.Spawn (label_of Borrower) None (sum_lent ∷ []) 0 in
    subst (λ (es : List Event). IsNextEffect w.program v.progress v.seen v.name es (Submitted 0 borrower) (in_hand es)) (sym m.mine)
    (o, (λ i. slice_get (program_at (m.name i).rank (c.requires.program i)) 1), λ n i. event_of (sym m.name i).rank o n)
