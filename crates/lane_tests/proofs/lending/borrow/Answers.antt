use Rattle.std.proofs.Common.{◌≡◌, ◌≤◌, List, ◌∷◌, refl, sym, ap, subst, ◌∙◌, ⊎_elim, arith}
use Rattle.std.specs.Prelude.{Option, Some, None, []}
use Rattle.event_lists.specs.declared.lane.LaneName.{LaneName}
use Rattle.event_lists.specs.declared.event.Event.{Event}
use Rattle.event_lists.specs.declared.event.Event.TheVariants.{TookTask, Submitted}
use Rattle.event_lists.specs.declared.mark.Item.{Item}
use Rattle.event_lists.specs.declared.mark.Item.TheVariants.{Task}
use Rattle.event_lists.specs.declared.future.Future.{Future}
use Rattle.event_lists.specs.Events.{in_hand, Begins}
use Rattle.event_lists.specs.Futures.{due_of, times_given, IsIn}
use Rattle.event_lists.specs.Dues.{Dues, HasPassedOn}
use Rattle.event_lists.proofs.ListLemmas.{on_begins, begins_trans}
use Rattle.event_lists.proofs.FutureLemmas.{gives_last}
use Rattle.world_rule.specs.declared.view.Owed.{Owed}
use Rattle.world_rule.specs.Owing.{NeedsKnown, took, ended}
use Rattle.world_rule.specs.Views.{begun, progress}
use Rattle.world_words.specs.Lanes.{LaneView}
use Rattle.lane_tests.specs.declared.loans.Loan.TheVariants.{Borrower}
use Rattle.lane_tests.specs.Loans.{told}
use Rattle.lane_tests.specs.Lending.{lent, lender, borrower}
use Rattle.lane_tests.proofs.LendingLemmas.{due_stays, took_needs}
use Rattle.lane_tests.proofs.lending.borrow.Goals as goal

pub take_in-requires-clause-needs : goal.take_in-requires-clause-needs
take_in-requires-clause-needs c =
    let a = c.args in
    let h = c.requires.carrier in
    let v = c.learn.new.lane in
    let was = c.requires.told.given in
    let grows = gives_last a.told.seen v.seen c.learn.ensures.learnt lent in
    let known : 1 ≤ times_given lent v.seen = omega (arith, was, grows) in
    subst (λ (o : Owed). NeedsKnown o.pending a.carrier.seen v.seen) (sym h.owes)
    (λ (f : Future) needed. ⊎_elim (λ e. subst (λ (z : Future). 1 ≤ times_given z v.seen) e known) (λ no. absurd no) (subst (IsIn f) h.needs needed))

pub begin-requires-clause-task : goal.begin-requires-clause-task
begin-requires-clause-task c κs =
    let a = c.args in
    let n = c.requires.carrier.number in
    let s = c.requires.carrier.submitted in
    let l = c.learn.new.lane in
    let v = c.take_in.new.lane in
    let mine : v.mine ≡ TookTask 0 n ∷ l.mine = c.take_in.ensures.grew.event ∙ ap (λ (o : Owed). took o.pending ∷ l.mine) c.requires.carrier.owes in
    (0, n, borrower, ap in_hand mine, (s.0, s.1, on_begins s.0 (Submitted n borrower) a.carrier.seen v.seen c.take_in.ensures.learnt s.2), (Borrower, refl, ap (told a.words.now.ranks) c.requires.effects))

pub ran-requires-clause-done : goal.ran-requires-clause-done
ran-requires-clause-done c =
    let a = c.args in
    let n = c.requires.carrier.number in
    let l = c.learn.new.lane in
    let v = c.take_in.new.lane in
    let mine : v.mine ≡ TookTask 0 n ∷ l.mine = c.take_in.ensures.grew.event ∙ ap (λ (o : Owed). took o.pending ∷ l.mine) c.requires.carrier.owes in
    let does = ap (told a.words.now.ranks) c.requires.effects in
    let far : c.begin.new.lane.progress ≡ Some (progress 0 n [] 0) = ap (λ (z : LaneView). z.progress) c.begin.ensures.lane ∙ (λ i. Some (begun (ap in_hand mine i) (does i))) in
    (progress 0 n [] 0, far, refl, λ j p lt e own. absurd (omega (arith, lt)))

pub ran-requires-clause-dues : goal.ran-requires-clause-dues
ran-requires-clause-dues c =
    let a = c.args in
    let w = a.words.now in
    let h = c.requires.carrier in
    let m = c.requires.main in
    let n = h.number in
    let l = c.learn.new.lane in
    let u = c.begin.new.lane in
    let had : l.mine ≡ Submitted m.second borrower ∷ Submitted m.first lender ∷ [] = ap (λ (z : LaneView). z.mine) c.learn.ensures.lane ∙ m.mine in
    let mine : u.mine ≡ TookTask 0 n ∷ Submitted m.second borrower ∷ Submitted m.first lender ∷ [] =
    ap (λ (z : LaneView). z.mine) c.begin.ensures.lane ∙ c.take_in.ensures.grew.event ∙ ap (λ (o : Owed). took o.pending ∷ l.mine) h.owes ∙ ap (λ (es : List Event). TookTask 0 n ∷ es) had in
    let name = ap (λ (z : LaneView). z.name) c.begin.ensures.lane ∙ c.take_in.ensures.grew.same.1 ∙ ap (λ (z : LaneView). z.name) c.learn.ensures.lane ∙ m.name in
    let legal = c.begin.ensures.sees.run.1.legal in
    let begins : Begins a.carrier.seen u.seen = begins_trans _ _ _ c.take_in.ensures.learnt c.begin.ensures.sees.seen in
    let due : due_of (Task 0 n) u.seen ≡ None = due_stays w.ranks w.workers a.carrier.seen u.seen n borrower None legal begins h.submitted h.due in
    let needs = took_needs w.ranks w.workers u.seen legal u.name (ap (λ (z : LaneName). z.rank) name) u.mine c.begin.ensures.sees.own n m.second m.first borrower mine in
    subst (λ (k : Option Item). Dues u.seen u.name u.mine (ended 0 k)) (sym (ap in_hand mine))
    (subst (λ (o : Option Future). HasPassedOn o u.mine) (sym due) tt, needs)
