use Rattle.std.proofs.Common.{◌≡◌, ◌≤◌, List, ◌∷◌, refl, sym, ap, subst, ◌∙◌, inr, arith}
use Rattle.std.specs.Prelude.{Option, Some, []}
use Rattle.app_core.specs.declared.outline.Outline.TheVariants as of
use Rattle.event_lists.specs.declared.lane.LaneName.{LaneName}
use Rattle.event_lists.specs.declared.event.Event.{Event}
use Rattle.event_lists.specs.declared.event.Event.TheVariants.{TookTask, Submitted, Gave}
use Rattle.event_lists.specs.declared.mark.Item.{Item}
use Rattle.event_lists.specs.declared.mark.Item.TheVariants.{Task}
use Rattle.event_lists.specs.declared.mark.Mark.{Mark}
use Rattle.event_lists.specs.declared.future.Future.{Future}
use Rattle.event_lists.specs.Events.{in_hand, part, Begins}
use Rattle.event_lists.specs.Futures.{is_own, is_kept, due_of, times_given}
use Rattle.event_lists.specs.Dues.{Dues, HasPassedOn}
use Rattle.event_lists.proofs.ListLemmas.{on_begins, begins_trans}
use Rattle.event_lists.proofs.FutureLemmas.{gives_last}
use Rattle.event_laws.specs.Follows.{event_of}
use Rattle.world_rule.specs.declared.view.Owed.{Owed}
use Rattle.world_rule.specs.Owing.{took, ended}
use Rattle.world_rule.specs.Views.{mark, begun, progress}
use Rattle.world_rule.specs.Steps.{IsNextEffect, effect_of}
use Rattle.world_words.specs.Lanes.{LaneView}
use Rattle.lane_tests.specs.declared.loans.Loan.TheVariants.{Lender}
use Rattle.lane_tests.specs.Loans.{sum_lent, told}
use Rattle.lane_tests.specs.Lending.{worker, lent, lender, lending}
use Rattle.lane_tests.proofs.LendingLemmas.{due_stays, gave_needs, is_given}
use Rattle.lane_tests.proofs.lending.lend.Goals as goal

pub begin-requires-clause-task : goal.begin-requires-clause-task
begin-requires-clause-task c κs =
    let a = c.args in
    let n = c.requires.carrier.number in
    let s = c.requires.carrier.submitted in
    let v = c.take_in.new.lane in
    let mine : v.mine ≡ TookTask 0 n ∷ [] = c.take_in.ensures.grew.event ∙ ap (λ (o : Owed). took o.pending ∷ a.lane.now.mine) c.requires.carrier.owes ∙ ap (λ (es : List Event). TookTask 0 n ∷ es) c.requires.free.1 in
    (0, n, lender, ap in_hand mine, (s.0, s.1, on_begins s.0 (Submitted n lender) a.carrier.seen v.seen c.take_in.ensures.learnt s.2), (Lender, refl, ap (told a.words.now.ranks) c.requires.effects))

pub gave-requires-clause-dues : goal.gave-requires-clause-dues
gave-requires-clause-dues c =
    let a = c.args in
    let w = a.words.now in
    let h = c.requires.carrier in
    let n = h.number in
    let u = c.begin.new.lane in
    let mine : u.mine ≡ TookTask 0 n ∷ [] = ap (λ (z : LaneView). z.mine) c.begin.ensures.lane ∙ c.take_in.ensures.grew.event ∙ ap (λ (o : Owed). took o.pending ∷ a.lane.now.mine) h.owes ∙ ap (λ (es : List Event). TookTask 0 n ∷ es) c.requires.free.1 in
    let begins : Begins a.carrier.seen u.seen = begins_trans _ _ _ c.take_in.ensures.learnt c.begin.ensures.sees.seen in
    let due = due_stays w.ranks w.workers a.carrier.seen u.seen n lender (Some lent) c.begin.ensures.sees.run.1.legal begins h.submitted h.due in
    subst (λ (es : List Event). Dues u.seen u.name es (Gave sum_lent)) (sym mine) (inr (ap (is_own sum_lent) due, refl))

pub gave-requires-clause-next : goal.gave-requires-clause-next
gave-requires-clause-next c =
    let a = c.args in
    let w = a.words.now in
    let h = c.requires.carrier in
    let n = h.number in
    let v = c.take_in.new.lane in
    let u = c.begin.new.lane in
    let took_it : v.mine ≡ TookTask 0 n ∷ [] = c.take_in.ensures.grew.event ∙ ap (λ (o : Owed). took o.pending ∷ a.lane.now.mine) h.owes ∙ ap (λ (es : List Event). TookTask 0 n ∷ es) c.requires.free.1 in
    let mine : u.mine ≡ TookTask 0 n ∷ [] = ap (λ (z : LaneView). z.mine) c.begin.ensures.lane ∙ took_it in
    let name : u.name ≡ worker = ap (λ (z : LaneView). z.name) c.begin.ensures.lane ∙ c.take_in.ensures.grew.same.1 ∙ c.requires.free.2 in
    let does = ap (told w.ranks) c.requires.effects in
    let far : u.progress ≡ Some (progress 0 n lending 0) = ap (λ (z : LaneView). z.progress) c.begin.ensures.lane ∙ (λ i. Some (begun (ap in_hand took_it i) (does i))) in
    subst (λ (es : List Event). IsNextEffect w.program u.progress u.seen u.name es (Gave sum_lent) (in_hand es)) (sym mine)
    (progress 0 n lending 0, of.Give sum_lent 0, far, refl, refl, (λ m i. event_of (sym name i).rank (of.Give sum_lent 0) m), λ j p lt e own. absurd (omega (arith, lt)))

pub ran-requires-clause-dues : goal.ran-requires-clause-dues
ran-requires-clause-dues c =
    let a = c.args in
    let w = a.words.now in
    let h = c.requires.carrier in
    let n = h.number in
    let u = c.begin.new.lane in
    let g = c.gave.new.lane in
    let took_it : u.mine ≡ TookTask 0 n ∷ [] = ap (λ (z : LaneView). z.mine) c.begin.ensures.lane ∙ c.take_in.ensures.grew.event ∙ ap (λ (o : Owed). took o.pending ∷ a.lane.now.mine) h.owes ∙ ap (λ (es : List Event). TookTask 0 n ∷ es) c.requires.free.1 in
    let mine : g.mine ≡ Gave sum_lent ∷ TookTask 0 n ∷ [] = c.gave.ensures.event ∙ ap (λ (es : List Event). Gave sum_lent ∷ es) took_it in
    let name : g.name ≡ worker = c.gave.ensures.same.1 ∙ ap (λ (z : LaneView). z.name) c.begin.ensures.lane ∙ c.take_in.ensures.grew.same.1 ∙ c.requires.free.2 in
    let legal = c.gave.ensures.sees.run.1.legal in
    let begins : Begins a.carrier.seen g.seen = begins_trans _ _ _ c.take_in.ensures.learnt (begins_trans _ _ _ c.begin.ensures.sees.seen c.gave.ensures.sees.seen) in
    let due : due_of (Task 0 n) g.seen ≡ Some lent = due_stays w.ranks w.workers a.carrier.seen g.seen n lender (Some lent) legal begins h.submitted h.due in
    let needs = gave_needs w.ranks w.workers g.seen legal g.name (ap (λ (l : LaneName). l.rank) name) g.mine c.gave.ensures.sees.own n mine in
    subst (λ (k : Option Item). Dues g.seen g.name g.mine (ended 0 k)) (sym (ap in_hand mine))
    (subst (λ (o : Option Future). HasPassedOn o g.mine) (sym due) (ap (is_kept sum_lent) mine), needs)

pub returns-clause-told : goal.returns-clause-told
returns-clause-told c =
    let a = c.args in
    let w = a.words.now in
    let h = c.requires.carrier in
    let n = h.number in
    let u = c.begin.new.lane in
    let g = c.gave.new.lane in
    let took_it : u.mine ≡ TookTask 0 n ∷ [] = ap (λ (z : LaneView). z.mine) c.begin.ensures.lane ∙ c.take_in.ensures.grew.event ∙ ap (λ (o : Owed). took o.pending ∷ a.lane.now.mine) h.owes ∙ ap (λ (es : List Event). TookTask 0 n ∷ es) c.requires.free.1 in
    let mine : g.mine ≡ Gave sum_lent ∷ TookTask 0 n ∷ [] = c.gave.ensures.event ∙ ap (λ (es : List Event). Gave sum_lent ∷ es) took_it in
    let name : u.name ≡ worker = ap (λ (z : LaneView). z.name) c.begin.ensures.lane ∙ c.take_in.ensures.grew.same.1 ∙ c.requires.free.2 in
    let own : part worker g.seen ≡ g.mine = ap (λ (l : LaneName). part l g.seen) (sym (c.gave.ensures.same.1 ∙ name)) ∙ c.gave.ensures.sees.own in
    let now : g.seen ≡ mark worker (Gave sum_lent) (effect_of u.progress) ∷ c.gave.ensures.before = c.gave.ensures.now ∙ ap (λ (l : LaneName). mark l (Gave sum_lent) (effect_of u.progress) ∷ c.gave.ensures.before) name in
    let begins : Begins a.carrier.seen c.gave.ensures.before = begins_trans _ _ _ c.take_in.ensures.learnt (begins_trans _ _ _ c.begin.ensures.sees.seen c.gave.ensures.knew) in
    let given = is_given w.ranks w.workers g.seen c.gave.ensures.before a.carrier.seen (effect_of u.progress) g.mine n c.gave.ensures.sees.run.1.legal now own mine begins h.submitted h.due in
    let grows = gives_last g.seen c.ran.new.lane.seen c.ran.ensures.sees.seen lent in
    let after : 1 ≤ times_given lent c.ran.new.lane.seen = omega (arith, given, grows) in
    record {
      table = c.tell.ensures.told.0 ∙ c.ran.ensures.same.0 ∙ c.gave.ensures.same.0 ∙ ap (λ (z : LaneView). z.table) c.begin.ensures.lane ∙ c.take_in.ensures.grew.same.0 ∙ c.requires.free.0.table;
      given = subst (λ (log : List Mark). 1 ≤ times_given lent log) (sym c.tell.ensures.told.1) after;
    }
