use Rattle.std.proofs.Common.{◌≡◌, [], ◌∷◌, refl, sym, ap, subst, ◌∙◌, arith}
use Rattle.std.specs.Prelude.{Option, Some, None}
use Rattle.app_core.specs.Outlines.{outlines}
use Rattle.event_lists.specs.declared.event.Event.TheVariants.{TookTask, Submitted}
use Rattle.event_lists.specs.declared.mark.Item.{Item}
use Rattle.event_lists.specs.declared.mark.Item.TheVariants.{Task}
use Rattle.event_lists.specs.Events.{in_hand, part, Begins}
use Rattle.event_lists.specs.Dues.{Dues}
use Rattle.event_lists.proofs.ListLemmas.{on_begins, begins_trans}
use Rattle.world_rule.specs.declared.view.Owed.{Owed}
use Rattle.world_rule.specs.Owing.{took, ended}
use Rattle.world_rule.specs.Views.{begun, progress}
use Rattle.world_words.specs.Lanes.{LaneView, task_name}
use Rattle.words_tests.proofs.WorkLemmas.{needs_none, due_none, passed_on}
use Rattle.words_bench.proofs.turns.run_unit.Goals as goal

pub begin-requires-clause-task : goal.begin-requires-clause-task
begin-requires-clause-task g c κs within =
    let a = c.args in
    let app = a.words.now.app in
    let v = c.take_in.new.lane in
    let r = a.lane.now.name.rank in
    let n = c.requires.carrier.number in
    let t = task_name a.unit [] None in
    let s = c.requires.carrier.submitted in
    let mine : v.mine ≡ TookTask r n ∷ a.lane.now.mine = c.take_in.ensures.grew.event ∙ ap (λ (o : Owed). took o.pending ∷ a.lane.now.mine) c.requires.carrier.owes in
    let none = ap (λ es. outlines (g.A.App.label_of app) (g.A.App.due_of app) (g.A.App.home_of app) (g.A.App.kept_at app) a.words.now.ranks es) c.requires.effects in
    (r, n, t, ap in_hand mine, (s.0, s.1, on_begins s.0 (Submitted n t) a.carrier.seen v.seen c.take_in.ensures.learnt s.2), subst (g.A.Facts.may_do app a.unit) (sym none) c.requires.may)

pub ran-requires-clause-done : goal.ran-requires-clause-done
ran-requires-clause-done g c =
    let a = c.args in
    let app = a.words.now.app in
    let v = c.take_in.new.lane in
    let r = a.lane.now.name.rank in
    let n = c.requires.carrier.number in
    let mine : v.mine ≡ TookTask r n ∷ a.lane.now.mine = c.take_in.ensures.grew.event ∙ ap (λ (o : Owed). took o.pending ∷ a.lane.now.mine) c.requires.carrier.owes in
    let none = ap (λ es. outlines (g.A.App.label_of app) (g.A.App.due_of app) (g.A.App.home_of app) (g.A.App.kept_at app) a.words.now.ranks es) c.requires.effects in
    let is : c.begin.new.lane.progress ≡ Some (progress r n [] 0) = ap (λ (w : LaneView). w.progress) c.begin.ensures.lane ∙ (λ i. Some (begun (ap in_hand mine i) (none i))) in
    (progress r n [] 0, is, refl, λ j p lt e own. absurd (omega (arith, lt)))

pub ran-requires-clause-dues : goal.ran-requires-clause-dues
ran-requires-clause-dues g c =
    let a = c.args in
    let w = a.words.now in
    let v = c.take_in.new.lane in
    let u = c.begin.new.lane in
    let r = a.lane.now.name.rank in
    let n = c.requires.carrier.number in
    let t = task_name a.unit [] None in
    let s = c.requires.carrier.submitted in
    let mine : v.mine ≡ TookTask r n ∷ a.lane.now.mine = c.take_in.ensures.grew.event ∙ ap (λ (o : Owed). took o.pending ∷ a.lane.now.mine) c.requires.carrier.owes in
    let same : u.mine ≡ v.mine = ap (λ (z : LaneView). z.mine) c.begin.ensures.lane in
    let name : u.name ≡ v.name = ap (λ (z : LaneView). z.name) c.begin.ensures.lane in
    let hand : in_hand u.mine ≡ Some (Task r n) = ap in_hand (same ∙ mine) in
    let legal = c.begin.ensures.sees.run.1.legal in
    let begins : Begins a.carrier.seen u.seen = begins_trans _ _ _ c.take_in.ensures.learnt c.begin.ensures.sees.seen in
    let due = due_none w.ranks w.workers u.seen legal r n t refl (s.0, s.1, on_begins s.0 (Submitted n t) a.carrier.seen u.seen begins s.2) in
    let own : part u.name v.seen ≡ u.mine = ap (λ l. part l v.seen) name ∙ c.take_in.ensures.grew.sees.own ∙ sym same in
    let needs = needs_none w.ranks w.workers v.seen c.take_in.ensures.grew.before u.seen _ u.name u.mine r n legal c.take_in.ensures.grew.sees.run.1.legal
    (record { begins = c.begin.ensures.sees.seen; own = own; whole = c.begin.ensures.sees.own }) hand c.take_in.ensures.grew.now (ap (λ (o : Owed). took o.pending) c.requires.carrier.owes) in
    subst (λ (h : Option Item). Dues u.seen u.name u.mine (ended 0 h)) (sym hand) (passed_on u.seen u.mine r n due, needs)

pub returns-clause-knows : goal.returns-clause-knows
returns-clause-knows g c =
    begins_trans _ _ _ c.take_in.ensures.grew.sees.seen (begins_trans _ _ _ c.begin.ensures.sees.seen c.ran.ensures.sees.seen)
