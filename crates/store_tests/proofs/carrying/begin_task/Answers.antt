use Rattle.std.proofs.Common.{◌≡◌, List, [], ◌∷◌, ap, ◌∙◌, arith}
use Rattle.std.specs.Prelude.{Some, None}
use Rattle.app_core.specs.Outlines.{outlines}
use Rattle.event_lists.specs.declared.event.Event.{Event}
use Rattle.event_lists.specs.declared.event.Event.TheVariants.{TookTask, Submitted}
use Rattle.event_lists.specs.Events.{in_hand, Begins}
use Rattle.event_lists.specs.Futures.{bringer, is_bringer}
use Rattle.event_lists.specs.OwnEvents.{was_needed_on_lane}
use Rattle.event_lists.proofs.ListLemmas.{on_begins, begins_trans}
use Rattle.world_rule.specs.declared.view.Owed.{Owed}
use Rattle.world_rule.specs.Owing.{took, made_by}
use Rattle.world_rule.specs.Views.{begun}
use Rattle.world_words.specs.Lanes.{LaneView, task_name}
use Rattle.store_tests.proofs.CarryingLemmas.{and_false_or}
use Rattle.store_tests.proofs.carrying.begin_task.Goals as goal

pub begin-requires-clause-task : goal.begin-requires-clause-task
begin-requires-clause-task g c κs within =
    let a = c.args in
    let n = c.requires.carrier.number in
    let r = c.reserve.new.lane in
    let v = c.take_in.new.lane in
    let s = c.requires.carrier.submitted in
    let t = task_name a.unit [] None in
    let mine : v.mine ≡ TookTask 0 n ∷ r.mine = c.take_in.ensures.grew.event ∙ ap (λ (o : Owed). took o.pending ∷ r.mine) c.requires.carrier.owes in
    (0, n, t, ap in_hand mine, (s.0, s.1, on_begins s.0 (Submitted n t) a.carrier.seen v.seen c.take_in.ensures.learnt s.2), c.requires.may)

pub returns : goal.returns
returns g c =
    let a = c.args in
    let app = a.words.now.app in
    let os = outlines (g.A.App.label_of app) (g.A.App.due_of app) (g.A.App.home_of app) (g.A.App.kept_at app) a.words.now.ranks a.effects.now in
    let n = c.requires.carrier.number in
    let r = c.reserve.new.lane in
    let v = c.take_in.new.lane in
    let u = c.begin.new.lane in
    let s = c.requires.carrier.submitted in
    let t = task_name a.unit [] None in
    let grew = c.take_in.ensures.grew in
    let room = c.in_ok-reserve.ensures.room in
    let is = c.begin.ensures.lane in
    let old = c.requires.hand in
    let mine : v.mine ≡ TookTask 0 n ∷ r.mine = grew.event ∙ ap (λ (o : Owed). took o.pending ∷ r.mine) c.requires.carrier.owes in
    let whole : u.mine ≡ TookTask 0 n ∷ a.hand.now.mine = ap (λ (z : LaneView). z.mine) is ∙ mine ∙ ap (λ (z : LaneView). TookTask 0 n ∷ z.mine) room in
    let begins : Begins a.carrier.seen u.seen = begins_trans a.carrier.seen v.seen u.seen c.take_in.ensures.learnt c.begin.ensures.sees.seen in
    record {
      number = n;
      table = ap (λ (z : LaneView). z.table) is ∙ grew.same.0 ∙ ap (λ (z : LaneView). z.table) room ∙ old.free.table;
      owes = ap (λ (z : LaneView). z.owes) is ∙ grew.owing ∙ ap (λ (o : Owed). made_by r.name (took o.pending)) c.requires.carrier.owes;
      kept = ap (λ (z : LaneView). z.kept) is ∙ grew.kept ∙ ap (λ (z : LaneView). z.kept) room ∙ old.free.kept;
      name = ap (λ (z : LaneView). z.name) is ∙ grew.same.1 ∙ ap (λ (z : LaneView). z.name) room ∙ old.name;
      hand = ap in_hand whole;
      far = ap (λ (z : LaneView). z.progress) is ∙ ap (λ (es : List Event). Some (begun (in_hand es) os)) mine;
      knows = λ j p lt e own. absurd (omega (arith, lt));
      quiet = λ b d. ap (was_needed_on_lane 0 b d) whole ∙ and_false_or (is_bringer b (bringer 0 (in_hand a.hand.now.mine))) (was_needed_on_lane 0 b d a.hand.now.mine) (old.quiet b d);
      unit = a.unit;
      submitted = (s.0, s.1, on_begins s.0 (Submitted n t) a.carrier.seen u.seen begins s.2);
      legal = c.begin.ensures.sees.run.1.legal;
      own = c.begin.ensures.sees.own;
    }
