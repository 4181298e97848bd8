use Rattle.std.proofs.Common.{◌≡◌, suc, [], sym, ap, subst, ◌∙◌}
use Rattle.std.specs.Prelude.{Some, None, slice_get}
use Rattle.std.proofs.lemmas.Bool.{both_ways}
use Rattle.app_core.specs.declared.outline.Outline.TheVariants as of
use Rattle.event_lists.specs.declared.event.Event.TheVariants.{Submitted}
use Rattle.event_lists.specs.Events.{in_hand}
use Rattle.event_lists.proofs.ListLemmas.{on_begins}
use Rattle.event_laws.specs.Follows.{is_own}
use Rattle.world_rule.specs.Views.{progress_after}
use Rattle.world_words.specs.Lanes.{task_name}
use Rattle.store_tests.specs.Turns.{IsAt}
use Rattle.store_tests.proofs.CarryingLemmas.{respared, same_place, spawn_is_next, knows_more, quiet_still}
use Rattle.store_tests.proofs.carrying.spawn_next.Goals as goal

pub submitted-requires-clause-next : goal.submitted-requires-clause-next
submitted-requires-clause-next g c =
    let w = c.args.words.now in
    let given = c.requires.hand in
    let v = c.reserve.new.lane in
    spawn_is_next w given.0 given.1 v c.args.unit (respared w given.0 given.1 _ c.args.hand.now v c.in_ok-reserve.ensures.room given.2) given.3

pub returns-clause-hand : goal.returns-clause-hand
returns-clause-hand g c os at k =
    let w = c.args.words.now in
    let given = c.requires.hand in
    let v = c.reserve.new.lane in
    let u = c.submitted.new.lane in
    let n = c.submitted.result in
    let s = c.submitted.ensures in
    let o = of.Spawn c.args.unit None [] 0 in
    let old = respared w os at _ c.args.hand.now v c.in_ok-reserve.ensures.room k in
    let here : slice_get os at ≡ Some o = same_place w os given.0 at given.1 c.args.hand.now o k given.2 given.3 in
    subst (IsAt w os (suc at)) (sym c.pack.ensures.lane) (record {
      number = old.number;
      table = s.same.0 ∙ old.table;
      owes = λ i. None;
      kept = s.kept ∙ old.kept;
      name = s.same.1 ∙ old.name;
      hand = ap in_hand s.event ∙ old.hand;
      far = s.progress ∙ ap (progress_after (Submitted n (task_name c.args.unit [] None))) old.far;
      knows = knows_more w old.number at os v.seen u.seen s.sees.seen old.knows (λ p e own.
          let same : Some p ≡ Some o = sym e ∙ here in
          let is : p ≡ o = cc in
          absurd (both_ways (is_own p) own (ap is_own is)));
      quiet = quiet_still n c.args.unit v.mine u.mine s.event old.quiet;
      unit = old.unit;
      submitted = (old.submitted.0, old.submitted.1, on_begins old.submitted.0 (Submitted old.number (task_name old.unit [] None)) v.seen u.seen s.sees.seen old.submitted.2);
      legal = s.sees.run.1.legal;
      own = s.sees.own;
    })
