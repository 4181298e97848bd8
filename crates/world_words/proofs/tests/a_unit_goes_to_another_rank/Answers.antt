use Rattle.std.proofs.Common.{◌≡◌, ◌<◌, ◌≤◌, false, List, [], ◌∷◌, sym, ap, subst, ◌∙◌, arith}
use Rattle.std.specs.Prelude.{Contains}
use Rattle.event_lists.specs.declared.lane.LaneName.{LaneName}
use Rattle.world_rule.specs.declared.view.OwnPart.{OwnPart}
use Rattle.world_rule.specs.Views.{empty_part, without}
use Rattle.world_rule.proofs.LaneNameLemmas.{root_has}
use Rattle.world_rule.proofs.NewLaneLemmas.{stay_in}
use Rattle.world_words.specs.Lanes.{RootView}
use Rattle.world_words.proofs.tests.a_unit_goes_to_another_rank.Goals as goal

abbrev first : LaneName
first = record { rank = 0; bin = false; number = 0 }

abbrev second : LaneName
second = record { rank = 1; bin = false; number = 0 }

pub lane-one-requires-clause-has : goal.lane-one-requires-clause-has
lane-one-requires-clause-has g c =
    subst (λ (ps : List OwnPart). Contains ps (empty_part first)) (sym c.in_ok-words.ensures.lanes.1) (root_has 2 0 first (omega arith, omega arith))

pub lane-two-requires-clause-has : goal.lane-two-requires-clause-has
lane-two-requires-clause-has g c =
    let had = subst (λ (ps : List OwnPart). Contains ps (empty_part second)) (sym c.in_ok-words.ensures.lanes.1) (root_has 2 0 second (omega arith, omega arith)) in
    subst (λ (r : RootView). Contains r.parts (empty_part second)) (sym c.lane-one.ensures.root)
    (stay_in first c.in_ok-words.root.parts (empty_part second) had (λ e. let z : 1 ≡ 0 = ap (λ (l : LaneName). l.rank) e in omega arith))
