use Rattle.std.proofs.Common.{List, sym, ap, subst}
use Rattle.std.specs.Prelude.{Contains}
use Rattle.world_rule.specs.declared.view.OwnPart.{OwnPart}
use Rattle.world_rule.specs.Views.{empty_part}
use Rattle.world_rule.specs.Steps.{M}
use Rattle.world_rule.proofs.NewLaneLemmas.{stay_in}
use Rattle.world_words.specs.Lanes.{RootView}
use Rattle.world_words.proofs.words.Words.lane.Goals as goal

pub returns-clause-others : goal.returns-clause-others
returns-clause-others g c = λ l apart has.
    subst (λ (ps : List OwnPart). Contains ps (empty_part l)) (sym (ap (λ (m : M). m.0.parts) c.split_lane-seat.ensures.old.1))
    (stay_in c.args.name c.root.inside.seat.me.0.parts (empty_part l) (subst (λ (r : RootView). Contains r.parts (empty_part l)) (sym c.root.view_is) has) apart)
