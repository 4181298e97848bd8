use Rattle.std.proofs.Common.{rules, sym, subst}
use Rattle.std.specs.Prelude.{Contains}
use Rattle.event_lists.specs.declared.lane.LaneName.{LaneName}
use Rattle.world_rule.specs.Views.{empty_part}
use Rattle.world_rule.proofs.NewLaneLemmas.{gives_lane}
use Rattle.world_words.proofs.words.Words.split_lane.Goals as goal

pub split_seat-requires : goal.split_seat-requires
split_seat-requires g c = (search rules, search rules, gives_lane _ _ _ _ _ _ _ (subst (λ (l : LaneName). Contains c.args.seat.now.me.0.parts (empty_part l)) (sym c.requires.name) c.requires.has))
