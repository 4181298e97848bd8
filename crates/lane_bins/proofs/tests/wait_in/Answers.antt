use Rattle.std.proofs.Common.{◌≡◌, sym, ◌∙◌, ap, rules}
use Rattle.small_app.specs.declared.unit.Unit.TheVariants.{Read}
use Rattle.small_app.specs.Small as small
use Rattle.lane_bins.proofs.tests.wait_in.Goals as goal

pub find_or_wait-requires-clause-read : goal.find_or_wait-requires-clause-read
find_or_wait-requires-clause-read g c κs within =
    let rank : c.reserve.new.self.lane.name.rank ≡ 0 =
    ap (λ l. l.name.rank) c.in_ok-reserve.ensures.room ∙ ap (λ b. b.lane.name.rank) c.bin-bin.ensures.bin ∙ ap (λ n. n.rank) c.access-access.ensures.bin ∙ c.requires.rank in
    rw c.requires.named.0 (Read, tt, search rules, ap (λ ranks. small.home_of Read ranks) c.requires.one ∙ sym rank)
