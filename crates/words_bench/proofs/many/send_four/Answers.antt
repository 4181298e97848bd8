use Rattle.std.proofs.Common.{◌≡◌, ℕ, ap, ◌∙◌, arith}
use Rattle.event_lists.specs.declared.lane.LaneName.{LaneName}
use Rattle.event_laws.specs.Follows.{deeds}
use Rattle.words_bench.proofs.ManyLemmas.{next_one, next_two, next_three, next_four}
use Rattle.words_bench.proofs.many.send_four.Goals as goal

pub send_all-requires-clause-next : goal.send_all-requires-clause-next
send_all-requires-clause-next g c = λ k lt.
    next_one c.args.count _ _ k _ c.requires.new.rank_is c.requires.program (ap deeds c.requires.new.new) lt

pub send_all-requires-2-clause-next : goal.send_all-requires-2-clause-next
send_all-requires-2-clause-next g c = λ k lt.
    let rank = ap (λ (l : LaneName). l.rank) c.in_ok-one.ensures.same.0 ∙ c.requires.new.rank_is in
    let none = ap deeds c.requires.new.new in
    let one = c.in_ok-one.ensures.done in
    next_two c.args.count _ _ k _ rank c.requires.program (omega (arith, none, one)) lt

pub send_all-requires-3-clause-next : goal.send_all-requires-3-clause-next
send_all-requires-3-clause-next g c = λ k lt.
    let rank = ap (λ (l : LaneName). l.rank) (c.in_ok-two.ensures.same.0 ∙ c.in_ok-one.ensures.same.0) ∙ c.requires.new.rank_is in
    let none = ap deeds c.requires.new.new in
    let one = c.in_ok-one.ensures.done in
    let two = c.in_ok-two.ensures.done in
    next_three c.args.count _ _ k _ rank c.requires.program (omega (arith, none, one, two)) lt

pub send_all-requires-4-clause-next : goal.send_all-requires-4-clause-next
send_all-requires-4-clause-next g c = λ k lt.
    let rank = ap (λ (l : LaneName). l.rank) (c.in_ok-three.ensures.same.0 ∙ c.in_ok-two.ensures.same.0 ∙ c.in_ok-one.ensures.same.0) ∙ c.requires.new.rank_is in
    let none = ap deeds c.requires.new.new in
    let one = c.in_ok-one.ensures.done in
    let two = c.in_ok-two.ensures.done in
    let three = c.in_ok-three.ensures.done in
    next_four c.args.count _ _ k _ rank c.requires.program (omega (arith, none, one, two, three)) lt
