use Rattle.std.proofs.Common.{ℕ, ap, subst, arith}
use Rattle.fence_tree.specs.Turns.{StateView, Turned}
use Rattle.fence_tree.proofs.TurnLemmas.{few_answered, turned_both}
use Rattle.fence_tree.proofs.StageLemmas.{turned_seen}
use Rattle.fence_tree.proofs.state.FenceState.reach.Goals as goal

pub gather_first-requires-clause-room : goal.gather_first-requires-clause-room
gather_first-requires-clause-room g c =
    let a = c.args in
    let few = few_answered a.words.now a.self.now a.lane.now c.requires.turning c.requires.room.1 in
    let same = ap (λ (s : StateView). s.answered) c.read.ensures.state in
    let left = c.read.ensures.few in
    let room = c.requires.room.0 in
    (omega (arith, left, room), omega (arith, few, same))

pub gather_first-requires-in-FirstChild-clause-room : goal.gather_first-requires-in-FirstChild-clause-room
gather_first-requires-in-FirstChild-clause-room g c =
    let a = c.args in
    let few = few_answered a.words.now a.self.now a.lane.now c.requires.turning c.requires.room.1 in
    let room = c.requires.room.0 in
    (omega (arith, room), few)

pub gather_second-requires-clause-room : goal.gather_second-requires-clause-room
gather_second-requires-clause-room g c =
    let a = c.args in
    let few = few_answered a.words.now a.self.now a.lane.now c.requires.turning c.requires.room.1 in
    let room = c.requires.room.0 in
    (omega (arith, room), few)

pub hear-requires-clause-few : goal.hear-requires-clause-few
hear-requires-clause-few g c =
    let a = c.args in
    few_answered a.words.now a.self.now a.lane.now c.requires.turning c.requires.room.1

pub returns-in_ok-read-in-Reading-clause-turned : goal.returns-in_ok-read-in-Reading-clause-turned
returns-in_ok-read-in-Reading-clause-turned g c =
    let a = c.args in
    let fence = ap (λ (s : StateView). s.fence) c.read.ensures.state in
    turned_both a.self.now.fence a.lane.now c.read.new.lane c.gather_first.new.lane c.read.ensures.turned
    (subst (λ (f : ℕ). Turned f c.read.new.lane c.gather_first.new.lane) fence c.gather_first.ensures.turned)

pub returns-in-Reported-clause-turned : goal.returns-in-Reported-clause-turned
returns-in-Reported-clause-turned g c =
    let a = c.args in turned_seen a.self.now.fence a.lane.now c.hear.new.lane c.hear.ensures.lane c.hear.ensures.knew
