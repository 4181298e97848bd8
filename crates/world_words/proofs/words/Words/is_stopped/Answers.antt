use Rattle.std.proofs.Common.{refl, sym}
use Rattle.std.specs.Prelude.{◌==◌}
use Rattle.world_rule.specs.Views.{after_stop_look}
use Rattle.world_rule.proofs.LookLemmas.{finds_stop}
use Rattle.world_words.proofs.LaneSeatLemmas.{sees_more, looked_seat}
use Rattle.world_words.proofs.words.Words.is_stopped.Goals as goal

pub is_stopped_as-requires-clause-step : goal.is_stopped_as-requires-clause-step
is_stopped_as-requires-clause-step g c =
    let i = c.lane.inside in
    let is = sym c.lane.view_is in
    let seat = c.lane.invariant in
    let a = c.args in
    let may = g.A.Facts.may_do a.self.now.app in
    finds_stop a.self.now.ranks a.self.now.workers a.self.now.program may _ _ i.seat.me

pub invariant_of-lane : goal.invariant_of-lane
invariant_of-lane g c =
    let i = c.lane.inside in
    let is = sym c.lane.view_is in
    let seat = c.lane.invariant in
    let a = c.args in
    let may = g.A.Facts.may_do a.self.now.app in
    let s = c.is_stopped_as.ensures in
    looked_seat a.self.now may i.name i.own i.seat.table_id c.is_stopped_as.new.seat.table_id i.hand i.owes i.seat.me c.is_stopped_as.new.seat.me (after_stop_look (c.is_stopped_as.result == 1) i.seat.me.0) seat s.0 s.1.3 refl refl s.1.0

pub returns-clause-sees : goal.returns-clause-sees
returns-clause-sees g c =
    let i = c.lane.inside in
    let is = sym c.lane.view_is in
    let seat = c.lane.invariant in
    let a = c.args in
    let may = g.A.Facts.may_do a.self.now.app in
    let s = c.is_stopped_as.ensures in
    sees_more a.self.now may i.name i.own i.seat.table_id c.is_stopped_as.new.seat.table_id i.hand i.owes i.seat.me c.is_stopped_as.new.seat.me (after_stop_look (c.is_stopped_as.result == 1) i.seat.me.0) a.lane.now seat refl c.lane.view_is s.1.0
