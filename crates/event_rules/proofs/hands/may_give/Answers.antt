use Rattle.std.proofs.Common.{rules}
use Rattle.event_rules.proofs.DueLemmas.{given_shown}
use Rattle.event_rules.proofs.hands.may_give.Goals as goal

pub returns-then-keeps_due : goal.returns-then-keeps_due
returns-then-keeps_due g c =
    let is = given_shown (g.P.Past.ranks_of c.args.past.now) (g.P.Past.log_of c.args.past.now) c.args.lane c.args.state.now c.requires.shown c.args.label in
    search rules

pub returns-then-state : goal.returns-then-state
returns-then-state g c =
    let is = given_shown (g.P.Past.ranks_of c.args.past.now) (g.P.Past.log_of c.args.past.now) c.args.lane c.args.state.now c.requires.shown c.args.label in
    search rules

pub returns-else-state : goal.returns-else-state
returns-else-state g c =
    let is = given_shown (g.P.Past.ranks_of c.args.past.now) (g.P.Past.log_of c.args.past.now) c.args.lane c.args.state.now c.requires.shown c.args.label in
    search rules
