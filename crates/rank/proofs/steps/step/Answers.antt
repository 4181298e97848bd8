use Rattle.std.proofs.Common.{◌≡◌, length}
use Rattle.std.proofs.lemmas.Result.{IfOk-weaker}
use Rattle.std.specs.List.{AllByRecursion}
use Rattle.app_core.specs.Effects.{IsSpawnedWithNeeds}
use Rattle.app_core.proofs.InputLemmas.{length_right}
use Rattle.rank.proofs.steps.step.Goals as goal

pub step-requires-clause-values : goal.step-requires-clause-values
step-requires-clause-values g c = rw c.new.ensures (length_right (g.A.App.right_value c.args.app.now) (g.A.App.needs_of c.args.app.now c.args.opened.unit) c.args.opened.values.items c.requires.values)

pub step-requires-clause-cells : goal.step-requires-clause-cells
step-requires-clause-cells g c = rw c.new.ensures (length_right (g.A.App.right_cell c.args.app.now) (g.A.App.reads_of c.args.app.now c.args.opened.unit) c.args.opened.cells.items c.requires.cells)

pub returns-clause-needs : goal.returns-clause-needs
returns-clause-needs g c =
    let laws = g.met.A.App g.world.𝓛 g.world.𝓜 g.world.𝓡 ((λ s x. x), (λ x. x), (λ x. x), λ x. x) in
    let values : length c.new.result.values ≡ length (g.A.App.needs_of c.args.app.now c.args.opened.unit) =
    rw c.new.ensures (length_right (g.A.App.right_value c.args.app.now) (g.A.App.needs_of c.args.app.now c.args.opened.unit) c.args.opened.values.items c.requires.values) in
    let cells : length c.new.result.cells ≡ length (g.A.App.reads_of c.args.app.now c.args.opened.unit) =
    rw c.new.ensures (length_right (g.A.App.right_cell c.args.app.now) (g.A.App.reads_of c.args.app.now c.args.opened.unit) c.args.opened.cells.items c.requires.cells) in
    IfOk-weaker c.step.result (λ e. e ≡ g.A.App.step_of c.args.app.now c.args.opened.unit c.new.result) (λ e. AllByRecursion (IsSpawnedWithNeeds (g.A.App.needs_of c.args.app.now)) e)
    (λ e is. rw is (laws.spawns_have_their_needs c.args.app.now c.args.opened.unit c.new.result c.requires.unit (record { values = values; cells = cells })))
    c.step.ensures
