use Rattle.std.proofs.Common.{rules, ◌≡◌, ◌+◌, [], ◌∷◌, ◌++◌, Some, take, sym, subst}
use Rattle.app_core.specs.declared.outline.CommandKind.TheVariants.{Work, Fence}
use Rattle.app_core.specs.Commands.{kind_of}
use Rattle.crew.specs.Results.{AreRightValues}
use Rattle.crew.proofs.ResultLemmas.{work_adds_a_value, fence_adds_no_value}
use Rattle.crew.proofs.results.add_value.Goals as goal

pub returns-then-eq : goal.returns-then-eq
returns-then-eq g c =
    let fence : kind_of (g.A.Facts.kinds_of c.args.app.now) (c.args.before + 1) ≡ Some Fence = search rules in
    fence_adds_no_value (g.A.App.right_value c.args.app.now) (g.A.App.result_of c.args.app.now) (g.A.Facts.kinds_of c.args.app.now) c.args.before c.args.values.now.items fence c.requires.values

pub returns : goal.returns
returns g c =
    let work : kind_of (g.A.Facts.kinds_of c.args.app.now) (c.args.before + 1) ≡ Some Work = search rules in
    let is : c.push.new.self.items ≡ c.args.values.now.items ++ c.in_ok-value.value ∷ [] = search rules in
    subst (AreRightValues (g.A.App.right_value c.args.app.now) (g.A.App.result_of c.args.app.now) (take (c.args.before + 1) (g.A.Facts.kinds_of c.args.app.now))) (sym is)
    (work_adds_a_value (g.A.App.right_value c.args.app.now) (g.A.App.result_of c.args.app.now) (g.A.Facts.kinds_of c.args.app.now) c.args.before c.args.values.now.items c.in_ok-value.value work c.in_ok-value.ensures c.requires.values)
