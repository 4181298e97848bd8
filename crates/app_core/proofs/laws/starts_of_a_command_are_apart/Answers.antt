use Rattle.app_core.specs.Outlines.{outlines}
use Rattle.app_core.proofs.SpawnLemmas.{starts_are_apart}
use Rattle.app_core.proofs.laws.starts_of_a_command_are_apart.Goals as goal

pub returns : goal.returns
returns g c = λ app command ranks is count.
    let laws = g.met.A.App g.world.𝓛 g.world.𝓜 g.world.𝓡 ((λ s x. x), (λ x. x), (λ x. x), λ x. x) in
    starts_are_apart (g.A.App.result_of app command)
    (outlines (g.A.App.label_of app) (g.A.App.due_of app) (g.A.App.home_of app) (g.A.App.kept_at app) ranks (g.A.App.starting_of app command ranks))
    (laws.starts_never_need_the_result app command ranks is count)
    (λ l names _. laws.starts_have_a_due_once app command ranks l is count names)
    (λ l names other. laws.starts_need_others_once app command ranks l is count names other)
    (λ l names. laws.starts_have_a_due_once app command ranks l is count names)
