use Rattle.app_core.specs.Outlines.{outlines}
use Rattle.app_core.proofs.SpawnLemmas.{step_is_apart}
use Rattle.app_core.proofs.laws.spawns_of_a_step_are_apart.Goals as goal

pub returns : goal.returns
returns g c = λ app unit given is fits.
    let laws = g.met.A.App g.world.𝓛 g.world.𝓜 g.world.𝓡 ((λ s x. x), (λ x. x), (λ x. x), λ x. x) in
    step_is_apart (g.A.App.due_of app unit)
    (outlines (g.A.App.label_of app) (g.A.App.due_of app) (g.A.App.home_of app) (g.A.App.kept_at app) (g.A.Facts.ranks_of app) (g.A.App.step_of app unit given))
    (laws.due_is_needed_never app unit given is fits)
    (λ l names other. laws.spawns_have_a_due_once app unit given l is fits names other)
    (λ l names other. laws.spawns_need_others_once app unit given l is fits names other)
    (laws.due_is_seen_to_once app unit given is fits)
