-- How a list that follows grows.
use Rattle.std.specs.Prelude.{◌≡◌, ℕ, true, List, ◌∷◌, Some}
use Rattle.app_core.specs.declared.label.Label.{Label}
use Rattle.app_core.specs.declared.outline.Outline.{Outline}
use Rattle.event_lists.specs.declared.mark.Mark.{Mark}
use Rattle.event_lists.specs.Events.{part}
use Rattle.event_laws.specs.Follows.{TaskEffects, Doing, Follows, FollowsBy, Goes, carried_out}

-- the tasks that were begun by p have the same effects by q
abbrev pub Extends : TaskEffects → TaskEffects → Type 0
Extends p q = (r n : ℕ) (os : List Outline) → p r n ≡ Some os → q r n ≡ Some os

-- a list whose events go on by the effects of some tasks does so where more tasks were begun
abbrev pub MoreTasksMayBegin : Type 0
MoreTasksMayBegin = (program : List Doing) (p q : TaskEffects) (log : List Mark) → Extends p q → FollowsBy program p log → FollowsBy program q log

-- an event that goes on from a list that follows makes one that does
abbrev pub OneMoreFollows : (Label → List Outline → Type 0) → Type 0
OneMoreFollows may =
    (program : List Doing) (task_effects : TaskEffects) (log : List Mark) (x : Mark)
    → Goes program task_effects log x (part x.lane log) x.event → Follows program may task_effects log → Follows program may task_effects (x ∷ log)

-- an effect that was carried out is one of a begun task
abbrev pub CarriedIsBegun : Type 0
CarriedIsBegun =
    (program : List Doing) (task_effects : TaskEffects) (log : List Mark) (r n i : ℕ) → FollowsBy program task_effects log → carried_out r n i log ≡ true
    → (os : List Outline) × (task_effects r n ≡ Some os)
