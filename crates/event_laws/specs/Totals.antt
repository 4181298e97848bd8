-- How many messages and tasks the units of an application make.
use Rattle.std.specs.Prelude.{ℕ, zero, suc, ◌+◌, Bool, false, not, ◌==◌, if◌then◌else◌, List, [], ◌∷◌, length}
use Rattle.app_core.specs.declared.label.Label.{Label}
use Rattle.app_core.specs.declared.outline.Outline.{Outline}
use Rattle.app_core.specs.declared.outline.Outline.TheVariants as of
use Rattle.event_laws.specs.Follows.{Doing, Start, Wait}

-- whether an effect at a rank sends a message: the unit or the future that it is for is at another rank
abbrev pub is_away : ℕ → Outline → Bool
is_away r (of.Spawn u d ns h) = not (h == r)
is_away r (of.Give f h) = not (h == r)
is_away r (of.Put c) = false
is_away r (of.Erase c) = false

-- how many of these effects at a rank send
abbrev pub sends_of : ℕ → List Outline → ℕ
sends_of r [] = 0
sends_of r (o ∷ os) = (if is_away r o then 1 else 0) + sends_of r os

-- how many effects of these units do
abbrev pub unit_sends : (Label → List Outline) → (Label → ℕ) → List Label → ℕ
unit_sends plan home [] = 0
unit_sends plan home (u ∷ us) = sends_of (home u) (plan u) + unit_sends plan home us

-- and how many starts before the fence of a number
abbrev pub start_sends : ℕ → List Doing → ℕ
start_sends zero ds = 0
start_sends (suc e) [] = 0
start_sends (suc e) (Start o ∷ ds) = (if is_away 0 o then 1 else 0) + start_sends (suc e) ds
start_sends (suc e) (Wait ∷ ds) = start_sends e ds

-- the messages and the tasks before the fence, where these are the units
abbrev pub totals_of : ℕ → List Doing → (Label → List Outline) → (Label → ℕ) → List Label → ℕ × ℕ
totals_of fence program plan home us = (start_sends fence program + unit_sends plan home us, length us)
