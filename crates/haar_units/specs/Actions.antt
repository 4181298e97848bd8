-- What the units of a command may do, whatever they read and are given: also after a command that overflowed.
use Rattle.std.specs.Prelude.{◌≡◌, ℕ, ◌+◌, ◌*◌, ◌≤◌, Bool, true, false, ◌||◌, if◌then◌else◌, List, [], ◌∷◌, Some, None}
use Rattle.app_core.specs.declared.label.Label.{Label}
use Rattle.app_core.specs.declared.outline.Outline.{Outline}
use Rattle.app_core.specs.declared.outline.Outline.TheVariants as of
use Rattle.haar_units.specs.Jobs.{Operation, DistributedJob, operation_at, is_on_trees, is_size, is_coarsen, puts_down, puts_up}
use Rattle.haar_units.specs.Units.{up_unit, erase_unit, key_future, count_future, entry, future_home}
use Rattle.haar_units.specs.Starts.{spawn_down}

-- what a unit does: a down unit gives its due at once (`Stop`), or spawns the down units of both children and an up unit that
-- takes over the due (`Descend`); an up unit gives the due (`Combine`), and one of `coarsen` may spawn erase units for both
-- children before (`Merge`)
pub data Action : Type 0 where
  Stop : Action
  Descend : Action
  Combine : Action
  Merge : Action
  Erase : Action
  Count : Action
  Sum : Action

-- the part of the unit's label
abbrev pub part_of : Action → ℕ
part_of Stop = 0
part_of Descend = 0
part_of Combine = 1
part_of Merge = 1
part_of Erase = 2
part_of Count = 3
part_of Sum = 4

-- whether units of a command with this operation may do it
abbrev pub fits : Operation → Action → Bool
fits operation Stop = is_on_trees operation
fits operation Descend = is_on_trees operation
fits operation Combine = is_on_trees operation
fits operation Merge = is_coarsen operation
fits operation Erase = is_coarsen operation
fits operation Count = is_size operation
fits operation Sum = is_size operation

-- whether the first effect puts the entry of the unit's key; a unit that puts and gives `Bad` stops or combines
abbrev pub puts_first : Operation → Action → Bool
puts_first operation Stop = puts_down operation || puts_up operation
puts_first operation Descend = puts_down operation
puts_first operation Combine = puts_up operation
puts_first operation Merge = true
puts_first operation Erase = false
puts_first operation Count = false
puts_first operation Sum = false

-- the outlines after the put
abbrev pub rest_of : DistributedJob → Action → ℕ → ℕ → List Outline
rest_of job Stop command place = of.Give (key_future command place) (future_home job (key_future command place)) ∷ []
rest_of job Descend command place =
    spawn_down job command (2 * place) ∷ spawn_down job command (2 * place + 1)
    ∷ of.Spawn (up_unit command place) (Some (key_future command place)) (key_future command (2 * place) ∷ key_future command (2 * place + 1) ∷ []) (job.owner place) ∷ []
rest_of job Combine command place = of.Give (key_future command place) (future_home job (key_future command place)) ∷ []
rest_of job Merge command place =
    of.Spawn (erase_unit command (2 * place)) None [] (job.owner (2 * place)) ∷ of.Spawn (erase_unit command (2 * place + 1)) None [] (job.owner (2 * place + 1))
    ∷ of.Give (key_future command place) (future_home job (key_future command place)) ∷ []
rest_of job Erase command place = of.Erase (entry command place) ∷ []
rest_of job Count command place = of.Give (count_future command place) 0 ∷ []
rest_of job Sum command place = of.Give (key_future command 1) 0 ∷ []

abbrev pub outlines_of : DistributedJob → Operation → Action → ℕ → ℕ → List Outline
outlines_of job operation action command place =
    if puts_first operation action then of.Put (entry command place) ∷ rest_of job action command place else rest_of job action command place

-- a unit with this label may have effects with these outlines
pub record Allowed (job : DistributedJob) (p : Label) (os : List Outline) : Type 0 where
  pub operation : Operation
  pub at : operation_at job p.command ≡ Some operation
  pub action : Action
  pub fit : fits operation action ≡ true
  pub part : p.part ≡ part_of action
  pub key : p.part ≤ 2 → 1 ≤ p.place
  pub lists : os ≡ outlines_of job operation action p.command p.place
