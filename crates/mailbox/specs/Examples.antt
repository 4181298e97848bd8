-- An application of numbers, for the examples: its units are those below 5, all but 0 have a due, 4 needs a future, and the
-- right value of a future is its place.
use Rattle.std.specs.Prelude.{◌≡◌, ℕ, ◌<◌, ◌==◌, if◌then◌else◌, List, [], ◌∷◌, Option, Some, None}
use Rattle.app_core.specs.declared.label.Label.{Label}
use Rattle.event_lists.specs.declared.future.Bringer.{Bringer}
use Rattle.event_lists.specs.declared.future.Bringer.TheVariants.{Main}
use Rattle.mailbox.specs.declared.load.Load.{Load}
use Rattle.mailbox.specs.Loads.{IsRightLoad}

abbrev pub third : Label
third = record { command = 1; part = 0; place = 3 }

abbrev pub due_of : ℕ → Option Label
due_of u = if u == 0 then None else Some third

abbrev pub needs_of : ℕ → List Label
needs_of u = if u == 4 then third ∷ [] else []

abbrev pub main : Bringer
main = Main 0

abbrev pub IsRight : Load ℕ ℕ → Type 0
IsRight load = IsRightLoad (λ u. u < 5) due_of needs_of (λ l v. v ≡ l.place) load
