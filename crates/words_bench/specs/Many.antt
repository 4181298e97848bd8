-- An application whose only commands start many units at each of ranks 1 to 4.
use Rattle.std.specs.Prelude.{◌≡◌, ℕ, zero, suc, ◌+◌, ◌*◌, ◌<◌, ◌≤◌, None, List, [], ◌∷◌, length, All, Contains}
use Rattle.app_core.specs.declared.label.Label.{Label}
use Rattle.app_core.specs.declared.outline.CommandKind.{CommandKind}
use Rattle.app_core.specs.declared.outline.CommandKind.TheVariants.{Work}
use Rattle.app_core.specs.declared.outline.Outline.{Outline}
use Rattle.app_core.specs.declared.outline.Outline.TheVariants.{Spawn}
use Rattle.event_lists.specs.Events.{main_of}
use Rattle.event_laws.specs.Follows.{Doing, program_from}
use Rattle.world_rule.specs.declared.view.OwnPart.{OwnPart}
use Rattle.world_rule.specs.Views.{empty_part}
use Rattle.world_words.specs.Lanes.{WordsView, LaneView, CarrierView}
use Rattle.words_tests.specs.Turns.{IsOutside, IsInside, BringsUnit}

abbrev pub kinds : List CommandKind
kinds = Work ∷ Work ∷ Work ∷ Work ∷ []

-- the label of each unit
abbrev pub unit : Label
unit = record { command = 1; part = 0; place = 0 }

-- a unit is started at this rank
abbrev pub start_at : ℕ → Outline
start_at rank = Spawn unit None [] rank

-- so many times the same start
abbrev pub repeated : ℕ → Outline → List Outline
repeated zero o = []
repeated (suc n) o = o ∷ repeated n o

-- command c starts so many units at rank c
abbrev pub starts : ℕ → ℕ → List Outline
starts n c = repeated n (start_at c)

-- what rank 0's main does
abbrev pub program : ℕ → List Doing
program n = program_from 1 kinds (starts n)

-- the lanes of the mains from this rank on are there
abbrev pub HasMains : ℕ → List OwnPart → Type 0
HasMains rank parts = (r : ℕ) → rank ≤ r → r < 5 → Contains parts (empty_part (main_of r))

-- a main's lane before any event, with room for so many
pub record IsNewMain {A : Type 0} (words : WordsView A) (rank room : ℕ) (v : LaneView) : Type 0 where
  pub outside : IsOutside words 0 v
  pub new : v.mine ≡ []
  pub rank_is : v.name.rank ≡ rank
  pub spare : room ≤ v.spare

-- a main in its first fence, with room for what it does with such messages
pub record MayServe {A : Type 0} (words : WordsView A) (v : LaneView) (cs : List CarrierView) : Type 0 where
  pub inside : IsInside words 1 1 v
  pub room : 3 * length cs ≤ v.spare
  pub brings : All (BringsUnit words v.name.rank unit) cs

-- the messages are so many, and each brings the unit to this rank
abbrev pub AreMessages : {A : Type 0} → WordsView A → ℕ → ℕ → List CarrierView → Type 0
AreMessages words rank n cs = (length cs ≡ n) × All (BringsUnit words rank unit) cs
