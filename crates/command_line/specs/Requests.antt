-- What the words of a command line ask for.
use Rattle.std.specs.Prelude.{ℕ, ◌≤◌, Bool, ◌&&◌, List, [], ◌∷◌, Option, Some, None, is_some, codes, option_and_then, ⊤, if◌then◌else◌}
use Rattle.std.specs.Option.{option_map}
use Rattle.std.specs.Str.{bytes_eq}
use Rattle.command_line.specs.Settings.{Word, Form, Setting, read_settings, value_of, has}
use Rattle.command_line.specs.Values.{ranks_of, workers_of, map_of, number_of, max_ranks, max_workers}
use Rattle.command_line.specs.declared.request.Request.{Request}
use Rattle.command_line.specs.declared.request.Request.TheVariants.{Run, Serial, Check, BigJob}

-- `run [--ranks N] [--workers N] [--map M]`
abbrev pub run_form : Form
run_form = record { options = codes "ranks" ∷ codes "workers" ∷ codes "map" ∷ []; flags = []; word = None }

abbrev pub run_request : List Setting → Option Request
run_request settings =
    option_and_then (λ ranks. option_and_then (λ workers. option_map (Run ranks workers)
    (map_of (value_of run_form (codes "map") settings)))
    (workers_of (value_of run_form (codes "workers") settings))) (ranks_of (value_of run_form (codes "ranks") settings))

-- `serial [--ranks N] [--map M] [--receipts]`
abbrev pub serial_form : Form
serial_form = record { options = codes "ranks" ∷ codes "map" ∷ []; flags = codes "receipts" ∷ []; word = None }

abbrev pub serial_request : List Setting → Option Request
serial_request settings =
    option_and_then (λ ranks. option_map (λ map. Serial ranks map (has serial_form (codes "receipts") settings))
    (map_of (value_of serial_form (codes "map") settings))) (ranks_of (value_of serial_form (codes "ranks") settings))

-- `big N [--ranks N] [--workers N] [--map M] [--receipts] --job`
abbrev pub big_form : Form
big_form = record {
  options = codes "ranks" ∷ codes "workers" ∷ codes "map" ∷ [];
  flags = codes "receipts" ∷ codes "job" ∷ [];
  word = Some (codes "number");
}

-- the options of a run have values; the text of a job doesn't depend on them
abbrev pub has_run_values : List Setting → Bool
has_run_values settings =
    is_some (ranks_of (value_of big_form (codes "ranks") settings))
    && is_some (workers_of (value_of big_form (codes "workers") settings))
    && is_some (map_of (value_of big_form (codes "map") settings))

abbrev pub big_request : List Setting → Option Request
big_request settings =
    if has big_form (codes "job") settings && has_run_values settings then option_map BigJob (number_of (value_of big_form (codes "number") settings)) else None

-- a command that takes nothing
abbrev pub alone : Request → List Word → Option Request
alone request [] = Some request
alone request (word ∷ rest) = None

-- the request of a command, which the first word names
abbrev pub command_request : Word → List Word → Option Request
command_request command rest =
    if bytes_eq command (codes "run") then option_and_then run_request (read_settings run_form rest)
    else if bytes_eq command (codes "serial") then option_and_then serial_request (read_settings serial_form rest)
    else if bytes_eq command (codes "check") then alone Check rest
    else if bytes_eq command (codes "big") then option_and_then big_request (read_settings big_form rest)
    else None

-- what the words after the program's name ask for; words that are in no form ask for nothing
abbrev pub request_of : List Word → Option Request
request_of [] = None
request_of (command ∷ rest) = command_request command rest

-- a request has 1 to 16 ranks, where it has ranks
abbrev pub HasRanks : Request → Type 0
HasRanks (Run ranks workers map) = (1 ≤ ranks) × (ranks ≤ max_ranks)
HasRanks (Serial ranks map receipts) = (1 ≤ ranks) × (ranks ≤ max_ranks)
HasRanks Check = ⊤
HasRanks (BigJob number) = ⊤

-- and at most 4 workers of each rank, where it has workers
abbrev pub HasWorkers : Request → Type 0
HasWorkers (Run ranks workers map) = workers ≤ max_workers
HasWorkers (Serial ranks map receipts) = ⊤
HasWorkers Check = ⊤
HasWorkers (BigJob number) = ⊤
