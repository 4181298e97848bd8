-- A request with ranks has 1 to 16 of them, and one with workers has at most 4 for each rank.
use Rattle.std.proofs.Common.{◌≡◌, ℕ, ◌≤◌, Bool, true, false, cond, ◌&&◌, List, [], ◌∷◌, Option, Some, None, codes, refl, sym, subst, option_map, arith}
use Rattle.std.proofs.lemmas.Bool.{and_parts, leb-true}
use Rattle.std.specs.Option.{IfSome}
use Rattle.std.specs.Prelude.{nat_le, option_and_then}
use Rattle.std.specs.Str.{bytes_eq}
use Rattle.owner_map.specs.declared.map.OwnerMap.{OwnerMap}
use Rattle.command_line.specs.Requests.{HasRanks, HasWorkers, alone, big_form, big_request, command_request, has_run_values, run_form, run_request, serial_form, serial_request}
use Rattle.command_line.specs.Settings.{Word, Setting, has, read_settings, value_of}
use Rattle.command_line.specs.Values.{between, digits_of, map_of, max_ranks, max_workers, number_in, number_of, ranks_of, workers_of}
use Rattle.command_line.specs.declared.request.Request.{Request}
use Rattle.command_line.specs.declared.request.Request.TheVariants.{BigJob, Check, Run, Serial}

-- numbers within their limits

abbrev AreRanks : ℕ → Type 0
AreRanks n = (1 ≤ n) × (n ≤ max_ranks)

within : (n : ℕ) (b : Bool) → (nat_le 1 n && nat_le n max_ranks) ≡ b → IfSome (cond b (Some n) None) AreRanks
within n true e =
    let parts = and_parts _ _ e in
    (leb-true 1 n parts.0, leb-true n max_ranks parts.1)
within n false e = tt

some_within : (number : Option ℕ) → IfSome (option_and_then (between 1 max_ranks) number) AreRanks
some_within None = tt
some_within (Some n) = within n _ refl

told : (text : Option (List ℕ)) → IfSome (ranks_of text) AreRanks
told None = (omega arith, omega arith)
told (Some text) = some_within (digits_of text)

within_workers : (n : ℕ) (b : Bool) → (nat_le 0 n && nat_le n max_workers) ≡ b → IfSome (cond b (Some n) None) (λ w. w ≤ max_workers)
within_workers n true e = leb-true n max_workers (and_parts _ _ e).1
within_workers n false e = tt

few_within : (number : Option ℕ) → IfSome (option_and_then (between 0 max_workers) number) (λ w. w ≤ max_workers)
few_within None = tt
few_within (Some n) = within_workers n _ refl

few : (text : Option (List ℕ)) → IfSome (workers_of text) (λ w. w ≤ max_workers)
few None = omega arith
few (Some text) = few_within (digits_of text)

-- requests

abbrev IsInRange : Request → Type 0
IsInRange request = HasRanks request × HasWorkers request

run_of : (ranks workers : Option ℕ) → IfSome ranks AreRanks → IfSome workers (λ w. w ≤ max_workers) → (map : Option OwnerMap)
    → IfSome (option_and_then (λ r. option_and_then (λ w. option_map (Run r w) map) workers) ranks) IsInRange
run_of None workers are fit map = tt
run_of (Some r) None are fit map = tt
run_of (Some r) (Some w) are fit None = tt
run_of (Some r) (Some w) are fit (Some m) = (are, fit)

read_run : (settings : Option (List Setting)) → IfSome (option_and_then run_request settings) IsInRange
read_run None = tt
read_run (Some settings) =
    run_of (ranks_of (value_of run_form (codes "ranks") settings)) (workers_of (value_of run_form (codes "workers") settings))
    (told (value_of run_form (codes "ranks") settings)) (few (value_of run_form (codes "workers") settings))
    (map_of (value_of run_form (codes "map") settings))

serial_of : (ranks : Option ℕ) → IfSome ranks AreRanks → (map : Option OwnerMap) (receipts : Bool)
    → IfSome (option_and_then (λ r. option_map (λ m. Serial r m receipts) map) ranks) IsInRange
serial_of None are map receipts = tt
serial_of (Some r) are None receipts = tt
serial_of (Some r) are (Some m) receipts = (are, tt)

read_serial : (settings : Option (List Setting)) → IfSome (option_and_then serial_request settings) IsInRange
read_serial None = tt
read_serial (Some settings) =
    serial_of (ranks_of (value_of serial_form (codes "ranks") settings)) (told (value_of serial_form (codes "ranks") settings))
    (map_of (value_of serial_form (codes "map") settings)) (has serial_form (codes "receipts") settings)

big_of : (asked : Bool) (number : Option ℕ) → IfSome (cond asked (option_map BigJob number) None) IsInRange
big_of true None = tt
big_of true (Some n) = (tt, tt)
big_of false number = tt

read_big : (settings : Option (List Setting)) → IfSome (option_and_then big_request settings) IsInRange
read_big None = tt
read_big (Some settings) = big_of (has big_form (codes "job") settings && has_run_values settings) (number_of (value_of big_form (codes "number") settings))

alone_of : (request : Request) → IsInRange request → (words : List Word) → IfSome (alone request words) IsInRange
alone_of request have [] = have
alone_of request have (word ∷ words) = tt

one_of : (run serial check big : Bool) (words : List Word) →
    IfSome (cond run (option_and_then run_request (read_settings run_form words)) (cond serial (option_and_then serial_request (read_settings serial_form words))
    (cond check (alone Check words) (cond big (option_and_then big_request (read_settings big_form words)) None)))) IsInRange
one_of true serial check big words = read_run (read_settings run_form words)
one_of false true check big words = read_serial (read_settings serial_form words)
one_of false false true big words = alone_of Check (tt, tt) words
one_of false false false true words = read_big (read_settings big_form words)
one_of false false false false words = tt

-- whatever the words are
command_is_in_range : (command : Word) (words : List Word) → IfSome (command_request command words) IsInRange
command_is_in_range command words =
    one_of (bytes_eq command (codes "run")) (bytes_eq command (codes "serial")) (bytes_eq command (codes "check")) (bytes_eq command (codes "big")) words

only : (P : Request → Type 0) → ((request : Request) → IsInRange request → P request) → (o : Option Request) → IfSome o IsInRange → IfSome o P
only P part None is = tt
only P part (Some request) is = part request is

pub command_has_ranks : (command : Word) (words : List Word) (request : Option Request) → request ≡ command_request command words → IfSome request HasRanks
command_has_ranks command words request is = subst (λ (o : Option Request). IfSome o HasRanks) (sym is) (only HasRanks (λ r in_range. in_range.0) (command_request command words) (command_is_in_range command words))

pub command_has_workers : (command : Word) (words : List Word) (request : Option Request) → request ≡ command_request command words → IfSome request HasWorkers
command_has_workers command words request is = subst (λ (o : Option Request). IfSome o HasWorkers) (sym is) (only HasWorkers (λ r in_range. in_range.1) (command_request command words) (command_is_in_range command words))
