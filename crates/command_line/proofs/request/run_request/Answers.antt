use Rattle.std.proofs.Common.{◌≡◌, ◌∙◌, Some, ap, sym, refl, codes, option_map}
use Rattle.std.specs.Prelude.{option_and_then}
use Rattle.command_line.specs.Requests.{run_form}
use Rattle.command_line.specs.Settings.{value_of}
use Rattle.command_line.specs.Values.{map_of, ranks_of, workers_of}
use Rattle.command_line.specs.declared.request.Request.TheVariants.{Run}
use Rattle.command_line.proofs.request.run_request.Goals as goal

pub returns : goal.returns
returns c words s =
    let ranks : ranks_of (value_of run_form (codes "ranks") s.settings) ≡ Some c.in_ok-ranks.ranks =
    ap ranks_of (sym (s.options (codes "ranks") refl) ∙ sym c.get_str.ensures) ∙ sym c.in_ok-ranks.ensures in
    let workers : workers_of (value_of run_form (codes "workers") s.settings) ≡ Some c.in_ok-workers.workers =
    ap workers_of (sym (s.options (codes "workers") refl) ∙ sym c.get_str-2.ensures) ∙ sym c.in_ok-workers.ensures in
    let map : map_of (value_of run_form (codes "map") s.settings) ≡ Some c.in_ok-map.map =
    ap map_of (sym (s.options (codes "map") refl) ∙ sym c.get_str-3.ensures) ∙ sym c.in_ok-map.ensures in
    sym (λ i. option_and_then (λ r. option_and_then (λ w. option_map (Run r w) (map i)) (workers i)) (ranks i))
