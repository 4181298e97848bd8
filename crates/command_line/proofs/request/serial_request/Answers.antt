use Rattle.std.proofs.Common.{◌≡◌, ◌∙◌, Bool, true, false, Some, ap, sym, refl, codes, option_map}
use Rattle.std.specs.Prelude.{option_and_then}
use Rattle.clap.specs.Words.{found_of, one_text}
use Rattle.command_line.specs.Parsing.{flag_text}
use Rattle.command_line.specs.Requests.{serial_form}
use Rattle.command_line.specs.Settings.{has, value_of}
use Rattle.command_line.specs.Values.{map_of, ranks_of}
use Rattle.command_line.specs.declared.request.Request.TheVariants.{Serial}
use Rattle.command_line.proofs.request.serial_request.Goals as goal

pub returns : goal.returns
returns c words s =
    let m = c.args.matches.now in
    let ranks : ranks_of (value_of serial_form (codes "ranks") s.settings) ≡ Some c.in_ok-ranks.ranks =
    ap ranks_of (sym (s.options (codes "ranks") refl) ∙ sym c.get_str.ensures) ∙ sym c.in_ok-ranks.ensures in
    let map : map_of (value_of serial_form (codes "map") s.settings) ≡ Some c.in_ok-map.map =
    ap map_of (sym (s.options (codes "map") refl) ∙ sym c.get_str-2.ensures) ∙ sym c.in_ok-map.ensures in
    let told : (b : Bool) → one_text (found_of m) (codes "receipts") ≡ Some (flag_text b) → c.get_flag-receipts.result ≡ b =
    λ b. elim b as (λ v. one_text (found_of m) (codes "receipts") ≡ Some (flag_text v) → c.get_flag-receipts.result ≡ v) [
      | true ↦ c.get_flag-receipts.ensures.value
      | false ↦ c.get_flag-receipts.ensures.other
    ] in
    let receipts : c.get_flag-receipts.result ≡ has serial_form (codes "receipts") s.settings = told _ (s.flags (codes "receipts") refl) in
    ap (λ b. Some (Serial c.in_ok-ranks.ranks c.in_ok-map.map b)) receipts
    ∙ sym (λ i. option_and_then (λ r. option_map (λ o. Serial r o (has serial_form (codes "receipts") s.settings)) (map i)) (ranks i))
