use Rattle.std.proofs.Common.{◌≡◌, ◌∙◌, ◌+◌, None, Some, ap, sym, option_map}
use Rattle.std.specs.Prelude.{position}
use Rattle.job_data.specs.Data.{data_of}
use Rattle.world_cli.specs.Answers.{is_unbuilt}
use Rattle.world_cli.proofs.PositionLemmas.{position-map}
use Rattle.world_cli.proofs.job_answers.first_unbuilt.Goals as goal

pub returns-in_err-place : goal.returns-in_err-place
returns-in_err-place c =
    let place : position is_unbuilt c.args.job.now.commands ≡ None =
    ap (position is_unbuilt) (sym c.commands.ensures) ∙ position-map data_of is_unbuilt _ ∙ sym c.unbuilt_place.ensures.place ∙ c.in_err-place.was in
    c.from_residual.ensures ∙ ap (option_map (λ i. i + 1)) (sym place)

pub returns : goal.returns
returns c =
    let place : position is_unbuilt c.args.job.now.commands ≡ Some c.in_ok-place.place =
    ap (position is_unbuilt) (sym c.commands.ensures) ∙ position-map data_of is_unbuilt _ ∙ sym c.in_ok-place.ensures.place in
    ap (option_map (λ i. i + 1)) (sym place)
