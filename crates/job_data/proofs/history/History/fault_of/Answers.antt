use Rattle.std.proofs.Common.{map, ◌∙◌, ap}
use Rattle.std.specs.Prelude.{◌||◌, is_some, nat_lt}
use Rattle.std.specs.List.{list_all}
use Rattle.tree_model.specs.Signatures.{Signature, signature_of, are_within}
use Rattle.job_data.specs.Checks.{form_behind, has_fence_for, has_room_for, max_commands_before_fence, since_fence, suits}
use Rattle.job_data.specs.Data.{data_of}
use Rattle.job_data.specs.Found.{forms_in}
use Rattle.job_data.proofs.FoundLemmas.{all_suit, all_there, same_checks}
use Rattle.job_data.proofs.history.History.fault_of.Goals as goal

pub returns : goal.returns
returns c =
    let before = map data_of c.args.before.now in
    let command = data_of c.args.command.now in
    let told = c.signature-signature.ensures in
    let forms = c.found-found.ensures ∙ ap (λ (s : Signature). map (form_behind before) s.reads) told in
    c.lowest_fault.ensures command
    ∙ same_checks command _ _ _ _ _ _ _ _ _ _ _ _
    (c.are_within-is_within.ensures ∙ ap (λ (s : Signature). are_within c.args.depth s.numbers) told)
    (c.has_room_for-has_room.ensures ∙ ap (has_room_for before) told)
    (c.are_there-are_there.ensures ∙ ap (list_all is_some) forms ∙ all_there before (signature_of command).reads)
    (c.suit-suit.ensures
    ∙ ap (λ (s : Signature). list_all (suits s.needs) (forms_in c.found-found.result)) told
    ∙ ap (list_all (suits (signature_of command).needs)) forms
    ∙ all_suit (signature_of command).needs before (signature_of command).reads)
    (c.is_near-is_near.ensures
    ∙ ap (λ n. c.signature-signature.result.fences || nat_lt n max_commands_before_fence) c.requires.since_fence
    ∙ ap (λ (s : Signature). s.fences || nat_lt (since_fence before) max_commands_before_fence) told)
    (c.has_fence_for-has_fence.ensures ∙ ap (has_fence_for before) told)
