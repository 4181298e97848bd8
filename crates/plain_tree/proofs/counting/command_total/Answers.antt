use Rattle.std.proofs.Common.{◌≡◌, true, inl, inr, refl, ◌∙◌, ap}
use Rattle.tree_model.specs.Versions.{written}
use Rattle.job_data.specs.Data.{data_of}
use Rattle.tree_totals.specs.Counts.{distribution_of}
use Rattle.plain_tree.proofs.CountingLemmas.{is_over_written, written_total}
use Rattle.plain_tree.proofs.counting.command_total.Goals as goal

pub returns-in-Size-clause-total : goal.returns-in-Size-clause-total
returns-in-Size-clause-total c = rw c.in-Size.is (λ depth versions has matches. c.of_size.ensures.total (distribution_of c.args.distribution) refl)

pub returns-in-Project-clause-total : goal.returns-in-Project-clause-total
returns-in-Project-clause-total c = λ depth versions has matches.
    let command = c.args.command.now in
    let over : is_over_written (data_of command) ≡ true =
    elim c.in-Project.is [
      | inl p ↦ ap (λ k. is_over_written (data_of k)) p.4
      | inr others ↦ elim others [
        | inl p ↦ ap (λ k. is_over_written (data_of k)) p.2
        | inr others ↦ elim others [
          | inl p ↦ ap (λ k. is_over_written (data_of k)) p.1
          | inr others ↦ elim others [
            | inl p ↦ ap (λ k. is_over_written (data_of k)) p.1
            | inr others ↦ elim others [
              | inl p ↦ ap (λ k. is_over_written (data_of k)) p.5
              | inr p ↦ ap (λ k. is_over_written (data_of k)) p.3
            ]
          ]
        ]
      ]
    ] in
    c.visits_total.ensures.total depth (written depth versions (data_of command)) matches ∙ written_total (distribution_of c.args.distribution) depth versions (data_of command) over
