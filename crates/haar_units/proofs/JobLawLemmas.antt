-- The laws on receipts for jobs of the model.
use Rattle.std.proofs.Common.{◌+◌, ◌^◌, List, ◌∙◌}
use Rattle.app_core.specs.declared.label.Label.{Label}
use Rattle.app_core.specs.declared.outline.Outline.{Outline}
use Rattle.haar_units.specs.ModelJobs.{distributed, traversal_of}
use Rattle.haar_units.specs.JobLaws.{JobBinsAreHeld, JobReceiptsAreSerial}
use Rattle.haar_units.proofs.BinLemmas.{bins_held}
use Rattle.haar_units.proofs.TotalLemmas.{receipts_count}
use Rattle.haar_units.proofs.JobTraversalLemmas.{jobs_traversed, version_of}
use Rattle.haar_units.proofs.SerialTotalLemmas.{totals_serial}

module _ (may : Label → List Outline → Type 0) where
  pub job_bins_held : JobBinsAreHeld may
  job_bins_held d depth commands within number version at exact workers task_effects log before x r run has early =
      let of = version_of d depth commands number version at in
      bins_held may (distributed d commands) within (traversal_of depth commands) (2 ^ (depth + 1)) number number of.writer (jobs_traversed d depth commands number of.keys of.at).1 exact
      workers task_effects log before x r run has early

  pub job_receipts_serial : JobReceiptsAreSerial may
  job_receipts_serial d depth commands within one root workers task_effects log before x r run has each exact =
      receipts_count may (distributed d commands) within one root (traversal_of depth commands) (2 ^ (depth + 1)) workers task_effects log before x r run has
      (λ number operation early at tree. let of = each number operation early at tree in (jobs_traversed d depth commands number of.0 of.1).1)
      exact
      ∙ totals_serial d depth commands r.fence
