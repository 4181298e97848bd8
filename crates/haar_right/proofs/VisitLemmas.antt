-- Lemmas that crates above use: every unit of keys decides rightly.
use Rattle.haar_base.specs.declared.operation.Operation.TheVariants.{Project, Refine, Coarsen, Compress, Reconstruct, Add, Mul, Inner, Print, Size, Fence}
use Rattle.haar_right.specs.Laws.{VisitsAreRight, CombinationsAreRight}
use Rattle.haar_right.proofs.ProjectLemmas.{project_visited, project_combined}
use Rattle.haar_right.proofs.RefineLemmas.{refine_visited, refine_combined}
use Rattle.haar_right.proofs.CoarsenLemmas.{coarsen_visited, coarsen_combined}
use Rattle.haar_right.proofs.CompressLemmas.{compress_visited, compress_combined}
use Rattle.haar_right.proofs.ReconstructLemmas.{reconstruct_visited, reconstruct_combined}
use Rattle.haar_right.proofs.AddLemmas.{add_visited, add_combined}
use Rattle.haar_right.proofs.MulLemmas.{mul_visited, mul_combined}
use Rattle.haar_right.proofs.InnerLemmas.{inner_visited, inner_combined}
use Rattle.haar_right.proofs.PrintLemmas.{print_visited, print_combined}

pub visits_right : VisitsAreRight
visits_right (Project function level tolerance) = project_visited function level tolerance
visits_right (Refine level source) = refine_visited level source
visits_right (Coarsen source) = coarsen_visited source
visits_right (Compress source) = compress_visited source
visits_right (Reconstruct source) = reconstruct_visited source
visits_right (Add left_factor left right_factor right) = add_visited left_factor left right_factor right
visits_right (Mul left right) = mul_visited left right
visits_right (Inner left right) = inner_visited left right
visits_right (Print source form name) = print_visited source form name
visits_right (Size source) = λ job u first second planned is read other. absurd (let on = is.command.on_trees in cc)
visits_right Fence = λ job u first second planned is read other. absurd (let on = is.command.on_trees in cc)

pub combinations_right : CombinationsAreRight
combinations_right (Project function level tolerance) = project_combined function level tolerance
combinations_right (Refine level source) = refine_combined level source
combinations_right (Coarsen source) = coarsen_combined source
combinations_right (Compress source) = compress_combined source
combinations_right (Reconstruct source) = reconstruct_combined source
combinations_right (Add left_factor left right_factor right) = add_combined left_factor left right_factor right
combinations_right (Mul left right) = mul_combined left right
combinations_right (Inner left right) = inner_combined left right
combinations_right (Print source form name) = print_combined source form name
combinations_right (Size source) = λ job u left right planned is first second. absurd (let on = is.command.on_trees in cc)
combinations_right Fence = λ job u left right planned is first second. absurd (let on = is.command.on_trees in cc)
