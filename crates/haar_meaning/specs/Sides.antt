-- What units know of the trees that their command reads.
use Rattle.std.specs.Prelude.{◌≡◌, ℕ, zero, suc, Bool, true, false, ◌&&◌, ◌==◌, not, if◌then◌else◌, IfSome, ℤ, pos}
use Rattle.job_data.specs.Data.{form_of}
use Rattle.job_data.specs.declared.TreeForm.{TreeForm}
use Rattle.job_data.specs.declared.TreeForm.TheVariants as form
use Rattle.tree_key.specs.Keys.{Key}
use Rattle.tree_model.specs.Nodes.{Form}
use Rattle.tree_model.specs.Nodes.Form.{Reconstructed, Compressed}
use Rattle.tree_model.specs.Trees.{Tree, box_sum, difference}
use Rattle.tree_model.specs.Versions.{tree_in}
use Rattle.haar_base.specs.declared.operation.Operation.{Operation}
use Rattle.haar_base.specs.declared.operation.Operation.TheVariants.{Reconstruct, Add, Inner, Print}
use Rattle.haar_base.specs.declared.unit.Side.{Side}
use Rattle.haar_base.specs.declared.unit.Side.TheVariants.{Nothing, Entry, Below}
use Rattle.haar_base.specs.declared.unit.Haar.{Haar}
use Rattle.haar_base.specs.declared.unit.Held.{Held}
use Rattle.haar_base.specs.Readings.{no_haar, nothing_held}
use Rattle.haar_meaning.specs.PlannedJobs.{PlannedJob, standing, IfBefore, version_of}
use Rattle.haar_meaning.specs.RightValues.{both_read}

-- the form that an operation reads trees in
abbrev pub form_read : Operation → Form
form_read (Reconstruct source) = Compressed
form_read (Add left_factor left right_factor right) = Compressed
form_read (Inner left right) = Compressed
form_read (Print source form name) = form_of form
form_read _ = Reconstructed

-- whether its down units know the sums over the boxes of a compressed tree
abbrev pub knows_sums : Operation → Bool
knows_sums (Reconstruct source) = true
knows_sums (Add left_factor left right_factor right) = true
knows_sums _ = false

-- what a down unit knows of the sum over its key's box, where the tree has the key; the entry of the root has that sum
abbrev pub known_sum : Operation → Tree → Key → ℤ
known_sum operation t k = if knows_sums operation && not (k.level == 0) then box_sum t k else pos 0

-- what a down unit of a key knows of a tree: that it has the key, or, below a leaf, the sum over the key's box
abbrev pub side_of : Operation → Tree → Key → Side
side_of operation t k = if t.shape k then Entry (known_sum operation t k) else Below (box_sum t k)

-- what a down unit rightly knows of the version that its operation reads; there is no version 0
abbrev pub IsRightSide : PlannedJob → Operation → ℕ → Key → Side → Type 0
IsRightSide job operation zero k side = side ≡ Nothing
IsRightSide job operation (suc before) k side =
    IfBefore (standing job (suc before)) (IfSome (tree_in (form_read operation) (version_of job (suc before))) (λ t. side ≡ side_of operation t k))

-- what an up unit of a key with children holds of a compressed tree: the difference, and at the root the sum
abbrev pub haar_of : Tree → Key → Haar
haar_of t k = record { sum = if k.level == 0 then box_sum t k else pos 0; difference = difference t k }

-- what it holds of a tree that is printed
abbrev pub printed_haar : TreeForm → Tree → Key → Haar
printed_haar form.Reconstructed t k = no_haar
printed_haar form.Compressed t k = haar_of t k

-- what an up unit rightly holds
abbrev pub IsHeld : PlannedJob → Operation → Key → Held → Type 0
IsHeld job (Inner left right) k held = IfSome (both_read job left right) (λ p. held ≡ record { first = haar_of p.0 k; second = haar_of p.1 k })
IsHeld job (Print source form name) k held = IfSome (tree_in (form_of form) (version_of job source)) (λ t. held ≡ record { first = printed_haar form t k; second = no_haar })
IsHeld job _ k held = held ≡ nothing_held
