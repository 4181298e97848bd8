-- The signature of a command: what it writes and in which form, what it reads and in which form, which of its numbers have
-- limits, whether it is a `print` or a fence, and whether it needs a fence before it. The checks of a job, its plan and its
-- versions follow from it.
use Rattle.std.specs.Prelude.{ℕ, ◌^◌, Bool, true, false, ◌&&◌, nat_le, List, [], ◌∷◌, Option, Some, None, ℤ}
use Rattle.std.specs.Int.RustNames.{unsigned_abs}
use Rattle.std.specs.Option.{option_map, option_map_or}
use Rattle.std.specs.Str.{bytes_eq}
use Rattle.tree_model.specs.Commands.{Command}
use Rattle.tree_model.specs.Commands.Command.{Project, Refine, Coarsen, Compress, Reconstruct, Add, Mul, Inner, Print, Size, Fence}
use Rattle.tree_model.specs.Functions.{fits, max_difference}
use Rattle.tree_model.specs.Nodes.{Form}
use Rattle.tree_model.specs.Nodes.Form.{Reconstructed, Compressed}
use Rattle.tree_model.specs.Project.{Projection}

-- the name of a tree, and the form that it is written in
pub record Target : Type 0 where
  pub name : List ℕ
  pub form : Form

-- the numbers of a command that have limits
pub data Numbers : Type 0 where
  NoNumbers : Numbers
  ProjectionNumbers : (projection : Projection) → Numbers
  LevelNumber : (level : ℕ) → Numbers
  FactorNumbers : (left right : ℤ) → Numbers

-- `needs` is the form in which the trees that are read have to be; none where none is read, or either form will do. With
-- `needs_fence`, a fence has to come between the command that last wrote a tree that is read, and this one
pub record Signature : Type 0 where
  pub writes : Option Target
  pub reads : List (List ℕ)
  pub needs : Option Form
  pub numbers : Numbers
  pub prints : Bool
  pub fences : Bool
  pub needs_fence : Bool

-- of a command that writes a tree, of one that only reads, and of a fence
abbrev pub writing : List ℕ → Form → List (List ℕ) → Option Form → Numbers → Signature
writing name form reads needs numbers = record {
  writes = Some (record { name = name; form = form });
  reads = reads;
  needs = needs;
  numbers = numbers;
  prints = false;
  fences = false;
  needs_fence = false;
}

abbrev pub reading : List (List ℕ) → Option Form → Bool → Bool → Signature
reading reads needs prints needs_fence = record {
  writes = None;
  reads = reads;
  needs = needs;
  numbers = NoNumbers;
  prints = prints;
  fences = false;
  needs_fence = needs_fence;
}

abbrev pub fencing : Signature
fencing = record { writes = None; reads = []; needs = None; numbers = NoNumbers; prints = false; fences = true; needs_fence = false }

abbrev pub signature_of : Command → Signature
signature_of (Project name projection) = writing name Reconstructed [] None (ProjectionNumbers projection)
signature_of (Refine name level) = writing name Reconstructed (name ∷ []) (Some Reconstructed) (LevelNumber level)
signature_of (Coarsen name) = writing name Reconstructed (name ∷ []) (Some Reconstructed) NoNumbers
signature_of (Compress name) = writing name Compressed (name ∷ []) (Some Reconstructed) NoNumbers
signature_of (Reconstruct name) = writing name Reconstructed (name ∷ []) (Some Compressed) NoNumbers
signature_of (Add name left_factor left right_factor right) = writing name Compressed (left ∷ right ∷ []) (Some Compressed) (FactorNumbers left_factor right_factor)
signature_of (Mul name left right) = writing name Reconstructed (left ∷ right ∷ []) (Some Reconstructed) NoNumbers
signature_of (Inner left right) = reading (left ∷ right ∷ []) (Some Compressed) false false
signature_of (Print name) = reading (name ∷ []) None true false
signature_of (Size name) = reading (name ∷ []) None false true
signature_of Fence = fencing

-- the name of the tree that a command writes, and its form
abbrev pub written_name : Command → Option (List ℕ)
written_name c = option_map (λ target. target.name) (signature_of c).writes

abbrev pub written_form : Command → Option Form
written_form c = option_map (λ target. target.form) (signature_of c).writes

-- whether a command writes the tree of this name
abbrev pub writes : List ℕ → Command → Bool
writes name c = option_map_or (bytes_eq name) (written_name c) false

-- the largest factor of `add`, in absolute value
abbrev pub max_factor : ℕ
max_factor = 2 ^ 20

abbrev pub is_factor : ℤ → Bool
is_factor factor = nat_le (unsigned_abs factor) max_factor

-- whether numbers are within their limits at a depth
abbrev pub are_within : ℕ → Numbers → Bool
are_within depth NoNumbers = true
are_within depth (ProjectionNumbers p) = fits depth p.function && (nat_le p.level depth && nat_le p.tolerance max_difference)
are_within depth (LevelNumber level) = nat_le level depth
are_within depth (FactorNumbers left right) = is_factor left && is_factor right
