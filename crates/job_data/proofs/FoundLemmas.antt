-- The trees that a command reads, by the forms that they have.
use Rattle.std.proofs.Common.{◌≡◌, Bool, ℕ, List, [], ◌∷◌, map, refl, sym, ◌∙◌, ap}
use Rattle.std.specs.Prelude.{◌&&◌, Option, Ok, is_some}
use Rattle.std.specs.List.{list_all}
use Rattle.tree_model.specs.Commands.{Command}
use Rattle.tree_model.specs.Nodes.{Form}
use Rattle.job_data.specs.declared.fault_kind.FaultKind.TheVariants.{BeyondLimits, UnknownTree, WrongForm, FarFromFence, SizeBeforeFence}
use Rattle.job_data.specs.Checks.{form_behind, is_written, suits}
use Rattle.job_data.specs.CheckedCommands.{checked}
use Rattle.job_data.proofs.WriterLemmas.{is_written_form}

pub all_there : (before : List Command) (names : List (List ℕ)) → list_all is_some (map (form_behind before) names) ≡ list_all (is_written before) names
all_there before [] = refl
all_there before (name ∷ names) =
    ap (λ b. b && list_all is_some (map (form_behind before) names)) (sym (is_written_form before name)) ∙ ap (λ b. is_written before name && b) (all_there before names)

pub all_suit : (needed : Option Form) (before : List Command) (names : List (List ℕ)) → list_all (suits needed) (map (form_behind before) names) ≡ list_all (λ name. suits needed (form_behind before name)) names
all_suit needed before [] = refl
all_suit needed before (name ∷ names) = ap (λ b. suits needed (form_behind before name) && b) (all_suit needed before names)

-- the checks with equal results
pub same_checks : (c : Command) (a b t f n s a' b' t' f' n' s' : Bool) → a ≡ a' → b ≡ b' → t ≡ t' → f ≡ f' → n ≡ n' → s ≡ s' → checked BeyondLimits (a && b) (checked UnknownTree t (checked WrongForm f (checked FarFromFence n (checked SizeBeforeFence s (Ok c))))) ≡ checked BeyondLimits (a' && b') (checked UnknownTree t' (checked WrongForm f' (checked FarFromFence n' (checked SizeBeforeFence s' (Ok c)))))
same_checks c a b t f n s a' b' t' f' n' s' within room there suit near fence = rw (within, room, there, suit, near, fence) refl
