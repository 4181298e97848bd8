-- Lemmas that crates above use: a command is accepted exactly where it has no fault.
use Rattle.std.proofs.Common.{◌≡◌, ℕ, Bool, true, false, List, refl, sym}
use Rattle.std.specs.Prelude.{◌&&◌, Option, Some, None, is_some, not, Ok, Err}
use Rattle.tree_model.specs.Commands.{Command}
use Rattle.job_data.specs.Checks.{has_names, has_numbers, has_room, has_trees, has_forms, is_near_fence, has_fence, may_follow, is_accepted}
use Rattle.job_data.specs.declared.fault_kind.FaultKind.{FaultKind}
use Rattle.job_data.specs.declared.fault_kind.FaultKind.TheVariants.{BeyondLimits, UnknownTree, WrongForm, FarFromFence, SizeBeforeFence}
use Rattle.job_data.specs.CheckedCommands.{checked, checked_command, unless_fault}

all_hold : (c : Command) (a b t f n s : Bool) → Ok c ≡ checked BeyondLimits (a && b) (checked UnknownTree t (checked WrongForm f (checked FarFromFence n (checked SizeBeforeFence s (Ok c))))) → (a && (b && (t && (f && (n && s))))) ≡ true
all_hold c true true true true true true is = refl
all_hold c true true true true true false is = cc
all_hold c true true true true false s is = cc
all_hold c true true true false n s is = cc
all_hold c true true false f n s is = cc
all_hold c true false t f n s is = cc
all_hold c false b t f n s is = cc

regrouped : (m a rest : Bool) → m ≡ true → (a && rest) ≡ true → ((m && a) && rest) ≡ true
regrouped true a rest names all = all
regrouped false a rest names all = cc

-- a command without a fault is accepted
pub checked_accepted : (depth : ℕ) (before : List Command) (c : Command) → has_names c ≡ true → Ok c ≡ checked_command depth before c → is_accepted depth before c ≡ true
checked_accepted depth before c names is =
    let all = all_hold c (has_numbers depth c) (has_room before c) (has_trees before c) (has_forms before c) (is_near_fence before c) (has_fence before c) is in
    regrouped (has_names c) (has_numbers depth c) (may_follow before c) names all

some_fault : (k : FaultKind) (c : Command) (a b t f n s : Bool) → Err k ≡ checked BeyondLimits (a && b) (checked UnknownTree t (checked WrongForm f (checked FarFromFence n (checked SizeBeforeFence s (Ok c))))) → (a && (b && (t && (f && (n && s))))) ≡ false
some_fault k c true true true true true true is = cc
some_fault k c true true true true true false is = refl
some_fault k c true true true true false s is = refl
some_fault k c true true true false n s is = refl
some_fault k c true true false f n s is = refl
some_fault k c true false t f n s is = refl
some_fault k c false b t f n s is = refl

not_within : (m a rest : Bool) → m ≡ true → (a && rest) ≡ false → ((m && a) && rest) ≡ false
not_within true a rest names is = is
not_within false a rest names is = cc

-- a command is accepted exactly where it has no fault
pub faultless : (depth : ℕ) (before : List Command) (c : Command) (fault : Option FaultKind) → has_names c ≡ true → unless_fault fault c ≡ checked_command depth before c → not (is_some fault) ≡ is_accepted depth before c
faultless depth before c None names is = sym (checked_accepted depth before c names is)
faultless depth before c (Some kind) names is =
    sym (not_within (has_names c) (has_numbers depth c) (may_follow before c) names (some_fault kind c (has_numbers depth c) (has_room before c) (has_trees before c) (has_forms before c) (is_near_fence before c) (has_fence before c) is))
