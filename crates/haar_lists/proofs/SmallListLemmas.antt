-- The small job passes all checks, and its operations are what its commands do: so the laws speak of it.
use Rattle.std.proofs.Common.{◌≡◌, ℕ, zero, suc, Some, refl, subst, arith}
use Rattle.haar_units.proofs.EffectLemmas.{some_is, none_is}
use Rattle.haar_base.specs.declared.operation.Operation.{Operation}
use Rattle.haar_base.specs.Operations.{operation_at}
use Rattle.haar_meaning.specs.PlannedJobs.{IsPlannedJob, HasPlan}
use Rattle.haar_lists.specs.SmallLists.{two_fences}

plans : (number : ℕ) (o : Operation) → operation_at two_fences.operations number ≡ Some o → HasPlan two_fences.commands number o
plans zero o at = none_is o at
plans (suc zero) o at = subst (HasPlan two_fences.commands 1) (some_is _ o at) (record { command = _; at = refl; plan = refl })
plans (suc (suc zero)) o at = subst (HasPlan two_fences.commands 2) (some_is _ o at) (record { command = _; at = refl; plan = refl })
plans (suc (suc (suc zero))) o at = subst (HasPlan two_fences.commands 3) (some_is _ o at) (record { command = _; at = refl; plan = tt })
plans (suc (suc (suc (suc zero)))) o at = subst (HasPlan two_fences.commands 4) (some_is _ o at) (record { command = _; at = refl; plan = refl })
plans (suc (suc (suc (suc (suc zero))))) o at = subst (HasPlan two_fences.commands 5) (some_is _ o at) (record { command = _; at = refl; plan = tt })
plans (suc (suc (suc (suc (suc (suc zero)))))) o at = subst (HasPlan two_fences.commands 6) (some_is _ o at) (record { command = _; at = refl; plan = refl })
plans (suc (suc (suc (suc (suc (suc (suc n))))))) o at = none_is o at

pub is_planned : IsPlannedJob two_fences
is_planned = record {
  checked = record { depth = refl; commands = refl };
  ranks = (omega arith, omega arith);
  number = refl;
  plans = plans;
  within = refl;
}
