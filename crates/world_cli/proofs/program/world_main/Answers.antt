use Rattle.std.proofs.Common.{◌≡◌, ℕ, ◌⊎◌, inl, inr, refl, sym, subst}
use Rattle.world_cli.specs.Answers.{IsStatus, write_fault}
use Rattle.world_cli.specs.Status.{code_of}
use Rattle.world_cli.specs.declared.status.Status.{Status}
use Rattle.world_cli.specs.declared.status.Status.TheVariants.{Done, Usage, JobFault, Overflow, OutOfMemory, ReadFault, WriteFault}
use Rattle.world_cli.proofs.program.world_main.Goals as goal

code_is_status : (s : Status) → IsStatus (code_of s)
code_is_status Done = inl refl
code_is_status Usage = inr (inl refl)
code_is_status JobFault = inr (inr (inl refl))
code_is_status Overflow = inr (inr (inr (inl refl)))
code_is_status OutOfMemory = inr (inr (inr (inr (inl refl))))
code_is_status ReadFault = inr (inr (inr (inr (inr (inl refl)))))
code_is_status WriteFault = inr (inr (inr (inr (inr (inr refl)))))

finished_is_status : {P Q : Type 0} (result : ℕ) (s : Status) → ((result ≡ code_of s) × P) ⊎ ((result ≡ write_fault) × Q) → IsStatus result
finished_is_status result s (inl whole) = subst IsStatus (sym whole.0) (code_is_status s)
finished_is_status result s (inr cut) = subst IsStatus (sym cut.0) (code_is_status WriteFault)

pub returns-in-Ok-None-clause-known : goal.returns-in-Ok-None-clause-known
returns-in-Ok-None-clause-known g c = finished_is_status c.finish.result Usage c.finish.ensures.end

pub returns-in-Ok-clause-known : goal.returns-in-Ok-clause-known
returns-in-Ok-clause-known g c = finished_is_status c.finish-in-Ok.result c.in-Ok.answer.status c.finish-in-Ok.ensures.end
