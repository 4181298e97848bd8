-- A job's commands one after another: what the names stand for, the lines, and the first overflow.
use Rattle.std.proofs.Common.{◌≡◌, ℕ, suc, ◌+◌, List, [], ◌∷◌, ◌++◌, take, drop, true, false, cond, Option, Some, refl, sym, ◌∙◌, ap, append_assoc, append-nil, add-one}
use Rattle.std.specs.List.{fold}
use Rattle.std.proofs.lemmas.List.{take_more}
use Rattle.std.proofs.lemmas.List.Sums.{fold_push}
use Rattle.std.proofs.Math.Seq.{drop-cons}
use Rattle.tree_model.specs.Commands.{Command}
use Rattle.tree_model.specs.Jobs.{command_lines, lines_from, overflow_from}
use Rattle.tree_model.specs.Versions.{Versions, no_versions, after, versions_behind, command_overflows}
use Rattle.job_data.proofs.AcceptedLemmas.{IsAt}
use Rattle.tree_operations.specs.declared.command_error.CommandError.{CommandError}
use Rattle.tree_operations.specs.declared.command_error.CommandError.TheVariants.{Overflow, OutOfMemory}
use Rattle.plain_tree.specs.declared.serial_error.SerialError.{SerialError}
use Rattle.plain_tree.specs.declared.serial_error.SerialError.TheVariants.{Overflow as Overflowed, OutOfMemory as NoMemory}

-- one more command

pub take_next : (cs : List Command) (i : ℕ) (c : Command) → IsAt cs i c → take (i + 1) cs ≡ take i cs ++ c ∷ []
take_next cs i c is = take_more cs i c is.below ∙ ap (λ x. take i cs ++ x ∷ []) is.at

pub drop_next : (cs : List Command) (i : ℕ) (c : Command) → IsAt cs i c → drop i cs ≡ c ∷ drop (i + 1) cs
drop_next cs i c is = drop-cons cs i c is.below ∙ ap (λ x. x ∷ drop (suc i) cs) is.at ∙ ap (λ n. c ∷ drop n cs) (sym (add-one i))

pub versions_next : (depth : ℕ) (cs : List Command) (i : ℕ) (c : Command) → IsAt cs i c → versions_behind depth (take (i + 1) cs) ≡ after depth (versions_behind depth (take i cs)) c
versions_next depth cs i c is = ap (versions_behind depth) (take_next cs i c is) ∙ fold_push (after depth) no_versions (take i cs) c

lines_push : (depth : ℕ) (versions : Versions) (cs : List Command) (c : Command) → lines_from depth versions (cs ++ c ∷ []) ≡ lines_from depth versions cs ++ command_lines (fold (after depth) versions cs) c
lines_push depth versions [] c = append-nil (command_lines versions c)
lines_push depth versions (x ∷ cs) c =
    ap (λ rest. command_lines versions x ++ rest) (lines_push depth (after depth versions x) cs c)
    ∙ sym (append_assoc (command_lines versions x) (lines_from depth (after depth versions x) cs) (command_lines (fold (after depth) (after depth versions x) cs) c))

pub lines_next :
    (depth : ℕ) (cs : List Command) (i : ℕ) (c : Command) →
    IsAt cs i c →
    lines_from depth no_versions (take (i + 1) cs) ≡ lines_from depth no_versions (take i cs) ++ command_lines (versions_behind depth (take i cs)) c
lines_next depth cs i c is = ap (lines_from depth no_versions) (take_next cs i c is) ∙ lines_push depth no_versions (take i cs) c

-- the first overflow isn't at this command
pub overflow_later :
    (depth : ℕ) (cs : List Command) (i : ℕ) (c : Command) →
    IsAt cs i c →
    command_overflows depth (versions_behind depth (take i cs)) c ≡ false →
    overflow_from depth (versions_behind depth (take i cs)) (i + 1) (drop i cs) ≡ overflow_from depth (versions_behind depth (take (i + 1) cs)) (i + 1 + 1) (drop (i + 1) cs)
overflow_later depth cs i c is within =
    let before = versions_behind depth (take i cs) in
    ap (overflow_from depth before (i + 1)) (drop_next cs i c is)
    ∙ ap (λ b. cond b (Some (i + 1)) (overflow_from depth (after depth before c) (i + 1 + 1) (drop (i + 1) cs))) within
    ∙ ap (λ versions. overflow_from depth versions (i + 1 + 1) (drop (i + 1) cs)) (sym (versions_next depth cs i c is))

-- the first overflow is at this command
pub overflow_here :
    (depth : ℕ) (cs : List Command) (i : ℕ) (c : Command) →
    IsAt cs i c →
    command_overflows depth (versions_behind depth (take i cs)) c ≡ true →
    overflow_from depth (versions_behind depth (take i cs)) (i + 1) (drop i cs) ≡ Some (i + 1)
overflow_here depth cs i c is over =
    let before = versions_behind depth (take i cs) in
    ap (overflow_from depth before (i + 1)) (drop_next cs i c is)
    ∙ ap (λ b. cond b (Some (i + 1)) (overflow_from depth (after depth before c) (i + 1 + 1) (drop (i + 1) cs))) over

-- a job that is stopped with an overflow is stopped by one, and at the first command that overflows
stopped_by :
    (error : CommandError) (result : SerialError) (number command : ℕ) (text before : List ℕ) →
    (error ≡ Overflow → result ≡ Overflowed number text) →
    (error ≡ OutOfMemory → result ≡ NoMemory) →
    result ≡ Overflowed command before →
    (error ≡ Overflow) × (number ≡ command)
stopped_by Overflow result number command text before over memory is = let same : Overflowed number text ≡ Overflowed command before = sym (over refl) ∙ is in (refl, cc)
stopped_by OutOfMemory result number command text before over memory is = let same : NoMemory ≡ Overflowed command before = sym (memory refl) ∙ is in absurd (cc)

pub stopped_at :
    (depth : ℕ) (cs : List Command) (i : ℕ) (c : Command) (error : CommandError) (result : SerialError) (command : ℕ) (text before : List ℕ) (first : Option ℕ) →
    IsAt cs i c →
    (error ≡ Overflow → result ≡ Overflowed (i + 1) text) →
    (error ≡ OutOfMemory → result ≡ NoMemory) →
    result ≡ Overflowed command before →
    (error ≡ Overflow → command_overflows depth (versions_behind depth (take i cs)) c ≡ true) →
    overflow_from depth (versions_behind depth (take i cs)) (i + 1) (drop i cs) ≡ first →
    first ≡ Some command
stopped_at depth cs i c error result command text before first is over memory same overflows from =
    let stop = stopped_by error result (i + 1) command text before over memory same in
    sym from ∙ overflow_here depth cs i c is (overflows stop.0) ∙ ap Some stop.1
