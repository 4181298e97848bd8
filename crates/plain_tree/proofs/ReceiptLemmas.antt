-- Receipts of a job's commands, one command after another.
use Rattle.std.proofs.Common.{◌≡◌, ℕ, ◌+◌, ◌^◌, ◌<◌, ◌≤◌, List, [], ◌∷◌, ◌++◌, length, take, Bool, true, false, cond, sym, ◌∙◌, ap, ap₂, subst, arith, append_assoc, append-nil, length-append}
use Rattle.std.specs.List.{fold}
use Rattle.std.proofs.lemmas.List.{length-take}
use Rattle.std.proofs.lemmas.List.Sums.{sum_by-append}
use Rattle.tree_model.specs.Commands.{Command}
use Rattle.tree_model.specs.Jobs.{command_lines}
use Rattle.tree_model.specs.Receipts.{is_fence, lines_with_receipts, receipt}
use Rattle.tree_model.specs.Totals.{Distribution, Total, command_total, nothing, plus, total_from}
use Rattle.tree_model.specs.Totals.{total_of as total_of_commands}
use Rattle.tree_model.specs.Versions.{Versions, no_versions, after, versions_behind}
use Rattle.job_data.specs.Checks.{are_accepted, max_commands}
use Rattle.tree_totals.specs.Counts.{distribution_of, total_of}
use Rattle.tree_totals.specs.declared.total.Total.{Total as TotalData}
use Rattle.plain_tree.specs.Receipts.{HasCounted}
use Rattle.plain_tree.specs.declared.receipts.Receipts.{Receipts}
use Rattle.job_data.proofs.AcceptedLemmas.{IsAt, few_before}
use Rattle.plain_tree.proofs.SerialLemmas.{take_next}

same_total : (m n t u : ℕ) → m ≡ n → t ≡ u → ◌≡◌ {A = Total} (record { messages = m; tasks = t }) (record { messages = n; tasks = u })
same_total m n t u messages tasks = ap₂ (λ x y. record { messages = x; tasks = y }) messages tasks

plus_nothing : (a : Total) → plus a nothing ≡ plus nothing a
plus_nothing a = same_total _ _ _ _ (omega arith) (omega arith)

plus_plus : (a b c : Total) → plus a (plus b c) ≡ plus (plus a b) c
plus_plus a b c = same_total _ _ _ _ (omega arith) (omega arith)

-- one more command comes to its own total, too
pub total_push : (d : Distribution) (depth : ℕ) (versions : Versions) (cs : List Command) (c : Command) → total_from d depth versions (cs ++ c ∷ []) ≡ plus (total_from d depth versions cs) (command_total d depth (fold (after depth) versions cs) c)
total_push d depth versions [] c = plus_nothing (command_total d depth versions c)
total_push d depth versions (x ∷ cs) c =
    let rest = total_from d depth (after depth versions x) cs in
    let last = command_total d depth (fold (after depth) (after depth versions x) cs) c in
    ap (plus (command_total d depth versions x)) (total_push d depth (after depth versions x) cs c) ∙ plus_plus (command_total d depth versions x) rest last

-- one more command adds its lines, and its receipt
lines_push :
    (d : Distribution) (depth : ℕ) (before cs : List Command) (c : Command) →
    lines_with_receipts d depth before (cs ++ c ∷ []) ≡ lines_with_receipts d depth before cs ++ command_lines (versions_behind depth (before ++ cs)) c ++ receipt d depth (before ++ cs) c
lines_push d depth before [] c =
    let P : List Command → Type 0 = λ b. command_lines (versions_behind depth before) c ++ receipt d depth before c ++ [] ≡ command_lines (versions_behind depth b) c ++ receipt d depth b c in
    subst P (sym (append-nil before)) (append-nil (command_lines (versions_behind depth before) c ++ receipt d depth before c))
lines_push d depth before (x ∷ cs) c =
    let next = before ++ x ∷ [] in
    let head = command_lines (versions_behind depth before) x ++ receipt d depth before x in
    let P : List Command → Type 0 = λ b. lines_with_receipts d depth next (cs ++ c ∷ []) ≡ lines_with_receipts d depth next cs ++ command_lines (versions_behind depth b) c ++ receipt d depth b c in
    let rest : P (before ++ x ∷ cs) = subst P (append_assoc before (x ∷ []) cs) (lines_push d depth next cs c) in
    ap (λ lines. head ++ lines) rest
    ∙ sym (append_assoc head (lines_with_receipts d depth next cs ++ command_lines (versions_behind depth (before ++ x ∷ cs)) c) (receipt d depth (before ++ x ∷ cs) c))
    ∙ ap (λ lines. lines ++ receipt d depth (before ++ x ∷ cs) c) (sym (append_assoc head (lines_with_receipts d depth next cs) (command_lines (versions_behind depth (before ++ x ∷ cs)) c)))

pub receipts_next :
    (d : Distribution) (depth : ℕ) (cs : List Command) (i : ℕ) (c : Command) →
    IsAt cs i c →
    lines_with_receipts d depth [] (take (i + 1) cs) ≡ lines_with_receipts d depth [] (take i cs) ++ command_lines (versions_behind depth (take i cs)) c ++ receipt d depth (take i cs) c
receipts_next d depth cs i c is = ap (lines_with_receipts d depth []) (take_next cs i c is) ∙ lines_push d depth [] (take i cs) c

-- fewer commands are before one of a job than a job may have
pub few_taken : (depth : ℕ) (cs : List Command) (i : ℕ) (c : Command) → are_accepted depth [] cs ≡ true → IsAt cs i c → length (take i cs) < max_commands
few_taken depth cs i c all is =
    let few = few_before depth cs i c all is in
    let below = is.below in
    omega (arith, few, length-take i cs)

-- ---- one more command is counted

pub one_fence : (fences : Bool) (new old : ℕ) → fences ≡ true → new ≡ old + 1 → new ≡ old + cond fences 1 0
one_fence fences new old is same = rw is same

pub no_fence : (fences : Bool) (new old : ℕ) → fences ≡ false → new ≡ old → new ≡ old + cond fences 1 0
no_fence fences new old is same = rw is (omega (arith, same))

pub counted_next :
    (depth : ℕ) (before : List Command) (c : Command) (old now : Receipts) (t total : TotalData) →
    HasCounted depth before old →
    total_of t ≡ command_total (distribution_of old.distribution) depth (versions_behind depth before) c →
    t.messages ≤ 2 ^ 20 →
    t.tasks ≤ 2 ^ 20 →
    now.distribution ≡ old.distribution →
    now.fences ≡ old.fences + cond (is_fence c) 1 0 →
    now.total ≡ old.total →
    total_of total ≡ plus (total_of now.total) (total_of t) →
    HasCounted depth (before ++ c ∷ []) (record now { total = total })
counted_next depth before c old now t total has is few_messages few_tasks distribution fences same sum =
    let d = distribution_of old.distribution in
    let sums : total_of total ≡ plus (total_of old.total) (total_of t) = subst (λ s. total_of total ≡ plus (total_of s) (total_of t)) same sum in
    let messages : total.messages ≡ old.total.messages + t.messages = ap (λ (s : Total). s.messages) sums in
    let tasks : total.tasks ≡ old.total.tasks + t.tasks = ap (λ (s : Total). s.tasks) sums in
    let all : total_of total ≡ total_of_commands d depth (before ++ c ∷ []) = sums ∙ ap₂ plus has.total is ∙ sym (total_push d depth no_versions before c) in
    let longer = length-append before (c ∷ []) in
    let counted = sum_by-append (λ x. cond (is_fence x) 1 0) before (c ∷ []) in
    let old_messages = has.messages in
    let old_tasks = has.tasks in
    let old_fences = has.fences in
    record {
      fences = omega (arith, fences, old_fences, counted);
      total = subst (λ x. total_of total ≡ total_of_commands (distribution_of x) depth (before ++ c ∷ [])) (sym distribution) all;
      messages = omega (arith, messages, few_messages, old_messages, longer);
      tasks = omega (arith, tasks, few_tasks, old_tasks, longer);
    }
