-- The totals of the units of a job are those of the model.
use Rattle.std.proofs.Common.{◌≡◌, ℕ, zero, suc, ◌+◌, ◌*◌, ◌^◌, Bool, true, false, ◌&&◌, List, [], ◌∷◌, ◌++◌, length, map, filter, refl, sym, ap, ◌∙◌, subst, arith}
use Rattle.std.specs.Prelude.{nat_lt, if◌then◌else◌, ◌==◌, fold, take, slice_get, Option, Some, None}
use Rattle.std.specs.Option.{option_and_then, option_map_or}
use Rattle.std.proofs.lemmas.Bool.{lt-ltb, le-ltb, ne_eqb, cond-false}
use Rattle.std.proofs.lemmas.List.Recursion.{is_count_by}
use Rattle.tree_key.specs.Keys.{Key}
use Rattle.tree_model.specs.Commands.{Command}
use Rattle.tree_model.specs.Receipts.{is_fence, fence_count}
use Rattle.tree_model.specs.Shapes.{keys as all_keys, key_count}
use Rattle.tree_model.specs.Totals.{Distribution, Visits, over, visits_of, Total, nothing, plus, visits_total, command_total, total_from}
use Rattle.tree_model.specs.Totals.{total_of as serial_total}
use Rattle.tree_model.specs.Versions.{Versions, no_versions, after}
use Rattle.event_laws.specs.Held.{fences_before}
use Rattle.haar_units.specs.Jobs.{Operation, DistributedJob, kind_of, kinds, operation_at, is_on_trees}
use Rattle.haar_units.specs.Traversals.{Traversal}
use Rattle.haar_units.specs.Totals.{sum_to, of_operation, tasks_of, messages_of, total_by}
use Rattle.haar_units.specs.Places.{has_place}
use Rattle.haar_units.specs.Distributions.{IsOverKeys}
use Rattle.haar_units.specs.ModelJobs.{operation_of, distributed, versions_before, keys_at, traversal_of, before_fence, TotalsAreSerial, FencesHaveNumbers}
use Rattle.haar_units.proofs.SumLemmas.{sum_ext, sum_none, sum_front, pick, drop_it}
use Rattle.haar_units.proofs.UnitSumLemmas.{both_more}
use Rattle.haar_units.proofs.KeyCountLemmas.{totals_of_keys, sizes_of_ranks}
use Rattle.haar_units.proofs.JobTraversalLemmas.{is_distributed, operation_is, over_keys}

-- no keys come to nothing

no_keys : (ks : List Key) → length (filter (λ k. false) ks) ≡ 0
no_keys [] = refl
no_keys (k ∷ ks) = no_keys ks

no_total : (d : Distribution) (depth : ℕ) → visits_total d depth (over (λ k. false)) ≡ nothing
no_total d depth = let none = no_keys (all_keys depth) in let twice : 2 * key_count depth (λ k. false) + key_count depth (λ k. false) ≡ 0 = omega (arith, none) in let thrice : key_count depth (λ k. false) + key_count depth (λ k. false) + key_count depth (λ k. false) ≡ 0 = omega (arith, none) in
    λ i. record { messages = twice i; tasks = thrice i }

-- the number of a command and the command, in a job
module _ (d : Distribution) (depth : ℕ) (commands : List Command) where
  abbrev job : DistributedJob
  job = distributed d commands

  abbrev traversal : Traversal
  traversal = traversal_of depth commands

  abbrev tasks : ℕ → ℕ
  tasks number = of_operation (tasks_of job traversal (2 ^ (depth + 1)) number) (operation_at job number)

  abbrev messages : ℕ → ℕ
  messages number = of_operation (messages_of job traversal (2 ^ (depth + 1)) number) (operation_at job number)

  -- of one command
  record IsTotal (number : ℕ) (w : Operation) (t : Total) : Type 0 where
    tasks_are : tasks_of job traversal (2 ^ (depth + 1)) number w ≡ t.tasks
    messages_are : messages_of job traversal (2 ^ (depth + 1)) number w ≡ t.messages

  of_tree : (number : ℕ) (w : Operation) (o : Option Visits) → is_on_trees w ≡ true → keys_at depth commands number ≡ o → IsTotal number w (option_map_or (visits_total d depth) o nothing)
  of_tree number w (Some keys) tree at = let t = totals_of_keys d job traversal depth number w keys (is_distributed d commands) tree (over_keys depth commands number keys at) in record { tasks_are = t.0; messages_are = t.1 }
  of_tree number w None tree at = record { tasks_are = t.0 ∙ ap (λ (z : Total). z.tasks) (no_total d depth); messages_are = t.1 ∙ ap (λ (z : Total). z.messages) (no_total d depth) }
    where
      none_at : (place : ℕ) → has_place (λ k. false) place ≡ false
      none_at place = go (nat_lt 0 place)
        where
          go : (b : Bool) → (b && false) ≡ false
          go true = refl
          go false = refl

      over_none : IsOverKeys traversal number (over (λ k. false))
      over_none = record {
        visits = λ place. ap (λ (o : Option Visits). option_map_or (λ keys. has_place keys.visited place) o false) at ∙ sym (none_at place);
        erases = λ place. ap (λ (o : Option Visits). option_map_or (λ keys. has_place keys.erased place) o false) at ∙ sym (none_at place);
      }

      t : (tasks_of job traversal (2 ^ (depth + 1)) number w ≡ (visits_total d depth (over (λ k. false))).tasks) × (messages_of job traversal (2 ^ (depth + 1)) number w ≡ (visits_total d depth (over (λ k. false))).messages)
      t = totals_of_keys d job traversal depth number w (over (λ k. false)) (is_distributed d commands) tree over_none

  of_command : (before : ℕ) (c : Command) → slice_get commands before ≡ Some c → IsTotal (suc before) (operation_of c) (command_total d depth (versions_before depth commands (suc before)) c)
  of_command before c at = go c (ap (option_and_then (visits_of depth (versions_before depth commands (suc before)))) at)
    where
      go : (c : Command) → keys_at depth commands (suc before) ≡ visits_of depth (versions_before depth commands (suc before)) c → IsTotal (suc before) (operation_of c) (command_total d depth (versions_before depth commands (suc before)) c)
      go (Command.Size name) e = let s = sizes_of_ranks d job traversal (2 ^ (depth + 1)) (suc before) (is_distributed d commands) in record { tasks_are = s.0; messages_are = s.1 }
      go Command.Fence e = record { tasks_are = refl; messages_are = refl }
      go c e = of_tree (suc before) (operation_of c) (visits_of depth (versions_before depth commands (suc before)) c) refl e

-- over the commands before a fence, for either number of a total
module _ (d : Distribution) (depth : ℕ) (g : ℕ → ℕ) (π : Total → ℕ) (π_nothing : π nothing ≡ 0) (π_plus : (a b : Total) → π (plus a b) ≡ π a + π b) where
  abbrev counts : List Command → ℕ → ℕ → ℕ → ℕ
  counts post e b i = if nat_lt (fences_before (suc i) (map kind_of (map operation_of post))) e then g (b + i) else 0

  abbrev Agrees : Versions → ℕ → List Command → Type 0
  Agrees versions b post = (i : ℕ) (c : Command) → slice_get post i ≡ Some c → g (b + i) ≡ π (command_total d depth (fold (after depth) versions (take i post)) c)

  none_before : (post : List Command) (b : ℕ) → sum_to (counts post 0 b) (length post) ≡ 0
  none_before post b = sum_none (counts post 0 b) (length post) (λ i lt. drop_it (nat_lt (fences_before (suc i) (map kind_of (map operation_of post))) 0) (g (b + i)) 0 (le-ltb (fences_before (suc i) (map kind_of (map operation_of post))) 0 (omega arith)))

  if_zero : (b : Bool) (n : ℕ) → n ≡ 0 → (if b then n else 0) ≡ 0
  if_zero true n e = e
  if_zero false n e = refl

  over_commands : (post : List Command) (e : ℕ) (versions : Versions) (b : ℕ) → Agrees versions b post → sum_to (counts post e b) (length post) ≡ π (total_from d depth versions (before_fence e post))
  over_commands [] zero versions b h = sym π_nothing
  over_commands [] (suc later) versions b h = sym π_nothing
  over_commands (c ∷ cs) zero versions b h = none_before (c ∷ cs) b ∙ sym π_nothing
  over_commands (c ∷ cs) (suc later) versions b h = step c h (λ e. over_commands cs e (after depth versions c) (suc b))
    where
      rest_agrees : (c : Command) → Agrees versions b (c ∷ cs) → Agrees (after depth versions c) (suc b) cs
      rest_agrees c h i x at = let next : b + suc i ≡ suc b + i = omega arith in ap g (sym next) ∙ h (suc i) x at

      step : (c : Command) → Agrees versions b (c ∷ cs) → ((e : ℕ) → Agrees (after depth versions c) (suc b) cs → sum_to (counts cs e (suc b)) (length cs) ≡ π (total_from d depth (after depth versions c) (before_fence e cs)))
          → sum_to (counts (c ∷ cs) (suc later) b) (suc (length cs)) ≡ π (total_from d depth versions (before_fence (suc later) (c ∷ cs)))
      step Command.Fence h rec = front ∙ (λ i. first i + others i) ∙ joined later (rec later (rest_agrees Command.Fence h))
        where
          front : sum_to (counts (Command.Fence ∷ cs) (suc later) b) (suc (length cs)) ≡ counts (Command.Fence ∷ cs) (suc later) b 0 + sum_to (λ i. counts (Command.Fence ∷ cs) (suc later) b (suc i)) (length cs)
          front = sum_front (counts (Command.Fence ∷ cs) (suc later) b) (length cs)

          first : counts (Command.Fence ∷ cs) (suc later) b 0 ≡ 0
          first = if_zero (nat_lt 1 (suc later)) (g (b + 0)) (h 0 Command.Fence refl ∙ π_nothing)

          others : sum_to (λ i. counts (Command.Fence ∷ cs) (suc later) b (suc i)) (length cs) ≡ sum_to (counts cs later (suc b)) (length cs)
          others = sum_ext (λ i. counts (Command.Fence ∷ cs) (suc later) b (suc i)) (counts cs later (suc b)) (length cs)
              (λ i lt. let next : b + suc i ≡ suc b + i = omega arith in (λ j. if both_more (fences_before (suc i) (map kind_of (map operation_of cs))) later j then g (next j) else 0))

          joined : (later : ℕ) → sum_to (counts cs later (suc b)) (length cs) ≡ π (total_from d depth (after depth versions Command.Fence) (before_fence later cs))
              → 0 + sum_to (counts cs later (suc b)) (length cs) ≡ π (total_from d depth versions (before_fence (suc later) (Command.Fence ∷ cs)))
          joined zero e = omega (arith, e)
          joined (suc more) e =
              let p = π_plus nothing (total_from d depth (after depth versions Command.Fence) (before_fence (suc more) cs)) in
              let n = π_nothing in
              let whole : π (total_from d depth versions (before_fence (suc (suc more)) (Command.Fence ∷ cs))) ≡ π (plus nothing (total_from d depth (after depth versions Command.Fence) (before_fence (suc more) cs))) =
              ap (λ (z : List Command). π (total_from d depth versions z)) (cond-false (suc more == 0) [] (Command.Fence ∷ before_fence (suc more) cs) (ne_eqb (suc more) 0 (λ z. omega (arith, z)))) in
              omega (arith, e, p, n, whole)
      step c h rec = front ∙ (λ i. first i + (others ∙ rec (suc later) (rest_agrees c h)) i) ∙ sym (π_plus (command_total d depth versions c) (total_from d depth (after depth versions c) (before_fence (suc later) cs)))
        where
          front : sum_to (counts (c ∷ cs) (suc later) b) (suc (length cs)) ≡ counts (c ∷ cs) (suc later) b 0 + sum_to (λ i. counts (c ∷ cs) (suc later) b (suc i)) (length cs)
          front = sum_front (counts (c ∷ cs) (suc later) b) (length cs)

          first : counts (c ∷ cs) (suc later) b 0 ≡ π (command_total d depth versions c)
          first = pick (nat_lt 0 (suc later)) (g (b + 0)) 0 (lt-ltb 0 (suc later) (omega arith)) ∙ h 0 c refl

          others : sum_to (λ i. counts (c ∷ cs) (suc later) b (suc i)) (length cs) ≡ sum_to (counts cs (suc later) (suc b)) (length cs)
          others = sum_ext (λ i. counts (c ∷ cs) (suc later) b (suc i)) (counts cs (suc later) (suc b)) (length cs)
              (λ i lt. let next : b + suc i ≡ suc b + i = omega arith in ap (λ (n : ℕ). if nat_lt (fences_before (suc i) (map kind_of (map operation_of cs))) (suc later) then g n else 0) next)

long : (commands : List Command) → length (map operation_of commands) ≡ length commands
long [] = refl
long (c ∷ cs) = ap suc (long cs)

pub totals_serial : TotalsAreSerial
totals_serial d depth commands fence = λ i. (messages_are i, tasks_are i)
  where
    -- the sum over all numbers is that over the commands
    from_one : (f : ℕ → Operation → ℕ) → total_by (distributed d commands) f fence ≡ sum_to (λ i. if nat_lt (fences_before (suc i) (kinds (distributed d commands))) fence then of_operation (f (1 + i)) (operation_at (distributed d commands) (1 + i)) else 0) (length commands)
    from_one f =
        let n = length (map operation_of commands) in
        let by : ℕ → ℕ = λ c. if nat_lt (fences_before c (kinds (distributed d commands))) fence then of_operation (f c) (operation_at (distributed d commands) c) else 0 in
        let front = sum_front (λ c. if nat_lt (fences_before c (kinds (distributed d commands))) fence then of_operation (f c) (operation_at (distributed d commands) c) else 0) n in
        let none = same (nat_lt 0 fence) in
        let rest : sum_to (λ i. if nat_lt (fences_before (suc i) (kinds (distributed d commands))) fence then of_operation (f (suc i)) (operation_at (distributed d commands) (suc i)) else 0) n
        ≡ sum_to (λ i. if nat_lt (fences_before (suc i) (kinds (distributed d commands))) fence then of_operation (f (1 + i)) (operation_at (distributed d commands) (1 + i)) else 0) n =
        sum_ext _ _ n (λ i lt. let next : suc i ≡ 1 + i = omega arith in ap (λ (m : ℕ). if nat_lt (fences_before (suc i) (kinds (distributed d commands))) fence then of_operation (f m) (operation_at (distributed d commands) m) else 0) next) in
        front ∙ (λ i. none i + rest i) ∙ plain (sum_to (λ i. if nat_lt (fences_before (suc i) (kinds (distributed d commands))) fence then of_operation (f (1 + i)) (operation_at (distributed d commands) (1 + i)) else 0) n)
        ∙ ap (sum_to (λ i. if nat_lt (fences_before (suc i) (kinds (distributed d commands))) fence then of_operation (f (1 + i)) (operation_at (distributed d commands) (1 + i)) else 0)) (long commands)
      where
        same : (b : Bool) → (if b then zero else zero) ≡ zero
        same true = refl
        same false = refl

        plain : (n : ℕ) → 0 + n ≡ n
        plain n = omega arith

    at_number : (i : ℕ) (c : Command) → slice_get commands i ≡ Some c → operation_at (distributed d commands) (suc i) ≡ Some (operation_of c)
    at_number i c at = operation_is d commands (suc i) c at

    tasks_agree : (i : ℕ) (c : Command) → slice_get commands i ≡ Some c → tasks d depth commands (1 + i) ≡ (command_total d depth (fold (after depth) no_versions (take i commands)) c).tasks
    tasks_agree i c at =
        let next : 1 + i ≡ suc i = omega arith in
        ap (tasks d depth commands) next ∙ ap (of_operation (tasks_of (distributed d commands) (traversal_of depth commands) (2 ^ (depth + 1)) (suc i))) (at_number i c at) ∙ (of_command d depth commands i c at).tasks_are

    messages_agree : (i : ℕ) (c : Command) → slice_get commands i ≡ Some c → messages d depth commands (1 + i) ≡ (command_total d depth (fold (after depth) no_versions (take i commands)) c).messages
    messages_agree i c at =
        let next : 1 + i ≡ suc i = omega arith in
        ap (messages d depth commands) next ∙ ap (of_operation (messages_of (distributed d commands) (traversal_of depth commands) (2 ^ (depth + 1)) (suc i))) (at_number i c at) ∙ (of_command d depth commands i c at).messages_are

    tasks_are : total_by (distributed d commands) (tasks_of (distributed d commands) (traversal_of depth commands) (2 ^ (depth + 1))) fence ≡ (serial_total d depth (before_fence fence commands)).tasks
    tasks_are = from_one (tasks_of (distributed d commands) (traversal_of depth commands) (2 ^ (depth + 1)))
        ∙ over_commands d depth (tasks d depth commands) (λ t. t.tasks) refl (λ a b. refl) commands fence no_versions 1 tasks_agree

    messages_are : total_by (distributed d commands) (messages_of (distributed d commands) (traversal_of depth commands) (2 ^ (depth + 1))) fence ≡ (serial_total d depth (before_fence fence commands)).messages
    messages_are = from_one (messages_of (distributed d commands) (traversal_of depth commands) (2 ^ (depth + 1)))
        ∙ over_commands d depth (messages d depth commands) (λ t. t.messages) refl (λ a b. refl) commands fence no_versions 1 messages_agree

-- numbers of fences

fences : List Command → ℕ
fences [] = 0
fences (c ∷ cs) = if is_fence c then 1 + fences cs else fences cs

fences_are : (cs : List Command) → fences cs ≡ fence_count cs
unfolding fences
fences_are cs = is_count_by fences is_fence refl (λ c cs. refl) cs

-- what is before a fence
cut_at : (later : ℕ) (b : Bool) (x : Command) (rest xs : List Command) → before_fence (suc later) rest ≡ xs
    → (if b && ((if b then 1 + later else later) == 0) then [] else x ∷ before_fence (if b then (if b then 1 + later else later) else suc (if b then 1 + later else later)) rest) ≡ x ∷ xs
cut_at later true x rest xs e =
    let next : suc later ≡ 1 + later = omega arith in
    subst (λ (n : ℕ). (if n == 0 then [] else x ∷ before_fence n rest) ≡ x ∷ xs) next
    (cond-false (suc later == 0) [] (x ∷ before_fence (suc later) rest) (ne_eqb (suc later) 0 (λ z. omega (arith, z))) ∙ ap (λ (cs : List Command). x ∷ cs) e)
cut_at later false x rest xs e = ap (λ (cs : List Command). x ∷ cs) e

before_it : (before behind : List Command) (c : Command) → is_fence c ≡ true → before_fence (suc (fences before)) (before ++ c ∷ behind) ≡ before
unfolding fences
before_it [] behind c is = λ i. if is i && true then [] else c ∷ before_fence (if is i then 0 else 1) behind
before_it (x ∷ xs) behind c is = cut_at (fences xs) (is_fence x) x (xs ++ c ∷ behind) xs (before_it xs behind c is)

before_end : (commands : List Command) → before_fence (suc (fences commands)) commands ≡ commands
unfolding fences
before_end [] = refl
before_end (x ∷ xs) = cut_at (fences xs) (is_fence x) x xs xs (before_end xs)

pub fences_numbered : FencesHaveNumbers
fences_numbered = ((λ before behind c is. number before (λ n. before_fence n (before ++ c ∷ behind) ≡ before) (before_it before behind c is)), (λ commands. number commands (λ n. before_fence n commands ≡ commands) (before_end commands)))
  where
    number : (cs : List Command) (P : ℕ → Type 0) → P (suc (fences cs)) → P (fence_count cs + 1)
    number cs P p = let count = fences_are cs in let same : suc (fences cs) ≡ fence_count cs + 1 = omega (arith, count) in subst P same p
