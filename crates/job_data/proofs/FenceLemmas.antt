-- The last fence among commands, and whether it comes after the last writer of a tree.
use Rattle.std.proofs.Common.{◌≡◌, ℕ, suc, ◌+◌, ◌-◌, ◌≤◌, Bool, true, false, List, [], ◌∷◌, length, refl, sym, arith}
use Rattle.std.specs.Prelude.{◌||◌, nat_lt, if◌then◌else◌}
use Rattle.std.specs.List.{fold}
use Rattle.std.proofs.lemmas.Bool.{le-ltb, lt-ltb, true≢false}
use Rattle.tree_model.specs.Commands.{Command}
use Rattle.tree_model.specs.Commands.Command.{Fence}
use Rattle.tree_model.specs.Signatures.{writes}
use Rattle.job_data.specs.Checks.{is_fence, since_fence, fenced_after, is_fenced}
use Rattle.job_data.specs.Versions.{version_from, version_behind}

-- a fence writes no tree
fence_writes_nothing : (name : List ℕ) (c : Command) → is_fence c ≡ true → writes name c ≡ false
fence_writes_nothing name Fence is = refl
fence_writes_nothing name c is = cc

-- the number of commands since the last fence, with one more
abbrev since_after : ℕ → Command → ℕ
since_after count c = if is_fence c then 0 else count + 1

-- of so many commands, the last that writes a name has one number, and the last fence another
record AreNumbers (count last since : ℕ) : Type 0 where
  writer : last ≤ count
  fence : since ≤ count

numbers_after : (count last since : ℕ) (w f : Bool) → AreNumbers count last since → AreNumbers (count + 1) (if w then count + 1 else last) (if f then 0 else since + 1)
numbers_after count last since true true are = record { writer = omega arith; fence = omega arith }
numbers_after count last since true false are = record { writer = omega arith; fence = omega (arith, are.fence) }
numbers_after count last since false true are = record { writer = omega (arith, are.writer); fence = omega arith }
numbers_after count last since false false are = record { writer = omega (arith, are.writer); fence = omega (arith, are.fence) }

-- one more command
fenced_next :
    (count last since : ℕ) (fenced w f : Bool) →
    AreNumbers count last since →
    (f ≡ true → w ≡ false) →
    fenced ≡ nat_lt last (count - since) →
    (if w then false else (f || fenced)) ≡ nat_lt (if w then count + 1 else last) (count + 1 - (if f then 0 else since + 1))
fenced_next count last since fenced true true are apart is = absurd (true≢false (apart refl))
fenced_next count last since fenced true false are apart is = sym (le-ltb (count + 1) (count + 1 - (since + 1)) (omega arith))
fenced_next count last since fenced false true are apart is = sym (lt-ltb last (count + 1 - 0) (omega (arith, are.writer)))
fenced_next count last since fenced false false are apart is =
    let same : count + 1 - (since + 1) ≡ count - since = omega arith in
    rw same is

since_within_from : (count since : ℕ) (cs : List Command) → since ≤ count → fold since_after since cs ≤ count + length cs
since_within_from count since [] within = omega (arith, within)
since_within_from count since (c ∷ cs) within =
    elim (is_fence c) as (λ f. fold since_after (if f then 0 else since + 1) cs ≤ count + suc (length cs)) [
      | true ↦ omega (arith, since_within_from (count + 1) 0 cs (omega arith))
      | false ↦ omega (arith, since_within_from (count + 1) (since + 1) cs (omega (arith, within)))
    ]

-- there are no more commands since the last fence than commands
pub since_within : (cs : List Command) → since_fence cs ≤ length cs
since_within cs = omega (arith, since_within_from 0 0 cs (omega arith))

fenced_from :
    (count last since : ℕ) (fenced : Bool) (cs : List Command) (name : List ℕ) →
    AreNumbers count last since →
    fenced ≡ nat_lt last (count - since) →
    fold (fenced_after name) fenced cs ≡ nat_lt (version_from (count + 1) last cs name) (count + length cs - fold since_after since cs)
fenced_from count last since fenced [] name are is =
    let same : count + 0 - since ≡ count - since = omega arith in
    rw same is
fenced_from count last since fenced (c ∷ cs) name are is =
    let more : count + suc (length cs) ≡ count + 1 + length cs = omega arith in
    let rest = fenced_from (count + 1) (if writes name c then count + 1 else last) (since_after since c) (fenced_after name fenced c) cs name (numbers_after count last since (writes name c) (is_fence c) are) (fenced_next count last since fenced (writes name c) (is_fence c) are (fence_writes_nothing name c) is) in
    rw more rest

-- a fence comes after the last writer of a name where the writer's number is below that of the last fence
pub fenced_by_number : (cs : List Command) (name : List ℕ) → is_fenced cs name ≡ nat_lt (version_behind cs name) (length cs - since_fence cs)
fenced_by_number cs name =
    let whole : 0 + length cs ≡ length cs = omega arith in
    rw whole at (fenced_from 0 0 0 false cs name (record { writer = omega arith; fence = omega arith }) (sym (le-ltb 0 (0 - 0) (omega arith))))
