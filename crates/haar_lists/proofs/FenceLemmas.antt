-- Between the last writer of a name and a command that counts the name's entries there is a fence.
use Rattle.std.proofs.Common.{◌≡◌, ℕ, zero, suc, ◌+◌, ◌<◌, ◌≤◌, Bool, true, false, List, [], ◌∷◌, length, map, Some, refl, sym, ap, ◌∙◌, subst, arith}
use Rattle.std.specs.Prelude.{◌||◌, if◌then◌else◌, slice_get, take, ⊤}
use Rattle.std.specs.List.{fold}
use Rattle.app_core.specs.declared.CommandKind.{CommandKind}
use Rattle.app_core.specs.declared.CommandKind.TheVariants as is
use Rattle.event_laws.specs.Held.{fences_before}
use Rattle.tree_model.specs.Commands.{Command}
use Rattle.tree_model.specs.Signatures.{writes}
use Rattle.job_data.specs.Checks.{is_fence, fenced_after, is_fenced}
use Rattle.job_data.specs.Versions.{version_from, version_behind}
use Rattle.haar_units.specs.Jobs.{kind_of}
use Rattle.haar_units.specs.ModelJobs.{operation_of}
use Rattle.haar_units.proofs.EffectLemmas.{some_is, none_is}

abbrev pub kinds_in : List Command → List CommandKind
kinds_in commands = map kind_of (map operation_of commands)

-- one command more

pub kind_is : (c : Command) → kind_of (operation_of c) ≡ (if is_fence c then is.Fence else is.Work)
kind_is (Command.Project name projection) = refl
kind_is (Command.Refine name level) = refl
kind_is (Command.Coarsen name) = refl
kind_is (Command.Compress name) = refl
kind_is (Command.Reconstruct name) = refl
kind_is (Command.Add name a f b g) = refl
kind_is (Command.Mul name f g) = refl
kind_is (Command.Inner f g) = refl
kind_is (Command.Print name) = refl
kind_is (Command.Size name) = refl
kind_is Command.Fence = refl

pub first_kind : (n : ℕ) (b : Bool) (k : CommandKind) (ks : List CommandKind) → k ≡ (if b then is.Fence else is.Work) → fences_before (suc n) (k ∷ ks) ≡ (if b then suc (fences_before n ks) else fences_before n ks)
first_kind n true k ks same = ap (λ (k : CommandKind). fences_before (suc n) (k ∷ ks)) same
first_kind n false k ks same = ap (λ (k : CommandKind). fences_before (suc n) (k ∷ ks)) same

pub fences_next : (cs : List Command) (n : ℕ) (c : Command) → slice_get cs n ≡ Some c → fences_before (suc n) (kinds_in cs) ≡ (if is_fence c then suc (fences_before n (kinds_in cs)) else fences_before n (kinds_in cs))
fences_next [] n c at = none_is c at
fences_next (x ∷ cs) zero c at =
    first_kind 0 (is_fence x) (kind_of (operation_of x)) (kinds_in cs) (kind_is x) ∙ ap (λ (b : Bool). if b then 1 else 0) (ap is_fence (some_is x c at))
fences_next (x ∷ cs) (suc n) c at =
    first_kind (suc n) (is_fence x) (kind_of (operation_of x)) (kinds_in cs) (kind_is x)
    ∙ ap (λ (m : ℕ). if is_fence x then suc m else m) (fences_next cs n c at)
    ∙ go (is_fence x) (is_fence c)
    ∙ ap (λ (m : ℕ). if is_fence c then suc m else m) (sym (first_kind n (is_fence x) (kind_of (operation_of x)) (kinds_in cs) (kind_is x)))
  where
    go : (b d : Bool) → (if b then suc (if d then suc (fences_before n (kinds_in cs)) else fences_before n (kinds_in cs)) else (if d then suc (fences_before n (kinds_in cs)) else fences_before n (kinds_in cs)))
        ≡ (if d then suc (if b then suc (fences_before n (kinds_in cs)) else fences_before n (kinds_in cs)) else (if b then suc (fences_before n (kinds_in cs)) else fences_before n (kinds_in cs)))
    go true true = refl
    go true false = refl
    go false true = refl
    go false false = refl

-- numbers of fences, as more commands come
module _ (fences : ℕ → ℕ) (name : List ℕ) where
  abbrev Counts : ℕ → List Command → Type 0
  Counts count [] = ⊤
  Counts count (c ∷ cs) = (fences (count + 1) ≡ (if is_fence c then suc (fences count) else fences count)) × Counts (count + 1) cs

  lower : (count last : ℕ) (w f : Bool) → fences (count + 1) ≡ (if f then suc (fences count) else fences count) → fences last ≤ fences count → fences (if w then count + 1 else last) ≤ fences (count + 1)
  lower count last true f here le = omega arith
  lower count last false true here le = omega (arith, here, le)
  lower count last false false here le = omega (arith, here, le)

  rises : (count last : ℕ) (w f fenced : Bool) → fences (count + 1) ≡ (if f then suc (fences count) else fences count) → fences last ≤ fences count → (fenced ≡ true → fences last < fences count)
      → (if w then false else (f || fenced)) ≡ true → fences (if w then count + 1 else last) < fences (count + 1)
  rises count last true f fenced here le low e = absurd (cc)
  rises count last false true fenced here le low e = omega (arith, here, le)
  rises count last false false true here le low e = let lt = low refl in omega (arith, here, lt)
  rises count last false false false here le low e = absurd (cc)

  after_writer : (cs : List Command) (count last : ℕ) (fenced : Bool) → Counts count cs → fences last ≤ fences count → (fenced ≡ true → fences last < fences count)
      → fold (fenced_after name) fenced cs ≡ true → fences (version_from (count + 1) last cs name) < fences (count + length cs)
  after_writer [] count last fenced counts le low is = let same : count ≡ count + 0 = omega arith in subst (λ (m : ℕ). fences last < fences m) same (low is)
  after_writer (c ∷ cs) count last fenced counts le low is =
      let more : count + 1 + length cs ≡ count + suc (length cs) = omega arith in
      subst (λ (m : ℕ). fences (version_from (count + 1) last (c ∷ cs) name) < fences m) more
      (after_writer cs (count + 1) (if writes name c then count + 1 else last) (fenced_after name fenced c) counts.1
      (lower count last (writes name c) (is_fence c) counts.0 le) (rises count last (writes name c) (is_fence c) fenced counts.0 le low) is)

-- the first so many commands
in_front : (cs : List Command) (n i : ℕ) (c : Command) → slice_get (take n cs) i ≡ Some c → slice_get cs i ≡ Some c
in_front cs zero i c at = none_is c at
in_front [] (suc n) i c at = none_is c at
in_front (x ∷ cs) (suc n) zero c at = at
in_front (x ∷ cs) (suc n) (suc i) c at = in_front cs n i c at

counted : (all : List Command) (name : List ℕ) (cs : List Command) (count : ℕ) → ((i : ℕ) (c : Command) → slice_get cs i ≡ Some c → slice_get all (count + i) ≡ Some c) → Counts (λ m. fences_before m (kinds_in all)) name count cs
counted all name [] count each = tt
counted all name (c ∷ cs) count each =
    let first : count + 0 ≡ count = omega arith in
    let next : suc count ≡ count + 1 = omega arith in (
      ap (λ (m : ℕ). fences_before m (kinds_in all)) (sym next) ∙ fences_next all count c (ap (slice_get all) (sym first) ∙ each 0 c refl),
      counted all name cs (count + 1) (λ i d at. let same : count + suc i ≡ count + 1 + i = omega arith in ap (slice_get all) (sym same) ∙ each (suc i) d at),
    )

pub fenced_is_before : (all : List Command) (n : ℕ) (name : List ℕ) → length (take n all) ≡ n → is_fenced (take n all) name ≡ true
    → fences_before (version_behind (take n all) name) (kinds_in all) < fences_before n (kinds_in all)
fenced_is_before all n name long fenced =
    let whole : 0 + length (take n all) ≡ n = omega (arith, long) in
    subst (λ (m : ℕ). fences_before (version_behind (take n all) name) (kinds_in all) < fences_before m (kinds_in all)) whole
    (after_writer (λ m. fences_before m (kinds_in all)) name (take n all) 0 0 false
    (counted all name (take n all) 0 (λ i c at. let same : i ≡ 0 + i = omega arith in ap (slice_get all) (sym same) ∙ in_front all n i c at)) (omega arith) (λ e. absurd (cc)) fenced)
