-- Lemmas that crates above use: the places of a program that the commands make.
use Rattle.std.proofs.Common.{◌≡◌, ◌⊎◌, ℕ, zero, suc, ◌+◌, List, [], ◌∷◌, ◌++◌, length, refl, sym, ap, ◌∙◌, subst, inl, inr, ⊎_elim, arith}
use Rattle.std.specs.Prelude.{Some, map, take, slice_get}
use Rattle.app_core.specs.declared.label.Label.{Label}
use Rattle.app_core.specs.declared.outline.Outline.{Outline}
use Rattle.app_core.specs.declared.outline.CommandKind.{CommandKind}
use Rattle.app_core.specs.declared.outline.CommandKind.TheVariants.{Work, Fence}
use Rattle.app_core.specs.Commands.{IsWork}
use Rattle.event_laws.specs.Follows.{Doing, Start, Wait, program_from}
use Rattle.event_laws.specs.Trees.{unit_of}
use Rattle.event_laws.specs.Stages.{fences_in, IsStaged}
use Rattle.event_laws.specs.Held.{fences_before}

in_front : (xs : List Outline) (rest : List Doing) (k : ℕ) (o : Outline) → slice_get (map Start xs ++ rest) k ≡ Some (Start o)
    → ((slice_get xs k ≡ Some o) × (fences_in (take k (map Start xs ++ rest)) ≡ 0)) ⊎ ((j : ℕ) × (slice_get rest j ≡ Some (Start o)) × (fences_in (take k (map Start xs ++ rest)) ≡ fences_in (take j rest)))
in_front [] rest k o e = inr (k, e, refl)
in_front (x ∷ xs) rest zero o e = inl (let z : Start x ≡ Start o = cc in let same : x ≡ o = cc in ap Some same, refl)
in_front (x ∷ xs) rest (suc k) o e = in_front xs rest k o e

at_front : (xs : List Outline) (rest : List Doing) (i : ℕ) (o : Outline) → slice_get xs i ≡ Some o → (slice_get (map Start xs ++ rest) i ≡ Some (Start o)) × (fences_in (take i (map Start xs ++ rest)) ≡ 0)
at_front [] rest i o e = absurd (cc)
at_front (x ∷ xs) rest zero o e = (let same : x ≡ o = cc in ap (λ (z : Outline). Some (Start z)) same, refl)
at_front (x ∷ xs) rest (suc i) o e = at_front xs rest i o e

behind : (xs : List Outline) (rest : List Doing) (j : ℕ) (o : Outline) → slice_get rest j ≡ Some (Start o) → (k : ℕ) × (slice_get (map Start xs ++ rest) k ≡ Some (Start o)) × (fences_in (take k (map Start xs ++ rest)) ≡ fences_in (take j rest))
behind [] rest j o e = (j, e, refl)
behind (x ∷ xs) rest j o e = let r = behind xs rest j o e in (suc r.0, r.1, r.2)

-- a start in the program is one of a work command, after the fences before it
pub start_of_command : (starts : ℕ → List Outline) (b : ℕ) (ks : List CommandKind) (k : ℕ) (o : Outline) → slice_get (program_from b ks starts) k ≡ Some (Start o)
    → (c : ℕ) × (i : ℕ) × (slice_get ks c ≡ Some Work) × (slice_get (starts (b + c)) i ≡ Some o) × (fences_in (take k (program_from b ks starts)) ≡ fences_before (suc c) ks)
start_of_command starts b [] zero o e = absurd (let z : Wait ≡ Start o = cc in cc)
start_of_command starts b [] (suc k) o e = absurd (cc)
start_of_command starts b (Fence ∷ ks) zero o e = absurd (let z : Wait ≡ Start o = cc in cc)
start_of_command starts b (Fence ∷ ks) (suc k) o e =
    let r = start_of_command starts (suc b) ks k o e in
    let next : suc b + r.0 ≡ b + suc r.0 = omega arith in
    (suc r.0, r.1, r.2, subst (λ (z : ℕ). slice_get (starts z) r.1 ≡ Some o) next r.3, ap suc r.4)
start_of_command starts b (Work ∷ ks) k o e = ⊎_elim
    (λ here. (zero, k, refl, subst (λ (z : ℕ). slice_get (starts z) k ≡ Some o) (omega arith) here.0, here.1))
    (λ there.
    let r = start_of_command starts (suc b) ks there.0 o there.1 in
    let next : suc b + r.0 ≡ b + suc r.0 = omega arith in
    (suc r.0, r.1, r.2, subst (λ (z : ℕ). slice_get (starts z) r.1 ≡ Some o) next r.3, there.2 ∙ r.4))
    (in_front (starts b) (program_from (suc b) ks starts) k o e)

-- and each start of a work command is there
pub command_starts : (starts : ℕ → List Outline) (b : ℕ) (ks : List CommandKind) (c i : ℕ) (o : Outline) → slice_get ks c ≡ Some Work → slice_get (starts (b + c)) i ≡ Some o
    → (k : ℕ) × (slice_get (program_from b ks starts) k ≡ Some (Start o)) × (fences_in (take k (program_from b ks starts)) ≡ fences_before (suc c) ks)
command_starts starts b [] c i o w e = absurd (cc)
command_starts starts b (Fence ∷ ks) zero i o w e = absurd (let z : Fence ≡ Work = cc in cc)
command_starts starts b (Fence ∷ ks) (suc c) i o w e =
    let next : b + suc c ≡ suc b + c = omega arith in
    let r = command_starts starts (suc b) ks c i o w (subst (λ (z : ℕ). slice_get (starts z) i ≡ Some o) next e) in
    (suc r.0, r.1, ap suc r.2)
command_starts starts b (Work ∷ ks) zero i o w e =
    let next : b + 0 ≡ b = omega arith in
    let r = at_front (starts b) (program_from (suc b) ks starts) i o (subst (λ (z : ℕ). slice_get (starts z) i ≡ Some o) next e) in
    (i, r.0, r.1)
command_starts starts b (Work ∷ ks) (suc c) i o w e =
    let next : b + suc c ≡ suc b + c = omega arith in
    let r = command_starts starts (suc b) ks c i o w (subst (λ (z : ℕ). slice_get (starts z) i ≡ Some o) next e) in
    let s = behind (starts b) (program_from (suc b) ks starts) r.0 o r.1 in
    (s.0, s.1, s.2 ∙ r.2)

-- where labels have their commands, they tell how many fences come before
pub stages : (kinds : List CommandKind) (starts : ℕ → List Outline) (may : Label → List Outline → Type 0)
    → ((command i : ℕ) (o : Outline) (u : Label) → IsWork kinds command → slice_get (starts command) i ≡ Some o → unit_of o ≡ Some u → u.command ≡ command)
    → ((p : Label) (os : List Outline) (i : ℕ) (o : Outline) (u : Label) → may p os → slice_get os i ≡ Some o → unit_of o ≡ Some u → u.command ≡ p.command)
    → IsStaged (program_from 1 kinds starts) may (λ u. fences_before u.command kinds)
stages kinds starts may started spawned = record {
  starts = λ k o u e unit.
      let r = start_of_command starts 1 kinds k o e in
      let next : 1 + r.0 ≡ suc r.0 = omega arith in
      let command = started (suc r.0) r.1 o u r.2 (subst (λ (z : ℕ). slice_get (starts z) r.1 ≡ Some o) next r.3) unit in
      ap (λ (z : ℕ). fences_before z kinds) command ∙ sym r.4;
  steps = λ p os i o u m e unit. ap (λ (z : ℕ). fences_before z kinds) (spawned p os i o u m e unit);
}

-- where a start of a command is in the program
abbrev index_of : (ℕ → List Outline) → ℕ → List CommandKind → ℕ → ℕ → ℕ
index_of starts b [] c i = 0
index_of starts b (Work ∷ ks) zero i = i
index_of starts b (Work ∷ ks) (suc c) i = length (starts b) + index_of starts (suc b) ks c i
index_of starts b (Fence ∷ ks) zero i = 0
index_of starts b (Fence ∷ ks) (suc c) i = suc (index_of starts (suc b) ks c i)

either_part : (xs : List Outline) (rest : List Doing) (k : ℕ) (o : Outline) → slice_get (map Start xs ++ rest) k ≡ Some (Start o)
    → (slice_get xs k ≡ Some o) ⊎ ((j : ℕ) × (slice_get rest j ≡ Some (Start o)) × (k ≡ length xs + j))
either_part [] rest k o e = inr (k, e, omega arith)
either_part (x ∷ xs) rest zero o e = inl (let z : Start x ≡ Start o = cc in let same : x ≡ o = cc in ap Some same)
either_part (x ∷ xs) rest (suc k) o e = ⊎_elim (λ h. inl h) (λ r. inr (r.0, r.1, (let n : k ≡ length xs + r.0 = r.2 in omega arith))) (either_part xs rest k o e)

index_is : (starts : ℕ → List Outline) (b : ℕ) (ks : List CommandKind) (k : ℕ) (o : Outline) → slice_get (program_from b ks starts) k ≡ Some (Start o)
    → (c : ℕ) × (i : ℕ) × (slice_get ks c ≡ Some Work) × (slice_get (starts (b + c)) i ≡ Some o) × (k ≡ index_of starts b ks c i)
index_is starts b [] zero o e = absurd (let z : Wait ≡ Start o = cc in cc)
index_is starts b [] (suc k) o e = absurd (cc)
index_is starts b (Fence ∷ ks) zero o e = absurd (let z : Wait ≡ Start o = cc in cc)
index_is starts b (Fence ∷ ks) (suc k) o e =
    let r = index_is starts (suc b) ks k o e in
    let next : suc b + r.0 ≡ b + suc r.0 = omega arith in
    (suc r.0, r.1, r.2, subst (λ (z : ℕ). slice_get (starts z) r.1 ≡ Some o) next r.3, ap suc r.4)
index_is starts b (Work ∷ ks) k o e = ⊎_elim
    (λ here. (zero, k, refl, subst (λ (z : ℕ). slice_get (starts z) k ≡ Some o) (omega arith) here, refl))
    (λ there.
    let r = index_is starts (suc b) ks there.0 o there.1 in
    let next : suc b + r.0 ≡ b + suc r.0 = omega arith in
    (suc r.0, r.1, r.2, subst (λ (z : ℕ). slice_get (starts z) r.1 ≡ Some o) next r.3, there.2 ∙ ap (λ (z : ℕ). length (starts b) + z) r.4))
    (either_part (starts b) (program_from (suc b) ks starts) k o e)

-- where the label of a unit that a command starts tells the command, and its place among the starts of this, no program has
-- it twice
pub one_start : (kinds : List CommandKind) (starts : ℕ → List Outline) (place : Label → ℕ)
    → ((command i : ℕ) (o : Outline) (u : Label) → IsWork kinds command → slice_get (starts command) i ≡ Some o → unit_of o ≡ Some u → (u.command ≡ command) × (place u ≡ i))
    → (k j : ℕ) (o q : Outline) (u : Label) → slice_get (program_from 1 kinds starts) k ≡ Some (Start o) → slice_get (program_from 1 kinds starts) j ≡ Some (Start q) → unit_of o ≡ Some u → unit_of q ≡ Some u → k ≡ j
one_start kinds starts place tells k j o q u e f s t =
    let a = index_is starts 1 kinds k o e in
    let b = index_is starts 1 kinds j q f in
    let c = tells (suc a.0) a.1 o u a.2 (subst (λ (z : ℕ). slice_get (starts z) a.1 ≡ Some o) (omega arith) a.3) s in
    let d = tells (suc b.0) b.1 q u b.2 (subst (λ (z : ℕ). slice_get (starts z) b.1 ≡ Some q) (omega arith) b.3) t in
    let commands : a.0 ≡ b.0 = omega (arith, c.0, d.0) in
    let places : a.1 ≡ b.1 = sym c.1 ∙ d.1 in
    a.4 ∙ (λ m. index_of starts 1 kinds (commands m) (places m)) ∙ sym b.4
