-- Entries by version: what a search finds after each change.
use Rattle.std.proofs.Common.{◌≡◌, ◌≢◌, ℕ, zero, suc, true, false, cond, not, List, [], ◌∷◌, None, inl, inr, slice_set, slice_index_or, refl, arith, sym, ◌∙◌, ap}
use Rattle.std.specs.Prelude.{◌==◌, nat_eq, All}
use Rattle.std.specs.List.{filter}
use Rattle.std.specs.HashMap as hash
use Rattle.std.proofs.lemmas.Bool.Decides.{eqb_tells}
use Rattle.std.proofs.lemmas.List.Elements.{All-head, All-tail}
use Rattle.app_core.specs.declared.CellName.{CellName}
use Rattle.container.specs.declared.version_entries.VersionEntries.{VersionEntries}
use Rattle.container.specs.VersionEntries.{IsFirstAt, find_in}

pub is_same : (a b : ℕ) → a ≡ b → (a == b) ≡ true
is_same a b same = elim (eqb_tells a b) [ inl t ↦ t.0 | inr t ↦ absurd (t.1 same) ]

pub is_apart : (a b : ℕ) → a ≢ b → (a == b) ≡ false
is_apart a b apart = elim (eqb_tells a b) [ inl t ↦ absurd (apart t.1) | inr t ↦ t.0 ]

module _ {C : Type 0} where
  pub tail_first : (v : ℕ) (x : VersionEntries C) (xs : List (VersionEntries C)) (i : ℕ) → IsFirstAt v (x ∷ xs) (suc i) → IsFirstAt v xs i
  tail_first v x xs i p = record {
    within = omega (arith, p.within);
    here = λ d. p.here d;
    before = λ k d below. p.before (suc k) d (omega (arith, below));
  }

  pub head_apart : (v : ℕ) (x : VersionEntries C) (xs : List (VersionEntries C)) (i : ℕ) → IsFirstAt v (x ∷ xs) (suc i) → x.version ≢ v
  head_apart v x xs i p = p.before 0 x (omega arith)

  -- at its place the entries of a version are found
  pub find_here : (es : List (VersionEntries C)) (i v : ℕ) (q : CellName) (d : VersionEntries C) → IsFirstAt v es i → q.version ≡ v → find_in es q ≡ hash.get nat_eq (slice_index_or es i d).cells q.place
  find_here [] i v q d p same = absurd (omega (arith, p.within))
  find_here (x ∷ xs) zero v q d p same =
      let t : (x.version == q.version) ≡ true = is_same x.version q.version (p.here d ∙ sym same) in rw t refl
  find_here (x ∷ xs) (suc i) v q d p same =
      let apart : x.version ≢ q.version = λ e. head_apart v x xs i p (e ∙ same) in
      let t : (x.version == q.version) ≡ false = is_apart x.version q.version apart in
      rw t (find_here xs i v q d (tail_first v x xs i p) same)

  -- of a version that isn't there nothing is found
  pub find_missing : (es : List (VersionEntries C)) (v : ℕ) (q : CellName) → All (λ e. e.version ≢ v) es → q.version ≡ v → find_in es q ≡ None
  find_missing [] v q all same = refl
  find_missing (x ∷ xs) v q all same =
      let apart : x.version ≢ q.version = λ e. All-head (λ e. e.version ≢ v) x xs all (e ∙ same) in
      let t : (x.version == q.version) ≡ false = is_apart x.version q.version apart in
      rw t (find_missing xs v q (All-tail (λ e. e.version ≢ v) x xs all) same)

  -- other entries at the place of a version
  pub find_set : (es : List (VersionEntries C)) (i v : ℕ) (e : VersionEntries C) (q : CellName) → IsFirstAt v es i → e.version ≡ v → find_in (slice_set es i e) q ≡ cond (v == q.version) (hash.get nat_eq e.cells q.place) (find_in es q)
  find_set [] i v e q p of = absurd (omega (arith, p.within))
  find_set (x ∷ xs) zero v e q p of =
      let here : x.version ≡ v = p.here x in
      elim (eqb_tells v q.version) [
        | inl t ↦ let a : (e.version == q.version) ≡ true = is_same e.version q.version (of ∙ t.1) in rw (a, t.0) refl
        | inr t ↦
            let a : (e.version == q.version) ≡ false = is_apart e.version q.version (λ s. t.1 (sym of ∙ s)) in
            let b : (x.version == q.version) ≡ false = is_apart x.version q.version (λ s. t.1 (sym here ∙ s)) in
            rw (a, t.0, b) refl
      ]
  find_set (x ∷ xs) (suc i) v e q p of =
      let rest = find_set xs i v e q (tail_first v x xs i p) of in
      elim (eqb_tells x.version q.version) [
        | inl t ↦
            let a : (v == q.version) ≡ false = is_apart v q.version (λ s. head_apart v x xs i p (t.1 ∙ sym s)) in
            rw (t.0, a) refl
        | inr t ↦ rw (t.0) rest
      ]

  -- without the entries of a version
  pub find_without : (es : List (VersionEntries C)) (v : ℕ) (q : CellName) → find_in (filter (λ e. not (e.version == v)) es) q ≡ cond (v == q.version) None (find_in es q)
  find_without [] v q = elim (eqb_tells v q.version) [ inl t ↦ rw (t.0) refl | inr t ↦ rw (t.0) refl ]
  find_without (x ∷ xs) v q =
      let rest = find_without xs v q in
      elim (eqb_tells x.version v) [
        | inl s ↦ elim (eqb_tells v q.version) [
          | inl t ↦ rw (s.0, t.0) (rest ∙ ap (λ b. cond b None (find_in xs q)) t.0)
          | inr t ↦
              let a : (x.version == q.version) ≡ false = is_apart x.version q.version (λ e. t.1 (sym s.1 ∙ e)) in
              rw (s.0, t.0, a) (rest ∙ ap (λ b. cond b None (find_in xs q)) t.0)
        ]
        | inr s ↦ elim (eqb_tells x.version q.version) [
          | inl t ↦
              let a : (v == q.version) ≡ false = is_apart v q.version (λ e. s.1 (t.1 ∙ sym e)) in
              rw (s.0, t.0, a) refl
          | inr t ↦ rw (s.0, t.0) rest
        ]
      ]
