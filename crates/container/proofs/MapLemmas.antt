-- The entries by version, as the finite map that contracts see.
use Rattle.std.proofs.Common.{◌≡◌, ℕ, ◌+◌, Bool, true, false, cond, not, List, [], ◌∷◌, ◌++◌, Option, Some, None, inl, inr, length, map, refl, sym, ◌∙◌, ap, rules, add-one}
use Rattle.std.specs.Prelude.{◌==◌, ◌&&◌, nat_eq, is_some}
use Rattle.std.specs.List.{filter, list_any, IsDistinct, AllByRecursion}
use Rattle.std.specs.Ordering.{nat_cmp, ordering_then, eq_by_cmp}
use Rattle.std.specs.declared.cmp.Ordering.{Ordering}
use Rattle.std.specs.declared.cmp.Ordering.TheVariants.{Less, Equal, Greater}
use Rattle.std.specs.Cmp.{IsTotalOrder}
use Rattle.std.specs.Cmp.Rules.{comparing}
use Rattle.std.specs.Map.{lookup, keys_of}
use Rattle.std.proofs.lemmas.Map.Made.{is_some-lookup}
use Rattle.std.specs.FinMap as fin
use Rattle.std.proofs.lemmas.Bool.Decides.{eqb_tells}
use Rattle.app_core.specs.declared.CellName.{CellName}
use Rattle.container.specs.declared.version_entries.VersionEntries.{VersionEntries}
use Rattle.container.specs.Names.{name_cmp, same_name, is_of}
use Rattle.container.specs.VersionEntries.{name_at, named, all_entries, find_in, Updates, FindsTheSame, Counts}
use Rattle.container.proofs.VersionLemmas.{is_same, is_apart}

pub names_total : IsTotalOrder name_cmp
names_total = search (comparing, rules)

both_tie : (a b : Ordering) → ordering_then a b ≡ Equal → (a ≡ Equal) × (b ≡ Equal)
both_tie Less b e = (cc, cc)
both_tie Equal b e = (refl, e)
both_tie Greater b e = (cc, cc)

pub names_apart : fin.IsAntisymmetric name_cmp
names_apart x y e =
    let tie = both_tie (nat_cmp x.version y.version) (nat_cmp x.place y.place) e in
    let version = fin.nat_cmp-IsAntisymmetric x.version y.version tie.0 in
    let place = fin.nat_cmp-IsAntisymmetric x.place y.place tie.1 in
    λ i. record { version = version i; place = place i }

-- the order ties exactly where the names are equal
pub tied : (a b : CellName) → eq_by_cmp name_cmp a b ≡ same_name a b
tied a b = search (comparing, rules)

same_turned : (a b : ℕ) → (a == b) ≡ (b == a)
same_turned a b = elim (eqb_tells a b) [
  | inl t ↦ t.0 ∙ sym (is_same b a (sym t.1))
  | inr t ↦ t.0 ∙ sym (is_apart b a (λ e. t.1 (sym e)))
]

abbrev first : {C : Type 0} → Option C → Option C → Option C
first (Some c) o = Some c
first None o = o

pub same_version : (q x : CellName) → name_cmp q x ≡ Equal → x ≡ q
same_version q x e = sym (names_apart q x e)

distinct_head : (k : ℕ) (ks : List ℕ) → AllByRecursion (λ y. nat_eq k y ≡ false) ks → list_any (nat_eq k) ks ≡ false
distinct_head k [] all = refl
distinct_head k (x ∷ xs) all = rw (all.0) (distinct_head k xs all.1)

module _ {C : Type 0} where
  first_none : (o : Option C) → first o None ≡ o
  first_none (Some c) = refl
  first_none None = refl

  append_go : (b : Bool) (x : C) (l r o : Option C) → l ≡ first r o → cond b (Some x) l ≡ first (cond b (Some x) r) o
  append_go true x l r o e = refl
  append_go false x l r o e = e

  find_append : (q : CellName) (xs ys : List (CellName × C)) → fin.find name_cmp q (xs ++ ys) ≡ first (fin.find name_cmp q xs) (fin.find name_cmp q ys)
  find_append q [] ys = refl
  find_append q (x ∷ xs) ys = append_go (eq_by_cmp name_cmp q x.0) x.1 _ _ _ (find_append q xs ys)

  find_named : (v : ℕ) (q : CellName) (ps : List (ℕ × C)) → fin.find name_cmp q (map (name_at v) ps) ≡ cond (v == q.version) (lookup (nat_eq q.place) ps) None
  find_named v q [] = elim (eqb_tells v q.version) [ inl t ↦ rw (t.0) refl | inr t ↦ rw (t.0) refl ]
  find_named v q (p ∷ ps) =
      ap (λ b. cond b (Some p.1) (fin.find name_cmp q (map (name_at v) ps))) (tied q (record { version = v; place = p.0 }))
      ∙ ap (λ o. cond ((q.version == v) && (q.place == p.0)) (Some p.1) o) (find_named v q ps)
      ∙ ap (λ b. cond (b && (q.place == p.0)) (Some p.1) (cond (v == q.version) (lookup (nat_eq q.place) ps) None)) (same_turned q.version v)
      ∙ go (v == q.version)
    where
      go : (b : Bool) → cond (b && (q.place == p.0)) (Some p.1) (cond b (lookup (nat_eq q.place) ps) None) ≡ cond b (lookup (nat_eq q.place) (p ∷ ps)) None
      go true = refl
      go false = refl

  find_others : (v : ℕ) (q : CellName) (ps : List (CellName × C)) → fin.find name_cmp q (filter (λ p. not (is_of v p.0)) ps) ≡ cond (v == q.version) None (fin.find name_cmp q ps)
  find_others v q [] = elim (eqb_tells v q.version) [ inl t ↦ rw (t.0) refl | inr t ↦ rw (t.0) refl ]
  find_others v q (p ∷ ps) =
      let rest = find_others v q ps in
      let tie = tied q p.0 in
      elim (eqb_tells p.0.version v) [
        | inl s ↦ elim (eqb_tells v q.version) [
          | inl t ↦ rw (s.0, t.0) (rest ∙ ap (λ b. cond b None (fin.find name_cmp q ps)) t.0)
          | inr t ↦
              let a : (q.version == p.0.version) ≡ false = is_apart q.version p.0.version (λ e. t.1 (sym s.1 ∙ sym e)) in
              rw (s.0, t.0, tie, a) (rest ∙ ap (λ b. cond b None (fin.find name_cmp q ps)) t.0)
        ]
        | inr s ↦ elim (eqb_tells v q.version) [
          | inl t ↦
              let a : (q.version == p.0.version) ≡ false = is_apart q.version p.0.version (λ e. s.1 (sym e ∙ sym t.1)) in
              rw (s.0, t.0, tie, a) (rest ∙ ap (λ b. cond b None (fin.find name_cmp q ps)) t.0)
          | inr t ↦ rw (s.0, t.0) (ap (λ o. cond (eq_by_cmp name_cmp q p.0) (Some p.1) o) (rest ∙ ap (λ b. cond b None (fin.find name_cmp q ps)) t.0))
        ]
      ]

  find_all : (es : List (VersionEntries C)) (q : CellName) → fin.find name_cmp q (all_entries es) ≡ find_in es q
  find_all [] q = refl
  find_all (e ∷ es) q =
      find_append q (named e) (filter (λ p. not (is_of e.version p.0)) (all_entries es))
      ∙ ap (λ o. first o (fin.find name_cmp q (filter (λ p. not (is_of e.version p.0)) (all_entries es)))) (find_named e.version q e.cells.entries)
      ∙ ap (λ o. first (cond (e.version == q.version) (lookup (nat_eq q.place) e.cells.entries) None) o) (find_others e.version q (all_entries es) ∙ ap (λ o. cond (e.version == q.version) None o) (find_all es q))
      ∙ go (e.version == q.version)
    where
      go : (b : Bool) → first (cond b (lookup (nat_eq q.place) e.cells.entries) None) (cond b None (find_in es q)) ≡ cond b (lookup (nat_eq q.place) e.cells.entries) (find_in es q)
      go true = first_none (lookup (nat_eq q.place) e.cells.entries)
      go false = refl

  pub view_get : (es : List (VersionEntries C)) (q : CellName) → fin.get (fin.from_entries {R = name_cmp} (all_entries es)) q ≡ find_in es q
  view_get es q = fin.get-from_entries names_total (all_entries es) q ∙ find_all es q

  pub view_same : (es fs : List (VersionEntries C)) → FindsTheSame es fs → fin.from_entries {R = name_cmp} (all_entries fs) ≡ fin.from_entries (all_entries es)
  view_same es fs stay = fin.same_map names_total names_apart _ _ (λ q. view_get fs q ∙ stay q ∙ sym (view_get es q))

  pub view_insert : (es fs : List (VersionEntries C)) (n : CellName) (c : C) → Updates es fs n (Some c) → fin.from_entries {R = name_cmp} (all_entries fs) ≡ fin.insert (fin.from_entries (all_entries es)) n c
  view_insert es fs n c updates = fin.same_map names_total names_apart _ _
      (λ q. view_get fs q ∙ updates q ∙ sym (fin.get-insert names_total (fin.from_entries (all_entries es)) n c q ∙ ap (λ b. cond b (Some c) (fin.get (fin.from_entries {R = name_cmp} (all_entries es)) q)) (tied q n) ∙ ap (λ o. cond (same_name q n) (Some c) o) (view_get es q)))

  pub view_remove : (es fs : List (VersionEntries C)) (n : CellName) → Updates es fs n None → fin.from_entries {R = name_cmp} (all_entries fs) ≡ fin.remove (fin.from_entries (all_entries es)) n
  view_remove es fs n updates = fin.same_map names_total names_apart _ _
      (λ q. view_get fs q ∙ updates q ∙ sym (fin.get-remove names_total (fin.from_entries (all_entries es)) n q ∙ ap (λ b. cond b None (fin.get (fin.from_entries {R = name_cmp} (all_entries es)) q)) (tied q n) ∙ ap (λ o. cond (same_name q n) None o) (view_get es q)))

  pub view_without : (es fs : List (VersionEntries C)) (v : ℕ) → ((q : CellName) → find_in fs q ≡ cond (v == q.version) None (find_in es q)) → fin.from_entries {R = name_cmp} (all_entries fs) ≡ fin.retain_keys (fin.from_entries (all_entries es)) (λ n. not (is_of v n))
  view_without es fs v without = fin.same_map names_total names_apart _ _ (λ q.
      view_get fs q ∙ without q ∙ sym (
      fin.get-retain_keys (fin.from_entries {R = name_cmp} (all_entries es)) (λ n. not (is_of v n)) q (λ x e. ap (λ n. not (is_of v n)) (same_version q x e))
      ∙ ap (λ o. cond (not (is_of v q)) o None) (view_get es q)
      ∙ flipped (q.version == v) (find_in es q)
      ∙ ap (λ b. cond b None (find_in es q)) (same_turned q.version v)))
    where
      flipped : (b : Bool) (o : Option C) → cond (not b) o None ≡ cond b None o
      flipped true o = refl
      flipped false o = refl

  -- the map of pairs with distinct places has as many entries
  pub len_named : (v : ℕ) (ps : List (ℕ × C)) → IsDistinct nat_eq (keys_of ps) → fin.len (fin.from_entries {R = name_cmp} (map (name_at v) ps)) ≡ length ps
  unfolding IsDistinct
  len_named v [] distinct = fin.len-empty name_cmp C
  len_named v (p ∷ ps) distinct =
      let n : CellName = record { version = v; place = p.0 } in
      let m : fin.FinMap name_cmp C = fin.from_entries {R = name_cmp} (map (name_at v) ps) in
      let missing : is_some (fin.get m n) ≡ false =
      ap is_some (fin.get-from_entries names_total (map (name_at v) ps) n ∙ find_named v n ps ∙ ap (λ b. cond b (lookup (nat_eq p.0) ps) None) (is_same v v refl))
      ∙ is_some-lookup (nat_eq p.0) ps ∙ distinct_head p.0 (keys_of ps) distinct.0 in
      fin.len-insert names_total m n p.1 ∙ ap (λ b. cond b (fin.len m) (fin.len m + 1)) missing ∙ ap (λ k. k + 1) (len_named v ps distinct.1) ∙ add-one (length ps)

  count_here : (es : List (VersionEntries C)) (v : ℕ) (ps : List (ℕ × C)) (q : CellName) → ((place : ℕ) → find_in es (record { version = v; place = place }) ≡ lookup (nat_eq place) ps) → cond (q.version == v) (find_in es q) None ≡ cond (q.version == v) (lookup (nat_eq q.place) ps) None
  count_here es v ps q found = elim (eqb_tells q.version v) [
    | inl t ↦ rw (t.0) ((λ k. find_in es (record { version = t.1 k; place = q.place })) ∙ found q.place)
    | inr t ↦ rw (t.0) refl
  ]

  count_same : (es : List (VersionEntries C)) (v : ℕ) (ps : List (ℕ × C)) (q : CellName) → ((place : ℕ) → find_in es (record { version = v; place = place }) ≡ lookup (nat_eq place) ps)
      → fin.get (fin.retain_keys (fin.from_entries {R = name_cmp} (all_entries es)) (is_of v)) q ≡ fin.get (fin.from_entries {R = name_cmp} (map (name_at v) ps)) q
  count_same es v ps q found =
      fin.get-retain_keys (fin.from_entries {R = name_cmp} (all_entries es)) (is_of v) q (λ x e. ap (is_of v) (same_version q x e))
      ∙ ap (λ o. cond (is_of v q) o None) (view_get es q)
      ∙ count_here es v ps q found
      ∙ ap (λ b. cond b (lookup (nat_eq q.place) ps) None) (same_turned q.version v)
      ∙ sym (fin.get-from_entries names_total (map (name_at v) ps) q ∙ find_named v q ps)

  pub view_count : (es : List (VersionEntries C)) (v n : ℕ) → Counts v es n → fin.len (fin.retain_keys (fin.from_entries {R = name_cmp} (all_entries es)) (is_of v)) ≡ n
  view_count es v n counts =
      ap fin.len (fin.same_map names_total names_apart _ _ (λ q. count_same es v counts.0 q counts.3)) ∙ len_named v counts.0 counts.1 ∙ counts.2
