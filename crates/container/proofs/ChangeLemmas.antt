-- What each change of the entries by version does to what is found.
use Rattle.std.proofs.Common.{◌≡◌, ◌≢◌, ℕ, true, false, cond, List, ◌∷◌, Option, Some, None, inl, inr, slice_set, slice_index_or, refl, sym, ◌∙◌, ap}
use Rattle.std.specs.Prelude.{◌==◌, ◌&&◌, nat_eq, All, IfNone, OnOk, OnErr, OnSome, Ok, Err, Result}
use Rattle.std.specs.HashMap as hash
use Rattle.std.proofs.lemmas.Bool.Decides.{eqb_tells}
use Rattle.app_core.specs.declared.CellName.{CellName}
use Rattle.container.specs.declared.version_entries.VersionEntries.{VersionEntries}
use Rattle.container.specs.Names.{same_name}
use Rattle.container.specs.VersionEntries.{IsFirstAt, find_in, Updates, FindsTheSame, HasTheSame}
use Rattle.container.proofs.VersionLemmas.{is_same, is_apart, find_here, find_missing, find_set}

turned : (a b : ℕ) → (a == b) ≡ (b == a)
turned a b = elim (eqb_tells a b) [
  | inl t ↦ t.0 ∙ sym (is_same b a (sym t.1))
  | inr t ↦ t.0 ∙ sym (is_apart b a (λ e. t.1 (sym e)))
]

-- a fact under an answer, from another
pub on_ok : {T E P Q : Type 0} (r : Result T E) → (P → Q) → OnOk r P → OnOk r Q
on_ok (Ok x) f p = f p
on_ok (Err e) f p = p

pub on_err : {T E P Q : Type 0} (r : Result T E) → (P → Q) → OnErr r P → OnErr r Q
on_err (Ok x) f p = p
on_err (Err e) f p = f p

pub on_some : {T P Q : Type 0} (o : Option T) → (P → Q) → OnSome o P → OnSome o Q
on_some (Some x) f p = f p
on_some None f p = p

pub if_none : {T P Q : Type 0} (o : Option T) → (P → Q) → IfNone o P → IfNone o Q
if_none (Some x) f p = p
if_none None f p = f p

module _ {C : Type 0} where
  pub set_updates : (es : List (VersionEntries C)) (i : ℕ) (n : CellName) (e new : VersionEntries C) (w : Option C) → IsFirstAt n.version es i → e ≡ slice_index_or es i e → new.version ≡ n.version
      → hash.Updates nat_eq e.cells new.cells n.place w → Updates es (slice_set es i new) n w
  set_updates es i n e new w p is of updates = λ q. go q
    where
      go : (q : CellName) → find_in (slice_set es i new) q ≡ cond (same_name q n) w (find_in es q)
      go q = elim (eqb_tells n.version q.version) [
        | inl t ↦
            let a : (q.version == n.version) ≡ true = turned q.version n.version ∙ t.0 in
            let found : find_in es q ≡ hash.get nat_eq e.cells q.place = find_here es i n.version q e p (sym t.1) ∙ ap (λ x. hash.get nat_eq x.cells q.place) (sym is) in
            find_set es i n.version new q p of
            ∙ ap (λ b. cond b (hash.get nat_eq new.cells q.place) (find_in es q)) t.0
            ∙ updates.0 q.place
            ∙ ap (λ b. cond b w (hash.get nat_eq e.cells q.place)) (turned n.place q.place)
            ∙ ap (λ o. cond (q.place == n.place) w o) (sym found)
            ∙ ap (λ b. cond (b && (q.place == n.place)) w (find_in es q)) (sym a)
        | inr t ↦
            let a : (q.version == n.version) ≡ false = turned q.version n.version ∙ t.0 in
            find_set es i n.version new q p of
            ∙ ap (λ b. cond b (hash.get nat_eq new.cells q.place) (find_in es q)) t.0
            ∙ ap (λ b. cond (b && (q.place == n.place)) w (find_in es q)) (sym a)
      ]

  pub set_stays : (es : List (VersionEntries C)) (i v : ℕ) (e new : VersionEntries C) → IsFirstAt v es i → e ≡ slice_index_or es i e → new.version ≡ v
      → HasTheSame e.cells new.cells → FindsTheSame es (slice_set es i new)
  set_stays es i v e new p is of same = λ q. go q
    where
      go : (q : CellName) → find_in (slice_set es i new) q ≡ find_in es q
      go q = elim (eqb_tells v q.version) [
        | inl t ↦
            let found : find_in es q ≡ hash.get nat_eq e.cells q.place = find_here es i v q e p (sym t.1) ∙ ap (λ x. hash.get nat_eq x.cells q.place) (sym is) in
            find_set es i v new q p of
            ∙ ap (λ b. cond b (hash.get nat_eq new.cells q.place) (find_in es q)) t.0
            ∙ same q.place ∙ sym found
        | inr t ↦ find_set es i v new q p of ∙ ap (λ b. cond b (hash.get nat_eq new.cells q.place) (find_in es q)) t.0
      ]

  -- a version that wasn't there
  pub cons_updates : (es : List (VersionEntries C)) (n : CellName) (new : VersionEntries C) (w : Option C) → All (λ e. e.version ≢ n.version) es → new.version ≡ n.version
      → ((place : ℕ) → hash.get nat_eq new.cells place ≡ cond (nat_eq n.place place) w None) → Updates es (new ∷ es) n w
  cons_updates es n new w all of only = λ q. go q
    where
      go : (q : CellName) → find_in (new ∷ es) q ≡ cond (same_name q n) w (find_in es q)
      go q = elim (eqb_tells n.version q.version) [
        | inl t ↦
            let a : (q.version == n.version) ≡ true = turned q.version n.version ∙ t.0 in
            let none : find_in es q ≡ None = find_missing es n.version q all (sym t.1) in
            ap (λ v. cond (v == q.version) (hash.get nat_eq new.cells q.place) (find_in es q)) of
            ∙ ap (λ b. cond b (hash.get nat_eq new.cells q.place) (find_in es q)) t.0
            ∙ only q.place
            ∙ ap (λ b. cond b w None) (turned n.place q.place)
            ∙ ap (λ o. cond (q.place == n.place) w o) (sym none)
            ∙ ap (λ b. cond (b && (q.place == n.place)) w (find_in es q)) (sym a)
        | inr t ↦
            let a : (q.version == n.version) ≡ false = turned q.version n.version ∙ t.0 in
            ap (λ v. cond (v == q.version) (hash.get nat_eq new.cells q.place) (find_in es q)) of
            ∙ ap (λ b. cond b (hash.get nat_eq new.cells q.place) (find_in es q)) t.0
            ∙ ap (λ b. cond (b && (q.place == n.place)) w (find_in es q)) (sym a)
      ]

  -- nothing was there, so nothing is taken out
  pub none_updates : (es : List (VersionEntries C)) (n : CellName) → find_in es n ≡ None → Updates es es n None
  none_updates es n none = λ q. go q
    where
      go : (q : CellName) → find_in es q ≡ cond (same_name q n) None (find_in es q)
      go q = elim (eqb_tells q.version n.version) [
        | inl t ↦ elim (eqb_tells q.place n.place) [
          | inl u ↦ rw (t.0, u.0) ((λ k. find_in es (record { version = t.1 k; place = u.1 k })) ∙ none)
          | inr u ↦ rw (t.0, u.0) refl
        ]
        | inr t ↦ rw (t.0) refl
      ]
