-- Names that are waited for have no entry, whatever is done to the entries.
use Rattle.std.proofs.Common.{◌≡◌, ℕ, Bool, true, false, cond, not, List, [], ◌∷◌, Option, Some, None, inl, inr, map, refl, sym, ◌∙◌, ap, rules, arith, length}
use Rattle.std.proofs.lemmas.Bool.Decides.{nat_tests}
use Rattle.std.specs.Prelude.{◌==◌, IsSome, is_some, if◌then◌else◌}
use Rattle.std.specs.List.{filter}
use Rattle.std.specs.FinMap as fin
use Rattle.std.specs.Ordering.{eq_by_cmp}
use Rattle.std.proofs.lemmas.Bool.Decides.{eqb_tells}
use Rattle.app_core.specs.declared.CellName.{CellName}
use Rattle.future_cell.specs.declared.Callback.{Callback}
use Rattle.container.specs.declared.look_ups.LookUp.{LookUp}
use Rattle.container.specs.Names.{name_cmp, same_name, is_of}
use Rattle.container.specs.LookUps.{callbacks_of, others}
use Rattle.container.specs.BinState.{AreMissing}
use Rattle.container.proofs.MapLemmas.{names_total, tied, same_version}

-- nothing waits for the name, so the others are all
pub others_are_all : (name : CellName) (waiting : List LookUp) → callbacks_of name waiting ≡ [] → others name waiting ≡ waiting
others_are_all name [] none = refl
others_are_all name (l ∷ ls) none = go (same_name l.name name) none (λ e. others_are_all name ls e)
  where
    go : (b : Bool) → map (λ l. l.callback) (cond b (l ∷ filter (λ l. same_name l.name name) ls) (filter (λ l. same_name l.name name) ls)) ≡ []
        → (callbacks_of name ls ≡ [] → others name ls ≡ ls)
        → cond (not b) (l ∷ others name ls) (others name ls) ≡ l ∷ ls
    go true none rest = absurd (cc)
    go false none rest = ap (λ ls. l ∷ ls) (rest none)

-- a list of no length is empty
pub empty_list : (cs : List Callback) → (length cs == 0) ≡ true → cs ≡ []
empty_list [] e = refl
empty_list (c ∷ cs) e = absurd (grind (arith, nat_tests, e))

-- equal names are one
pub same_names : (a b : CellName) → same_name a b ≡ true → a ≡ b
same_names a b same = elim (eqb_tells a.version b.version) [
  | inl t ↦ elim (eqb_tells a.place b.place) [
    | inl u ↦ λ i. record { version = t.1 i; place = u.1 i }
    | inr u ↦ absurd (search (rules, same, t.0, u.0))
  ]
  | inr t ↦ absurd (search (rules, same, t.0))
]

none_or : {C : Type 0} (b : Bool) → cond {A = Option C} b None None ≡ None
none_or true = refl
none_or false = refl

module _ {C : Type 0} where
  -- after an insertion, what others wait for is still missing
  pub missing_after_insert : (entries : fin.FinMap name_cmp C) (name : CellName) (cell : C) (waiting : List LookUp) → AreMissing entries waiting
      → AreMissing (fin.insert entries name cell) (others name waiting)
  missing_after_insert entries name cell [] missing = tt
  missing_after_insert entries name cell (l ∷ ls) missing = go (same_name l.name name) refl (missing_after_insert entries name cell ls missing.1)
    where
      go : (b : Bool) → same_name l.name name ≡ b → AreMissing (fin.insert entries name cell) (others name ls)
          → AreMissing (fin.insert entries name cell) (cond (not b) (l ∷ others name ls) (others name ls))
      go true same rest = rest
      go false apart rest = (
        fin.get-insert names_total entries name cell l.name
            ∙ ap (λ b. cond b (Some cell) (fin.get entries l.name)) (tied l.name name ∙ apart)
            ∙ missing.0,
        rest,
      )

  pub missing_after_remove : (entries : fin.FinMap name_cmp C) (name : CellName) (waiting : List LookUp) → AreMissing entries waiting
      → AreMissing (fin.remove entries name) waiting
  missing_after_remove entries name [] missing = tt
  missing_after_remove entries name (l ∷ ls) missing = (
    fin.get-remove names_total entries name l.name ∙ rw missing.0 (none_or (eq_by_cmp name_cmp l.name name)),
    missing_after_remove entries name ls missing.1,
  )

  pub missing_after_retain : (entries : fin.FinMap name_cmp C) (version : ℕ) (waiting : List LookUp) → AreMissing entries waiting
      → AreMissing (fin.retain_keys entries (λ n. not (is_of version n))) waiting
  missing_after_retain entries version [] missing = tt
  missing_after_retain entries version (l ∷ ls) missing = (
    fin.get-retain_keys entries (λ n. not (is_of version n)) l.name (λ x e. ap (λ n. not (is_of version n)) (same_version l.name x e)) ∙ rw missing.0 (none_or (not (is_of version l.name))),
    missing_after_retain entries version ls missing.1,
  )

  -- nothing waits for a name that has an entry
  missing_after_new_cell : (entries : fin.FinMap name_cmp C) (name : CellName) (cell : C) (waiting : List LookUp) → IsSome (fin.get entries name) → AreMissing entries waiting
      → AreMissing (fin.insert entries name cell) waiting
  missing_after_new_cell entries name cell [] there missing = tt
  missing_after_new_cell entries name cell (l ∷ ls) there missing = (go (same_name l.name name) refl, missing_after_new_cell entries name cell ls there missing.1)
    where
      go : (b : Bool) → same_name l.name name ≡ b → fin.get (fin.insert entries name cell) l.name ≡ None
      go true same =
          let none : fin.get entries name ≡ None = ap (λ n. fin.get entries n) (sym (same_names l.name name same)) ∙ missing.0 in
          absurd (search (rules, none, there))
      go false apart =
          fin.get-insert names_total entries name cell l.name
          ∙ ap (λ b. cond b (Some cell) (fin.get entries l.name)) (tied l.name name ∙ apart)
          ∙ missing.0

  pub missing_after_replace : (entries : fin.FinMap name_cmp C) (name : CellName) (cell : C) (waiting : List LookUp) → AreMissing entries waiting
      → AreMissing (if is_some (fin.get entries name) then fin.insert entries name cell else entries) waiting
  missing_after_replace entries name cell waiting missing = go (fin.get entries name) refl
    where
      go : (o : Option C) → fin.get entries name ≡ o → AreMissing (if is_some o then fin.insert entries name cell else entries) waiting
      go None none = missing
      go (Some old) some = missing_after_new_cell entries name cell waiting (search (rules, some)) missing
