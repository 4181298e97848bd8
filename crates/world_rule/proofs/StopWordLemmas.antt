-- The stop word is set exactly where a seat set it.
use Rattle.std.proofs.Common.{◌≡◌, ◌≢◌, ℕ, zero, suc, ◌<◌, true, false, List, [], ◌∷◌, ◌++◌, length, set, refl, sym, ap, ◌∙◌, inl, inr, ⊎_elim, arith}
use Rattle.std.specs.Prelude.{◌==◌, ◌||◌}
use Rattle.std.proofs.lemmas.Bool.{cases_eq, or_cases, or_right, or_left, eqb-true}
use mathlib.Core.Option.{some, some-ne-none, some-injective}
use lib.ListN.{get_elem?}
use Rattle.atomic_table.proofs.Lists.{at_set}
use Rattle.world_rule.specs.declared.view.View.{View}
use Rattle.atomic_table.proofs.Lists.{set_here, set_else, at_longer, at_snoc}
use Rattle.world_rule.specs.CounterWords.{StopWordShows}

within : (views : List View) (id : ℕ) (v : View) → get_elem? views id ≡ some v → id < length views
within [] id v e = absurd (some-ne-none v (sym e))
within (x ∷ views) zero v e = omega arith
within (x ∷ views) (suc id) v e = omega (arith, within views id v e)

same_view : (a b : View) (views : List View) (i j : ℕ) → i ≡ j → get_elem? views i ≡ some a → get_elem? views j ≡ some b → a ≡ b
same_view a b views i j e p q = some-injective a b (sym p ∙ ap (get_elem? views) e ∙ q)

pub stops_set : (n : ℕ) (views : List View) (id : ℕ) (v w : View) → get_elem? views id ≡ some v → w.set_stop ≡ v.set_stop → w.saw_stop ≡ v.saw_stop → StopWordShows n views → StopWordShows n (set views id w)
stops_set n views id v w at st fo s = record {
  one = s.one;
  known = λ j u e h. ⊎_elim
      (λ (x : (j ≡ id) × (w ≡ u)). s.known id v at (⊎_elim (λ t. inl (sym st ∙ ap (λ (z : View). z.set_stop) x.1 ∙ t)) (λ t. inr (sym fo ∙ ap (λ (z : View). z.saw_stop) x.1 ∙ t)) h))
      (λ (x : (j ≢ id) × (get_elem? views j ≡ some u)). s.known j u x.1 h)
      (at_set views id j w u e);
  setter = λ e. let k = s.setter e in ⊎_elim
      (λ (same : k.0 ≡ id). (id, w, set_here views id w (within views id v at), st ∙ ap (λ (z : View). z.set_stop) (same_view v k.1 views id k.0 (sym same) at k.2) ∙ k.3))
      (λ (apart : k.0 ≢ id). (k.0, k.1, set_else views id k.0 w apart ∙ k.2, k.3))
      (cases_eq k.0 id);
}

pub stops_add : (n : ℕ) (views : List View) (w : View) → w.set_stop ≡ false → w.saw_stop ≡ false → StopWordShows n views → StopWordShows n (views ++ w ∷ [])
stops_add n views w st fo s = record {
  one = s.one;
  known = λ j u e h. ⊎_elim
      (λ x. s.known j u x h)
      (λ (x : w ≡ u). absurd (⊎_elim (λ t. let z : false ≡ true = sym st ∙ ap (λ (z : View). z.set_stop) x ∙ t in cc) (λ t. let z : false ≡ true = sym fo ∙ ap (λ (z : View). z.saw_stop) x ∙ t in cc) h))
      (at_snoc views w u j e);
  setter = λ e. let k = s.setter e in (k.0, k.1, at_longer views (w ∷ []) k.0 k.1 k.2, k.3);
}

pub stops_join : (n : ℕ) (views : List View) (id : ℕ) (v : View) (other : ℕ) (w both spent' : View) → get_elem? views id ≡ some v → get_elem? views other ≡ some w → other ≢ id
    → both.set_stop ≡ (v.set_stop || w.set_stop) → both.saw_stop ≡ (v.saw_stop || w.saw_stop) → spent'.set_stop ≡ false → spent'.saw_stop ≡ false
    → StopWordShows n views → StopWordShows n (set (set views id both) other spent')
stops_join n views id v other w both spent' at there apart st fo st' fo' s = record {
  one = s.one;
  known = λ j u e h. ⊎_elim
      (λ (x : (j ≡ other) × (spent' ≡ u)). absurd (⊎_elim (λ t. let z : false ≡ true = sym st' ∙ ap (λ (z : View). z.set_stop) x.1 ∙ t in cc) (λ t. let z : false ≡ true = sym fo' ∙ ap (λ (z : View). z.saw_stop) x.1 ∙ t in cc) h))
      (λ (x : (j ≢ other) × (get_elem? (set views id both) j ≡ some u)). ⊎_elim
      (λ (y : (j ≡ id) × (both ≡ u)). ⊎_elim
      (λ t. ⊎_elim (λ a. s.known id v at (inl a)) (λ b. s.known other w there (inl b)) (or_cases v.set_stop w.set_stop (sym st ∙ ap (λ (z : View). z.set_stop) y.1 ∙ t)))
      (λ t. ⊎_elim (λ a. s.known id v at (inr a)) (λ b. s.known other w there (inr b)) (or_cases v.saw_stop w.saw_stop (sym fo ∙ ap (λ (z : View). z.saw_stop) y.1 ∙ t)))
      h)
      (λ (y : (j ≢ id) × (get_elem? views j ≡ some u)). s.known j u y.1 h)
      (at_set views id j both u x.1))
      (at_set (set views id both) other j spent' u e);
  setter = λ e. let k = s.setter e in ⊎_elim
      (λ (same : k.0 ≡ other). (id, both, here, st ∙ or_right v.set_stop w.set_stop (ap (λ (z : View). z.set_stop) (same_view w k.1 views other k.0 (sym same) there k.2) ∙ k.3)))
      (λ (a : k.0 ≢ other). ⊎_elim
      (λ (same : k.0 ≡ id). (id, both, here, st ∙ or_left v.set_stop w.set_stop (ap (λ (z : View). z.set_stop) (same_view v k.1 views id k.0 (sym same) at k.2) ∙ k.3)))
      (λ (b : k.0 ≢ id). (k.0, k.1, set_else (set views id both) other k.0 spent' a ∙ set_else views id k.0 both b ∙ k.2, k.3))
      (cases_eq k.0 id))
      (cases_eq k.0 other);
}
  where
    here : get_elem? (set (set views id both) other spent') id ≡ some both
    here = set_else (set views id both) other id spent' (λ e. apart (sym e)) ∙ set_here views id both (within views id v at)

-- a seat sets the word
pub stops_now : (n : ℕ) (views : List View) (id : ℕ) (v w : View) → get_elem? views id ≡ some v → w.set_stop ≡ true → StopWordShows n views → StopWordShows 1 (set views id w)
stops_now n views id v w at st s = record {
  one = inr refl;
  known = λ j u e h. refl;
  setter = λ e. (id, w, set_here views id w (within views id v at), st);
}

-- a seat finds the word
pub stops_found : (n : ℕ) (views : List View) (id : ℕ) (v w : View) → get_elem? views id ≡ some v → w.set_stop ≡ v.set_stop → w.saw_stop ≡ (n == 1) → StopWordShows n views → StopWordShows n (set views id w)
stops_found n views id v w at st fo s = record {
  one = s.one;
  known = λ j u e h. ⊎_elim
      (λ (x : (j ≡ id) × (w ≡ u)). ⊎_elim
      (λ t. s.known id v at (inl (sym st ∙ ap (λ (z : View). z.set_stop) x.1 ∙ t)))
      (λ t. eqb-true n 1 (sym fo ∙ ap (λ (z : View). z.saw_stop) x.1 ∙ t))
      h)
      (λ (x : (j ≢ id) × (get_elem? views j ≡ some u)). s.known j u x.1 h)
      (at_set views id j w u e);
  setter = λ e. let k = s.setter e in ⊎_elim
      (λ (same : k.0 ≡ id). (id, w, set_here views id w (within views id v at), st ∙ ap (λ (z : View). z.set_stop) (same_view v k.1 views id k.0 (sym same) at k.2) ∙ k.3))
      (λ (apart : k.0 ≢ id). (k.0, k.1, set_else views id k.0 w apart ∙ k.2, k.3))
      (cases_eq k.0 id);
}
