-- Loops over labels that stop at the first for which a fact fails, and sums over ranks.
use Rattle.std.proofs.Common.{◌≡◌, ◌↔◌, Bool, true, false, not, Some, inl, inr, ⊎_elim, ℕ, suc, ◌+◌, ◌<◌, ◌≤◌, List, [], ◌∷◌, length, get_or, drop, refl, sym, subst, arith}
use Rattle.std.proofs.Math.Seq.{drop-cons}
use Rattle.std.proofs.Math.ListN.{drop_of_length-le}
use Rattle.app_core.specs.declared.label.Label.{Label}
use Rattle.event_lists.specs.declared.future.Bringer.{Bringer}
use Rattle.event_lists.specs.declared.future.Future.{Future}
use Rattle.event_lists.specs.declared.mark.Mark.{Mark}
use Rattle.event_lists.specs.Futures.{times_given}
use Rattle.event_rules.specs.States.{AreGiven}

-- P of a list is Q of each of its labels
pub record IsEach (P : List Label → Type 0) (Q : Label → Type 0) : Type 0 where
  pub nil : P []
  pub cons : (d : Label) (ds : List Label) → P (d ∷ ds) ↔ (Q d × P ds)

module _ (P : List Label → Type 0) (Q : Label → Type 0) (each : IsEach P Q) where
  -- the next label passes
  pub goes_on : (xs : List Label) (i : ℕ) (d : Label) → i < length xs → (P xs ↔ P (drop i xs)) → Q (get_or xs i d) → P xs ↔ P (drop (i + 1) xs)
  goes_on xs i d lt so_far here =
      let at = drop-cons xs i d lt in
      let next : suc i ≡ i + 1 = omega arith in (
        (λ all. subst (λ (k : ℕ). P (drop k xs)) next ((each.cons (get_or xs i d) (drop (suc i) xs)).0 (subst P at (so_far.0 all))).1),
        (λ rest. so_far.1 (subst P (sym at) ((each.cons (get_or xs i d) (drop (suc i) xs)).1 (here, subst (λ (k : ℕ). P (drop k xs)) (sym next) rest)))),
      )

  -- where all pass, the next does
  pub passes : (xs : List Label) (i : ℕ) (d : Label) → i < length xs → (P xs ↔ P (drop i xs)) → P xs → Q (get_or xs i d)
  passes xs i d lt so_far all = ((each.cons (get_or xs i d) (drop (suc i) xs)).0 (subst P (drop-cons xs i d lt) (so_far.0 all))).0

  -- all passed
  pub at_end : (xs : List Label) (i : ℕ) → length xs ≤ i → (P xs ↔ P (drop i xs)) → P xs
  at_end xs i le so_far = so_far.1 (subst P (sym (drop_of_length-le xs le)) each.nil)

-- futures of a bringer that were given are a matter of each label
pub given_each : (b : Bringer) (log : List Mark) → IsEach (AreGiven (Some b) log) (λ d. 1 ≤ times_given (record { by = b; label = d }) log)
given_each b log = record {
  nil = λ f i. absurd i;
  cons = λ d ds. (
    (λ all. (all (record { by = b; label = d }) (inl refl), λ f i. all f (inr i))),
    (λ a f. ⊎_elim (λ (e : record { by = b; label = d } ≡ f). subst (λ (z : Future). 1 ≤ times_given z log) e a.0) (a.1 f)),
  );
}

-- nothing is both
pub not_both : (b : Bool) → b ≡ true → not b ≡ true → ⊥
not_both true e i = cc
not_both false e i = cc
