-- Maps are filled with the numbers of a tree box by box.
use Rattle.std.proofs.Common.{◌≡◌, Bool, true, false, cond, ◌||◌, Option, Some, None, refl, sym, ◌∙◌, ap, subst, ℤ}
use Rattle.std.specs.BTreeMap.{BTreeMap}
use Rattle.std.proofs.lemmas.Bool.{false≢true}
use Rattle.tree_key.specs.Keys.{Key, child}
use Rattle.tree_operations.specs.Numbers.{number_at, same_key}
use Rattle.tree_operations.specs.Filling.{under, over, Fills}
use Rattle.tree_operations.proofs.SubtreeLemmas.{under_split, under_self, same_key_holds}

nothing_new : (b : Bool) (number before : Option ℤ) → (b ≡ true → number ≡ None) → before ≡ over (cond b number None) before
nothing_new true number before none = ap (λ n. over n before) (sym (none refl))
nothing_new false number before none = refl

-- no key under the top one has a number
pub fills_nothing : (top : Key) (numbers : Key → Option ℤ) (old : BTreeMap Key ℤ) → ((k : Key) → under top k ≡ true → numbers k ≡ None) → Fills top numbers old old
fills_nothing top numbers old none = record { at = λ k. nothing_new (under top k) (numbers k) (number_at old k) (none k) }

top_alone :
    (same inside : Bool) (number : ℤ) (there before : Option ℤ) →
    (same ≡ true → inside ≡ true) →
    (same ≡ true → Some number ≡ there) →
    (inside ≡ true → same ≡ false → there ≡ None) →
    cond same (Some number) before ≡ over (cond inside there None) before
top_alone true true number there before holds is none = ap (λ n. over n before) (is refl)
top_alone true false number there before holds is none = absurd (false≢true (holds refl))
top_alone false true number there before holds is none = ap (λ n. over n before) (sym (none refl refl))
top_alone false false number there before holds is none = refl

pub same_is_under : (top k : Key) → same_key top k ≡ true → under top k ≡ true
same_is_under top k same = subst (λ (other : Key). under top other ≡ true) (same_key_holds top k same) (under_self top)

-- just the top key has a number
pub fills_top :
    (top : Key) (numbers : Key → Option ℤ) (number : ℤ) (old new : BTreeMap Key ℤ) →
    numbers top ≡ Some number →
    ((k : Key) → under top k ≡ true → same_key top k ≡ false → numbers k ≡ None) →
    ((k : Key) → number_at new k ≡ cond (same_key top k) (Some number) (number_at old k)) →
    Fills top numbers old new
fills_top top numbers number old new is none set = record {
  at = λ k. set k ∙ top_alone (same_key top k) (under top k) number (numbers k) (number_at old k) (same_is_under top k) (λ same. sym is ∙ ap numbers (same_key_holds top k same)) (none k);
}

both_halves :
    (same left right : Bool) (there before : Option ℤ) →
    (same ≡ true → there ≡ None) →
    over (cond right there None) (over (cond left there None) before) ≡ over (cond (same || (left || right)) there None) before
both_halves true true true there before none = ap (λ n. over n (over n before)) (none refl) ∙ ap (λ n. over n before) (sym (none refl))
both_halves true true false there before none = refl
both_halves true false true there before none = refl
both_halves true false false there before none = ap (λ n. over n before) (sym (none refl))
both_halves false true true None before none = refl
both_halves false true true (Some number) before none = refl
both_halves false true false there before none = refl
both_halves false false true there before none = refl
both_halves false false false there before none = refl

-- both halves were filled, and the top key has no number
pub fills_halves :
    (top : Key) (numbers : Key → Option ℤ) (old half new : BTreeMap Key ℤ) →
    numbers top ≡ None →
    Fills (child top false) numbers old half →
    Fills (child top true) numbers half new →
    Fills top numbers old new
fills_halves top numbers old half new none left right = record {
  at = λ k. let l = under (child top false) k in
      let r = under (child top true) k in
      right.at k
      ∙ ap (over (cond r (numbers k) None)) (left.at k)
      ∙ both_halves (same_key top k) l r (numbers k) (number_at old k) (λ same. sym (ap numbers (same_key_holds top k same)) ∙ none)
      ∙ ap (λ b. over (cond b (numbers k) None) (number_at old k)) (sym (under_split top k));
}

halves_and_top :
    (same left right : Bool) (number : ℤ) (there before : Option ℤ) →
    (same ≡ true → Some number ≡ there) →
    cond same (Some number) (over (cond right there None) (over (cond left there None) before)) ≡ over (cond (same || (left || right)) there None) before
halves_and_top true left right number there before is = ap (λ n. over n before) (is refl)
halves_and_top false true true number None before is = refl
halves_and_top false true true number (Some other) before is = refl
halves_and_top false true false number there before is = refl
halves_and_top false false true number there before is = refl
halves_and_top false false false number there before is = refl

-- both halves were filled, and then the number at the top was set
pub fills_all :
    (top : Key) (numbers : Key → Option ℤ) (number : ℤ) (old half both new : BTreeMap Key ℤ) →
    numbers top ≡ Some number →
    Fills (child top false) numbers old half →
    Fills (child top true) numbers half both →
    ((k : Key) → number_at new k ≡ cond (same_key top k) (Some number) (number_at both k)) →
    Fills top numbers old new
fills_all top numbers number old half both new is left right set = record {
  at = λ k. let l = under (child top false) k in
      let r = under (child top true) k in
      set k
      ∙ ap (cond (same_key top k) (Some number)) (right.at k ∙ ap (over (cond r (numbers k) None)) (left.at k))
      ∙ halves_and_top (same_key top k) l r number (numbers k) (number_at old k) (λ same. sym is ∙ ap numbers (same_key_holds top k same))
      ∙ ap (λ b. over (cond b (numbers k) None) (number_at old k)) (sym (under_split top k));
}
