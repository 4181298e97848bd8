-- Maps are filled below a key first, and at the key itself once the numbers below it are known.
use Rattle.std.proofs.Common.{◌≡◌, ◌+◌, Bool, true, false, cond, ◌||◌, Option, Some, None, refl, sym, ◌∙◌, ap, arith, ne_eqb, ℤ}
use Rattle.std.specs.BTreeMap.{BTreeMap}
use Rattle.std.proofs.lemmas.Bool.{false≢true, lt-leb}
use Rattle.tree_key.specs.Keys.{Key, child}
use Rattle.tree_operations.specs.Numbers.{number_at, same_key}
use Rattle.tree_operations.specs.Filling.{under, over, below, Fills}
use Rattle.tree_operations.proofs.FillingLemmas.{same_is_under}
use Rattle.tree_operations.proofs.SubtreeLemmas.{under_split, same_key_holds}

-- a key isn't under its children, and is none of them
not_under_child : (top : Key) (side : Bool) → under (child top side) top ≡ false
not_under_child top side = rw (lt-leb (top.level + 1) top.level (omega arith)) refl

not_a_child : (top : Key) (side : Bool) → same_key top (child top side) ≡ false
not_a_child top side = rw (ne_eqb top.level (top.level + 1) (λ e. omega arith)) refl

over_twice : (number before : Option ℤ) → over number (over number before) ≡ over number before
over_twice None before = refl
over_twice (Some z) before = refl

-- what a key is that is a child of the top one, or the top one itself
record IsHalf (same under_it top : Bool) (number there : Option ℤ) : Type 0 where
  inside : same ≡ true → under_it ≡ true
  apart : same ≡ true → top ≡ false
  is : same ≡ true → number ≡ there

record IsTop (top left right : Bool) : Type 0 where
  not_left : top ≡ true → left ≡ false
  not_right : top ≡ true → right ≡ false

-- the numbers below both halves, and then at them, are those below the top key
set_after :
    (a b s l r : Bool) (left right there before : Option ℤ) →
    IsHalf a l s left there →
    IsHalf b r s right there →
    IsTop s l r →
    (let both = over (cond r (cond b None there) None) (over (cond l (cond a None there) None) before) in
    let one = cond a (over left both) both in
    cond b (over right one) one)
    ≡ over (cond (s || (l || r)) (cond s None there) None) before
set_after true b true l r left right there before first second top = absurd (false≢true (sym (first.apart refl)))
set_after true b false false r left right there before first second top = absurd (false≢true (first.inside refl))
set_after true true false true false left right there before first second top = absurd (false≢true (second.inside refl))
set_after true true false true true left right there before first second top = rw (first.is refl, second.is refl) (over_twice there before)
set_after true false false true true left right there before first second top = rw (first.is refl) (over_twice there before)
set_after true false false true false left right there before first second top = rw (first.is refl) refl
set_after false true true l r left right there before first second top = absurd (false≢true (sym (second.apart refl)))
set_after false true false l false left right there before first second top = absurd (false≢true (second.inside refl))
set_after false true false true true left right there before first second top = rw (second.is refl) (over_twice there before)
set_after false true false false true left right there before first second top = rw (second.is refl) refl
set_after false false true true r left right there before first second top = absurd (false≢true (sym (top.not_left refl)))
set_after false false true false true left right there before first second top = absurd (false≢true (sym (top.not_right refl)))
set_after false false true false false left right there before first second top = refl
set_after false false false true true left right there before first second top = over_twice there before
set_after false false false true false left right there before first second top = refl
set_after false false false false true left right there before first second top = refl
set_after false false false false false left right there before first second top = refl

-- a key that is one of the children
is_half : (top k : Key) (side : Bool) (numbers : Key → Option ℤ) (number : Option ℤ) → number ≡ numbers (child top side) → IsHalf (same_key (child top side) k) (under (child top side) k) (same_key top k) number (numbers k)
is_half top k side numbers number is = record {
  inside = same_is_under (child top side) k;
  apart = λ same. ap (same_key top) (sym (same_key_holds (child top side) k same)) ∙ not_a_child top side;
  is = λ same. is ∙ ap numbers (same_key_holds (child top side) k same);
}

is_top : (top k : Key) → IsTop (same_key top k) (under (child top false) k) (under (child top true) k)
is_top top k = record {
  not_left = λ same. ap (under (child top false)) (sym (same_key_holds top k same)) ∙ not_under_child top false;
  not_right = λ same. ap (under (child top true)) (sym (same_key_holds top k same)) ∙ not_under_child top true;
}

-- below both halves numbers were filled in, and then at the halves, where they have one
pub fills_below :
    (top : Key) (numbers : Key → Option ℤ) (left right : Option ℤ) (old half both one two : BTreeMap Key ℤ) →
    Fills (child top false) (below (child top false) numbers) old half →
    Fills (child top true) (below (child top true) numbers) half both →
    ((k : Key) → number_at one k ≡ cond (same_key (child top false) k) (over left (number_at both k)) (number_at both k)) →
    ((k : Key) → number_at two k ≡ cond (same_key (child top true) k) (over right (number_at one k)) (number_at one k)) →
    left ≡ numbers (child top false) →
    right ≡ numbers (child top true) →
    Fills top (below top numbers) old two
fills_below top numbers left right old half both one two first second set_first set_second is_left is_right = record {
  at = λ k. let a = same_key (child top false) k in
      let b = same_key (child top true) k in
      let l = under (child top false) k in
      let r = under (child top true) k in
      let filled = second.at k ∙ ap (over (cond r (cond b None (numbers k)) None)) (first.at k) in
      let one_is = set_first k ∙ ap (λ o. cond a (over left o) o) filled in
      set_second k
      ∙ ap (λ o. cond b (over right o) o) one_is
      ∙ set_after a b (same_key top k) l r left right (numbers k) (number_at old k) (is_half top k false numbers left is_left) (is_half top k true numbers right is_right) (is_top top k)
      ∙ ap (λ inside. over (cond inside (cond (same_key top k) None (numbers k)) None) (number_at old k)) (sym (under_split top k));
}

unchanged : (b : Bool) (number : Option ℤ) → number ≡ cond b number number
unchanged true number = refl
unchanged false number = refl

-- where the halves have no number, only those below them were filled in
pub fills_deeper :
    (top : Key) (numbers : Key → Option ℤ) (old half both : BTreeMap Key ℤ) →
    Fills (child top false) (below (child top false) numbers) old half →
    Fills (child top true) (below (child top true) numbers) half both →
    numbers (child top false) ≡ None →
    numbers (child top true) ≡ None →
    Fills top (below top numbers) old both
fills_deeper top numbers old half both first second no_left no_right =
    fills_below top numbers None None old half both both both first second
    (λ k. unchanged (same_key (child top false) k) (number_at both k))
    (λ k. unchanged (same_key (child top true) k) (number_at both k))
    (sym no_left) (sym no_right)

with_top : (s u : Bool) (number there before : Option ℤ) → (s ≡ true → u ≡ true) → (s ≡ true → number ≡ there) → (let filled = over (cond u (cond s None there) None) before in cond s (over number filled) filled) ≡ over (cond u there None) before
with_top true true number there before inside is = rw (is refl) refl
with_top true false number there before inside is = absurd (false≢true (inside refl))
with_top false u number there before inside is = refl

-- and then at the top key
pub fills_with_top :
    (top : Key) (numbers : Key → Option ℤ) (number : Option ℤ) (old filled new : BTreeMap Key ℤ) →
    Fills top (below top numbers) old filled →
    ((k : Key) → number_at new k ≡ cond (same_key top k) (over number (number_at filled k)) (number_at filled k)) →
    number ≡ numbers top →
    Fills top numbers old new
fills_with_top top numbers number old filled new fills set is = record {
  at = λ k. set k
      ∙ ap (λ o. cond (same_key top k) (over number o) o) (fills.at k)
      ∙ with_top (same_key top k) (under top k) number (numbers k) (number_at old k) (same_is_under top k) (λ same. is ∙ ap numbers (same_key_holds top k same));
}
