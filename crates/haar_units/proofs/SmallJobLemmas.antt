-- The small job of the examples: its traversal visits shapes, and some lists of effects are not allowed.
use Rattle.std.proofs.Common.{◌≡◌, ℕ, zero, suc, ◌+◌, ◌*◌, ◌<◌, ◌≤◌, Bool, true, false, ◌&&◌, ◌||◌, List, [], ◌∷◌, refl, sym, ap, ◌∙◌, arith}
use Rattle.std.specs.Prelude.{nat_lt, ◌==◌, Some, None}
use Rattle.std.proofs.lemmas.Bool.{le-ltb, ne_eqb}
use Rattle.app_core.specs.declared.label.CellName.{CellName}
use Rattle.app_core.specs.declared.outline.Outline.{Outline}
use Rattle.app_core.specs.declared.outline.Outline.TheVariants as of
use Rattle.haar_units.specs.Jobs.{Operation, operation_at, is_on_trees}
use Rattle.haar_units.specs.Jobs.Operation.{Project, Coarsen, Size, Fence}
use Rattle.haar_units.specs.Units.{label, down_unit, up_unit, erase_unit, key_future, entry}
use Rattle.haar_units.specs.Actions.{Action, part_of, fits, outlines_of, Allowed}
use Rattle.haar_units.specs.Actions.Action.{Stop, Descend, Combine, Merge, Erase, Count, Sum}
use Rattle.haar_units.specs.Traversals.{IsTraversal}
use Rattle.haar_units.specs.SmallJob.{small_job, small_traversal, is_key}
use Rattle.haar_units.proofs.EffectLemmas.{some_is}

-- no key has a place from 8 on
none_above : (x : ℕ) → 8 ≤ x → is_key x ≡ false
none_above x few =
    let four : nat_lt x 4 ≡ false = le-ltb x 4 (omega (arith, few)) in
    let six : (x == 6) ≡ false = ne_eqb x 6 (λ e. omega (arith, few, e)) in
    let seven : (x == 7) ≡ false = ne_eqb x 7 (λ e. omega (arith, few, e)) in
    (λ i. (nat_lt 0 x && four i) || (six i || seven i)) ∙ go (nat_lt 0 x)
  where
    go : (b : Bool) → ((b && false) || (false || false)) ≡ false
    go true = refl
    go false = refl

-- each key is one of the five
by_key : (P : ℕ → Type 0) → P 1 → P 2 → P 3 → P 6 → P 7 → (x : ℕ) → is_key x ≡ true → P x
by_key P a b c d e zero h = absurd (cc)
by_key P a b c d e (suc zero) h = a
by_key P a b c d e (suc (suc zero)) h = b
by_key P a b c d e (suc (suc (suc zero))) h = c
by_key P a b c d e (suc (suc (suc (suc zero)))) h = absurd (cc)
by_key P a b c d e (suc (suc (suc (suc (suc zero))))) h = absurd (cc)
by_key P a b c d e (suc (suc (suc (suc (suc (suc zero)))))) h = d
by_key P a b c d e (suc (suc (suc (suc (suc (suc (suc zero))))))) h = e
by_key P a b c d e (suc (suc (suc (suc (suc (suc (suc (suc x)))))))) h = absurd (let none = none_above (suc (suc (suc (suc (suc (suc (suc (suc x)))))))) (omega arith) in cc)

key_below : (x : ℕ) → is_key x ≡ true → (1 ≤ x) × (x < 8)
key_below = by_key (λ x. (1 ≤ x) × (x < 8)) (omega arith, omega arith) (omega arith, omega arith) (omega arith, omega arith) (omega arith, omega arith) (omega arith, omega arith)

parent_too : (x : ℕ) → is_key (2 * x) ≡ true → is_key x ≡ true
parent_too zero h = absurd (cc)
parent_too (suc zero) h = refl
parent_too (suc (suc zero)) h = absurd (cc)
parent_too (suc (suc (suc zero))) h = refl
parent_too (suc (suc (suc (suc x)))) h = absurd (let none = none_above (2 * suc (suc (suc (suc x)))) (omega arith) in cc)

both_sides : (x : ℕ) → 1 ≤ x → is_key (2 * x + 1) ≡ is_key (2 * x)
both_sides zero least = absurd (omega (arith, least))
both_sides (suc zero) least = refl
both_sides (suc (suc zero)) least = refl
both_sides (suc (suc (suc zero))) least = refl
both_sides (suc (suc (suc (suc x)))) least = none_above (2 * suc (suc (suc (suc x))) + 1) (omega arith) ∙ sym (none_above (2 * suc (suc (suc (suc x)))) (omega arith))

-- the erased keys

abbrev is_erased : ℕ → Bool
is_erased x = (x == 6) || (x == 7)

none_erased : (x : ℕ) → 8 ≤ x → is_erased x ≡ false
none_erased x few =
    let six : (x == 6) ≡ false = ne_eqb x 6 (λ e. omega (arith, few, e)) in
    let seven : (x == 7) ≡ false = ne_eqb x 7 (λ e. omega (arith, few, e)) in
    λ i. six i || seven i

by_erased : (P : ℕ → Type 0) → P 6 → P 7 → (x : ℕ) → is_erased x ≡ true → P x
by_erased P d e zero h = absurd (cc)
by_erased P d e (suc zero) h = absurd (cc)
by_erased P d e (suc (suc zero)) h = absurd (cc)
by_erased P d e (suc (suc (suc zero))) h = absurd (cc)
by_erased P d e (suc (suc (suc (suc zero)))) h = absurd (cc)
by_erased P d e (suc (suc (suc (suc (suc zero))))) h = absurd (cc)
by_erased P d e (suc (suc (suc (suc (suc (suc zero)))))) h = d
by_erased P d e (suc (suc (suc (suc (suc (suc (suc zero))))))) h = e
by_erased P d e (suc (suc (suc (suc (suc (suc (suc (suc x)))))))) h = absurd (let none = none_erased (suc (suc (suc (suc (suc (suc (suc (suc x)))))))) (omega arith) in cc)

erased_sides : (x : ℕ) → 1 ≤ x → is_erased (2 * x + 1) ≡ is_erased (2 * x)
erased_sides zero least = absurd (omega (arith, least))
erased_sides (suc zero) least = refl
erased_sides (suc (suc zero)) least = refl
erased_sides (suc (suc (suc zero))) least = refl
erased_sides (suc (suc (suc (suc x)))) least = none_erased (2 * suc (suc (suc (suc x))) + 1) (omega arith) ∙ sym (none_erased (2 * suc (suc (suc (suc x)))) (omega arith))

projects : IsTraversal small_job small_traversal 8 1
projects = record {
  visits_below = key_below;
  root = refl;
  parents = parent_too;
  children = both_sides;
  erases_in_coarsen = λ x e. absurd (cc);
  erases_visited = λ x e. absurd (cc);
  erases_both = λ x least. refl;
}

coarsens : IsTraversal small_job small_traversal 8 2
coarsens = record {
  visits_below = key_below;
  root = refl;
  parents = parent_too;
  children = both_sides;
  erases_in_coarsen = λ x e. refl;
  erases_visited = by_erased (λ x. (2 ≤ x) × (is_key x ≡ true)) (omega arith, refl) (omega arith, refl);
  erases_both = erased_sides;
}

pub small_traversals : (command : ℕ) (operation : Operation) → operation_at small_job command ≡ Some operation → is_on_trees operation ≡ true → IsTraversal small_job small_traversal 8 command
small_traversals zero w at tree = absurd (cc)
small_traversals (suc zero) w at tree = projects
small_traversals (suc (suc zero)) w at tree = coarsens
small_traversals (suc (suc (suc zero))) w at tree = absurd (let is : Fence ≡ w = cc in let no : false ≡ true = ap is_on_trees is ∙ tree in cc)
small_traversals (suc (suc (suc (suc zero)))) w at tree = absurd (let is : Size ≡ w = cc in let no : false ≡ true = ap is_on_trees is ∙ tree in cc)
small_traversals (suc (suc (suc (suc (suc c))))) w at tree = absurd (cc)

-- lists that are not allowed

-- a down unit may do one of two lists
down_refused : (w : Operation) (c x : ℕ) (os : List Outline) → operation_at small_job c ≡ Some w → (os ≡ outlines_of small_job w Stop c x → ⊥) → (os ≡ outlines_of small_job w Descend c x → ⊥) → Allowed small_job (down_unit c x) os → ⊥
down_refused w c x os at stop descend m = go m.action m.part (m.lists ∙ (λ i. outlines_of small_job (some_is m.operation w (sym m.at ∙ at) i) m.action c x))
  where
    go : (a : Action) → 0 ≡ part_of a → os ≡ outlines_of small_job w a c x → ⊥
    go Stop p e = stop e
    go Descend p e = descend e
    go Combine p e = absurd (omega (arith, p))
    go Merge p e = absurd (omega (arith, p))
    go Erase p e = absurd (omega (arith, p))
    go Count p e = absurd (omega (arith, p))
    go Sum p e = absurd (omega (arith, p))

up_refused : (w : Operation) (c x : ℕ) (os : List Outline) → operation_at small_job c ≡ Some w → (os ≡ outlines_of small_job w Combine c x → ⊥) → (fits w Merge ≡ true → os ≡ outlines_of small_job w Merge c x → ⊥)
    → Allowed small_job (up_unit c x) os → ⊥
up_refused w c x os at combine merge m =
    let is : m.operation ≡ w = some_is m.operation w (sym m.at ∙ at) in
    go m.action m.part (ap (λ (z : Operation). fits z m.action) (sym is) ∙ m.fit) (m.lists ∙ (λ i. outlines_of small_job (is i) m.action c x))
  where
    go : (a : Action) → 1 ≡ part_of a → fits w a ≡ true → os ≡ outlines_of small_job w a c x → ⊥
    go Stop p f e = absurd (omega (arith, p))
    go Descend p f e = absurd (omega (arith, p))
    go Combine p f e = combine e
    go Merge p f e = merge f e
    go Erase p f e = absurd (omega (arith, p))
    go Count p f e = absurd (omega (arith, p))
    go Sum p f e = absurd (omega (arith, p))

pub no_put : Allowed small_job (down_unit 1 7) (of.Give (key_future 1 7) 0 ∷ []) → ⊥
no_put = down_refused Project 1 7 _ refl (λ e. cc) (λ e. cc)

pub put_last : Allowed small_job (down_unit 1 7) (of.Give (key_future 1 7) 0 ∷ of.Put (entry 1 7) ∷ []) → ⊥
put_last = down_refused Project 1 7 _ refl (λ e. cc) (λ e. cc)

pub put_of_parent : Allowed small_job (down_unit 1 7) (of.Put (entry 1 3) ∷ of.Give (key_future 1 7) 0 ∷ []) → ⊥
put_of_parent = down_refused Project 1 7 _ refl
    (λ e. let same : entry 1 3 ≡ entry 1 7 = cc in let three : 3 ≡ 7 = ap (λ (n : CellName). n.place) same in absurd (omega (arith, three)))
    (λ e. cc)

pub merge_of_project : Allowed small_job (up_unit 1 3) (of.Put (entry 1 3) ∷ of.Spawn (erase_unit 1 6) None [] 0 ∷ of.Spawn (erase_unit 1 7) None [] 1 ∷ of.Give (key_future 1 3) 0 ∷ []) → ⊥
merge_of_project = up_refused Project 1 3 _ refl (λ e. cc) (λ f e. cc)

pub half_merge : Allowed small_job (up_unit 2 3) (of.Put (entry 2 3) ∷ of.Spawn (erase_unit 2 6) None [] 0 ∷ of.Give (key_future 2 3) 0 ∷ []) → ⊥
half_merge = up_refused Coarsen 2 3 _ refl (λ e. cc) (λ f e. cc)

pub no_parts : (part place : ℕ) (os : List Outline) → 5 ≤ part → Allowed small_job (label 2 part place) os → ⊥
no_parts part place os few m = go m.action m.part
  where
    go : (a : Action) → part ≡ part_of a → ⊥
    go Stop p = absurd (omega (arith, few, p))
    go Descend p = absurd (omega (arith, few, p))
    go Combine p = absurd (omega (arith, few, p))
    go Merge p = absurd (omega (arith, few, p))
    go Erase p = absurd (omega (arith, few, p))
    go Count p = absurd (omega (arith, few, p))
    go Sum p = absurd (omega (arith, few, p))

pub no_fence : (part place : ℕ) (os : List Outline) → Allowed small_job (label 3 part place) os → ⊥
no_fence part place os m = go m.action (ap (λ (z : Operation). fits z m.action) (sym (some_is m.operation Fence (sym m.at))) ∙ m.fit)
  where
    go : (a : Action) → fits Fence a ≡ true → ⊥
    go Stop f = cc
    go Descend f = cc
    go Combine f = cc
    go Merge f = cc
    go Erase f = cc
    go Count f = cc
    go Sum f = cc

pub no_place : (os : List Outline) → Allowed small_job (down_unit 2 0) os → ⊥
no_place os m = let least = m.key (omega arith) in absurd (omega (arith, least))
