-- Lemmas that crates above use: equal labels, and labels that one outline of a list names.
use Rattle.std.proofs.Common.{◌≡◌, ℕ, zero, suc, ◌+◌, Bool, true, false, List, [], ◌∷◌, ◌++◌, length, refl, sym, ap, ◌∙◌, subst, arith, length-append, rules}
use Rattle.std.specs.Prelude.{Option, Some, None, slice_get, Contains}
use Rattle.std.specs.List.{flat_map, list_any}
use Rattle.std.proofs.lemmas.List.{get_or_append_left, get_or-append-add}
use Rattle.app_core.specs.declared.label.Label.{Label}
use Rattle.app_core.specs.declared.outline.Outline.{Outline}
use Rattle.app_core.specs.declared.outline.Outline.TheVariants as of
use Rattle.app_core.specs.Outlines.{same_label, is_due, has_due, has_need, named}
use Rattle.app_core.proofs.CountLemmas.{some_is}

in_front : {X : Type 0} (xs ys : List X) (x : X) → Contains xs x → Contains (xs ++ ys) x
in_front xs ys x (k, lt, at) = (k, (let n = length-append xs ys in omega (arith, n, lt)), get_or_append_left xs ys x k lt ∙ at)

behind : {X : Type 0} (xs ys : List X) (x : X) → Contains ys x → Contains (xs ++ ys) x
behind xs ys x (k, lt, at) = (length xs + k, (let n = length-append xs ys in omega (arith, n, lt)), get_or-append-add xs ys k x ∙ at)

-- what one of the lists has, they have together
pub in_flat_map : {X Y : Type 0} (f : X → List Y) (xs : List X) (i : ℕ) (x : X) (y : Y) → slice_get xs i ≡ Some x → Contains (f x) y → Contains (flat_map f xs) y
in_flat_map f [] i x y at has = absurd (cc)
in_flat_map f (z ∷ zs) zero x y at has = in_front (f z) (flat_map f zs) y (subst (λ w. Contains (f w) y) (sym (some_is z x at)) has)
in_flat_map f (z ∷ zs) (suc i) x y at has = behind (f z) (flat_map f zs) y (in_flat_map f zs i x y at has)

-- labels that the test takes as equal are equal
pub told_same : (a b : Label) → same_label a b ≡ true → a ≡ b
told_same a b e = search rules

pub same_self : (l : Label) → same_label l l ≡ true
same_self l = search rules

-- a due that passes the test is there
pub told_due : (l : Label) (due : Option Label) → is_due l due ≡ true → due ≡ Some l
told_due l None e = absurd (cc)
told_due l (Some m) e = ap Some (sym (told_same l m e))

-- a need that passes the test is there
told_need : (l : Label) (needs : List Label) → list_any (λ m. same_label l m) needs ≡ true → Contains needs l
told_need l [] e = absurd (cc)
told_need l (m ∷ ms) e = head (told_need l ms) (same_label l m) refl
  where
    deeper : Contains ms l → Contains (m ∷ ms) l
    deeper (k, lt, at) = (suc k, omega (arith, lt), at)

    head : (list_any (λ m. same_label l m) ms ≡ true → Contains ms l) → (b : Bool) → same_label l m ≡ b → Contains (m ∷ ms) l
    head later true is = (zero, omega arith, sym (told_same l m is))
    head later false isnt = deeper (later (rw isnt at e))

-- the due of a spawn is named by it
pub due_is_named : (l : Label) (o : Outline) → has_due l o ≡ true → Contains (named o) l
due_is_named l (of.Spawn unit due needs home) e = rw (told_due l due e) (zero, omega arith, refl)
due_is_named l (of.Give future home) e = absurd (cc)
due_is_named l (of.Put name) e = absurd (cc)
due_is_named l (of.Erase name) e = absurd (cc)

-- a need of a spawn is named by it
pub need_is_named : (l : Label) (o : Outline) → has_need l o ≡ true → Contains (named o) l
need_is_named l (of.Spawn unit None needs home) e = told_need l needs e
need_is_named l (of.Spawn unit (Some due) needs home) e = behind (due ∷ []) needs l (told_need l needs e)
need_is_named l (of.Give future home) e = absurd (cc)
need_is_named l (of.Put name) e = absurd (cc)
need_is_named l (of.Erase name) e = absurd (cc)
