-- What inserting does to a table.
use Rattle.std.proofs.Common.{◌≡◌, Bool, true, false, ap, sym, ◌∙◌, refl}
use Rattle.std.specs.Prelude.{if◌then◌else◌, cond, Some, None, is_some, Result, Ok, Err, OnOk, OnErr}
use Rattle.std.specs.declared.cmp.Ordering.{Ordering}
use Rattle.std.specs.Ordering.{is_eq}
use Rattle.std.specs.BTreeMap.{BTreeMap, get, Updates}
use Rattle.std.specs.Map.{lookup}
use Rattle.event_tables.specs.Tables.{or_else}

module _ {K V : Type 0} (cmp : K → K → Ordering) (same : K → K → Bool) (told : (a b : K) → is_eq (cmp a b) ≡ same a b) where
  pub looked : (m : BTreeMap K V) (k : K) → lookup (same k) m.entries ≡ get cmp m k
  looked m k = sym (λ i. lookup (λ q. told k q i) m.entries)

  found : (m n : BTreeMap K V) (key : K) (v : V) → Updates cmp m n key (Some v) → (k : K) → lookup (same k) n.entries ≡ cond (same key k) (Some v) (lookup (same k) m.entries)
  found m n key v u k = looked n k ∙ u.0 k ∙ (λ i. cond (told key k i) (Some v) (sym (looked m k) i))

  pub set_values : (absent : V) (m n : BTreeMap K V) (key : K) (v : V) → Updates cmp m n key (Some v) → (k : K)
      → or_else absent (lookup (same k) n.entries) ≡ (if same key k then v else or_else absent (lookup (same k) m.entries))
  set_values absent m n key v u k = ap (or_else absent) (found m n key v u k) ∙ go (same key k)
    where
      go : (b : Bool) → or_else absent (cond b (Some v) (lookup (same k) m.entries)) ≡ (if b then v else or_else absent (lookup (same k) m.entries))
      go true = refl
      go false = refl

  pub set_places : (m n : BTreeMap K V) (key : K) (v : V) → Updates cmp m n key (Some v) → (k : K) → is_some (lookup (same k) m.entries) ≡ true → is_some (lookup (same k) n.entries) ≡ true
  set_places m n key v u k has = ap is_some (found m n key v u k) ∙ go (same key k)
    where
      go : (b : Bool) → is_some (cond b (Some v) (lookup (same k) m.entries)) ≡ true
      go true = refl
      go false = has

  -- a key that has a place is there
  pub stands : (m : BTreeMap K V) (key : K) → is_some (lookup (same key) m.entries) ≡ true → get cmp m key ≡ None → ⊥
  stands m key has none = absurd (let e : false ≡ true = sym (ap is_some (looked m key ∙ none)) ∙ has in cc)

  -- a key that wasn't there gets the value of all absent keys
  pub touch_values : ((a b : K) → same a b ≡ true → a ≡ b) → (absent : V) (m n : BTreeMap K V) (key : K) → Updates cmp m n key (Some absent) → get cmp m key ≡ None → (k : K)
      → or_else absent (lookup (same k) n.entries) ≡ or_else absent (lookup (same k) m.entries)
  touch_values one absent m n key u none k = set_values absent m n key absent u k ∙ go (same key k) refl
    where
      go : (b : Bool) → same key k ≡ b → (if b then absent else or_else absent (lookup (same k) m.entries)) ≡ or_else absent (lookup (same k) m.entries)
      go true e = sym (ap (or_else absent) (looked m k ∙ ap (get cmp m) (sym (one key k e)) ∙ none))
      go false e = refl

-- what is refused for one cause alone is done where that cause isn't there
pub done : {X Y : Type 0} (r : Result X Y) (U C : Type 0) → OnOk r U → OnErr r C → (C → ⊥) → U
done (Ok x) U C u c fails = u
done (Err y) U C u c fails = absurd (fails c)
