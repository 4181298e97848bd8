-- The keys over a key, and over a cell.
use Rattle.std.proofs.Common.{◌≡◌, ℕ, ◌-◌, ◌/◌, ◌^◌, ◌≤◌, Bool, refl, sym, ◌∙◌, ap, arith}
use Rattle.tree_key.specs.Keys.{Key, child, ancestor, InBox, key_over}
use Rattle.tree_key.proofs.BoxLemmas.{same_key, place_from_cell, boxes_nest}
use Rattle.tree_key.proofs.FamilyLemmas.{ancestor_of_child, ancestor_of_ancestor}

-- the keys over a child are those over its parent
pub ancestor_child : (k : Key) (right : Bool) (level : ℕ) → level ≤ k.level → ancestor (child k right) level ≡ ancestor k level
ancestor_child k right level le =
    sym (ancestor_of_ancestor (child k right) k.level level le (omega arith)) ∙ ap (λ above. ancestor above level) (ancestor_of_child k right)

pub ancestor_self : (k : Key) → ancestor k k.level ≡ k
ancestor_self k =
    let none : k.level - k.level ≡ 0 = omega arith in
    let same : k.at / 2 ^ (k.level - k.level) ≡ k.at = rw none (omega arith) in
    same_key (ancestor k k.level) k refl same

-- the keys over a cell of a key's box are the keys over the key
pub key_over_ancestor : (depth : ℕ) (k : Key) (cell level : ℕ) → k.level ≤ depth → level ≤ k.level → InBox depth k cell → key_over depth level cell ≡ ancestor k level
key_over_ancestor depth k cell level deep le inside =
    let above = (boxes_nest depth (ancestor k level) k (omega arith) deep).0 (record { level = le; over = refl }) cell inside in
    same_key (key_over depth level cell) (ancestor k level) refl (place_from_cell depth (ancestor k level) cell above)
