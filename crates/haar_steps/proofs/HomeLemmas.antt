-- The ranks of keys' units and of futures are those of the job as plain data.
use Rattle.std.proofs.Common.{◌≡◌, ◌≢◌, ◌⊎◌, ℕ, zero, suc, ◌+◌, ◌*◌, ◌/◌, ◌%◌, ◌^◌, ◌≤◌, ◌<◌, Bool, true, false, cond, if◌then◌else◌, ◌&&◌, Option, Some, None, refl, sym, ap, ◌∙◌, subst, ⊎_elim, arith, nat_lt, nat_le}
use Rattle.std.proofs.lemmas.Bool.{cases_lt, cond-true, cond-false, lt-ltb, le-ltb, le-leb, lt-leb, ltb-true, leb-true, and_parts, and_from}
use Rattle.std.proofs.lemmas.Nat.{pow-add, pow_pos, mod_below}
use Rattle.std.proofs.Math.Pow.{pow_mono}
use Rattle.std.proofs.Math.Nat.{div-lt_iff_lt-mul, mul-lt-mul_of_pos_right}
use Rattle.app_core.specs.declared.Label.{Label}
use Rattle.app_core.specs.Homes.{rank_within}
use Rattle.std.specs.Option.{unwrap_or}
use Rattle.tree_key.specs.Keys.{Key, IsKey, child, parent, place_of}
use Rattle.owner_map.specs.declared.OwnerMap.{OwnerMap}
use Rattle.owner_map.specs.declared.OwnerMap.TheVariants.{Block, Spread, Level}
use Rattle.owner_map.specs.Owners.{owner, spread, is_spread_by_itself}
use Rattle.haar_units.specs.Distributions.{by_map, place_owner}
use Rattle.haar_units.specs.Places.{key_at}
use Rattle.haar_units.proofs.PlaceLemmas.{places_have_keys, keys_have_places}
use Rattle.haar_base.specs.Units.{place_rule, place_home, kept_rule_by, kept_at}

-- a key's owner is one of the ranks
pub owner_below : (owners : OwnerMap) (k : Key) (ranks : ℕ) → k.at < 2 ^ k.level → 1 ≤ ranks → owner owners k ranks < ranks
owner_below Block k ranks within least =
    let less : k.at * ranks < 2 ^ k.level * ranks = mul-lt-mul_of_pos_right within least in
    (div-lt_iff_lt-mul {k = 2 ^ k.level} {x = k.at * ranks} {y = ranks} (pow_pos k.level)).1 (omega (arith, less))
owner_below Spread k ranks within least = mod_below _ ranks least
owner_below Level k ranks within least = by_case (is_spread_by_itself k)
  where
    by_case : (b : Bool) → cond b (spread k ranks) (spread (unwrap_or (parent k) k) ranks) < ranks
    by_case true = mod_below _ ranks least
    by_case false = mod_below _ ranks least

-- a rank that there is stays
pub rank_stays : (ranks rank : ℕ) → rank < ranks → rank_within ranks (Some rank) ≡ rank
rank_stays ranks rank below = cond-true (nat_lt rank ranks) rank 0 (lt-ltb rank ranks below)

-- places of keys

pub least_place : (k : Key) → 1 ≤ place_of k
least_place k = let some : 0 < 2 ^ k.level = pow_pos k.level in omega (arith, some)

pub place_below : (k : Key) → k.level ≤ 16 → k.at < 2 ^ k.level → place_of k < 2 ^ 17
place_below k few within =
    let more : 2 ^ (k.level + 1) ≤ 2 ^ 17 = pow_mono {i = k.level + 1} {j = 17} (omega (arith, few)) in
    let power : 2 ^ (k.level + 1) ≡ 2 ^ k.level * 2 = pow-add 2 k.level 1 in
    omega (arith, more, power, within)

pub left_place : (k : Key) → place_of (child k false) ≡ 2 * place_of k
left_place k = let power : 2 ^ (k.level + 1) ≡ 2 ^ k.level * 2 = pow-add 2 k.level 1 in omega (arith, power)

pub right_place : (k : Key) → place_of (child k true) ≡ 2 * place_of k + 1
right_place k = let power : 2 ^ (k.level + 1) ≡ 2 ^ k.level * 2 = pow-add 2 k.level 1 in omega (arith, power)

pub left_within : (k : Key) → k.at < 2 ^ k.level → (child k false).at < 2 ^ (child k false).level
left_within k within = let power : 2 ^ (k.level + 1) ≡ 2 ^ k.level * 2 = pow-add 2 k.level 1 in omega (arith, power, within)

pub right_within : (k : Key) → k.at < 2 ^ k.level → (child k true).at < 2 ^ (child k true).level
right_within k within = let power : 2 ^ (k.level + 1) ≡ 2 ^ k.level * 2 = pow-add 2 k.level 1 in omega (arith, power, within)

-- the key of a place that has one
pub level_below : (place : ℕ) → 1 ≤ place → place < 2 ^ 17 → (key_at place).level ≤ 16
level_below place least below = ⊎_elim (λ over. absurd (no over)) (λ few. few) (cases_lt 16 (key_at place).level)
  where
    no : 16 < (key_at place).level → ⊥
    no over =
        let more : 2 ^ 17 ≤ 2 ^ (key_at place).level = pow_mono {i = 17} {j = (key_at place).level} (omega (arith, over)) in
        let is = (places_have_keys place least).0 in
        omega (arith, more, is, below)

pub rule_there : (owners : OwnerMap) (place ranks : ℕ) → 1 ≤ place → place < 2 ^ 17 → place_rule owners place ranks ≡ Some (owner owners (key_at place) ranks)
rule_there owners place ranks least below = cond-true (nat_le 1 place && nat_lt place (2 ^ 17)) _ None (and_from (nat_le 1 place) (nat_lt place (2 ^ 17)) (le-leb 1 place least) (lt-ltb place (2 ^ 17) below))

pub place_home_is : (owners : OwnerMap) (place ranks : ℕ) → 1 ≤ ranks → 1 ≤ place → place < 2 ^ 17 → place_home owners place ranks ≡ place_owner (by_map owners ranks) place
place_home_is owners place ranks some least below =
    ap (rank_within ranks) (rule_there owners place ranks least below)
    ∙ rank_stays ranks (owner owners (key_at place) ranks) (owner_below owners (key_at place) ranks (places_have_keys place least).1 some)
    ∙ sym (cond-true (nat_lt 0 place) (owner owners (key_at place) ranks) 0 (lt-ltb 0 place (omega (arith, least))))

-- a unit of a key runs at the owner of the key's place
pub key_home : (owners : OwnerMap) (k : Key) (ranks : ℕ) → 1 ≤ ranks → k.at < 2 ^ k.level → rank_within ranks (Some (owner owners k ranks)) ≡ place_owner (by_map owners ranks) (place_of k)
key_home owners k ranks some within =
    rank_stays ranks (owner owners k ranks) (owner_below owners k ranks within some)
    ∙ sym (cond-true (nat_lt 0 (place_of k)) (owner owners (key_at (place_of k)) ranks) 0 (lt-ltb 0 (place_of k) (least_place k)) ∙ ap (λ (j : Key). owner owners j ranks) (keys_have_places k within))

-- the future of a place is kept by the owner of the place above
pub future_kept : (owners : OwnerMap) (place ranks : ℕ) → 1 ≤ ranks → place < 2 ^ 17 → place_home owners (place / 2) ranks ≡ (if nat_lt 1 place then place_owner (by_map owners ranks) (place / 2) else 0)
future_kept owners place ranks some below = ⊎_elim
    (λ over. let half : 1 ≤ place / 2 = omega (arith, over) in let less : place / 2 < 2 ^ 17 = omega (arith, below) in
    place_home_is owners (place / 2) ranks some half less ∙ sym (cond-true (nat_lt 1 place) (place_owner (by_map owners ranks) (place / 2)) 0 (lt-ltb 1 place over)))
    (λ one. let none : place / 2 ≡ 0 = omega (arith, one) in
    ap (λ (p : ℕ). place_home owners p ranks) none ∙ sym (cond-false (nat_lt 1 place) (place_owner (by_map owners ranks) (place / 2)) 0 (le-ltb 1 place one)))
    (cases_lt 1 place)

-- the rank that keeps a future, by the key above
pub kept_by_key : (owners : OwnerMap) (future : Label) (ranks : ℕ) (k : Key) → future.part ≡ 0 → IsKey k → place_of k ≡ future.place / 2 → rank_within ranks (Some (owner owners k ranks)) ≡ kept_at owners future ranks
kept_by_key owners future ranks k part is place =
    ap (rank_within ranks) (sym (ap (λ (n : ℕ). kept_rule_by owners n future.place ranks) part
    ∙ ap (λ (p : ℕ). place_rule owners p ranks) (sym place)
    ∙ rule_there owners (place_of k) ranks (least_place k) (place_below k is.level is.at)
    ∙ ap (λ (j : Key). Some (owner owners j ranks)) (keys_have_places k is.at)))

-- a place that no key has
rule_missing : (owners : OwnerMap) (place ranks : ℕ) → ((k : Key) → IsKey k → place_of k ≢ place) → place_rule owners place ranks ≡ None
rule_missing owners place ranks none = by_test (nat_le 1 place && nat_lt place (2 ^ 17)) refl
  where
    by_test : (b : Bool) → (nat_le 1 place && nat_lt place (2 ^ 17)) ≡ b → place_rule owners place ranks ≡ None
    by_test true e =
        let p = and_parts (nat_le 1 place) (nat_lt place (2 ^ 17)) e in
        let least : 1 ≤ place = leb-true 1 place p.0 in
        let is = places_have_keys place least in
        absurd (none (key_at place) (record { level = level_below place least (ltb-true place (2 ^ 17) p.1); at = is.1 }) is.0)
    by_test false e = cond-false (nat_le 1 place && nat_lt place (2 ^ 17)) _ None e

pub kept_by_none : (owners : OwnerMap) (future : Label) (ranks : ℕ) → future.part ≡ 0 → ((k : Key) → IsKey k → place_of k ≢ future.place / 2) → 0 ≡ kept_at owners future ranks
kept_by_none owners future ranks part none =
    ap (rank_within ranks) (sym (ap (λ (n : ℕ). kept_rule_by owners n future.place ranks) part ∙ rule_missing owners (future.place / 2) ranks none))
