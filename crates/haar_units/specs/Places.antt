-- The keys of places.
use Rattle.std.specs.Prelude.{◌≡◌, ℕ, zero, suc, ◌/◌, ◌%◌, ◌^◌, ◌<◌, ◌≤◌, nat_lt, Bool, ◌&&◌, ◌==◌, if◌then◌else◌}
use Rattle.tree_key.specs.Keys.{Key, root, child, place_of}

-- the key of a place, found in so many steps; the place itself is steps enough
abbrev pub key_in : ℕ → ℕ → Key
key_in zero place = root
key_in (suc steps) place = if nat_lt 1 place then child (key_in steps (place / 2)) (place % 2 == 1) else root

abbrev pub key_at : ℕ → Key
key_at place = key_in place place

-- each place from 1 has a key, and the key has this place
abbrev pub PlacesHaveKeys : Type 0
PlacesHaveKeys = (place : ℕ) → 1 ≤ place → (place_of (key_at place) ≡ place) × ((key_at place).at < 2 ^ (key_at place).level)

-- each key is the key of its place
abbrev pub KeysHavePlaces : Type 0
KeysHavePlaces = (k : Key) → k.at < 2 ^ k.level → key_at (place_of k) ≡ k

-- whether the key of a place is one of these; place 0 has no key
abbrev pub has_place : (Key → Bool) → ℕ → Bool
has_place keys place = nat_lt 0 place && keys (key_at place)
