-- Lemmas that crates above use: the lanes of all ranks.
use Rattle.std.proofs.Common.{List, [], map, ◌∷◌, ◌≡◌, ◌≢◌, ℕ, zero, suc, ◌<◌, ◌≤◌, Bool, true, false, ◌++◌, refl, sym, ap, subst, ⊎_elim, arith}
use Rattle.std.proofs.lemmas.Bool.{cases_eq}
use Rattle.event_lists.specs.declared.lane.LaneName.{LaneName}
use Rattle.event_lists.specs.Legal.{IsLane, NumberFits}
use Rattle.world_rule.proofs.ContainsLemmas.{contains_none, contains_first, contains_later, contains_cases}
use Rattle.std.proofs.lemmas.List.Elements.{Contains-append_cases, Contains-append_left, Contains-append_right}
use Rattle.std.specs.Prelude.{Contains}
use Rattle.world_rule.specs.Views.{empty_part}
use Rattle.world_rule.specs.CounterWords.{lanes_of, all_lanes}

-- the lanes of all ranks are those that have a name
in_lanes_of : (r : ℕ) (b : Bool) (n : ℕ) (l : LaneName) → Contains (lanes_of r b n) l → (l.rank ≡ r) × (l.bin ≡ b) × (l.number < n)
in_lanes_of r b zero l h = contains_none l h
in_lanes_of r b (suc n) l h = ⊎_elim
    (λ (e : record { rank = r; bin = b; number = n } ≡ l). (sym (ap (λ (m : LaneName). m.rank) e), sym (ap (λ (m : LaneName). m.bin) e), (let k : n ≡ l.number = ap (λ (m : LaneName). m.number) e in omega arith)))
    (λ t. let k = in_lanes_of r b n l t in (k.0, k.1, omega (arith, k.2)))
    (contains_cases (record { rank = r; bin = b; number = n }) (lanes_of r b n) l h)

has_lanes_of : (r : ℕ) (b : Bool) (n : ℕ) (l : LaneName) → l.rank ≡ r → l.bin ≡ b → l.number < n → Contains (lanes_of r b n) l
has_lanes_of r b zero l p q h = absurd (omega arith)
has_lanes_of r b (suc n) l p q h =
    let here : LaneName = record { rank = r; bin = b; number = n } in
    ⊎_elim
    (λ (e : l.number ≡ n). let same : here ≡ l = λ i. record { rank = sym p i; bin = sym q i; number = sym e i } in subst (Contains (here ∷ lanes_of r b n)) same (contains_first here (lanes_of r b n)))
    (λ (a : l.number ≢ n). contains_later here (lanes_of r b n) l (has_lanes_of r b n l p q (omega (arith, a))))
    (cases_eq l.number n)

pub is_lane : (ranks workers : ℕ) (l : LaneName) → Contains (all_lanes ranks workers) l → IsLane ranks workers l
is_lane zero workers l h = contains_none l h
is_lane (suc r) workers l h = ⊎_elim
    (λ a. let k = in_lanes_of r false (suc workers) l a in (omega (arith, k.0), subst (NumberFits workers l.number) (sym k.1) (omega (arith, k.2))))
    (λ c. ⊎_elim
    (λ a. let k = in_lanes_of r true 16 l a in (omega (arith, k.0), subst (NumberFits workers l.number) (sym k.1) k.2))
    (λ b. let k = is_lane r workers l b in (omega (arith, k.0), k.1))
    (Contains-append_cases (lanes_of r true 16) (all_lanes r workers) l c))
    (Contains-append_cases (lanes_of r false (suc workers)) (lanes_of r true 16 ++ all_lanes r workers) l h)

pub has_lane : (ranks workers : ℕ) (l : LaneName) → IsLane ranks workers l → Contains (all_lanes ranks workers) l
has_lane zero workers l h = absurd (omega (arith, h.0))
has_lane (suc r) workers l h = ⊎_elim
    (λ (e : l.rank ≡ r). by_kind e l.bin refl)
    (λ (a : l.rank ≢ r). Contains-append_right (lanes_of r false (suc workers)) (lanes_of r true 16 ++ all_lanes r workers) l (Contains-append_right (lanes_of r true 16) (all_lanes r workers) l (has_lane r workers l (omega (arith, a, h.0), h.1))))
    (cases_eq l.rank r)
  where
    by_kind : l.rank ≡ r → (b : Bool) → l.bin ≡ b → Contains (all_lanes (suc r) workers) l
    by_kind e false is = Contains-append_left (lanes_of r false (suc workers)) (lanes_of r true 16 ++ all_lanes r workers) l (has_lanes_of r false (suc workers) l e is (let k : l.number ≤ workers = subst (NumberFits workers l.number) is h.1 in omega arith))
    by_kind e true is = Contains-append_right (lanes_of r false (suc workers)) (lanes_of r true 16 ++ all_lanes r workers) l (Contains-append_left (lanes_of r true 16) (all_lanes r workers) l (has_lanes_of r true 16 l e is (subst (NumberFits workers l.number) is h.1)))

-- the first seat has each lane, without events
pub root_has : (ranks workers : ℕ) (l : LaneName) → IsLane ranks workers l → Contains (map empty_part (all_lanes ranks workers)) (empty_part l)
root_has ranks workers l is = mapped (all_lanes ranks workers) (has_lane ranks workers l is)
  where
    mapped : (ls : List LaneName) → Contains ls l → Contains (map empty_part ls) (empty_part l)
    mapped [] h = contains_none l h
    mapped (m ∷ ls) h = ⊎_elim
        (λ (e : m ≡ l). subst (λ (z : LaneName). Contains (empty_part z ∷ map empty_part ls) (empty_part l)) (sym e) (contains_first (empty_part l) (map empty_part ls)))
        (λ r. contains_later (empty_part m) (map empty_part ls) (empty_part l) (mapped ls r))
        (contains_cases m ls l h)
