-- Lemmas that crates above use: names of lanes, and a lane's part of a list.
use Rattle.std.proofs.Common.{◌≡◌, ◌≤◌, Bool, true, false, ◌&&◌, List, [], ◌∷◌, ◌++◌, length, refl, sym, ap, subst, arith}
use Rattle.std.specs.Prelude.{if◌then◌else◌, ◌==◌, ◌≢◌}
use Rattle.std.proofs.lemmas.Bool.{and_parts, and_from, eqb-true, eq-eqb, false_from_ne_true}
use Rattle.event_lists.specs.declared.lane.LaneName.{LaneName}
use Rattle.event_lists.specs.declared.mark.Mark.{Mark}
use Rattle.event_lists.specs.Events.{part, same_lane, same_bool}

same_bool_true : (a b : Bool) → same_bool a b ≡ true → a ≡ b
same_bool_true true true e = refl
same_bool_true true false e = sym e
same_bool_true false true e = e
same_bool_true false false e = refl

same_bool_refl : (a : Bool) → same_bool a a ≡ true
same_bool_refl true = refl
same_bool_refl false = refl

pub same_lane_true : (a b : LaneName) → same_lane a b ≡ true → a ≡ b
same_lane_true a b e =
    let p = and_parts (a.rank == b.rank) (same_bool a.bin b.bin && (a.number == b.number)) e in
    let q = and_parts (same_bool a.bin b.bin) (a.number == b.number) p.1 in
    λ i. record { rank = eqb-true a.rank b.rank p.0 i; bin = same_bool_true a.bin b.bin q.0 i; number = eqb-true a.number b.number q.1 i }

pub same_lane_refl : (a : LaneName) → same_lane a a ≡ true
same_lane_refl a = and_from (a.rank == a.rank) _ (eq-eqb a.rank a.rank refl) (and_from (same_bool a.bin a.bin) _ (same_bool_refl a.bin) (eq-eqb a.number a.number refl))

pub part_append : (l : LaneName) (more log : List Mark) → part l (more ++ log) ≡ part l more ++ part l log
part_append l [] log = refl
part_append l (x ∷ more) log = step (part_append l more log) (same_lane x.lane l)
  where
    step : part l (more ++ log) ≡ part l more ++ part l log → (b : Bool) → (if b then x.event ∷ part l (more ++ log) else part l (more ++ log)) ≡ (if b then x.event ∷ part l more else part l more) ++ part l log
    step e true = ap (λ es. x.event ∷ es) e
    step e false = e

pub part_own : (l : LaneName) (x : Mark) (log : List Mark) → x.lane ≡ l → part l (x ∷ log) ≡ x.event ∷ part x.lane log
part_own l x log same = subst (λ (m : LaneName). part m (x ∷ log) ≡ x.event ∷ part x.lane log) same (ap (λ (b : Bool). if b then x.event ∷ part x.lane log else part x.lane log) (same_lane_refl x.lane))

pub other_lane : (a b : LaneName) → a ≢ b → same_lane a b ≡ false
other_lane a b apart = false_from_ne_true (same_lane a b) (λ t. apart (same_lane_true a b t))

pub part_other : (l : LaneName) (x : Mark) (log : List Mark) → x.lane ≢ l → part l (x ∷ log) ≡ part l log
part_other l x log apart = ap (λ (b : Bool). if b then x.event ∷ part l log else part l log) (other_lane x.lane l apart)

pub part_length_grows : (l : LaneName) (x : Mark) (log : List Mark) → length (part l log) ≤ length (part l (x ∷ log))
part_length_grows l x log = step (same_lane x.lane l)
  where
    step : (b : Bool) → length (part l log) ≤ length (if b then x.event ∷ part l log else part l log)
    step true = omega arith
    step false = omega arith
