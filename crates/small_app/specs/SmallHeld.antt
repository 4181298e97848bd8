-- The small application meets the laws of an application on lists of events.
use Rattle.std.proofs.Common.{◌≡◌, ◌⊎◌, ℕ, zero, suc, ◌<◌, Bool, true, false, List, [], ◌∷◌, length, refl, sym, ap, subst, ◌∙◌, inl, inr, ⊎_elim, arith}
use Rattle.std.specs.Prelude.{Some, None, ◌↔◌, slice_get, slice_index_or, if◌then◌else◌, ◌==◌, Contains, MatchBool, ⊤}
use Rattle.std.proofs.lemmas.Bool.{eqb-true, eq-eqb}
use Rattle.app_core.specs.declared.Label.{Label}
use Rattle.app_core.specs.declared.CellName.{CellName}
use Rattle.app_core.specs.declared.Outline.{Outline}
use Rattle.app_core.specs.declared.Outline.TheVariants as of
use Rattle.app_core.specs.Given.{Given}
use Rattle.app_core.specs.Homes.{rank_within}
use Rattle.app_core.specs.Outlines.{Touches}
use Rattle.event_lists.specs.declared.lane.LaneName.{LaneName}
use Rattle.event_lists.specs.declared.receipt.Receipt.{Receipt}
use Rattle.event_lists.specs.declared.mark.Mark.{Mark}
use Rattle.event_lists.specs.Events.{part}
use Rattle.event_lists.specs.Bins.{is_put}
use Rattle.event_laws.specs.Follows.{TaskEffects, IsRun, bin_of}
use Rattle.event_laws.specs.Apart.{Apart, spawned, HasOneBringer, EffectsApart, ErasesPut}
use Rattle.event_laws.specs.Held.{HasReceipt, IsBefore, ComesAfter, BinsHold, AreDifferent, AllSound, HasNoWriter, all_told, entry, fences_before}
use Rattle.event_laws.specs.Stages.{UnitHas}
use Rattle.event_laws.proofs.SourceLemmas.{apart}
use Rattle.event_laws.proofs.BringerLemmas.{one_bringer, effects_apart}
use Rattle.event_laws.proofs.EraseLemmas.{erases_put}
use Rattle.event_laws.proofs.UnitLemmas.{units_lie}
use Rattle.event_laws.proofs.TotalLemmas.{all_counted}
use Rattle.small_app.specs.declared.unit.Unit.{Unit}
use Rattle.small_app.specs.declared.unit.Unit.TheVariants.{Fill, Leaf, Sum, Clear, Read, Count, Total, Guessed}
use Rattle.small_app.specs.Guess.{guess_entry}
use Rattle.small_app.specs.GuessLaws.{command_is, touches_its_entry}
use Rattle.small_app.specs.Small.{kinds, leaf_entry, leaf_future, leaf_value, leaf_rank, label_of, home_of, entry_home_of, reads_of, counts_of, dropped_of, IsRightSize, step_of, told, MayDo, MayRead, MayCount}
use Rattle.small_app.specs.SmallUnits.{program, unit_at, no_inputs, outlines_of, IsSound, plan, home, parent, raiser, dues, needs, first_units, units_before, writer_of, holds, total_of}
use Rattle.small_app.specs.SmallTree.{by_outline, by_label, tree}
use Rattle.small_app.specs.SmallNames.{futures, places, unit_erases, puts_once, erases_once, eraser_waits}
use Rattle.small_app.specs.SmallComes.{stage, staged, OfFirst, first_is_before, first_are_units, units_are}

-- the entries

abbrev left_rank : ℕ → ℕ
left_rank ranks = rank_within ranks (leaf_rank false)

abbrev right_rank : ℕ → ℕ
right_rank ranks = rank_within ranks (leaf_rank true)

-- the two entries that are put, and the ranks at which they are
abbrev IsLeafEntry : ℕ → CellName → ℕ → Type 0
IsLeafEntry ranks c rank = ((c ≡ leaf_entry false) × (left_rank ranks ≡ rank)) ⊎ ((c ≡ leaf_entry true) × (right_rank ranks ≡ rank))

leaf_at : (ranks : ℕ) (right : Bool) (value : ℕ) (c : CellName) → of.Put (leaf_entry right) ≡ of.Put c → IsLeafEntry ranks c (home_of (Leaf right value) ranks)
leaf_at ranks false value c e = inl (let z : leaf_entry false ≡ c = cc in sym z, refl)
leaf_at ranks true value c e = inr (let z : leaf_entry true ≡ c = cc in sym z, refl)

not_guess : {A : Type 0} (c : CellName) → c.version ≡ 1 → of.Put guess_entry ≡ of.Put c → A
not_guess c one e = absurd (let z : guess_entry ≡ c = cc in let two : 2 ≡ c.version = ap (λ (n : CellName). n.version) z in omega (arith, one, two))

-- what is put of version 1 is a leaf's entry
puts_leaf : (ranks : ℕ) (unit : Unit) (i : ℕ) (c : CellName) → c.version ≡ 1 → slice_get (outlines_of ranks unit) i ≡ Some (of.Put c) → IsLeafEntry ranks c (home_of unit ranks)
puts_leaf ranks unit i c one e = by_outline ranks (λ unit i o. (c : CellName) → c.version ≡ 1 → o ≡ of.Put c → IsLeafEntry ranks c (home_of unit ranks)) (record {
  left = λ c one e. absurd (cc);
  right = λ c one e. absurd (cc);
  sum = λ c one e. absurd (cc);
  put = λ right value c one e. leaf_at ranks right value c e;
  leaf_gives = λ _ _ c one e. absurd (cc);
  clear = λ c one e. absurd (cc);
  sum_gives = λ c one e. absurd (cc);
  erase = λ c one e. absurd (cc);
  read_gives = λ c one e. absurd (cc);
  count_gives = λ c one e. absurd (cc);
  total_gives = λ c one e. absurd (cc);
  guess_gives = λ c one e. absurd (cc);
  early_puts = λ c one e. not_guess c one e;
  early_gives = λ c one e. absurd (cc);
  late = λ c one e. absurd (cc);
  late_puts = λ c one e. not_guess c one e;
  late_gives = λ c one e. absurd (cc);
}) unit no_inputs i (of.Put c) e c one refl

erases_right : (ranks : ℕ) (unit : Unit) (i : ℕ) (c : CellName) → slice_get (outlines_of ranks unit) i ≡ Some (of.Erase c) → c ≡ leaf_entry true
erases_right ranks unit i c e = (unit_erases ranks unit no_inputs i c e).2

-- who puts or erases an entry of version 1 is of the first command
leaf_command : (right : Bool) → (leaf_future right).command ≡ 1
leaf_command false = refl
leaf_command true = refl

writes_first : (ranks : ℕ) (c : CellName) → c.version ≡ 1 → (p : Label) (os : List Outline) (i : ℕ) (o : Outline) → MayDo ranks p os → slice_get os i ≡ Some o → (o ≡ of.Put c) ⊎ (o ≡ of.Erase c) → OfFirst p
writes_first ranks c one p os i o m e kind = by_label ranks (λ p i o. (o ≡ of.Put c) ⊎ (o ≡ of.Erase c) → OfFirst p) (record {
  left = λ k. refl;
  right = λ k. refl;
  sum = λ k. refl;
  put = λ right _ k. leaf_command right;
  leaf_gives = λ right _ k. leaf_command right;
  clear = λ k. refl;
  sum_gives = λ k. refl;
  erase = λ k. refl;
  read_gives = λ k. ⊎_elim (λ e. absurd (cc)) (λ e. absurd (cc)) k;
  count_gives = λ k. ⊎_elim (λ e. absurd (cc)) (λ e. absurd (cc)) k;
  total_gives = λ k. ⊎_elim (λ e. absurd (cc)) (λ e. absurd (cc)) k;
  guess_gives = λ k. ⊎_elim (λ e. absurd (cc)) (λ e. absurd (cc)) k;
  early_puts = λ k. ⊎_elim (λ e. not_guess c one e) (λ e. absurd (cc)) k;
  early_gives = λ k. ⊎_elim (λ e. absurd (cc)) (λ e. absurd (cc)) k;
  late = λ k. ⊎_elim (λ e. absurd (cc)) (λ e. absurd (cc)) k;
  late_puts = λ k. ⊎_elim (λ e. not_guess c one e) (λ e. absurd (cc)) k;
  late_gives = λ k. ⊎_elim (λ e. absurd (cc)) (λ e. absurd (cc)) k;
}) p os i o m e kind

-- the places that a rank holds: the left one, or none
abbrev held_if : Bool → List ℕ
held_if b = if b then 2 ∷ [] else []

held_place : (b : Bool) (place : ℕ) → Contains (held_if b) place → (b ≡ true) × (place ≡ 2)
held_place true place (zero, lt, e) = (refl, sym e)
held_place true place (suc k, lt, e) = absurd (omega (arith, lt))
held_place false place (k, lt, e) = absurd (omega (arith, lt))

holds_left : (b : Bool) (place : ℕ) → b ≡ true → place ≡ 2 → Contains (held_if b) place
holds_left true place e p = (0, omega arith, sym p)
holds_left false place e p = absurd (cc)

module _ (ranks : ℕ) where
  abbrev Has : ℕ → Outline → Type 0
  Has rank o = UnitHas (plan ranks) (home ranks) first_units rank o

  left_put : Has (left_rank ranks) (of.Put (leaf_entry false))
  left_put = record { unit = label_of (Leaf false (leaf_value false)); is = (1, omega arith, refl); there = refl; at = 0; here = refl }

  right_erased : Has (right_rank ranks) (of.Erase (leaf_entry true))
  right_erased = record { unit = label_of Clear; is = (4, omega arith, refl); there = refl; at = 0; here = refl }

  -- what lies in a bin is what its rank holds
  lies_held : (rank place : ℕ) → Has rank (of.Put (entry 1 place)) → (Has rank (of.Erase (entry 1 place)) → ⊥) → Contains (holds ranks rank 1) place
  lies_held rank place h kept = ⊎_elim
      (λ l. holds_left (rank == left_rank ranks) place (eq-eqb rank (left_rank ranks) (sym h.there ∙ left l.1)) (ap (λ (c : CellName). c.place) l.0))
      (λ r. absurd (kept (subst (λ (c : CellName). Has rank (of.Erase c)) (sym r.0) (subst (λ (q : ℕ). Has q (of.Erase (leaf_entry true))) (r.1 ∙ h.there) right_erased))))
      (puts_leaf ranks (unit_at h.unit) h.at (entry 1 place) refl h.here)
    where
      left : left_rank ranks ≡ home ranks h.unit → home ranks h.unit ≡ left_rank ranks
      left e = sym e

  held_lies : (rank place : ℕ) → Contains (holds ranks rank 1) place → Has rank (of.Put (entry 1 place)) × (Has rank (of.Erase (entry 1 place)) → ⊥)
  held_lies rank place h =
      let p = held_place (rank == left_rank ranks) place h in
      let there : rank ≡ left_rank ranks = eqb-true rank (left_rank ranks) p.0 in (
        subst (λ (z : ℕ). Has rank (of.Put (entry 1 z))) (sym p.1) (subst (λ (q : ℕ). Has q (of.Put (leaf_entry false))) (sym there) left_put),
        (λ e. let z = erases_right ranks (unit_at e.unit) e.at (entry 1 place) e.here in let y : place ≡ 3 = ap (λ (c : CellName). c.place) z in absurd (omega (arith, y, p.1))),
      )

-- the laws

-- of the sound commands the first alone writes, and it writes version 1
writer_is : (version command : ℕ) → writer_of version ≡ Some command → IsSound command → (version ≡ 1) × (command ≡ 1)
writer_is version command e sound = go (version == 1) refl e
  where
    last : (b : Bool) → (if b then Some 5 else None) ≡ Some command → (version ≡ 1) × (command ≡ 1)
    last true e = absurd (let z : 5 ≡ command = cc in omega (arith, z, sound))
    last false e = absurd (cc)

    go : (b : Bool) → (version == 1) ≡ b → (if b then Some 1 else if version == 2 then Some 5 else None) ≡ Some command → (version ≡ 1) × (command ≡ 1)
    go true t e = (eqb-true version 1 t, (let z : 1 ≡ command = cc in sym z))
    go false t e = last (version == 2) e

pub spawns_apart : (ranks : ℕ) (task_effects : TaskEffects) (log : List Mark) (workers : ℕ) → IsRun ranks workers (program ranks) (MayDo ranks) task_effects log → Apart (spawned log)
spawns_apart ranks task_effects log workers run = apart ranks workers (program ranks) (MayDo ranks) task_effects log run parent (tree ranks)

pub bringer_is_one : (ranks : ℕ) (task_effects : TaskEffects) (log : List Mark) (workers : ℕ) → IsRun ranks workers (program ranks) (MayDo ranks) task_effects log → HasOneBringer log
bringer_is_one ranks task_effects log workers run = one_bringer ranks workers (program ranks) (MayDo ranks) task_effects log run raiser dues (futures ranks) parent (tree ranks)

pub puts_apart : (ranks : ℕ) (task_effects : TaskEffects) (log : List Mark) (workers : ℕ) → IsRun ranks workers (program ranks) (MayDo ranks) task_effects log → EffectsApart (λ c. of.Put c) task_effects
puts_apart ranks task_effects log workers run = effects_apart ranks workers (program ranks) (MayDo ranks) task_effects log run parent (tree ranks) (λ c. of.Put c) (puts_once ranks)

pub erases_apart : (ranks : ℕ) (task_effects : TaskEffects) (log : List Mark) (workers : ℕ) → IsRun ranks workers (program ranks) (MayDo ranks) task_effects log → EffectsApart (λ c. of.Erase c) task_effects
erases_apart ranks task_effects log workers run = effects_apart ranks workers (program ranks) (MayDo ranks) task_effects log run parent (tree ranks) (λ c. of.Erase c) (erases_once ranks)

pub erased_was_put : (ranks : ℕ) (task_effects : TaskEffects) (log : List Mark) (workers : ℕ) → IsRun ranks workers (program ranks) (MayDo ranks) task_effects log → ErasesPut task_effects log
erased_was_put ranks task_effects log workers run = erases_put ranks workers (program ranks) (MayDo ranks) task_effects log run parent (tree ranks) (home ranks) needs (places ranks) (eraser_waits ranks)

pub bins_hold : (ranks : ℕ) (task_effects : TaskEffects) (log before : List Mark) (workers : ℕ) (x : Mark) (r : Receipt) (version command : ℕ)
    → IsRun ranks workers (program ranks) (MayDo ranks) task_effects log → HasReceipt log before x r → writer_of version ≡ Some command → IsSound command → IsBefore kinds command r.fence
    → BinsHold ranks (holds ranks) version before × BinsHold ranks (holds ranks) version log
bins_hold ranks task_effects log before workers x r version command run has w sound early =
    let is = writer_is version command w sound in
    let some : 0 < r.fence = subst (λ (z : ℕ). fences_before z kinds < r.fence) is.1 early in
    subst (λ (v : ℕ). BinsHold ranks (holds ranks) v before × BinsHold ranks (holds ranks) v log) (sym is.0) ((λ l place b i. now some l place), (λ l place b i. later some l place))
  where
    lie : 0 < r.fence → (l : LaneName) (place : ℕ) → ((is_put (entry 1 place) (part l before) ≡ true) ↔ (UnitHas (plan ranks) (home ranks) first_units l.rank (of.Put (entry 1 place)) × (UnitHas (plan ranks) (home ranks) first_units l.rank (of.Erase (entry 1 place)) → ⊥) × (l ≡ bin_of l.rank (entry 1 place))))
        × (is_put (entry 1 place) (part l log) ≡ is_put (entry 1 place) (part l before))
    lie some l place = units_lie ranks workers (program ranks) (MayDo ranks) task_effects log before x r run has stage (staged ranks) OfFirst (first_is_before ranks r.fence some) (plan ranks) (home ranks) first_units (first_are_units ranks)
        (puts_apart ranks task_effects log workers run) (entry 1 place) (writes_first ranks (entry 1 place) refl) l

    now : 0 < r.fence → (l : LaneName) (place : ℕ) → (is_put (entry 1 place) (part l before) ≡ true) ↔ (Contains (holds ranks l.rank 1) place × (l ≡ bin_of l.rank (entry 1 place)))
    now some l place =
        let u = lie some l place in (
          (λ p. let d = u.0.0 p in (lies_held ranks l.rank place d.0 d.1, d.2)),
          (λ h. let d = held_lies ranks l.rank place h.0 in u.0.1 (d.0, d.1, h.1)),
        )

    later : 0 < r.fence → (l : LaneName) (place : ℕ) → (is_put (entry 1 place) (part l log) ≡ true) ↔ (Contains (holds ranks l.rank 1) place × (l ≡ bin_of l.rank (entry 1 place)))
    later some l place = subst (λ (b : Bool). (b ≡ true) ↔ (Contains (holds ranks l.rank 1) place × (l ≡ bin_of l.rank (entry 1 place)))) (sym (lie some l place).1) (now some l place)

pub sizes_are_right : (ranks rank version command : ℕ) → writer_of version ≡ Some command → IsSound command → IsRightSize ranks rank version (length (holds ranks rank version)) × AreDifferent (holds ranks rank version)
sizes_are_right ranks rank version command w sound =
    subst (λ (v : ℕ). IsRightSize ranks rank v (length (holds ranks rank v)) × AreDifferent (holds ranks rank v)) (sym (writer_is version command w sound).0) (size (rank == left_rank ranks), different (rank == left_rank ranks))
  where
    size : (b : Bool) → length (held_if b) ≡ (if b then 1 else 0)
    size true = refl
    size false = refl

    different : (b : Bool) → AreDifferent (held_if b)
    different true = λ i j d lt below. absurd (omega (arith, lt, below))
    different false = λ i j d lt below. absurd (omega (arith, lt, below))

pub other_sizes_are_right : (ranks rank version number : ℕ) → HasNoWriter writer_of IsSound version → IsRightSize ranks rank version number
other_sizes_are_right ranks rank version number none = go (version == 1) refl
  where
    go : (b : Bool) → (version == 1) ≡ b → MatchBool b (number ≡ (if rank == left_rank ranks then 1 else 0)) ⊤
    go true e = absurd (none 1 (ap (λ (b : Bool). if b then Some 1 else if version == 2 then Some 5 else None) e) (omega arith))
    go false e = tt

pub totals_are_told : (ranks : ℕ) (task_effects : TaskEffects) (log before : List Mark) (workers : ℕ) (x : Mark) (r : Receipt)
    → IsRun ranks workers (program ranks) (MayDo ranks) task_effects log → HasReceipt log before x r → AllSound kinds IsSound r.fence → all_told r ≡ total_of ranks r.fence
totals_are_told ranks task_effects log before workers x r run has sound = all_counted ranks workers (program ranks) (MayDo ranks) task_effects log before x r run has (spawns_apart ranks task_effects log workers run)
    stage (staged ranks) (plan ranks) (home ranks) (units_before r.fence) (units_are ranks r.fence (few r.fence sound))
  where
    few : (fence : ℕ) → AllSound kinds IsSound fence → fence < 3
    few zero sound = omega arith
    few (suc zero) sound = omega arith
    few (suc (suc zero)) sound = omega arith
    few (suc (suc (suc fence))) sound = absurd (let lt = sound 5 (omega arith, omega arith) (omega arith) in omega (arith, lt))

pub reads_are_held : (ranks : ℕ) (label : Label) (c : CellName) → MayRead label c → Contains (holds ranks (entry_home_of ranks c) c.version) c.place
reads_are_held ranks label c (unit, is, named, (k, lt, e)) = go unit k lt e
  where
    go : (unit : Unit) (k : ℕ) → k < length (reads_of unit) → slice_index_or (reads_of unit) k c ≡ c → Contains (holds ranks (entry_home_of ranks c) c.version) c.place
    go Fill k lt e = absurd (omega (arith, lt))
    go (Leaf right value) k lt e = absurd (omega (arith, lt))
    go Sum k lt e = absurd (omega (arith, lt))
    go Clear k lt e = absurd (omega (arith, lt))
    go Read zero lt e = subst (λ (z : CellName). Contains (holds ranks (entry_home_of ranks z) z.version) z.place) e (holds_left (left_rank ranks == left_rank ranks) 2 (eq-eqb (left_rank ranks) (left_rank ranks) refl) refl)
    go Read (suc k) lt e = absurd (omega (arith, lt))
    go Count k lt e = absurd (omega (arith, lt))
    go Total k lt e = absurd (omega (arith, lt))
    go (Guessed unit) k lt e = absurd (omega (arith, lt))

-- a version is counted by the unit of that label alone
counted : (P : Label → ℕ → Type 0) → P (label_of Count) 1 → (label : Label) (version : ℕ) → MayCount label version → P label version
counted P p label version (unit, is, named, e) = subst (λ (l : Label). P l version) named (go unit e)
  where
    go : (unit : Unit) → counts_of unit ≡ Some version → P (label_of unit) version
    go Fill e = absurd (cc)
    go (Leaf right value) e = absurd (cc)
    go Sum e = absurd (cc)
    go Clear e = absurd (cc)
    go Read e = absurd (cc)
    go Count e = subst (P (label_of Count)) (let z : 1 ≡ version = cc in z) p
    go Total e = absurd (cc)
    go (Guessed unit) e = absurd (cc)

read_by : (P : Label → Type 0) → P (label_of Read) → (label : Label) (c : CellName) → MayRead label c → P label
read_by P p label c (unit, is, named, (k, lt, e)) = subst P named (go unit lt)
  where
    go : (unit : Unit) → k < length (reads_of unit) → P (label_of unit)
    go Fill lt = absurd (omega (arith, lt))
    go (Leaf right value) lt = absurd (omega (arith, lt))
    go Sum lt = absurd (omega (arith, lt))
    go Clear lt = absurd (omega (arith, lt))
    go Read lt = p
    go Count lt = absurd (omega (arith, lt))
    go Total lt = absurd (omega (arith, lt))
    go (Guessed unit) lt = absurd (omega (arith, lt))

pub counts_come_after : (label : Label) (version : ℕ) → MayCount label version → ComesAfter kinds (writer_of version) label.command
counts_come_after = counted (λ label version. ComesAfter kinds (writer_of version) label.command) (record { by = 1; fence = 1; writes = refl; before = omega arith; after = omega arith })

-- what is put or erased is of version 1
leaf_version : (right : Bool) → (leaf_entry right).version ≡ 1
leaf_version false = refl
leaf_version true = refl

written : (b : ℕ) (c : CellName) → c.version ≡ 1 → b ≡ 1 → writer_of c.version ≡ Some b
written b c v one = ap writer_of v ∙ ap Some (sym one)

pub writes_are_of_the_command : (ranks : ℕ) (label : Label) (os : List Outline) (c : CellName) → MayDo ranks label os → Touches os c → writer_of c.version ≡ Some label.command
writes_are_of_the_command ranks label os c (unit, given, is, named, right, lists) touches = subst (λ (l : Label). writer_of c.version ≡ Some l.command) named (go unit given (subst (λ (z : List Outline). Touches z c) lists touches))
  where
    go : (unit : Unit) (given : Given ℕ ℕ) → Touches (told ranks (step_of unit given)) c → writer_of c.version ≡ Some (label_of unit).command
    go Fill given (k, lt, e) = absurd (omega (arith, lt))
    go (Leaf right value) given (zero, lt, e) = written (label_of (Leaf right value)).command c (ap (λ (z : CellName). z.version) (sym e) ∙ leaf_version right) (leaf_command right)
    go (Leaf right value) given (suc k, lt, e) = absurd (omega (arith, lt))
    go Sum given (k, lt, e) = absurd (omega (arith, lt))
    go Clear given (zero, lt, e) = written 1 c (ap (λ (z : CellName). z.version) (sym e)) refl
    go Clear given (suc k, lt, e) = absurd (omega (arith, lt))
    go Read given (k, lt, e) = absurd (omega (arith, lt))
    go Count given (k, lt, e) = absurd (omega (arith, lt))
    go Total given (k, lt, e) = absurd (omega (arith, lt))
    go (Guessed unit) given touches = ap (λ (z : CellName). writer_of z.version) (touches_its_entry ranks unit given c touches).0 ∙ ap Some (sym (command_is unit))

-- version 1 is dropped at fence 2
dropped : (fence i version : ℕ) → slice_get (dropped_of fence) i ≡ Some version → (fence ≡ 2) × (i ≡ 0) × (version ≡ 1)
dropped fence i version e = go (fence == 2) refl i e
  where
    go : (b : Bool) → (fence == 2) ≡ b → (i : ℕ) → slice_get (if b then 1 ∷ [] else []) i ≡ Some version → (fence ≡ 2) × (i ≡ 0) × (version ≡ 1)
    go true t zero e = (eqb-true fence 2 t, refl, (let z : 1 ≡ version = cc in sym z))
    go true t (suc i) e = absurd (cc)
    go false t i e = absurd (cc)

drops : (fence version : ℕ) → Contains (dropped_of fence) version → (fence ≡ 2) × (version ≡ 1)
drops fence version h = go (fence == 2) refl h
  where
    go : (b : Bool) → (fence == 2) ≡ b → Contains (if b then 1 ∷ [] else []) version → (fence ≡ 2) × (version ≡ 1)
    go true t (zero, lt, e) = (eqb-true fence 2 t, sym e)
    go true t (suc k, lt, e) = absurd (omega (arith, lt))
    go false t (k, lt, e) = absurd (omega (arith, lt))

pub dropped_is_written : (fence version : ℕ) → Contains (dropped_of fence) version → (command : ℕ) × (writer_of version ≡ Some command) × IsBefore kinds command fence
dropped_is_written fence version h = let d = drops fence version h in (1, ap writer_of d.1, (let e = d.0 in omega (arith, e)))

pub drops_come_once : (fence other index place version : ℕ) → slice_get (dropped_of fence) index ≡ Some version → slice_get (dropped_of other) place ≡ Some version → (fence ≡ other) × (index ≡ place)
drops_come_once fence other index place version e f =
    let a = dropped fence index version e in
    let b = dropped other place version f in
    (a.0 ∙ sym b.0, a.1 ∙ sym b.1)

pub dropped_stays_unread : (fence version : ℕ) (label : Label) (c : CellName) → Contains (dropped_of fence) version → MayRead label c → IsBefore kinds label.command fence
dropped_stays_unread fence version label c h = read_by (λ l. IsBefore kinds l.command fence) (let e = (drops fence version h).0 in omega (arith, e)) label c

pub dropped_stays_uncounted : (fence version : ℕ) (label : Label) → Contains (dropped_of fence) version → MayCount label version → IsBefore kinds label.command fence
dropped_stays_uncounted fence version label h = counted (λ l v. IsBefore kinds l.command fence) (let e = (drops fence version h).0 in omega (arith, e)) label version
