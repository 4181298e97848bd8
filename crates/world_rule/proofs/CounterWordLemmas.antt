-- The words count, and never come near the end of their range.
use Rattle.std.proofs.Common.{◌≡◌, ◌≢◌, ℕ, zero, suc, ◌+◌, ◌*◌, ◌^◌, ◌%◌, ◌<◌, ◌≤◌, Bool, true, false, List, [], ◌∷◌, ◌++◌, length, set, refl, sym, ap, ◌∙◌, subst, inl, inr, ⊎_elim, arith, length-append, length-set, get_or-set_same, get_or-set_other}
use Rattle.std.specs.Prelude.{slice_index, if◌then◌else◌, ◌==◌, ◌&&◌}
use Rattle.std.proofs.lemmas.Bool.{cases_eq, eq-eqb, eqb-true, and_parts, and_from, both_ways}
use Rattle.event_lists.specs.declared.lane.LaneName.{LaneName}
use Rattle.event_lists.specs.declared.event.Event.{Event}
use Rattle.event_lists.specs.declared.mark.Mark.{Mark}
use Rattle.event_lists.specs.declared.kind.Kind.{Kind}
use Rattle.event_lists.specs.declared.kind.Kind.TheVariants.{Sends as sends, Handlings as handlings, Submissions as submissions, Runs as runs}
use Rattle.event_lists.specs.Events.{part, Stands, is_kind, counts, count}
use Rattle.event_lists.specs.Legal.{Legal}
use Rattle.event_lists.proofs.LaneLemmas.{part_own, part_length_grows}
use Rattle.event_lists.proofs.ListLemmas.{legal_named}
use Rattle.world_rule.proofs.LaneNameLemmas.{has_lane}
use Rattle.world_rule.proofs.ContainsLemmas.{contains_none, contains_cases}
use Rattle.std.specs.Prelude.{Contains}
use Rattle.world_rule.specs.CounterWords.{lanes_of, all_lanes, place, word_at, stop_word, word_count, WordsShow}

abbrev sum_parts : List LaneName → List Mark → ℕ
sum_parts [] log = 0
sum_parts (l ∷ ls) log = length (part l log) + sum_parts ls log

sum_grows : (ls : List LaneName) (x : Mark) (log : List Mark) → sum_parts ls log ≤ sum_parts ls (x ∷ log)
sum_grows [] x log = omega arith
sum_grows (l ∷ ls) x log = omega (arith, part_length_grows l x log, sum_grows ls x log)

sum_more : (ls : List LaneName) (x : Mark) (log : List Mark) → Contains ls x.lane → suc (sum_parts ls log) ≤ sum_parts ls (x ∷ log)
sum_more [] x log h = contains_none x.lane h
sum_more (l ∷ ls) x log h = ⊎_elim
    (λ (e : l ≡ x.lane).
    let own : length (part l (x ∷ log)) ≡ suc (length (part l log)) = subst (λ (m : LaneName). length (part m (x ∷ log)) ≡ suc (length (part m log))) (sym e) (ap length (part_own x.lane x log refl)) in
    omega (arith, own, sum_grows ls x log))
    (λ t. omega (arith, part_length_grows l x log, sum_more ls x log t))
    (contains_cases l ls x.lane h)

length_below : (ls : List LaneName) (log : List Mark) → ((x : Mark) → Stands x log → Contains ls x.lane) → length log ≤ sum_parts ls log
length_below ls [] named = omega arith
length_below ls (x ∷ log) named = omega (arith, length_below ls log (λ y st. named y (inr st)), sum_more ls x log (named x (inl refl)))

sum_below : (ls : List LaneName) (log : List Mark) → ((l : LaneName) → length (part l log) ≤ 2 ^ 48) → sum_parts ls log ≤ length ls * 2 ^ 48
sum_below [] log short = omega arith
sum_below (l ∷ ls) log short = omega (arith, sum_below ls log short, short l)

length-lanes_of : (r : ℕ) (b : Bool) (n : ℕ) → length (lanes_of r b n) ≡ n
length-lanes_of r b zero = refl
length-lanes_of r b (suc n) = ap suc (length-lanes_of r b n)

few_lanes : (ranks workers : ℕ) → workers ≤ 4 → length (all_lanes ranks workers) ≤ 21 * ranks
few_lanes zero workers h = omega arith
few_lanes (suc r) workers h = omega (arith, length-append (lanes_of r false (suc workers)) (lanes_of r true 16 ++ all_lanes r workers), length-append (lanes_of r true 16) (all_lanes r workers), few_lanes r workers h, length-lanes_of r false (suc workers), length-lanes_of r true 16, h)

bit : (b : Bool) → (if b then 1 else 0) ≤ 1
bit true = omega arith
bit false = omega arith

count_le : (k : Kind) (r : ℕ) (log : List Mark) → count k r log ≤ length log
count_le k r [] = omega arith
count_le k r (x ∷ log) = let one = bit (counts k r x) in omega (arith, count_le k r log, one)

pub count_fits : (ranks workers : ℕ) (log : List Mark) (k : Kind) (r : ℕ) → ranks ≤ 16 → workers ≤ 4 → Legal ranks workers log → ((l : LaneName) → length (part l log) ≤ 2 ^ 48) → count k r log < 2 ^ 60
count_fits ranks workers log k r few small legal short =
    omega (arith, count_le k r log, length_below (all_lanes ranks workers) log (λ x s. has_lane ranks workers x.lane (legal_named ranks workers log legal x s)), sum_below (all_lanes ranks workers) log short, few_lanes ranks workers small)

pub set_own : (ws : List ℕ) (i : ℕ) → set ws i (slice_index ws i) ≡ ws
set_own [] i = refl
set_own (w ∷ ws) zero = refl
set_own (w ∷ ws) (suc i) = ap (λ (l : List ℕ). w ∷ l) (set_own ws i)

off : (b : Bool) (n : ℕ) → (if (b && false) then 1 else 0) + n ≡ n
off true n = omega arith
off false n = omega arith

other_kind : (k : Kind) (r : ℕ) (x : Mark) (log : List Mark) → is_kind k x.event ≡ false → count k r (x ∷ log) ≡ count k r log
other_kind k r x log none = ap (λ (b : Bool). (if ((x.lane.rank == r) && b) then 1 else 0) + count k r log) none ∙ off (x.lane.rank == r) (count k r log)

-- a step that leaves its word, with an event that counts nothing
pub words_same : (ranks i : ℕ) (words : List ℕ) (log : List Mark) (x : Mark) → WordsShow ranks words log → ((k : Kind) → is_kind k x.event ≡ false) → WordsShow ranks (set words i (slice_index words i)) (x ∷ log)
words_same ranks i words log x w none = record {
  size = length-set words i (slice_index words i) ∙ w.size;
  zero = ap (λ (ws : List ℕ). slice_index ws 0) (set_own words i) ∙ w.zero;
  each = λ k r h. ap (λ (ws : List ℕ). slice_index ws (word_at k r)) (set_own words i) ∙ w.each k r h ∙ sym (other_kind k r x log (none k));
}

-- two kinds at two ranks have one word only where they are one
same_word : (k j : Kind) (r q : ℕ) → word_at k r ≡ word_at j q → (place k ≡ place j) × (r ≡ q)
same_word sends sends r q e = (refl, omega arith)
same_word sends handlings r q e = absurd (omega arith)
same_word sends submissions r q e = absurd (omega arith)
same_word sends runs r q e = absurd (omega arith)
same_word handlings sends r q e = absurd (omega arith)
same_word handlings handlings r q e = (refl, omega arith)
same_word handlings submissions r q e = absurd (omega arith)
same_word handlings runs r q e = absurd (omega arith)
same_word submissions sends r q e = absurd (omega arith)
same_word submissions handlings r q e = absurd (omega arith)
same_word submissions submissions r q e = (refl, omega arith)
same_word submissions runs r q e = absurd (omega arith)
same_word runs sends r q e = absurd (omega arith)
same_word runs handlings r q e = absurd (omega arith)
same_word runs submissions r q e = absurd (omega arith)
same_word runs runs r q e = (refl, omega arith)

within : (k : Kind) (r ranks : ℕ) → r < ranks → word_at k r < word_count ranks
within sends r ranks h = omega arith
within handlings r ranks h = omega arith
within submissions r ranks h = omega arith
within runs r ranks h = omega arith

not_zero : (k : Kind) (r : ℕ) → 0 ≢ word_at k r
not_zero sends r e = omega arith
not_zero handlings r e = omega arith
not_zero submissions r e = omega arith
not_zero runs r e = omega arith

same_kind : (k j : Kind) (e : Event) → place k ≡ place j → is_kind k e ≡ is_kind j e
same_kind sends sends e h = refl
same_kind handlings handlings e h = refl
same_kind submissions submissions e h = refl
same_kind runs runs e h = refl
same_kind _ _ e h = absurd (omega arith)

-- a step that adds one to the word of an event's kind
pub words_add : (ranks : ℕ) (words : List ℕ) (log : List Mark) (x : Mark) (k : Kind) → WordsShow ranks words log → x.lane.rank < ranks → is_kind k x.event ≡ true → ((j : Kind) → place j ≢ place k → is_kind j x.event ≡ false) → count k x.lane.rank log < 2 ^ 60
    → WordsShow ranks (set words (word_at k x.lane.rank) ((slice_index words (word_at k x.lane.rank) + 1) % 2 ^ 64)) (x ∷ log)
words_add ranks words log x k w fits is others small = record {
  size = length-set words i n ∙ w.size;
  zero = get_or-set_other words i 0 n 0 (not_zero k x.lane.rank) ∙ w.zero;
  each = each;
}
  where
    i : ℕ
    i = word_at k x.lane.rank

    n : ℕ
    n = (slice_index words i + 1) % 2 ^ 64

    one_more : n ≡ suc (count k x.lane.rank log)
    one_more = let e = w.each k x.lane.rank fits in omega arith

    each : (j : Kind) (r : ℕ) → r < ranks → slice_index (set words i n) (word_at j r) ≡ count j r (x ∷ log)
    each j r h = ⊎_elim
        (λ (e : word_at j r ≡ i).
        let t = same_word j k r x.lane.rank e in
        let counts_it : counts j r x ≡ true = and_from (x.lane.rank == r) (is_kind j x.event) (eq-eqb x.lane.rank r (sym t.1)) (same_kind j k x.event t.0 ∙ is) in
        let one : count j r (x ∷ log) ≡ suc (count j r log) = ap (λ (b : Bool). (if b then 1 else 0) + count j r log) counts_it ∙ omega arith in
        let same : count j r log ≡ count k x.lane.rank log = sym (w.each j r h) ∙ ap (slice_index words) e ∙ w.each k x.lane.rank fits in
        ap (slice_index (set words i n)) e ∙ get_or-set_same words i n 0 (let wide = w.size in let inside = within k x.lane.rank ranks fits in omega arith) ∙ one_more ∙ sym (one ∙ ap suc same))
        (λ (a : word_at j r ≢ i).
        get_or-set_other words i (word_at j r) n 0 a ∙ w.each j r h ∙ sym (unless (counts j r x) refl (count j r log) (λ t. let p = and_parts (x.lane.rank == r) (is_kind j x.event) t in
        let rank = eqb-true x.lane.rank r p.0 in
        ⊎_elim
        (λ (same : place j ≡ place k). a (ap (λ (z : ℕ × ℕ). 16 * z.0 + (32 + z.1)) (λ m. (sym rank m, same m))))
        (λ (apart : place j ≢ place k). both_ways (is_kind j x.event) (others j apart) p.1)
        (cases_eq (place j) (place k)))))
        (cases_eq (word_at j r) i)
      where
        unless : (b : Bool) → b ≡ b → (m : ℕ) → (b ≡ true → ⊥) → (if b then 1 else 0) + m ≡ m
        unless true _ m h = absurd (h refl)
        unless false _ m h = omega arith

-- a step on the stop word, which counts nothing
pub words_stop : (ranks n : ℕ) (words : List ℕ) (log : List Mark) → WordsShow ranks words log → WordsShow ranks (set words stop_word n) log
words_stop ranks n words log w = record {
  size = length-set words stop_word n ∙ w.size;
  zero = get_or-set_other words stop_word 0 n 0 (λ e. omega arith) ∙ w.zero;
  each = λ k r h. get_or-set_other words stop_word (word_at k r) n 0 (apart k r h) ∙ w.each k r h;
}
  where
    apart : (k : Kind) (r : ℕ) → r < ranks → word_at k r ≢ stop_word
    apart sends r h e = omega arith
    apart handlings r h e = omega arith
    apart submissions r h e = omega arith
    apart runs r h e = omega arith

-- the stop word stays
pub stop_same : (ranks i : ℕ) (words : List ℕ) → slice_index (set words i (slice_index words i)) stop_word ≡ slice_index words stop_word
stop_same ranks i words = ap (λ (ws : List ℕ). slice_index ws stop_word) (set_own words i)

pub stop_add : (ranks : ℕ) (words : List ℕ) (k : Kind) (r n : ℕ) → r < ranks → slice_index (set words (word_at k r) n) stop_word ≡ slice_index words stop_word
stop_add ranks words k r n h = get_or-set_other words (word_at k r) stop_word n 0 (apart k)
  where
    apart : (k : Kind) → stop_word ≢ word_at k r
    apart sends e = omega arith
    apart handlings e = omega arith
    apart submissions e = omega arith
    apart runs e = omega arith
