-- Lemmas that crates above use: sums over ranks, and the counts of all ranks.
use Rattle.std.proofs.Common.{◌≡◌, ◌≢◌, ℕ, zero, suc, ◌+◌, ◌<◌, ◌≤◌, Bool, true, false, List, [], ◌∷◌, refl, sym, ap, subst, ⊎_elim, arith, length}
use Rattle.std.specs.Prelude.{◌==◌, ◌&&◌, ◌*◌}
use Rattle.std.proofs.lemmas.Bool.{eq-eqb, ne_eqb, cases_eq, and_parts, eqb-true}
use Rattle.std.proofs.Math.Nat.{le_trans}
use Rattle.event_lists.specs.declared.lane.LaneName.{LaneName}
use Rattle.event_lists.specs.declared.event.Event.{Event}
use Rattle.event_lists.specs.declared.event.Event.TheVariants.{Sent, Handled, Submitted, Ran}
use Rattle.event_lists.specs.declared.mark.Mark.{Mark}
use Rattle.event_lists.specs.declared.kind.Kind.{Kind}
use Rattle.event_lists.specs.declared.kind.Kind.TheVariants.{Sends as sends, Handlings as handlings, Submissions as submissions, Runs as runs}
use Rattle.event_lists.specs.Events.{part, is_kind, counts, count}
use Rattle.event_lists.specs.Fences.{sum_ranks}
use Rattle.event_lists.specs.Legal.{Legal, NumberFits}
use Rattle.event_lists.specs.Bins.{Bins}
use Rattle.event_lists.specs.OwnEvents.{hand_of}
use Rattle.event_lists.proofs.CountLemmas.{one_if}
use Rattle.event_lists.proofs.LaneLemmas.{part_own, part_length_grows}

pub sum_le : (f g : ℕ → ℕ) (n : ℕ) → ((r : ℕ) → r < n → f r ≤ g r) → sum_ranks f n ≤ sum_ranks g n
sum_le f g zero h = omega arith
sum_le f g (suc n) h = omega (arith, h n (omega arith), sum_le f g n (λ r b. h r (omega arith)))

-- where each term is at most another's, and the sums are equal, each term is equal
pub squeezed : (f g : ℕ → ℕ) (n : ℕ) → ((r : ℕ) → r < n → f r ≤ g r) → sum_ranks g n ≤ sum_ranks f n → (r : ℕ) → r < n → f r ≡ g r
squeezed f g zero h e r b = absurd (omega arith)
squeezed f g (suc n) h e r b =
    let rest = sum_le f g n (λ q c. h q (omega arith)) in
    let here = h n (omega arith) in
    ⊎_elim
    (λ (same : r ≡ n). subst (λ (q : ℕ). f q ≡ g q) (sym same) (omega arith))
    (λ (apart : r ≢ n). squeezed f g n (λ q c. h q (omega arith)) (omega arith) r (omega arith))
    (cases_eq r n)

pub same_sum : (f g : ℕ → ℕ) (n : ℕ) → ((r : ℕ) → r < n → f r ≡ g r) → sum_ranks f n ≡ sum_ranks g n
same_sum f g zero h = refl
same_sum f g (suc n) h = omega (arith, h n (omega arith), same_sum f g n (λ r b. h r (omega arith)))

sum_add : (f g : ℕ → ℕ) (n : ℕ) → sum_ranks (λ r. f r + g r) n ≡ sum_ranks f n + sum_ranks g n
sum_add f g zero = omega arith
sum_add f g (suc n) = omega (arith, sum_add f g n)

sum_none : (f : ℕ → ℕ) (n : ℕ) → ((r : ℕ) → r < n → f r ≡ 0) → sum_ranks f n ≡ 0
sum_none f zero h = refl
sum_none f (suc n) h = omega (arith, h n (omega arith), sum_none f n (λ r b. h r (omega arith)))

sum_one : (b : Bool) (q n : ℕ) → q < n → sum_ranks (λ r. one_if ((q == r) && b)) n ≡ one_if b
sum_one b q zero h = absurd (omega arith)
sum_one b q (suc n) h = ⊎_elim
    (λ (same : q ≡ n).
    let here : one_if ((q == n) && b) ≡ one_if b = ap (λ (t : Bool). one_if (t && b)) (eq-eqb q n same) in
    let others : sum_ranks (λ r. one_if ((q == r) && b)) n ≡ 0 = sum_none (λ r. one_if ((q == r) && b)) n (λ r c. ap (λ (t : Bool). one_if (t && b)) (ne_eqb q r (λ e. omega arith))) in
    omega arith)
    (λ (apart : q ≢ n).
    let here : one_if ((q == n) && b) ≡ 0 = ap (λ (t : Bool). one_if (t && b)) (ne_eqb q n apart) in
    let others = sum_one b q n (omega arith) in
    omega arith)
    (cases_eq q n)

-- the counts of all ranks are the events of that kind
abbrev pub total : Kind → List Mark → ℕ
total k [] = 0
total k (x ∷ log) = one_if (is_kind k x.event) + total k log

pub totals : (k : Kind) (ranks workers : ℕ) (log : List Mark) → Legal ranks workers log → sum_ranks (λ r. count k r log) ranks ≡ total k log
totals k ranks workers [] h = sum_none (λ r. 0) ranks (λ r b. refl)
totals k ranks workers (x ∷ log) h =
    let one = sum_one (is_kind k x.event) x.lane.rank ranks h.0.named.0 in
    let rest = totals k ranks workers log h.1 in
    let both = sum_add (λ r. one_if (counts k r x)) (λ r. count k r log) ranks in
    omega arith

-- counted events are on lanes of hands
counted_on_hand : (k : Kind) (l : LaneName) (mine : List Event) (e : Event) → Bins l mine e → is_kind k e ≡ true → l.bin ≡ false
counted_on_hand sends l mine (Sent n to p) b i = b
counted_on_hand handlings l mine (Handled n r m) b i = b
counted_on_hand submissions l mine (Submitted n t) b i = b
counted_on_hand runs l mine (Ran n r t) b i = b
counted_on_hand k l mine e b i = absurd (cc)

-- where one term grows and no other shrinks, the sum grows
sum_more : (f g : ℕ → ℕ) (n q : ℕ) → q < n → suc (f q) ≤ g q → ((r : ℕ) → f r ≤ g r) → suc (sum_ranks f n) ≤ sum_ranks g n
sum_more f g zero q b more all = absurd (omega arith)
sum_more f g (suc n) q b more all = ⊎_elim
    (λ (same : q ≡ n).
    let here : suc (f n) ≤ g n = subst (λ (z : ℕ). suc (f z) ≤ g z) same more in
    omega (arith, here, sum_le f g n (λ r c. all r)))
    (λ (apart : q ≢ n). omega (arith, sum_more f g n q (omega arith) more all, all n))
    (cases_eq q n)

-- a count is at most the sum of the lengths of the lanes of the rank's hands
pub count_below_lengths : (ranks workers : ℕ) (log : List Mark) → Legal ranks workers log → (k : Kind) (r : ℕ) → count k r log ≤ sum_ranks (λ n. length (part (hand_of r n) log)) (suc workers)
count_below_lengths ranks workers [] h k r = omega arith
count_below_lengths ranks workers (x ∷ log) h k r = go (counts k r x) refl (count_below_lengths ranks workers log h.1 k r)
  where
    before : ℕ → ℕ
    before n = length (part (hand_of r n) log)

    after : ℕ → ℕ
    after n = length (part (hand_of r n) (x ∷ log))

    grows : (n : ℕ) → before n ≤ after n
    grows n = part_length_grows (hand_of r n) x log

    go : (b : Bool) → counts k r x ≡ b → count k r log ≤ sum_ranks before (suc workers) → one_if b + count k r log ≤ sum_ranks after (suc workers)
    go false e rest = omega (arith, rest, sum_le before after (suc workers) (λ n c. grows n))
    go true e rest =
        let p = and_parts (x.lane.rank == r) (is_kind k x.event) e in
        let hand = counted_on_hand k x.lane (part x.lane log) x.event h.0.bins p.1 in
        let is : x.lane ≡ hand_of r x.lane.number = λ i. record { rank = eqb-true x.lane.rank r p.0 i; bin = hand i; number = x.lane.number } in
        let fits : x.lane.number ≤ workers = subst (NumberFits workers x.lane.number) hand h.0.named.1 in
        let longer : suc (before x.lane.number) ≤ after x.lane.number = subst (λ (l : LaneName). suc (length (part l log)) ≤ length (part l (x ∷ log))) is (let own = ap length (part_own x.lane x log refl) in omega (arith, own)) in
        omega (arith, rest, sum_more before after (suc workers) x.lane.number (omega (arith, fits)) longer grows)

sum_bound : (f : ℕ → ℕ) (m n : ℕ) → ((r : ℕ) → f r ≤ m) → sum_ranks f n ≤ n * m
sum_bound f m zero h = omega arith
sum_bound f m (suc n) h = omega (arith, h n, sum_bound f m n h)

-- so where no lane is longer than m, it is at most m for each hand
pub count_bounded : (ranks workers m : ℕ) (log : List Mark) → Legal ranks workers log → ((l : LaneName) → length (part l log) ≤ m) → (k : Kind) (r : ℕ) → count k r log ≤ suc workers * m
count_bounded ranks workers m log h short k r =
    let sum = sum_bound (λ n. length (part (hand_of r n) log)) m (suc workers) (λ n. short (hand_of r n)) in
    le_trans (count_below_lengths ranks workers log h k r) sum
