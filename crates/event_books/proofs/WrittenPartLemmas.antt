-- Lemmas that crates above use: the parts of a legal list are those of a book.
use Rattle.std.proofs.Common.{◌≡◌, ◌⊎◌, ℕ, zero, suc, ◌+◌, ◌<◌, ◌≤◌, Bool, true, false, List, [], ◌∷◌, ◌++◌, reverse, length, refl, sym, ap, subst, ◌∙◌, inl, inr, arith}
use Rattle.std.specs.Prelude.{if◌then◌else◌, All, AllPairs}
use Rattle.std.proofs.lemmas.List.{reverse-append, reverse-reverse, length-reverse}
use Rattle.std.proofs.lemmas.List.Elements.{All-nil, All-cons, All-append, All-push, All-weaker}
use Rattle.std.proofs.lemmas.List.Kept.{AllPairs-cons}
use Rattle.app_core.specs.Commands.{IsRankCount}
use Rattle.event_lists.specs.declared.lane.LaneName.{LaneName}
use Rattle.event_lists.specs.declared.event.Event.{Event}
use Rattle.event_lists.specs.declared.event.Event.TheVariants.{Receipt as Receives}
use Rattle.event_lists.specs.declared.receipt.Receipt.{Receipt}
use Rattle.event_lists.specs.declared.mark.Mark.{Mark}
use Rattle.event_lists.specs.Events.{same_lane, part}
use Rattle.event_lists.specs.Fences.{Fences}
use Rattle.event_lists.specs.Legal.{IsLane, NumberFits, Legal}
use Rattle.event_lists.proofs.LaneLemmas.{same_lane_true, same_lane_refl}
use Rattle.event_books.specs.Books.{PartData, IsBefore, HasRows, events_of, lanes_from, lanes_of_ranks, lanes_in_order, part_with, parts_in, book_of, PartsAreOfABook}

-- what holds of each element and each later one of two lists, and of each of the first and each of the second
pairs_append : {X : Type 0} (R : X → X → Type 0) (xs ys : List X) → AllPairs R xs → AllPairs R ys → All (λ x. All (R x) ys) xs → AllPairs R (xs ++ ys)
pairs_append R [] ys h k across = k
pairs_append R (x ∷ xs) ys h k across =
    AllPairs-cons R x (xs ++ ys) (All-append (R x) xs ys (λ i d lt. h 0 (suc i) d (omega arith) (omega arith)) (across 0 x (omega arith)))
    (pairs_append R xs ys (λ i j d lt within. h (suc i) (suc j) d (omega arith) (omega arith)) k (λ i d lt. across (suc i) d (omega arith)))

all_reversed : {X : Type 0} (P : X → Type 0) (xs : List X) → All P xs → All P (reverse xs)
all_reversed P [] h = h
all_reversed P (x ∷ xs) h =
    subst (All P) (sym (reverse-append (x ∷ []) xs)) (All-push P (reverse xs) x (all_reversed P xs (λ i d lt. h (suc i) d (omega arith))) (h 0 x (omega arith)))

-- a lane of a kind, of a rank and with a number in a range
record IsAmong (b : Bool) (low high first last : ℕ) (l : LaneName) : Type 0 where
  kind : l.bin ≡ b
  rank : (low ≤ l.rank) × (l.rank < high)
  number : (first ≤ l.number) × (l.number < last)

among_one : (b : Bool) (r k n : ℕ) → All (IsAmong b r (suc r) k (k + n)) (lanes_from b r k n)
among_one b r k zero = All-nil (IsAmong b r (suc r) k (k + zero))
among_one b r k (suc n) =
    All-cons (IsAmong b r (suc r) k (k + suc n)) (record { rank = r; bin = b; number = k }) (lanes_from b r (suc k) n)
    (record { kind = refl; rank = (omega arith, omega arith); number = (omega arith, omega arith) })
    (All-weaker (IsAmong b r (suc r) (suc k) (suc k + n)) (IsAmong b r (suc r) k (k + suc n))
    (λ l is. record { kind = is.kind; rank = is.rank; number = (omega (arith, is.number.0), omega (arith, is.number.1)) })
    (lanes_from b r (suc k) n) (among_one b r (suc k) n))

among_ranks : (b : Bool) (each r n : ℕ) → All (IsAmong b r (r + n) 0 each) (lanes_of_ranks b each r n)
among_ranks b each r zero = All-nil (IsAmong b r (r + zero) 0 each)
among_ranks b each r (suc n) =
    All-append (IsAmong b r (r + suc n) 0 each) (lanes_from b r 0 each) (lanes_of_ranks b each (suc r) n)
    (All-weaker (IsAmong b r (suc r) 0 (0 + each)) (IsAmong b r (r + suc n) 0 each)
    (λ l is. record { kind = is.kind; rank = (is.rank.0, omega (arith, is.rank.1)); number = (omega arith, omega (arith, is.number.1)) })
    (lanes_from b r 0 each) (among_one b r 0 each))
    (All-weaker (IsAmong b (suc r) (suc r + n) 0 each) (IsAmong b r (r + suc n) 0 each)
    (λ l is. record { kind = is.kind; rank = (omega (arith, is.rank.0), omega (arith, is.rank.1)); number = is.number })
    (lanes_of_ranks b each (suc r) n) (among_ranks b each (suc r) n))

-- they are in order
ordered_one : (b : Bool) (r k n : ℕ) → AllPairs IsBefore (lanes_from b r k n)
ordered_one b r k zero = λ i j d lt within. absurd (omega (arith, within))
ordered_one b r k (suc n) =
    AllPairs-cons IsBefore (record { rank = r; bin = b; number = k }) (lanes_from b r (suc k) n)
    (All-weaker (IsAmong b r (suc r) (suc k) (suc k + n)) (IsBefore (record { rank = r; bin = b; number = k }))
    (λ l is. inr (sym is.kind, inr (omega (arith, is.rank.0, is.rank.1), omega (arith, is.number.0))))
    (lanes_from b r (suc k) n) (among_one b r (suc k) n))
    (ordered_one b r (suc k) n)

ordered_ranks : (b : Bool) (each r n : ℕ) → AllPairs IsBefore (lanes_of_ranks b each r n)
ordered_ranks b each r zero = λ i j d lt within. absurd (omega (arith, within))
ordered_ranks b each r (suc n) =
    pairs_append IsBefore (lanes_from b r 0 each) (lanes_of_ranks b each (suc r) n) (ordered_one b r 0 each) (ordered_ranks b each (suc r) n)
    (All-weaker (IsAmong b r (suc r) 0 (0 + each)) (λ l. All (IsBefore l) (lanes_of_ranks b each (suc r) n))
    (λ l is. All-weaker (IsAmong b (suc r) (suc r + n) 0 each) (IsBefore l)
    (λ m other. inr (is.kind ∙ sym other.kind, inl (omega (arith, is.rank.1, other.rank.0))))
    (lanes_of_ranks b each (suc r) n) (among_ranks b each (suc r) n))
    (lanes_from b r 0 each) (among_one b r 0 each))

ordered_all : (ranks workers : ℕ) → AllPairs IsBefore (lanes_in_order ranks workers)
ordered_all ranks workers =
    pairs_append IsBefore (lanes_of_ranks false (suc workers) 0 ranks) (lanes_of_ranks true 16 0 ranks) (ordered_ranks false (suc workers) 0 ranks) (ordered_ranks true 16 0 ranks)
    (All-weaker (IsAmong false 0 (0 + ranks) 0 (suc workers)) (λ l. All (IsBefore l) (lanes_of_ranks true 16 0 ranks))
    (λ l is. All-weaker (IsAmong true 0 (0 + ranks) 0 16) (IsBefore l) (λ m other. inl (is.kind, other.kind)) (lanes_of_ranks true 16 0 ranks) (among_ranks true 16 0 ranks))
    (lanes_of_ranks false (suc workers) 0 ranks) (among_ranks false (suc workers) 0 ranks))

-- and lanes of the ranks and workers
fits_hand : (workers : ℕ) (l : LaneName) → l.bin ≡ false → l.number < suc workers → NumberFits workers l.number l.bin
fits_hand workers l hand below = subst (NumberFits workers l.number) (sym hand) (omega (arith, below))

fits_bin : (workers : ℕ) (l : LaneName) → l.bin ≡ true → l.number < 16 → NumberFits workers l.number l.bin
fits_bin workers l bin below = subst (NumberFits workers l.number) (sym bin) below

named_all : (ranks workers : ℕ) → All (IsLane ranks workers) (lanes_in_order ranks workers)
named_all ranks workers =
    All-append (IsLane ranks workers) (lanes_of_ranks false (suc workers) 0 ranks) (lanes_of_ranks true 16 0 ranks)
    (All-weaker (IsAmong false 0 (0 + ranks) 0 (suc workers)) (IsLane ranks workers) (λ l is. (omega (arith, is.rank.1), fits_hand workers l is.kind is.number.1)) (lanes_of_ranks false (suc workers) 0 ranks) (among_ranks false (suc workers) 0 ranks))
    (All-weaker (IsAmong true 0 (0 + ranks) 0 16) (IsLane ranks workers) (λ l is. (omega (arith, is.rank.1), fits_bin workers l is.kind is.number.1)) (lanes_of_ranks true 16 0 ranks) (among_ranks true 16 0 ranks))

-- what holds of each lane with its events holds of each part
all_parts : (P : PartData → Type 0) (log : List Mark) (ls : List LaneName)
    → All (λ l. (e : Event) (es : List Event) → part l log ≡ e ∷ es → P (record { lane = l; events = reverse (e ∷ es) })) ls → All P (parts_in log ls)
all_parts P log [] h = All-nil P
all_parts P log (l ∷ ls) h =
    All-append P (part_with l (part l log)) (parts_in log ls) (one (part l log) (h 0 l (omega arith))) (all_parts P log ls (λ i d lt. h (suc i) d (omega arith)))
  where
    one : (es : List Event) → ((e : Event) (more : List Event) → es ≡ e ∷ more → P (record { lane = l; events = reverse (e ∷ more) })) → All P (part_with l es)
    one [] f = All-nil P
    one (e ∷ es) f = All-cons P (record { lane = l; events = reverse (e ∷ es) }) [] (f e es refl) (All-nil P)

ordered_parts : (log : List Mark) (ls : List LaneName) → AllPairs IsBefore ls → AllPairs (λ (p q : PartData). IsBefore p.lane q.lane) (parts_in log ls)
ordered_parts log [] h = λ i j d lt within. absurd (omega (arith, within))
ordered_parts log (l ∷ ls) h =
    pairs_append (λ (p q : PartData). IsBefore p.lane q.lane) (part_with l (part l log)) (parts_in log ls) (alone (part l log))
    (ordered_parts log ls (λ i j d lt within. h (suc i) (suc j) d (omega arith) (omega arith))) (first (part l log))
  where
    later : All (λ (q : PartData). IsBefore l q.lane) (parts_in log ls)
    later = all_parts (λ (q : PartData). IsBefore l q.lane) log ls (λ i d lt e es is. h 0 (suc i) d (omega arith) (omega arith))

    alone : (es : List Event) → AllPairs (λ (p q : PartData). IsBefore p.lane q.lane) (part_with l es)
    alone [] = λ i j d lt within. absurd (omega (arith, within))
    alone (e ∷ es) = λ i j d lt within. absurd (omega (arith, lt, within))

    first : (es : List Event) → All (λ (p : PartData). All (λ (q : PartData). IsBefore p.lane q.lane) (parts_in log ls)) (part_with l es)
    first [] = All-nil (λ (p : PartData). All (λ (q : PartData). IsBefore p.lane q.lane) (parts_in log ls))
    first (e ∷ es) =
        All-cons (λ (p : PartData). All (λ (q : PartData). IsBefore p.lane q.lane) (parts_in log ls)) (record { lane = l; events = reverse (e ∷ es) }) [] later
        (All-nil (λ (p : PartData). All (λ (q : PartData). IsBefore p.lane q.lane) (parts_in log ls)))

-- each receipt of a legal list has a row for each rank
receipt_rows : (ranks : ℕ) (log : List Mark) (l : LaneName) (mine : List Event) (e : Event) → Fences ranks log l mine e → HasRows ranks e
receipt_rows ranks log l mine e h r is = (subst (Fences ranks log l mine) is h).3.5.0

part_rows : (ranks workers : ℕ) (l : LaneName) (log : List Mark) → Legal ranks workers log → All (HasRows ranks) (part l log)
part_rows ranks workers l [] h = All-nil (HasRows ranks)
part_rows ranks workers l (x ∷ log) h = step (part_rows ranks workers l log h.1) (same_lane x.lane l)
  where
    step : All (HasRows ranks) (part l log) → (b : Bool) → All (HasRows ranks) (if b then x.event ∷ part l log else part l log)
    step rest true = All-cons (HasRows ranks) x.event (part l log) (receipt_rows ranks log x.lane (part x.lane log) x.event h.0.fences) rest
    step rest false = rest

-- a lane in a list of lanes
abbrev Among : LaneName → List LaneName → Type 0
Among l [] = ⊥
Among l (m ∷ ms) = (m ≡ l) ⊎ Among l ms

among_left : (l : LaneName) (ls ms : List LaneName) → Among l ls → Among l (ls ++ ms)
among_left l [] ms h = absurd h
among_left l (k ∷ ls) ms (inl is) = inl is
among_left l (k ∷ ls) ms (inr h) = inr (among_left l ls ms h)

among_right : (l : LaneName) (ls ms : List LaneName) → Among l ms → Among l (ls ++ ms)
among_right l [] ms h = h
among_right l (k ∷ ls) ms h = inr (among_right l ls ms h)

next_or_more : (a c : ℕ) → (a ≡ c) ⊎ (suc a ≤ c) → (suc a ≡ suc c) ⊎ (suc (suc a) ≤ suc c)
next_or_more a c (inl e) = inl (ap suc e)
next_or_more a c (inr g) = inr (omega (arith, g))

same_or_more : (a c : ℕ) → a ≤ c → (a ≡ c) ⊎ (suc a ≤ c)
same_or_more zero zero h = inl refl
same_or_more zero (suc c) h = inr (omega arith)
same_or_more (suc a) zero h = absurd (omega (arith, h))
same_or_more (suc a) (suc c) h = next_or_more a c (same_or_more a c (omega (arith, h)))

lane_from : (l : LaneName) (b : Bool) (r k n : ℕ) → l.bin ≡ b → l.rank ≡ r → k ≤ l.number → l.number < k + n → Among l (lanes_from b r k n)
lane_from l b r k zero bin rank low high = absurd (omega (arith, low, high))
lane_from l b r k (suc n) bin rank low high = at (λ more. lane_from l b r (suc k) n bin rank more (omega (arith, high))) (same_or_more k l.number low)
  where
    at : (suc k ≤ l.number → Among l (lanes_from b r (suc k) n)) → (k ≡ l.number) ⊎ (suc k ≤ l.number) → Among l (lanes_from b r k (suc n))
    at rest (inl e) = inl (λ i. record { rank = (sym rank) i; bin = (sym bin) i; number = e i })
    at rest (inr more) = inr (rest more)

lane_of_ranks : (l : LaneName) (b : Bool) (each r n : ℕ) → l.bin ≡ b → r ≤ l.rank → l.rank < r + n → l.number < each → Among l (lanes_of_ranks b each r n)
lane_of_ranks l b each r zero bin low high below = absurd (omega (arith, low, high))
lane_of_ranks l b each r (suc n) bin low high below = at (λ more. lane_of_ranks l b each (suc r) n bin more (omega (arith, high)) below) (same_or_more r l.rank low)
  where
    at : (suc r ≤ l.rank → Among l (lanes_of_ranks b each (suc r) n)) → (r ≡ l.rank) ⊎ (suc r ≤ l.rank) → Among l (lanes_of_ranks b each r (suc n))
    at rest (inl e) = among_left l (lanes_from b r 0 each) (lanes_of_ranks b each (suc r) n) (lane_from l b r 0 each bin (sym e) (omega arith) (omega (arith, below)))
    at rest (inr more) = among_right l (lanes_from b r 0 each) (lanes_of_ranks b each (suc r) n) (rest more)

lane_in_order : (ranks workers : ℕ) (l : LaneName) → IsLane ranks workers l → Among l (lanes_in_order ranks workers)
lane_in_order ranks workers l is = kind l.bin refl is.1
  where
    kind : (b : Bool) → l.bin ≡ b → NumberFits workers l.number b → Among l (lanes_in_order ranks workers)
    kind false e fits = among_left l (lanes_of_ranks false (suc workers) 0 ranks) (lanes_of_ranks true 16 0 ranks) (lane_of_ranks l false (suc workers) 0 ranks e (omega arith) (omega (arith, is.0)) (omega (arith, fits)))
    kind true e fits = among_right l (lanes_of_ranks false (suc workers) 0 ranks) (lanes_of_ranks true 16 0 ranks) (lane_of_ranks l true 16 0 ranks e (omega arith) (omega (arith, is.0)) fits)

-- the events of a lane among these are those of the list
found : (log : List Mark) (l : LaneName) (ls : List LaneName) → Among l ls ⊎ (part l log ≡ []) → reverse (part l log) ≡ events_of l (parts_in log ls)
found log l [] (inl h) = absurd h
found log l [] (inr none) = ap reverse none
found log l (m ∷ ms) h = step (found log l ms) (part m log) refl
  where
    next : part m log ≡ [] → Among l ms ⊎ (part l log ≡ [])
    next none = go h
      where
        go : Among l (m ∷ ms) ⊎ (part l log ≡ []) → Among l ms ⊎ (part l log ≡ [])
        go (inl (inl is)) = inr (ap (λ (k : LaneName). part k log) (sym is) ∙ none)
        go (inl (inr later)) = inl later
        go (inr empty) = inr empty

    other : same_lane m l ≡ false → Among l ms ⊎ (part l log ≡ [])
    other apart = go h
      where
        go : Among l (m ∷ ms) ⊎ (part l log ≡ []) → Among l ms ⊎ (part l log ≡ [])
        go (inl (inl is)) = absurd (let e : true ≡ false = sym (same_lane_refl m) ∙ ap (same_lane m) is ∙ apart in cc)
        go (inl (inr later)) = inl later
        go (inr empty) = inr empty

    step : (Among l ms ⊎ (part l log ≡ []) → reverse (part l log) ≡ events_of l (parts_in log ms)) → (es : List Event) → part m log ≡ es → reverse (part l log) ≡ events_of l (part_with m es ++ parts_in log ms)
    step rest [] none = rest (next none)
    step rest (e ∷ es) has = go (same_lane m l) refl
      where
        go : (b : Bool) → same_lane m l ≡ b → reverse (part l log) ≡ (if b then reverse (e ∷ es) else events_of l (parts_in log ms))
        go true same = ap reverse (ap (λ (k : LaneName). part k log) (sym (same_lane_true m l same)) ∙ has)
        go false apart = rest (other apart)

-- a lane with events is one of the ranks and workers
lane_named : (ranks workers : ℕ) (log : List Mark) (l : LaneName) (e : Event) (es : List Event) → Legal ranks workers log → part l log ≡ e ∷ es → IsLane ranks workers l
lane_named ranks workers [] l e es h has = absurd (cc)
lane_named ranks workers (x ∷ log) l e es h has = step (lane_named ranks workers log l e es h.1) (same_lane x.lane l) refl has
  where
    step : (part l log ≡ e ∷ es → IsLane ranks workers l) → (b : Bool) → same_lane x.lane l ≡ b → (if b then x.event ∷ part l log else part l log) ≡ e ∷ es → IsLane ranks workers l
    step rest true same is = subst (IsLane ranks workers) (same_lane_true x.lane l same) h.0.named
    step rest false apart is = rest is

pub parts_are_of_a_book : PartsAreOfABook
parts_are_of_a_book ranks workers log range few legal = (
  record {
    ranks = range;
    workers = few;
    named = all_parts (λ p. IsLane ranks workers p.lane) log lanes (All-weaker (IsLane ranks workers) (λ l. (e : Event) (es : List Event) → part l log ≡ e ∷ es → IsLane ranks workers l) (λ l is e es has. is) lanes (named_all ranks workers));
    ordered = ordered_parts log lanes (ordered_all ranks workers);
    written = all_parts (λ p. 1 ≤ length p.events) log lanes (λ i d lt e es has. let n = length-reverse (e ∷ es) in omega (arith, n));
    rows = all_parts (λ p. All (HasRows ranks) p.events) log lanes (λ i d lt e es has. all_reversed (HasRows ranks) (e ∷ es) (subst (All (HasRows ranks)) has (part_rows ranks workers _ log legal)));
  },
  λ l. sym (ap reverse (sym (found log l lanes (among l (part l log) refl))) ∙ reverse-reverse (part l log)),
)
  where
    lanes : List LaneName
    lanes = lanes_in_order ranks workers

    among : (l : LaneName) (es : List Event) → part l log ≡ es → Among l lanes ⊎ (part l log ≡ [])
    among l [] none = inr none
    among l (e ∷ es) has = inl (lane_in_order ranks workers l (lane_named ranks workers log l e es legal has))
