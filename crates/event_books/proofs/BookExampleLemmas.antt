-- The books of small runs, and what isn't one.
use Rattle.std.proofs.Common.{◌≡◌, ℕ, zero, suc, ◌<◌, ◌≤◌, Bool, true, false, List, [], ◌∷◌, ◌++◌, length, refl, ap, subst, ◌∙◌, inl, inr, arith}
use Rattle.std.specs.Prelude.{if◌then◌else◌, ◌==◌, reverse, All, AllPairs, map}
use Rattle.std.specs.List.{list_all}
use Rattle.std.proofs.lemmas.Bool.{and_parts, eqb-true}
use Rattle.std.proofs.lemmas.List.Elements.{All-nil, All-cons}
use Rattle.std.proofs.lemmas.List.Kept.{AllPairs-cons}
use Rattle.event_lists.specs.declared.event.Event.{Event}
use Rattle.event_lists.specs.declared.event.Event.TheVariants.{ReadHandled, ReadRan, ReadSubmitted, ReadSent, Enter, Leave, Receipt as Receives}
use Rattle.event_lists.specs.declared.lane.LaneName.{LaneName}
use Rattle.event_lists.specs.declared.mark.Mark.{Mark}
use Rattle.event_lists.specs.declared.receipt.Row.{Row}
use Rattle.event_lists.specs.Events.{main_of, part, same_lane}
use Rattle.event_lists.specs.Fences.{Fences}
use Rattle.event_lists.specs.Legal.{IsLane, Legal}
use Rattle.event_lists.specs.FenceRuns.{by_main, first_run}
use Rattle.event_lists.proofs.FenceRunLemmas.{no_run}
use Rattle.event_lists.proofs.LaneLemmas.{same_lane_true}
use Rattle.event_books.specs.Books.{PartData, IsBook, IsBefore, HasRows, HasParts, IsLawful}
use Rattle.event_books.specs.BookExamples.{hand, of_two_ranks, nothing_counted, receipt_with, receiver, first_main, first_worker, second_main, first_bin, second_bin, in_order, AreNoBook, whole_run, exchanged_run, of_one_main, IsLawless}

-- an event that is a receipt has so many rows
abbrev fits : ℕ → Event → Bool
fits ranks (Receives r) = length r.rows == ranks
fits ranks _ = true

all_fit : (ranks : ℕ) (es : List Event) → list_all (fits ranks) es ≡ true → All (HasRows ranks) es
all_fit ranks [] h = All-nil (HasRows ranks)
all_fit ranks (e ∷ es) h =
    let p = and_parts (fits ranks e) (list_all (fits ranks) es) h in
    All-cons (HasRows ranks) e es (λ r is. eqb-true (length r.rows) ranks (subst (λ (d : Event). fits ranks d ≡ true) is p.0)) (all_fit ranks es p.1)

-- what holds of one part holds of a list of it
only : (P : PartData → Type 0) (p : PartData) → P p → All P (p ∷ [])
only P p h = All-cons P p [] h (All-nil P)

-- a book in order

named_in_order : All (λ (p : PartData). IsLane 2 1 p.lane) in_order
named_in_order zero d w = (omega arith, omega arith)
named_in_order (suc zero) d w = (omega arith, omega arith)
named_in_order (suc (suc zero)) d w = (omega arith, omega arith)
named_in_order (suc (suc (suc zero))) d w = (omega arith, omega arith)
named_in_order (suc (suc (suc (suc zero)))) d w = (omega arith, omega arith)
named_in_order (suc (suc (suc (suc (suc k))))) d w = absurd (omega arith)

written_in_order : All (λ (p : PartData). 1 ≤ length p.events) in_order
written_in_order zero d w = omega arith
written_in_order (suc zero) d w = omega arith
written_in_order (suc (suc zero)) d w = omega arith
written_in_order (suc (suc (suc zero))) d w = omega arith
written_in_order (suc (suc (suc (suc zero)))) d w = omega arith
written_in_order (suc (suc (suc (suc (suc k))))) d w = absurd (omega arith)

rows_in_order : All (λ (p : PartData). All (HasRows 2) p.events) in_order
rows_in_order zero d w = all_fit 2 first_main.events refl
rows_in_order (suc zero) d w = all_fit 2 first_worker.events refl
rows_in_order (suc (suc zero)) d w = all_fit 2 second_main.events refl
rows_in_order (suc (suc (suc zero))) d w = all_fit 2 first_bin.events refl
rows_in_order (suc (suc (suc (suc zero)))) d w = all_fit 2 second_bin.events refl
rows_in_order (suc (suc (suc (suc (suc k))))) d w = absurd (omega arith)

abbrev Before : PartData → PartData → Type 0
Before p q = IsBefore p.lane q.lane

abbrev bins : List PartData
bins = first_bin ∷ (second_bin ∷ [])

after_first : All (Before first_main) (first_worker ∷ (second_main ∷ bins))
after_first zero d w = inr (refl, inr (refl, omega arith))
after_first (suc zero) d w = inr (refl, inl (omega arith))
after_first (suc (suc zero)) d w = inl (refl, refl)
after_first (suc (suc (suc zero))) d w = inl (refl, refl)
after_first (suc (suc (suc (suc k)))) d w = absurd (omega arith)

after_worker : All (Before first_worker) (second_main ∷ bins)
after_worker zero d w = inr (refl, inl (omega arith))
after_worker (suc zero) d w = inl (refl, refl)
after_worker (suc (suc zero)) d w = inl (refl, refl)
after_worker (suc (suc (suc k))) d w = absurd (omega arith)

after_second : All (Before second_main) bins
after_second zero d w = inl (refl, refl)
after_second (suc zero) d w = inl (refl, refl)
after_second (suc (suc k)) d w = absurd (omega arith)

after_bin : All (Before first_bin) (second_bin ∷ [])
after_bin = only (Before first_bin) second_bin (inr (refl, inl (omega arith)))

one_alone : (p : PartData) → AllPairs Before (p ∷ [])
one_alone p i j d lt w = absurd (omega arith)

pub is_in_order : IsBook (of_two_ranks in_order)
is_in_order = record {
  ranks = (omega arith, omega arith);
  workers = omega arith;
  named = named_in_order;
  ordered = AllPairs-cons Before first_main (first_worker ∷ (second_main ∷ bins)) after_first
      (AllPairs-cons Before first_worker (second_main ∷ bins) after_worker
      (AllPairs-cons Before second_main bins after_second (AllPairs-cons Before first_bin (second_bin ∷ []) after_bin (one_alone second_bin))));
  written = written_in_order;
  rows = rows_in_order;
}

-- what isn't a book

pub hands_by_number : AreNoBook (first_main ∷ (second_main ∷ (first_worker ∷ [])))
hands_by_number b = not_before (b.ordered 1 2 first_main (omega arith) (omega arith))
  where
    not_before : IsBefore second_main.lane first_worker.lane → ⊥
    not_before (inl p) = let e : false ≡ true = p.1 in absurd (cc)
    not_before (inr (e, inl lt)) = let below : 1 < 0 = lt in absurd (omega arith)
    not_before (inr (e, inr (s, lt))) = absurd (omega (arith, s))

pub bins_by_number : AreNoBook (second_bin ∷ (first_bin ∷ []))
bins_by_number b = not_before (b.ordered 0 1 first_main (omega arith) (omega arith))
  where
    not_before : IsBefore second_bin.lane first_bin.lane → ⊥
    not_before (inl p) = let e : true ≡ false = p.0 in absurd (cc)
    not_before (inr (e, inl lt)) = let below : 1 < 0 = lt in absurd (omega arith)
    not_before (inr (e, inr (s, lt))) = absurd (omega (arith, s))

pub bins_before_hands : AreNoBook (first_bin ∷ (second_main ∷ []))
bins_before_hands b = not_before (b.ordered 0 1 first_main (omega arith) (omega arith))
  where
    not_before : IsBefore first_bin.lane second_main.lane → ⊥
    not_before (inl p) = let e : true ≡ false = p.0 in absurd (cc)
    not_before (inr p) = let e : true ≡ false = p.0 in absurd (cc)

pub a_lane_twice : AreNoBook (second_main ∷ (second_main ∷ []))
a_lane_twice b = not_before (b.ordered 0 1 first_main (omega arith) (omega arith))
  where
    not_before : IsBefore second_main.lane second_main.lane → ⊥
    not_before (inl p) = let e : false ≡ true = p.1 in absurd (cc)
    not_before (inr (e, inl lt)) = let below : 1 < 1 = lt in absurd (omega arith)
    not_before (inr (e, inr (s, lt))) = let below : 0 < 0 = lt in absurd (omega arith)

pub a_lane_without_events : AreNoBook (hand 0 0 [] ∷ [])
a_lane_without_events b = let some : 1 ≤ 0 = b.written 0 first_main (omega arith) in absurd (omega arith)

pub no_such_lane : AreNoBook (hand 0 2 second_main.events ∷ [])
no_such_lane b = let within : 2 ≤ 1 = (b.named 0 first_main (omega arith)).1 in absurd (omega arith)

-- a book over two ranks has no receipt with other than two rows
two_rows : (rows : List Row) → IsBook (of_two_ranks (receiver rows ∷ [])) → length rows ≡ 2
two_rows rows b = b.rows (0) first_main (omega arith) 1 (Enter 1) (omega arith) (record { fence = 1; pass = 2; rows = rows }) refl

pub a_row_too_few : AreNoBook (receiver (nothing_counted ∷ []) ∷ [])
a_row_too_few b = absurd (omega (arith, two_rows (nothing_counted ∷ []) b))

pub a_row_too_many : AreNoBook (receiver (nothing_counted ∷ (nothing_counted ∷ (nothing_counted ∷ []))) ∷ [])
a_row_too_many b = absurd (omega (arith, two_rows (nothing_counted ∷ (nothing_counted ∷ (nothing_counted ∷ []))) b))

-- the book of a run of one rank

abbrev one_row : Event
one_row = receipt_with (nothing_counted ∷ [])

pub is_book : IsBook (of_one_main whole_run)
is_book = record {
  ranks = (omega arith, omega arith);
  workers = omega arith;
  named = only (λ (p : PartData). IsLane 1 0 p.lane) (hand 0 0 whole_run) (omega arith, omega arith);
  ordered = one_alone (hand 0 0 whole_run);
  written = only (λ (p : PartData). 1 ≤ length p.events) (hand 0 0 whole_run) (omega arith);
  rows = only (λ (p : PartData). All (HasRows 1) p.events) (hand 0 0 whole_run) (all_fit 1 whole_run refl);
}

abbrev no_events : List Event
no_events = []

-- a list of rank 0's main alone has its events as the part of that lane, and no others
part_of_main : (l : LaneName) (es : List Event) → part l (map (λ (e : Event). by_main e) es) ≡ (if same_lane (main_of 0) l then es else [])
part_of_main l [] = none (same_lane (main_of 0) l)
  where
    none : (b : Bool) → no_events ≡ (if b then no_events else no_events)
    none true = refl
    none false = refl
part_of_main l (e ∷ es) = go (same_lane (main_of 0) l) (part_of_main l es)
  where
    go : (b : Bool) → part l (map (λ (d : Event). by_main d) es) ≡ (if b then es else [])
        → (if b then e ∷ part l (map (λ (d : Event). by_main d) es) else part l (map (λ (d : Event). by_main d) es)) ≡ (if b then e ∷ es else [])
    go true h = ap (λ (xs : List Event). e ∷ xs) h
    go false h = h

has_part : HasParts first_run (of_one_main whole_run)
has_part l = part_of_main l (reverse whole_run) ∙ turned (same_lane (main_of 0) l)
  where
    turned : (b : Bool) → (if b then reverse whole_run else []) ≡ reverse (if b then whole_run else [])
    turned true = refl
    turned false = refl

pub is_lawful : Legal 1 0 first_run → IsLawful (of_one_main whole_run)
is_lawful legal = (first_run, legal, has_part)

-- an event of a lane's part met what its fences ask, on some beginning of the list
came : (ranks workers : ℕ) (log : List Mark) → Legal ranks workers log → (l : LaneName) (later : List Event) (e : Event) (es : List Event) → part l log ≡ later ++ (e ∷ es)
    → (before : List Mark) × Fences ranks before l es e
came ranks workers [] h l later e es is = absurd (empty later is)
  where
    empty : (ds : List Event) → [] ≡ ds ++ (e ∷ es) → ⊥
    empty [] is = cc
    empty (d ∷ ds) is = cc
came ranks workers (x ∷ log) h l later e es is = go (λ ds. came ranks workers log h.1 l ds e es) (same_lane x.lane l) refl later is
  where
    Came : Type 0
    Came = (before : List Mark) × Fences ranks before l es e

    here : x.lane ≡ l → x.event ≡ e → part l log ≡ es → Fences ranks log l es e
    here lane event own =
        subst (λ (d : Event). Fences ranks log l es d) event
        (subst (λ (ds : List Event). Fences ranks log l ds x.event) own (subst (λ (k : LaneName). Fences ranks log k (part k log) x.event) lane h.0.fences))

    go : ((ds : List Event) → part l log ≡ ds ++ (e ∷ es) → (before : List Mark) × Fences ranks before l es e) → (b : Bool) → same_lane x.lane l ≡ b → (ds : List Event)
        → (if b then x.event ∷ part l log else part l log) ≡ ds ++ (e ∷ es) → (before : List Mark) × Fences ranks before l es e
    go rest true same [] is = (log, here (same_lane_true x.lane l same) (cc) (cc))
    go rest true same (d ∷ ds) is = rest ds (cc)
    go rest false same ds is = rest ds is

-- the first event of the part in reverse is that the main leaves a fence
pub not_in_reverse : IsLawless (of_one_main (reverse whole_run))
not_in_reverse (log, legal, parts) = out (came 1 0 log legal (main_of 0) later (Leave 1) [] (parts (main_of 0)))
  where
    later : List Event
    later =
        Enter 1 ∷ (ReadHandled 0 1 1 ∷ (ReadRan 0 1 1 ∷ (ReadSubmitted 0 1 1 ∷ (ReadSent 0 1 1 ∷ (ReadHandled 0 1 2 ∷ (ReadRan 0 1 2 ∷ (ReadSubmitted 0 1 2 ∷ (ReadSent 0 1 2 ∷ (one_row ∷ [])))))))))

    out : ((before : List Mark) × Fences 1 before (main_of 0) [] (Leave 1)) → ⊥
    out (before, f) = let inside = f.0.2 in absurd (cc)

pub not_exchanged : IsLawless (of_one_main exchanged_run)
not_exchanged (log, legal, parts) = out (came 1 0 log legal (main_of 0) later (ReadSubmitted 0 1 1) (ReadHandled 0 1 1 ∷ (Enter 1 ∷ [])) (parts (main_of 0)))
  where
    later : List Event
    later = Leave 1 ∷ (one_row ∷ (ReadSent 0 1 2 ∷ (ReadSubmitted 0 1 2 ∷ (ReadRan 0 1 2 ∷ (ReadHandled 0 1 2 ∷ (ReadSent 0 1 1 ∷ (ReadRan 0 1 1 ∷ [])))))))

    out : ((before : List Mark) × Fences 1 before (main_of 0) (ReadHandled 0 1 1 ∷ (Enter 1 ∷ [])) (ReadSubmitted 0 1 1)) → ⊥
    out (before, f) = let order = f.3 in no_run order.0 order.1 order.2
