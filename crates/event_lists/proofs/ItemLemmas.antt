-- Lemmas that crates above use: messages and tasks, how often they are made and whether they are taken.
use Rattle.std.proofs.Common.{◌≡◌, ◌⊎◌, ℕ, zero, suc, ◌+◌, ◌<◌, ◌≤◌, Bool, true, false, List, [], ◌∷◌, ◌++◌, refl, sym, ap, ◌∙◌, subst, inl, inr, ⊎_elim, arith}
use Rattle.std.specs.Prelude.{◌||◌, ◌==◌, Option, Some, None}
use Rattle.std.proofs.lemmas.Bool.{and_parts, and_from, eqb-true, eq-eqb, both_ways, or_right, or_parts, or_left, or_cases, false_from_ne_true}
use Rattle.event_lists.specs.declared.lane.LaneName.{LaneName}
use Rattle.event_lists.specs.declared.event.Event.{Event}
use Rattle.event_lists.specs.declared.event.Event.TheVariants.{Sent, Submitted, TookTask, TookMessage}
use Rattle.event_lists.specs.declared.mark.Item.{Item}
use Rattle.event_lists.specs.declared.mark.Item.TheVariants.{Message, Task}
use Rattle.event_lists.specs.declared.mark.Mark.{Mark}
use Rattle.event_lists.specs.declared.kind.Kind.{Kind}
use Rattle.event_lists.specs.declared.kind.Kind.TheVariants.{Sends as sends, Submissions as submissions}
use Rattle.event_lists.specs.Events.{Begins, part, StandsOn, number, count, same_item, is_item, makes, times_made, takes, ends, times_ended, is_taken}
use Rattle.event_lists.specs.Counting.{Counting}
use Rattle.event_lists.specs.Legal.{Legal}
use Rattle.event_lists.specs.OwnEvents.{IsTakenOn, times_taken}
use Rattle.event_lists.proofs.CountLemmas.{one_if, numbered, counts_here}
use Rattle.event_lists.proofs.ListLemmas.{begins_refl, begins_more}

pub same_item_true : (c d : Item) → same_item c d ≡ true → c ≡ d
same_item_true (Message r n) (Message q m) e = let p = and_parts (r == q) (n == m) e in λ i. Message (eqb-true r q p.0 i) (eqb-true n m p.1 i)
same_item_true (Task r n) (Task q m) e = let p = and_parts (r == q) (n == m) e in λ i. Task (eqb-true r q p.0 i) (eqb-true n m p.1 i)
same_item_true c d e = absurd (cc)

pub same_item_refl : (c : Item) → same_item c c ≡ true
same_item_refl (Message r n) = and_from (r == r) (n == n) (eq-eqb r r refl) (eq-eqb n n refl)
same_item_refl (Task r n) = and_from (r == r) (n == n) (eq-eqb r r refl) (eq-eqb n n refl)

pub is_item_some : (c : Item) (o : Option Item) → is_item c o ≡ true → o ≡ Some c
is_item_some c None e = absurd (cc)
is_item_some c (Some d) e = ap Some (sym (same_item_true c d e))

pub some_is_item : (c : Item) (o : Option Item) → o ≡ Some c → is_item c o ≡ true
some_is_item c o e = ap (is_item c) e ∙ same_item_refl c

-- the kind, rank and number of what makes an item
abbrev pub kind_of : Item → Kind
kind_of (Message r n) = sends
kind_of _ = submissions

abbrev pub rank_of : Item → ℕ
rank_of (Message r n) = r
rank_of (Task r n) = r

abbrev pub number_of : Item → ℕ
number_of (Message r n) = n
number_of (Task r n) = n

pub makes_number : (c : Item) (r : ℕ) (e : Event) → makes r e ≡ Some c → (number (kind_of c) e ≡ Some (number_of c)) × (r ≡ rank_of c)
makes_number (Message q m) r (Sent n to p) i = (cc, cc)
makes_number (Task q m) r (Submitted n t) i = (cc, cc)
makes_number c r (Sent n to p) i = absurd (cc)
makes_number c r (Submitted n t) i = absurd (cc)
makes_number c r e i = absurd (cc)

-- what was made has a number below the count
pub made_below : (ranks workers : ℕ) (log : List Mark) → Legal ranks workers log → (c : Item) → 1 ≤ times_made c log → number_of c < count (kind_of c) (rank_of c) log
made_below ranks workers [] h c m = absurd (omega arith)
made_below ranks workers (x ∷ log) h c m = go (made_below ranks workers log h.1 c) (is_item c (makes x.lane.rank x.event)) refl m
  where
    go : (1 ≤ times_made c log → number_of c < count (kind_of c) (rank_of c) log) → (b : Bool) → is_item c (makes x.lane.rank x.event) ≡ b → 1 ≤ one_if b + times_made c log → number_of c < count (kind_of c) (rank_of c) (x ∷ log)
    go rest true e m =
        let i = makes_number c x.lane.rank x.event (is_item_some c (makes x.lane.rank x.event) e) in
        let is = numbered (kind_of c) (number_of c) ranks log x.lane (part x.lane log) x.event h.0.counting i.0 in
        let one = counts_here (kind_of c) (number_of c) x i.0 in
        subst (λ (q : ℕ). number_of c < count (kind_of c) q (x ∷ log)) i.1 (omega (arith, is, one))
    go rest false e m = let some : 1 ≤ times_made c log = omega arith in omega (arith, rest some)

-- what an event makes was not made before
pub new_item : (ranks workers : ℕ) (log : List Mark) (x : Mark) → Legal ranks workers (x ∷ log) → (c : Item) → makes x.lane.rank x.event ≡ Some c → times_made c log ≡ 0
new_item ranks workers log x h c m =
    ⊎_elim (λ (some : 1 ≤ times_made c log).
    let i = makes_number c x.lane.rank x.event m in
    let is = numbered (kind_of c) (number_of c) ranks log x.lane (part x.lane log) x.event h.0.counting i.0 in
    let same : count (kind_of c) x.lane.rank log ≡ count (kind_of c) (rank_of c) log = ap (λ (q : ℕ). count (kind_of c) q log) i.1 in
    absurd (omega (arith, is, same, made_below ranks workers log h.1 c some)))
    (λ (none : times_made c log ≡ 0). none)
    (some_or_none (times_made c log))
  where
    some_or_none : (n : ℕ) → (1 ≤ n) ⊎ (n ≡ 0)
    some_or_none zero = inr refl
    some_or_none (suc n) = inl (omega arith)

-- a message is sent at most once, and a task submitted at most once
pub made_once : (ranks workers : ℕ) (log : List Mark) → Legal ranks workers log → (c : Item) → times_made c log ≤ 1
made_once ranks workers [] h c = omega arith
made_once ranks workers (x ∷ log) h c = go (made_once ranks workers log h.1 c) (is_item c (makes x.lane.rank x.event)) refl
  where
    go : times_made c log ≤ 1 → (b : Bool) → is_item c (makes x.lane.rank x.event) ≡ b → one_if b + times_made c log ≤ 1
    go rest true e = let none = new_item ranks workers log x h c (is_item_some c (makes x.lane.rank x.event) e) in omega arith
    go rest false e = omega (arith, rest)

-- what is in the list was made
pub made_here : (c : Item) (l : LaneName) (e : Event) (log : List Mark) → makes l.rank e ≡ Some c → StandsOn l e log → 1 ≤ times_made c log
made_here c l e [] m s = absurd s
made_here c l e (x ∷ log) m (inl i) =
    let is : makes x.lane.rank x.event ≡ Some c = ap (λ (k : LaneName). makes k.rank x.event) i.0 ∙ ap (makes l.rank) i.1 ∙ m in
    let one : one_if (is_item c (makes x.lane.rank x.event)) ≡ 1 = ap one_if (some_is_item c (makes x.lane.rank x.event) is) in
    omega arith
made_here c l e (x ∷ log) m (inr s) = omega (arith, made_here c l e log m s)

pub made_grows : (c : Item) (more log : List Mark) → times_made c log ≤ times_made c (more ++ log)
made_grows c [] log = omega arith
made_grows c (x ∷ more) log = omega (arith, made_grows c more log)

pub taken_here : (c : Item) (x : Mark) (log : List Mark) → takes x.event ≡ Some c → is_taken c (x ∷ log) ≡ true
taken_here c x log t = or_left (is_item c (takes x.event)) (is_taken c log) (some_is_item c (takes x.event) t)

pub taken_more : (c : Item) (x : Mark) (log : List Mark) → is_taken c log ≡ true → is_taken c (x ∷ log) ≡ true
taken_more c x log t = or_right (is_item c (takes x.event)) (is_taken c log) t

pub untaken : (c : Item) (x : Mark) (log : List Mark) → is_taken c (x ∷ log) ≡ false → is_taken c log ≡ false
untaken c x log t = (or_parts (is_item c (takes x.event)) (is_taken c log) t).1

-- what an event takes was made and not taken
pub took_fresh : (c : Item) (e : Event) (ranks : ℕ) (log : List Mark) (l : LaneName) (mine : List Event) → Counting ranks log l mine e → takes e ≡ Some c → (1 ≤ times_made c log) × (is_taken c log ≡ false)
took_fresh c (TookMessage r n) ranks log l mine a t =
    let is : Message r n ≡ c = cc in
    let s = a.1.1 in
    let made = made_here (Message r n) s.0 _ log (ap (λ (q : ℕ). Some (Message q n)) s.1) s.2 in
    subst (λ (d : Item). (1 ≤ times_made d log) × (is_taken d log ≡ false)) is (made, a.2)
took_fresh c (TookTask r n) ranks log l mine a t =
    let is : Task r n ≡ c = cc in
    let s = a.2.1 in
    let made = made_here (Task r n) s.0 _ log (ap (λ (q : ℕ). Some (Task q n)) s.1) s.2 in
    subst (λ (d : Item). (1 ≤ times_made d log) × (is_taken d log ≡ false)) is (made, a.3)
took_fresh c e ranks log l mine a t = absurd (cc)

-- what was taken was made
pub taken_made : (ranks workers : ℕ) (log : List Mark) → Legal ranks workers log → (c : Item) → is_taken c log ≡ true → 1 ≤ times_made c log
taken_made ranks workers [] h c t = absurd (cc)
taken_made ranks workers (x ∷ log) h c t = ⊎_elim
    (λ here. omega (arith, (took_fresh c x.event ranks log x.lane (part x.lane log) h.0.counting (is_item_some c (takes x.event) here)).0))
    (λ before. omega (arith, taken_made ranks workers log h.1 c before))
    (or_cases (is_item c (takes x.event)) (is_taken c log) t)

-- what ended has an event that ended it
pub ended_at : (c : Item) (log : List Mark) → 1 ≤ times_ended c log → (x : Mark) × (earlier : List Mark) × Begins (x ∷ earlier) log × (ends x.event ≡ Some c)
ended_at c [] m = absurd (omega arith)
ended_at c (x ∷ log) m = go (is_item c (ends x.event)) refl m (ended_at c log)
  where
    go : (b : Bool) → is_item c (ends x.event) ≡ b → 1 ≤ one_if b + times_ended c log → (1 ≤ times_ended c log → (y : Mark) × (earlier : List Mark) × Begins (y ∷ earlier) log × (ends y.event ≡ Some c)) → (y : Mark) × (earlier : List Mark) × Begins (y ∷ earlier) (x ∷ log) × (ends y.event ≡ Some c)
    go true e m rest = (x, log, begins_refl (x ∷ log), is_item_some c (ends x.event) e)
    go false e m rest = let r = rest (omega arith) in (r.0, r.1, begins_more (r.0 ∷ r.1) log x r.2, r.3)

-- what an event makes was not taken before
pub untaken_new : (ranks workers : ℕ) (log : List Mark) (x : Mark) → Legal ranks workers (x ∷ log) → (c : Item) → makes x.lane.rank x.event ≡ Some c → is_taken c log ≡ false
untaken_new ranks workers log x h c m = false_from_ne_true (is_taken c log) (λ t. absurd (omega (arith, new_item ranks workers log x h c m, taken_made ranks workers log h.1 c t)))

pub taken_lasts : (old log : List Mark) → Begins old log → (c : Item) → is_taken c old ≡ true → is_taken c log ≡ true
taken_lasts old log b c t = subst (λ (z : List Mark). is_taken c z ≡ true) (sym b.1) (more b.0)
  where
    more : (xs : List Mark) → is_taken c (xs ++ old) ≡ true
    more [] = t
    more (x ∷ xs) = taken_more c x (xs ++ old) (more xs)

untaken_never : (c : Item) (log : List Mark) → is_taken c log ≡ false → times_taken c log ≡ 0
untaken_never c [] t = refl
untaken_never c (x ∷ log) t =
    let p = or_parts (is_item c (takes x.event)) (is_taken c log) t in
    let here : one_if (is_item c (takes x.event)) ≡ 0 = ap one_if p.0 in
    omega (arith, here, untaken_never c log p.1)

-- a message or task is taken once, where it is taken
pub taken_once : (ranks workers : ℕ) (log : List Mark) → Legal ranks workers log → (c : Item) → times_taken c log ≡ one_if (is_taken c log)
taken_once ranks workers [] h c = refl
taken_once ranks workers (x ∷ log) h c = go (is_item c (takes x.event)) refl (taken_once ranks workers log h.1 c)
  where
    go : (b : Bool) → is_item c (takes x.event) ≡ b → times_taken c log ≡ one_if (is_taken c log) → one_if b + times_taken c log ≡ one_if (b || is_taken c log)
    go true e rest = omega (arith, untaken_never c log (took_fresh c x.event ranks log x.lane (part x.lane log) h.0.counting (is_item_some c (takes x.event) e)).1)
    go false e rest = omega (arith, rest)

taken_there : (l : LaneName) (c : Item) (log : List Mark) (e : Event) → takes e ≡ Some c → StandsOn l e log → is_taken c log ≡ true
taken_there l c [] e t s = absurd s
taken_there l c (x ∷ log) e t (inl i) = taken_here c x log (ap takes i.1 ∙ t)
taken_there l c (x ∷ log) e t (inr s) = taken_more c x log (taken_there l c log e t s)

-- lanes that took one item are one
pub one_taker : (ranks workers : ℕ) (log : List Mark) → Legal ranks workers log → (l m : LaneName) (c : Item) → IsTakenOn l c log → IsTakenOn m c log → l ≡ m
one_taker ranks workers [] h l m c (e, t, s) q = absurd s
one_taker ranks workers (x ∷ log) h l m c (e, t, inl i) (d, u, inl j) = sym i.0 ∙ j.0
one_taker ranks workers (x ∷ log) h l m c (e, t, inl i) (d, u, inr s) =
    absurd (both_ways (is_taken c log) (took_fresh c x.event ranks log x.lane (part x.lane log) h.0.counting (ap takes i.1 ∙ t)).1 (taken_there m c log d u s))
one_taker ranks workers (x ∷ log) h l m c (e, t, inr s) (d, u, inl j) =
    absurd (both_ways (is_taken c log) (took_fresh c x.event ranks log x.lane (part x.lane log) h.0.counting (ap takes j.1 ∙ u)).1 (taken_there l c log e t s))
one_taker ranks workers (x ∷ log) h l m c (e, t, inr s) (d, u, inr r) = one_taker ranks workers log h.1 l m c (e, t, s) (d, u, r)

-- what was taken was taken on a lane
pub some_taker : (c : Item) (log : List Mark) → is_taken c log ≡ true → (l : LaneName) × IsTakenOn l c log
some_taker c [] t = absurd (cc)
some_taker c (x ∷ log) t = ⊎_elim
    (λ here. (x.lane, (x.event, is_item_some c (takes x.event) here, inl (refl, refl))))
    (λ before. let s = some_taker c log before in (s.0, (s.1.0, s.1.1, inr s.1.2)))
    (or_cases (is_item c (takes x.event)) (is_taken c log) t)
