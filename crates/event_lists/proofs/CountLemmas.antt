-- Lemmas that crates above use: counts, and the numbers of counted events.
use Rattle.std.proofs.Common.{◌≡◌, ℕ, ◌<◌, ◌≤◌, Bool, true, false, List, [], ◌∷◌, ◌++◌, refl, sym, ap, ◌∙◌, subst, inl, inr, arith}
use Rattle.std.specs.Prelude.{if◌then◌else◌, ◌==◌, Some}
use Rattle.std.proofs.lemmas.Bool.{and_from, eq-eqb}
use Rattle.event_lists.specs.declared.lane.LaneName.{LaneName}
use Rattle.event_lists.specs.declared.event.Event.{Event}
use Rattle.event_lists.specs.declared.event.Event.TheVariants.{Sent, Handled, Submitted, Ran}
use Rattle.event_lists.specs.declared.mark.Mark.{Mark}
use Rattle.event_lists.specs.declared.kind.Kind.{Kind}
use Rattle.event_lists.specs.declared.kind.Kind.TheVariants.{Sends as sends, Handlings as handlings, Submissions as submissions, Runs as runs}
use Rattle.event_lists.specs.Events.{Begins, part, Stands, StandsOn, is_kind, number, counts, count}
use Rattle.event_lists.specs.Counting.{Counting}
use Rattle.event_lists.specs.Legal.{Legal}

abbrev pub one_if : Bool → ℕ
one_if b = if b then 1 else 0

pub bit : (b : Bool) → one_if b ≤ 1
bit true = omega arith
bit false = omega arith

pub count_grows : (k : Kind) (r : ℕ) (more log : List Mark) → count k r log ≤ count k r (more ++ log)
count_grows k r [] log = omega arith
count_grows k r (x ∷ more) log = omega (arith, count_grows k r more log)

pub count_begins : (k : Kind) (r : ℕ) (a b : List Mark) → Begins a b → count k r a ≤ count k r b
count_begins k r a b h = subst (λ (l : List Mark). count k r a ≤ count k r l) (sym h.1) (count_grows k r h.0 a)

-- a counted event carries the count
pub numbered : (k : Kind) (n ranks : ℕ) (log : List Mark) (l : LaneName) (mine : List Event) (e : Event) → Counting ranks log l mine e → number k e ≡ Some n → n ≡ count k l.rank log
numbered sends n ranks log l mine (Sent m to p) a i = let same : m ≡ n = cc in sym same ∙ a.0
numbered handlings n ranks log l mine (Handled m r k) a i = let same : m ≡ n = cc in sym same ∙ a.0
numbered submissions n ranks log l mine (Submitted m t) a i = let same : m ≡ n = cc in sym same ∙ a.0
numbered runs n ranks log l mine (Ran m r k) a i = let same : m ≡ n = cc in sym same ∙ a.0
numbered k n ranks log l mine e a i = absurd (cc)

number_kind : (k : Kind) (n : ℕ) (e : Event) → number k e ≡ Some n → is_kind k e ≡ true
number_kind sends n (Sent m to p) i = refl
number_kind handlings n (Handled m r k) i = refl
number_kind submissions n (Submitted m t) i = refl
number_kind runs n (Ran m r k) i = refl
number_kind k n e i = absurd (cc)

pub counts_here : (k : Kind) (n : ℕ) (x : Mark) → number k x.event ≡ Some n → one_if (counts k x.lane.rank x) ≡ 1
counts_here k n x i = ap one_if (and_from (x.lane.rank == x.lane.rank) (is_kind k x.event) (eq-eqb x.lane.rank x.lane.rank refl) (number_kind k n x.event i))

-- the number of an event in the list is below the count
pub stands_below : (ranks workers : ℕ) (log : List Mark) → Legal ranks workers log → (k : Kind) (n : ℕ) (x : Mark) → number k x.event ≡ Some n → Stands x log → n < count k x.lane.rank log
stands_below ranks workers [] h k n x i s = absurd s
stands_below ranks workers (y ∷ log) h k n x i (inl e) =
    let j : number k y.event ≡ Some n = ap (λ (z : Mark). number k z.event) e ∙ i in
    let is = numbered k n ranks log y.lane (part y.lane log) y.event h.0.counting j in
    let one = counts_here k n y j in
    subst (λ (z : Mark). n < count k z.lane.rank (y ∷ log)) e (omega (arith, is, one))
stands_below ranks workers (y ∷ log) h k n x i (inr s) = omega (arith, stands_below ranks workers log h.1 k n x i s)

-- an event with a number below an earlier count was in the list then
pub stood_below : (ranks workers : ℕ) (more log : List Mark) → Legal ranks workers (more ++ log) → (k : Kind) (n : ℕ) (x : Mark) → number k x.event ≡ Some n → Stands x (more ++ log) → n < count k x.lane.rank log → Stands x log
stood_below ranks workers [] log h k n x i s below = s
stood_below ranks workers (y ∷ more) log h k n x i (inl e) below =
    let j : number k y.event ≡ Some n = ap (λ (z : Mark). number k z.event) e ∙ i in
    let is = numbered k n ranks (more ++ log) y.lane (part y.lane (more ++ log)) y.event h.0.counting j in
    let same : count k y.lane.rank log ≡ count k x.lane.rank log = ap (λ (z : Mark). count k z.lane.rank log) e in
    absurd (omega (arith, is, same, count_grows k y.lane.rank more log))
stood_below ranks workers (y ∷ more) log h k n x i (inr s) below = stood_below ranks workers more log h.1 k n x i s below

-- the number of an event on a lane is below the count
pub on_below : (ranks workers : ℕ) (log : List Mark) → Legal ranks workers log → (k : Kind) (n : ℕ) (l : LaneName) (e : Event) → number k e ≡ Some n → StandsOn l e log → n < count k l.rank log
on_below ranks workers [] h k n l e i s = absurd s
on_below ranks workers (x ∷ log) h k n l e i (inl s) =
    let j : number k x.event ≡ Some n = ap (number k) s.1 ∙ i in
    let is = numbered k n ranks log x.lane (part x.lane log) x.event h.0.counting j in
    let one = counts_here k n x j in
    subst (λ (m : LaneName). n < count k m.rank (x ∷ log)) s.0 (omega (arith, is, one))
on_below ranks workers (x ∷ log) h k n l e i (inr s) = omega (arith, on_below ranks workers log h.1 k n l e i s)

-- two counted events of a rank with one kind and number are one event on one lane
pub same_event : (ranks workers : ℕ) (log : List Mark) → Legal ranks workers log → (k : Kind) (n : ℕ) (l m : LaneName) (d e : Event) → number k d ≡ Some n → number k e ≡ Some n → l.rank ≡ m.rank → StandsOn l d log → StandsOn m e log → (l ≡ m) × (d ≡ e)
same_event ranks workers [] h k n l m d e i j r s t = absurd s
same_event ranks workers (x ∷ log) h k n l m d e i j r (inl s) (inl t) = (sym s.0 ∙ t.0, sym s.1 ∙ t.1)
same_event ranks workers (x ∷ log) h k n l m d e i j r (inr s) (inr t) = same_event ranks workers log h.1 k n l m d e i j r s t
same_event ranks workers (x ∷ log) h k n l m d e i j r (inl s) (inr t) =
    let is = numbered k n ranks log x.lane (part x.lane log) x.event h.0.counting (ap (number k) s.1 ∙ i) in
    let same : count k x.lane.rank log ≡ count k m.rank log = ap (λ (q : ℕ). count k q log) (ap (λ (z : LaneName). z.rank) s.0 ∙ r) in
    absurd (omega (arith, is, same, on_below ranks workers log h.1 k n m e j t))
same_event ranks workers (x ∷ log) h k n l m d e i j r (inr s) (inl t) =
    let is = numbered k n ranks log x.lane (part x.lane log) x.event h.0.counting (ap (number k) t.1 ∙ j) in
    let same : count k x.lane.rank log ≡ count k l.rank log = ap (λ (q : ℕ). count k q log) (ap (λ (z : LaneName). z.rank) t.0 ∙ sym r) in
    absurd (omega (arith, is, same, on_below ranks workers log h.1 k n l d i s))
