-- Two passes that agree, given the moments of their readings: at a moment between them nothing is left undone, and
-- after it no count changes.
use Rattle.std.proofs.Common.{◌≡◌, ◌⊎◌, ℕ, suc, ◌+◌, ◌<◌, ◌≤◌, Bool, true, false, List, [], ◌∷◌, ◌++◌, refl, sym, ap, ◌∙◌, subst, inl, inr, ⊎_elim, arith}
use Rattle.std.specs.Prelude.{if◌then◌else◌, ◌==◌, ◌&&◌, Option, Some, None}
use Rattle.std.proofs.lemmas.Bool.{and_from, eq-eqb, eqb-true}
use Rattle.event_lists.specs.declared.lane.LaneName.{LaneName}
use Rattle.event_lists.specs.declared.event.Event.{Event}
use Rattle.event_lists.specs.declared.event.Event.TheVariants.{Sent, TookMessage, TookTask, Handled, Submitted, Ran}
use Rattle.event_lists.specs.declared.mark.Item.{Item}
use Rattle.event_lists.specs.declared.mark.Item.TheVariants.{Message, Task}
use Rattle.event_lists.specs.declared.mark.Mark.{Mark}
use Rattle.event_lists.specs.declared.kind.Kind.{Kind}
use Rattle.event_lists.specs.declared.kind.Kind.TheVariants.{Sends as sends, Handlings as handlings, Submissions as submissions, Runs as runs}
use Rattle.event_lists.specs.Events.{part, same_lane, Begins, in_hand, is_kind, counts, count, makes, ends}
use Rattle.event_lists.specs.Counting.{Counting}
use Rattle.event_lists.specs.Fences.{sum_ranks}
use Rattle.event_lists.specs.Legal.{Legal}
use Rattle.event_lists.proofs.CountLemmas.{one_if, count_grows, count_begins}
use Rattle.event_lists.proofs.LaneLemmas.{same_lane_true}
use Rattle.event_lists.proofs.ListLemmas.{legal_begins, begins_refl, begins_trans, begins_tail}
use Rattle.event_lists.proofs.WaitingLemmas.{Holds, waiting, hand_waits, new_or_old, made_now, weighed, no_weight}
use Rattle.event_lists.proofs.HandLemmas.{ends_hand, hand_rank}
use Rattle.event_lists.proofs.SumLemmas.{squeezed, same_sum, totals}
use Rattle.event_lists.proofs.WeightLemmas.{message_weight, task_weight, made_messages, ended_messages, made_tasks, ended_tasks, makes_task, waiting_rank, off}

-- what is in hand stays there until it is ended
hand_step : (ranks : ℕ) (log : List Mark) (l : LaneName) (e : Event) (es : List Event) (c : Item) → in_hand es ≡ Some c → Counting ranks log l es e → (in_hand (e ∷ es) ≡ Some c) ⊎ (ends e ≡ Some c)
hand_step ranks log l (TookMessage r n) es c h a = let no = a.0 in absurd (cc)
hand_step ranks log l (TookTask r n) es c h a = let no = a.0 in absurd (cc)
hand_step ranks log l (Handled n r m) es c h a = inr (sym a.1 ∙ h)
hand_step ranks log l (Ran n r t) es c h a = inr (sym a.1 ∙ h)
hand_step ranks log l _ es c h a = inl h

ends_message : (e : Event) (r m : ℕ) → ends e ≡ Some (Message r m) → is_kind handlings e ≡ true
ends_message (Handled n q k) r m i = refl
ends_message (Ran n q k) r m i = absurd (cc)
ends_message e r m i = absurd (cc)

hand_or_handled : (ranks workers : ℕ) (more log : List Mark) (l : LaneName) (r m : ℕ) → Legal ranks workers (more ++ log) → in_hand (part l log) ≡ Some (Message r m)
    → (in_hand (part l (more ++ log)) ≡ Some (Message r m)) ⊎ (suc (count handlings l.rank log) ≤ count handlings l.rank (more ++ log))
hand_or_handled ranks workers [] log l r m h p = inl p
hand_or_handled ranks workers (x ∷ more) log l r m h p = ⊎_elim
    (λ still. step (same_lane x.lane l) refl still)
    (λ more_handled. inr (omega (arith, more_handled)))
    (hand_or_handled ranks workers more log l r m h.1 p)
  where
    step : (b : Bool) → same_lane x.lane l ≡ b → in_hand (part l (more ++ log)) ≡ Some (Message r m) → (in_hand (if b then x.event ∷ part l (more ++ log) else part l (more ++ log)) ≡ Some (Message r m)) ⊎ (suc (count handlings l.rank log) ≤ one_if (counts handlings l.rank x) + count handlings l.rank (more ++ log))
    step false e still = inl still
    step true e still =
        let same = same_lane_true x.lane l e in
        let asks = subst (λ (z : LaneName). Counting ranks (more ++ log) x.lane (part z (more ++ log)) x.event) same h.0.counting in
        ⊎_elim
        (λ s. inl s)
        (λ d.
        let one : one_if (counts handlings l.rank x) ≡ 1 = ap one_if (and_from (x.lane.rank == l.rank) (is_kind handlings x.event) (eq-eqb x.lane.rank l.rank (ap (λ (z : LaneName). z.rank) same)) (ends_message x.event r m d)) in
        inr (omega (arith, one, count_grows handlings l.rank more log)))
        (hand_step ranks (more ++ log) x.lane x.event (part l (more ++ log)) (Message r m) still asks)

-- the moments at which the two passes were read, and a moment M between them
pub record Passes (ranks workers : ℕ) (end M : List Mark) (h1 r1 u1 s1 h2 s2 : ℕ → List Mark) : Type 0 where
  pub legal : Legal ranks workers end
  pub first : (r : ℕ) → r < ranks → Begins (h1 r) (r1 r) × Begins (r1 r) (u1 r) × Begins (u1 r) M × Begins (s1 r) M
  pub second : (r : ℕ) → r < ranks → Begins M (h2 r) × Begins M (s2 r)
  pub ends_it : Begins M end
  pub done : (r : ℕ) → r < ranks → count runs r (r1 r) ≡ count submissions r (u1 r)
  pub sums : sum_ranks (λ r. count sends r (s1 r)) ranks ≡ sum_ranks (λ r. count handlings r (h1 r)) ranks
  pub sent_again : sum_ranks (λ r. count sends r (s2 r)) ranks ≡ sum_ranks (λ r. count sends r (s1 r)) ranks
  pub handled_again : sum_ranks (λ r. count handlings r (h2 r)) ranks ≡ sum_ranks (λ r. count handlings r (h1 r)) ranks
  pub fenced : (x : Mark) (log : List Mark) → Begins (x ∷ log) end → Begins (h1 x.lane.rank) log → in_hand (part x.lane log) ≡ None → makes x.lane.rank x.event ≡ None

-- an event that neither makes nor ends isn't counted
no_kind : (k : Kind) (r : ℕ) (e : Event) → makes r e ≡ None → ends e ≡ None → is_kind k e ≡ false
no_kind k r (Sent n to q) a b = absurd (cc)
no_kind k r (Submitted n u) a b = absurd (cc)
no_kind k r (Handled n q m) a b = absurd (cc)
no_kind k r (Ran n q t) a b = absurd (cc)
no_kind sends r _ a b = refl
no_kind handlings r _ a b = refl
no_kind submissions r _ a b = refl
no_kind runs r _ a b = refl

module _ (ranks workers : ℕ) (end M : List Mark) (h1 r1 u1 s1 h2 s2 : ℕ → List Mark) (p : Passes ranks workers end M h1 r1 u1 s1 h2 s2) where
  to_m : (r : ℕ) → r < ranks → Begins (h1 r) M
  to_m r b = let f = p.first r b in begins_trans (h1 r) (r1 r) M f.0 (begins_trans (r1 r) (u1 r) M f.1 f.2)

  legal_at : (log : List Mark) → Begins log end → Legal ranks workers log
  legal_at log b = legal_begins ranks workers log end b p.legal

  -- what was read in both passes didn't change between them
  pub handled_same : (r : ℕ) → r < ranks → count handlings r (h1 r) ≡ count handlings r (h2 r)
  handled_same r b = squeezed (λ q. count handlings q (h1 q)) (λ q. count handlings q (h2 q)) ranks (λ q c. count_begins handlings q (h1 q) (h2 q) (begins_trans (h1 q) M (h2 q) (to_m q c) (p.second q c).0)) (omega (arith, p.handled_again)) r b

  pub sent_same : (r : ℕ) → r < ranks → count sends r (s1 r) ≡ count sends r (s2 r)
  sent_same r b = squeezed (λ q. count sends q (s1 q)) (λ q. count sends q (s2 q)) ranks (λ q c. count_begins sends q (s1 q) (s2 q) (begins_trans (s1 q) M (s2 q) (p.first q c).3 (p.second q c).1)) (omega (arith, p.sent_again)) r b

  handled_frozen : (r : ℕ) → r < ranks → count handlings r (h1 r) ≡ count handlings r M
  handled_frozen r b = omega (arith, handled_same r b, count_begins handlings r (h1 r) M (to_m r b), count_begins handlings r M (h2 r) (p.second r b).0)

  sent_frozen : (r : ℕ) → r < ranks → count sends r (s1 r) ≡ count sends r M
  sent_frozen r b = omega (arith, sent_same r b, count_begins sends r (s1 r) M (p.first r b).3, count_begins sends r M (s2 r) (p.second r b).1)

  -- no message is left at M
  no_message : (r n : ℕ) → Holds (waiting M) (Message r n) → ⊥
  no_message r n w =
      let l = legal_at M p.ends_it in
      let s = totals sends ranks workers M l in
      let h = totals handlings ranks workers M l in
      let a = same_sum (λ q. count sends q (s1 q)) (λ q. count sends q M) ranks sent_frozen in
      let b = same_sum (λ q. count handlings q (h1 q)) (λ q. count handlings q M) ranks handled_frozen in
      let m = made_messages M in
      let e = ended_messages M in
      let t = weighed message_weight ranks workers M l in
      let sums = p.sums in
      let none = no_weight message_weight (waiting M) (Message r n) (omega arith) w in
      absurd (omega arith)

  -- between its first reading and M no lane of a rank has a message in hand
  no_hand : (l : LaneName) → l.rank < ranks → (log : List Mark) → Begins (h1 l.rank) log → Begins log M → (r m : ℕ) → in_hand (part l log) ≡ Some (Message r m) → ⊥
  no_hand l b log from to r m h =
      let legal = legal_at M p.ends_it in
      ⊎_elim
      (λ still. no_message r m (hand_waits ranks workers M legal l (Message r m) (subst (λ (z : List Mark). in_hand (part l z) ≡ Some (Message r m)) (sym to.1) still)))
      (λ more. let n = subst (λ (z : List Mark). suc (count handlings l.rank log) ≤ count handlings l.rank z) (sym to.1) more in
      absurd (omega (arith, n, count_begins handlings l.rank (h1 l.rank) log from, handled_frozen l.rank b)))
      (hand_or_handled ranks workers to.0 log l r m (subst (Legal ranks workers) to.1 legal) h)

  -- at its reading of ran no task of a rank is open
  no_task_first : (q : ℕ) → q < ranks → (n : ℕ) → Holds (waiting (r1 q)) (Task q n) → ⊥
  no_task_first q b n w =
      let f = p.first q b in
      let l = legal_at (r1 q) (begins_trans (r1 q) M end (begins_trans (r1 q) (u1 q) M f.1 f.2) p.ends_it) in
      let t = weighed (task_weight q) ranks workers (r1 q) l in
      let m = made_tasks q (r1 q) in
      let e = ended_tasks q ranks workers (r1 q) l in
      let d = p.done q b in
      let g = count_begins submissions q (r1 q) (u1 q) f.1 in
      let none = no_weight (task_weight q) (waiting (r1 q)) (Task q n) (omega arith) w in
      let one : one_if (q == q) ≡ 1 = ap one_if (eq-eqb q q refl) in
      absurd (omega arith)

  -- what a lane has in hand: nothing, a message or a task
  hands : (l : LaneName) (log : List Mark) → Legal ranks workers log → (in_hand (part l log) ≡ None → ⊥) → ((r m : ℕ) → in_hand (part l log) ≡ Some (Message r m) → ⊥) → ((r m : ℕ) → in_hand (part l log) ≡ Some (Task r m) → ⊥) → ⊥
  hands l log legal a c d = go (in_hand (part l log)) refl
    where
      go : (o : Option Item) → in_hand (part l log) ≡ o → ⊥
      go None i = a i
      go (Some (Message r m)) i = c r m i
      go (Some (Task r m)) i = d r m i

  -- nor is one from then on to M
  no_task : (q : ℕ) → q < ranks → (more : List Mark) → Begins (more ++ r1 q) M → (n : ℕ) → Holds (waiting (more ++ r1 q)) (Task q n) → ⊥
  no_task q b [] to n w = no_task_first q b n w
  no_task q b (x ∷ more) to n w =
      let log = more ++ r1 q in
      let before : Begins log M = begins_tail x log M to in
      let at = legal_at (x ∷ log) (begins_trans (x ∷ log) M end to p.ends_it) in
      let from : Begins (h1 q) log = begins_trans (h1 q) (r1 q) log (p.first q b).0 (more, refl) in
      ⊎_elim
      (λ e. let is : x.lane.rank ≡ q = makes_task x.lane.rank x.event q n e in
      let here = subst (λ (z : ℕ). Begins (h1 z) log) (sym is) from in
      hands x.lane log at.1
      (λ none. let no = p.fenced x log (begins_trans (x ∷ log) M end to p.ends_it) here none in absurd (cc))
      (λ r m i. no_hand x.lane at.0.named.0 log here before r m i)
      (λ r m i. let same = hand_rank ranks workers log at.1 x.lane r m i ∙ is in no_task q b more before m (subst (λ (z : ℕ). Holds (waiting log) (Task z m)) same (hand_waits ranks workers log at.1 x.lane (Task r m) i))))
      (λ old. no_task q b more before n old)
      (new_or_old x log (Task q n) w)

  -- so none was submitted since
  tasks_frozen : (q : ℕ) → q < ranks → (more : List Mark) → Begins (more ++ r1 q) M → count submissions q (more ++ r1 q) ≡ count submissions q (r1 q)
  tasks_frozen q b [] to = refl
  tasks_frozen q b (x ∷ more) to = go x.event refl (and_cases_of (x.lane.rank == q) (is_kind submissions x.event)) (tasks_frozen q b more (begins_tail x (more ++ r1 q) M to))
    where
      made : (e : Event) → is_kind submissions e ≡ true → (n : ℕ) × (makes x.lane.rank e ≡ Some (Task x.lane.rank n))
      made (Submitted n t) i = (n, refl)
      made e i = absurd (cc)

      and_cases_of : (c d : Bool) → (((c && d) ≡ true) × (c ≡ true) × (d ≡ true)) ⊎ ((c && d) ≡ false)
      and_cases_of true true = inl (refl, refl, refl)
      and_cases_of true false = inr refl
      and_cases_of false d = inr refl

      go : (e : Event) → x.event ≡ e → ((counts submissions q x ≡ true) × ((x.lane.rank == q) ≡ true) × (is_kind submissions x.event ≡ true)) ⊎ (counts submissions q x ≡ false) → count submissions q (more ++ r1 q) ≡ count submissions q (r1 q) → count submissions q (x ∷ more ++ r1 q) ≡ count submissions q (r1 q)
      go e i (inl c) rest =
          let m = made x.event c.2 in
          let is = eqb-true x.lane.rank q c.1 in
          let holds : Holds (waiting (x ∷ more ++ r1 q)) (Task q m.0) = subst (λ (z : ℕ). Holds (waiting (x ∷ more ++ r1 q)) (Task z m.0)) is (made_now x (more ++ r1 q) (Task x.lane.rank m.0) m.1) in
          absurd (no_task q b (x ∷ more) to m.0 holds)
      go e i (inr c) rest = ap (λ (z : Bool). one_if z + count submissions q (more ++ r1 q)) c ∙ rest_of rest
        where
          rest_of : count submissions q (more ++ r1 q) ≡ count submissions q (r1 q) → 0 + count submissions q (more ++ r1 q) ≡ count submissions q (r1 q)
          rest_of h = omega arith

  pub tasks_stay : (q : ℕ) → q < ranks → count submissions q (u1 q) ≡ count submissions q M
  tasks_stay q b =
      let f = p.first q b in
      let to = begins_trans (r1 q) (u1 q) M f.1 f.2 in
      let same : count submissions q M ≡ count submissions q (r1 q) = ap (count submissions q) to.1 ∙ tasks_frozen q b to.0 (subst (λ (z : List Mark). Begins z M) to.1 (begins_refl M)) in
      omega (arith, same, count_begins submissions q (r1 q) (u1 q) f.1, count_begins submissions q (u1 q) M f.2)

  -- at M nothing is left undone
  pub nothing_waits : (c : Item) → Holds (waiting M) c → ⊥
  nothing_waits (Message r n) w = no_message r n w
  nothing_waits (Task q n) w =
      let b = waiting_rank ranks workers M (legal_at M p.ends_it) q n w in
      let f = p.first q b in
      let to = begins_trans (r1 q) (u1 q) M f.1 f.2 in
      no_task q b to.0 (subst (λ (z : List Mark). Begins z M) to.1 (begins_refl M)) n (subst (λ (z : List Mark). Holds (waiting z) (Task q n)) to.1 w)

  -- and from M on no count changes, and nothing is left undone
  pub still : (more : List Mark) → Begins (more ++ M) end → ((c : Item) → Holds (waiting (more ++ M)) c → ⊥) × ((k : Kind) (r : ℕ) → count k r (more ++ M) ≡ count k r M)
  still [] to = (nothing_waits, λ k r. refl)
  still (x ∷ more) to =
      let log = more ++ M in
      let before : Begins log end = begins_tail x log end to in
      let at = legal_at (x ∷ log) to in
      let rest = still more before in
      let idle : in_hand (part x.lane log) ≡ None = empty (in_hand (part x.lane log)) (λ c i. rest.0 c (hand_waits ranks workers log at.1 x.lane c i)) in
      let makes_none = p.fenced x log to (begins_trans (h1 x.lane.rank) M log (to_m x.lane.rank at.0.named.0) (more, refl)) idle in
      let ends_none : ends x.event ≡ None = empty (ends x.event) (λ c i. let h = ends_hand x.event c ranks log x.lane (part x.lane log) at.0.counting i in absurd (cc)) in (
        λ c w. ⊎_elim (λ e. absurd (cc)) (λ old. rest.0 c old) (new_or_old x log c w),
        λ k r. let no : one_if (counts k r x) ≡ 0 = ap (λ (b : Bool). one_if ((x.lane.rank == r) && b)) (no_kind k x.lane.rank x.event makes_none ends_none) ∙ off (x.lane.rank == r) in omega (arith, no, rest.1 k r),
      )
    where
      empty : (o : Option Item) → ((c : Item) → o ≡ Some c → ⊥) → o ≡ None
      empty None h = refl
      empty (Some c) h = absurd (h c refl)
