-- Two passes of a fence that agree, before its receipt: from the moment at which the first is complete nothing is left
-- undone, and no count changes.
use Rattle.std.proofs.Common.{◌≡◌, ◌≢◌, ◌⊎◌, ℕ, zero, suc, ◌<◌, ◌≤◌, false, List, [], ◌∷◌, ◌++◌, length, refl, sym, ap, ◌∙◌, subst, inl, inr, ⊎_elim, arith}
use Rattle.std.specs.Prelude.{Option, Some, None}
use Rattle.std.proofs.lemmas.Bool.{cases_eq, cases_lt, or_parts}
use Rattle.event_lists.specs.declared.lane.LaneName.{LaneName}
use Rattle.event_lists.specs.declared.event.Event.{Event}
use Rattle.event_lists.specs.declared.event.Event.TheVariants.{Sent, Submitted}
use Rattle.event_lists.specs.declared.receipt.Row.{Row}
use Rattle.event_lists.specs.declared.mark.Item.{Item}
use Rattle.event_lists.specs.declared.mark.Mark.{Mark}
use Rattle.event_lists.specs.declared.kind.Kind.{Kind}
use Rattle.event_lists.specs.declared.kind.Kind.TheVariants.{Sends as sends, Handlings as handlings, Submissions as submissions, Runs as runs}
use Rattle.event_lists.specs.Events.{part, main_of, Begins, in_hand, count, makes}
use Rattle.event_lists.specs.Counting.{Counting, MaySpawn, MaySubmit}
use Rattle.event_lists.specs.Fences.{Fences, row_of, IsComplete, Agree, sum_ranks, total_sent, total_handled, sent_in, handled_in, fence_in, has_receipt, is_receipt}
use Rattle.event_lists.specs.Quiet.{named}
use Rattle.event_lists.specs.Legal.{Legal, May}
use Rattle.event_lists.proofs.ListLemmas.{legal_begins, begins_refl, begins_trans, begins_both}
use Rattle.event_lists.proofs.CountLemmas.{count_begins}
use Rattle.event_lists.proofs.WaitingLemmas.{Holds, waiting}
use Rattle.event_lists.proofs.SumLemmas.{same_sum}
use Rattle.event_lists.proofs.PassLemmas.{Passes, still, sent_same, handled_same, tasks_stay}
use Rattle.event_lists.proofs.MomentLemmas.{Times, Timed, timed, row_kept, stays_inside}

-- of finitely many beginnings of one list one is the earliest
earliest : (f : ℕ → List Mark) (log : List Mark) (n : ℕ) → ((q : ℕ) → q < suc n → Begins (f q) log) → (q : ℕ) × (q < suc n) × ((r : ℕ) → r < suc n → Begins (f q) (f r))
earliest f log zero h = (0, omega arith, λ r b. subst (λ (z : ℕ). Begins (f 0) (f z)) (omega arith) (begins_refl (f 0)))
earliest f log (suc n) h =
    let rest = earliest f log n (λ q b. h q (omega arith)) in
    let mine = h (suc n) (omega arith) in
    let theirs = h rest.0 (let b = rest.1 in omega arith) in
    ⊎_elim
    (λ (shorter : length (f (suc n)) < length (f rest.0)).
    let first : Begins (f (suc n)) (f rest.0) = begins_both (f (suc n)) (f rest.0) mine.0 theirs.0 (sym mine.1 ∙ theirs.1) (omega arith) in (
      suc n,
      omega arith,
      λ r b. ⊎_elim
          (λ (same : r ≡ suc n). subst (λ (z : ℕ). Begins (f (suc n)) (f z)) (sym same) (begins_refl (f (suc n))))
          (λ (apart : r ≢ suc n). begins_trans (f (suc n)) (f rest.0) (f r) first (rest.2 r (omega arith)))
          (cases_eq r (suc n)),
    ))
    (λ (longer : length (f rest.0) ≤ length (f (suc n))).
    let first : Begins (f rest.0) (f (suc n)) = begins_both (f rest.0) (f (suc n)) theirs.0 mine.0 (sym theirs.1 ∙ mine.1) longer in (
      rest.0,
      (let b = rest.1 in omega arith),
      λ r b. ⊎_elim
          (λ (same : r ≡ suc n). subst (λ (z : ℕ). Begins (f rest.0) (f z)) (sym same) first)
          (λ (apart : r ≢ suc n). rest.2 r (omega arith))
          (cases_eq r (suc n)),
    ))
    (cases_lt (length (f (suc n))) (length (f rest.0)))

-- a value for each rank, from one for each number below n
for_rank : (n : ℕ) (P : ℕ → Times → Type 0) → ((q : ℕ) → q < n → (t : Times) × P q t) → (f : ℕ → Times) × ((q : ℕ) → q < n → P q (f q))
for_rank n P h = (λ q. pick q (cases_lt q n), λ q b. picked q b (cases_lt q n))
  where
    pick : (q : ℕ) → (q < n) ⊎ (n ≤ q) → Times
    pick q (inl b) = (h q b).0
    pick q (inr _) = record { of_handled = []; of_ran = []; of_submitted = []; of_sent = [] }

    picked : (q : ℕ) → q < n → (c : (q < n) ⊎ (n ≤ q)) → P q (pick q c)
    picked q b (inl d) = (h q d).1
    picked q b (inr d) = absurd (omega arith)

-- two passes of a fence that agree, before its receipt
pub record Agreed (ranks workers f p : ℕ) (end : List Mark) : Type 0 where
  pub legal : Legal ranks workers end
  pub lacks : has_receipt f end ≡ false
  pub first : IsComplete ranks f p end
  pub second : IsComplete ranks f (suc p) end
  pub agree : Agree ranks f p end

-- a row of a pass with its moments
pub record Rowed (ranks f p : ℕ) (end log : List Mark) (q : ℕ) (t : Times) : Type 0 where
  pub row : Row
  pub is : row_of f p (part (main_of q) end) ≡ Some row
  pub timed : Timed ranks q f p row log t

lacks_before : (f : ℕ) (more log : List Mark) → has_receipt f (more ++ log) ≡ false → has_receipt f log ≡ false
lacks_before f [] log h = h
lacks_before f (x ∷ more) log h = lacks_before f more log (or_parts (is_receipt f x.event) (has_receipt f (more ++ log)) h).1

module _ (ranks workers f p : ℕ) (end : List Mark) (a : Agreed ranks workers f p end) where
  late : (t : ℕ → Times) × ((q : ℕ) → q < ranks → Rowed ranks f (suc p) end end q (t q))
  late = for_rank ranks (λ q t. Rowed ranks f (suc p) end end q t) (λ q b. let row = a.second q b in let t = timed ranks workers q end a.legal f (suc p) row.0 row.1 in (t.0, record { row = row.0; is = row.1; timed = t.1 }))

  early : (M : List Mark) → Begins M end → IsComplete ranks f p M → (t : ℕ → Times) × ((q : ℕ) → q < ranks → Rowed ranks f p end M q (t q))
  early M to done = for_rank ranks (λ q t. Rowed ranks f p end M q t) (λ q b.
      let row = done q b in
      let t = timed ranks workers q M (legal_begins ranks workers M end to a.legal) f p row.0 row.1 in
      let kept = row_kept ranks workers q to.0 M (subst (Legal ranks workers) to.1 a.legal) f p row.0 row.1 in
      (t.0, record { row = row.0; is = subst (λ (z : List Mark). row_of f p (part (main_of q) z) ≡ Some row.0) (sym to.1) kept; timed = t.1 }))

  -- from a rank's first reading on its lanes with nothing in hand make nothing
  fenced : (x : Mark) (log from : List Mark) → Begins (x ∷ log) end → Begins from log → fence_in (part (main_of x.lane.rank) from) ≡ Some f → in_hand (part x.lane log) ≡ None → makes x.lane.rank x.event ≡ None
  fenced x log from to b inside idle = go x.event refl may.counting may.fences
    where
      may : May ranks workers log x
      may = (legal_begins ranks workers (x ∷ log) end to a.legal).0

      stays : fence_in (part (main_of x.lane.rank) log) ≡ Some f
      stays =
          let here = begins_trans log (x ∷ log) end (x ∷ [], refl) to in
          let legal = legal_begins ranks workers log end here a.legal in
          let lacks = lacks_before f here.0 log (subst (λ (z : List Mark). has_receipt f z ≡ false) here.1 a.lacks) in
          subst (λ (z : List Mark). fence_in (part (main_of x.lane.rank) z) ≡ Some f) (sym b.1) (stays_inside ranks workers x.lane.rank f b.0 from (subst (Legal ranks workers) b.1 legal) (subst (λ (z : List Mark). has_receipt f z ≡ false) b.1 lacks) inside)

      main : MaySpawn x.lane (in_hand (part x.lane log)) → (in_hand (part x.lane log) ≡ None → fence_in (part x.lane log) ≡ None) → ⊥
      main may out =
          let is : x.lane ≡ main_of x.lane.rank = subst (MaySpawn x.lane) idle may in
          let none : fence_in (part (main_of x.lane.rank) log) ≡ None = subst (λ (l : LaneName). fence_in (part l log) ≡ None) is (out idle) in
          let some = stays in
          absurd (cc)

      go : (e : Event) → x.event ≡ e → Counting ranks log x.lane (part x.lane log) e → Fences ranks log x.lane (part x.lane log) e → makes x.lane.rank e ≡ None
      go (Sent n t c) i count out = absurd (main count.1 out)
      go (Submitted n t) i count out = absurd (main (subst (λ (h : Option Item). MaySpawn x.lane h) (sym idle) (subst (MaySubmit x.lane) idle count.1)) out)
      go _ i count out = refl

  abbrev t2 : ℕ → Times
  t2 = late.0

  passes_at : (M : List Mark) (to : Begins M end) (t1 : ℕ → Times) → ((q : ℕ) → q < ranks → Rowed ranks f p end M q (t1 q)) → ((q : ℕ) → q < ranks → Begins M (t2 q).of_handled)
      → Passes ranks workers end M (λ q. (t1 q).of_handled) (λ q. (t1 q).of_ran) (λ q. (t1 q).of_submitted) (λ q. (t1 q).of_sent) (λ q. (t2 q).of_handled) (λ q. (t2 q).of_sent)
  passes_at M to t1 e least = record {
    legal = a.legal;
    first = λ q b. let o = (e q b).timed.order in (o.0, o.1, begins_trans (t1 q).of_submitted (t1 q).of_sent M o.2 o.3, o.3);
    second = λ q b. let o = (late.1 q b).timed.order in (
      least q b,
      begins_trans M (t2 q).of_handled (t2 q).of_sent (least q b) (begins_trans (t2 q).of_handled (t2 q).of_ran (t2 q).of_sent o.0 (begins_trans (t2 q).of_ran (t2 q).of_submitted (t2 q).of_sent o.1 o.2)),
    );
    ends_it = to;
    done = λ q b. let t = (e q b).timed in sym t.ran_is ∙ t.submitted_is;
    sums = sent_first ∙ a.agree.first ∙ sym handled_first;
    sent_again = same_sum (λ q. count sends q (t2 q).of_sent) (λ q. sent_in (row_of f (suc p) (part (main_of q) end))) ranks (λ q b. let r = late.1 q b in sym r.timed.sent_is ∙ sym (ap sent_in r.is)) ∙ a.agree.sent_again ∙ sym sent_first;
    handled_again = same_sum (λ q. count handlings q (t2 q).of_handled) (λ q. handled_in (row_of f (suc p) (part (main_of q) end))) ranks (λ q b. let r = late.1 q b in sym r.timed.handled_is ∙ sym (ap handled_in r.is)) ∙ a.agree.handled_again ∙ sym handled_first;
    fenced = λ x log b from idle.
        let at = (legal_begins ranks workers (x ∷ log) end b a.legal).0.named.0 in
        fenced x log (t1 x.lane.rank).of_handled b from (e x.lane.rank at).timed.inside idle;
  }
    where
      sent_first : sum_ranks (λ q. count sends q (t1 q).of_sent) ranks ≡ total_sent ranks f p end
      sent_first = same_sum (λ q. count sends q (t1 q).of_sent) (λ q. sent_in (row_of f p (part (main_of q) end))) ranks (λ q b. let r = e q b in sym r.timed.sent_is ∙ sym (ap sent_in r.is))

      handled_first : sum_ranks (λ q. count handlings q (t1 q).of_handled) ranks ≡ total_handled ranks f p end
      handled_first = same_sum (λ q. count handlings q (t1 q).of_handled) (λ q. handled_in (row_of f p (part (main_of q) end))) ranks (λ q b. let r = e q b in sym r.timed.handled_is ∙ sym (ap handled_in r.is))

  -- nothing is left undone at a list or after it, and no count changes
  pub record Settled (at : List Mark) : Type 0 where
    pub now : (c : Item) → Holds (waiting at) c → ⊥
    pub later : (c : Item) → Holds (waiting end) c → ⊥
    pub counts_stay : (k : Kind) (r : ℕ) → count k r end ≡ count k r at

  settled_before : (M : List Mark) → Begins M end → IsComplete ranks f p M → ((q : ℕ) → q < ranks → Begins M (t2 q).of_handled) → (more : List Mark) → Begins (more ++ M) end → Settled (more ++ M)
  settled_before M to done least more upto =
      let e = early M to done in
      let s = still ranks workers end M _ _ _ _ _ _ (passes_at M to e.0 e.1 least) in
      let here = s more upto in
      let last = s to.0 (subst (λ (z : List Mark). Begins z end) to.1 (begins_refl end)) in
      record {
        now = here.0;
        later = λ c w. last.0 c (subst (λ (z : List Mark). Holds (waiting z) c) to.1 w);
        counts_stay = λ k r. ap (count k r) to.1 ∙ last.1 k r ∙ sym (here.1 k r);
      }

  -- the earliest moment at which a rank read handled in the second pass
  second_in_end : (q : ℕ) → q < ranks → Begins (t2 q).of_handled end
  second_in_end q b = let o = (late.1 q b).timed.order in begins_trans (t2 q).of_handled (t2 q).of_ran end o.0 (begins_trans (t2 q).of_ran (t2 q).of_submitted end o.1 (begins_trans (t2 q).of_submitted (t2 q).of_sent end o.2 o.3))

-- the moment at which the first pass is complete, and before which no rank read handled in the second
record Middle (n workers f d : ℕ) (end : List Mark) (a : Agreed (suc n) workers f (suc d) end) : Type 0 where
  pub at : List Mark
  pub to : Begins at end
  pub done : IsComplete (suc n) f (suc d) at
  pub least : (q : ℕ) → q < suc n → Begins at (t2 (suc n) workers f (suc d) end a q).of_handled

middle : (n workers f d : ℕ) (end : List Mark) (a : Agreed (suc n) workers f (suc d) end) → Middle n workers f d end a
middle n workers f d end a =
    let e = earliest (λ q. (t2 (suc n) workers f (suc d) end a q).of_handled) end n (second_in_end (suc n) workers f (suc d) end a) in
    record {
      at = (t2 (suc n) workers f (suc d) end a e.0).of_handled;
      to = second_in_end (suc n) workers f (suc d) end a e.0 e.1;
      done = ((late (suc n) workers f (suc d) end a).1 e.0 e.1).timed.ready d refl;
      least = e.2;
    }

-- at any moment at which the first pass is complete at every rank nothing is left undone, and no count changes after it
pub settled : (n workers f d : ℕ) (end : List Mark) (a : Agreed (suc n) workers f (suc d) end) (at : List Mark) → Begins at end → IsComplete (suc n) f (suc d) at → Settled (suc n) workers f (suc d) end a at
settled n workers f d end a at to done =
    let m = middle n workers f d end a in
    ⊎_elim
    (λ (after : length m.at < length at).
    let from : Begins m.at at = begins_both m.at at m.to.0 to.0 (sym m.to.1 ∙ to.1) (omega arith) in
    subst (Settled (suc n) workers f (suc d) end a) (sym from.1) (settled_before (suc n) workers f (suc d) end a m.at m.to m.done m.least from.0 (subst (λ (z : List Mark). Begins z end) from.1 to)))
    (λ (before : length at ≤ length m.at).
    let first : Begins at m.at = begins_both at m.at to.0 m.to.0 (sym to.1 ∙ m.to.1) before in
    settled_before (suc n) workers f (suc d) end a at to done (λ q b. begins_trans at m.at (t2 (suc n) workers f (suc d) end a q).of_handled first (m.least q b)) [] to)
    (cases_lt (length m.at) (length at))

pub settled_end : (n workers f d : ℕ) (end : List Mark) (a : Agreed (suc n) workers f (suc d) end) → (c : Item) → Holds (waiting end) c → ⊥
settled_end n workers f d end a = let m = middle n workers f d end a in (settled n workers f d end a m.at m.to m.done).later

-- the rows of the second pass are the counts before the receipt
pub rows_are_counts : (n workers f d : ℕ) (end : List Mark) (a : Agreed (suc n) workers f (suc d) end) (q : ℕ) → q < suc n → (row : Row) → row_of f (suc (suc d)) (part (main_of q) end) ≡ Some row → (k : Kind) → named k row ≡ count k q end
rows_are_counts n workers f d end a q b row is k =
    let r = (late (suc n) workers f (suc d) end a).1 q b in
    let i = r.is in
    let same : r.row ≡ row = cc in
    subst (λ (z : Row). named k z ≡ count k q end) same (go k)
  where
    go : (k : Kind) → named k ((late (suc n) workers f (suc d) end a).1 q b).row ≡ count k q end
    go k =
        let m = middle n workers f d end a in
        let s = settled n workers f d end a m.at m.to m.done in
        let r = (late (suc n) workers f (suc d) end a).1 q b in
        let t = t2 (suc n) workers f (suc d) end a q in
        let o = r.timed.order in
        let low = m.least q b in
        let ran = begins_trans m.at t.of_handled t.of_ran low o.0 in
        let sub = begins_trans m.at t.of_ran t.of_submitted ran o.1 in
        let sent = begins_trans m.at t.of_submitted t.of_sent sub o.2 in
        let sub_end = begins_trans t.of_submitted t.of_sent end o.2 o.3 in
        let ran_end = begins_trans t.of_ran t.of_submitted end o.1 sub_end in
        let handled_end = begins_trans t.of_handled t.of_ran end o.0 ran_end in
        let between = λ (j : Kind) (at : List Mark) (v : ℕ) (is : v ≡ count j q at) (lo : Begins m.at at) (hi : Begins at end). within j at v is (count_begins j q m.at at lo) (count_begins j q at end hi) (s.counts_stay j q) in
        elim k as (λ j. named j r.row ≡ count j q end) [
          | sends ↦ between sends t.of_sent r.row.sent r.timed.sent_is sent o.3
          | handlings ↦ between handlings t.of_handled r.row.handled r.timed.handled_is low handled_end
          | submissions ↦ between submissions t.of_submitted r.row.tasks r.timed.submitted_is sub sub_end
          | runs ↦ between runs t.of_ran r.row.tasks r.timed.ran_is ran ran_end
        ]
      where
        within : (j : Kind) (at : List Mark) (v : ℕ) → v ≡ count j q at → count j q (middle n workers f d end a).at ≤ count j q at → count j q at ≤ count j q end → count j q end ≡ count j q (middle n workers f d end a).at → v ≡ count j q end
        within j at v is lo hi same = omega arith

-- agreement makes the rows of the two passes equal at each rank
pub rows_are_equal : (n workers f d : ℕ) (end : List Mark) (a : Agreed (suc n) workers f (suc d) end) (q : ℕ) → q < suc n → row_of f (suc d) (part (main_of q) end) ≡ row_of f (suc (suc d)) (part (main_of q) end)
rows_are_equal n workers f d end a q b =
    let m = middle n workers f d end a in
    let e = early (suc n) workers f (suc d) end a m.at m.to m.done in
    let one = e.1 q b in
    let two = (late (suc n) workers f (suc d) end a).1 q b in
    let passes = passes_at (suc n) workers f (suc d) end a m.at m.to e.0 e.1 m.least in
    let s = settled n workers f d end a m.at m.to m.done in
    let sent : one.row.sent ≡ two.row.sent = one.timed.sent_is ∙ sent_same (suc n) workers end m.at _ _ _ _ _ _ passes q b ∙ sym two.timed.sent_is in
    let handled : one.row.handled ≡ two.row.handled = one.timed.handled_is ∙ handled_same (suc n) workers end m.at _ _ _ _ _ _ passes q b ∙ sym two.timed.handled_is in
    let last = rows_are_counts n workers f d end a q b two.row two.is submissions in
    let tasks : one.row.tasks ≡ two.row.tasks = one.timed.submitted_is ∙ tasks_stay (suc n) workers end m.at _ _ _ _ _ _ passes q b ∙ sym (s.counts_stay submissions q) ∙ sym last in
    one.is ∙ ap Some (same_row one.row two.row sent handled tasks) ∙ sym two.is
  where
    same_row : (x y : Row) → x.sent ≡ y.sent → x.handled ≡ y.handled → x.tasks ≡ y.tasks → x ≡ y
    same_row x y s h t = λ i. record { sent = s i; handled = h i; tasks = t i }
