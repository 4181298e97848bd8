-- Lemmas that crates above use: what a receipt counts, where the application's units are known.
use Rattle.std.proofs.Common.{◌≡◌, ℕ, zero, suc, ◌+◌, ◌<◌, true, List, [], ◌∷◌, length, refl, sym, ap, ◌∙◌, subst, arith}
use Rattle.std.specs.Prelude.{Some, take, slice_get, Contains}
use Rattle.app_core.specs.declared.label.Label.{Label}
use Rattle.app_core.specs.declared.outline.Outline.{Outline}
use Rattle.event_lists.specs.declared.event.TaskName.{TaskName}
use Rattle.event_lists.specs.declared.receipt.Row.{Row}
use Rattle.event_lists.specs.declared.receipt.Receipt.{Receipt}
use Rattle.event_lists.specs.declared.mark.EffectName.{EffectName}
use Rattle.event_lists.specs.declared.mark.Mark.{Mark}
use Rattle.event_lists.specs.declared.kind.Kind.{Kind}
use Rattle.event_lists.specs.declared.kind.Kind.TheVariants.{Sends as sends, Submissions as submissions}
use Rattle.event_lists.specs.Events.{part, main_of, count, Begins, IsSubmitted}
use Rattle.event_lists.specs.Fences.{sum_ranks}
use Rattle.event_lists.specs.Quiet.{named}
use Rattle.event_lists.specs.Legal.{Legal}
use Rattle.event_lists.proofs.ListLemmas.{legal_begins, begins_tail}
use Rattle.event_lists.proofs.SumLemmas.{total, totals}
use Rattle.event_lists.proofs.ReceiptLemmas.{receipt_length, receipt_row}
use Rattle.event_laws.specs.Follows.{TaskEffects, Doing, Start, IsRun, deeds, effect_name}
use Rattle.event_laws.specs.Apart.{Apart, spawned}
use Rattle.event_laws.specs.Stages.{fences_in, IsStaged, IsOfFence, AreUnits}
use Rattle.event_laws.specs.Done.{IsDone}
use Rattle.event_laws.specs.Held.{HasReceipt, sum_rows, all_told}
use Rattle.event_laws.specs.Totals.{is_away, start_sends, unit_sends, totals_of}
use Rattle.event_laws.proofs.PositionLemmas.{goes_at}
use Rattle.event_laws.proofs.SourceLemmas.{one_name as one_task_name, task_submitted}
use Rattle.event_laws.proofs.EffectMarkLemmas.{goes_begins, effect_at, effect_by, is_named}
use Rattle.event_laws.proofs.ParcelLemmas.{submitted_begins}
use Rattle.event_laws.proofs.MainLemmas.{started, fences_grow}
use Rattle.event_laws.proofs.SpawnLemmas.{same_task, apart_begins}
use Rattle.event_laws.proofs.SettledFenceLemmas.{to_log, legal_now, follows_now, task_done, main_waits, early_start}
use Rattle.event_laws.proofs.UnitLemmas.{comes_early, unit_done, task_is}
use Rattle.event_laws.proofs.MatchingListLemmas.{Has, matched, contains_has, has_contains, apart_distinct}
use Rattle.event_laws.proofs.SenderLemmas.{all_places, in_all, all_have, all_distinct, all_count, start_places, in_starts, starts_have, starts_distinct, starts_count}
use Rattle.event_laws.proofs.TaskListLemmas.{sent_away, away_sent, labels_in, labels_count, in_labels, labels_have, labels_distinct, names_in, places_in, sends_count, in_names, names_have, names_distinct}
use Rattle.event_laws.proofs.StartLemmas.{in_log, log_has, sent_start, done_after, places_distinct}

-- sums over rows and over ranks
shift : (g : ℕ → ℕ) (n : ℕ) → sum_ranks g (suc n) ≡ g 0 + sum_ranks (λ q. g (suc q)) n
shift g zero = omega arith
shift g (suc n) = omega (arith, shift g n)

rows_sum : (f : Row → ℕ) (rows : List Row) (g : ℕ → ℕ) → ((q : ℕ) → q < length rows → (row : Row) × (slice_get rows q ≡ Some row) × (f row ≡ g q)) → sum_rows f rows ≡ sum_ranks g (length rows)
rows_sum f [] g h = refl
rows_sum f (row ∷ rows) g h =
    let one = h 0 (omega arith) in
    let same : row ≡ one.0 = (let e = one.1 in cc) in
    let first : f row ≡ g 0 = ap f same ∙ one.2 in
    let rest = rows_sum f rows (λ q. g (suc q)) (λ q b. h (suc q) (omega (arith, b))) in
    omega (arith, first, rest, shift g (length rows))

module _ (ranks workers : ℕ) (program : List Doing) (may : Label → List Outline → Type 0) (task_effects : TaskEffects) (log before : List Mark) (x : Mark) (r : Receipt)
    (run : IsRun ranks workers program may task_effects log) (has : HasReceipt log before x r) where
  -- the rows of a receipt are the counts before it
  row_counts : (k : Kind) (f : Row → ℕ) → ((row : Row) → named k row ≡ f row) → sum_rows f r.rows ≡ total k before
  row_counts k f is =
      let legal = legal_begins ranks workers (x ∷ before) log has.begins run.legal in
      let long = receipt_length ranks workers before x r legal has.is in
      let rows = rows_sum f r.rows (λ q. count k q before) (λ q b.
      let row = receipt_row ranks workers before x r legal has.is q (omega (arith, b, long)) in
      (row.0, row.1, sym (is row.0) ∙ row.2 k)) in
      rows ∙ ap (sum_ranks (λ q. count k q before)) long ∙ totals k ranks workers before legal.1

  module _ (apart : Apart (spawned log)) (stage : Label → ℕ) (staged : IsStaged program may stage) (plan : Label → List Outline) (home : Label → ℕ) (us : List Label)
      (units : AreUnits program may (λ u. stage u < r.fence) plan home us) where
    of_fence : IsOfFence may stage r.fence (λ u. stage u < r.fence)
    of_fence = record { before = λ u lt. lt; spawner = λ p os i o u m e s lt. subst (λ (z : ℕ). z < r.fence) (staged.steps p os i o u m e s) lt }

    here_legal : Legal ranks workers before
    here_legal = legal_now ranks workers program may task_effects log before x r run has

    to : Begins before log
    to = to_log ranks workers program may task_effects log before x r run has

    apart_here : Apart (spawned before)
    apart_here = apart_begins before log to apart

    done : (u : Label) → Contains us u → IsDone may task_effects before (home u) u (plan u)
    done = unit_done ranks workers program may task_effects log before x r run has stage staged (λ u. stage u < r.fence) of_fence plan home us units

    is_unit : (q n : ℕ) (t : TaskName) → IsSubmitted q n t before → Contains us t.unit × (q ≡ home t.unit)
    is_unit q n t s = task_is ranks workers program may task_effects log before x r run has stage staged (λ u. stage u < r.fence) of_fence plan home us units q n t s
        (comes_early ranks workers program may task_effects log before x r run has stage staged q n t s).1

    -- as many tasks as units
    pub tasks_counted : total submissions before ≡ length us
    tasks_counted = sym (labels_count before) ∙ matched (λ (a b : Label). a ≡ b) (labels_in before) us
        (labels_distinct ranks workers before here_legal apart_here) (apart_distinct us units.apart)
        (λ u h. let t = in_labels u before h in (u, contains_has us u (subst (Contains us) t.label (is_unit t.rank t.number t.task t.submitted).0), refl))
        (λ u h. let d = done u (has_contains us u h) in (u, subst (Has (labels_in before)) d.label (labels_have d.submitted.0 d.number d.task before d.submitted.2), refl))
        (λ a b c p q. p ∙ sym q) (λ a b c p q. sym p ∙ q)

    -- the effect of a task of a unit, at a place
    abbrev Matches : EffectName → Label × ℕ → Type 0
    Matches f p = (t : TaskName) × IsSubmitted f.rank f.number t before × (t.unit ≡ p.0) × (f.index ≡ p.1)

    to_place : (f : EffectName) → Has (names_in before) f → (p : Label × ℕ) × Has (all_places plan home us) p × Matches f p
    to_place f h =
        let s = in_names f before h in
        let follows = follows_now ranks workers program may task_effects log before x r run has in
        let c = effect_by program task_effects s.before s.x (goes_at program task_effects s.x s.before before follows s.begins) f.rank f.number f.index (is_named f.rank f.number f.index s.x.effect s.effect) in
        let back = begins_tail s.x s.before before s.begins in
        let t = task_submitted ranks workers s.before (legal_begins ranks workers s.before before back here_legal) f.rank f.number c.taken in
        let sub = submitted_begins ranks workers f.rank f.number t.0 s.before before back t.1 in
        let u = is_unit f.rank f.number t.0 sub in
        let d = task_done ranks workers program may task_effects log before x r run has f.rank f.number t.0 sub in
        let lists : c.os ≡ d.0 = (let e = sym c.plan ∙ d.2 in cc) in
        let is_plan : c.os ≡ plan t.0.unit = lists ∙ units.task_effects t.0.unit d.0 u.0 d.1.may_do in
        let away : is_away f.rank c.o ≡ true = ap (λ (q : ℕ). is_away q c.o) c.rank ∙ sent_away s.x.lane.rank c.o s.x.event c.says s.sends in (
          (t.0.unit, f.index),
          all_have plan home us t.0.unit f.index c.o (contains_has us t.0.unit u.0) (subst (λ (l : List Outline). slice_get l f.index ≡ Some c.o) is_plan c.here) (subst (λ (q : ℕ). is_away q c.o ≡ true) u.1 away),
          (t.0, sub, refl, refl),
        )

    to_name : (p : Label × ℕ) → Has (all_places plan home us) p → (f : EffectName) × Has (names_in before) f × Matches f p
    to_name p h =
        let i = in_all plan home us p h in
        let d = done p.0 (has_contains us p.0 i.0) in
        let o = i.1.0 in
        let follows = follows_now ranks workers program may task_effects log before x r run has in
        let y = effect_at (home p.0) d.number p.1 before (d.all p.1 o i.1.1) in
        let c = effect_by program task_effects y.1 y.0 (goes_at program task_effects y.0 y.1 before follows y.2) (home p.0) d.number p.1 y.3 in
        let lists : c.os ≡ plan p.0 = (let e = sym c.plan ∙ d.plan in cc) in
        let same : Some c.o ≡ Some o = sym c.here ∙ ap (λ (z : List Outline). slice_get z p.1) lists ∙ i.1.1 in
        let is : c.o ≡ o = cc in
        let away : is_away y.0.lane.rank c.o ≡ true = ap (λ (q : ℕ). is_away q c.o) (sym c.rank) ∙ ap (is_away (home p.0)) is ∙ i.1.2 in
        let s = away_sent y.0.lane.rank c.o y.0.event c.says away in (
          effect_name (home p.0) d.number p.1,
          names_have (effect_name (home p.0) d.number p.1) before (record { x = y.0; before = y.1; begins = y.2; sends = s; effect = c.effect }),
          (d.task, d.submitted, d.label, refl),
        )

    one_name : (f g : EffectName) (p : Label × ℕ) → Matches f p → Matches g p → f ≡ g
    one_name f g p a b =
        let one = same_task ranks workers before here_legal apart_here f.rank f.number g.rank g.number a.0 b.0 a.1 b.1 (a.2 ∙ sym b.2) in
        let place : f.index ≡ g.index = a.3 ∙ sym b.3 in
        λ i. record { rank = one.0 i; number = one.1 i; index = place i }

    one_place : (f : EffectName) (p q : Label × ℕ) → Matches f p → Matches f q → p ≡ q
    one_place f p q a b =
        let same = one_task_name ranks workers before here_legal f.rank f.number a.0 b.0 a.1 b.1 in
        let label : p.0 ≡ q.0 = sym a.2 ∙ ap (λ (t : TaskName). t.unit) same ∙ b.2 in
        let place : p.1 ≡ q.1 = sym a.3 ∙ b.3 in
        λ i. (label i, place i)

    names_counted : length (names_in before) ≡ unit_sends plan home us
    names_counted = matched Matches (names_in before) (all_places plan home us)
        (names_distinct program task_effects before (follows_now ranks workers program may task_effects log before x r run has)) (all_distinct plan home us (apart_distinct us units.apart))
        to_place to_name one_name one_place ∙ all_count plan home us

    to_start : (k : ℕ) → Has (places_in before) k → (j : ℕ) × Has (start_places r.fence 0 program) j × (k ≡ j)
    to_start k h =
        let s = in_log k before h in
        let follows = follows_now ranks workers program may task_effects log before x r run has in
        let i = sent_start ranks workers program task_effects s.x s.before (legal_begins ranks workers (s.x ∷ s.before) before s.begins here_legal) (goes_begins program task_effects (s.x ∷ s.before) before follows s.begins) s.sends s.effect in
        let after = done_after ranks workers program task_effects s.x s.before before s.begins s.sends i in
        let k_is : k ≡ deeds (part (main_of 0) s.before) = s.place ∙ ap (λ l. deeds (part l s.before)) i.lane in
        let w = main_waits ranks workers program may task_effects log before x r run has in
        let below : fences_in (take k program) < r.fence = omega (arith, w.1, w.2, fences_grow program k (deeds (part (main_of 0) before)) (omega (arith, after, k_is))) in
        let at : slice_get program k ≡ Some (Start i.o) = subst (λ (z : ℕ). slice_get program z ≡ Some (Start i.o)) (sym k_is) i.here in
        let zero_k : 0 + k ≡ k = omega arith in
        (k, subst (Has (start_places r.fence 0 program)) zero_k (starts_have r.fence 0 program k i.o at (sent_away 0 i.o s.x.event i.says s.sends) below), refl)

    from_start : (j : ℕ) → Has (start_places r.fence 0 program) j → (k : ℕ) × Has (places_in before) k × (k ≡ j)
    from_start j h =
        let i = in_starts r.fence 0 program j h in
        let at : i.at ≡ j = (let p = i.place in omega (arith, p)) in
        let follows = follows_now ranks workers program may task_effects log before x r run has in
        let early = early_start ranks workers program may task_effects log before x r run has i.at i.o i.here i.before in
        let s = started ranks workers program task_effects before here_legal follows i.at i.o i.here early in
        let send = away_sent 0 i.o s.x.event s.says i.away in
        (j, log_has j before (record { x = s.x; before = s.before; begins = s.begins; sends = send; effect = s.effect; place = sym at ∙ s.place ∙ ap (λ l. deeds (part l s.before)) (sym s.lane) }), refl)

    starts_counted : length (places_in before) ≡ start_sends r.fence program
    starts_counted = matched (λ (a b : ℕ). a ≡ b) (places_in before) (start_places r.fence 0 program)
        (places_distinct ranks workers program task_effects before here_legal (follows_now ranks workers program may task_effects log before x r run has)) (starts_distinct r.fence 0 program)
        to_start from_start (λ a b c p q. p ∙ sym q) (λ a b c p q. sym p ∙ q) ∙ starts_count r.fence 0 program

    -- as many messages as effects that send
    pub sends_counted : total sends before ≡ start_sends r.fence program + unit_sends plan home us
    sends_counted = omega (arith, sends_count before, names_counted, starts_counted)

    pub all_counted : all_told r ≡ totals_of r.fence program plan home us
    all_counted =
        let a : sum_rows (λ row. row.sent) r.rows ≡ start_sends r.fence program + unit_sends plan home us = row_counts sends (λ row. row.sent) (λ row. refl) ∙ sends_counted in
        let b : sum_rows (λ row. row.tasks) r.rows ≡ length us = row_counts submissions (λ row. row.tasks) (λ row. refl) ∙ tasks_counted in
        λ i. (a i, b i)
