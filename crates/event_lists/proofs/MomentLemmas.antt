-- From the readings in the mains' own parts to the moments at which they were taken.
use Rattle.std.proofs.Common.{◌≡◌, ◌⊎◌, ℕ, ◌+◌, ◌<◌, ◌≤◌, Bool, true, false, List, [], ◌∷◌, ◌++◌, refl, sym, ap, ◌∙◌, subst, inl, inr, ⊎_elim, arith}
use Rattle.std.specs.Prelude.{if◌then◌else◌, ◌==◌, ◌&&◌, Some}
use Rattle.std.proofs.lemmas.Bool.{and_parts, eqb-true, both_ways, or_parts}
use Rattle.event_lists.specs.declared.lane.LaneName.{LaneName}
use Rattle.event_lists.specs.declared.event.Event.{Event}
use Rattle.event_lists.specs.declared.event.Event.TheVariants.{ReadHandled, ReadRan, ReadSubmitted, ReadSent, Enter, Leave}
use Rattle.event_lists.specs.declared.receipt.Row.{Row}
use Rattle.event_lists.specs.declared.mark.Mark.{Mark}
use Rattle.event_lists.specs.declared.kind.Kind.{Kind}
use Rattle.event_lists.specs.declared.kind.Kind.TheVariants.{Sends as sends, Handlings as handlings, Submissions as submissions, Runs as runs}
use Rattle.event_lists.specs.Events.{part, same_lane, main_of, Begins, count}
use Rattle.event_lists.specs.declared.kind.Reading.{Reading}
use Rattle.event_lists.specs.Fences.{Fences, reading, readings, passes, row_after, row_of, IsReady, InOrder, Reads, fence_in, enters, is_receipt, has_receipt}
use Rattle.event_lists.specs.Legal.{Legal}
use Rattle.event_lists.proofs.LaneLemmas.{same_lane_true}
use Rattle.event_lists.proofs.ListLemmas.{begins_refl, begins_more}

module _ (ranks workers q : ℕ) where
  -- a reading in the list was taken at one of its beginnings, in order
  pub record Taken (r : Reading) (rest : List Reading) (log : List Mark) : Type 0 where
    pub at : List Mark
    pub begins : Begins at log
    pub is : r.found ≡ count r.kind q at
    pub inside : fence_in (part (main_of q) at) ≡ Some r.fence
    pub order : InOrder ranks at rest r.kind r.fence r.pass

  -- so were all readings of an attempt, each before the next
  abbrev pub Placed : List Reading → List Mark → Type 0
  Placed [] log = Unit {0}
  Placed (r ∷ rs) log = (m : Taken r rs log) × Placed rs m.at

  placed_more : (rs : List Reading) (x : Mark) (log : List Mark) → Placed rs log → Placed rs (x ∷ log)
  placed_more [] x log p = tt
  placed_more (r ∷ rs) x log p = (record { at = p.0.at; begins = begins_more p.0.at log x p.0.begins; is = p.0.is; inside = p.0.inside; order = p.0.order }, p.1)

  take_reading : (log : List Mark) (x : Mark) (mine : List Event) (k : Kind) (v f p : ℕ) → Reads ranks log (main_of q) mine k v f p → mine ≡ part (main_of q) log → Placed (readings mine) log → Placed (reading k v f p ∷ readings mine) (x ∷ log)
  take_reading log x mine k v f p a is h = (
    record {
      at = log;
      begins = begins_more log log x (begins_refl log);
      is = a.0;
      inside = subst (λ (z : List Event). fence_in z ≡ Some f) is a.1.2;
      order = a.3;
    },
    h,
  )

  place : (log : List Mark) (x : Mark) (mine : List Event) (e : Event) → Fences ranks log (main_of q) mine e → mine ≡ part (main_of q) log → Placed (readings mine) log → Placed (readings (e ∷ mine)) (x ∷ log)
  place log x mine (ReadHandled v f p) a is h = take_reading log x mine handlings v f p a is h
  place log x mine (ReadRan v f p) a is h = take_reading log x mine runs v f p a is h
  place log x mine (ReadSubmitted v f p) a is h = take_reading log x mine submissions v f p a is h
  place log x mine (ReadSent v f p) a is h = take_reading log x mine sends v f p a is h
  place log x mine (Enter f) a is h = tt
  place log x mine _ a is h = placed_more (readings mine) x log h

  pub placed : (log : List Mark) → Legal ranks workers log → Placed (readings (part (main_of q) log)) log
  placed [] l = tt
  placed (x ∷ log) l = go (placed log l.1) (same_lane x.lane (main_of q)) refl
    where
      go : Placed (readings (part (main_of q) log)) log → (b : Bool) → same_lane x.lane (main_of q) ≡ b → Placed (readings (if b then x.event ∷ part (main_of q) log else part (main_of q) log)) (x ∷ log)
      go h true e = place log x (part (main_of q) log) x.event (subst (λ (m : LaneName). Fences ranks log m (part m log) x.event) (same_lane_true x.lane (main_of q) e) l.0.fences) refl h
      go h false e = placed_more (readings (part (main_of q) log)) x log h

-- the moments of the four readings of a pass
pub record Times : Type 0 where
  pub of_handled : List Mark
  pub of_ran : List Mark
  pub of_submitted : List Mark
  pub of_sent : List Mark

-- these are the moments of a rank's readings of a pass
pub record Timed (ranks q f p : ℕ) (row : Row) (log : List Mark) (t : Times) : Type 0 where
  pub order : Begins t.of_handled t.of_ran × Begins t.of_ran t.of_submitted × Begins t.of_submitted t.of_sent × Begins t.of_sent log
  pub handled_is : row.handled ≡ count handlings q t.of_handled
  pub ran_is : row.tasks ≡ count runs q t.of_ran
  pub submitted_is : row.tasks ≡ count submissions q t.of_submitted
  pub sent_is : row.sent ≡ count sends q t.of_sent
  pub inside : fence_in (part (main_of q) t.of_handled) ≡ Some f
  pub ready : IsReady ranks f p t.of_handled

module _ (ranks workers q : ℕ) where
  abbrev HasTimes : ℕ → ℕ → Row → List Mark → Type 0
  HasTimes f p row log = (t : Times) × Timed ranks q f p row log t

  times_more : (f p : ℕ) (row : Row) (x : Mark) (log : List Mark) → HasTimes f p row log → HasTimes f p row (x ∷ log)
  times_more f p row x log h = (h.0, let t = h.1 in record { order = (t.order.0, t.order.1, t.order.2, begins_more h.0.of_sent log x t.order.3); handled_is = t.handled_is; ran_is = t.ran_is; submitted_is = t.submitted_is; sent_is = t.sent_is; inside = t.inside; ready = t.ready })

  completes : (log : List Mark) (x : Mark) (v f p : ℕ) (rs : List Reading) → v ≡ count sends q log → InOrder ranks log rs sends f p → Placed ranks workers q rs log → HasTimes f p (row_after v rs) (x ∷ log)
  completes log x v f p rs is a h =
      let t = a.0 in
      let before = a.1 in
      let down = subst (λ (z : List Reading). Placed ranks workers q z log) a.2 h in
      let u = down.0 in
      let r = down.1.0 in
      let order = r.order in
      let last = subst (λ (z : List Reading). Placed ranks workers q z r.at) order.2 down.1.1 in
      let o = last.0 in
      let row : row_after v rs ≡ record { sent = v; handled = order.0; tasks = t } = ap (row_after v) (a.2 ∙ ap (λ (z : List Reading). reading submissions t f p ∷ (reading runs t f p ∷ z)) order.2) in
      subst (λ (z : Row). HasTimes f p z (x ∷ log)) (sym row) (
        record { of_handled = o.at; of_ran = r.at; of_submitted = u.at; of_sent = log },
        record {
          order = (o.begins, r.begins, u.begins, begins_more log log x (begins_refl log));
          handled_is = o.is;
          ran_is = r.is;
          submitted_is = u.is;
          sent_is = is;
          inside = o.inside;
          ready = o.order.1;
        },
      )

  abbrev AllTimes : List Mark → List Event → Type 0
  AllTimes log es = (f p : ℕ) (row : Row) → row_of f p es ≡ Some row → HasTimes f p row log

  all_more : (x : Mark) (log : List Mark) (es : List Event) → AllTimes log es → AllTimes (x ∷ log) es
  all_more x log es h f p row i = times_more f p row x log (h f p row i)

  row_step : (log : List Mark) (x : Mark) (es : List Event) (e : Event) → Fences ranks log (main_of q) es e → Placed ranks workers q (readings es) log → AllTimes log es → AllTimes (x ∷ log) (e ∷ es)
  row_step log x es (ReadSent v e o) a h all = λ f p row i. pick f p row ((e == f) && (o == p)) refl i
    where
      pick : (f p : ℕ) (row : Row) (b : Bool) → ((e == f) && (o == p)) ≡ b → (if b then Some (row_after v (readings es)) else row_of f p es) ≡ Some row → HasTimes f p row (x ∷ log)
      pick f p row true t i =
          let parts = and_parts (e == f) (o == p) t in
          let same : row_after v (readings es) ≡ row = cc in
          let here = completes log x v e o (readings es) a.0 a.3 h in
          subst (λ (z : ℕ). HasTimes z p row (x ∷ log)) (eqb-true e f parts.0)
          (subst (λ (z : ℕ). HasTimes e z row (x ∷ log)) (eqb-true o p parts.1)
          (subst (λ (z : Row). HasTimes e o z (x ∷ log)) same here))
      pick f p row false t i = times_more f p row x log (all f p row i)
  row_step log x es _ a h all = all_more x log es all

  -- a pass that is complete at a rank has its moments
  pub timed : (log : List Mark) → Legal ranks workers log → AllTimes log (part (main_of q) log)
  timed [] l = λ f p row e. absurd (cc)
  timed (x ∷ log) l = go (placed ranks workers q log l.1) (timed log l.1) (same_lane x.lane (main_of q)) refl
    where
      go : Placed ranks workers q (readings (part (main_of q) log)) log → AllTimes log (part (main_of q) log) → (b : Bool) → same_lane x.lane (main_of q) ≡ b → AllTimes (x ∷ log) (if b then x.event ∷ part (main_of q) log else part (main_of q) log)
      go h all true e = row_step log x (part (main_of q) log) x.event (subst (λ (m : LaneName). Fences ranks log m (part m log) x.event) (same_lane_true x.lane (main_of q) e) l.0.fences) h all
      go h all false e = all_more x log (part (main_of q) log) all

  -- a fence that a main is in is the last that it entered, and passes are completed in fences that were entered
  pub record Entered (es : List Event) : Type 0 where
    pub inside : (f : ℕ) → fence_in es ≡ Some f → f ≡ enters es
    pub past : (f p : ℕ) (row : Row) → row_of f p es ≡ Some row → (f < enters es) ⊎ ((f ≡ enters es) × (p ≤ passes (readings es)))

  enter_step : (log : List Mark) (es : List Event) (e : Event) → Fences ranks log (main_of q) es e → Entered es → Entered (e ∷ es)
  enter_step log es (ReadSent v e o) a h = record { inside = h.inside; past = λ f p row i. pick f p row ((e == f) && (o == p)) refl i }
    where
      pick : (f p : ℕ) (row : Row) (b : Bool) → ((e == f) && (o == p)) ≡ b → (if b then Some (row_after v (readings es)) else row_of f p es) ≡ Some row → (f < enters es) ⊎ ((f ≡ enters es) × (p ≤ 1 + passes (readings es)))
      pick f p row true t i =
          let parts = and_parts (e == f) (o == p) t in
          let is = h.inside e a.1.2 in
          let number = a.2 in
          let same = eqb-true e f parts.0 in
          let last = eqb-true o p parts.1 in
          inr (sym same ∙ is, omega arith)
      pick f p row false t i = ⊎_elim (λ b. inl b) (λ c. inr (c.0, omega (arith, c.1))) (h.past f p row i)
  enter_step log es (Enter e) a h = record {
    inside = λ f i. let same : e ≡ f = cc in sym same ∙ a.3;
    past = λ f p row i. ⊎_elim (λ b. inl (omega (arith, b))) (λ c. inl (omega (arith, c.0))) (h.past f p row i);
  }
  enter_step log es (Leave e) a h = record { inside = λ f i. absurd (cc); past = h.past }
  enter_step log es (ReadHandled v e o) a h = record { inside = h.inside; past = λ f p row i. ⊎_elim (λ b. inl b) (λ c. inr (c.0, omega (arith, c.1))) (h.past f p row i) }
  enter_step log es (ReadRan v e o) a h = record { inside = h.inside; past = λ f p row i. ⊎_elim (λ b. inl b) (λ c. inr (c.0, omega (arith, c.1))) (h.past f p row i) }
  enter_step log es (ReadSubmitted v e o) a h = record { inside = h.inside; past = λ f p row i. ⊎_elim (λ b. inl b) (λ c. inr (c.0, omega (arith, c.1))) (h.past f p row i) }
  enter_step log es _ a h = record { inside = h.inside; past = h.past }

  entered : (log : List Mark) → Legal ranks workers log → Entered (part (main_of q) log)
  entered [] l = record { inside = λ f i. absurd (cc); past = λ f p row i. absurd (cc) }
  entered (x ∷ log) l = go (entered log l.1) (same_lane x.lane (main_of q)) refl
    where
      go : Entered (part (main_of q) log) → (b : Bool) → same_lane x.lane (main_of q) ≡ b → Entered (if b then x.event ∷ part (main_of q) log else part (main_of q) log)
      go h true e = enter_step log (part (main_of q) log) x.event (subst (λ (m : LaneName). Fences ranks log m (part m log) x.event) (same_lane_true x.lane (main_of q) e) l.0.fences) h
      go h false e = h

  keep_step : (log : List Mark) (es : List Event) (e : Event) → Fences ranks log (main_of q) es e → Entered es → (f p : ℕ) (row : Row) → row_of f p es ≡ Some row → row_of f p (e ∷ es) ≡ Some row
  keep_step log es (ReadSent v e o) a h f p row i = pick ((e == f) && (o == p)) refl
    where
      pick : (b : Bool) → ((e == f) && (o == p)) ≡ b → (if b then Some (row_after v (readings es)) else row_of f p es) ≡ Some row
      pick true t =
          let parts = and_parts (e == f) (o == p) t in
          let is = h.inside e a.1.2 in
          let number = a.2 in
          let same = eqb-true e f parts.0 in
          let last = eqb-true o p parts.1 in
          ⊎_elim (λ b. absurd (omega (arith, b))) (λ c. absurd (omega (arith, c.1))) (h.past f p row i)
      pick false t = i
  keep_step log es _ a h f p row i = i

  -- the row of a pass that is complete stays as the list grows
  pub row_kept : (more log : List Mark) → Legal ranks workers (more ++ log) → (f p : ℕ) (row : Row) → row_of f p (part (main_of q) log) ≡ Some row → row_of f p (part (main_of q) (more ++ log)) ≡ Some row
  row_kept [] log l f p row i = i
  row_kept (x ∷ more) log l f p row i = go (entered (more ++ log) l.1) (row_kept more log l.1 f p row i) (same_lane x.lane (main_of q)) refl
    where
      go : Entered (part (main_of q) (more ++ log)) → row_of f p (part (main_of q) (more ++ log)) ≡ Some row → (b : Bool) → same_lane x.lane (main_of q) ≡ b → row_of f p (if b then x.event ∷ part (main_of q) (more ++ log) else part (main_of q) (more ++ log)) ≡ Some row
      go h i true e = keep_step (more ++ log) (part (main_of q) (more ++ log)) x.event (subst (λ (m : LaneName). Fences ranks (more ++ log) m (part m (more ++ log)) x.event) (same_lane_true x.lane (main_of q) e) l.0.fences) h f p row i
      go h i false e = i

  inside_step : (log : List Mark) (es : List Event) (e : Event) (f : ℕ) → Fences ranks log (main_of q) es e → has_receipt f log ≡ false → fence_in es ≡ Some f → fence_in (e ∷ es) ≡ Some f
  inside_step log es (Enter e) f a lacks i = let out = a.2 in absurd (cc)
  inside_step log es (Leave e) f a lacks i =
      let in_it = a.0.2 in
      let same : e ≡ f = cc in
      absurd (both_ways (has_receipt f log) lacks (subst (λ (z : ℕ). has_receipt z log ≡ true) same a.1))
  inside_step log es _ f a lacks i = i

  -- a main stays in a fence until it has its receipt
  pub stays_inside : (f : ℕ) (more log : List Mark) → Legal ranks workers (more ++ log) → has_receipt f (more ++ log) ≡ false → fence_in (part (main_of q) log) ≡ Some f → fence_in (part (main_of q) (more ++ log)) ≡ Some f
  stays_inside f [] log l lacks i = i
  stays_inside f (x ∷ more) log l lacks i =
      let before = (or_parts (is_receipt f x.event) (has_receipt f (more ++ log)) lacks).1 in
      go before (stays_inside f more log l.1 before i) (same_lane x.lane (main_of q)) refl
    where
      go : has_receipt f (more ++ log) ≡ false → fence_in (part (main_of q) (more ++ log)) ≡ Some f → (b : Bool) → same_lane x.lane (main_of q) ≡ b → fence_in (if b then x.event ∷ part (main_of q) (more ++ log) else part (main_of q) (more ++ log)) ≡ Some f
      go none h true e = inside_step (more ++ log) (part (main_of q) (more ++ log)) x.event f (subst (λ (m : LaneName). Fences ranks (more ++ log) m (part m (more ++ log)) x.event) (same_lane_true x.lane (main_of q) e) l.0.fences) none h
      go none h false e = h
