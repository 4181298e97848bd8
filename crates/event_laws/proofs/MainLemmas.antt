-- What a main has done of its program, by the fences that it entered.
use Rattle.std.proofs.Common.{◌≡◌, ℕ, zero, suc, ◌+◌, ◌<◌, ◌≤◌, Bool, true, false, List, [], ◌∷◌, ◌++◌, refl, sym, ap, ◌∙◌, subst, ⊎_elim, arith}
use Rattle.std.specs.Prelude.{if◌then◌else◌, Option, Some, None, take, slice_get}
use Rattle.std.proofs.lemmas.Bool.{cases_lt}
use Rattle.app_core.specs.declared.outline.Outline.{Outline}
use Rattle.event_lists.specs.declared.lane.LaneName.{LaneName}
use Rattle.event_lists.specs.declared.event.Event.{Event}
use Rattle.event_lists.specs.declared.event.Event.TheVariants.{Sent, TookMessage, TookTask, Handled, Submitted, Ran, Gave, Put, Erased, ReadHandled, ReadRan, ReadSubmitted, ReadSent, Enter, Leave, Receipt as Receives}
use Rattle.event_lists.specs.declared.mark.Item.{Item}
use Rattle.event_lists.specs.declared.mark.Mark.{Mark}
use Rattle.event_lists.specs.Events.{part, same_lane, main_of, in_hand, Begins}
use Rattle.event_lists.specs.Fences.{Fences, fence_in, enters}
use Rattle.event_lists.specs.Legal.{Legal}
use Rattle.event_lists.proofs.LaneLemmas.{same_lane_true}
use Rattle.event_lists.proofs.ListLemmas.{begins_refl, begins_more}
use Rattle.event_laws.specs.Follows.{TaskEffects, Doing, Start, Wait, FollowsBy, Goes, Acts, Says, waits, program_at, is_done, deeds}
use Rattle.event_laws.specs.Stages.{fences_in}

-- of the doings before a place, one more
pub before_start : (ds : List Doing) (k : ℕ) (o : Outline) → slice_get ds k ≡ Some (Start o) → fences_in (take (suc k) ds) ≡ fences_in (take k ds)
before_start [] k o e = absurd (cc)
before_start (Wait ∷ ds) zero o e = absurd (let a : Wait ≡ Start o = cc in cc)
before_start (Start p ∷ ds) zero o e = refl
before_start (Wait ∷ ds) (suc k) o e = ap suc (before_start ds k o e)
before_start (Start p ∷ ds) (suc k) o e = before_start ds k o e

pub before_wait : (ds : List Doing) (k : ℕ) → slice_get ds k ≡ Some Wait → fences_in (take (suc k) ds) ≡ suc (fences_in (take k ds))
before_wait [] k e = absurd (cc)
before_wait (Wait ∷ ds) zero e = refl
before_wait (Start p ∷ ds) zero e = absurd (let a : Start p ≡ Wait = cc in cc)
before_wait (Wait ∷ ds) (suc k) e = ap suc (before_wait ds k e)
before_wait (Start p ∷ ds) (suc k) e = before_wait ds k e

pub fences_grow : (ds : List Doing) (j k : ℕ) → j ≤ k → fences_in (take j ds) ≤ fences_in (take k ds)
fences_grow ds zero k le = omega arith
fences_grow [] (suc j) k le = omega arith
fences_grow ds (suc j) zero le = absurd (omega (arith, le))
fences_grow (Wait ∷ ds) (suc j) (suc k) le = omega (arith, fences_grow ds j k (omega (arith, le)))
fences_grow (Start p ∷ ds) (suc j) (suc k) le = fences_grow ds j k (omega (arith, le))

-- only rank 0's main starts
pub no_starts : (ds : List Doing) (k : ℕ) (o : Outline) → slice_get (waits ds) k ≡ Some (Start o) → ⊥
no_starts [] k o e = cc
no_starts (Start p ∷ ds) k o e = no_starts ds k o e
no_starts (Wait ∷ ds) zero o e = let a : Wait ≡ Start o = cc in cc
no_starts (Wait ∷ ds) (suc k) o e = no_starts ds k o e

-- what a main's place in its program, the fence that it is in and the number of fences that it entered have to do with
-- each other
abbrev pub Placed : List Doing → Option ℕ → ℕ → ℕ → Type 0
Placed ds None k n = n ≡ fences_in (take k ds)
Placed ds (Some f) k n = (slice_get ds k ≡ Some Wait) × (f ≡ n) × (n ≡ suc (fences_in (take k ds)))

abbrev one_if : Bool → ℕ
one_if b = if b then 1 else 0

undone : (b : Bool) (k : ℕ) → b ≡ false → k ≡ one_if b + k
undone true k e = absurd (cc)
undone false k e = omega arith

did : (b : Bool) (k : ℕ) → b ≡ true → suc k ≡ one_if b + k
did true k e = omega arith
did false k e = absurd (cc)

module _ (ranks workers : ℕ) (program : List Doing) (task_effects : TaskEffects) (r : ℕ) where
  abbrev IsPlaced : List Event → Type 0
  IsPlaced mine = Placed (program_at r program) (fence_in mine) (deeds mine) (enters mine)

  -- an event that ends nothing that a main does
  stays : (e : Event) (mine : List Event) → is_done (in_hand mine) e ≡ false → fence_in (e ∷ mine) ≡ fence_in mine → enters (e ∷ mine) ≡ enters mine → IsPlaced mine → IsPlaced (e ∷ mine)
  stays e mine d f n p =
      subst (λ (z : ℕ). Placed (program_at r program) (fence_in (e ∷ mine)) z (enters (e ∷ mine))) (undone (is_done (in_hand mine) e) (deeds mine) d)
      (subst (λ (z : Option ℕ). Placed (program_at r program) z (deeds mine) (enters (e ∷ mine))) (sym f)
      (subst (λ (z : ℕ). Placed (program_at r program) (fence_in mine) (deeds mine) z) (sym n) p))

  starts : (log : List Mark) (x : Mark) (e : Event) (mine : List Event) → x.lane.rank ≡ r → (o : Option Item) → in_hand mine ≡ o → is_done None e ≡ true → ((c : Item) → is_done (Some c) e ≡ false)
      → fence_in (e ∷ mine) ≡ fence_in mine → enters (e ∷ mine) ≡ enters mine
      → (in_hand mine ≡ None → fence_in mine ≡ None) → Acts program task_effects log x mine o → IsPlaced mine → IsPlaced (e ∷ mine)
  starts log x e mine rank (Some c) hand d other f n out a p = stays e mine (ap (λ (z : Option Item). is_done z e) hand ∙ other c) f n p
  starts log x e mine rank None hand d other f n out a p =
      let here : slice_get (program_at r program) (deeds mine) ≡ Some (Start a.0) = subst (λ (q : ℕ). slice_get (program_at q program) (deeds mine) ≡ Some (Start a.0)) rank a.1 in
      let before : enters mine ≡ fences_in (take (deeds mine) (program_at r program)) = subst (λ (z : Option ℕ). Placed (program_at r program) z (deeds mine) (enters mine)) (out hand) p in
      subst (λ (z : ℕ). Placed (program_at r program) (fence_in (e ∷ mine)) z (enters (e ∷ mine))) (did (is_done (in_hand mine) e) (deeds mine) (ap (λ (z : Option Item). is_done z e) hand ∙ d))
      (subst (λ (z : Option ℕ). Placed (program_at r program) z (suc (deeds mine)) (enters (e ∷ mine))) (sym (f ∙ out hand))
      (n ∙ before ∙ sym (before_start (program_at r program) (deeds mine) a.0 here)))

  undone_by : (o : Option Item) (e : Event) → is_done None e ≡ false → ((c : Item) → is_done (Some c) e ≡ false) → is_done o e ≡ false
  undone_by None e n s = n
  undone_by (Some c) e n s = s c

  place : (log : List Mark) (x : Mark) (mine : List Event) → x.lane.rank ≡ r → (e : Event) → Goes program task_effects log x mine e → Fences ranks log x.lane mine e → IsPlaced mine → IsPlaced (e ∷ mine)
  place log x mine rank (Sent k to p) g f h = starts log x (Sent k to p) mine rank (in_hand mine) refl refl (λ c. refl) refl refl f g h
  place log x mine rank (Submitted k t) g f h = starts log x (Submitted k t) mine rank (in_hand mine) refl refl (λ c. refl) refl refl f g h
  place log x mine rank (Enter e) g f h =
      let here : slice_get (program_at r program) (deeds mine) ≡ Some Wait = subst (λ (q : ℕ). slice_get (program_at q program) (deeds mine) ≡ Some Wait) rank g.0 in
      let before : enters mine ≡ fences_in (take (deeds mine) (program_at r program)) = subst (λ (z : Option ℕ). Placed (program_at r program) z (deeds mine) (enters mine)) f.2 h in
      subst (λ (z : ℕ). Placed (program_at r program) (Some e) z (suc (enters mine))) (undone (is_done (in_hand mine) (Enter e)) (deeds mine) (undone_by (in_hand mine) (Enter e) refl (λ c. refl)))
      (here, f.3, ap suc before)
  place log x mine rank (Leave e) g f h =
      let inside : Placed (program_at r program) (Some e) (deeds mine) (enters mine) = subst (λ (z : Option ℕ). Placed (program_at r program) z (deeds mine) (enters mine)) f.0.2 h in
      subst (λ (z : ℕ). Placed (program_at r program) None z (enters mine)) (did (is_done (in_hand mine) (Leave e)) (deeds mine) (ap (λ (z : Option Item). is_done z (Leave e)) f.0.1))
      (inside.2 ∙ sym (before_wait (program_at r program) (deeds mine) inside.0))
  place log x mine rank (TookMessage q m) g f h = stays (TookMessage q m) mine (undone_by (in_hand mine) (TookMessage q m) refl (λ c. refl)) refl refl h
  place log x mine rank (TookTask q m) g f h = stays (TookTask q m) mine (undone_by (in_hand mine) (TookTask q m) refl (λ c. refl)) refl refl h
  place log x mine rank (Handled k q m) g f h = stays (Handled k q m) mine (undone_by (in_hand mine) (Handled k q m) refl (λ c. refl)) refl refl h
  place log x mine rank (Ran k q m) g f h = stays (Ran k q m) mine (undone_by (in_hand mine) (Ran k q m) refl (λ c. refl)) refl refl h
  place log x mine rank (Gave d) g f h = stays (Gave d) mine (undone_by (in_hand mine) (Gave d) refl (λ c. refl)) refl refl h
  place log x mine rank (Put c) g f h = stays (Put c) mine (undone_by (in_hand mine) (Put c) refl (λ c. refl)) refl refl h
  place log x mine rank (Erased c) g f h = stays (Erased c) mine (undone_by (in_hand mine) (Erased c) refl (λ c. refl)) refl refl h
  place log x mine rank (ReadHandled v e p) g f h = stays (ReadHandled v e p) mine (undone_by (in_hand mine) (ReadHandled v e p) refl (λ c. refl)) refl refl h
  place log x mine rank (ReadRan v e p) g f h = stays (ReadRan v e p) mine (undone_by (in_hand mine) (ReadRan v e p) refl (λ c. refl)) refl refl h
  place log x mine rank (ReadSubmitted v e p) g f h = stays (ReadSubmitted v e p) mine (undone_by (in_hand mine) (ReadSubmitted v e p) refl (λ c. refl)) refl refl h
  place log x mine rank (ReadSent v e p) g f h = stays (ReadSent v e p) mine (undone_by (in_hand mine) (ReadSent v e p) refl (λ c. refl)) refl refl h
  place log x mine rank (Receives e) g f h = stays (Receives e) mine (undone_by (in_hand mine) (Receives e) refl (λ c. refl)) refl refl h

  pub placed : (log : List Mark) → Legal ranks workers log → FollowsBy program task_effects log → IsPlaced (part (main_of r) log)
  placed [] h f = refl
  placed (x ∷ log) h f = go (placed log h.1 f.1) (same_lane x.lane (main_of r)) refl
    where
      go : IsPlaced (part (main_of r) log) → (b : Bool) → same_lane x.lane (main_of r) ≡ b → IsPlaced (if b then x.event ∷ part (main_of r) log else part (main_of r) log)
      go p true e =
          let same = same_lane_true x.lane (main_of r) e in
          let goes = subst (λ (m : LaneName). Goes program task_effects log x (part m log) x.event) same f.0 in
          let fences = subst (λ (m : LaneName). Fences ranks log x.lane (part m log) x.event) same h.0.fences in
          place log x (part (main_of r) log) (ap (λ (m : LaneName). m.rank) same) x.event goes fences p
      go p false e = p

-- rank 0's main has done the start at place k
pub record Started (k : ℕ) (o : Outline) (log : List Mark) : Type 0 where
  pub x : Mark
  pub before : List Mark
  pub begins : Begins (x ∷ before) log
  pub lane : x.lane ≡ main_of 0
  pub place : k ≡ deeds (part (main_of 0) before)
  pub says : Says 0 o x.event
  pub effect : x.effect ≡ None

started_more : (k : ℕ) (o : Outline) (x : Mark) (log : List Mark) → Started k o log → Started k o (x ∷ log)
started_more k o x log s = record { x = s.x; before = s.before; begins = begins_more (s.x ∷ s.before) log x s.begins; lane = s.lane; place = s.place; says = s.says; effect = s.effect }

-- a start that rank 0's main has done is an event of the list
module _ (ranks workers : ℕ) (program : List Doing) (task_effects : TaskEffects) where
  undone_as : (o : Option Item) (e : Event) → is_done None e ≡ false → ((c : Item) → is_done (Some c) e ≡ false) → is_done o e ≡ true → ⊥
  undone_as None e n s d = let z : false ≡ true = sym n ∙ d in cc
  undone_as (Some c) e n s d = let z : false ≡ true = sym (s c) ∙ d in cc

  acted : (log : List Mark) (x : Mark) → x.lane ≡ main_of 0 → (k : ℕ) (o : Outline) → slice_get program k ≡ Some (Start o) → k ≡ deeds (part (main_of 0) log)
      → (h : Option Item) → Acts program task_effects log x (part x.lane log) h → is_done h x.event ≡ true → ((c : Item) → is_done (Some c) x.event ≡ false) → Started k o (x ∷ log)
  acted log x same k o at here (Some c) a d other = absurd (let z : false ≡ true = sym (other c) ∙ d in cc)
  acted log x same k o at here None a d other =
      let there : slice_get program (deeds (part (main_of 0) log)) ≡ Some (Start a.0) = subst (λ (m : LaneName). slice_get (program_at m.rank program) (deeds (part m log)) ≡ Some (Start a.0)) same a.1 in
      let both : Some (Start a.0) ≡ Some (Start o) = sym there ∙ ap (slice_get program) (sym here) ∙ at in
      let is : a.0 ≡ o = cc in
      record {
        x = x;
        before = log;
        begins = begins_refl (x ∷ log);
        lane = same;
        place = here;
        says = subst (λ (z : Outline). Says 0 z x.event) is (subst (λ (m : LaneName). Says m.rank a.0 x.event) same a.2);
        effect = a.3;
      }

  pub started : (log : List Mark) → Legal ranks workers log → FollowsBy program task_effects log → (k : ℕ) (o : Outline) → slice_get program k ≡ Some (Start o) → k < deeds (part (main_of 0) log) → Started k o log
  started [] h f k o at lt = absurd (omega (arith, lt))
  started (x ∷ log) h f k o at lt = by_lane (λ b. started log h.1 f.1 k o at b) (same_lane x.lane (main_of 0)) refl lt
    where
      earlier : (k < deeds (part (main_of 0) log) → Started k o log) → k < deeds (part (main_of 0) log) → Started k o (x ∷ log)
      earlier rec b = let s = rec b in started_more k o x log s

      now : x.lane ≡ main_of 0 → k ≡ deeds (part (main_of 0) log) → (e : Event) → x.event ≡ e → Goes program task_effects log x (part x.lane log) e → Fences ranks log x.lane (part x.lane log) e → is_done (in_hand (part x.lane log)) e ≡ true → Started k o (x ∷ log)
      now same here (Sent n to p) is g fe d = acted log x same k o at here (in_hand (part x.lane log)) g (ap (is_done (in_hand (part x.lane log))) is ∙ d) (λ c. ap (is_done (Some c)) is)
      now same here (Submitted n t) is g fe d = acted log x same k o at here (in_hand (part x.lane log)) g (ap (is_done (in_hand (part x.lane log))) is ∙ d) (λ c. ap (is_done (Some c)) is)
      now same here (Leave e) is g fe d =
          let inside : fence_in (part (main_of 0) log) ≡ Some e = subst (λ (m : LaneName). fence_in (part m log) ≡ Some e) same fe.0.2 in
          let p : Placed program (Some e) (deeds (part (main_of 0) log)) (enters (part (main_of 0) log)) = subst (λ (z : Option ℕ). Placed program z (deeds (part (main_of 0) log)) (enters (part (main_of 0) log))) inside (placed ranks workers program task_effects 0 log h.1 f.1) in
          let both : Some Wait ≡ Some (Start o) = sym p.0 ∙ ap (slice_get program) (sym here) ∙ at in
          absurd (let z : Wait ≡ Start o = cc in cc)
      now same here (TookMessage q m) is g fe d = absurd (undone_as (in_hand (part x.lane log)) (TookMessage q m) refl (λ c. refl) d)
      now same here (TookTask q m) is g fe d = absurd (undone_as (in_hand (part x.lane log)) (TookTask q m) refl (λ c. refl) d)
      now same here (Handled n q m) is g fe d = absurd (undone_as (in_hand (part x.lane log)) (Handled n q m) refl (λ c. refl) d)
      now same here (Ran n q m) is g fe d = absurd (undone_as (in_hand (part x.lane log)) (Ran n q m) refl (λ c. refl) d)
      now same here (Gave z) is g fe d = absurd (undone_as (in_hand (part x.lane log)) (Gave z) refl (λ c. refl) d)
      now same here (Put z) is g fe d = absurd (undone_as (in_hand (part x.lane log)) (Put z) refl (λ c. refl) d)
      now same here (Erased z) is g fe d = absurd (undone_as (in_hand (part x.lane log)) (Erased z) refl (λ c. refl) d)
      now same here (ReadHandled v e p) is g fe d = absurd (undone_as (in_hand (part x.lane log)) (ReadHandled v e p) refl (λ c. refl) d)
      now same here (ReadRan v e p) is g fe d = absurd (undone_as (in_hand (part x.lane log)) (ReadRan v e p) refl (λ c. refl) d)
      now same here (ReadSubmitted v e p) is g fe d = absurd (undone_as (in_hand (part x.lane log)) (ReadSubmitted v e p) refl (λ c. refl) d)
      now same here (ReadSent v e p) is g fe d = absurd (undone_as (in_hand (part x.lane log)) (ReadSent v e p) refl (λ c. refl) d)
      now same here (Enter z) is g fe d = absurd (undone_as (in_hand (part x.lane log)) (Enter z) refl (λ c. refl) d)
      now same here (Receives z) is g fe d = absurd (undone_as (in_hand (part x.lane log)) (Receives z) refl (λ c. refl) d)

      here : (k < deeds (part (main_of 0) log) → Started k o log) → x.lane ≡ main_of 0 → (b : Bool) → is_done (in_hand (part (main_of 0) log)) x.event ≡ b → k < one_if b + deeds (part (main_of 0) log) → Started k o (x ∷ log)
      here rec same false d lt = earlier rec (omega (arith, lt))
      here rec same true d lt = ⊎_elim
          (λ (b : k < deeds (part (main_of 0) log)). earlier rec b)
          (λ (b : deeds (part (main_of 0) log) ≤ k). now same (omega (arith, b, lt)) x.event refl f.0 h.0.fences (ap (λ (m : LaneName). is_done (in_hand (part m log)) x.event) same ∙ d))
          (cases_lt k (deeds (part (main_of 0) log)))

      by_lane : (k < deeds (part (main_of 0) log) → Started k o log) → (b : Bool) → same_lane x.lane (main_of 0) ≡ b → k < deeds (if b then x.event ∷ part (main_of 0) log else part (main_of 0) log) → Started k o (x ∷ log)
      by_lane rec true e lt = here rec (same_lane_true x.lane (main_of 0) e) (is_done (in_hand (part (main_of 0) log)) x.event) refl lt
      by_lane rec false e lt = earlier rec lt

-- the deeds of a lane only grow
pub deeds_grow : (l : LaneName) (more log : List Mark) → deeds (part l log) ≤ deeds (part l (more ++ log))
deeds_grow l [] log = omega arith
deeds_grow l (x ∷ more) log = step (same_lane x.lane l) (deeds_grow l more log)
  where
    bit : (b : Bool) (n k : ℕ) → n ≤ k → n ≤ one_if b + k
    bit true n k e = omega arith
    bit false n k e = omega arith

    step : (b : Bool) → deeds (part l log) ≤ deeds (part l (more ++ log)) → deeds (part l log) ≤ deeds (if b then x.event ∷ part l (more ++ log) else part l (more ++ log))
    step true e = bit (is_done (in_hand (part l (more ++ log))) x.event) _ _ e
    step false e = e
