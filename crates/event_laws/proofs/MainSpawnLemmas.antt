-- A main spawned with just the dues and needs of the starts that it has done.
use Rattle.std.proofs.Common.{◌≡◌, ℕ, zero, suc, ◌+◌, Bool, true, false, List, [], ◌∷◌, refl, sym, ap, ◌∙◌, subst, arith}
use Rattle.std.specs.Prelude.{if◌then◌else◌, ◌&&◌, ◌||◌, Option, Some, None, take, slice_get}
use Rattle.std.specs.List.{list_any}
use Rattle.std.proofs.lemmas.Bool.{and_parts, both_ways, eq-eqb, ne_eqb, eqb-true, false_from_ne_true}
use Rattle.app_core.specs.declared.label.Label.{Label}
use Rattle.app_core.specs.declared.outline.Outline.{Outline}
use Rattle.app_core.specs.Outlines.{is_due, same_label}
use Rattle.event_lists.specs.declared.lane.LaneName.{LaneName}
use Rattle.event_lists.specs.declared.event.Event.{Event}
use Rattle.event_lists.specs.declared.event.Event.TheVariants.{Sent, Submitted, Leave}
use Rattle.event_lists.specs.declared.event.Parcel.TheVariants.{Unit as Spawned, Give}
use Rattle.event_lists.specs.declared.mark.Item.{Item}
use Rattle.event_lists.specs.declared.mark.Item.TheVariants.{Message, Task}
use Rattle.event_lists.specs.declared.mark.Mark.{Mark}
use Rattle.event_lists.specs.declared.future.Bringer.TheVariants.{Main as main_at}
use Rattle.event_lists.specs.Events.{part, same_lane, main_of, in_hand}
use Rattle.event_lists.specs.Counting.{Counting, MaySpawn, MaySubmit}
use Rattle.event_lists.specs.Fences.{Fences, fence_in, enters}
use Rattle.event_lists.specs.Futures.{bringer, is_bringer, spawned_due, spawned_needs, was_due, was_needed}
use Rattle.event_lists.specs.Legal.{Legal}
use Rattle.event_lists.proofs.LaneLemmas.{same_lane_true, same_lane_refl}
use Rattle.event_laws.specs.Follows.{TaskEffects, Doing, Start, Wait, FollowsBy, Goes, Acts, Says, program_at, is_done, deeds}
use Rattle.event_laws.specs.Mains.{starts_due, starts_need, done_by}
use Rattle.event_laws.proofs.EventEffectLemmas.{submits_is, sends_is, gives_is}
use Rattle.event_laws.proofs.MainLemmas.{Placed, placed}

any_next : {X : Type 0} (p : X → Bool) (xs : List X) (k : ℕ) (x : X) → slice_get xs k ≡ Some x → list_any p (take (suc k) xs) ≡ (p x || list_any p (take k xs))
any_next p [] k x e = absurd (cc)
any_next p (y ∷ xs) zero x e = let same : y ≡ x = cc in ap (λ z. p z || false) same
any_next p (y ∷ xs) (suc k) x e = ap (λ z. p y || z) (any_next p xs k x e) ∙ swap (p y) (p x) (list_any p (take k xs))
  where
    swap : (a b c : Bool) → (a || (b || c)) ≡ (b || (a || c))
    swap true true c = refl
    swap true false c = refl
    swap false b c = refl

-- `spawned` is what is sought of an event, and `starts` the same of a doing
module _ (ranks workers : ℕ) (program : List Doing) (task_effects : TaskEffects) (r : ℕ) (spawned : Event → Bool) (starts : Doing → Bool)
    (waits_none : starts Wait ≡ false) (none_else : (e : Event) → spawned e ≡ true → (is_done None e ≡ true) × ((f : ℕ) → e ≡ Leave f → ⊥))
    (started : (o : Outline) (e : Event) → Says r o e → is_done None e ≡ true → ((f : ℕ) → e ≡ Leave f → ⊥) → spawned e ≡ starts (Start o)) where
  abbrev was : List Mark → Bool
  was [] = false
  was (x ∷ log) = (is_bringer (main_at r) (bringer x.lane.rank (in_hand (part x.lane log))) && spawned x.event) || was log

  abbrev one_if : Bool → ℕ
  one_if b = if b then 1 else 0

  abbrev done : ℕ → Bool
  done k = list_any starts (take k (program_at r program))

  -- an event of the main with nothing in hand
  acted : (log : List Mark) (x : Mark) (mine : List Event) → x.lane.rank ≡ r → Acts program task_effects log x mine None → is_done None x.event ≡ true → ((f : ℕ) → x.event ≡ Leave f → ⊥)
      → (spawned x.event || done (deeds mine)) ≡ done (suc (deeds mine))
  acted log x mine rank a d n =
      let at : slice_get (program_at r program) (deeds mine) ≡ Some (Start a.0) = subst (λ (q : ℕ). slice_get (program_at q program) (deeds mine) ≡ Some (Start a.0)) rank a.1 in
      ap (λ z. z || done (deeds mine)) (started a.0 x.event (subst (λ (q : ℕ). Says q a.0 x.event) rank a.2) d n) ∙ sym (any_next starts (program_at r program) (deeds mine) (Start a.0) at)

  idle : (e : Event) (k : ℕ) → is_done None e ≡ false → (spawned e || done k) ≡ done (one_if (is_done None e) + k)
  idle e k d =
      let none : spawned e ≡ false = false_from_ne_true (spawned e) (λ t. both_ways (is_done None e) d (none_else e t).0) in
      subst (λ (b : Bool). (spawned e || done k) ≡ done (one_if b + k)) (sym d) (ap (λ z. z || done k) none ∙ (let same : k ≡ 0 + k = omega arith in ap done same))

  by_event : (log : List Mark) (x : Mark) (mine : List Event) → x.lane.rank ≡ r → in_hand mine ≡ None → Placed (program_at r program) (fence_in mine) (deeds mine) (enters mine)
      → (e : Event) → x.event ≡ e → Goes program task_effects log x mine e → Fences ranks log x.lane mine e → (spawned e || done (deeds mine)) ≡ done (one_if (is_done None e) + deeds mine)
  by_event log x mine rank hand p (Sent n to q) is g f =
      ap (λ z. spawned z || done (deeds mine)) (sym is) ∙ acted log x mine rank (subst (Acts program task_effects log x mine) hand g) (ap (is_done None) is) (λ k e. let z : Sent n to q ≡ Leave k = sym is ∙ e in cc) ∙ (let one : suc (deeds mine) ≡ 1 + deeds mine = omega arith in ap done one)
  by_event log x mine rank hand p (Submitted n t) is g f =
      ap (λ z. spawned z || done (deeds mine)) (sym is) ∙ acted log x mine rank (subst (Acts program task_effects log x mine) hand g) (ap (is_done None) is) (λ k e. let z : Submitted n t ≡ Leave k = sym is ∙ e in cc) ∙ (let one : suc (deeds mine) ≡ 1 + deeds mine = omega arith in ap done one)
  by_event log x mine rank hand p (Leave k) is g f =
      let inside : Placed (program_at r program) (Some k) (deeds mine) (enters mine) = subst (λ (z : Option ℕ). Placed (program_at r program) z (deeds mine) (enters mine)) f.0.2 p in
      let none : spawned (Leave k) ≡ false = false_from_ne_true (spawned (Leave k)) (λ t. (none_else (Leave k) t).1 k refl) in
      ap (λ z. z || done (deeds mine)) none ∙ sym (any_next starts (program_at r program) (deeds mine) Wait inside.0 ∙ ap (λ z. z || done (deeds mine)) waits_none) ∙ (let one : suc (deeds mine) ≡ 1 + deeds mine = omega arith in ap done one)
  by_event log x mine rank hand p e is g f = idle e (deeds mine) refl

  by_hand : (log : List Mark) (x : Mark) (mine : List Event) → x.lane.rank ≡ r → Placed (program_at r program) (fence_in mine) (deeds mine) (enters mine) → Goes program task_effects log x mine x.event → Fences ranks log x.lane mine x.event
      → (h : Option Item) → in_hand mine ≡ h → ((is_bringer (main_at r) (bringer r h) && spawned x.event) || done (deeds mine)) ≡ done (one_if (is_done h x.event) + deeds mine)
  by_hand log x mine rank p g f None hand =
      ap (λ (b : Bool). (b && spawned x.event) || done (deeds mine)) (eq-eqb r r refl) ∙ by_event log x mine rank hand p x.event refl g f
  by_hand log x mine rank p g f (Some (Message q n)) hand = ap done (other x.event (Message q n))
    where
      other : (e : Event) (c : Item) → deeds mine ≡ one_if (is_done (Some c) e) + deeds mine
      other (Sent n to q) c = omega arith
      other e c = omega arith
  by_hand log x mine rank p g f (Some (Task q n)) hand = ap done (other x.event (Task q n))
    where
      other : (e : Event) (c : Item) → deeds mine ≡ one_if (is_done (Some c) e) + deeds mine
      other (Sent n to q) c = omega arith
      other e c = omega arith

  -- a lane that spawns for the main is the main's
  spawns_on_main : (log : List Mark) (l : LaneName) (mine : List Event) (e : Event) → Counting ranks log l mine e → spawned e ≡ true → is_bringer (main_at r) (bringer l.rank (in_hand mine)) ≡ true → l ≡ main_of r
  spawns_on_main log l mine e c t b = at_hand (in_hand mine) (may e c t) b
    where
      may : (e : Event) → Counting ranks log l mine e → spawned e ≡ true → MaySubmit l (in_hand mine)
      may (Sent n to p) c t = spawn (in_hand mine) c.1
        where
          spawn : (h : Option Item) → MaySpawn l h → MaySubmit l h
          spawn None m = m
          spawn (Some (Task q k)) m = tt
          spawn (Some (Message q k)) m = tt
      may (Submitted n w) c t = c.1
      may (Leave k) c t = absurd ((none_else (Leave k) t).1 k refl)
      may e c t = absurd (let z = (none_else e t).0 in cc)

      at_hand : (h : Option Item) → MaySubmit l h → is_bringer (main_at r) (bringer l.rank h) ≡ true → l ≡ main_of r
      at_hand None m b = m ∙ ap main_of (sym (eqb-true r l.rank b))
      at_hand (Some (Task q k)) m b = absurd (cc)
      at_hand (Some (Message q k)) m b = absurd (cc)

  pub was_is_done : (log : List Mark) → Legal ranks workers log → FollowsBy program task_effects log → was log ≡ done (deeds (part (main_of r) log))
  was_is_done [] h f = refl
  was_is_done (x ∷ log) h f = by_lane (was_is_done log h.1 f.1) (same_lane x.lane (main_of r)) refl
    where
      mine : List Event
      mine = part (main_of r) log

      by_lane : was log ≡ done (deeds mine) → (b : Bool) → same_lane x.lane (main_of r) ≡ b
          → ((is_bringer (main_at r) (bringer x.lane.rank (in_hand (part x.lane log))) && spawned x.event) || was log) ≡ done (deeds (if b then x.event ∷ mine else mine))
      by_lane rest true e =
          let same = same_lane_true x.lane (main_of r) e in
          let goes = subst (λ (m : LaneName). Goes program task_effects log x (part m log) x.event) same f.0 in
          let fences = subst (λ (m : LaneName). Fences ranks log x.lane (part m log) x.event) same h.0.fences in
          ap (λ (m : LaneName). (is_bringer (main_at r) (bringer m.rank (in_hand (part m log))) && spawned x.event) || was log) same
          ∙ ap (λ z. (is_bringer (main_at r) (bringer r (in_hand mine)) && spawned x.event) || z) rest
          ∙ by_hand log x mine (ap (λ (m : LaneName). m.rank) same) (placed ranks workers program task_effects r log h.1 f.1) goes fences (in_hand mine) refl
      by_lane rest false e =
          let none : (is_bringer (main_at r) (bringer x.lane.rank (in_hand (part x.lane log))) && spawned x.event) ≡ false = false_from_ne_true _ (λ t.
          let p = and_parts (is_bringer (main_at r) (bringer x.lane.rank (in_hand (part x.lane log)))) (spawned x.event) t in
          let there = spawns_on_main log x.lane (part x.lane log) x.event h.0.counting p.1 p.0 in
          both_ways (same_lane x.lane (main_of r)) e (subst (λ (m : LaneName). same_lane x.lane m ≡ true) there (same_lane_refl x.lane))) in
          ap (λ z. z || was log) none ∙ rest

due_else : (d : Label) (e : Event) → is_due d (spawned_due e) ≡ true → (is_done None e ≡ true) × ((f : ℕ) → e ≡ Leave f → ⊥)
due_else d (Sent n to (Spawned u o)) t = (refl, λ f i. cc)
due_else d (Submitted n w) t = (refl, λ f i. cc)
due_else d e t = absurd (cc)

need_else : (d : Label) (e : Event) → list_any (λ m. same_label d m) (spawned_needs e) ≡ true → (is_done None e ≡ true) × ((f : ℕ) → e ≡ Leave f → ⊥)
need_else d (Submitted n w) t = (refl, λ f i. cc)
need_else d e t = absurd (cc)

due_started : (r : ℕ) (d : Label) (o : Outline) (e : Event) → Says r o e → is_done None e ≡ true → ((f : ℕ) → e ≡ Leave f → ⊥) → is_due d (spawned_due e) ≡ starts_due d (Start o)
due_started r d o (Sent n to (Spawned u w)) says i l = let s = sends_is r o n to u w says in ap (λ (z : Outline). starts_due d (Start z)) (sym s.1)
due_started r d o (Sent n to (Give f)) says i l = ap (λ (z : Outline). starts_due d (Start z)) (sym (gives_is r o n to f says))
due_started r d o (Submitted n t) says i l = ap (λ (z : Outline). starts_due d (Start z)) (sym (submits_is r o n t says))
due_started r d o (Leave f) says i l = absurd (l f refl)
due_started r d o e says i l = absurd (cc)

need_started : (r : ℕ) (d : Label) (o : Outline) (e : Event) → Says r o e → is_done None e ≡ true → ((f : ℕ) → e ≡ Leave f → ⊥) → list_any (λ m. same_label d m) (spawned_needs e) ≡ starts_need r d (Start o)
need_started r d o (Sent n to (Spawned u w)) says i l =
    let s = sends_is r o n to u w says in
    sym (ap (λ (z : Outline). starts_need r d (Start z)) s.1 ∙ ap (λ (b : Bool). b && list_any (λ m. same_label d m) s.0) (ne_eqb to r s.2))
need_started r d o (Sent n to (Give f)) says i l = ap (λ (z : Outline). starts_need r d (Start z)) (sym (gives_is r o n to f says))
need_started r d o (Submitted n t) says i l =
    sym (ap (λ (z : Outline). starts_need r d (Start z)) (submits_is r o n t says) ∙ ap (λ (b : Bool). b && list_any (λ m. same_label d m) t.needs) (eq-eqb r r refl))
need_started r d o (Leave f) says i l = absurd (l f refl)
need_started r d o e says i l = absurd (cc)

module _ (ranks workers : ℕ) (program : List Doing) (task_effects : TaskEffects) (log : List Mark) (legal : Legal ranks workers log) (follows : FollowsBy program task_effects log) (r : ℕ) (d : Label) where
  pub dues_are_starts : was_due (main_at r) d log ≡ list_any (starts_due d) (done_by r program log)
  dues_are_starts = was_same log ∙ was_is_done ranks workers program task_effects r (λ e. is_due d (spawned_due e)) (starts_due d) refl (due_else d) (due_started r d) log legal follows
    where
      was_same : (xs : List Mark) → was_due (main_at r) d xs ≡ was ranks workers program task_effects r (λ e. is_due d (spawned_due e)) (starts_due d) refl (due_else d) (due_started r d) xs
      was_same [] = refl
      was_same (x ∷ xs) = ap (λ z. (is_bringer (main_at r) (bringer x.lane.rank (in_hand (part x.lane xs))) && is_due d (spawned_due x.event)) || z) (was_same xs)

  pub needs_are_starts : was_needed (main_at r) d log ≡ list_any (starts_need r d) (done_by r program log)
  needs_are_starts = was_same log ∙ was_is_done ranks workers program task_effects r (λ e. list_any (λ m. same_label d m) (spawned_needs e)) (starts_need r d) refl (need_else d) (need_started r d) log legal follows
    where
      was_same : (xs : List Mark) → was_needed (main_at r) d xs ≡ was ranks workers program task_effects r (λ e. list_any (λ m. same_label d m) (spawned_needs e)) (starts_need r d) refl (need_else d) (need_started r d) xs
      was_same [] = refl
      was_same (x ∷ xs) = ap (λ z. (is_bringer (main_at r) (bringer x.lane.rank (in_hand (part x.lane xs))) && list_any (λ m. same_label d m) (spawned_needs x.event)) || z) (was_same xs)
