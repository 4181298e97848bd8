-- Lemmas that crates above use: what a lane's own events and what it has seen tell of the whole list.
use Rattle.std.proofs.Common.{◌≡◌, ℕ, ◌≤◌, Bool, true, false, List, [], ◌∷◌, refl, sym, ap, ◌∙◌, subst, inl, inr, ⊎_elim, arith}
use Rattle.std.specs.Prelude.{Option, Some, None, if◌then◌else◌, ◌&&◌, ◌||◌, ◌↔◌}
use Rattle.std.specs.List.{list_any}
use Rattle.std.proofs.lemmas.Bool.{and_parts, both_ways, false_from_ne_true}
use Rattle.app_core.specs.declared.label.Label.{Label}
use Rattle.app_core.specs.Outlines.{is_due, same_label}
use Rattle.event_lists.specs.declared.lane.LaneName.{LaneName}
use Rattle.event_lists.specs.declared.event.Event.{Event}
use Rattle.event_lists.specs.declared.event.Event.TheVariants.{Sent, TookTask, Handled, Submitted, Ran, Gave, ReadHandled, ReadRan, ReadSubmitted, ReadSent, Enter, Leave, Receipt as Receives}
use Rattle.event_lists.specs.declared.event.Parcel.{Parcel}
use Rattle.event_lists.specs.declared.event.Parcel.TheVariants.{Unit as Spawned, Give}
use Rattle.event_lists.specs.declared.event.TaskName.{TaskName}
use Rattle.event_lists.specs.declared.mark.Item.{Item}
use Rattle.event_lists.specs.declared.mark.Item.TheVariants.{Message, Task}
use Rattle.event_lists.specs.declared.mark.Mark.{Mark}
use Rattle.event_lists.specs.declared.kind.Kind.{Kind}
use Rattle.event_lists.specs.declared.kind.Kind.TheVariants.{Sends as sends, Handlings as handlings, Submissions as submissions, Runs as runs}
use Rattle.event_lists.specs.declared.future.Future.{Future}
use Rattle.event_lists.specs.declared.future.Bringer.{Bringer}
use Rattle.event_lists.specs.declared.future.Bringer.TheVariants.{Task as task_of, Main as main_at}
use Rattle.event_lists.specs.Events.{same_lane, main_of, part, Begins, count, in_hand, makes, times_made}
use Rattle.event_lists.specs.Counting.{Counting, MaySpawn, MaySubmit}
use Rattle.event_lists.specs.Dues.{Dues, WasNoDue, DueIsFree, WasNotNeeded, NeedsAreFree, Carries, KeepsDue, SubmitsFreely, HasPassedOn, NeedsAreDues}
use Rattle.event_lists.specs.Fences.{Fences, Reads, readings}
use Rattle.event_lists.specs.Futures.{bringer, is_bringer, is_own as has_label, spawned_due, spawned_needs, own_due, needs_of, was_due, was_needed, times_given, IsIn}
use Rattle.event_lists.specs.Legal.{Legal, May}
use Rattle.event_lists.specs.OwnEvents.{SeesItsOwn, SpawnsFor, was_due_on_lane, was_needed_on_lane, NeedsAreDuesOnLane, HandAllows, is_reading, reading_event, IsNextReading, IsTakenOn}
use Rattle.event_lists.proofs.LaneLemmas.{same_lane_true, same_lane_refl}
use Rattle.event_lists.proofs.ListLemmas.{legal_begins, begins_refl, begins_tail, on_begins}
use Rattle.event_lists.proofs.ItemLemmas.{took_fresh, one_taker}
use Rattle.event_lists.proofs.HandLemmas.{hand_made, hand_taken_on}
use Rattle.event_lists.proofs.FutureLemmas.{same_bringer_true, same_bringer_refl, gives_last, needs_last, due_lasts}
use Rattle.event_lists.proofs.FenceLemmas.{receipt_lasts, receivable_lasts, order_lasts, no_receipt_lasts}

-- an item that was taken on a lane stays so
taken_on_lasts : (old log : List Mark) → Begins old log → (l : LaneName) (c : Item) → IsTakenOn l c old → IsTakenOn l c log
taken_on_lasts old log b l c (e, t, s) = (e, t, on_begins l e old log b s)

-- the spawns of a bringer are on the lane that spawns for it
spawn_on : (ranks workers : ℕ) (end : List Mark) → Legal ranks workers end → (l : LaneName) (b : Bringer) → SpawnsFor l (in_hand (part l end)) b
    → (x : Mark) (at : List Mark) → Begins (x ∷ at) end → MaySpawn x.lane (in_hand (part x.lane at)) → is_bringer b (bringer x.lane.rank (in_hand (part x.lane at))) ≡ true → x.lane ≡ l
spawn_on ranks workers end legal l b spawns x at beg may is = go (in_hand (part x.lane at)) refl may is (in_hand (part l end)) refl spawns
  where
    go : (h : Option Item) → in_hand (part x.lane at) ≡ h → MaySpawn x.lane h → is_bringer b (bringer x.lane.rank h) ≡ true → (k : Option Item) → in_hand (part l end) ≡ k → SpawnsFor l k b → x.lane ≡ l
    go None i m t None j s =
        let b_is = same_bringer_true b (main_at x.lane.rank) t in
        let e : Some (main_at l.rank) ≡ Some (main_at x.lane.rank) = s.1 ∙ ap Some b_is in
        let same : l.rank ≡ x.lane.rank = cc in
        m ∙ ap main_of (sym same) ∙ sym s.0
    go None i m t (Some (Task r n)) j s =
        let b_is = same_bringer_true b (main_at x.lane.rank) t in
        let e : Some (task_of r n) ≡ Some (main_at x.lane.rank) = s.1 ∙ ap Some b_is in
        absurd (cc)
    go (Some (Task q m)) i may t None j s =
        let b_is = same_bringer_true b (task_of q m) t in
        let e : Some (main_at l.rank) ≡ Some (task_of q m) = s.1 ∙ ap Some b_is in
        absurd (cc)
    go (Some (Task q m)) i may t (Some (Task r n)) j s =
        let b_is = same_bringer_true b (task_of q m) t in
        let e : Some (task_of r n) ≡ Some (task_of q m) = s.1 ∙ ap Some b_is in
        let rank : q ≡ r = cc in
        let number : m ≡ n = cc in
        let same : Task q m ≡ Task r n = λ z. Task (rank z) (number z) in
        let there = taken_on_lasts at end (begins_tail x at end beg) x.lane (Task q m) (hand_taken_on x.lane at (Task q m) i) in
        one_taker ranks workers end legal x.lane l (Task r n) (subst (λ (c : Item). IsTakenOn x.lane c end) same there) (hand_taken_on l end (Task r n) j)
    go h i m t (Some (Message r n)) j s = absurd s.0
    go (Some (Message q m)) i may t k j s = absurd may

submit_spawns : (l : LaneName) (b : Bringer) (h : Option Item) → MaySubmit l h → is_bringer b (bringer l.rank h) ≡ true → MaySpawn l h
submit_spawns l b None m t = m
submit_spawns l b (Some (Task r n)) m t = m
submit_spawns l b (Some (Message r n)) m t = absurd (cc)

due_spawns : (ranks : ℕ) (log : List Mark) (l : LaneName) (mine : List Event) (e : Event) (b : Bringer) (d : Label) → Counting ranks log l mine e → is_bringer b (bringer l.rank (in_hand mine)) ≡ true → is_due d (spawned_due e) ≡ true → MaySpawn l (in_hand mine)
due_spawns ranks log l mine (Sent n to (Spawned u o)) b d a t i = a.1
due_spawns ranks log l mine (Submitted n w) b d a t i = submit_spawns l b (in_hand mine) a.1 t
due_spawns ranks log l mine e b d a t i = absurd (cc)

need_spawns : (ranks : ℕ) (log : List Mark) (l : LaneName) (mine : List Event) (e : Event) (b : Bringer) (d : Label) → Counting ranks log l mine e → is_bringer b (bringer l.rank (in_hand mine)) ≡ true → list_any (λ m. same_label d m) (spawned_needs e) ≡ true → MaySpawn l (in_hand mine)
need_spawns ranks log l mine (Submitted n w) b d a t i = submit_spawns l b (in_hand mine) a.1 t
need_spawns ranks log l mine e b d a t i = absurd (cc)

module _ (ranks workers : ℕ) (end : List Mark) (legal : Legal ranks workers end) (l : LaneName) (b : Bringer) (spawns : SpawnsFor l (in_hand (part l end)) b) (d : Label) where
  -- the dues and the needs with which a bringer spawned are found on its lane, at every beginning of the list
  pub own_dues : (at : List Mark) → Begins at end → was_due b d at ≡ was_due_on_lane l.rank b d (part l at)
  own_dues [] beg = refl
  own_dues (x ∷ at) beg = go (own_dues at (begins_tail x at end beg)) (same_lane x.lane l) refl
    where
      may : May ranks workers at x
      may = (legal_begins ranks workers (x ∷ at) end beg legal).0

      go : was_due b d at ≡ was_due_on_lane l.rank b d (part l at) → (t : Bool) → same_lane x.lane l ≡ t
          → ((is_bringer b (bringer x.lane.rank (in_hand (part x.lane at))) && is_due d (spawned_due x.event)) || was_due b d at) ≡ was_due_on_lane l.rank b d (if t then x.event ∷ part l at else part l at)
      go rest true e = let s = same_lane_true x.lane l e in λ i. (is_bringer b (bringer (s i).rank (in_hand (part (s i) at))) && is_due d (spawned_due x.event)) || rest i
      go rest false e =
          let none : (is_bringer b (bringer x.lane.rank (in_hand (part x.lane at))) && is_due d (spawned_due x.event)) ≡ false = false_from_ne_true _ (λ t.
          let p = and_parts (is_bringer b (bringer x.lane.rank (in_hand (part x.lane at)))) (is_due d (spawned_due x.event)) t in
          let there = spawn_on ranks workers end legal l b spawns x at beg (due_spawns ranks at x.lane (part x.lane at) x.event b d may.counting p.0 p.1) p.0 in
          both_ways (same_lane x.lane l) e (subst (λ (m : LaneName). same_lane x.lane m ≡ true) there (same_lane_refl x.lane))) in
          ap (λ z. z || was_due b d at) none ∙ rest

  pub own_needs : (at : List Mark) → Begins at end → was_needed b d at ≡ was_needed_on_lane l.rank b d (part l at)
  own_needs [] beg = refl
  own_needs (x ∷ at) beg = go (own_needs at (begins_tail x at end beg)) (same_lane x.lane l) refl
    where
      may : May ranks workers at x
      may = (legal_begins ranks workers (x ∷ at) end beg legal).0

      go : was_needed b d at ≡ was_needed_on_lane l.rank b d (part l at) → (t : Bool) → same_lane x.lane l ≡ t
          → ((is_bringer b (bringer x.lane.rank (in_hand (part x.lane at))) && list_any (λ m. same_label d m) (spawned_needs x.event)) || was_needed b d at) ≡ was_needed_on_lane l.rank b d (if t then x.event ∷ part l at else part l at)
      go rest true e = let s = same_lane_true x.lane l e in λ i. (is_bringer b (bringer (s i).rank (in_hand (part (s i) at))) && list_any (λ m. same_label d m) (spawned_needs x.event)) || rest i
      go rest false e =
          let none : (is_bringer b (bringer x.lane.rank (in_hand (part x.lane at))) && list_any (λ m. same_label d m) (spawned_needs x.event)) ≡ false = false_from_ne_true _ (λ t.
          let p = and_parts (is_bringer b (bringer x.lane.rank (in_hand (part x.lane at)))) (list_any (λ m. same_label d m) (spawned_needs x.event)) t in
          let there = spawn_on ranks workers end legal l b spawns x at beg (need_spawns ranks at x.lane (part x.lane at) x.event b d may.counting p.0 p.1) p.0 in
          both_ways (same_lane x.lane l) e (subst (λ (m : LaneName). same_lane x.lane m ≡ true) there (same_lane_refl x.lane))) in
          ap (λ z. z || was_needed b d at) none ∙ rest

-- what the lane's own events decide of dues and needs
module _ (ranks workers : ℕ) (seen : List Mark) (legal : Legal ranks workers seen) (l : LaneName) (b : Bringer) (spawns : SpawnsFor l (in_hand (part l seen)) b) where
  pub due_here : (d : Label) → was_due b d seen ≡ was_due_on_lane l.rank b d (part l seen)
  due_here d = own_dues ranks workers seen legal l b spawns d seen (begins_refl seen)

  pub need_here : (d : Label) → was_needed b d seen ≡ was_needed_on_lane l.rank b d (part l seen)
  need_here d = own_needs ranks workers seen legal l b spawns d seen (begins_refl seen)

  pub needs_dues_here : NeedsAreDuesOnLane l.rank b (part l seen) ↔ NeedsAreDues b seen
  needs_dues_here = ((λ n d t. due_here d ∙ n d (sym (need_here d) ∙ t)), (λ n d t. sym (due_here d) ∙ n d (need_here d ∙ t)))

module _ (ranks workers : ℕ) (seen log : List Mark) (legal : Legal ranks workers log) (l : LaneName) (mine : List Event) (sees : SeesItsOwn seen log l mine) where
  seen_legal : Legal ranks workers seen
  seen_legal = legal_begins ranks workers seen log sees.begins legal

  -- what the lane has seen of dues and needs holds of the whole list
  pub own_due_lasts : own_due (in_hand mine) log ≡ own_due (in_hand mine) seen
  own_due_lasts = go (in_hand mine) refl
    where
      go : (h : Option Item) → in_hand mine ≡ h → own_due h log ≡ own_due h seen
      go None i = refl
      go (Some c) i = due_lasts ranks workers seen log legal sees.begins c (hand_made ranks workers seen seen_legal l c (ap in_hand sees.own ∙ i))

  own_due_of : (h : Option Item) → in_hand mine ≡ h → own_due h log ≡ own_due h seen
  own_due_of h i = subst (λ (k : Option Item). own_due k log ≡ own_due k seen) i own_due_lasts

  pub was_due_lasts : (b : Bringer) (d : Label) → SpawnsFor l (in_hand mine) b → was_due b d log ≡ was_due b d seen
  was_due_lasts b d s =
      let here = subst (λ (es : List Event). SpawnsFor l (in_hand es) b) (sym sees.whole) s in
      own_dues ranks workers log legal l b here d log (begins_refl log) ∙ ap (was_due_on_lane l.rank b d) (sees.whole ∙ sym sees.own) ∙ sym (own_dues ranks workers log legal l b here d seen sees.begins)

  pub was_needed_lasts : (b : Bringer) (d : Label) → SpawnsFor l (in_hand mine) b → was_needed b d log ≡ was_needed b d seen
  was_needed_lasts b d s =
      let here = subst (λ (es : List Event). SpawnsFor l (in_hand es) b) (sym sees.whole) s in
      own_needs ranks workers log legal l b here d log (begins_refl log) ∙ ap (was_needed_on_lane l.rank b d) (sees.whole ∙ sym sees.own) ∙ sym (own_needs ranks workers log legal l b here d seen sees.begins)

  no_due_lasts : (h : Option Item) → in_hand mine ≡ h → MaySpawn l h → (d : Label) → WasNoDue (bringer l.rank h) d seen → WasNoDue (bringer l.rank h) d log
  no_due_lasts None i m d w = was_due_lasts (main_at l.rank) d (subst (λ (h : Option Item). SpawnsFor l h (main_at l.rank)) (sym i) (m, refl)) ∙ w
  no_due_lasts (Some (Task r n)) i m d w = was_due_lasts (task_of r n) d (subst (λ (h : Option Item). SpawnsFor l h (task_of r n)) (sym i) (m, refl)) ∙ w
  no_due_lasts (Some (Message r n)) i m d w = absurd m

  no_need_lasts : (h : Option Item) → in_hand mine ≡ h → MaySpawn l h → (d : Label) → WasNotNeeded (bringer l.rank h) d seen → WasNotNeeded (bringer l.rank h) d log
  no_need_lasts None i m d w = was_needed_lasts (main_at l.rank) d (subst (λ (h : Option Item). SpawnsFor l h (main_at l.rank)) (sym i) (m, refl)) ∙ w
  no_need_lasts (Some (Task r n)) i m d w = was_needed_lasts (task_of r n) d (subst (λ (h : Option Item). SpawnsFor l h (task_of r n)) (sym i) (m, refl)) ∙ w
  no_need_lasts (Some (Message r n)) i m d w = absurd m

  due_free_lasts : (h : Option Item) → in_hand mine ≡ h → MaySpawn l h → (o : Option Label) → DueIsFree (own_due h seen) (bringer l.rank h) seen mine o → DueIsFree (own_due h log) (bringer l.rank h) log mine o
  due_free_lasts h i m None f = tt
  due_free_lasts h i m (Some d) f =
      let same = ap (has_label d) (own_due_of h i) in
      ⊎_elim (λ p. inl (same ∙ p.0, p.1)) (λ p. inr (same ∙ p.0, no_due_lasts h i m d p.1)) f

  needs_free_last : (h : Option Item) → in_hand mine ≡ h → MaySpawn l h → (ds : List Label) → NeedsAreFree (own_due h seen) (bringer l.rank h) seen ds → NeedsAreFree (own_due h log) (bringer l.rank h) log ds
  needs_free_last h i m [] f = tt
  needs_free_last h i m (d ∷ ds) f = (ap (has_label d) (own_due_of h i) ∙ f.0, no_need_lasts h i m d f.1, needs_free_last h i m ds f.2)

  keeps_lasts : (h : Option Item) → in_hand mine ≡ h → (d : Label) → KeepsDue h d seen mine → KeepsDue h d log mine
  keeps_lasts (Some (Task r n)) i d k = (ap (has_label d) (own_due_of (Some (Task r n)) i) ∙ k.0, k.1)
  keeps_lasts None i d k = absurd k
  keeps_lasts (Some (Message r n)) i d k = absurd k

  carries_lasts : (h : Option Item) (p : Parcel) → Carries h p seen → Carries h p log
  carries_lasts (Some (Message r m)) p (to, (w, e, s)) = (to, (w, e, on_begins w (Sent m to p) seen log sees.begins s))
  carries_lasts None p c = absurd c
  carries_lasts (Some (Task r n)) p c = absurd c

  submits_last : (h : Option Item) → in_hand mine ≡ h → MaySubmit l h → (t : TaskName) → SubmitsFreely h l seen mine t → SubmitsFreely h l log mine t
  submits_last (Some (Message r m)) i may t s = (carries_lasts (Some (Message r m)) (Spawned t.unit t.due) s.0, s.1, s.2)
  submits_last None i may t s = (due_free_lasts None i may t.due s.0, s.1, needs_free_last None i may t.needs s.2)
  submits_last (Some (Task r n)) i may t s = (due_free_lasts (Some (Task r n)) i may t.due s.0, s.1, needs_free_last (Some (Task r n)) i may t.needs s.2)

  needs_dues_last : (b : Bringer) → SpawnsFor l (in_hand mine) b → NeedsAreDues b seen → NeedsAreDues b log
  needs_dues_last b s n d t = was_due_lasts b d s ∙ n d (sym (was_needed_lasts b d s) ∙ t)

  needs_given_last : (r n : ℕ) → 1 ≤ times_made (Task r n) seen → ((f : Future) → IsIn f (needs_of (Task r n) seen) → 1 ≤ times_given f seen) → (f : Future) → IsIn f (needs_of (Task r n) log) → 1 ≤ times_given f log
  needs_given_last r n made given f i =
      let before = given f (subst (IsIn f) (needs_last ranks workers seen log legal sees.begins (Task r n) made) i) in
      omega (arith, before, gives_last seen log sees.begins f)

  -- the conditions of an event on dues hold of the whole list where they hold of what the lane has seen
  pub dues_last : (e : Event) → HandAllows seen l mine e → Dues seen l mine e → Dues log l mine e
  dues_last (Sent n to (Spawned u d)) r f = due_free_lasts (in_hand mine) refl r d f
  dues_last (Sent n to (Give d)) r f = keeps_lasts (in_hand mine) refl d f
  dues_last (Submitted n t) r f = submits_last (in_hand mine) refl r t f
  dues_last (TookTask r n) made f = needs_given_last r n made f
  dues_last (Gave d) r f = ⊎_elim (λ c. inl (carries_lasts (in_hand mine) (Give d) c.0, c.1)) (λ k. inr (keeps_lasts (in_hand mine) refl d k)) f
  dues_last (Handled n r m) _ f = f
  dues_last (Ran n r t) hand f = (
    subst (λ (o : Option Future). HasPassedOn o mine) (sym (own_due_of (Some (Task r t)) hand)) f.0,
    needs_dues_last (task_of r t) (subst (λ (h : Option Item). SpawnsFor l h (task_of r t)) (sym hand) (tt, refl)) f.1,
  )
  dues_last (Enter e) r f = needs_dues_last (main_at l.rank) (subst (λ (h : Option Item). SpawnsFor l h (main_at l.rank)) (sym r.1) (r.0, refl)) f
  dues_last _ r f = f

  -- a reading that is next stays so, and finds the count in the whole list
  pub reads_last : (k : Kind) (f p : ℕ) → IsNextReading ranks seen l mine k f p → Reads ranks log l mine k (count k l.rank log) f p
  reads_last k f p (idle, number, order) = (refl, idle, number, order_lasts ranks workers seen log legal sees.begins (readings mine) k f p order)

  pub readings_last : (k : Kind) (f p : ℕ) → IsNextReading ranks seen l mine k f p → Fences ranks log l mine (reading_event k (count k l.rank log) f p)
  readings_last handlings f p next = reads_last handlings f p next
  readings_last runs f p next = reads_last runs f p next
  readings_last submissions f p next = reads_last submissions f p next
  readings_last sends f p next = reads_last sends f p next

  -- so do the conditions on fences, for events that read no count
  pub fences_last : (e : Event) → is_reading e ≡ false → Fences ranks seen l mine e → Fences ranks log l mine e
  fences_last (Leave f) _ a = (a.0, receipt_lasts seen log sees.begins f a.1)
  fences_last (Receives r) _ a = (
    a.0,
    a.1,
    no_receipt_lasts ranks workers seen log legal sees.begins mine (subst (λ (z : LaneName). part z seen ≡ mine) a.0 sees.own) (subst (λ (z : LaneName). part z log ≡ mine) a.0 sees.whole) r.fence a.2,
    receivable_lasts ranks workers seen log legal sees.begins r a.3,
  )
  fences_last (ReadHandled v f p) e a = absurd (cc)
  fences_last (ReadRan v f p) e a = absurd (cc)
  fences_last (ReadSubmitted v f p) e a = absurd (cc)
  fences_last (ReadSent v f p) e a = absurd (cc)
  fences_last _ _ a = a

-- an event that may come meets what it asks of its lane alone
pub allowed : (ranks : ℕ) (log : List Mark) (l : LaneName) (mine : List Event) (e : Event) → Counting ranks log l mine e → Fences ranks log l mine e → HandAllows log l mine e
allowed ranks log l mine (Sent n to p) a f = a.1
allowed ranks log l mine (Submitted n t) a f = a.1
allowed ranks log l mine (TookTask r n) a f = (took_fresh (Task r n) (TookTask r n) ranks log l mine a refl).0
allowed ranks log l mine (Ran n r t) a f = a.1
allowed ranks log l mine (Enter g) a f = (f.0, f.1)
allowed ranks log l mine _ a f = tt

-- where an event spawns, its lane spawns for the bringer
pub makes_for : (ranks : ℕ) (log : List Mark) (l : LaneName) (mine : List Event) (e : Event) (c : Item) (b : Bringer) → Counting ranks log l mine e → makes l.rank e ≡ Some c → bringer l.rank (in_hand mine) ≡ Some b → SpawnsFor l (in_hand mine) b
makes_for ranks log l mine (Sent n to p) c b a m i = (a.1, i)
makes_for ranks log l mine (Submitted n t) c b a m i = (submit_spawns l b (in_hand mine) a.1 (ap (is_bringer b) i ∙ same_bringer_refl b), i)
makes_for ranks log l mine e c b a m i = absurd (cc)

pub reading_is_next : (ranks : ℕ) (log : List Mark) (l : LaneName) (mine : List Event) (k : Kind) (v f p : ℕ) → Fences ranks log l mine (reading_event k v f p) → IsNextReading ranks log l mine k f p
reading_is_next ranks log l mine handlings v f p a = (a.1, a.2, a.3)
reading_is_next ranks log l mine runs v f p a = (a.1, a.2, a.3)
reading_is_next ranks log l mine submissions v f p a = (a.1, a.2, a.3)
reading_is_next ranks log l mine sends v f p a = (a.1, a.2, a.3)

pub reading_of : (e : Event) → (is_reading e ≡ true) ↔ ((k : Kind) × (v : ℕ) × (f : ℕ) × (p : ℕ) × (e ≡ reading_event k v f p))
reading_of e = (there e, λ r. ap is_reading r.4 ∙ back r.0 r.1 r.2 r.3)
  where
    there : (e : Event) → is_reading e ≡ true → (k : Kind) × (v : ℕ) × (f : ℕ) × (p : ℕ) × (e ≡ reading_event k v f p)
    there (ReadHandled v f p) t = (handlings, v, f, p, refl)
    there (ReadRan v f p) t = (runs, v, f, p, refl)
    there (ReadSubmitted v f p) t = (submissions, v, f, p, refl)
    there (ReadSent v f p) t = (sends, v, f, p, refl)
    there e t = absurd (cc)

    back : (k : Kind) (v f p : ℕ) → is_reading (reading_event k v f p) ≡ true
    back handlings v f p = refl
    back runs v f p = refl
    back submissions v f p = refl
    back sends v f p = refl
