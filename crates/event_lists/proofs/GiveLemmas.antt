-- A future is given at most once, and the needs of a task before it was taken.
use Rattle.std.proofs.Common.{◌≡◌, ◌⊎◌, ℕ, zero, suc, ◌+◌, ◌≤◌, Bool, true, false, List, [], ◌∷◌, refl, sym, ap, ◌∙◌, subst, inl, inr, ⊎_elim, arith}
use Rattle.std.specs.Prelude.{Option, Some, None}
use Rattle.std.proofs.lemmas.Bool.{both_ways, or_right}
use Rattle.app_core.specs.declared.label.Label.{Label}
use Rattle.app_core.specs.Outlines.{is_due}
use Rattle.event_lists.specs.declared.lane.LaneName.{LaneName}
use Rattle.event_lists.specs.declared.event.Event.{Event}
use Rattle.event_lists.specs.declared.event.Event.TheVariants.{Sent, TookTask, Submitted, Gave}
use Rattle.event_lists.specs.declared.event.Parcel.TheVariants.{Unit as Spawned, Give}
use Rattle.event_lists.specs.declared.event.TaskName.{TaskName}
use Rattle.event_lists.specs.declared.mark.Item.{Item}
use Rattle.event_lists.specs.declared.mark.Item.TheVariants.{Message, Task}
use Rattle.event_lists.specs.declared.mark.Mark.{Mark}
use Rattle.event_lists.specs.Events.{Begins, part, in_hand, makes, takes, ends}
use Rattle.event_lists.specs.declared.future.Future.{Future}
use Rattle.event_lists.specs.Futures.{is_future, bringer, is_own, due_of_spawn, due_made, own_due, needs_of, was_due, passes_on, is_fresh, gives, times_given, IsIn}
use Rattle.event_lists.specs.Counting.{Counting, MaySpawn, MaySubmit}
use Rattle.event_lists.specs.Dues.{Dues, DueIsFree, KeepsDue, Carries, SubmitsFreely}
use Rattle.event_lists.specs.Quiet.{AllNeedsGivenOnce}
use Rattle.event_lists.specs.Legal.{Legal}
use Rattle.event_lists.proofs.CountLemmas.{one_if}
use Rattle.event_lists.proofs.ListLemmas.{legal_begins, begins_trans, begins_tail}
use Rattle.event_lists.proofs.ItemLemmas.{made_here, took_fresh, ended_at}
use Rattle.event_lists.proofs.WaitingLemmas.{Holds, waiting, ended_once}
use Rattle.event_lists.proofs.HandLemmas.{ends_hand, taken_at}
use Rattle.event_lists.proofs.FutureLemmas.{same_label_refl, is_future_some, given_grows, needs_last}
use Rattle.event_lists.proofs.OwnerLemmas.{due_raised, Owns, Moves, owned, lost_now, owns_back, task_moves, message_moves, spawns}

-- what a legal event asks, at what is in hand
abbrev own : List Mark → Mark → Option Future
own log x = own_due (in_hand (part x.lane log)) log

-- the task that keeps its due
keeps_moves : (f : Future) (log : List Mark) (x : Mark) (d : Label) → KeepsDue (in_hand (part x.lane log)) d log (part x.lane log) → own log x ≡ Some f → passes_on d x.event ≡ true → takes x.event ≡ None → Moves f log x
keeps_moves f log x d k is p t = go (in_hand (part x.lane log)) refl k
  where
    go : (h : Option Item) → in_hand (part x.lane log) ≡ h → KeepsDue h d log (part x.lane log) → Moves f log x
    go None i k = absurd k
    go (Some (Message r n)) i k = absurd k
    go (Some (Task r n)) i k = task_moves f log x r n d i is (subst (λ (h : Option Item). is_own d (own_due h log) ≡ true) (sym i) k.0) k.1 p t

-- what an event makes has a new due, or one that it moves
made_moves : (f : Future) (log : List Mark) (x : Mark) (ranks : ℕ) → Counting ranks log x.lane (part x.lane log) x.event → Dues log x.lane (part x.lane log) x.event → due_made x.lane.rank (in_hand (part x.lane log)) (own log x) x.event ≡ Some f → Moves f log x ⊎ (was_due f.by f.label log ≡ false)
made_moves f log x ranks count dues is = go x.event refl count dues is
  where
    submits : (n : ℕ) (t : TaskName) → x.event ≡ Submitted n t → (h : Option Item) → in_hand (part x.lane log) ≡ h → MaySubmit x.lane h → SubmitsFreely h x.lane log (part x.lane log) t → due_of_spawn x.lane.rank (in_hand (part x.lane log)) (own log x) t.due ≡ Some f → Moves f log x ⊎ (was_due f.by f.label log ≡ false)
    submits n t e (Some (Message r m)) i may free is =
        let own_is : own log x ≡ Some f = ap (λ (h : Option Item). own_due h log) i ∙ subst (λ (h : Option Item). due_of_spawn x.lane.rank h (own_due h log) t.due ≡ Some f) i is in
        inl (message_moves f log x r m i own_is free.1 (λ k. let no : is_fresh (Submitted n t ∷ part x.lane log) ≡ true = subst (λ (z : Event). is_fresh (z ∷ part x.lane log) ≡ true) e k in absurd (cc)) (ap takes e))
    submits n t e None i may free is = spawns f log x t.due (subst (MaySpawn x.lane) (sym i) may) (subst (λ (h : Option Item). DueIsFree (own_due h log) (bringer x.lane.rank h) log (part x.lane log) t.due) (sym i) free.0) is (λ d j. ap (passes_on d) e ∙ ap (is_due d) j ∙ same_label_refl d) (ap takes e)
    submits n t e (Some (Task r m)) i may free is = spawns f log x t.due (subst (MaySpawn x.lane) (sym i) may) (subst (λ (h : Option Item). DueIsFree (own_due h log) (bringer x.lane.rank h) log (part x.lane log) t.due) (sym i) free.0) is (λ d j. ap (passes_on d) e ∙ ap (is_due d) j ∙ same_label_refl d) (ap takes e)

    go : (e : Event) → x.event ≡ e → Counting ranks log x.lane (part x.lane log) e → Dues log x.lane (part x.lane log) e → due_made x.lane.rank (in_hand (part x.lane log)) (own log x) e ≡ Some f → Moves f log x ⊎ (was_due f.by f.label log ≡ false)
    go (Sent n to (Spawned u o)) e count dues is = spawns f log x o count.1 dues is (λ d j. ap (passes_on d) e ∙ ap (is_due d) j ∙ same_label_refl d) (ap takes e)
    go (Sent n to (Give d)) e count dues is = inl (keeps_moves f log x d dues is (ap (passes_on d) e ∙ same_label_refl d) (ap takes e))
    go (Submitted n t) e count dues is = submits n t e (in_hand (part x.lane log)) refl count.1 dues is
    go _ e count dues is = absurd (cc)

-- a give takes the future from what is in hand
given_moves : (f : Future) (log : List Mark) (x : Mark) → Dues log x.lane (part x.lane log) x.event → gives (own log x) x.event ≡ Some f → Moves f log x
given_moves f log x dues is = go x.event refl dues is
  where
    carried : (d : Label) → x.event ≡ Gave d → (h : Option Item) → in_hand (part x.lane log) ≡ h → Carries h (Give d) log → is_fresh (part x.lane log) ≡ true → own log x ≡ Some f → Moves f log x
    carried d e None i c fresh is = absurd c
    carried d e (Some (Task r n)) i c fresh is = absurd c
    carried d e (Some (Message r n)) i c fresh is = message_moves f log x r n i is fresh (λ k. let no : is_fresh (Gave d ∷ part x.lane log) ≡ true = subst (λ (z : Event). is_fresh (z ∷ part x.lane log) ≡ true) e k in absurd (cc)) (ap takes e)

    go : (e : Event) → x.event ≡ e → Dues log x.lane (part x.lane log) e → gives (own log x) e ≡ Some f → Moves f log x
    go (Gave d) e (inl c) is = carried d e (in_hand (part x.lane log)) refl c.0 c.1 is
    go (Gave d) e (inr k) is = keeps_moves f log x d k is (ap (passes_on d) e ∙ same_label_refl d) (ap takes e)
    go _ e dues is = absurd (cc)

gives_nothing_made : (f : Future) (o : Option Future) (r : ℕ) (e : Event) (c : Item) → gives o e ≡ Some f → makes r e ≡ Some c → ⊥
gives_nothing_made f o r (Sent n to p) c g m = absurd (cc)
gives_nothing_made f o r (Submitted n t) c g m = absurd (cc)
gives_nothing_made f o r e c g m = absurd (cc)

own_raised : (f : Future) (h : Option Item) (log : List Mark) → own_due h log ≡ Some f → was_due f.by f.label log ≡ true
own_raised f None log i = absurd (cc)
own_raised f (Some c) log i = due_raised c f log i

gives_own : (f : Future) (o : Option Future) (e : Event) → gives o e ≡ Some f → o ≡ Some f
gives_own f o (Gave d) i = i
gives_own f o e i = absurd (cc)

-- what was given was raised
given_raised : (f : Future) (log : List Mark) → 1 ≤ times_given f log → was_due f.by f.label log ≡ true
given_raised f [] m = absurd (omega arith)
given_raised f (x ∷ log) m = go (given_raised f log) (is_future f (gives (own log x) x.event)) refl m
  where
    go : (1 ≤ times_given f log → was_due f.by f.label log ≡ true) → (b : Bool) → is_future f (gives (own log x) x.event) ≡ b → 1 ≤ one_if b + times_given f log → was_due f.by f.label (x ∷ log) ≡ true
    go rest true e m = or_right _ (was_due f.by f.label log) (own_raised f (in_hand (part x.lane log)) log (gives_own f (own log x) x.event (is_future_some f (gives (own log x) x.event) e)))
    go rest false e m = or_right _ (was_due f.by f.label log) (rest (omega arith))

-- a future has at most one owner, and none once it is given
record Sole (f : Future) (log : List Mark) : Type 0 where
  one : (c d : Item) → Owns f log c → Owns f log d → c ≡ d
  spent : 1 ≤ times_given f log → (c : Item) → Owns f log c → ⊥
  once : times_given f log ≤ 1

module _ (ranks workers : ℕ) (f : Future) (log : List Mark) (x : Mark) (h : Legal ranks workers (x ∷ log)) (s : Sole f log) where
  -- what is made with this due is owned by nobody else
  made_alone : (c d : Item) → makes x.lane.rank x.event ≡ Some c → due_made x.lane.rank (in_hand (part x.lane log)) (own log x) x.event ≡ Some f → Owns f (x ∷ log) d → Owns f log d → ⊥
  made_alone c d m is now before = ⊎_elim
      (λ moves. lost_now ranks workers f log x h.1 moves (subst (Owns f (x ∷ log)) (s.one d moves.item before (owned f log x moves)) now))
      (λ new. both_ways (was_due f.by f.label log) new (due_raised d f log before.due))
      (made_moves f log x ranks h.0.counting h.0.dues is)

  one_step : (c d : Item) → Owns f (x ∷ log) c → Owns f (x ∷ log) d → c ≡ d
  one_step c d p q = ⊎_elim
      (λ a. ⊎_elim
      (λ b. let i = a.0 in let j = b.0 in cc)
      (λ b. absurd (made_alone c d a.0 a.1 q b))
      (owns_back ranks workers f log x h d q))
      (λ a. ⊎_elim
      (λ b. absurd (made_alone d c b.0 b.1 p a))
      (λ b. s.one c d a b)
      (owns_back ranks workers f log x h d q))
      (owns_back ranks workers f log x h c p)

  spent_step : (b : Bool) → is_future f (gives (own log x) x.event) ≡ b → 1 ≤ one_if b + times_given f log → (c : Item) → Owns f (x ∷ log) c → ⊥
  spent_step true e m c o =
      let g = is_future_some f (gives (own log x) x.event) e in
      let moves = given_moves f log x h.0.dues g in
      ⊎_elim
      (λ a. gives_nothing_made f (own log x) x.lane.rank x.event c g a.0)
      (λ a. lost_now ranks workers f log x h.1 moves (subst (Owns f (x ∷ log)) (s.one c moves.item a (owned f log x moves)) o))
      (owns_back ranks workers f log x h c o)
  spent_step false e m c o =
      let given : 1 ≤ times_given f log = omega arith in
      ⊎_elim
      (λ a. ⊎_elim
      (λ moves. s.spent given moves.item (owned f log x moves))
      (λ new. both_ways (was_due f.by f.label log) new (given_raised f log given))
      (made_moves f log x ranks h.0.counting h.0.dues a.1))
      (λ a. s.spent given c a)
      (owns_back ranks workers f log x h c o)

  once_step : (b : Bool) → is_future f (gives (own log x) x.event) ≡ b → one_if b + times_given f log ≤ 1
  once_step true e =
      let moves = given_moves f log x h.0.dues (is_future_some f (gives (own log x) x.event) e) in
      none (times_given f log) refl (λ given. s.spent given moves.item (owned f log x moves))
    where
      none : (n : ℕ) → times_given f log ≡ n → (1 ≤ times_given f log → ⊥) → 1 + times_given f log ≤ 1
      none zero i no_more = omega arith
      none (suc n) i no_more = absurd (no_more (omega arith))
  once_step false e = omega (arith, s.once)

sole : (ranks workers : ℕ) (f : Future) (log : List Mark) → Legal ranks workers log → Sole f log
sole ranks workers f [] h = record { one = λ c d p q. (let i = p.due in absurd (cc)); spent = λ m c o. absurd (omega arith); once = omega arith }
sole ranks workers f (x ∷ log) h =
    let s = sole ranks workers f log h.1 in
    record {
      one = one_step ranks workers f log x h s;
      spent = spent_step ranks workers f log x h s (is_future f (gives (own log x) x.event)) refl;
      once = once_step ranks workers f log x h s (is_future f (gives (own log x) x.event)) refl;
    }

-- a future is given at most once
pub given_once : (ranks workers : ℕ) (log : List Mark) → Legal ranks workers log → (f : Future) → times_given f log ≤ 1
given_once ranks workers log h f = (sole ranks workers f log h).once

task_took : (r n : ℕ) (log : List Mark) (l : LaneName) (mine : List Event) (e : Event) → Dues log l mine e → takes e ≡ Some (Task r n) → (f : Future) → IsIn f (needs_of (Task r n) log) → 1 ≤ times_given f log
task_took r n log l mine (TookTask q m) a t f i = a f (subst (λ (c : Item). IsIn f (needs_of c log)) (let e : Task r n ≡ Task q m = cc in e) i)
task_took r n log l mine e a t f i = absurd (cc)

-- the needs of a task that was taken were given once, then and since
taken_given : (ranks workers : ℕ) (log : List Mark) → Legal ranks workers log → (r n : ℕ) (x : Mark) (earlier : List Mark) → Begins (x ∷ earlier) log → takes x.event ≡ Some (Task r n) → (f : Future) → IsIn f (needs_of (Task r n) log) → (times_given f log ≡ 1) × (times_given f earlier ≡ 1)
taken_given ranks workers log h r n x earlier to t f i =
    let at_took = legal_begins ranks workers (x ∷ earlier) log to h in
    let before : Begins earlier log = begins_tail x earlier log to in
    let was_made = (took_fresh (Task r n) x.event ranks earlier x.lane (part x.lane earlier) at_took.0.counting t).0 in
    let needs : needs_of (Task r n) log ≡ needs_of (Task r n) earlier = needs_last ranks workers earlier log h before (Task r n) was_made in
    let given = task_took r n earlier x.lane (part x.lane earlier) x.event at_took.0.dues t f (subst (IsIn f) needs i) in
    let grows : times_given f earlier ≤ times_given f log = subst (λ (z : List Mark). times_given f earlier ≤ times_given f z) (sym before.1) (given_grows f before.0 earlier) in
    (omega (arith, given, grows, given_once ranks workers log h f), omega (arith, given, given_once ranks workers earlier at_took.1 f))

-- a task that ran was taken
ran_taken : (ranks workers : ℕ) (log : List Mark) → Legal ranks workers log → (c : Item) (x : Mark) (earlier : List Mark) → Begins (x ∷ earlier) log → ends x.event ≡ Some c → (y : Mark) × (before : List Mark) × Begins (y ∷ before) log × (takes y.event ≡ Some c)
ran_taken ranks workers log h c x earlier to e =
    let at = legal_begins ranks workers (x ∷ earlier) log to h in
    let k = taken_at x.lane c earlier (ends_hand x.event c ranks earlier x.lane (part x.lane earlier) at.0.counting e) in
    (k.0, k.1, begins_trans (k.0 ∷ k.1) earlier log k.2 (begins_tail x earlier log to), k.3)

-- where nothing waits, each need of each task was given once, before it was taken
pub all_given : (ranks workers : ℕ) (log : List Mark) → Legal ranks workers log → ((c : Item) → Holds (waiting log) c → ⊥) → AllNeedsGivenOnce log
all_given ranks workers log h none r n t s f i =
    let made = made_here (Task r n) s.0 _ log (ap (λ (q : ℕ). Some (Task q n)) s.1) s.2 in
    let once = ended_once (Task r n) ranks workers log h (none (Task r n)) made in
    let e = ended_at (Task r n) log (omega (arith, once)) in
    let k = ran_taken ranks workers log h (Task r n) e.0 e.1 e.2 e.3 in
    let g = taken_given ranks workers log h r n k.0 k.1 k.2 k.3 f i in
    (g.0, (k.0, k.1, k.2, k.3, g.1))
