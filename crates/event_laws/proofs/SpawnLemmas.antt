-- Where no two spawns have one unit label, no two tasks have one.
use Rattle.std.proofs.Common.{◌≡◌, ℕ, List, [], ◌∷◌, ◌++◌, refl, sym, ap, ◌∙◌, subst, ⊎_elim, arith}
use Rattle.std.specs.Prelude.{Option, Some, None, Contains}
use Rattle.std.specs.Option.{option_to_list}
use Rattle.std.proofs.lemmas.List.Elements.{Contains-append_right}
use Rattle.app_core.specs.declared.label.Label.{Label}
use Rattle.event_lists.specs.declared.lane.LaneName.{LaneName}
use Rattle.event_lists.specs.declared.event.Event.TheVariants.{Sent, Submitted}
use Rattle.event_lists.specs.declared.event.Parcel.TheVariants.{Unit as Spawned}
use Rattle.event_lists.specs.declared.event.TaskName.{TaskName}
use Rattle.event_lists.specs.declared.mark.Item.{Item}
use Rattle.event_lists.specs.declared.mark.Item.TheVariants.{Message, Task}
use Rattle.event_lists.specs.declared.mark.Mark.{Mark}
use Rattle.event_lists.specs.Events.{Begins, part, in_hand, IsSent, IsSubmitted}
use Rattle.event_lists.specs.Counting.{Counting, MaySubmit}
use Rattle.event_lists.specs.Dues.{Dues, SubmitsFreely}
use Rattle.event_lists.specs.Legal.{Legal}
use Rattle.event_lists.proofs.ListLemmas.{legal_begins, begins_trans, begins_tail}
use Rattle.event_laws.specs.Apart.{spawn_label, spawned, Apart}
use Rattle.event_laws.proofs.MemberLemmas.{contains_cons}
use Rattle.event_laws.proofs.PositionLemmas.{begins_cons, begins_none, order, stands_at}
use Rattle.event_laws.proofs.MessageLemmas.{submitted_once}

-- a spawn of a unit with this label
pub record Spawns (u : Label) (log : List Mark) : Type 0 where
  pub x : Mark
  pub before : List Mark
  pub begins : Begins (x ∷ before) log
  pub label : spawn_label (in_hand (part x.lane before)) x.event ≡ Some u

later : (u : Label) (x : Mark) (log : List Mark) → Spawns u log → Spawns u (x ∷ log)
later u x log s = record { x = s.x; before = s.before; begins = begins_trans (s.x ∷ s.before) log (x ∷ log) s.begins (x ∷ [], refl); label = s.label }

-- a label of a spawn is among them, and each of them has a spawn
pub spawn_in : (u : Label) (log : List Mark) → Contains (spawned log) u → Spawns u log
spawn_in u [] h = let lt = h.1 in absurd (omega arith)
spawn_in u (x ∷ log) h = go (λ k. spawn_in u log k) (spawn_label (in_hand (part x.lane log)) x.event) refl h
  where
    go : (Contains (spawned log) u → Spawns u log) → (o : Option Label) → spawn_label (in_hand (part x.lane log)) x.event ≡ o → Contains (option_to_list o ++ spawned log) u → Spawns u (x ∷ log)
    go rest None e h = later u x log (rest h)
    go rest (Some v) e h = ⊎_elim
        (λ same. record { x = x; before = log; begins = ([], refl); label = e ∙ ap Some same })
        (λ k. later u x log (rest k))
        (contains_cons v u (spawned log) h)

pub in_spawned : (u : Label) (log : List Mark) → Spawns u log → Contains (spawned log) u
in_spawned u [] s = absurd (begins_none s.x s.before s.begins)
in_spawned u (z ∷ log) s = ⊎_elim
    (λ a. here a.0 a.1)
    (λ b. Contains-append_right (option_to_list (spawn_label (in_hand (part z.lane log)) z.event)) (spawned log) u (in_spawned u log (record { x = s.x; before = s.before; begins = b; label = s.label })))
    (begins_cons s.x z s.before log s.begins)
  where
    here : z ≡ s.x → log ≡ s.before → Contains (spawned (z ∷ log)) u
    here a b =
        let e : spawn_label (in_hand (part z.lane log)) z.event ≡ Some u = (λ i. spawn_label (in_hand (part ((a i).lane) (b i))) ((a i).event)) ∙ s.label in
        subst (λ (o : Option Label). Contains (option_to_list o ++ spawned log) u) (sym e) (0, omega arith, refl)

apart_rest : (o : Option Label) (us : List Label) → Apart (option_to_list o ++ us) → Apart us
apart_rest None us a = a
apart_rest (Some u) us a = a.1

pub apart_before : (more log : List Mark) → Apart (spawned (more ++ log)) → Apart (spawned log)
apart_before [] log a = a
apart_before (x ∷ more) log a = apart_before more log (apart_rest (spawn_label (in_hand (part x.lane (more ++ log))) x.event) (spawned (more ++ log)) a)

pub apart_begins : (old log : List Mark) → Begins old log → Apart (spawned log) → Apart (spawned old)
apart_begins old log b a = apart_before b.0 old (subst (λ (z : List Mark). Apart (spawned z)) b.1 a)

spawns_later : (u : Label) (log : List Mark) → Apart (spawned log) → (s t : Spawns u log) → Begins (s.x ∷ s.before) t.before → ⊥
spawns_later u log a s t to =
    let here : Apart (option_to_list (spawn_label (in_hand (part t.x.lane t.before)) t.x.event) ++ spawned t.before) = apart_begins (t.x ∷ t.before) log t.begins a in
    let now : Apart (u ∷ spawned t.before) = subst (λ (o : Option Label). Apart (option_to_list o ++ spawned t.before)) t.label here in
    now.0 (in_spawned u t.before (record { x = s.x; before = s.before; begins = to; label = s.label }))

-- two spawns of one label are one
pub one_spawn : (u : Label) (log : List Mark) → Apart (spawned log) → (s t : Spawns u log) → (s.x ≡ t.x) × (s.before ≡ t.before)
one_spawn u log a s t = ⊎_elim
    (λ same. same)
    (λ apart. absurd (⊎_elim (λ to. spawns_later u log a s t to) (λ to. spawns_later u log a t s to) apart))
    (order s.x t.x s.before t.before log s.begins t.begins)

-- task n with this name is submitted
pub record Submission (log : List Mark) (n : ℕ) (t : TaskName) : Type 0 where
  pub x : Mark
  pub before : List Mark
  pub begins : Begins (x ∷ before) log
  pub is : x.event ≡ Submitted n t

-- the spawn of a submitted unit is its submission, or the message that carried it
pub data Origin (log : List Mark) (n : ℕ) (t : TaskName) (s : Submission log n t) : Type 0 where
  itself : spawn_label (in_hand (part s.x.lane s.before)) s.x.event ≡ Some t.unit → Origin log n t s
  carried : (r m to : ℕ) → in_hand (part s.x.lane s.before) ≡ Some (Message r m) → IsSent r m to (Spawned t.unit t.due) s.before → Origin log n t s

pub origin : (ranks workers : ℕ) (log : List Mark) → Legal ranks workers log → (n : ℕ) (t : TaskName) (s : Submission log n t) → Origin log n t s
origin ranks workers log h n t s =
    let here = legal_begins ranks workers (s.x ∷ s.before) log s.begins h in
    let count : Counting ranks s.before s.x.lane (part s.x.lane s.before) (Submitted n t) = subst (Counting ranks s.before s.x.lane (part s.x.lane s.before)) s.is here.0.counting in
    let dues : Dues s.before s.x.lane (part s.x.lane s.before) (Submitted n t) = subst (Dues s.before s.x.lane (part s.x.lane s.before)) s.is here.0.dues in
    go (in_hand (part s.x.lane s.before)) refl count.1 dues
  where
    go : (o : Option Item) → in_hand (part s.x.lane s.before) ≡ o → MaySubmit s.x.lane o → SubmitsFreely o s.x.lane s.before (part s.x.lane s.before) t → Origin log n t s
    go None e may free = itself (ap (λ (o : Option Item). spawn_label o s.x.event) e ∙ ap (spawn_label None) s.is)
    go (Some (Task q k)) e may free = itself (ap (λ (o : Option Item). spawn_label o s.x.event) e ∙ ap (spawn_label (Some (Task q k))) s.is)
    go (Some (Message r m)) e may free = carried r m free.0.0 e free.0.1

-- the spawn that a message is
record SentWith (log : List Mark) (r m to : ℕ) (u : Label) : Type 0 where
  spawn : Spawns u log
  rank : spawn.x.lane.rank ≡ r
  sent : (d : Option Label) × (spawn.x.event ≡ Sent m to (Spawned u d))

sent_with : (log : List Mark) (r m to : ℕ) (u : Label) (d : Option Label) → IsSent r m to (Spawned u d) log → SentWith log r m to u
sent_with log r m to u d s =
    let a = stands_at s.0 (Sent m to (Spawned u d)) log s.2 in
    record {
      spawn = record { x = a.0; before = a.1; begins = a.2; label = ap (spawn_label (in_hand (part a.0.lane a.1))) a.4 };
      rank = ap (λ (l : LaneName). l.rank) a.3 ∙ s.1;
      sent = (d, a.4);
    }

later_sent : (old log : List Mark) (r m to : ℕ) (u : Label) → Begins old log → SentWith old r m to u → SentWith log r m to u
later_sent old log r m to u b a = record {
  spawn = record { x = a.spawn.x; before = a.spawn.before; begins = begins_trans (a.spawn.x ∷ a.spawn.before) old log a.spawn.begins b; label = a.spawn.label };
  rank = a.rank;
  sent = a.sent;
}

-- each task that is submitted has a spawn of its unit
pub task_spawn : (ranks workers : ℕ) (log : List Mark) → Legal ranks workers log → (r n : ℕ) (t : TaskName) → IsSubmitted r n t log → Spawns t.unit log
task_spawn ranks workers log h r n t a =
    let z = stands_at a.0 (Submitted n t) log a.2 in
    from (record { x = z.0; before = z.1; begins = z.2; is = z.4 }) (origin ranks workers log h n t (record { x = z.0; before = z.1; begins = z.2; is = z.4 }))
  where
    from : (s : Submission log n t) → Origin log n t s → Spawns t.unit log
    from s (itself l) = record { x = s.x; before = s.before; begins = s.begins; label = l }
    from s (carried q m to hand i) = (later_sent s.before log q m to t.unit (begins_tail s.x s.before log s.begins) (sent_with s.before q m to t.unit t.due i)).spawn

-- two submissions of one label are one
pub same_submission : (ranks workers : ℕ) (log : List Mark) → Legal ranks workers log → Apart (spawned log) → (n k : ℕ) (t u : TaskName) (a : Submission log n t) (b : Submission log k u) → t.unit ≡ u.unit → (a.x ≡ b.x) × (a.before ≡ b.before)
same_submission ranks workers log h apart n k t u a b same = go (origin ranks workers log h n t a) (origin ranks workers log h k u b)
  where
    direct : (v : Label) (j : ℕ) (w : TaskName) (s : Submission log j w) → spawn_label (in_hand (part s.x.lane s.before)) s.x.event ≡ Some w.unit → w.unit ≡ v → Spawns v log
    direct v j w s l e = record { x = s.x; before = s.before; begins = s.begins; label = l ∙ ap Some e }

    sent_by : (j : ℕ) (w : TaskName) (s : Submission log j w) (r m to : ℕ) → IsSent r m to (Spawned w.unit w.due) s.before → SentWith log r m to w.unit
    sent_by j w s r m to i = later_sent s.before log r m to w.unit (begins_tail s.x s.before log s.begins) (sent_with s.before r m to w.unit w.due i)

    go : Origin log n t a → Origin log k u b → (a.x ≡ b.x) × (a.before ≡ b.before)
    go (itself l) (itself j) = one_spawn u.unit log apart (direct u.unit n t a l same) (direct u.unit k u b j refl)
    go (itself l) (carried r m to hand i) =
        let w = sent_by k u b r m to i in
        let one = one_spawn u.unit log apart (direct u.unit n t a l same) w.spawn in
        absurd (let e : Submitted n t ≡ Sent m to (Spawned u.unit w.sent.0) = sym a.is ∙ ap (λ (z : Mark). z.event) one.0 ∙ w.sent.1 in cc)
    go (carried r m to hand i) (itself l) =
        let w = sent_by n t a r m to i in
        let one = one_spawn t.unit log apart (direct t.unit k u b l (sym same)) w.spawn in
        absurd (let e : Submitted k u ≡ Sent m to (Spawned t.unit w.sent.0) = sym b.is ∙ ap (λ (z : Mark). z.event) one.0 ∙ w.sent.1 in cc)
    go (carried r m to hand i) (carried q j for held s) =
        let v = sent_by n t a r m to i in
        let w = sent_by k u b q j for s in
        let there : Spawns u.unit log = record { x = v.spawn.x; before = v.spawn.before; begins = v.spawn.begins; label = v.spawn.label ∙ ap Some same } in
        let one = one_spawn u.unit log apart there w.spawn in
        let ranks_are : r ≡ q = sym v.rank ∙ ap (λ (z : Mark). z.lane.rank) one.0 ∙ w.rank in
        let events : Sent m to (Spawned t.unit v.sent.0) ≡ Sent j for (Spawned u.unit w.sent.0) = sym v.sent.1 ∙ ap (λ (z : Mark). z.event) one.0 ∙ w.sent.1 in
        let numbers : m ≡ j = cc in
        let other : in_hand (part b.x.lane b.before) ≡ Some (Message r m) = held ∙ (λ i. Some (Message (sym ranks_are i) (sym numbers i))) in
        submitted_once ranks workers log h r m a.x b.x a.before b.before (record { begins = a.begins; hand = hand; n = n; t = t; is = a.is }) (record { begins = b.begins; hand = other; n = k; t = u; is = b.is })

-- two tasks of one label are one
pub same_task : (ranks workers : ℕ) (log : List Mark) → Legal ranks workers log → Apart (spawned log) → (r n q k : ℕ) (t u : TaskName) → IsSubmitted r n t log → IsSubmitted q k u log → t.unit ≡ u.unit → (r ≡ q) × (n ≡ k) × (t ≡ u)
same_task ranks workers log h apart r n q k t u a b same =
    let x = stands_at a.0 (Submitted n t) log a.2 in
    let y = stands_at b.0 (Submitted k u) log b.2 in
    let one = same_submission ranks workers log h apart n k t u (record { x = x.0; before = x.1; begins = x.2; is = x.4 }) (record { x = y.0; before = y.1; begins = y.2; is = y.4 }) same in
    let ranks_are : r ≡ q = sym a.1 ∙ ap (λ (l : LaneName). l.rank) (sym x.3) ∙ ap (λ (z : Mark). z.lane.rank) one.0 ∙ ap (λ (l : LaneName). l.rank) y.3 ∙ b.1 in
    let events : Submitted n t ≡ Submitted k u = sym x.4 ∙ ap (λ (z : Mark). z.event) one.0 ∙ y.4 in
    (ranks_are, cc, cc)
