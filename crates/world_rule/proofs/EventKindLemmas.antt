-- Lemmas that crates above use: each kind of event, from what the lane's own view shows.
use Rattle.std.proofs.Common.{◌≡◌, ◌≢◌, ℕ, suc, ◌+◌, ◌^◌, ◌%◌, ◌<◌, ◌≤◌, Bool, true, false, List, [], ◌∷◌, length, refl, sym, ap, ◌∙◌, subst, inl, inr, arith}
use Rattle.std.specs.Prelude.{Some, None, slice_index, slice_get}
use Rattle.atomic_table.specs.Table.{Allows}
use Rattle.app_core.specs.declared.label.Label.{Label}
use Rattle.app_core.specs.declared.outline.Outline.{Outline}
use Rattle.event_lists.specs.declared.lane.LaneName.{LaneName}
use Rattle.event_lists.specs.declared.event.Event.{Event}
use Rattle.event_lists.specs.declared.event.Event.TheVariants.{Sent, TookMessage, TookTask, Handled, Submitted, Ran, Gave, ReadHandled, ReadRan, ReadSubmitted, ReadSent, Enter, Leave, Receipt as Receives}
use Rattle.event_lists.specs.declared.event.Parcel.{Parcel}
use Rattle.event_lists.specs.declared.event.Parcel.TheVariants.{Unit as Spawned, Give}
use Rattle.event_lists.specs.declared.event.TaskName.{TaskName}
use Rattle.event_lists.specs.declared.mark.Item.{Item}
use Rattle.event_lists.specs.declared.mark.Item.TheVariants.{Message, Task}
use Rattle.world_rule.specs.declared.view.Pending.{Pending}
use Rattle.world_rule.specs.declared.view.Pending.TheVariants.{Counted, Drawn}
use Rattle.event_lists.specs.declared.mark.EffectName.{EffectName}
use Rattle.event_lists.specs.declared.mark.Mark.{Mark}
use Rattle.event_lists.specs.declared.kind.Kind.{Kind}
use Rattle.event_lists.specs.declared.kind.Kind.TheVariants.{Sends as sends, Handlings as handlings, Submissions as submissions, Runs as runs}
use Rattle.event_lists.specs.declared.future.Future.{Future}
use Rattle.event_lists.specs.declared.future.Bringer.TheVariants.{Main as main_at}
use Rattle.event_lists.specs.declared.receipt.Receipt.{Receipt}
use Rattle.event_lists.specs.Events.{main_of, part, Begins, is_kind, count, takes, times_made, in_hand, IsSent}
use Rattle.event_lists.specs.Counting.{Counting, MaySpawn, MaySubmit}
use Rattle.event_lists.specs.Dues.{Dues, NeedsAreDues}
use Rattle.event_lists.specs.Fences.{Fences, Reads, IsIdleIn, fence_in, enters, has_receipt}
use Rattle.event_lists.specs.Bins.{Bins}
use Rattle.event_lists.specs.Futures.{needs_of, is_fresh, times_given, IsIn}
use Rattle.event_lists.specs.OwnEvents.{SeesItsOwn, reading_event, IsNextReading}
use Rattle.event_lists.proofs.FutureLemmas.{gives_last, needs_last}
use Rattle.event_lists.proofs.FenceLemmas.{receipt_lasts}
use Rattle.event_lists.proofs.OwnLemmas.{dues_last, reads_last, fences_last}
use Rattle.event_laws.specs.Follows.{TaskEffects, Doing, Wait, Goes, program_at, deeds}
use Rattle.world_rule.specs.declared.view.Owed.{Owed}
use Rattle.world_rule.proofs.PendingLemmas.{made_message, made_task, made_times, counted_or_drawn}
use Rattle.world_rule.proofs.CounterWordLemmas.{words_same, words_add, stop_same, stop_add}
use Rattle.world_rule.proofs.AppendLemmas.{Sees, says}
use Rattle.world_rule.proofs.TaskEventLemmas.{does}
use Rattle.world_rule.specs.Owing.{is_settled, Made, IsCounted, took, NeedsKnown}
use Rattle.world_rule.specs.Views.{mark, numbered, own_part}
use Rattle.world_rule.specs.CounterWords.{place, word_at}
use Rattle.world_rule.specs.Shows.{DrawnCounts, IsDrawn, IsMadeOrDrawn, ShowsOneRun}
use Rattle.world_rule.specs.Steps.{M, Appends, effect_of, IsNextEffect}

-- the counted words
only_sends : (n to : ℕ) (p : Parcel) (j : Kind) → place j ≢ place sends → is_kind j (Sent n to p) ≡ false
only_sends n to p sends a = absurd (a refl)
only_sends n to p handlings a = refl
only_sends n to p submissions a = refl
only_sends n to p runs a = refl

only_handles : (n r m : ℕ) (j : Kind) → place j ≢ place handlings → is_kind j (Handled n r m) ≡ false
only_handles n r m sends a = refl
only_handles n r m handlings a = absurd (a refl)
only_handles n r m submissions a = refl
only_handles n r m runs a = refl

only_submits : (n : ℕ) (t : TaskName) (j : Kind) → place j ≢ place submissions → is_kind j (Submitted n t) ≡ false
only_submits n t sends a = refl
only_submits n t handlings a = refl
only_submits n t submissions a = absurd (a refl)
only_submits n t runs a = refl

-- whether an event counts nothing
abbrev plain : Event → Bool
plain (Sent n to p) = false
plain (Handled n r m) = false
plain (Submitted n t) = false
plain (Ran n r t) = false
plain _ = true

counts_nothing : (e : Event) → plain e ≡ true → (k : Kind) → is_kind k e ≡ false
counts_nothing (Sent n to p) h k = absurd (cc)
counts_nothing (Handled n r m) h k = absurd (cc)
counts_nothing (Submitted n t) h k = absurd (cc)
counts_nothing (Ran n r t) h k = absurd (cc)
counts_nothing (TookMessage r n) h sends = refl
counts_nothing (TookMessage r n) h handlings = refl
counts_nothing (TookMessage r n) h submissions = refl
counts_nothing (TookMessage r n) h runs = refl
counts_nothing (TookTask r n) h sends = refl
counts_nothing (TookTask r n) h handlings = refl
counts_nothing (TookTask r n) h submissions = refl
counts_nothing (TookTask r n) h runs = refl
counts_nothing _ h sends = refl
counts_nothing _ h handlings = refl
counts_nothing _ h submissions = refl
counts_nothing _ h runs = refl

other_sent : (log : List Mark) (l : LaneName) (mine : List Event) (k n to : ℕ) (p : Parcel) → Dues log l mine (Sent k to p) → Dues log l mine (Sent n to p)
other_sent log l mine k n to (Spawned u d) h = h
other_sent log l mine k n to (Give d) h = h

for_read : (P : Kind → Event → Type 0) (k : Kind) (v f p : ℕ) → P handlings (ReadHandled v f p) → P runs (ReadRan v f p) → P submissions (ReadSubmitted v f p) → P sends (ReadSent v f p) → P k (reading_event k v f p)
for_read P handlings v f p a b c d = a
for_read P runs v f p a b c d = b
for_read P submissions v f p a b c d = c
for_read P sends v f p a b c d = d

pub read_numbered : (k : Kind) (n v f p : ℕ) → numbered n (reading_event k v f p) ≡ reading_event k n f p
read_numbered handlings n v f p = refl
read_numbered runs n v f p = refl
read_numbered submissions n v f p = refl
read_numbered sends n v f p = refl

pub counted_item : (p : Pending) → IsCounted p → (c : Item) × (p ≡ Counted c)
counted_item (Counted c) h = (c, refl)
counted_item (Drawn f) h = absurd h

-- what was counted was made
counted_made : (task_effects : TaskEffects) (drawn : DrawnCounts) (o : Owed) (log : List Mark) → IsMadeOrDrawn task_effects drawn o log → ((f : EffectName) → o.pending ≡ Drawn f → ⊥) → Made o log
counted_made task_effects drawn o log (inl m) none = m
counted_made task_effects drawn o log (inr h) none = absurd (by_item o.pending refl h.2)
  where
    by_item : (c : Pending) → o.pending ≡ c → IsDrawn task_effects drawn c o.to h.0 → ⊥
    by_item (Counted c) e d = d
    by_item (Drawn f) e d = none f e

module _ (ranks workers : ℕ) (program : List Doing) (may : Label → List Outline → Type 0) (slots id : ℕ) (me : M) (l : LaneName) (mine : List Event) (alone : me.0.parts ≡ own_part l mine ∷ []) (room : length mine < 2 ^ 48) (whole : part l me.0.seen ≡ mine) (hand_lane : l.bin ≡ false) where
  abbrev See : TaskEffects → DrawnCounts → List Mark → Type 0
  See task_effects drawn log = Sees ranks workers program may task_effects drawn log me.0 l mine

  own_seen : (log : List Mark) → Begins me.0.seen log → part l log ≡ mine → SeesItsOwn me.0.seen log l mine
  own_seen log seen own = record { begins = seen; own = whole; whole = own }

  no_item : {A : Type 0} (e : Event) → takes e ≡ None → (c : Item) → takes e ≡ Some c → A
  no_item e n c t = absurd (let z : None ≡ Some c = sym n ∙ t in cc)

  -- a message is sent: a unit, or a value
  pub sends_one : (k to : ℕ) (p : Parcel) → MaySpawn l (in_hand mine) → to < ranks → to ≢ l.rank → Dues me.0.seen l mine (Sent k to p) → (in_hand mine ≡ None → fence_in mine ≡ None) → IsNextEffect program me.0.progress me.0.seen l mine (Sent k to p) (in_hand mine)
      → Allows (ShowsOneRun ranks workers program may) slots id me (word_at sends l.rank) (λ n. (n + 1) % 2 ^ 64) (Appends ranks workers program may l (Sent k to p) (effect_of me.0.progress) me)
  sends_one k to p spawn there away dues outside turn =
      does ranks workers program may slots id me l mine alone room (word_at sends l.rank) (λ n. (n + 1) % 2 ^ 64) (Sent k to p) refl turn
      (λ words log task_effects drawn w small sees. let n = slice_index words (word_at sends l.rank) in (
        record {
          counting = (w.each sends l.rank sees.named.0, spawn, there, away);
          dues = dues_last ranks workers me.0.seen log sees.legal l mine (own_seen log sees.seen sees.own) (Sent n to p) spawn (other_sent me.0.seen l mine k n to p dues);
          fences = outside;
          bins = hand_lane;
        },
        stop_add ranks words sends l.rank ((n + 1) % 2 ^ 64) sees.named.0,
        λ g. words_add ranks words log (mark l (Sent n to p) g) sends w sees.named.0 refl (only_sends n to p) (small sends),
      ))

  -- a task is submitted: a spawn, or for the message in hand
  pub submits_one : (k : ℕ) (t : TaskName) → MaySubmit l (in_hand mine) → Dues me.0.seen l mine (Submitted k t) → (in_hand mine ≡ None → fence_in mine ≡ None) → IsNextEffect program me.0.progress me.0.seen l mine (Submitted k t) (in_hand mine)
      → Allows (ShowsOneRun ranks workers program may) slots id me (word_at submissions l.rank) (λ n. (n + 1) % 2 ^ 64) (Appends ranks workers program may l (Submitted k t) (effect_of me.0.progress) me)
  submits_one k t spawn dues outside turn =
      does ranks workers program may slots id me l mine alone room (word_at submissions l.rank) (λ n. (n + 1) % 2 ^ 64) (Submitted k t) refl turn
      (λ words log task_effects drawn w small sees. let n = slice_index words (word_at submissions l.rank) in (
        record {
          counting = (w.each submissions l.rank sees.named.0, spawn);
          dues = dues_last ranks workers me.0.seen log sees.legal l mine (own_seen log sees.seen sees.own) (Submitted n t) spawn dues;
          fences = outside;
          bins = hand_lane;
        },
        stop_add ranks words submissions l.rank ((n + 1) % 2 ^ 64) sees.named.0,
        λ g. words_add ranks words log (mark l (Submitted n t) g) submissions w sees.named.0 refl (only_submits n t) (small submissions),
      ))

  -- a future has its value: the message in hand brought it, or the task in hand gives it
  pub gives_one : (d : Label) → Dues me.0.seen l mine (Gave d) → IsNextEffect program me.0.progress me.0.seen l mine (Gave d) (in_hand mine)
      → Allows (ShowsOneRun ranks workers program may) slots id me 0 (λ n. n) (Appends ranks workers program may l (Gave d) (effect_of me.0.progress) me)
  gives_one d dues turn =
      does ranks workers program may slots id me l mine alone room 0 (λ n. n) (Gave d) refl turn
      (λ words log task_effects drawn w small sees. (
        record {
          counting = tt;
          dues = dues_last ranks workers me.0.seen log sees.legal l mine (own_seen log sees.seen sees.own) (Gave d) tt dues;
          fences = tt;
          bins = hand_lane;
        },
        stop_same ranks 0 words,
        λ g. words_same ranks 0 words log (mark l (Gave d) g) w (counts_nothing (Gave d) refl),
      ))

  calm_none : in_hand mine ≡ None → (r n : ℕ) → in_hand mine ≡ Some (Task r n) → ⊥
  calm_none i r n h = let z : None ≡ Some (Task r n) = sym i ∙ h in cc

  -- a message that the seat owes is taken in hand
  pub takes_message : (o : Owed) (r n : ℕ) → me.0.owes ≡ Some o → o.pending ≡ Counted (Message r n) → o.to ≡ l.rank → in_hand mine ≡ None
      → Allows (ShowsOneRun ranks workers program may) slots id me 0 (λ n. n) (Appends ranks workers program may l (TookMessage r n) None me)
  takes_message o r n owes is there idle =
      says ranks workers program may slots id me l mine alone room 0 (λ n. n) (TookMessage r n) (calm_none idle)
      (λ c m t. (o, owes, is ∙ ap Counted (let z : Message r n ≡ c = cc in z)))
      (λ m task_effects log. refl)
      (λ words log task_effects drawn w small sees.
      let own = sees.owes o owes in
      let sent = made_message o log (counted_made task_effects drawn o log own.0 (λ g e. counted_or_drawn _ g o.pending is e)) r n is in (
        record {
          counting = (idle, (sent.0, subst (λ (q : ℕ). IsSent r n q sent.0 log) there sent.1), ap (λ c. is_settled c log) (sym is) ∙ own.1);
          dues = tt;
          fences = tt;
          bins = hand_lane;
        },
        stop_same ranks 0 words,
        λ g. words_same ranks 0 words log (mark l (TookMessage r n) g) w (counts_nothing (TookMessage r n) refl),
      ))

  -- a task that the seat owes is taken in hand, whose needs are known as given
  pub takes_task : (o : Owed) (r n : ℕ) → me.0.owes ≡ Some o → o.pending ≡ Counted (Task r n) → o.to ≡ l.rank → in_hand mine ≡ None
      → 1 ≤ times_made (Task r n) me.0.told → ((f : Future) → IsIn f (needs_of (Task r n) me.0.told) → 1 ≤ times_given f me.0.seen)
      → Allows (ShowsOneRun ranks workers program may) slots id me 0 (λ n. n) (Appends ranks workers program may l (TookTask r n) None me)
  takes_task o r n owes is there idle made given =
      says ranks workers program may slots id me l mine alone room 0 (λ n. n) (TookTask r n) (calm_none idle)
      (λ c m t. (o, owes, is ∙ ap Counted (let z : Task r n ≡ c = cc in z)))
      (λ m task_effects log. refl)
      (λ words log task_effects drawn w small sees.
      let own = sees.owes o owes in
      let task = made_task o log (counted_made task_effects drawn o log own.0 (λ g e. counted_or_drawn _ g o.pending is e)) r n is in (
        record {
          counting = (idle, task.2 ∙ there, (task.0, task.1), ap (λ c. is_settled c log) (sym is) ∙ own.1);
          dues = λ f i. let g = given f (subst (IsIn f) (needs_last ranks workers me.0.told log sees.legal sees.told (Task r n) made) i) in omega (arith, g, gives_last me.0.seen log sees.seen f);
          fences = tt;
          bins = hand_lane;
        },
        stop_same ranks 0 words,
        λ g. words_same ranks 0 words log (mark l (TookTask r n) g) w (counts_nothing (TookTask r n) refl),
      ))

  -- what the seat owes is taken in hand
  pub takes_one : (o : Owed) → me.0.owes ≡ Some o → o.to ≡ l.rank → (c : Item) → o.pending ≡ Counted c → in_hand mine ≡ None → Made o me.0.told
      → NeedsKnown (Counted c) me.0.told me.0.seen
      → Allows (ShowsOneRun ranks workers program may) slots id me 0 (λ n. n) (Appends ranks workers program may l (took (Counted c)) None me)
  takes_one o owes there c is idle made given = by_item c is given
    where
      by_item : (c : Item) → o.pending ≡ Counted c → NeedsKnown (Counted c) me.0.told me.0.seen → Allows (ShowsOneRun ranks workers program may) slots id me 0 (λ n. n) (Appends ranks workers program may l (took (Counted c)) None me)
      by_item (Message r n) is _ = takes_message o r n owes is there idle
      by_item (Task r n) is given = takes_task o r n owes is there idle (made_times o me.0.told made (Task r n) is) given

  -- the message in hand is handled
  pub handles_one : (k r m : ℕ) → in_hand mine ≡ Some (Message r m) → is_fresh mine ≡ false
      → Allows (ShowsOneRun ranks workers program may) slots id me (word_at handlings l.rank) (λ n. (n + 1) % 2 ^ 64) (Appends ranks workers program may l (Handled k r m) None me)
  handles_one k r m hand done =
      says ranks workers program may slots id me l mine alone room (word_at handlings l.rank) (λ n. (n + 1) % 2 ^ 64) (Handled k r m)
      (λ q n h. let z : Some (Message r m) ≡ Some (Task q n) = sym hand ∙ h in cc)
      (λ c n t. no_item (Handled n r m) refl c t)
      (λ n task_effects log. refl)
      (λ words log task_effects drawn w small sees. let n = slice_index words (word_at handlings l.rank) in (
        record { counting = (w.each handlings l.rank sees.named.0, hand); dues = done; fences = tt; bins = hand_lane },
        stop_add ranks words handlings l.rank ((n + 1) % 2 ^ 64) sees.named.0,
        λ g. words_add ranks words log (mark l (Handled n r m) g) handlings w sees.named.0 refl (only_handles n r m) (small handlings),
      ))

  -- a main enters its next fence
  pub enters_one : (f : ℕ) → l ≡ main_of l.rank → in_hand mine ≡ None → fence_in mine ≡ None → f ≡ suc (enters mine) → NeedsAreDues (main_at l.rank) me.0.seen → slice_get (program_at l.rank program) (deeds mine) ≡ Some Wait
      → Allows (ShowsOneRun ranks workers program may) slots id me 0 (λ n. n) (Appends ranks workers program may l (Enter f) None me)
  enters_one f main idle outside number needs turn =
      says ranks workers program may slots id me l mine alone room 0 (λ n. n) (Enter f) (calm_none idle)
      (λ c n t. no_item (Enter f) refl c t)
      (λ n task_effects log. (turn, refl))
      (λ words log task_effects drawn w small sees. (
        record {
          counting = tt;
          dues = dues_last ranks workers me.0.seen log sees.legal l mine (own_seen log sees.seen sees.own) (Enter f) (main, idle) needs;
          fences = (main, idle, outside, number);
          bins = hand_lane;
        },
        stop_same ranks 0 words,
        λ g. words_same ranks 0 words log (mark l (Enter f) g) w (counts_nothing (Enter f) refl),
      ))

  -- a main leaves its fence, whose receipt it knows
  pub leaves_one : (f : ℕ) → IsIdleIn l mine f → has_receipt f me.0.seen ≡ true
      → Allows (ShowsOneRun ranks workers program may) slots id me 0 (λ n. n) (Appends ranks workers program may l (Leave f) None me)
  leaves_one f idle known =
      says ranks workers program may slots id me l mine alone room 0 (λ n. n) (Leave f) (calm_none idle.1)
      (λ c n t. no_item (Leave f) refl c t)
      (λ n task_effects log. refl)
      (λ words log task_effects drawn w small sees. (
        record { counting = tt; dues = tt; fences = (idle, receipt_lasts me.0.seen log sees.seen f known); bins = hand_lane },
        stop_same ranks 0 words,
        λ g. words_same ranks 0 words log (mark l (Leave f) g) w (counts_nothing (Leave f) refl),
      ))

  -- the receipt of a fence, on the lane of rank 0's main, from the rows of two passes that it knows
  pub receives_one : (r : Receipt) → Fences ranks me.0.seen l mine (Receives r)
      → Allows (ShowsOneRun ranks workers program may) slots id me 0 (λ n. n) (Appends ranks workers program may l (Receives r) None me)
  receives_one r known =
      says ranks workers program may slots id me l mine alone room 0 (λ n. n) (Receives r) (calm_none known.1.1)
      (λ c n t. no_item (Receives r) refl c t)
      (λ n task_effects log. refl)
      (λ words log task_effects drawn w small sees. (
        record { counting = tt; dues = tt; fences = fences_last ranks workers me.0.seen log sees.legal l mine (own_seen log sees.seen sees.own) (Receives r) refl known; bins = hand_lane },
        stop_same ranks 0 words,
        λ g. words_same ranks 0 words log (mark l (Receives r) g) w (counts_nothing (Receives r) refl),
      ))

  -- a reading of a count of the lane's own rank
  pub reads_one : (k : Kind) (v f p : ℕ) → IsNextReading ranks me.0.seen l mine k f p
      → Allows (ShowsOneRun ranks workers program may) slots id me (word_at k l.rank) (λ n. n) (Appends ranks workers program may l (reading_event k v f p) None me)
  reads_one k v f p known =
      says ranks workers program may slots id me l mine alone room (word_at k l.rank) (λ n. n) (reading_event k v f p) (calm_none known.0.1)
      (λ c n t. no_item (numbered n (reading_event k v f p)) (for_read (λ _ e. takes (numbered n e) ≡ None) k v f p refl refl refl refl) c t)
      (λ n task_effects log. for_read (λ _ e. Goes program task_effects log (mark l (numbered n e) None) mine (numbered n e)) k v f p refl refl refl refl)
      (λ words log task_effects drawn w small sees. let n = slice_index words (word_at k l.rank) in
      let number : n ≡ count k l.rank log = w.each k l.rank sees.named.0 in
      let read : Reads ranks log l mine k n f p = subst (λ (m : ℕ). Reads ranks log l mine k m f p) (sym number) (reads_last ranks workers me.0.seen log sees.legal l mine (own_seen log sees.seen sees.own) k f p known) in (
        record {
          counting = for_read (λ _ e. Counting ranks log l mine (numbered n e)) k v f p tt tt tt tt;
          dues = for_read (λ _ e. Dues log l mine (numbered n e)) k v f p tt tt tt tt;
          fences = subst (Fences ranks log l mine) (sym (read_numbered k n v f p)) (by_kind k log n read);
          bins = for_read (λ _ e. Bins l mine (numbered n e)) k v f p hand_lane hand_lane hand_lane hand_lane;
        },
        stop_same ranks (word_at k l.rank) words,
        λ g. words_same ranks (word_at k l.rank) words log (mark l (numbered n (reading_event k v f p)) g) w (counts_nothing (numbered n (reading_event k v f p)) (for_read (λ _ e. plain (numbered n e) ≡ true) k v f p refl refl refl refl)),
      ))
    where
      by_kind : (k : Kind) (log : List Mark) (n : ℕ) → Reads ranks log l mine k n f p → Fences ranks log l mine (reading_event k n f p)
      by_kind handlings log n h = h
      by_kind runs log n h = h
      by_kind submissions log n h = h
      by_kind sends log n h = h
