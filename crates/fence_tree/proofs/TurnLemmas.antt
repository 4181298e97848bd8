-- How what is known of a main's lane goes on from step to step of a turn.
use Rattle.std.proofs.Common.{◌≡◌, ◌⊎◌, ℕ, zero, suc, ◌<◌, ◌≤◌, ◌^◌, Bool, false, List, [], ◌∷◌, ◌++◌, length, refl, sym, ap, subst, ◌∙◌, inl, inr, arith, append_assoc, length-append}
use Rattle.std.specs.Prelude.{Option, Some, None, replicate}
use Rattle.std.specs.List.{AllByRecursion}
use Rattle.std.proofs.lemmas.Bool.{cases_order}
use Rattle.app_core.specs.declared.label.Label.{Label}
use Rattle.app_core.specs.declared.outline.Outline.{Outline}
use Rattle.event_lists.specs.declared.event.Event.{Event}
use Rattle.event_lists.specs.declared.event.Event.TheVariants.{Sent, TookMessage, TookTask, Handled, Submitted, Ran, Gave, ReadHandled, ReadRan, ReadSubmitted, ReadSent, Enter, Leave, Receipt as Receives, Put, Erased}
use Rattle.event_lists.specs.declared.receipt.Row.{Row}
use Rattle.event_lists.specs.declared.kind.Kind.TheVariants.{Submissions as submissions, Runs as runs}
use Rattle.event_lists.specs.declared.mark.Mark.{Mark}
use Rattle.event_lists.specs.declared.lane.LaneName.{LaneName}
use Rattle.event_lists.specs.Events.{main_of, part, Begins, count, in_hand, hand_after}
use Rattle.event_lists.specs.Fences.{readings, passes, fence_in, MayOpen, row_of, IsIdleIn}
use Rattle.event_lists.specs.OwnEvents.{has_receipt_on_lane}
use Rattle.event_lists.specs.Legal.{Legal}
use Rattle.event_lists.proofs.ListLemmas.{begins_trans, on_begins}
use Rattle.event_lists.proofs.FenceLemmas.{row_lasts, complete_lasts, sent_lasts, handled_lasts}
use Rattle.event_lists.proofs.WaitingLemmas.{weighed}
use Rattle.event_lists.proofs.WeightLemmas.{task_weight, made_tasks, ended_tasks}
use Rattle.world_rule.specs.declared.view.CountLooks.{CountLooks}
use Rattle.world_rule.specs.Owing.{made_by}
use Rattle.world_rule.specs.Views.{progress_after}
use Rattle.world_words.specs.Lanes.{WordsView, LaneView, SeesMore, Grew}
use Rattle.fence_tree.specs.declared.rows.Sums.{Sums}
use Rattle.fence_tree.specs.declared.items.Verdict.{Verdict}
use Rattle.fence_tree.specs.declared.items.Verdict.TheVariants.{FirstPass, Moved, Done}
use Rattle.fence_tree.specs.Rows.{row_at, no_rows, AreRead}
use Rattle.fence_tree.specs.Verdicts.{AreSums, IsRight, AnnouncementView, IsAnnouncement}
use Rattle.fence_tree.specs.Turns.{StateView, IsInside, HasRead, Knows, IsTurning, IsReached, passes_read, IsOfFence, Turned}
use Rattle.fence_tree.specs.declared.state.Stage.{Stage}
use Rattle.fence_tree.specs.declared.state.Stage.TheVariants.{Reading as at_reading, FirstChild, SecondChild, Reported}

-- what a list shows lasts

pub sums_last : (ranks workers : ℕ) (old log : List Mark) → Legal ranks workers log → Begins old log → (f p : ℕ) (s : Sums) → AreSums ranks f p s old → AreSums ranks f p s log
sums_last ranks workers old log legal more f p s a = record {
  complete = complete_lasts ranks workers old log legal more f p a.complete;
  sent = a.sent ∙ sym (sent_lasts ranks workers old log legal more f p a.complete);
  handled = a.handled ∙ sym (handled_lasts ranks workers old log legal more f p a.complete);
}

pub right_lasts : (ranks workers : ℕ) (old log : List Mark) → Legal ranks workers log → Begins old log → (f p : ℕ) (v : Verdict) → IsRight ranks f p v old → IsRight ranks f p v log
right_lasts ranks workers old log legal more f p (FirstPass s) r = (r.0, sums_last ranks workers old log legal more f 1 s r.1)
right_lasts ranks workers old log legal more f p (Moved a b) (d, is, one, two, differ) = (d, is, sums_last ranks workers old log legal more f (suc d) a one, sums_last ranks workers old log legal more f p b two, differ)
right_lasts ranks workers old log legal more f p (Done r) h = (h.0, on_begins _ _ old log more h.1)

pub read_lasts : (ranks workers : ℕ) (old log : List Mark) → Legal ranks workers log → Begins old log → (f p : ℕ) (rows : List (Option Row)) → AreRead f p rows old → AreRead f p rows log
read_lasts ranks workers old log legal more f p rows are q row is = row_lasts ranks workers old log legal more q f p row (are q row is)

-- no rows, no reading
pub none_at : (q : ℕ) → row_at no_rows q ≡ None
none_at q = go 16 q
  where
    go : (n q : ℕ) → row_at (replicate n None) q ≡ None
    go zero q = refl
    go (suc n) zero = refl
    go (suc n) (suc q) = go n q

pub no_row_read : (f p : ℕ) (log : List Mark) → AreRead f p no_rows log
no_row_read f p log q row is = absurd (none_is_some (sym (none_at q) ∙ is))
  where
    none_is_some : None ≡ Some row → ⊥
    none_is_some e = cc

-- tasks that ran were submitted
pub runs_below : (ranks workers r : ℕ) (log : List Mark) → Legal ranks workers log → count runs r log ≤ count submissions r log
runs_below ranks workers r log legal =
    let all = weighed (task_weight r) ranks workers log legal in
    let made = made_tasks r log in
    let ended = ended_tasks r ranks workers log legal in
    omega (arith, all, made, ended)

-- a step without an event

module _ {A : Type 0} (words : WordsView A) (may : Label → List Outline → Type 0) (old new : LaneView) where
  pub record Still : Type 0 where
    pub table : new.table ≡ old.table
    pub name : new.name ≡ old.name
    pub owes : new.owes ≡ old.owes
    pub mine : new.mine ≡ old.mine
    pub seen : Begins old.seen new.seen
    pub legal : Legal words.ranks words.workers new.seen
    pub own : part new.name new.seen ≡ new.mine
    pub spare : new.spare ≡ old.spare
    pub progress : new.progress ≡ old.progress
    pub other : (new.set_stop ≡ old.set_stop) × (new.kept ≡ old.kept)

  pub inside_still : Still → (rank fence : ℕ) → IsInside words rank fence old → IsInside words rank fence new
  inside_still s rank fence i = record {
    table = s.table ∙ i.table;
    name = s.name ∙ i.name;
    owes = s.owes ∙ i.owes;
    hand = ap in_hand s.mine ∙ i.hand;
    inside = ap fence_in s.mine ∙ i.inside;
    legal = s.legal;
    own = s.own;
  }

  pub has_read_still : Still → (rank fence n : ℕ) → HasRead words rank fence n old → HasRead words rank fence n new
  has_read_still s rank fence n h = record {
    lane = inside_still s rank fence h.lane;
    passes = ap (λ (es : List Event). passes (readings es)) s.mine ∙ h.passes;
    ended = subst (λ (es : List Event). MayOpen (readings es)) (sym s.mine) h.ended;
  }

  pub knows_after : (state : StateView) (n m : ℕ) → Knows words state n old → HasRead words state.rank state.fence m new → Begins old.seen new.seen
      → has_receipt_on_lane state.fence new.mine ≡ has_receipt_on_lane state.fence old.mine → Knows words state m new
  knows_after state n m k read more same = record {
    ranks = k.ranks;
    read = read;
    no_receipt = same ∙ k.no_receipt;
    rows = read_lasts words.ranks words.workers old.seen new.seen read.lane.legal more state.fence (suc state.answered) state.rows k.rows;
    last = λ d is. sums_last words.ranks words.workers old.seen new.seen read.lane.legal more state.fence (suc d) state.last (k.last d is);
  }

  pub knows_still : Still → (state : StateView) (n : ℕ) → Knows words state n old → Knows words state n new
  knows_still s state n k = knows_after state n n k (has_read_still s state.rank state.fence n k.read) s.seen (ap (has_receipt_on_lane state.fence) s.mine)

-- what is told is learnt: only what the lane sees grows
pub still_learnt : {A : Type 0} (words : WordsView A) (may : Label → List Outline → Type 0) (old new : LaneView) → new ≡ record old { seen = new.seen } → SeesMore words may old new → Still words may old new
still_learnt words may old new is sees = record {
  table = ap (λ (v : LaneView). v.table) is;
  name = ap (λ (v : LaneView). v.name) is;
  owes = ap (λ (v : LaneView). v.owes) is;
  mine = ap (λ (v : LaneView). v.mine) is;
  seen = sees.seen;
  legal = sees.run.1.legal;
  own = sees.own;
  spare = ap (λ (v : LaneView). v.spare) is;
  progress = ap (λ (v : LaneView). v.progress) is;
  other = (ap (λ (v : LaneView). v.set_stop) is, ap (λ (v : LaneView). v.kept) is);
}

-- and looks change nothing else
pub still_ran : {A : Type 0} (words : WordsView A) (may : Label → List Outline → Type 0) (old new : LaneView) (looks : CountLooks) → new ≡ record old { seen = new.seen; ran_looks = looks } → SeesMore words may old new → Still words may old new
still_ran words may old new looks is sees = record {
  table = ap (λ (v : LaneView). v.table) is;
  name = ap (λ (v : LaneView). v.name) is;
  owes = ap (λ (v : LaneView). v.owes) is;
  mine = ap (λ (v : LaneView). v.mine) is;
  seen = sees.seen;
  legal = sees.run.1.legal;
  own = sees.own;
  spare = ap (λ (v : LaneView). v.spare) is;
  progress = ap (λ (v : LaneView). v.progress) is;
  other = (ap (λ (v : LaneView). v.set_stop) is, ap (λ (v : LaneView). v.kept) is);
}

pub still_submitted : {A : Type 0} (words : WordsView A) (may : Label → List Outline → Type 0) (old new : LaneView) (looks : CountLooks) → new ≡ record old { seen = new.seen; submitted_looks = looks } → SeesMore words may old new → Still words may old new
still_submitted words may old new looks is sees = record {
  table = ap (λ (v : LaneView). v.table) is;
  name = ap (λ (v : LaneView). v.name) is;
  owes = ap (λ (v : LaneView). v.owes) is;
  mine = ap (λ (v : LaneView). v.mine) is;
  seen = sees.seen;
  legal = sees.run.1.legal;
  own = sees.own;
  spare = ap (λ (v : LaneView). v.spare) is;
  progress = ap (λ (v : LaneView). v.progress) is;
  other = (ap (λ (v : LaneView). v.set_stop) is, ap (λ (v : LaneView). v.kept) is);
}

pub still_stop : {A : Type 0} (words : WordsView A) (may : Label → List Outline → Type 0) (old new : LaneView) (n : ℕ) (b : Bool) → new ≡ record old { seen = new.seen; stop_looks = n; saw_stop = b } → SeesMore words may old new → Still words may old new
still_stop words may old new n b is sees = record {
  table = ap (λ (v : LaneView). v.table) is;
  name = ap (λ (v : LaneView). v.name) is;
  owes = ap (λ (v : LaneView). v.owes) is;
  mine = ap (λ (v : LaneView). v.mine) is;
  seen = sees.seen;
  legal = sees.run.1.legal;
  own = sees.own;
  spare = ap (λ (v : LaneView). v.spare) is;
  progress = ap (λ (v : LaneView). v.progress) is;
  other = (ap (λ (v : LaneView). v.set_stop) is, ap (λ (v : LaneView). v.kept) is);
}

-- the lane's part grows

pub still_turned : {A : Type 0} (words : WordsView A) (may : Label → List Outline → Type 0) (fence : ℕ) (old new : LaneView) → Still words may old new → Turned fence old new
still_turned words may fence old new s = record {
  more = [];
  events = s.mine;
  of_fence = tt;
  spare = let e = s.spare in omega (arith, e);
  knew = s.seen;
  same = (s.table, s.name, s.owes, s.progress);
  other = s.other;
}

all_both : (fence : ℕ) (xs ys : List Event) → AllByRecursion (IsOfFence fence) xs → AllByRecursion (IsOfFence fence) ys → AllByRecursion (IsOfFence fence) (xs ++ ys)
all_both fence [] ys a b = b
all_both fence (x ∷ xs) ys a b = (a.0, all_both fence xs ys a.1 b)

pub turned_both : (fence : ℕ) (a b c : LaneView) → Turned fence a b → Turned fence b c → Turned fence a c
turned_both fence a b c one two = record {
  more = two.more ++ one.more;
  events = two.events ∙ ap (λ (es : List Event). two.more ++ es) one.events ∙ sym (append_assoc two.more one.more a.mine);
  of_fence = all_both fence two.more one.more two.of_fence one.of_fence;
  spare = let long = length-append two.more one.more in let s = one.spare in let t = two.spare in omega (arith, long, s, t);
  knew = begins_trans _ _ _ one.knew two.knew;
  same = (two.same.0 ∙ one.same.0, two.same.1 ∙ one.same.1, two.same.2 ∙ one.same.2, two.same.3 ∙ one.same.3);
  other = (two.other.0 ∙ one.other.0, two.other.1 ∙ one.other.1);
}

-- an event of a fence: it leaves nothing in hand and owes nothing
module _ {A : Type 0} (words : WordsView A) (may : Label → List Outline → Type 0) (old new : LaneView) where
  pub turned_one : (fence : ℕ) (e : Event) → Grew words may e None old new → IsOfFence fence e → old.owes ≡ None → made_by old.name e ≡ None → progress_after e old.progress ≡ old.progress → Turned fence old new
  turned_one fence e g is free makes works = record {
    more = e ∷ [];
    events = g.event;
    of_fence = (is, tt);
    spare = let s = g.spare in omega (arith, s);
    knew = g.sees.seen;
    same = (g.same.0, g.same.1, g.owing ∙ makes ∙ sym free, g.progress ∙ works);
    other = (g.stop.0, g.kept);
  }

  pub inside_after : (rank fence : ℕ) (e : Event) → Grew words may e None old new → IsInside words rank fence old → made_by old.name e ≡ None → hand_after e None ≡ None → fence_in (e ∷ old.mine) ≡ fence_in old.mine → IsInside words rank fence new
  inside_after rank fence e g i makes hand same = record {
    table = g.same.0 ∙ i.table;
    name = g.same.1 ∙ i.name;
    owes = g.owing ∙ makes;
    hand = ap in_hand g.event ∙ ap (hand_after e) i.hand ∙ hand;
    inside = ap fence_in g.event ∙ same ∙ i.inside;
    legal = g.sees.run.1.legal;
    own = g.sees.own;
  }

pub idle : {A : Type 0} (words : WordsView A) (rank fence : ℕ) (v : LaneView) → IsInside words rank fence v → IsIdleIn v.name v.mine fence
idle words rank fence v i = (i.name ∙ sym (ap (λ (l : LaneName). main_of l.rank) i.name), i.hand, i.inside)

pub not_bin : {A : Type 0} (words : WordsView A) (rank fence : ℕ) (v : LaneView) → IsInside words rank fence v → (v.owes ≡ None) × (v.name.bin ≡ false)
not_bin words rank fence v i = (i.owes, ap (λ (l : LaneName). l.bin) i.name)

-- the passes on a lane are no more than its events
pub passes_below : (es : List Event) → passes (readings es) ≤ length es
passes_below [] = omega arith
passes_below (ReadHandled v f p ∷ es) = let b = passes_below es in omega (arith, b)
passes_below (ReadRan v f p ∷ es) = let b = passes_below es in omega (arith, b)
passes_below (ReadSubmitted v f p ∷ es) = let b = passes_below es in omega (arith, b)
passes_below (ReadSent v f p ∷ es) = let b = passes_below es in omega (arith, b)
passes_below (Enter f ∷ es) = omega arith
passes_below (Leave f ∷ es) = let b = passes_below es in omega (arith, b)
passes_below (Receives r ∷ es) = let b = passes_below es in omega (arith, b)
passes_below (Sent n t p ∷ es) = let b = passes_below es in omega (arith, b)
passes_below (TookMessage r n ∷ es) = let b = passes_below es in omega (arith, b)
passes_below (TookTask r n ∷ es) = let b = passes_below es in omega (arith, b)
passes_below (Handled n r m ∷ es) = let b = passes_below es in omega (arith, b)
passes_below (Submitted n t ∷ es) = let b = passes_below es in omega (arith, b)
passes_below (Ran n r t ∷ es) = let b = passes_below es in omega (arith, b)
passes_below (Gave f ∷ es) = let b = passes_below es in omega (arith, b)
passes_below (Put m ∷ es) = let b = passes_below es in omega (arith, b)
passes_below (Erased m ∷ es) = let b = passes_below es in omega (arith, b)

pub few_answered : {A : Type 0} (words : WordsView A) (s : StateView) (v : LaneView) → IsTurning words s v → length v.mine < 2 ^ 48 → s.answered < 2 ^ 48
few_answered words s v t few = let b = passes_below v.mine in let p = t.knows.read.passes in let m = most s.stage s.answered in omega (arith, b, p, m, few)
  where
    most : (g : Stage) (n : ℕ) → n ≤ passes_read g n
    most at_reading n = omega arith
    most FirstChild n = omega arith
    most SecondChild n = omega arith
    most Reported n = omega arith

pub turning_still : {A : Type 0} (words : WordsView A) (may : Label → List Outline → Type 0) (s : StateView) (old new : LaneView) → Still words may old new → IsTurning words s old → IsTurning words s new
turning_still words may s old new still t = record {
  knows = knows_still words may old new still s (passes_read s.stage s.answered) t.knows;
  gathered = t.gathered;
}

-- where nothing was read of the pass
pub read_so_far : {A : Type 0} (words : WordsView A) (s : StateView) (v : LaneView) → s.stage ≡ at_reading → IsTurning words s v → Knows words s s.answered v
read_so_far words s v at t = subst (λ (g : Stage). Knows words s (passes_read g s.answered) v) at t.knows

-- the rank's own row is known
pub own_row : {A : Type 0} (words : WordsView A) (s : StateView) (v : LaneView) → Knows words s (suc s.answered) v → (rows : List (Option Row)) (row : Row) → row_at rows s.rank ≡ Some row
    → ((q : ℕ) → (q ≡ s.rank → ⊥) → row_at rows q ≡ row_at s.rows q) → s.rows ≡ no_rows → row_of s.fence (suc s.answered) (part (main_of s.rank) v.seen) ≡ Some row
    → IsTurning words (record s { stage = FirstChild; rows = rows }) v
own_row words s v k rows row own others none found = record {
  knows = record {
    ranks = k.ranks;
    read = k.read;
    no_receipt = k.no_receipt;
    rows = λ q other e. go q other e (cases_order q s.rank);
    last = k.last;
  };
  gathered = (row, own);
}
  where
    away : (q : ℕ) (other : Row) → (q ≡ s.rank → ⊥) → row_at rows q ≡ Some other → row_of s.fence (suc s.answered) (part (main_of q) v.seen) ≡ Some other
    away q other apart e = no_row_read s.fence (suc s.answered) v.seen q other (sym (others q apart ∙ ap (λ (z : List (Option Row)). row_at z q) none) ∙ e)

    go : (q : ℕ) (other : Row) → row_at rows q ≡ Some other → (q ≡ s.rank) ⊎ ((q < s.rank) ⊎ (s.rank < q)) → row_of s.fence (suc s.answered) (part (main_of q) v.seen) ≡ Some other
    go q other e (inl same) =
        subst (λ (z : ℕ). row_of s.fence (suc s.answered) (part (main_of z) v.seen) ≡ Some other) (sym same) (found ∙ sym own ∙ sym (ap (row_at rows) same) ∙ e)
    go q other e (inr (inl lt)) = away q other (λ same. omega (arith, same, lt)) e
    go q other e (inr (inr lt)) = away q other (λ same. omega (arith, same, lt)) e

-- a verdict that was told, and is known from then on
pub heard : {A : Type 0} (words : WordsView A) (may : Label → List Outline → Type 0) (s : StateView) (old new : LaneView) → Still words may old new → Knows words s (suc s.answered) old
    → (a : AnnouncementView) → IsAnnouncement words a → a.fence ≡ s.fence → a.pass ≡ suc s.answered → Begins a.told.seen new.seen → (verdict : Verdict) → verdict ≡ a.verdict → IsReached words s.rank s.fence s.answered verdict new
heard words may s old new still k a is fence pass learnt verdict same = record {
  read = has_read_still words may old new still s.rank s.fence (suc s.answered) k.read;
  right = subst (λ (v : Verdict). IsRight words.ranks s.fence (suc s.answered) v new.seen) (sym same)
      (subst (λ (f : ℕ). IsRight words.ranks f (suc s.answered) a.verdict new.seen) fence
      (subst (λ (p : ℕ). IsRight words.ranks a.fence p a.verdict new.seen) pass
      (right_lasts words.ranks words.workers a.told.seen new.seen still.legal learnt a.fence a.pass a.verdict is.right)));
  no_receipt = λ _. ap (has_receipt_on_lane s.fence) still.mine ∙ k.no_receipt;
}
