-- What counting one more event does to the counts.
use Rattle.std.proofs.Common.{◌≡◌, ℕ, suc, ◌+◌, ◌^◌, ◌≤◌, ◌<◌, min, Bool, true, false, List, [], ◌∷◌, length, ap, sym, ◌∙◌, refl, arith}
use Rattle.std.specs.Prelude.{if◌then◌else◌, ◌&&◌, ◌==◌, Option, Some, None}
use Rattle.std.proofs.lemmas.Bool.{and_parts, eqb-true}
use Rattle.event_lists.specs.declared.lane.LaneName.{LaneName}
use Rattle.event_lists.specs.declared.kind.Kind.{Kind}
use Rattle.event_lists.specs.declared.kind.Kind.TheVariants.{Sends as sends, Handlings as handlings, Submissions as submissions, Runs as runs}
use Rattle.event_lists.specs.declared.event.Event.{Event}
use Rattle.event_lists.specs.declared.event.Event.TheVariants.{Sent, TookMessage, TookTask, Handled, Submitted, Ran, Gave, Put, Erased, ReadHandled, ReadRan, ReadSubmitted, ReadSent, Enter, Leave, Receipt as Receives}
use Rattle.event_lists.specs.declared.mark.Mark.{Mark}
use Rattle.event_lists.specs.Events.{is_kind, counts, count}
use Rattle.event_rules.specs.Listed.{on}
use Rattle.event_tables.specs.declared.keys.CountName.{CountName}
use Rattle.event_tables.specs.declared.table.Table.{Table}
use Rattle.event_tables.specs.Keys.{same_kind, same_count}
use Rattle.event_tables.specs.Contents.{KeepsCounts, max_events}
use Rattle.event_tables.specs.Tables.{value_at}
use Rattle.event_tables.specs.Touched.{kind_of}

same_kind_true : (a b : Kind) → same_kind a b ≡ true → a ≡ b
same_kind_true sends sends e = refl
same_kind_true handlings handlings e = refl
same_kind_true submissions submissions e = refl
same_kind_true runs runs e = refl
same_kind_true sends handlings e = absurd (cc)
same_kind_true sends submissions e = absurd (cc)
same_kind_true sends runs e = absurd (cc)
same_kind_true handlings sends e = absurd (cc)
same_kind_true handlings submissions e = absurd (cc)
same_kind_true handlings runs e = absurd (cc)
same_kind_true submissions sends e = absurd (cc)
same_kind_true submissions handlings e = absurd (cc)
same_kind_true submissions runs e = absurd (cc)
same_kind_true runs sends e = absurd (cc)
same_kind_true runs handlings e = absurd (cc)
same_kind_true runs submissions e = absurd (cc)

counted_as : Option Kind → Kind → Bool
counted_as None k = false
counted_as (Some j) k = same_kind j k

-- an event is of the kind that it is counted as
kind_is : (k : Kind) (e : Event) → is_kind k e ≡ counted_as (kind_of e) k
unfolding counted_as
kind_is sends (Sent n to p) = refl
kind_is sends (TookMessage r n) = refl
kind_is sends (TookTask r n) = refl
kind_is sends (Handled n r m) = refl
kind_is sends (Submitted n t) = refl
kind_is sends (Ran n r t) = refl
kind_is sends (Gave f) = refl
kind_is sends (Put c) = refl
kind_is sends (Erased c) = refl
kind_is sends (ReadHandled v f p) = refl
kind_is sends (ReadRan v f p) = refl
kind_is sends (ReadSubmitted v f p) = refl
kind_is sends (ReadSent v f p) = refl
kind_is sends (Enter f) = refl
kind_is sends (Leave f) = refl
kind_is sends (Receives r) = refl
kind_is handlings (Sent n to p) = refl
kind_is handlings (TookMessage r n) = refl
kind_is handlings (TookTask r n) = refl
kind_is handlings (Handled n r m) = refl
kind_is handlings (Submitted n t) = refl
kind_is handlings (Ran n r t) = refl
kind_is handlings (Gave f) = refl
kind_is handlings (Put c) = refl
kind_is handlings (Erased c) = refl
kind_is handlings (ReadHandled v f p) = refl
kind_is handlings (ReadRan v f p) = refl
kind_is handlings (ReadSubmitted v f p) = refl
kind_is handlings (ReadSent v f p) = refl
kind_is handlings (Enter f) = refl
kind_is handlings (Leave f) = refl
kind_is handlings (Receives r) = refl
kind_is submissions (Sent n to p) = refl
kind_is submissions (TookMessage r n) = refl
kind_is submissions (TookTask r n) = refl
kind_is submissions (Handled n r m) = refl
kind_is submissions (Submitted n t) = refl
kind_is submissions (Ran n r t) = refl
kind_is submissions (Gave f) = refl
kind_is submissions (Put c) = refl
kind_is submissions (Erased c) = refl
kind_is submissions (ReadHandled v f p) = refl
kind_is submissions (ReadRan v f p) = refl
kind_is submissions (ReadSubmitted v f p) = refl
kind_is submissions (ReadSent v f p) = refl
kind_is submissions (Enter f) = refl
kind_is submissions (Leave f) = refl
kind_is submissions (Receives r) = refl
kind_is runs (Sent n to p) = refl
kind_is runs (TookMessage r n) = refl
kind_is runs (TookTask r n) = refl
kind_is runs (Handled n r m) = refl
kind_is runs (Submitted n t) = refl
kind_is runs (Ran n r t) = refl
kind_is runs (Gave f) = refl
kind_is runs (Put c) = refl
kind_is runs (Erased c) = refl
kind_is runs (ReadHandled v f p) = refl
kind_is runs (ReadRan v f p) = refl
kind_is runs (ReadSubmitted v f p) = refl
kind_is runs (ReadSent v f p) = refl
kind_is runs (Enter f) = refl
kind_is runs (Leave f) = refl
kind_is runs (Receives r) = refl

-- no count is above the number of events
pub count_within : (k : Kind) (r : ℕ) (log : List Mark) → count k r log ≤ length log
count_within k r [] = omega arith
count_within k r (x ∷ log) = go (counts k r x) (count_within k r log)
  where
    go : (b : Bool) → count k r log ≤ length log → (if b then 1 else 0) + count k r log ≤ suc (length log)
    go true le = omega (arith, le)
    go false le = omega (arith, le)

-- one more than a count below the limit is no more than a number of 64 bits
raised : (n v m : ℕ) → v ≡ min (m + 1) 18446744073709551615 → m ≡ n → n < 2 ^ 48 → v ≡ 1 + n
raised n v m is same short = omega (arith, is, same, short)

pub counted : (l : LaneName) (e : Event) (log : List Mark) (k : Kind) → kind_of e ≡ Some k → length log < max_events → (old new : Table CountName ℕ) → KeepsCounts log old
    → (v m : ℕ) → v ≡ min (m + 1) 18446744073709551615 → m ≡ value_at same_count old (record { rank = l.rank; kind = k })
    → ((c : CountName) → value_at same_count new c ≡ (if same_count (record { rank = l.rank; kind = k }) c then v else value_at same_count old c))
    → KeepsCounts (on l e ∷ log) new
unfolding counted_as
counted l e log k is short old new keeps v m sum at values c = values c ∙ go ((l.rank == c.rank) && same_kind k c.kind) refl ∙ sym (ap (λ b. (if b then 1 else 0) + count c.kind c.rank log) here)
  where
    here : counts c.kind c.rank (on l e) ≡ ((l.rank == c.rank) && same_kind k c.kind)
    here = ap (λ b. (l.rank == c.rank) && b) (kind_is c.kind e ∙ ap (λ o. counted_as o c.kind) is)

    go : (b : Bool) → ((l.rank == c.rank) && same_kind k c.kind) ≡ b → (if b then v else value_at same_count old c) ≡ (if b then 1 else 0) + count c.kind c.rank log
    go true e = let p = and_parts (l.rank == c.rank) (same_kind k c.kind) e in
        raised (count c.kind c.rank log) v m sum (at ∙ keeps (record { rank = l.rank; kind = k }) ∙ (λ i. count (same_kind_true k c.kind p.1 i) (eqb-true l.rank c.rank p.0 i) log))
        (let w = count_within c.kind c.rank log in omega (arith, w, short))
    go false e = keeps c ∙ omega arith
