-- Lemmas that crates above use: what is pending, what settles it, what was made, and who owes it.
use Rattle.std.proofs.Common.{◌≡◌, ◌≢◌, ◌⊎◌, ℕ, ◌≤◌, Bool, true, false, List, [], ◌∷◌, ◌++◌, refl, sym, ap, ◌∙◌, subst, inl, inr, ⊎_elim}
use Rattle.std.specs.Prelude.{Option, Some, None, if◌then◌else◌, ◌==◌, ◌&&◌}
use Rattle.std.proofs.lemmas.Bool.{cases_Bool, or_from, or_right, eq-eqb, eqb-true, and_parts, and_from}
use Rattle.event_lists.specs.declared.lane.LaneName.{LaneName}
use Rattle.event_lists.specs.declared.event.Event.{Event}
use Rattle.event_lists.specs.declared.event.Event.TheVariants.{Sent, Submitted}
use Rattle.event_lists.specs.declared.event.Parcel.{Parcel}
use Rattle.event_lists.specs.declared.event.TaskName.{TaskName}
use Rattle.event_lists.specs.declared.mark.Item.{Item}
use Rattle.event_lists.specs.declared.mark.Item.TheVariants.{Message, Task}
use Rattle.world_rule.specs.declared.view.Pending.{Pending}
use Rattle.world_rule.specs.declared.view.Pending.TheVariants.{Counted, Drawn}
use Rattle.event_lists.specs.declared.mark.EffectName.{EffectName}
use Rattle.event_lists.specs.declared.mark.Mark.{Mark}
use Rattle.event_lists.specs.Events.{Begins, StandsOn, is_item, makes, takes, times_made, is_taken, IsSent, IsSubmitted}
use Rattle.event_lists.proofs.ItemLemmas.{same_item_true, same_item_refl, is_item_some, made_here, taken_more}
use Rattle.event_laws.specs.Follows.{is_effect, carried_out}
use Rattle.world_rule.specs.declared.view.Load.TheVariants.{OfMessage, OfTask}
use Rattle.world_rule.specs.declared.view.Owed.{Owed}
use Rattle.world_rule.specs.declared.view.Progress.{Progress}
use Rattle.world_rule.specs.declared.view.View.{View}
use Rattle.world_rule.specs.Owing.{same_effect, same_pending, settles, is_settled, owed, made_by, Made, IsCounted, IsFrom, ComesFrom}
use Rattle.world_rule.specs.Views.{own_part, own_events, progress_after, seeing, after_event}

-- what is gone
pub same_effect_true : (f g : EffectName) → same_effect f g ≡ true → f ≡ g
same_effect_true f g t =
    let a = and_parts (f.rank == g.rank) ((f.number == g.number) && (f.index == g.index)) t in
    let b = and_parts (f.number == g.number) (f.index == g.index) a.1 in
    λ i. record { rank = eqb-true f.rank g.rank a.0 i; number = eqb-true f.number g.number b.0 i; index = eqb-true f.index g.index b.1 i }

pub same_effect_refl : (f : EffectName) → same_effect f f ≡ true
same_effect_refl f = and_from (f.rank == f.rank) _ (eq-eqb f.rank f.rank refl) (and_from (f.number == f.number) _ (eq-eqb f.number f.number refl) (eq-eqb f.index f.index refl))

pub is_effect_some : (f : EffectName) (o : Option EffectName) → is_effect f.rank f.number f.index o ≡ true → o ≡ Some f
is_effect_some f None t = absurd (cc)
is_effect_some f (Some g) t = ap Some (sym (same_effect_true f g t))

same_pending_true : (c d : Pending) → same_pending c d ≡ true → c ≡ d
same_pending_true (Counted c) (Counted d) t = ap Counted (same_item_true c d t)
same_pending_true (Drawn f) (Drawn g) t = ap Drawn (same_effect_true f g t)
same_pending_true c d t = absurd (cc)

same_pending_refl : (c : Pending) → same_pending c c ≡ true
same_pending_refl (Counted c) = same_item_refl c
same_pending_refl (Drawn f) = same_effect_refl f

pub gone_more : (c : Pending) (x : Mark) (log : List Mark) → is_settled c log ≡ true → is_settled c (x ∷ log) ≡ true
gone_more (Counted c) x log t = taken_more c x log t
gone_more (Drawn f) x log t = or_right (is_effect f.rank f.number f.index x.effect) (carried_out f.rank f.number f.index log) t

pub left_more : (c : Pending) (x : Mark) (log : List Mark) → settles c x ≡ false → is_settled c log ≡ false → is_settled c (x ∷ log) ≡ false
left_more (Counted c) x log p q = or_from (is_item c (takes x.event)) (is_taken c log) p q
left_more (Drawn f) x log p q = or_from (is_effect f.rank f.number f.index x.effect) (carried_out f.rank f.number f.index log) p q

pub gone_begins : (old log : List Mark) → Begins old log → (c : Pending) → is_settled c old ≡ true → is_settled c log ≡ true
gone_begins old log e c t = subst (λ (z : List Mark). is_settled c z ≡ true) (sym e.1) (more e.0)
  where
    more : (xs : List Mark) → is_settled c (xs ++ old) ≡ true
    more [] = t
    more (y ∷ xs) = gone_more c y (xs ++ old) (more xs)

-- what a mark settles its event takes, or it is its effect
pub claimed : (c : Pending) (x : Mark) → settles c x ≡ true → ((d : Item) × (c ≡ Counted d) × (takes x.event ≡ Some d)) ⊎ ((f : EffectName) × (c ≡ Drawn f) × (x.effect ≡ Some f))
claimed (Counted c) x t = inl (c, refl, is_item_some c (takes x.event) t)
claimed (Drawn f) x t = inr (f, refl, is_effect_some f x.effect t)

pub claimed_plain : (c : Pending) (x : Mark) → x.effect ≡ None → settles c x ≡ true → (d : Item) × (c ≡ Counted d) × (takes x.event ≡ Some d)
claimed_plain c x none t = ⊎_elim (λ e. e) (λ w. let z : None ≡ Some w.0 = sym none ∙ w.2 in absurd (cc)) (claimed c x t)

-- a mark whose event takes nothing settles its effect alone
pub settled_drawn : (c : Pending) (x : Mark) (f : EffectName) → takes x.event ≡ None → x.effect ≡ Some f → settles c x ≡ true → c ≡ Drawn f
settled_drawn c x f none is t = ⊎_elim
    (λ w. absurd (let z : None ≡ Some w.0 = sym none ∙ w.2 in cc))
    (λ w. let z : Some f ≡ Some w.0 = sym is ∙ w.2 in let y : w.0 ≡ f = cc in w.1 ∙ ap Drawn y)
    (claimed c x t)

-- what was made
pub made_more : (o : Owed) (x : Mark) (log : List Mark) → Made o log → Made o (x ∷ log)
made_more o x log h = (h.0, h.1, h.2, inr h.3)

pub made_begins : (o : Owed) (old log : List Mark) → Begins old log → Made o old → Made o log
made_begins o old log b m = subst (Made o) (sym b.1) (more b.0)
  where
    more : (xs : List Mark) → Made o (xs ++ old)
    more [] = m
    more (x ∷ xs) = made_more o x (xs ++ old) (more xs)

-- an event makes a message or a task
pub makes_of : (l : LaneName) (e : Event) (o : Owed) → made_by l e ≡ Some o → (c : Item) × (o.pending ≡ Counted c) × (makes l.rank e ≡ Some c)
makes_of l (Sent n to p) o h = let s : owed (Counted (Message l.rank n)) to (OfMessage p) ≡ o = cc in (Message l.rank n, sym (ap (λ (z : Owed). z.pending) s), refl)
makes_of l (Submitted n t) o h = let s : owed (Counted (Task l.rank n)) l.rank (OfTask t) ≡ o = cc in (Task l.rank n, sym (ap (λ (z : Owed). z.pending) s), refl)
makes_of l e o h = absurd (cc)

pub counted_is : (c d : Item) → Counted c ≡ Counted d → c ≡ d
counted_is c d e = cc

pub drawn_is_one : (f g : EffectName) → Drawn f ≡ Drawn g → f ≡ g
drawn_is_one f g e = cc

pub counted_or_drawn : {A : Type 0} (c : Item) (f : EffectName) (p : Pending) → p ≡ Counted c → p ≡ Drawn f → A
counted_or_drawn c f p a b = absurd (let z : Counted c ≡ Drawn f = sym a ∙ b in cc)

pub made_effect : {A : Type 0} (l : LaneName) (e : Event) (o : Owed) (f : EffectName) → made_by l e ≡ Some o → o.pending ≡ Drawn f → A
made_effect l e o f h i = let m = makes_of l e o h in counted_or_drawn m.0 f o.pending m.1 i

pub made_times : (o : Owed) (log : List Mark) → Made o log → (c : Item) → o.pending ≡ Counted c → 1 ≤ times_made c log
made_times o log m c e =
    let k = makes_of m.0 m.1 o m.2 in
    made_here c m.0 m.1 log (k.2 ∙ ap Some (counted_is k.0 c (sym k.1 ∙ e))) m.3

pub made_message : (o : Owed) (log : List Mark) → Made o log → (r n : ℕ) → o.pending ≡ Counted (Message r n) → (p : Parcel) × IsSent r n o.to p log
made_message o log (l, e, is, s) r n c = by_event e is s
  where
    by_event : (e : Event) → made_by l e ≡ Some o → StandsOn l e log → (p : Parcel) × IsSent r n o.to p log
    by_event (Sent m q w) is s =
        let same : owed (Counted (Message l.rank m)) q (OfMessage w) ≡ o = cc in
        let i : Counted (Message l.rank m) ≡ Counted (Message r n) = ap (λ (z : Owed). z.pending) same ∙ c in
        let t : q ≡ o.to = ap (λ (z : Owed). z.to) same in
        let a : l.rank ≡ r = cc in
        let b : m ≡ n = cc in
        (w, (l, a, subst (λ (z : Event). StandsOn l z log) (λ j. Sent (b j) (t j) w) s))
    by_event (Submitted m w) is s = absurd (let same : owed (Counted (Task l.rank m)) l.rank (OfTask w) ≡ o = cc in let i : Counted (Task l.rank m) ≡ Counted (Message r n) = ap (λ (z : Owed). z.pending) same ∙ c in cc)
    by_event e is s = absurd (cc)

pub made_task : (o : Owed) (log : List Mark) → Made o log → (r n : ℕ) → o.pending ≡ Counted (Task r n) → (t : TaskName) × IsSubmitted r n t log × (r ≡ o.to)
made_task o log (l, e, is, s) r n c = by_event e is s
  where
    by_event : (e : Event) → made_by l e ≡ Some o → StandsOn l e log → (t : TaskName) × IsSubmitted r n t log × (r ≡ o.to)
    by_event (Submitted m w) is s =
        let same : owed (Counted (Task l.rank m)) l.rank (OfTask w) ≡ o = cc in
        let i : Counted (Task l.rank m) ≡ Counted (Task r n) = ap (λ (z : Owed). z.pending) same ∙ c in
        let t : l.rank ≡ o.to = ap (λ (z : Owed). z.to) same in
        let a : l.rank ≡ r = cc in
        let b : m ≡ n = cc in
        (w, (l, a, subst (λ (z : Event). StandsOn l z log) (λ j. Submitted (b j) w) s), sym a ∙ t)
    by_event (Sent m q w) is s = absurd (let same : owed (Counted (Message l.rank m)) q (OfMessage w) ≡ o = cc in let i : Counted (Message l.rank m) ≡ Counted (Task r n) = ap (λ (z : Owed). z.pending) same ∙ c in cc)
    by_event e is s = absurd (cc)

-- the seat id has what it owes, and all else stays where it was
abbrev pub owner_with : Option Owed → ℕ → (Pending → ℕ) → Pending → ℕ
owner_with None id b d = b d
owner_with (Some o) id b d = if same_pending o.pending d then id else b d

pub borne : (o : Owed) (id : ℕ) (b : Pending → ℕ) → owner_with (Some o) id b o.pending ≡ id
borne o id b = ap (λ (c : Bool). if c then id else b o.pending) (same_pending_refl o.pending)

pub not_borne : (o : Owed) (id : ℕ) (b : Pending → ℕ) (d : Pending) → o.pending ≢ d → owner_with (Some o) id b d ≡ b d
not_borne o id b d apart = ⊎_elim
    (λ (t : same_pending o.pending d ≡ true). absurd (apart (same_pending_true o.pending d t)))
    (λ (t : same_pending o.pending d ≡ false). ap (λ (c : Bool). if c then id else b d) t)
    (cases_Bool (same_pending o.pending d))

pub stays_borne : (os : Option Owed) (d : Pending) → ((q : Owed) → os ≡ Some q → q.pending ≢ d) → (j : ℕ) (g : Pending → ℕ) → owner_with os j g d ≡ g d
stays_borne None d apart j g = refl
stays_borne (Some q) d apart j g = not_borne q j g d (apart q refl)

pub bears : (os : Option Owed) (q : Owed) → os ≡ Some q → (j : ℕ) (g : Pending → ℕ) → owner_with os j g q.pending ≡ j
bears None q e j g = absurd (cc)
bears (Some p) q e j g = let y : p ≡ q = cc in subst (λ (z : Owed). owner_with (Some p) j g z.pending ≡ j) y (borne p j g)

-- the view of a seat with one lane after an event
pub appended_view : (v : View) (l : LaneName) (e : Event) (mine : List Event) (p : Option Progress) (log : List Mark) → own_events v.parts ≡ mine → progress_after e v.progress ≡ p
    → record v { parts = own_part l (e ∷ mine) ∷ []; seen = log; told = []; owes = made_by l e; progress = p } ≡ seeing log (after_event l e v)
appended_view v l e mine p log own done = λ i. record v { parts = own_part l (e ∷ sym own i) ∷ []; seen = log; told = []; owes = made_by l e; progress = sym done i }

-- what is a message or a task and comes from somewhere was made, and what was made comes from there
pub from_made : (o : Owed) (log : List Mark) (p : Pending) → IsCounted p → IsFrom p o log → Made o log
from_made o log (Counted c) is from = from
from_made o log (Drawn f) is from = absurd is

pub made_from : (o : Owed) (log : List Mark) → Made o log → ComesFrom o log
made_from o log made = let k = makes_of made.0 made.1 o made.2 in subst (λ (p : Pending). IsFrom p o log) (sym k.1) made
