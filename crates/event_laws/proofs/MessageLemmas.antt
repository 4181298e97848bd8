-- The unit that a message carries is submitted once.
use Rattle.std.proofs.Common.{◌≡◌, ℕ, Bool, true, false, List, [], ◌∷◌, ◌++◌, refl, sym, ap, ◌∙◌, subst, ⊎_elim}
use Rattle.std.specs.Prelude.{if◌then◌else◌, Option, Some, None}
use Rattle.std.proofs.lemmas.Bool.{both_ways}
use Rattle.event_lists.specs.declared.lane.LaneName.{LaneName}
use Rattle.event_lists.specs.declared.event.Event.{Event}
use Rattle.event_lists.specs.declared.event.Event.TheVariants.{TookMessage, TookTask, Submitted, Gave}
use Rattle.event_lists.specs.declared.event.TaskName.{TaskName}
use Rattle.event_lists.specs.declared.mark.Item.{Item}
use Rattle.event_lists.specs.declared.mark.Item.TheVariants.{Message}
use Rattle.event_lists.specs.declared.mark.Mark.{Mark}
use Rattle.event_lists.specs.Events.{Begins, part, same_lane, in_hand, takes, is_taken}
use Rattle.event_lists.specs.Futures.{is_fresh}
use Rattle.event_lists.specs.Dues.{Dues, SubmitsFreely}
use Rattle.event_lists.specs.Legal.{Legal}
use Rattle.event_lists.proofs.LaneLemmas.{part_own}
use Rattle.event_lists.proofs.ListLemmas.{legal_begins}
use Rattle.event_lists.proofs.ItemLemmas.{taken_more, took_fresh}
use Rattle.event_lists.proofs.HandLemmas.{hand_before, hand_taken, one_hand}
use Rattle.event_laws.proofs.PositionLemmas.{order}

-- a message was taken, and whoever has it in hand has submitted its unit or given its future
abbrev Spent : Item → List Mark → Type 0
Spent c log = (is_taken c log ≡ true) × ((l : LaneName) → in_hand (part l log) ≡ Some c → is_fresh (part l log) ≡ false)

fresh_after : (e : Event) (mine : List Event) → takes e ≡ None → is_fresh mine ≡ false → is_fresh (e ∷ mine) ≡ false
fresh_after (TookMessage r n) mine t f = absurd (cc)
fresh_after (Submitted n u) mine t f = refl
fresh_after (Gave d) mine t f = refl
fresh_after _ mine t f = f

none_taken : (c : Item) (e : Event) (mine : List Event) → in_hand (e ∷ mine) ≡ Some c → (takes e ≡ Some c → ⊥) → takes e ≡ None
none_taken c (TookMessage r n) mine i other = absurd (other i)
none_taken c (TookTask r n) mine i other = absurd (other i)
none_taken c _ mine i other = refl

spent_step : (ranks workers : ℕ) (c : Item) (x : Mark) (log : List Mark) → Legal ranks workers (x ∷ log) → Spent c log → Spent c (x ∷ log)
spent_step ranks workers c x log h s = (taken_more c x log s.0, λ l i. ⊎_elim (λ a. absurd (not_now a.1)) (λ a. go l a.0 (same_lane x.lane l) i) (hand_before l x log c i))
  where
    not_now : takes x.event ≡ Some c → ⊥
    not_now t = both_ways (is_taken c log) (took_fresh c x.event ranks log x.lane (part x.lane log) h.0.counting t).1 s.0

    go : (l : LaneName) → in_hand (part l log) ≡ Some c → (b : Bool) → in_hand (if b then x.event ∷ part l log else part l log) ≡ Some c → is_fresh (if b then x.event ∷ part l log else part l log) ≡ false
    go l held true i = fresh_after x.event (part l log) (none_taken c x.event (part l log) i not_now) (s.1 l held)
    go l held false i = s.1 l held

spent_begins : (ranks workers : ℕ) (c : Item) (more log : List Mark) → Legal ranks workers (more ++ log) → Spent c log → Spent c (more ++ log)
spent_begins ranks workers c [] log h s = s
spent_begins ranks workers c (x ∷ more) log h s = spent_step ranks workers c x (more ++ log) h (spent_begins ranks workers c more log h.1 s)

-- a submission with a message in hand
pub record Submits (log : List Mark) (c : Item) (x : Mark) (before : List Mark) : Type 0 where
  pub begins : Begins (x ∷ before) log
  pub hand : in_hand (part x.lane before) ≡ Some c
  pub n : ℕ
  pub t : TaskName
  pub is : x.event ≡ Submitted n t

spent_by : (ranks workers : ℕ) (log : List Mark) → Legal ranks workers log → (r m : ℕ) (x : Mark) (before : List Mark) → Submits log (Message r m) x before → Spent (Message r m) (x ∷ before)
spent_by ranks workers log h r m x before s = (taken_more (Message r m) x before (hand_taken x.lane before (Message r m) s.hand), λ l i. only l (one_hand ranks workers (x ∷ before) here x.lane l (Message r m) held i))
  where
    here : Legal ranks workers (x ∷ before)
    here = legal_begins ranks workers (x ∷ before) log s.begins h

    mine : part x.lane (x ∷ before) ≡ Submitted s.n s.t ∷ part x.lane before
    mine = part_own x.lane x before refl ∙ ap (λ (e : Event). e ∷ part x.lane before) s.is

    held : in_hand (part x.lane (x ∷ before)) ≡ Some (Message r m)
    held = ap in_hand mine ∙ s.hand

    only : (l : LaneName) → x.lane ≡ l → is_fresh (part l (x ∷ before)) ≡ false
    only l same = subst (λ (k : LaneName). is_fresh (part k (x ∷ before)) ≡ false) same (ap is_fresh mine)

submits_fresh : (ranks workers : ℕ) (log : List Mark) → Legal ranks workers log → (r m : ℕ) (x : Mark) (before : List Mark) → Submits log (Message r m) x before → is_fresh (part x.lane before) ≡ true
submits_fresh ranks workers log h r m x before s =
    let here = legal_begins ranks workers (x ∷ before) log s.begins h in
    let dues : Dues before x.lane (part x.lane before) (Submitted s.n s.t) = subst (Dues before x.lane (part x.lane before)) s.is here.0.dues in
    let free : SubmitsFreely (Some (Message r m)) x.lane before (part x.lane before) s.t = subst (λ (o : Option Item). SubmitsFreely o x.lane before (part x.lane before) s.t) s.hand dues in
    free.1

submits_later : (ranks workers : ℕ) (log : List Mark) → Legal ranks workers log → (r m : ℕ) (x y : Mark) (b d : List Mark) → Submits log (Message r m) x b → Submits log (Message r m) y d → Begins (x ∷ b) d → ⊥
submits_later ranks workers log h r m x y b d s t to =
    let here = (legal_begins ranks workers (y ∷ d) log t.begins h).1 in
    let spent = spent_begins ranks workers (Message r m) to.0 (x ∷ b) (subst (Legal ranks workers) to.1 here) (spent_by ranks workers log h r m x b s) in
    let now : Spent (Message r m) d = subst (Spent (Message r m)) (sym to.1) spent in
    both_ways (is_fresh (part y.lane d)) (now.1 y.lane t.hand) (submits_fresh ranks workers log h r m y d t)

-- two submissions with one message in hand are one
pub submitted_once : (ranks workers : ℕ) (log : List Mark) → Legal ranks workers log → (r m : ℕ) (x y : Mark) (b d : List Mark) → Submits log (Message r m) x b → Submits log (Message r m) y d → (x ≡ y) × (b ≡ d)
submitted_once ranks workers log h r m x y b d s t = ⊎_elim
    (λ same. same)
    (λ apart. absurd (⊎_elim (λ to. submits_later ranks workers log h r m x y b d s t to) (λ to. submits_later ranks workers log h r m y x d b t s to) apart))
    (order x y b d log s.begins t.begins)
