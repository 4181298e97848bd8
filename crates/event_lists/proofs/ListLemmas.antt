-- Lemmas that crates above use: beginnings of lists, and what is in them.
use Rattle.std.proofs.Common.{◌≡◌, ℕ, ◌<◌, ◌≤◌, List, [], ◌∷◌, ◌++◌, length, refl, sym, ap, ◌∙◌, subst, inl, inr, arith, append_assoc, length-append, append-nil}
use Rattle.event_lists.specs.declared.lane.LaneName.{LaneName}
use Rattle.event_lists.specs.declared.event.Event.{Event}
use Rattle.event_lists.specs.declared.mark.Mark.{Mark}
use Rattle.event_lists.specs.Events.{Begins, Stands, StandsOn}
use Rattle.event_lists.specs.Legal.{Legal, IsLane}

pub legal_before : (ranks workers : ℕ) (more log : List Mark) → Legal ranks workers (more ++ log) → Legal ranks workers log
legal_before ranks workers [] log h = h
legal_before ranks workers (x ∷ more) log h = legal_before ranks workers more log h.1

pub legal_begins : (ranks workers : ℕ) (old log : List Mark) → Begins old log → Legal ranks workers log → Legal ranks workers old
legal_begins ranks workers old log b h = legal_before ranks workers b.0 old (subst (Legal ranks workers) b.1 h)

pub begins_refl : (log : List Mark) → Begins log log
begins_refl log = ([], refl)

pub begins_more : (old log : List Mark) (x : Mark) → Begins old log → Begins old (x ∷ log)
begins_more old log x h = (x ∷ h.0, ap (λ l. x ∷ l) h.1)

pub begins_trans : (a b c : List Mark) → Begins a b → Begins b c → Begins a c
begins_trans a b c p q = (q.0 ++ p.0, q.1 ∙ ap (λ l. q.0 ++ l) p.1 ∙ sym (append_assoc q.0 p.0 a))

pub begins_tail : (x : Mark) (log end : List Mark) → Begins (x ∷ log) end → Begins log end
begins_tail x log end b = begins_trans log (x ∷ log) end (x ∷ [], refl) b

-- of two beginnings of one list the shorter begins the longer
pub begins_both : (a b m n : List Mark) → m ++ a ≡ n ++ b → length a ≤ length b → Begins a b
begins_both a b m [] e le = (m, sym e)
begins_both a b [] (y ∷ n) e le = absurd (omega (arith, ap length e, length-append (y ∷ n) b))
begins_both a b (x ∷ m) (y ∷ n) e le = begins_both a b m n (cc) le

on_more : (l : LaneName) (e : Event) (more log : List Mark) → StandsOn l e log → StandsOn l e (more ++ log)
on_more l e [] log s = s
on_more l e (y ∷ more) log s = inr (on_more l e more log s)

pub on_begins : (l : LaneName) (e : Event) (a b : List Mark) → Begins a b → StandsOn l e a → StandsOn l e b
on_begins l e a b h s = subst (StandsOn l e) (sym h.1) (on_more l e h.0 a s)

pub begins_empty : (log : List Mark) → Begins [] log
begins_empty log = (log, sym (append-nil log))

-- each mark of a legal list is on a lane of its ranks and workers
pub legal_named : (ranks workers : ℕ) (log : List Mark) → Legal ranks workers log → (x : Mark) → Stands x log → IsLane ranks workers x.lane
legal_named ranks workers [] h x s = absurd s
legal_named ranks workers (y ∷ log) h x (inl e) = subst (λ (z : Mark). IsLane ranks workers z.lane) e h.0.named
legal_named ranks workers (y ∷ log) h x (inr s) = legal_named ranks workers log h.1 x s

pub stands_named : (ranks workers : ℕ) (log : List Mark) → Legal ranks workers log → (x : Mark) → Stands x log → x.lane.rank < ranks
stands_named ranks workers [] h x s = absurd s
stands_named ranks workers (y ∷ log) h x (inl e) = subst (λ (z : Mark). z.lane.rank < ranks) e h.0.named.0
stands_named ranks workers (y ∷ log) h x (inr s) = stands_named ranks workers log h.1 x s
