-- The labels that the spawns of a bringer needed: no two of them are equal, in a legal list.
use Rattle.std.proofs.Common.{◌≡◌, ℕ, suc, Bool, true, false, ◌&&◌, ◌||◌, List, [], ◌∷◌, ◌++◌, get_or, refl, sym, ap, ◌∙◌, subst, arith}
use Rattle.std.specs.Prelude.{if◌then◌else◌, Option, Some, None}
use Rattle.std.specs.List.{list_any}
use Rattle.std.proofs.lemmas.Bool.{or_from, false_from_ne_true}
use Rattle.std.proofs.lemmas.List.Folds.{list_any-append, list_any_none}
use Rattle.app_core.specs.declared.label.Label.{Label}
use Rattle.app_core.specs.Needs.{AreDistinct}
use Rattle.app_core.specs.Outlines.{same_label}
use Rattle.event_lists.specs.declared.lane.LaneName.{LaneName}
use Rattle.event_lists.specs.declared.event.Event.{Event}
use Rattle.event_lists.specs.declared.event.Event.TheVariants.{Submitted}
use Rattle.event_lists.specs.declared.future.Bringer.{Bringer}
use Rattle.event_lists.specs.declared.future.Future.{Future}
use Rattle.event_lists.specs.declared.mark.Item.{Item}
use Rattle.event_lists.specs.declared.mark.Item.TheVariants.{Message, Task}
use Rattle.event_lists.specs.declared.mark.Mark.{Mark}
use Rattle.event_lists.specs.Events.{part, in_hand}
use Rattle.event_lists.specs.Futures.{bringer, is_bringer, spawned_needs, own_due, was_needed}
use Rattle.event_lists.specs.Dues.{Dues, SubmitsFreely, NeedsAreFree}
use Rattle.event_lists.specs.Legal.{Legal}
use Rattle.event_lists.proofs.FutureLemmas.{same_label_true, same_bringer_true}
use Rattle.event_tables.specs.Contents.{needed_by}

-- a label was needed where it is in the list of needed labels
pub needed_any : (b : Bringer) (d : Label) (log : List Mark) → was_needed b d log ≡ list_any (λ m. same_label d m) (needed_by b log)
needed_any b d [] = refl
needed_any b d (x ∷ log) = go (needed_any b d log) (is_bringer b (bringer x.lane.rank (in_hand (part x.lane log))))
  where
    go : was_needed b d log ≡ list_any (λ m. same_label d m) (needed_by b log) → (c : Bool)
        → ((c && list_any (λ m. same_label d m) (spawned_needs x.event)) || was_needed b d log) ≡ list_any (λ m. same_label d m) (if c then spawned_needs x.event ++ needed_by b log else needed_by b log)
    go rest true = ap (λ z. list_any (λ m. same_label d m) (spawned_needs x.event) || z) rest ∙ sym (list_any-append (λ m. same_label d m) (spawned_needs x.event) (needed_by b log))
    go rest false = rest

-- no two of these are equal
abbrev pub Apart : List Label → Type 0
Apart [] = Unit {0}
Apart (d ∷ ds) = (list_any (λ m. same_label d m) ds ≡ false) × Apart ds

apart_distinct : (ds : List Label) → AreDistinct ds → Apart ds
apart_distinct [] h = tt
apart_distinct (d ∷ ds) h = (
  list_any_none (λ m. same_label d m) ds (λ i e lt. false_from_ne_true (same_label d (get_or ds i e)) (λ t. h 0 (suc i) e (omega arith) (omega (arith, lt)) (same_label_true d (get_or ds i e) t))),
  apart_distinct ds (λ i j e lt below. h (suc i) (suc j) e (omega (arith, lt)) (omega (arith, below))),
)

-- needs that no spawn needed before stay apart from those that did
apart_more : (own : Option Future) (b : Bringer) (log : List Mark) (ds : List Label) → NeedsAreFree own (Some b) log ds → Apart ds → Apart (needed_by b log) → Apart (ds ++ needed_by b log)
apart_more own b log [] free apart rest = rest
apart_more own b log (d ∷ ds) free apart rest = (
  list_any-append (λ m. same_label d m) ds (needed_by b log) ∙ or_from (list_any (λ m. same_label d m) ds) (list_any (λ m. same_label d m) (needed_by b log)) apart.0 (sym (needed_any b d log) ∙ free.1),
  apart_more own b log ds free.2 apart.1 rest,
)

-- what a legal event of a bringer needs
record FreeNeeds (own : Option Future) (b : Bringer) (log : List Mark) (ds : List Label) : Type 0 where
  free : NeedsAreFree own (Some b) log ds
  distinct : Apart ds

free_needs : (b : Bringer) (log : List Mark) (l : LaneName) (mine : List Event) (e : Event) → Dues log l mine e → is_bringer b (bringer l.rank (in_hand mine)) ≡ true → FreeNeeds (own_due (in_hand mine) log) b log (spawned_needs e)
free_needs b log l mine (Submitted n t) dues by = go (in_hand mine) dues by
  where
    go : (h : Option Item) → SubmitsFreely h l log mine t → is_bringer b (bringer l.rank h) ≡ true → FreeNeeds (own_due h log) b log t.needs
    go None s by = record { free = subst (λ (c : Bringer). NeedsAreFree (own_due None log) (Some c) log t.needs) (sym (same_bringer_true b _ by)) s.2; distinct = apart_distinct t.needs s.1 }
    go (Some (Task r m)) s by = record { free = subst (λ (c : Bringer). NeedsAreFree (own_due (Some (Task r m)) log) (Some c) log t.needs) (sym (same_bringer_true b _ by)) s.2; distinct = apart_distinct t.needs s.1 }
    go (Some (Message r m)) s by = absurd (cc)
free_needs b log l mine _ dues by = record { free = tt; distinct = tt }

-- no label is twice among those that the spawns of a bringer needed
pub needed_apart : (ranks workers : ℕ) (b : Bringer) (log : List Mark) → Legal ranks workers log → Apart (needed_by b log)
needed_apart ranks workers b [] h = tt
needed_apart ranks workers b (x ∷ log) h = go (needed_apart ranks workers b log h.1) (is_bringer b (bringer x.lane.rank (in_hand (part x.lane log)))) refl
  where
    go : Apart (needed_by b log) → (c : Bool) → is_bringer b (bringer x.lane.rank (in_hand (part x.lane log))) ≡ c → Apart (if c then spawned_needs x.event ++ needed_by b log else needed_by b log)
    go rest true e =
        let f = free_needs b log x.lane (part x.lane log) x.event h.0.dues e in
        apart_more (own_due (in_hand (part x.lane log)) log) b log (spawned_needs x.event) f.free f.distinct rest
    go rest false e = rest
