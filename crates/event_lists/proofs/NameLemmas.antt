-- Lemmas that crates above use: the labels in the name of a task and in a message are those of its needs and its due.
use Rattle.std.proofs.Common.{◌≡◌, ℕ, Bool, true, false, List, [], ◌∷◌, refl, sym, ap, ◌∙◌, subst, inl, inr, arith}
use Rattle.std.specs.Prelude.{if◌then◌else◌, Option, Some, None, map}
use Rattle.app_core.specs.declared.label.Label.{Label}
use Rattle.event_lists.specs.declared.lane.LaneName.{LaneName}
use Rattle.event_lists.specs.declared.event.Event.{Event}
use Rattle.event_lists.specs.declared.event.Event.TheVariants.{Sent, Submitted}
use Rattle.event_lists.specs.declared.event.Parcel.TheVariants.{Unit as Spawned, Give}
use Rattle.event_lists.specs.declared.event.TaskName.{TaskName}
use Rattle.event_lists.specs.declared.mark.Item.{Item}
use Rattle.event_lists.specs.declared.mark.Item.TheVariants.{Message, Task}
use Rattle.event_lists.specs.declared.mark.Mark.{Mark}
use Rattle.event_lists.specs.Events.{part, StandsOn, in_hand, is_item, makes}
use Rattle.event_lists.specs.declared.future.Bringer.{Bringer}
use Rattle.event_lists.specs.declared.future.Future.{Future}
use Rattle.event_lists.specs.Futures.{bringer, future_by, futures_by, spawned_needs, is_own, due_of_spawn, due_made, due_of, own_due, needs_of}
use Rattle.event_lists.specs.Counting.{Counting, MaySpawn, MaySubmit}
use Rattle.event_lists.specs.Dues.{Dues, KeepsDue, SubmitsFreely}
use Rattle.event_lists.specs.Laws.{label_of, named_due}
use Rattle.event_lists.specs.Legal.{Legal}
use Rattle.event_lists.proofs.ItemLemmas.{is_item_some, some_is_item, made_here, new_item}
use Rattle.event_lists.proofs.FutureLemmas.{same_label_true}

own_name : (d : Label) (o : Option Future) → is_own d o ≡ true → label_of o ≡ Some d
own_name d None e = absurd (cc)
own_name d (Some f) e = ap Some (sym (same_label_true d f.label e))

spawn_name : (r : ℕ) (l : LaneName) (h : Option Item) (own : Option Future) (o : Option Label) → MaySpawn l h → label_of (due_of_spawn r h own o) ≡ o
spawn_name r l (Some (Message q m)) own o may = absurd may
spawn_name r l None own None may = refl
spawn_name r l (Some (Task q m)) own None may = refl
spawn_name r l None own (Some d) may = go (is_own d own) refl
  where
    go : (b : Bool) → is_own d own ≡ b → label_of (if b then own else future_by (bringer r None) d) ≡ Some d
    go true e = own_name d own e
    go false e = refl
spawn_name r l (Some (Task q m)) own (Some d) may = go (is_own d own) refl
  where
    go : (b : Bool) → is_own d own ≡ b → label_of (if b then own else future_by (bringer r (Some (Task q m))) d) ≡ Some d
    go true e = own_name d own e
    go false e = refl

give_name : (h : Option Item) (d : Label) (log : List Mark) (mine : List Event) → KeepsDue h d log mine → label_of (own_due h log) ≡ Some d
give_name None d log mine k = absurd k
give_name (Some (Message q m)) d log mine k = absurd k
give_name (Some (Task q m)) d log mine k = own_name d (own_due (Some (Task q m)) log) k.0

-- each event of a list that makes an item names its due
abbrev AllNamed : List Mark → Type 0
AllNamed log = (l : LaneName) (e : Event) (c : Item) → makes l.rank e ≡ Some c → StandsOn l e log → label_of (due_of c log) ≡ named_due e

submit_name : (log : List Mark) → AllNamed log → (r : ℕ) (l : LaneName) (h : Option Item) (mine : List Event) (t : TaskName) → MaySubmit l h → SubmitsFreely h l log mine t → label_of (due_of_spawn r h (own_due h log) t.due) ≡ t.due
submit_name log all r l (Some (Message q m)) mine t may free =
    let s = free.0.1 in
    all s.0 (Sent m free.0.0 (Spawned t.unit t.due)) (Message q m) (ap (λ (z : ℕ). Some (Message z m)) s.1) s.2
submit_name log all r l None mine t may free = spawn_name r l None (own_due None log) t.due may
submit_name log all r l (Some (Task q m)) mine t may free = spawn_name r l (Some (Task q m)) (own_due (Some (Task q m)) log) t.due may

made_name : (ranks : ℕ) (log : List Mark) → AllNamed log → (r : ℕ) (l : LaneName) (mine : List Event) (e : Event) (c : Item) → makes r e ≡ Some c → Counting ranks log l mine e → Dues log l mine e → label_of (due_made r (in_hand mine) (own_due (in_hand mine) log) e) ≡ named_due e
made_name ranks log all r l mine (Sent n to (Spawned u o)) c m count dues = spawn_name r l (in_hand mine) (own_due (in_hand mine) log) o count.1
made_name ranks log all r l mine (Sent n to (Give d)) c m count dues = give_name (in_hand mine) d log mine dues
made_name ranks log all r l mine (Submitted n t) c m count dues = submit_name log all r l (in_hand mine) mine t count.1 dues
made_name ranks log all r l mine e c m count dues = absurd (cc)

pub all_named : (ranks workers : ℕ) (log : List Mark) → Legal ranks workers log → AllNamed log
all_named ranks workers [] h l e c m s = absurd s
all_named ranks workers (x ∷ log) h l e c m s = go s (all_named ranks workers log h.1) (is_item c (makes x.lane.rank x.event)) refl
  where
    go : StandsOn l e (x ∷ log) → AllNamed log → (b : Bool) → is_item c (makes x.lane.rank x.event) ≡ b → label_of (if b then due_made x.lane.rank (in_hand (part x.lane log)) (own_due (in_hand (part x.lane log)) log) x.event else due_of c log) ≡ named_due e
    go (inl i) all true t = made_name ranks log all x.lane.rank x.lane (part x.lane log) x.event c (is_item_some c (makes x.lane.rank x.event) t) h.0.counting h.0.dues ∙ ap named_due i.1
    go (inr s) all true t = absurd (omega (arith, new_item ranks workers log x h c (is_item_some c (makes x.lane.rank x.event) t), made_here c l e log m s))
    go (inl i) all false t =
        let made : makes x.lane.rank x.event ≡ Some c = ap (λ (k : LaneName). makes k.rank x.event) i.0 ∙ ap (makes l.rank) i.1 ∙ m in
        let yes = some_is_item c (makes x.lane.rank x.event) made in
        absurd (cc)
    go (inr s) all false t = all l e c m s

labels_back : (b : Bringer) (ds : List Label) → map (λ f. f.label) (futures_by (Some b) ds) ≡ ds
labels_back b [] = refl
labels_back b (d ∷ ds) = ap (λ es. d ∷ es) (labels_back b ds)

needs_made : (log : List Mark) (r : ℕ) (l : LaneName) (h : Option Item) (mine : List Event) (t : TaskName) → MaySubmit l h → SubmitsFreely h l log mine t → map (λ f. f.label) (futures_by (bringer r h) t.needs) ≡ t.needs
needs_made log r l (Some (Message q m)) mine t may free = sym free.2
needs_made log r l None mine t may free = labels_back _ t.needs
needs_made log r l (Some (Task q m)) mine t may free = labels_back _ t.needs

-- a task needs as many futures as its name has labels, with these labels
pub needs_named : (ranks workers : ℕ) (log : List Mark) → Legal ranks workers log → (l : LaneName) (n : ℕ) (t : TaskName) → StandsOn l (Submitted n t) log → map (λ f. f.label) (needs_of (Task l.rank n) log) ≡ t.needs
needs_named ranks workers [] h l n t s = absurd s
needs_named ranks workers (x ∷ log) h l n t s = go s (needs_named ranks workers log h.1 l n t) (is_item (Task l.rank n) (makes x.lane.rank x.event)) refl
  where
    here : x.event ≡ Submitted n t → map (λ f. f.label) (futures_by (bringer x.lane.rank (in_hand (part x.lane log))) (spawned_needs x.event)) ≡ t.needs
    here i =
        let count = subst (Counting ranks log x.lane (part x.lane log)) i h.0.counting in
        let dues = subst (Dues log x.lane (part x.lane log)) i h.0.dues in
        ap (λ (e : Event). map (λ (f : Future). f.label) (futures_by (bringer x.lane.rank (in_hand (part x.lane log))) (spawned_needs e))) i ∙ needs_made log x.lane.rank x.lane (in_hand (part x.lane log)) (part x.lane log) t count.1 dues

    go : StandsOn l (Submitted n t) (x ∷ log) → (StandsOn l (Submitted n t) log → map (λ f. f.label) (needs_of (Task l.rank n) log) ≡ t.needs) → (b : Bool) → is_item (Task l.rank n) (makes x.lane.rank x.event) ≡ b
        → map (λ f. f.label) (if b then futures_by (bringer x.lane.rank (in_hand (part x.lane log))) (spawned_needs x.event) else needs_of (Task l.rank n) log) ≡ t.needs
    go (inl i) rest true e = here i.1
    go (inr s) rest true e = absurd (omega (arith, new_item ranks workers log x h (Task l.rank n) (is_item_some (Task l.rank n) (makes x.lane.rank x.event) e), made_here (Task l.rank n) l (Submitted n t) log refl s))
    go (inl i) rest false e =
        let made : makes x.lane.rank x.event ≡ Some (Task l.rank n) = ap (λ (k : LaneName). makes k.rank x.event) i.0 ∙ ap (makes l.rank) i.1 in
        let yes = some_is_item (Task l.rank n) (makes x.lane.rank x.event) made in
        absurd (cc)
    go (inr s) rest false e = rest s
