-- One more event in what is known of messages and tasks.
use Rattle.std.proofs.Common.{◌≡◌, ℕ, Bool, true, false, ◌||◌, List, ◌∷◌, refl, sym, ap, ◌∙◌, subst}
use Rattle.std.specs.Prelude.{if◌then◌else◌, Option, Some, None}
use Rattle.std.proofs.lemmas.Bool.{both_ways, false_from_ne_true}
use Rattle.event_lists.specs.declared.event.Event.{Event}
use Rattle.event_lists.specs.declared.event.Event.TheVariants.{Sent, TookMessage, TookTask, Submitted}
use Rattle.event_lists.specs.declared.future.Future.{Future}
use Rattle.event_lists.specs.declared.mark.Item.{Item}
use Rattle.event_lists.specs.declared.mark.Mark.{Mark}
use Rattle.event_lists.specs.Events.{part, in_hand, same_item, is_item, makes, takes, is_taken}
use Rattle.event_lists.specs.Futures.{bringer, due_made, due_of, own_due}
use Rattle.event_lists.specs.Legal.{Legal}
use Rattle.event_lists.proofs.ItemLemmas.{same_item_true, same_item_refl, some_is_item, untaken_new, taken_here}
use Rattle.event_rules.specs.declared.values.Load.{Load}
use Rattle.event_rules.specs.declared.values.Made.{Made}
use Rattle.event_rules.specs.declared.values.LaneState.{LaneState}
use Rattle.event_rules.specs.Shown.{load_made, load_of, spawner_of, ShowsLane, ShowsMade, ShowsItem}
use Rattle.event_tables.specs.declared.table.Table.{Table}
use Rattle.event_tables.specs.Items.{item_of, taken_once}
use Rattle.event_tables.specs.Tables.{value_at}
use Rattle.event_tables.specs.Contents.{KeepsItems}

other_item : (c k : Item) → same_item k c ≡ false → same_item c k ≡ false
other_item c k e = false_from_ne_true (same_item c k) (λ t. both_ways (same_item k c) e (subst (λ (z : Item). same_item k z ≡ true) (sym (same_item_true c k t)) (same_item_refl k)))

-- an event neither makes nor takes this
record Spares (c : Item) (r : ℕ) (e : Event) : Type 0 where
  made : is_item c (makes r e) ≡ false
  taken : is_item c (takes e) ≡ false

spares_other : (c k : Item) (r : ℕ) (e : Event) → item_of r e ≡ Some k → same_item k c ≡ false → Spares c r e
spares_other c k r e i other = go e i
  where
    is_other : (o : Option Item) → o ≡ Some k → is_item c o ≡ false
    is_other o i = ap (is_item c) i ∙ other_item c k other

    go : (e : Event) → item_of r e ≡ Some k → Spares c r e
    go (Sent n to p) i = record { made = is_other (makes r (Sent n to p)) i; taken = refl }
    go (Submitted n t) i = record { made = is_other (makes r (Submitted n t)) i; taken = refl }
    go (TookMessage q n) i = record { made = refl; taken = is_other (takes (TookMessage q n)) i }
    go (TookTask q n) i = record { made = refl; taken = is_other (takes (TookTask q n)) i }
    go e i = absurd (cc)

-- what an event neither makes nor takes stays as it is
spared : (c : Item) (log : List Mark) (x : Mark) (v : Option Made) → Spares c x.lane.rank x.event → ShowsItem log c v → ShowsItem (x ∷ log) c v
spared c log x None s i = ap (λ (b : Bool). if b then load_made x.event else load_of c log) s.made ∙ i
spared c log x (Some m) s i = record {
  load = ap (λ (b : Bool). if b then load_made x.event else load_of c log) s.made ∙ i.load;
  by = i.by ∙ sym (ap (λ (b : Bool). if b then bringer x.lane.rank (in_hand (part x.lane log)) else spawner_of c log) s.made);
  due = i.due ∙ sym (ap (λ (b : Bool). if b then due_made x.lane.rank (in_hand (part x.lane log)) (own_due (in_hand (part x.lane log)) log) x.event else due_of c log) s.made);
  taken = i.taken ∙ sym (ap (λ (b : Bool). b || is_taken c log) s.taken);
}

-- what is taken is known as it was, and as taken
taken_shows : (c : Item) (log : List Mark) (x : Mark) (v : Option Made) → is_item c (makes x.lane.rank x.event) ≡ false → takes x.event ≡ Some c → ShowsItem log c v → ShowsItem (x ∷ log) c (taken_once v)
taken_shows c log x None s t i = ap (λ (b : Bool). if b then load_made x.event else load_of c log) s ∙ i
taken_shows c log x (Some m) s t i = record {
  load = ap (λ (b : Bool). if b then load_made x.event else load_of c log) s ∙ i.load;
  by = i.by ∙ sym (ap (λ (b : Bool). if b then bringer x.lane.rank (in_hand (part x.lane log)) else spawner_of c log) s);
  due = i.due ∙ sym (ap (λ (b : Bool). if b then due_made x.lane.rank (in_hand (part x.lane log)) (own_due (in_hand (part x.lane log)) log) x.event else due_of c log) s);
  taken = sym (taken_here c x log t);
}

-- what a lane in this state makes
abbrev pub new_made : LaneState → ℕ → Event → Load → Made
new_made s r e d = record { load = d; by = bringer r s.hand; due = due_made r s.hand s.own e; taken = false }

module _ (ranks workers : ℕ) (log : List Mark) (x : Mark) (s : LaneState) (h : Legal ranks workers (x ∷ log)) (shown : ShowsLane log x.lane s) where
  made_shows : (c : Item) (d : Load) → makes x.lane.rank x.event ≡ Some c → takes x.event ≡ None → load_made x.event ≡ Some d → ShowsMade (x ∷ log) c (new_made s x.lane.rank x.event d)
  made_shows c d m t i =
      let yes = some_is_item c (makes x.lane.rank x.event) m in
      record {
        load = ap (λ (b : Bool). if b then load_made x.event else load_of c log) yes ∙ i;
        by = ap (bringer x.lane.rank) shown.hand ∙ sym (ap (λ (b : Bool). if b then bringer x.lane.rank (in_hand (part x.lane log)) else spawner_of c log) yes);
        due = ap (λ (o : Option Item). due_made x.lane.rank o s.own x.event) shown.hand ∙ ap (λ (o : Option Future). due_made x.lane.rank (in_hand (part x.lane log)) o x.event) shown.own
            ∙ sym (ap (λ (b : Bool). if b then due_made x.lane.rank (in_hand (part x.lane log)) (own_due (in_hand (part x.lane log)) log) x.event else due_of c log) yes);
        taken = sym (ap (λ (o : Option Item). is_item c o || is_taken c log) t ∙ untaken_new ranks workers log x h c m);
      }

  -- what is known of the message or task that an event makes or takes
  item_shows : (c : Item) (old new : Option Made) → item_of x.lane.rank x.event ≡ Some c → ShowsItem log c old
      → ((d : Load) → load_made x.event ≡ Some d → new ≡ Some (new_made s x.lane.rank x.event d)) → (load_made x.event ≡ None → new ≡ taken_once old) → ShowsItem (x ∷ log) c new
  item_shows c old new i shows makes_it takes_it = go x.event refl i
    where
      fresh : (d : Load) → makes x.lane.rank x.event ≡ Some c → takes x.event ≡ None → load_made x.event ≡ Some d → ShowsItem (x ∷ log) c new
      fresh d m t l = subst (ShowsItem (x ∷ log) c) (sym (makes_it d l)) (made_shows c d m t l)

      taken : is_item c (makes x.lane.rank x.event) ≡ false → takes x.event ≡ Some c → load_made x.event ≡ None → ShowsItem (x ∷ log) c new
      taken m t l = subst (ShowsItem (x ∷ log) c) (sym (takes_it l)) (taken_shows c log x old m t shows)

      go : (e : Event) → x.event ≡ e → item_of x.lane.rank e ≡ Some c → ShowsItem (x ∷ log) c new
      go (Sent n to p) e i = fresh _ (ap (makes x.lane.rank) e ∙ i) (ap takes e) (ap load_made e)
      go (Submitted n t) e i = fresh _ (ap (makes x.lane.rank) e ∙ i) (ap takes e) (ap load_made e)
      go (TookMessage q n) e i = taken (ap (λ (z : Event). is_item c (makes x.lane.rank z)) e) (ap takes e ∙ i) (ap load_made e)
      go (TookTask q n) e i = taken (ap (λ (z : Event). is_item c (makes x.lane.rank z)) e) (ap takes e ∙ i) (ap load_made e)
      go e j i = absurd (cc)

  -- the messages and tasks after an event that makes or takes one of them
  pub items_kept : (old new : Table Item (Option Made)) (k : Item) (v : Option Made) → item_of x.lane.rank x.event ≡ Some k → KeepsItems log old
      → ((d : Load) → load_made x.event ≡ Some d → v ≡ Some (new_made s x.lane.rank x.event d)) → (load_made x.event ≡ None → v ≡ taken_once (value_at same_item old k))
      → ((c : Item) → value_at same_item new c ≡ (if same_item k c then v else value_at same_item old c)) → KeepsItems (x ∷ log) new
  items_kept old new k v i keeps makes_it takes_it values c = subst (ShowsItem (x ∷ log) c) (sym (values c)) (go (same_item k c) refl)
    where
      go : (b : Bool) → same_item k c ≡ b → ShowsItem (x ∷ log) c (if b then v else value_at same_item old c)
      go true e = subst (λ (z : Item). ShowsItem (x ∷ log) z v) (same_item_true k c e) (item_shows k (value_at same_item old k) v i (keeps k) makes_it takes_it)
      go false e = spared c log x (value_at same_item old c) (spares_other c k x.lane.rank x.event i e) (keeps c)
