-- How what is known of a main's lane goes on from step to step.
use Rattle.std.proofs.Common.{◌≡◌, ℕ, suc, ◌+◌, ◌<◌, Bool, true, false, List, [], ◌∷◌, refl, sym, ap, subst, ◌∙◌, arith}
use Rattle.std.specs.Prelude.{Option, Some, None, if◌then◌else◌, ◌&&◌, ◌||◌}
use Rattle.std.specs.List.{list_any}
use Rattle.std.proofs.lemmas.Bool.{ne_eqb, eq-eqb}
use Rattle.app_core.specs.declared.label.Label.{Label}
use Rattle.app_core.specs.declared.outline.Outline.{Outline}
use Rattle.app_core.specs.Outlines.{same_label, is_due}
use Rattle.event_lists.specs.declared.event.Event.{Event}
use Rattle.event_lists.specs.declared.event.Event.TheVariants.{Enter, Leave, ReadHandled, ReadRan, ReadSubmitted, ReadSent, Receipt as Receives}
use Rattle.event_lists.specs.declared.receipt.Receipt.{Receipt}
use Rattle.event_lists.specs.declared.kind.Kind.{Kind}
use Rattle.event_lists.specs.declared.kind.Kind.TheVariants.{Sends as sends, Handlings as handlings, Submissions as submissions, Runs as runs}
use Rattle.event_lists.specs.declared.kind.Reading.{Reading}
use Rattle.event_lists.specs.declared.mark.Item.{Item}
use Rattle.event_lists.specs.declared.mark.EffectName.{EffectName}
use Rattle.event_lists.specs.declared.lane.LaneName.{LaneName}
use Rattle.event_lists.specs.declared.future.Bringer.{Bringer}
use Rattle.event_lists.specs.declared.future.Bringer.TheVariants.{Main as main_at}
use Rattle.event_lists.specs.Events.{main_of, part, in_hand, hand_after}
use Rattle.event_lists.specs.Futures.{spawned_due, spawned_needs, bringer, is_bringer}
use Rattle.event_lists.specs.Dues.{NeedsAreDues}
use Rattle.event_lists.specs.Counting.{MaySpawn}
use Rattle.event_lists.specs.Fences.{reading, readings, passes, enters, fence_in, has_receipt, InOrder}
use Rattle.event_lists.specs.OwnEvents.{was_due_on_lane, was_needed_on_lane, NeedsAreDuesOnLane, has_receipt_on_lane, reading_event, IsNextReading, SpawnsFor}
use Rattle.event_lists.proofs.OwnLemmas.{needs_dues_here}
use Rattle.event_laws.specs.Follows.{deeds, is_done}
use Rattle.world_rule.specs.Owing.{made_by}
use Rattle.world_rule.specs.Views.{progress_after}
use Rattle.world_words.specs.Lanes.{WordsView, LaneView, SeesMore, Grew}
use Rattle.words_tests.specs.Turns.{IsMain, IsOutside, IsReading, IsInside}

-- an event without needs
no_needs : (r : ℕ) (b : Bringer) (d : Label) (e : Event) (es : List Event) → spawned_needs e ≡ [] → was_needed_on_lane r b d (e ∷ es) ≡ was_needed_on_lane r b d es
no_needs r b d e es none = ap (λ (ls : List Label). (is_bringer b (bringer r (in_hand es)) && list_any (λ m. same_label d m) ls) || was_needed_on_lane r b d es) none ∙ go (is_bringer b (bringer r (in_hand es))) (was_needed_on_lane r b d es)
  where
    go : (x y : Bool) → ((x && false) || y) ≡ y
    go true y = refl
    go false y = refl

pub never_needed : (r : ℕ) (b : Bringer) (d : Label) (e : Event) (es : List Event) → spawned_needs e ≡ [] → was_needed_on_lane r b d es ≡ false → was_needed_on_lane r b d (e ∷ es) ≡ false
never_needed r b d e es none was = no_needs r b d e es none ∙ was

pub needs_more : (r : ℕ) (b : Bringer) (e : Event) (es : List Event) → spawned_needs e ≡ [] → NeedsAreDuesOnLane r b es → NeedsAreDuesOnLane r b (e ∷ es)
needs_more r b e es none was d t = or_last (is_bringer b (bringer r (in_hand es)) && is_due d (spawned_due e)) (was_due_on_lane r b d es) (was d (sym (no_needs r b d e es none) ∙ t))
  where
    or_last : (x y : Bool) → y ≡ true → (x || y) ≡ true
    or_last true y t = refl
    or_last false y t = t

-- what a main's lane is after an event that leaves nothing in hand and owes nothing
pub record Plain (l : LaneName) (e : Event) : Type 0 where
  pub owes : made_by l e ≡ None
  pub hand : hand_after e None ≡ None
  pub needs : spawned_needs e ≡ []
  pub progress : progress_after e None ≡ None

pub no_deed : (e : Event) (es : List Event) (h : Option Item) → in_hand es ≡ h → is_done h e ≡ false → deeds (e ∷ es) ≡ deeds es
no_deed e es h i d = let same : deeds (e ∷ es) ≡ 0 + deeds es = ap (λ (o : Option Item). (if is_done o e then 1 else 0) + deeds es) i ∙ ap (λ (b : Bool). (if b then 1 else 0) + deeds es) d in omega (arith, same)

pub one_deed : (e : Event) (es : List Event) (h : Option Item) → in_hand es ≡ h → is_done h e ≡ true → deeds (e ∷ es) ≡ 1 + deeds es
one_deed e es h i d = ap (λ (o : Option Item). (if is_done o e then 1 else 0) + deeds es) i ∙ ap (λ (b : Bool). (if b then 1 else 0) + deeds es) d

module _ {A : Type 0} (words : WordsView A) (may : Label → List Outline → Type 0) (f : Option EffectName) (old new : LaneView) where
  pub main_after : (e : Event) (entered after : ℕ) → Grew words may e f old new → IsMain words entered old → Plain old.name e → enters (e ∷ old.mine) ≡ after
      → ((n : ℕ) → after < n → has_receipt_on_lane n (e ∷ old.mine) ≡ false) → IsMain words after new
  main_after e entered after g m p en re = record {
    table = g.same.0 ∙ m.table;
    name = subst (λ (l : LaneName). l ≡ main_of l.rank) (sym g.same.1) m.name;
    owes = g.owing ∙ p.owes;
    hand = ap in_hand g.event ∙ ap (hand_after e) m.hand ∙ p.hand;
    progress = g.progress ∙ ap (progress_after e) m.progress ∙ p.progress;
    legal = g.sees.run.1.legal;
    own = g.sees.own;
    needs = subst (λ (l : LaneName). NeedsAreDuesOnLane l.rank (main_at l.rank) new.mine) (sym g.same.1)
        (subst (NeedsAreDuesOnLane old.name.rank (main_at old.name.rank)) (sym g.event) (needs_more old.name.rank (main_at old.name.rank) e old.mine p.needs m.needs));
    entries = ap enters g.event ∙ en;
    receipts = λ n lt. ap (has_receipt_on_lane n) g.event ∙ re n lt;
  }

  -- with nothing in hand, an event that does nothing of the program
  pub deeds_same : (e : Event) → Grew words may e f old new → in_hand old.mine ≡ None → is_done None e ≡ false → deeds new.mine ≡ deeds old.mine
  deeds_same e g h d = ap deeds g.event ∙ no_deed e old.mine None h d

  pub entered_fence : (left : ℕ) → Grew words may (Enter (left + 1)) f old new → IsOutside words left old → IsInside words (left + 1) 1 new
  entered_fence left g o = record {
    rs = [];
    reading = record {
      main = main_after (Enter (left + 1)) left (left + 1) g o.main (record { owes = refl; hand = refl; needs = refl; progress = refl })
          (let e = o.main.entries in omega (arith, e)) (λ n lt. o.main.receipts n (omega (arith, lt)));
      inside = ap fence_in g.event;
      found = ap readings g.event;
    };
    next = refl;
    may_open = tt;
  }

  -- a reading
  pub read_one : (k : Kind) (x fence pass : ℕ) (rs : List Reading) → Grew words may (reading_event k x fence pass) f old new → IsReading words fence rs old → IsReading words fence (reading k x fence pass ∷ rs) new
  read_one handlings x fence pass rs g i = record {
    inside = ap fence_in g.event ∙ i.inside;
    found = ap readings g.event ∙ ap (λ (z : List Reading). reading handlings x fence pass ∷ z) i.found;
    main = main_after (ReadHandled x fence pass) fence fence g i.main (record { owes = refl; hand = refl; needs = refl; progress = refl }) i.main.entries i.main.receipts;
  }
  read_one runs x fence pass rs g i = record {
    inside = ap fence_in g.event ∙ i.inside;
    found = ap readings g.event ∙ ap (λ (z : List Reading). reading runs x fence pass ∷ z) i.found;
    main = main_after (ReadRan x fence pass) fence fence g i.main (record { owes = refl; hand = refl; needs = refl; progress = refl }) i.main.entries i.main.receipts;
  }
  read_one submissions x fence pass rs g i = record {
    inside = ap fence_in g.event ∙ i.inside;
    found = ap readings g.event ∙ ap (λ (z : List Reading). reading submissions x fence pass ∷ z) i.found;
    main = main_after (ReadSubmitted x fence pass) fence fence g i.main (record { owes = refl; hand = refl; needs = refl; progress = refl }) i.main.entries i.main.receipts;
  }
  read_one sends x fence pass rs g i = record {
    inside = ap fence_in g.event ∙ i.inside;
    found = ap readings g.event ∙ ap (λ (z : List Reading). reading sends x fence pass ∷ z) i.found;
    main = main_after (ReadSent x fence pass) fence fence g i.main (record { owes = refl; hand = refl; needs = refl; progress = refl }) i.main.entries i.main.receipts;
  }

-- the main's needs are dues
pub needs_are_dues : {A : Type 0} (words : WordsView A) (entered : ℕ) (v : LaneView) → IsMain words entered v → NeedsAreDues (main_at v.name.rank) v.seen
needs_are_dues words entered v m =
    let spawns : SpawnsFor v.name (in_hand (part v.name v.seen)) (main_at v.name.rank) = subst (λ (h : Option Item). MaySpawn v.name h × (bringer v.name.rank h ≡ Some (main_at v.name.rank))) (sym (ap in_hand m.own ∙ m.hand)) (m.name, refl) in
    (needs_dues_here words.ranks words.workers v.seen m.legal v.name (main_at v.name.rank) spawns).0 (subst (NeedsAreDuesOnLane v.name.rank (main_at v.name.rank)) (sym m.own) m.needs)

-- a reading is the next one
pub reads_next : {A : Type 0} (words : WordsView A) (fence pass : ℕ) (rs : List Reading) (k : Kind) (v : LaneView) → IsReading words fence rs v → pass ≡ suc (passes rs) → InOrder words.ranks v.seen rs k fence pass
    → IsNextReading words.ranks v.seen v.name v.mine k fence pass
reads_next words fence pass rs k v i p o = ((i.main.name, i.main.hand, i.inside), p ∙ ap (λ (z : List Reading). suc (passes z)) (sym i.found), subst (λ (z : List Reading). InOrder words.ranks v.seen z k fence pass) (sym i.found) o)

-- a main that learnt more
pub learnt_more : {A : Type 0} (words : WordsView A) (may : Label → List Outline → Type 0) (entered : ℕ) (old new : LaneView) → new ≡ record old { seen = new.seen } → SeesMore words may old new
    → IsMain words entered old → IsMain words entered new
learnt_more words may entered old new is sees m = subst (IsMain words entered) (sym is) (record {
  table = m.table;
  name = m.name;
  owes = m.owes;
  hand = m.hand;
  progress = m.progress;
  legal = sees.run.1.legal;
  own = subst (λ (v : LaneView). part v.name new.seen ≡ v.mine) is sees.own;
  needs = m.needs;
  entries = m.entries;
  receipts = m.receipts;
})

pub inside_still : {A : Type 0} (words : WordsView A) (may : Label → List Outline → Type 0) (fence pass : ℕ) (old new : LaneView) → new ≡ record old { seen = new.seen } → SeesMore words may old new
    → IsInside words fence pass old → IsInside words fence pass new
inside_still words may fence pass old new is sees i = record {
  rs = i.rs;
  reading = record {
    main = learnt_more words may fence old new is sees i.reading.main;
    inside = ap (λ (v : LaneView). fence_in v.mine) is ∙ i.reading.inside;
    found = ap (λ (v : LaneView). readings v.mine) is ∙ i.reading.found;
  };
  next = i.next;
  may_open = i.may_open;
}

-- a main that left its fence
pub left_fence : {A : Type 0} (words : WordsView A) (may : Label → List Outline → Type 0) (f : Option EffectName) (fence pass : ℕ) (old new : LaneView) → Grew words may (Leave fence) f old new
    → IsInside words fence pass old → IsOutside words fence new
left_fence words may f fence pass old new g i = record {
  main = main_after words may f old new (Leave fence) fence fence g i.reading.main (record { owes = refl; hand = refl; needs = refl; progress = refl }) i.reading.main.entries i.reading.main.receipts;
  outside = ap fence_in g.event;
}

-- a main that made the receipt of its fence
pub received_in : {A : Type 0} (words : WordsView A) (may : Label → List Outline → Type 0) (f : Option EffectName) (r : Receipt) (fence pass : ℕ) (old new : LaneView) → Grew words may (Receives r) f old new → r.fence ≡ fence
    → IsInside words fence pass old → IsInside words fence pass new
received_in words may f r fence pass old new g same i = record {
  rs = i.rs;
  reading = record {
    main = main_after words may f old new (Receives r) fence fence g i.reading.main (record { owes = refl; hand = refl; needs = refl; progress = refl }) i.reading.main.entries
        (λ n lt. ap (λ (b : Bool). b || has_receipt_on_lane n old.mine) (ne_eqb r.fence n (λ e. omega (arith, e, lt, same))) ∙ i.reading.main.receipts n lt);
    inside = ap fence_in g.event ∙ i.reading.inside;
    found = ap readings g.event ∙ i.reading.found;
  };
  next = i.next;
  may_open = i.may_open;
}

pub receipt_known : {A : Type 0} (words : WordsView A) (may : Label → List Outline → Type 0) (f : Option EffectName) (r : Receipt) (old new : LaneView) → Grew words may (Receives r) f old new → has_receipt r.fence new.seen ≡ true
receipt_known words may f r old new g = ap (has_receipt r.fence) g.now ∙ ap (λ (b : Bool). b || has_receipt r.fence g.before) (eq-eqb r.fence r.fence refl)
