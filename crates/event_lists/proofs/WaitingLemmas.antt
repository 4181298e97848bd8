-- Lemmas that crates above use: what was made is what ended and what waits, and what a lane has in hand waits.
use Rattle.std.proofs.Common.{◌≡◌, ◌≢◌, ◌⊎◌, ℕ, ◌+◌, ◌≤◌, Bool, true, false, List, [], ◌∷◌, refl, sym, ap, ◌∙◌, subst, inl, inr, ⊎_elim, arith}
use Rattle.std.specs.Prelude.{if◌then◌else◌, Option, Some, None}
use Rattle.std.proofs.lemmas.Bool.{both_ways}
use Rattle.event_lists.specs.declared.lane.LaneName.{LaneName}
use Rattle.event_lists.specs.declared.event.Event.{Event}
use Rattle.event_lists.specs.declared.event.Event.TheVariants.{Handled, Ran}
use Rattle.event_lists.specs.declared.mark.Item.{Item}
use Rattle.event_lists.specs.declared.mark.Mark.{Mark}
use Rattle.event_lists.specs.Events.{part, same_item, is_item, makes, takes, ends, times_made, times_ended, is_taken, in_hand}
use Rattle.event_lists.specs.Legal.{Legal}
use Rattle.event_lists.proofs.CountLemmas.{one_if}
use Rattle.event_lists.proofs.ItemLemmas.{same_item_true, same_item_refl, is_item_some, made_once, untaken, took_fresh}
use Rattle.event_lists.proofs.HandLemmas.{hand_before, hand_taken, one_hand, ends_hand}

abbrev pub Holds : List Item → Item → Type 0
Holds [] c = ⊥
Holds (d ∷ ds) c = (d ≡ c) ⊎ Holds ds c

-- without the first c
abbrev pub remove : Item → List Item → List Item
remove c [] = []
remove c (d ∷ ds) = if same_item c d then ds else d ∷ remove c ds

remove_other : (c d : Item) (ds : List Item) → c ≢ d → Holds ds d → Holds (remove c ds) d
remove_other c d [] a h = absurd h
remove_other c d (x ∷ ds) a h = step (remove_other c d ds a) (same_item c x) refl h
  where
    step : (Holds ds d → Holds (remove c ds) d) → (b : Bool) → same_item c x ≡ b → Holds (x ∷ ds) d → Holds (if b then ds else x ∷ remove c ds) d
    step rest true e (inl i) = absurd (a (same_item_true c x e ∙ i))
    step rest true e (inr h) = h
    step rest false e (inl i) = inl i
    step rest false e (inr h) = inr (rest h)

abbrev pub added : Option Item → List Item → List Item
added None ds = ds
added (Some c) ds = c ∷ ds

abbrev pub dropped : Option Item → List Item → List Item
dropped None ds = ds
dropped (Some c) ds = remove c ds

-- what was sent and not handled, or submitted and did not run
abbrev pub waiting : List Mark → List Item
waiting [] = []
waiting (x ∷ log) = added (makes x.lane.rank x.event) (dropped (ends x.event) (waiting log))

added_keeps : (o : Option Item) (ds : List Item) (c : Item) → Holds ds c → Holds (added o ds) c
added_keeps None ds c h = h
added_keeps (Some d) ds c h = inr h

dropped_keeps : (o : Option Item) (ds : List Item) (c : Item) → (o ≡ Some c → ⊥) → Holds ds c → Holds (dropped o ds) c
dropped_keeps None ds c a h = h
dropped_keeps (Some d) ds c a h = remove_other d c ds (λ e. a (ap Some e)) h

keeps_waiting : (x : Mark) (log : List Mark) (c : Item) → (ends x.event ≡ Some c → ⊥) → Holds (waiting log) c → Holds (waiting (x ∷ log)) c
keeps_waiting x log c a h = added_keeps (makes x.lane.rank x.event) _ c (dropped_keeps (ends x.event) (waiting log) c a h)

makes_or_made : (c : Item) (x : Mark) (log : List Mark) → 1 ≤ times_made c (x ∷ log) → (makes x.lane.rank x.event ≡ Some c) ⊎ (1 ≤ times_made c log)
makes_or_made c x log m = go (is_item c (makes x.lane.rank x.event)) refl m
  where
    go : (b : Bool) → is_item c (makes x.lane.rank x.event) ≡ b → 1 ≤ one_if b + times_made c log → (makes x.lane.rank x.event ≡ Some c) ⊎ (1 ≤ times_made c log)
    go true e m = inl (is_item_some c (makes x.lane.rank x.event) e)
    go false e m = inr (omega arith)

-- what is made waits
pub made_now : (x : Mark) (log : List Mark) (c : Item) → makes x.lane.rank x.event ≡ Some c → Holds (waiting (x ∷ log)) c
made_now x log c e = subst (λ (o : Option Item). Holds (added o (dropped (ends x.event) (waiting log))) c) (sym e) (inl refl)

-- what was made and not taken waits
pub made_waits : (ranks workers : ℕ) (log : List Mark) → Legal ranks workers log → (c : Item) → 1 ≤ times_made c log → is_taken c log ≡ false → Holds (waiting log) c
made_waits ranks workers [] h c m t = absurd (omega arith)
made_waits ranks workers (x ∷ log) h c m t = ⊎_elim
    (λ e. made_now x log c e)
    (λ before. let free = untaken c x log t in keeps_waiting x log c (λ e. both_ways (is_taken c log) free (hand_taken x.lane log c (ends_hand x.event c ranks log x.lane (part x.lane log) h.0.counting e))) (made_waits ranks workers log h.1 c before free))
    (makes_or_made c x log m)

takes_ends : (c : Item) (e : Event) → takes e ≡ Some c → ends e ≡ Some c → ⊥
takes_ends c (Handled k q m) t i = absurd (cc)
takes_ends c (Ran k q m) t i = absurd (cc)
takes_ends c e t i = absurd (cc)

-- what is in hand waits
pub hand_waits : (ranks workers : ℕ) (log : List Mark) → Legal ranks workers log → (l : LaneName) (c : Item) → in_hand (part l log) ≡ Some c → Holds (waiting log) c
hand_waits ranks workers [] h l c p = absurd (cc)
hand_waits ranks workers (x ∷ log) h l c p = ⊎_elim
    (λ a. let f = took_fresh c x.event ranks log x.lane (part x.lane log) h.0.counting a.1 in
    keeps_waiting x log c (λ e. takes_ends c x.event a.1 e) (made_waits ranks workers log h.1 c f.0 f.1))
    (λ a. keeps_waiting x log c
    (λ e. let same = one_hand ranks workers log h.1 x.lane l c (ends_hand x.event c ranks log x.lane (part x.lane log) h.0.counting e) a.0 in let no = a.1 same in absurd (cc))
    (hand_waits ranks workers log h.1 l c a.0))
    (hand_before l x log c p)

-- weights of items
abbrev pub weigh : (Item → ℕ) → List Item → ℕ
weigh w [] = 0
weigh w (c ∷ cs) = w c + weigh w cs

abbrev pub weight_of : (Item → ℕ) → Option Item → ℕ
weight_of w None = 0
weight_of w (Some c) = w c

remove_weight : (w : Item → ℕ) (c : Item) (ds : List Item) → Holds ds c → w c + weigh w (remove c ds) ≡ weigh w ds
remove_weight w c [] h = absurd h
remove_weight w c (d ∷ ds) h = step (remove_weight w c ds) (same_item c d) refl h
  where
    step : (Holds ds c → w c + weigh w (remove c ds) ≡ weigh w ds) → (b : Bool) → same_item c d ≡ b → Holds (d ∷ ds) c → w c + weigh w (if b then ds else d ∷ remove c ds) ≡ w d + weigh w ds
    step rest true e h = ap (λ (z : Item). w z + weigh w ds) (same_item_true c d e)
    step rest false e (inl i) = absurd (both_ways (same_item c d) e (subst (λ (z : Item). same_item c z ≡ true) (sym i) (same_item_refl c)))
    step rest false e (inr h) = let r = rest h in omega arith

abbrev pub made_by : (Item → ℕ) → List Mark → ℕ
made_by w [] = 0
made_by w (x ∷ log) = weight_of w (makes x.lane.rank x.event) + made_by w log

abbrev pub ended_by : (Item → ℕ) → List Mark → ℕ
ended_by w [] = 0
ended_by w (x ∷ log) = weight_of w (ends x.event) + ended_by w log

added_weight : (w : Item → ℕ) (o : Option Item) (ds : List Item) → weigh w (added o ds) ≡ weight_of w o + weigh w ds
added_weight w None ds = omega arith
added_weight w (Some c) ds = omega arith

dropped_weight : (w : Item → ℕ) (o : Option Item) (ds : List Item) → ((c : Item) → o ≡ Some c → Holds ds c) → weight_of w o + weigh w (dropped o ds) ≡ weigh w ds
dropped_weight w None ds h = omega arith
dropped_weight w (Some c) ds h = remove_weight w c ds (h c refl)

-- made is ended and waiting, however items are weighed
pub weighed : (w : Item → ℕ) (ranks workers : ℕ) (log : List Mark) → Legal ranks workers log → made_by w log ≡ ended_by w log + weigh w (waiting log)
weighed w ranks workers [] h = omega arith
weighed w ranks workers (x ∷ log) h =
    let a = added_weight w (makes x.lane.rank x.event) (dropped (ends x.event) (waiting log)) in
    let d = dropped_weight w (ends x.event) (waiting log) (λ c e. hand_waits ranks workers log h.1 x.lane c (ends_hand x.event c ranks log x.lane (part x.lane log) h.0.counting e)) in
    let i = weighed w ranks workers log h.1 in
    omega arith

pub no_weight : (w : Item → ℕ) (ds : List Item) (c : Item) → weigh w ds ≡ 0 → Holds ds c → w c ≡ 0
no_weight w [] c z h = absurd h
no_weight w (d ∷ ds) c z (inl e) = let i : w d ≡ w c = ap w e in omega arith
no_weight w (d ∷ ds) c z (inr h) = no_weight w ds c (omega arith) h

-- the weight of one item alone
abbrev pub only : Item → Item → ℕ
only c d = one_if (same_item c d)

weight_only : (c : Item) (o : Option Item) → weight_of (only c) o ≡ one_if (is_item c o)
weight_only c None = refl
weight_only c (Some d) = refl

made_only : (c : Item) (log : List Mark) → made_by (only c) log ≡ times_made c log
made_only c [] = refl
made_only c (x ∷ log) = omega (arith, weight_only c (makes x.lane.rank x.event), made_only c log)

ended_only : (c : Item) (log : List Mark) → ended_by (only c) log ≡ times_ended c log
ended_only c [] = refl
ended_only c (x ∷ log) = omega (arith, weight_only c (ends x.event), ended_only c log)

pub times : (c : Item) (ranks workers : ℕ) (log : List Mark) → Legal ranks workers log → times_made c log ≡ times_ended c log + weigh (only c) (waiting log)
times c ranks workers log h = omega (arith, made_only c log, ended_only c log, weighed (only c) ranks workers log h)

-- what was made ends at most as often
pub ended_le : (c : Item) (ranks workers : ℕ) (log : List Mark) → Legal ranks workers log → times_ended c log ≤ times_made c log
ended_le c ranks workers log h = omega (arith, times c ranks workers log h)

weightless : (c : Item) (ds : List Item) → (Holds ds c → ⊥) → weigh (only c) ds ≡ 0
weightless c [] h = refl
weightless c (d ∷ ds) h = go (weightless c ds (λ i. h (inr i))) (same_item c d) refl
  where
    go : weigh (only c) ds ≡ 0 → (b : Bool) → same_item c d ≡ b → one_if b + weigh (only c) ds ≡ 0
    go rest true e = absurd (h (inl (sym (same_item_true c d e))))
    go rest false e = omega (arith, rest)

-- what was made and doesn't wait ended once
pub ended_once : (c : Item) (ranks workers : ℕ) (log : List Mark) → Legal ranks workers log → (Holds (waiting log) c → ⊥) → 1 ≤ times_made c log → times_ended c log ≡ 1
ended_once c ranks workers log h none m =
    omega (arith, weightless c (waiting log) none, times c ranks workers log h, made_once ranks workers log h c)

-- what doesn't wait ended as often as it was made
pub all_ended : (c : Item) (ranks workers : ℕ) (log : List Mark) → Legal ranks workers log → (Holds (waiting log) c → ⊥) → times_ended c log ≡ times_made c log
all_ended c ranks workers log h none = omega (arith, weightless c (waiting log) none, times c ranks workers log h)

in_removed : (d : Item) (ds : List Item) (c : Item) → Holds (remove d ds) c → Holds ds c
in_removed d [] c h = h
in_removed d (y ∷ ds) c h = step (in_removed d ds c) (same_item d y) h
  where
    step : (Holds (remove d ds) c → Holds ds c) → (b : Bool) → Holds (if b then ds else y ∷ remove d ds) c → Holds (y ∷ ds) c
    step rest true h = inr h
    step rest false (inl i) = inl i
    step rest false (inr h) = inr (rest h)

in_dropped : (o : Option Item) (ds : List Item) (c : Item) → Holds (dropped o ds) c → Holds ds c
in_dropped None ds c h = h
in_dropped (Some d) ds c h = in_removed d ds c h

-- what waits was made now, or waited
pub new_or_old : (x : Mark) (log : List Mark) (c : Item) → Holds (waiting (x ∷ log)) c → (makes x.lane.rank x.event ≡ Some c) ⊎ Holds (waiting log) c
new_or_old x log c h = step (makes x.lane.rank x.event) h
  where
    step : (o : Option Item) → Holds (added o (dropped (ends x.event) (waiting log))) c → (o ≡ Some c) ⊎ Holds (waiting log) c
    step None i = inr (in_dropped (ends x.event) (waiting log) c i)
    step (Some d) (inl e) = inl (ap Some e)
    step (Some d) (inr i) = inr (in_dropped (ends x.event) (waiting log) c i)
