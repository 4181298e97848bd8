-- Lemmas that crates above use: labels and futures, and that dues, needs and gives last.
pub use Rattle.app_core.proofs.LabelLemmas.{told_same as same_label_true, same_self as same_label_refl}
use Rattle.std.proofs.Common.{◌≡◌, ℕ, Bool, true, false, List, [], ◌∷◌, refl, sym, ap, ◌∙◌, subst, ◌++◌, ◌≤◌, arith}
use Rattle.std.specs.Prelude.{if◌then◌else◌, ◌==◌, Option, Some, None}
use Rattle.std.proofs.lemmas.Bool.{and_parts, and_from, eqb-true, eq-eqb}
use Rattle.app_core.specs.declared.label.Label.{Label}
use Rattle.app_core.specs.Outlines.{same_label}
use Rattle.event_lists.specs.declared.mark.Item.{Item}
use Rattle.event_lists.specs.declared.mark.Mark.{Mark}
use Rattle.event_lists.specs.Events.{part, in_hand, is_item, makes, Begins, times_made}
use Rattle.event_lists.specs.declared.future.Bringer.{Bringer}
use Rattle.event_lists.specs.declared.future.Bringer.TheVariants.{Task as task_of, Main as main_at}
use Rattle.event_lists.specs.declared.future.Future.{Future}
use Rattle.event_lists.specs.Futures.{same_bringer, same_future, is_future, bringer, is_own, due_made, due_of, of_item, needs_of, futures_by, spawned_needs, times_given}
use Rattle.event_lists.specs.Legal.{Legal}
use Rattle.event_lists.proofs.ItemLemmas.{is_item_some, new_item, made_grows}

pub same_bringer_true : (a b : Bringer) → same_bringer a b ≡ true → a ≡ b
same_bringer_true (task_of r n) (task_of q m) e = let p = and_parts (r == q) (n == m) e in λ i. task_of (eqb-true r q p.0 i) (eqb-true n m p.1 i)
same_bringer_true (main_at r) (main_at q) e = λ i. main_at (eqb-true r q e i)
same_bringer_true (task_of r n) (main_at q) e = absurd (cc)
same_bringer_true (main_at r) (task_of q m) e = absurd (cc)

pub same_bringer_refl : (a : Bringer) → same_bringer a a ≡ true
same_bringer_refl (task_of r n) = and_from (r == r) (n == n) (eq-eqb r r refl) (eq-eqb n n refl)
same_bringer_refl (main_at r) = eq-eqb r r refl

pub same_future_true : (f g : Future) → same_future f g ≡ true → f ≡ g
same_future_true f g e =
    let p = and_parts (same_bringer f.by g.by) (same_label f.label g.label) e in
    λ i. record { by = same_bringer_true f.by g.by p.0 i; label = same_label_true f.label g.label p.1 i }

pub is_future_some : (f : Future) (o : Option Future) → is_future f o ≡ true → o ≡ Some f
is_future_some f None e = absurd (cc)
is_future_some f (Some g) e = ap Some (sym (same_future_true f g e))

pub same_future_refl : (f : Future) → same_future f f ≡ true
same_future_refl f = and_from (same_bringer f.by f.by) (same_label f.label f.label) (same_bringer_refl f.by) (same_label_refl f.label)

pub some_is_future : (f : Future) (o : Option Future) → o ≡ Some f → is_future f o ≡ true
some_is_future f o e = ap (is_future f) e ∙ same_future_refl f

pub own_label : (d : Label) (f : Future) (o : Option Future) → is_own d o ≡ true → o ≡ Some f → d ≡ f.label
own_label d f o e i = same_label_true d f.label (subst (λ (z : Option Future). is_own d z ≡ true) i e)

pub given_grows : (f : Future) (more log : List Mark) → times_given f log ≤ times_given f (more ++ log)
given_grows f [] log = omega arith
given_grows f (x ∷ more) log = omega (arith, given_grows f more log)

pub gives_last : (old log : List Mark) → Begins old log → (f : Future) → times_given f old ≤ times_given f log
gives_last old log b f = subst (λ (z : List Mark). times_given f old ≤ times_given f z) (sym b.1) (given_grows f b.0 old)

needs_stay : (ranks workers : ℕ) (more log : List Mark) → Legal ranks workers (more ++ log) → (c : Item) → 1 ≤ times_made c log → needs_of c (more ++ log) ≡ needs_of c log
needs_stay ranks workers [] log h c m = refl
needs_stay ranks workers (x ∷ more) log h c m = go (is_item c (makes x.lane.rank x.event)) refl (needs_stay ranks workers more log h.1 c m)
  where
    go : (b : Bool) → is_item c (makes x.lane.rank x.event) ≡ b → needs_of c (more ++ log) ≡ needs_of c log
        → (if b then futures_by (bringer x.lane.rank (in_hand (part x.lane (more ++ log)))) (spawned_needs x.event) else needs_of c (more ++ log)) ≡ needs_of c log
    go true e rest =
        let none = new_item ranks workers (more ++ log) x h c (is_item_some c (makes x.lane.rank x.event) e) in
        absurd (omega (arith, none, made_grows c more log))
    go false e rest = rest

due_stays : (ranks workers : ℕ) (more log : List Mark) → Legal ranks workers (more ++ log) → (c : Item) → 1 ≤ times_made c log → due_of c (more ++ log) ≡ due_of c log
due_stays ranks workers [] log h c m = refl
due_stays ranks workers (x ∷ more) log h c m = go (is_item c (makes x.lane.rank x.event)) refl (due_stays ranks workers more log h.1 c m)
  where
    go : (b : Bool) → is_item c (makes x.lane.rank x.event) ≡ b → due_of c (more ++ log) ≡ due_of c log
        → (if b then due_made x.lane.rank (in_hand (part x.lane (more ++ log))) (of_item (in_hand (part x.lane (more ++ log))) (λ d. due_of d (more ++ log))) x.event else due_of c (more ++ log)) ≡ due_of c log
    go true e rest =
        let none = new_item ranks workers (more ++ log) x h c (is_item_some c (makes x.lane.rank x.event) e) in
        absurd (omega (arith, none, made_grows c more log))
    go false e rest = rest

-- what was made keeps its needs and its due
pub needs_last : (ranks workers : ℕ) (old log : List Mark) → Legal ranks workers log → Begins old log → (c : Item) → 1 ≤ times_made c old → needs_of c log ≡ needs_of c old
needs_last ranks workers old log h b c m = ap (needs_of c) b.1 ∙ needs_stay ranks workers b.0 old (subst (Legal ranks workers) b.1 h) c m

pub due_lasts : (ranks workers : ℕ) (old log : List Mark) → Legal ranks workers log → Begins old log → (c : Item) → 1 ≤ times_made c old → due_of c log ≡ due_of c old
due_lasts ranks workers old log h b c m = ap (due_of c) b.1 ∙ due_stays ranks workers b.0 old (subst (Legal ranks workers) b.1 h) c m
