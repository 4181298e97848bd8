-- What a label allows keeps the laws of an application on single steps.
use Rattle.std.proofs.Common.{◌≡◌, ◌≢◌, ℕ, zero, suc, ◌+◌, ◌*◌, ◌≤◌, Bool, true, false, ◌||◌, List, [], ◌∷◌, length, refl, sym, ap, ◌∙◌, subst, ⊎_elim, arith}
use Rattle.std.specs.Prelude.{if◌then◌else◌, Option, Some, None, IfSome, count_by, Contains}
use Rattle.std.specs.List.{AllByRecursion, fold}
use Rattle.std.proofs.lemmas.Bool.{false_from_ne_true}
use Rattle.app_core.specs.declared.label.Label.{Label}
use Rattle.app_core.specs.declared.label.CellName.{CellName}
use Rattle.app_core.specs.declared.outline.Outline.{Outline}
use Rattle.app_core.specs.declared.outline.Outline.TheVariants as of
use Rattle.app_core.specs.Outlines.{same_label, has_due, has_need, gives, IsDueOnce, IsNeededOnce, IsNeededNever, IsSeenToOnce, GivesOnly, NeedingRunsAt, Names, Touches}
use Rattle.event_lists.proofs.FutureLemmas.{same_label_true, same_label_refl}
use Rattle.event_laws.proofs.MemberLemmas.{none_in, contains_cons}
use Rattle.haar_units.specs.Jobs.{DistributedJob}
use Rattle.haar_units.specs.Units.{label, down_unit, up_unit, erase_unit, key_future, count_future, entry, due, home}
use Rattle.haar_units.specs.Actions.{Action, part_of, puts_first, rest_of, outlines_of, Allowed}
use Rattle.haar_units.specs.Actions.Action.{Stop, Descend, Combine, Merge, Erase, Count, Sum}
use Rattle.haar_units.specs.StepLaws.{KeepsStepLaws}

other : (c x y : ℕ) → (x ≡ y → ⊥) → same_label (key_future c x) (key_future c y) ≡ false
other c x y n = false_from_ne_true (same_label (key_future c x) (key_future c y)) (λ t. n (ap (λ (l : Label). l.place) (same_label_true (key_future c x) (key_future c y) t)))

abbrev one : Bool → ℕ
one b = if b then 1 else 0

-- a put before the others changes nothing of what is counted
count_after_put : (test : Outline → Bool) (b : Bool) (n : CellName) (rest : List Outline) → test (of.Put n) ≡ false → count_by test (if b then of.Put n ∷ rest else rest) ≡ count_by test rest
count_after_put test true n rest e = λ i. fold (λ a x. a + one (test x)) (0 + one (e i)) rest
count_after_put test false n rest e = refl

all_after_put : (P : Outline → Type 0) (b : Bool) (n : CellName) (rest : List Outline) → P (of.Put n) → AllByRecursion P rest → AllByRecursion P (if b then of.Put n ∷ rest else rest)
all_after_put P true n rest p h = (p, h)
all_after_put P false n rest p h = h

names_after_put : (b : Bool) (n : CellName) (rest : List Outline) (l : Label) → Names (if b then of.Put n ∷ rest else rest) l → Names rest l
names_after_put true n rest l h = h
names_after_put false n rest l h = h

touches_after_put : (b : Bool) (n : CellName) (rest : List Outline) (m : CellName) → (Touches rest m → n ≡ m) → Touches (if b then of.Put n ∷ rest else rest) m → n ≡ m
touches_after_put true n rest m h (zero, lt, e) = e
touches_after_put true n rest m h (suc k, lt, e) = h (k, omega (arith, lt), e)
touches_after_put false n rest m h t = h t

few_after_put : (b : Bool) (n : CellName) (rest : List Outline) → length rest ≤ 3 → length (if b then of.Put n ∷ rest else rest) ≤ 4
few_after_put true n rest h = omega (arith, h)
few_after_put false n rest h = omega (arith, h)

if_some : (d : Option Label) (P Q : Label → Type 0) → ((l : Label) → P l → Q l) → IfSome d P → IfSome d Q
if_some None P Q f h = tt
if_some (Some l) P Q f h = f l h

module _ (job : DistributedJob) (c x : ℕ) where
  -- the laws hold with a put before the others if they hold without
  with_put : (b : Bool) (p : Label) (rest : List Outline) → p.command ≡ c → p.place ≡ x → KeepsStepLaws job p rest → length rest ≤ 3 → KeepsStepLaws job p (if b then of.Put (entry c x) ∷ rest else rest)
  with_put b p rest command place s few = record {
    seen_to = if_some (due p) (λ l. IsSeenToOnce l rest) (λ l. IsSeenToOnce l (if b then of.Put (entry c x) ∷ rest else rest)) (λ l h. count_after_put (λ o. has_due l o || gives l o) b (entry c x) rest refl ∙ h) s.seen_to;
    unneeded = if_some (due p) (λ l. IsNeededNever l rest) (λ l. IsNeededNever l (if b then of.Put (entry c x) ∷ rest else rest)) (λ l h. count_after_put (has_need l) b (entry c x) rest refl ∙ h) s.unneeded;
    gives = all_after_put (GivesOnly (due p)) b (entry c x) rest tt s.gives;
    due_once = λ l h own. count_after_put (has_due l) b (entry c x) rest refl ∙ s.due_once l (names_after_put b (entry c x) rest l h) own;
    needed_once = λ l h own. count_after_put (has_need l) b (entry c x) rest refl ∙ s.needed_once l (names_after_put b (entry c x) rest l h) own;
    stays = all_after_put (NeedingRunsAt (home job p)) b (entry c x) rest tt s.stays;
    touches = λ m h. let own : entry p.command p.place ≡ entry c x = (λ i. entry (command i) (place i)) in own ∙ touches_after_put b (entry c x) rest m (λ t. sym own ∙ s.touches m t) h;
    few = few_after_put b (entry c x) rest few;
  }

  no_entry : {A : Type 0} (m : CellName) → Contains [] m → A
  no_entry m (k, lt, e) = absurd (omega (arith, lt))

  no_name : {A : Type 0} (l : Label) → Contains [] l → A
  no_name l h = absurd (none_in l h)

  -- a list that only gives a future
  giving : (part : ℕ) (l : Label) (h : ℕ) → due (label c part x) ≡ Some l → KeepsStepLaws job (label c part x) (of.Give l h ∷ [])
  giving part l h d = record {
    seen_to = subst (λ (o : Option Label). IfSome o (λ due. IsSeenToOnce due (of.Give l h ∷ []))) (sym d) (λ i. 0 + one (same_label_refl l i));
    unneeded = subst (λ (o : Option Label). IfSome o (λ due. IsNeededNever due (of.Give l h ∷ []))) (sym d) refl;
    gives = (d, tt);
    due_once = λ m n own. no_name m n;
    needed_once = λ m n own. no_name m n;
    stays = (tt, tt);
    touches = λ m t. no_entry m t;
    few = omega arith;
  }

  -- the children of a key are neither the key nor each other
  module _ (least : 1 ≤ x) where
    up_left : same_label (key_future c x) (key_future c (2 * x)) ≡ false
    up_left = other c x (2 * x) (λ e. omega (arith, e, least))

    up_right : same_label (key_future c x) (key_future c (2 * x + 1)) ≡ false
    up_right = other c x (2 * x + 1) (λ e. omega (arith, e, least))

    left_up : same_label (key_future c (2 * x)) (key_future c x) ≡ false
    left_up = other c (2 * x) x (λ e. omega (arith, e, least))

    right_up : same_label (key_future c (2 * x + 1)) (key_future c x) ≡ false
    right_up = other c (2 * x + 1) x (λ e. omega (arith, e, least))

    left_right : same_label (key_future c (2 * x)) (key_future c (2 * x + 1)) ≡ false
    left_right = other c (2 * x) (2 * x + 1) (λ e. omega (arith, e))

    right_left : same_label (key_future c (2 * x + 1)) (key_future c (2 * x)) ≡ false
    right_left = other c (2 * x + 1) (2 * x) (λ e. omega (arith, e))

    same : (y : ℕ) → same_label (key_future c y) (key_future c y) ≡ true
    same y = same_label_refl (key_future c y)

    -- the futures that a unit names that descends
    by_name : (P : Label → Type 0) → P (key_future c (2 * x)) → P (key_future c (2 * x + 1)) → (l : Label) → Names (rest_of job Descend c x) l → due (down_unit c x) ≢ Some l → P l
    by_name P left right l h own = ⊎_elim
        (λ e. subst P e left)
        (λ h. ⊎_elim
        (λ e. subst P e right)
        (λ h. ⊎_elim
        (λ e. absurd (own (ap Some e)))
        (λ h. ⊎_elim
        (λ e. subst P e left)
        (λ h. ⊎_elim (λ e. subst P e right) (λ h. no_name l h) (contains_cons (key_future c (2 * x + 1)) l [] h))
        (contains_cons (key_future c (2 * x)) l (key_future c (2 * x + 1) ∷ []) h))
        (contains_cons (key_future c x) l (key_future c (2 * x) ∷ key_future c (2 * x + 1) ∷ []) h))
        (contains_cons (key_future c (2 * x + 1)) l (key_future c x ∷ key_future c (2 * x) ∷ key_future c (2 * x + 1) ∷ []) h))
        (contains_cons (key_future c (2 * x)) l (key_future c (2 * x + 1) ∷ key_future c x ∷ key_future c (2 * x) ∷ key_future c (2 * x + 1) ∷ []) h)

    splitting : KeepsStepLaws job (down_unit c x) (rest_of job Descend c x)
    splitting = record {
      seen_to = λ i. 0 + one (up_left i || false) + one (up_right i || false) + one (same x i || false);
      unneeded = λ i. 0 + one (up_left i || (up_right i || false));
      gives = (tt, (tt, (tt, tt)));
      due_once = by_name (λ l. IsDueOnce l (rest_of job Descend c x)) (λ i. 0 + one (same (2 * x) i) + one (left_right i) + one (left_up i)) (λ i. 0 + one (right_left i) + one (same (2 * x + 1) i) + one (right_up i));
      needed_once = by_name (λ l. IsNeededOnce l (rest_of job Descend c x)) (λ i. 0 + one (same (2 * x) i || (left_right i || false))) (λ i. 0 + one (right_left i || (same (2 * x + 1) i || false)));
      stays = ((λ some. absurd (some refl)), ((λ some. absurd (some refl)), ((λ some. refl), tt)));
      touches = λ m t. no_entry m t;
      few = omega arith;
    }

    merging : KeepsStepLaws job (up_unit c x) (rest_of job Merge c x)
    merging = record {
      seen_to = λ i. 0 + one (same x i);
      unneeded = refl;
      gives = (tt, (tt, (refl, tt)));
      due_once = λ m n own. no_name m n;
      needed_once = λ m n own. no_name m n;
      stays = ((λ some. absurd (some refl)), ((λ some. absurd (some refl)), (tt, tt)));
      touches = λ m t. no_entry m t;
      few = omega arith;
    }

  clearing : KeepsStepLaws job (erase_unit c x) (rest_of job Erase c x)
  clearing = record {
    seen_to = tt;
    unneeded = tt;
    gives = (tt, tt);
    due_once = λ m n own. no_name m n;
    needed_once = λ m n own. no_name m n;
    stays = (tt, tt);
    touches = erased;
    few = omega arith;
  }
    where
      erased : (m : CellName) → Touches (rest_of job Erase c x) m → entry c x ≡ m
      erased m (zero, lt, e) = e
      erased m (suc k, lt, e) = absurd (omega (arith, lt))

  act_is : (b : Bool) (a : Action) → (part_of a ≤ 2 → 1 ≤ x) → KeepsStepLaws job (label c (part_of a) x) (if b then of.Put (entry c x) ∷ rest_of job a c x else rest_of job a c x)
  act_is b Stop key = with_put b (down_unit c x) (rest_of job Stop c x) refl refl (giving 0 (key_future c x) _ refl) (omega arith)
  act_is b Descend key = with_put b (down_unit c x) (rest_of job Descend c x) refl refl (splitting (key (omega arith))) (omega arith)
  act_is b Combine key = with_put b (up_unit c x) (rest_of job Combine c x) refl refl (giving 1 (key_future c x) _ refl) (omega arith)
  act_is b Merge key = with_put b (up_unit c x) (rest_of job Merge c x) refl refl (merging (key (omega arith))) (omega arith)
  act_is b Erase key = with_put b (erase_unit c x) (rest_of job Erase c x) refl refl clearing (omega arith)
  act_is b Count key = with_put b (label c 3 x) (rest_of job Count c x) refl refl (giving 3 (count_future c x) _ refl) (omega arith)
  act_is b Sum key = with_put b (label c 4 x) (rest_of job Sum c x) refl refl (giving 4 (key_future c 1) _ refl) (omega arith)

pub sound : (job : DistributedJob) (p : Label) (os : List Outline) → Allowed job p os → KeepsStepLaws job p os
sound job p os m =
    subst (λ (z : List Outline). KeepsStepLaws job p z) (sym m.lists)
    (subst (λ (n : ℕ). KeepsStepLaws job (label p.command n p.place) (outlines_of job m.operation m.action p.command p.place)) (sym m.part)
    (act_is job p.command p.place (puts_first m.operation m.action) m.action (λ few. m.key (subst (λ (n : ℕ). n ≤ 2) (sym m.part) few))))
