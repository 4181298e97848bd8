-- Which units put and erase an entry, and what an eraser waits for.
use Rattle.std.proofs.Common.{◌≡◌, ◌⊎◌, ℕ, zero, suc, ◌+◌, ◌*◌, ◌/◌, ◌<◌, ◌≤◌, Bool, true, false, List, [], ◌∷◌, refl, sym, ap, ◌∙◌, subst, inl, inr, ⊎_elim, arith}
use Rattle.std.specs.Prelude.{if◌then◌else◌, Some, slice_get, Contains}
use Rattle.std.proofs.lemmas.Bool.{both_ways, cases_eq}
use Rattle.app_core.specs.declared.label.Label.{Label}
use Rattle.app_core.specs.declared.label.CellName.{CellName}
use Rattle.app_core.specs.declared.outline.Outline.{Outline}
use Rattle.app_core.specs.declared.outline.Outline.TheVariants as of
use Rattle.event_laws.specs.Trees.{unit_of, SpawnsNot, IsOnce, same, above, GivesAfterPut, ErasesWait}
use Rattle.haar_units.specs.Jobs.{Operation, DistributedJob, operation_at, is_coarsen, puts_up}
use Rattle.haar_units.specs.Units.{label, down_unit, up_unit, erase_unit, key_future, entry, parent, needs, home}
use Rattle.haar_units.specs.Jobs.Operation.{Project, Refine, Coarsen, Reconstruct, Add, Mul}
use Rattle.haar_units.specs.Actions.{Action, part_of, fits, puts_first, rest_of, outlines_of, Allowed}
use Rattle.haar_units.specs.Actions.Action.{Stop, Descend, Combine, Merge, Erase, Count, Sum}
use Rattle.haar_units.specs.Laws.{MayIsAllowed}
use Rattle.haar_units.proofs.EffectLemmas.{some_is, none_is, by_rest, offset, first_or_later}

-- no outline after the put is a put
no_puts : (job : DistributedJob) (c x : ℕ) (a : Action) (j : ℕ) (o : Outline) → slice_get (rest_of job a c x) j ≡ Some o → (n : CellName) → o ≡ of.Put n → ⊥
no_puts job c x = by_rest job c x (λ a j o. (n : CellName) → o ≡ of.Put n → ⊥) (record {
  stop = λ n e. cc;
  left = λ n e. cc;
  right = λ n e. cc;
  above = λ n e. cc;
  combine = λ n e. cc;
  erase_left = λ n e. cc;
  erase_right = λ n e. cc;
  merge = λ n e. cc;
  erased = λ n e. cc;
  counted = λ n e. cc;
  summed = λ n e. cc;
})

-- a unit that puts an entry puts it first, and it is the entry of its key
pub record PutIs (job : DistributedJob) (p : Label) (os : List Outline) (m : Allowed job p os) (i : ℕ) (n : CellName) : Type 0 where
  pub puts_first : puts_first m.operation m.action ≡ true
  pub first : i ≡ 0
  pub entry : entry p.command p.place ≡ n

pub put_is : (job : DistributedJob) (p : Label) (os : List Outline) (m : Allowed job p os) (i : ℕ) (n : CellName) → slice_get os i ≡ Some (of.Put n) → PutIs job p os m i n
put_is job p os m i n e = ⊎_elim
    (λ first. record { puts_first = first.0; first = first.1; entry = let z : of.Put (entry p.command p.place) ≡ of.Put n = first.2 in cc })
    (λ later. absurd (no_puts job p.command p.place m.action later.0 (of.Put n) later.2 n refl))
    (first_or_later (puts_first m.operation m.action) (of.Put (entry p.command p.place)) (rest_of job m.action p.command p.place) i (of.Put n) (subst (λ (z : List Outline). slice_get z i ≡ Some (of.Put n)) m.lists e))

-- a unit that puts visits a key, and spawns nothing unless its operation puts at each key; or it combines, and its operation doesn't
-- put where units descend
pub data Puts (w : Operation) (a : Action) : Type 0 where
  where_all : part_of a ≡ 0 → puts_up w ≡ false → Puts w a
  in_place : a ≡ Stop → Puts w a
  above_it : part_of a ≡ 1 → puts_up w ≡ true → Puts w a

pub puts_how : (w : Operation) (a : Action) → fits w a ≡ true → puts_first w a ≡ true → Puts w a
puts_how w Stop f p = in_place refl
puts_how Project Descend f p = where_all refl refl
puts_how Refine Descend f p = where_all refl refl
puts_how Reconstruct Descend f p = where_all refl refl
puts_how Add Descend f p = where_all refl refl
puts_how Mul Descend f p = where_all refl refl
puts_how w Descend f p = absurd (cc)
puts_how w Combine f p = above_it refl p
puts_how Coarsen Merge f p = above_it refl refl
puts_how w Merge f p = absurd (cc)
puts_how w Erase f p = absurd (cc)
puts_how w Count f p = absurd (cc)
puts_how w Sum f p = absurd (cc)

-- labels with equal parts are equal
same_label : (p q : Label) → p.command ≡ q.command → p.part ≡ q.part → p.place ≡ q.place → p ≡ q
same_label p q c n x = λ i. record { command = c i; part = n i; place = x i }

-- a unit that gives its due at once spawns none
leaves_none : (job : DistributedJob) (w : Operation) (c x : ℕ) (i : ℕ) (o : Outline) (u : Label) → slice_get (outlines_of job w Stop c x) i ≡ Some o → unit_of o ≡ Some u → ⊥
leaves_none job w c x i o u e unit = ⊎_elim
    (λ first. none_is u (ap unit_of first.2 ∙ unit))
    (λ later. rest later.0 o later.2 unit)
    (first_or_later (puts_first w Stop) (of.Put (entry c x)) (rest_of job Stop c x) i o e)
  where
    rest : (j : ℕ) (o : Outline) → slice_get (rest_of job Stop c x) j ≡ Some o → unit_of o ≡ Some u → ⊥
    rest zero o e unit = none_is u (ap unit_of (some_is _ o e) ∙ unit)
    rest (suc j) o e unit = cc

-- if one visits the key and the other combines, the first is the second's spawner, and puts instead of spawning
spawns_not : (job : DistributedJob) (p q : Label) (os : List Outline) (m : Allowed job p os) → m.action ≡ Stop → q.part ≡ 1 → p.command ≡ q.command → p.place ≡ q.place → SpawnsNot parent p os q
spawns_not job p q os m leave part command place = record {
  spawner =
      let q_is : q ≡ up_unit p.command p.place = same_label q (up_unit p.command p.place) (sym command) part (sym place) in
      let p_is : p ≡ down_unit p.command p.place = same_label p (down_unit p.command p.place) refl (m.part ∙ ap part_of leave) refl in
      ap parent q_is ∙ ap Some (sym p_is);
  none = λ i o e unit. leaves_none job m.operation p.command p.place i o q (subst (λ (z : List Outline). slice_get z i ≡ Some o) (m.lists ∙ ap (λ (a : Action). outlines_of job m.operation a p.command p.place) leave) e) unit;
}

module _ (job : DistributedJob) (may : Label → List Outline → Type 0) (within : MayIsAllowed job may) where
  one_putter : (p q : Label) (os ps : List Outline) (m : Allowed job p os) (n : Allowed job q ps) → puts_first m.operation m.action ≡ true → puts_first n.operation n.action ≡ true → p.command ≡ q.command → p.place ≡ q.place
      → (p ≡ q) ⊎ (SpawnsNot parent p os q ⊎ SpawnsNot parent q ps p)
  one_putter p q os ps m n a b command place = meet (puts_how m.operation m.action m.fit a) (puts_how n.operation n.action n.fit b)
    where
      operations : m.operation ≡ n.operation
      operations = some_is m.operation n.operation (sym m.at ∙ ap (operation_at job) command ∙ n.at)

      parts : part_of m.action ≡ part_of n.action → p ≡ q
      parts e = same_label p q command (m.part ∙ e ∙ sym n.part) place

      meet : Puts m.operation m.action → Puts n.operation n.action → (p ≡ q) ⊎ (SpawnsNot parent p os q ⊎ SpawnsNot parent q ps p)
      meet (where_all e f) (where_all g h) = inl (parts (e ∙ sym g))
      meet (where_all e f) (in_place g) = inl (parts (e ∙ sym (ap part_of g)))
      meet (where_all e f) (above_it g h) = absurd (both_ways (puts_up n.operation) (sym (ap puts_up operations) ∙ f) h)
      meet (in_place e) (where_all g h) = inl (parts (ap part_of e ∙ sym g))
      meet (in_place e) (in_place g) = inl (parts (ap part_of e ∙ sym (ap part_of g)))
      meet (in_place e) (above_it g h) = inr (inl (spawns_not job p q os m e (n.part ∙ g) command place))
      meet (above_it e f) (where_all g h) = absurd (both_ways (puts_up m.operation) (ap puts_up operations ∙ h) f)
      meet (above_it e f) (in_place g) = inr (inr (spawns_not job q p ps n g (m.part ∙ e) (sym command) (sym place)))
      meet (above_it e f) (above_it g h) = inl (parts (e ∙ sym g))

  pub puts_once : IsOnce may parent (λ c. of.Put c)
  puts_once = record {
    unit = λ p q os ps i j c m n e f.
        let a = put_is job p os (within p os m) i c e in
        let b = put_is job q ps (within q ps n) j c f in
        let entries : entry p.command p.place ≡ entry q.command q.place = a.entry ∙ sym b.entry in
        one_putter p q os ps (within p os m) (within q ps n) a.puts_first b.puts_first (ap (λ (z : CellName). z.version) entries) (ap (λ (z : CellName). z.place) entries);
    place = λ p os i j c m e f. (put_is job p os (within p os m) i c e).first ∙ sym (put_is job p os (within p os m) j c f).first;
  }

  -- a unit that erases an entry is the erase unit of its key
  pub record EraseIs (p : Label) (os : List Outline) (i : ℕ) (n : CellName) : Type 0 where
    pub operation : operation_at job p.command ≡ Some Coarsen
    pub part : p.part ≡ 2
    pub key : 1 ≤ p.place
    pub first : i ≡ 0
    pub entry : entry p.command p.place ≡ n

  pub erase_is : (p : Label) (os : List Outline) (i : ℕ) (n : CellName) → Allowed job p os → slice_get os i ≡ Some (of.Erase n) → EraseIs p os i n
  erase_is p os i n m e = go m.action m.fit m.part (subst (λ (z : List Outline). slice_get z i ≡ Some (of.Erase n)) m.lists e)
    where
      none : (a : Action) → (part_of a ≡ 2 → ⊥) → (j : ℕ) (o : Outline) → slice_get (rest_of job a p.command p.place) j ≡ Some o → o ≡ of.Erase n → ⊥
      none a not j o e is = by_rest job p.command p.place (λ a j o. (part_of a ≡ 2 → ⊥) → o ≡ of.Erase n → ⊥) (record {
        stop = λ not e. cc;
        left = λ not e. cc;
        right = λ not e. cc;
        above = λ not e. cc;
        combine = λ not e. cc;
        erase_left = λ not e. cc;
        erase_right = λ not e. cc;
        merge = λ not e. cc;
        erased = λ not e. not refl;
        counted = λ not e. cc;
        summed = λ not e. cc;
      }) a j o e not is

      other : (w : Operation) (a : Action) → (part_of a ≡ 2 → ⊥) → slice_get (outlines_of job w a p.command p.place) i ≡ Some (of.Erase n) → ⊥
      other w a not at = ⊎_elim
          (λ first. let z : of.Put (entry p.command p.place) ≡ of.Erase n = first.2 in cc)
          (λ later. none a not later.0 (of.Erase n) later.2 refl)
          (first_or_later (puts_first w a) (of.Put (entry p.command p.place)) (rest_of job a p.command p.place) i (of.Erase n) at)

      coarsens : (w : Operation) → is_coarsen w ≡ true → w ≡ Coarsen
      coarsens Coarsen e = refl
      coarsens w e = absurd (cc)

      clears : (i : ℕ) → slice_get (of.Erase (entry p.command p.place) ∷ []) i ≡ Some (of.Erase n) → (i ≡ 0) × (entry p.command p.place ≡ n)
      clears zero e = (refl, let z : of.Erase (entry p.command p.place) ≡ of.Erase n = some_is _ _ e in cc)
      clears (suc i) e = absurd (cc)

      go : (a : Action) → fits m.operation a ≡ true → p.part ≡ part_of a → slice_get (outlines_of job m.operation a p.command p.place) i ≡ Some (of.Erase n) → EraseIs p os i n
      go Erase f part at = let k = clears i at in record { operation = m.at ∙ ap Some (coarsens m.operation f); part = part; key = m.key (omega (arith, part)); first = k.0; entry = k.1 }
      go Stop f part at = absurd (other m.operation Stop (λ e. omega (arith, e)) at)
      go Descend f part at = absurd (other m.operation Descend (λ e. omega (arith, e)) at)
      go Combine f part at = absurd (other m.operation Combine (λ e. omega (arith, e)) at)
      go Merge f part at = absurd (other m.operation Merge (λ e. omega (arith, e)) at)
      go Count f part at = absurd (other m.operation Count (λ e. omega (arith, e)) at)
      go Sum f part at = absurd (other m.operation Sum (λ e. omega (arith, e)) at)

  pub erases_once : IsOnce may parent (λ c. of.Erase c)
  erases_once = record {
    unit = λ p q os ps i j c m n e f.
        let a = erase_is p os i c (within p os m) e in
        let b = erase_is q ps j c (within q ps n) f in
        let entries : entry p.command p.place ≡ entry q.command q.place = a.entry ∙ sym b.entry in
        inl (same_label p q (ap (λ (z : CellName). z.version) entries) (a.part ∙ sym b.part) (ap (λ (z : CellName). z.place) entries));
    place = λ p os i j c m e f. (erase_is p os i c (within p os m) e).first ∙ sym (erase_is p os j c (within p os m) f).first;
  }

  -- a unit gives the future of its key, or it counts
  data Gives (a : Action) (c x : ℕ) (l : Label) : Type 0 where
    its_own : part_of a ≤ 1 → puts_first Coarsen a ≡ true → key_future c x ≡ l → Gives a c x l
    of_count : l.part ≡ 1 → Gives a c x l
    of_sum : a ≡ Sum → l.command ≡ c → Gives a c x l

  gives_own : (a : Action) (c x : ℕ) → part_of a ≤ 1 → puts_first Coarsen a ≡ true → (k : ℕ) (l : Label) (h : ℕ) → of.Give (key_future c x) k ≡ of.Give l h → Gives a c x l
  gives_own a c x part put k l h e = its_own part put (let z : key_future c x ≡ l = cc in z)

  gives_how : (c x : ℕ) (a : Action) (j : ℕ) (o : Outline) → slice_get (rest_of job a c x) j ≡ Some o → (l : Label) (h : ℕ) → o ≡ of.Give l h → Gives a c x l
  gives_how c x = by_rest job c x (λ a j o. (l : Label) (h : ℕ) → o ≡ of.Give l h → Gives a c x l) (record {
    stop = gives_own Stop c x (omega arith) refl _;
    left = λ l h e. absurd (cc);
    right = λ l h e. absurd (cc);
    above = λ l h e. absurd (cc);
    combine = gives_own Combine c x (omega arith) refl _;
    erase_left = λ l h e. absurd (cc);
    erase_right = λ l h e. absurd (cc);
    merge = gives_own Merge c x (omega arith) refl _;
    erased = λ l h e. absurd (cc);
    counted = λ l h e. of_count (let z : label c 1 x ≡ l = cc in sym (ap (λ (v : Label). v.part) z));
    summed = λ l h e. of_sum refl (let z : key_future c 1 ≡ l = cc in sym (ap (λ (v : Label). v.command) z));
  })

  home_is : (part place : ℕ) → part ≤ 2 → job.owner place ≡ home job (label 0 part place)
  home_is zero place few = refl
  home_is (suc zero) place few = refl
  home_is (suc (suc zero)) place few = refl
  home_is (suc (suc (suc part))) place few = absurd (omega (arith, few))

  put_first : (b : Bool) (n : CellName) (rest : List Outline) (i j : ℕ) → b ≡ true → i ≡ offset b + j → (k : ℕ) × (k < i) × (slice_get (if b then of.Put n ∷ rest else rest) k ≡ Some (of.Put n))
  put_first true n rest i j b e = (0, omega (arith, e), refl)
  put_first false n rest i j b e = absurd (cc)

  -- a unit of `coarsen` that gives the future of a key runs on the key's owner, and puts the key's entry before
  gives_after : (c x : ℕ) → operation_at job c ≡ Some Coarsen → GivesAfterPut may (home job) (key_future c x) (entry c x) (job.owner x)
  gives_after c x at w os i h m e = go (within w os m)
    where
      go : Allowed job w os → (home job w ≡ job.owner x) × ((k : ℕ) × (k < i) × (slice_get os k ≡ Some (of.Put (entry c x))))
      go m = ⊎_elim
          (λ first. let z : of.Put (entry w.command w.place) ≡ of.Give (key_future c x) h = first.2 in absurd (cc))
          (λ later. by_how later.0 later.1 (gives_how w.command w.place m.action later.0 (of.Give (key_future c x) h) later.2 (key_future c x) h refl))
          (first_or_later (puts_first m.operation m.action) (of.Put (entry w.command w.place)) (rest_of job m.action w.command w.place) i (of.Give (key_future c x) h) (subst (λ (z : List Outline). slice_get z i ≡ Some (of.Give (key_future c x) h)) m.lists e))
        where
          by_how : (j : ℕ) → i ≡ offset (puts_first m.operation m.action) + j → Gives m.action w.command w.place (key_future c x) → (home job w ≡ job.owner x) × ((k : ℕ) × (k < i) × (slice_get os k ≡ Some (of.Put (entry c x))))
          by_how j is (its_own part put own) =
              let command : w.command ≡ c = ap (λ (v : Label). v.command) own in
              let place : w.place ≡ x = ap (λ (v : Label). v.place) own in
              let operation : m.operation ≡ Coarsen = some_is m.operation Coarsen (sym m.at ∙ ap (operation_at job) command ∙ at) in
              let few : w.part ≤ 2 = omega (arith, m.part, part) in
              let first = put_first (puts_first m.operation m.action) (entry w.command w.place) (rest_of job m.action w.command w.place) i j (ap (λ (z : Operation). puts_first z m.action) operation ∙ put) is in (
                sym (home_is w.part w.place few) ∙ ap job.owner place,
                (first.0, first.1, ap (λ (z : List Outline). slice_get z first.0) m.lists ∙ first.2 ∙ (λ k. Some (of.Put (entry (command k) (place k))))),
              )
          by_how j is (of_count part) = absurd (omega (arith, part))
          by_how j is (of_sum sum_unit command) =
              let operation : m.operation ≡ Coarsen = some_is m.operation Coarsen (sym m.at ∙ ap (operation_at job) (sym command) ∙ at) in
              let fit : fits m.operation m.action ≡ true = m.fit in
              let t : false ≡ true = sym (λ k. fits (operation k) (sum_unit k)) ∙ fit in
              absurd (cc)

  -- a key is the left or the right child of its parent
  above_is : (x : ℕ) → 1 ≤ x → (2 * (x / 2) ≡ x) ⊎ (2 * (x / 2) + 1 ≡ x)
  above_is x one = ⊎_elim (λ e. inl e) (λ no. inr (let odd = no in omega (arith, odd))) (cases_eq (2 * (x / 2)) x)

  is_needed : (c x : ℕ) → 1 ≤ x → Contains (needs job (up_unit c (x / 2))) (key_future c x)
  is_needed c x one = ⊎_elim
      (λ e. (0, omega arith, ap (key_future c) e))
      (λ e. (1, omega arith, ap (key_future c) e))
      (above_is x one)

  pub eraser_waits : ErasesWait may parent (home job) (needs job)
  eraser_waits = record {
    waits_for = λ p os i n m e.
        let a = erase_is p os i n (within p os m) e in
        let p_is : erase_unit p.command p.place ≡ p = same_label (erase_unit p.command p.place) p refl (sym a.part) refl in
        let few : p.part ≤ 2 = omega (arith, a.part) in (
          up_unit p.command (p.place / 2),
          key_future p.command p.place,
          above p (up_unit p.command (p.place / 2)) (sym (ap parent p_is)) (same (up_unit p.command (p.place / 2)) refl),
          is_needed p.command p.place a.key,
          subst (λ (z : CellName). GivesAfterPut may (home job) (key_future p.command p.place) z (home job p)) a.entry (subst (λ (r : ℕ). GivesAfterPut may (home job) (key_future p.command p.place) (entry p.command p.place) r) (home_is p.part p.place few) (gives_after p.command p.place a.operation)),
        );
  }
