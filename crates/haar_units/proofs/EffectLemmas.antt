-- Case distinctions over the effects that a label allows.
use Rattle.std.proofs.Common.{◌≡◌, ◌⊎◌, ℕ, zero, suc, ◌+◌, ◌*◌, ◌≤◌, Bool, true, false, List, [], ◌∷◌, refl, sym, subst, inl, inr, ⊎_elim, arith}
use Rattle.std.specs.Prelude.{if◌then◌else◌, Some, None, slice_get}
use Rattle.app_core.specs.declared.label.Label.{Label}
use Rattle.app_core.specs.declared.outline.Outline.{Outline}
use Rattle.app_core.specs.declared.outline.Outline.TheVariants as of
use Rattle.haar_units.specs.Jobs.{Operation, DistributedJob, operation_at}
use Rattle.haar_units.specs.Units.{up_unit, erase_unit, label, key_future, count_future, entry, future_home}
use Rattle.haar_units.specs.Starts.{spawn_down}
use Rattle.haar_units.specs.Actions.{Action, part_of, fits, puts_first, rest_of, outlines_of, Allowed}
use Rattle.haar_units.specs.Actions.Action.{Stop, Descend, Combine, Merge, Erase, Count, Sum}

pub some_is : {A : Type 0} (a b : A) → Some a ≡ Some b → a ≡ b
some_is a b e = cc

pub none_is : {A B : Type 0} (a : A) → None ≡ Some a → B
none_is a e = absurd (cc)

-- what holds of each outline after the put, by the action and its index there
pub record Rest (job : DistributedJob) (c x : ℕ) (P : Action → ℕ → Outline → Type 0) : Type 0 where
  pub stop : P Stop 0 (of.Give (key_future c x) (future_home job (key_future c x)))
  pub left : P Descend 0 (spawn_down job c (2 * x))
  pub right : P Descend 1 (spawn_down job c (2 * x + 1))
  pub above : P Descend 2 (of.Spawn (up_unit c x) (Some (key_future c x)) (key_future c (2 * x) ∷ key_future c (2 * x + 1) ∷ []) (job.owner x))
  pub combine : P Combine 0 (of.Give (key_future c x) (future_home job (key_future c x)))
  pub erase_left : P Merge 0 (of.Spawn (erase_unit c (2 * x)) None [] (job.owner (2 * x)))
  pub erase_right : P Merge 1 (of.Spawn (erase_unit c (2 * x + 1)) None [] (job.owner (2 * x + 1)))
  pub merge : P Merge 2 (of.Give (key_future c x) (future_home job (key_future c x)))
  pub erased : P Erase 0 (of.Erase (entry c x))
  pub counted : P Count 0 (of.Give (count_future c x) 0)
  pub summed : P Sum 0 (of.Give (key_future c 1) 0)

pub by_rest : (job : DistributedJob) (c x : ℕ) (P : Action → ℕ → Outline → Type 0) → Rest job c x P → (a : Action) (j : ℕ) (o : Outline) → slice_get (rest_of job a c x) j ≡ Some o → P a j o
by_rest job c x P h Stop zero o e = subst (P Stop 0) (some_is _ o e) h.stop
by_rest job c x P h Stop (suc j) o e = absurd (cc)
by_rest job c x P h Descend zero o e = subst (P Descend 0) (some_is _ o e) h.left
by_rest job c x P h Descend (suc zero) o e = subst (P Descend 1) (some_is _ o e) h.right
by_rest job c x P h Descend (suc (suc zero)) o e = subst (P Descend 2) (some_is _ o e) h.above
by_rest job c x P h Descend (suc (suc (suc j))) o e = absurd (cc)
by_rest job c x P h Combine zero o e = subst (P Combine 0) (some_is _ o e) h.combine
by_rest job c x P h Combine (suc j) o e = absurd (cc)
by_rest job c x P h Merge zero o e = subst (P Merge 0) (some_is _ o e) h.erase_left
by_rest job c x P h Merge (suc zero) o e = subst (P Merge 1) (some_is _ o e) h.erase_right
by_rest job c x P h Merge (suc (suc zero)) o e = subst (P Merge 2) (some_is _ o e) h.merge
by_rest job c x P h Merge (suc (suc (suc j))) o e = absurd (cc)
by_rest job c x P h Erase zero o e = subst (P Erase 0) (some_is _ o e) h.erased
by_rest job c x P h Erase (suc j) o e = absurd (cc)
by_rest job c x P h Count zero o e = subst (P Count 0) (some_is _ o e) h.counted
by_rest job c x P h Count (suc j) o e = absurd (cc)
by_rest job c x P h Sum zero o e = subst (P Sum 0) (some_is _ o e) h.summed
by_rest job c x P h Sum (suc j) o e = absurd (cc)

-- how many outlines are before the rest
abbrev pub offset : Bool → ℕ
offset b = if b then 1 else 0

-- an outline is the put, or one of the rest
pub first_or_later : (b : Bool) (p : Outline) (rest : List Outline) (i : ℕ) (o : Outline) → slice_get (if b then p ∷ rest else rest) i ≡ Some o
    → ((b ≡ true) × (i ≡ 0) × (p ≡ o)) ⊎ ((j : ℕ) × (i ≡ offset b + j) × (slice_get rest j ≡ Some o))
first_or_later true p rest zero o e = inl (refl, refl, some_is p o e)
first_or_later true p rest (suc i) o e = inr (i, omega arith, e)
first_or_later false p rest i o e = inr (i, omega arith, e)

pub after_put : (b : Bool) (p : Outline) (rest : List Outline) (j : ℕ) (o : Outline) → slice_get rest j ≡ Some o → slice_get (if b then p ∷ rest else rest) (offset b + j) ≡ Some o
after_put true p rest j o e = let next : suc j ≡ 1 + j = omega arith in subst (λ (n : ℕ). slice_get (p ∷ rest) n ≡ Some o) next e
after_put false p rest j o e = let same : j ≡ 0 + j = omega arith in subst (λ (n : ℕ). slice_get rest n ≡ Some o) same e

-- what holds of each effect that a label allows
pub record Effects (job : DistributedJob) (Q : Label → Outline → Type 0) : Type 0 where
  pub put : (w : Operation) (a : Action) (c x : ℕ) → operation_at job c ≡ Some w → fits w a ≡ true → puts_first w a ≡ true → Q (label c (part_of a) x) (of.Put (entry c x))
  pub rest : (w : Operation) (c x : ℕ) → operation_at job c ≡ Some w → Rest job c x (λ a j o. (fits w a ≡ true) → (part_of a ≤ 2 → 1 ≤ x) → Q (label c (part_of a) x) o)

pub by_effect : (job : DistributedJob) (Q : Label → Outline → Type 0) → Effects job Q → (p : Label) (os : List Outline) (i : ℕ) (o : Outline) → Allowed job p os → slice_get os i ≡ Some o → Q p o
by_effect job Q h p os i o m e =
    let at : slice_get (outlines_of job m.operation m.action p.command p.place) i ≡ Some o = subst (λ (z : List Outline). slice_get z i ≡ Some o) m.lists e in
    let here : Q (label p.command (part_of m.action) p.place) o = ⊎_elim
    (λ first. subst (Q (label p.command (part_of m.action) p.place)) first.2 (h.put m.operation m.action p.command p.place m.at m.fit first.0))
    (λ later. by_rest job p.command p.place (λ a j o. (fits m.operation a ≡ true) → (part_of a ≤ 2 → 1 ≤ p.place) → Q (label p.command (part_of a) p.place) o) (h.rest m.operation p.command p.place m.at) m.action later.0 o later.2 m.fit (λ few. m.key (subst (λ (n : ℕ). n ≤ 2) (sym m.part) few)))
    (first_or_later (puts_first m.operation m.action) (of.Put (entry p.command p.place)) (rest_of job m.action p.command p.place) i o at) in
    subst (λ (n : ℕ). Q (label p.command n p.place) o) (sym m.part) here
