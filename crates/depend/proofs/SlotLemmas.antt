-- When no slot is empty, and what filling one leaves.
use Rattle.std.proofs.Common.{◌≡◌, ◌≢◌, ℕ, ◌+◌, ◌<◌, true, false, List, [], ◌∷◌, Option, Some, None, inl, inr, length, slice_set, slice_index_or, refl, arith, sym, ◌∙◌, cond}
use Rattle.std.specs.Prelude.{is_some, is_none, IsSome}
use Rattle.std.proofs.lemmas.List.{length-set, get_or-set_other, get_or_default}
use Rattle.std.proofs.lemmas.Grind.{get_or-set_at}
use Rattle.std.proofs.lemmas.List.Sums.{sum_by-cons}
use Rattle.std.proofs.lemmas.List.Elements.{All-cons, All-head, All-tail}
use Rattle.std.proofs.lemmas.Bool.Decides.{eqb_tells}
use Rattle.depend.specs.Slots.{empty_count, IsReady, IsFilled, IsLastEmpty}

module _ {T : Type 0} where
  -- where no slot is empty, each is filled
  pub ready_from_count : (slots : List (Option T)) → empty_count slots ≡ 0 → IsReady slots
  ready_from_count [] none = λ k d within. absurd (omega (arith, within))
  ready_from_count (None ∷ slots) none = let more : 1 + empty_count slots ≡ 0 = sym (sum_by-cons (λ (x : Option T). cond (is_none x) 1 0) None slots) ∙ none in absurd (omega arith)
  ready_from_count (Some v ∷ slots) none = All-cons IsSome (Some v) slots refl (ready_from_count slots none)

  -- where each is filled, none is empty
  pub count_from_ready : (slots : List (Option T)) → IsReady slots → empty_count slots ≡ 0
  count_from_ready [] ready = refl
  count_from_ready (None ∷ slots) ready = let here : is_some {T = T} None ≡ true = All-head IsSome None slots ready in cc
  count_from_ready (Some v ∷ slots) ready = count_from_ready slots (All-tail IsSome (Some v) slots ready)

  -- a slot whose filling leaves none empty was the last
  pub last_from_ready : (slots : List (Option T)) (index : ℕ) (v : T) → is_some (slice_index_or slots index None) ≡ false → IsReady (slice_set slots index (Some v)) → IsLastEmpty slots index
  last_from_ready slots index v here ready = record { here = here; others = others }
    where
      others : (k : ℕ) → k < length slots → k ≢ index → IsFilled slots k
      others k within apart =
          let inside : k < length (slice_set slots index (Some v)) = rw length-set within in
          let filled : IsSome (slice_index_or (slice_set slots index (Some v)) k None) = ready k None inside in
          rw (← get_or-set_other slots index k (Some v) None apart) filled

  -- filling the last leaves none empty
  pub ready_from_last : (slots : List (Option T)) (index : ℕ) (v : T) → index < length slots → IsLastEmpty slots index → IsReady (slice_set slots index (Some v))
  ready_from_last slots index v inside last k d within =
      elim (eqb_tells k index) [ inl same ↦ here same.1 | inr apart ↦ other apart.1 ]
    where
      shorter : k < length slots
      shorter = rw (← length-set slots index (Some v)) within

      here : k ≡ index → IsSome (slice_index_or (slice_set slots index (Some v)) k d)
      here same = rw (get_or-set_at slots index k (Some v) d same inside) refl

      other : k ≢ index → IsSome (slice_index_or (slice_set slots index (Some v)) k d)
      other apart = rw (get_or-set_other slots index k (Some v) d apart, get_or_default slots k d None shorter) (last.others k shorter apart)
