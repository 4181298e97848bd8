-- Values in a table of futures stay right for the labels of their futures.
use Rattle.std.proofs.Common.{◌≡◌, Bool, true, false, cond, List, Option, Some, None, refl, sym, ap, ◌∙◌, subst, rules}
use Rattle.std.specs.Prelude.{IfSome, IsSome}
use Rattle.app_core.specs.declared.label.Label.{Label}
use Rattle.event_lists.specs.declared.future.Future.{Future}
use Rattle.task_tables.specs.declared.future_state.FutureState.{FutureState}
use Rattle.task_tables.specs.declared.future_state.FutureState.TheVariants.{Given, Waiting}
use Rattle.task_tables.specs.Futures.{same_future, state_of, value_of, HasInPlace, HasTheSame, IsRightState, AreRightStates}

-- futures that `==` takes as equal are equal
pub same_futures : (f g : Future) → same_future f g ≡ true → f ≡ g
same_futures f g same = search (rules, same)

module _ {V : Type 0} (right : Label → V → Type 0) where
  -- a table in which one future changed
  pub right_after_change : (old new : List (Future × FutureState V)) (future : Future) (state : Option (FutureState V)) → AreRightStates right old → HasInPlace old new future state
      → IfSome state (λ s. IsRightState right future.label s) → AreRightStates right new
  right_after_change old new future state all change here = λ other. go other (same_future future other) refl
    where
      go : (other : Future) (b : Bool) → same_future future other ≡ b → IfSome (state_of new other) (λ s. IsRightState right other.label s)
      go other true same =
          let is : state_of new other ≡ state = change other ∙ ap (λ b. cond b state (state_of old other)) same in
          rw is (subst (λ (f : Future). IfSome state (λ s. IsRightState right f.label s)) (same_futures future other same) here)
      go other false apart =
          let is : state_of new other ≡ state_of old other = change other ∙ ap (λ b. cond b state (state_of old other)) apart in
          rw is (all other)

  pub right_where_same : (old new : List (Future × FutureState V)) → AreRightStates right old → HasTheSame old new → AreRightStates right new
  right_where_same old new all same = λ other.
      let is : state_of new other ≡ state_of old other = same other in
      rw is (all other)

  -- a value that is found
  pub found_is_right : (states : List (Future × FutureState V)) (future : Future) (value : V) → AreRightStates right states → value_of (state_of states future) ≡ Some value → right future.label value
  found_is_right states future value all is = go (state_of states future) (all future) is
    where
      go : (o : Option (FutureState V)) → IfSome o (λ s. IsRightState right future.label s) → value_of o ≡ Some value → right future.label value
      go None here is = absurd (cc)
      go (Some (Given given)) here is = rw is at here
      go (Some (Waiting callbacks)) here is = absurd (cc)

module _ {V : Type 0} where
  -- a table in which nothing changed but that one future has what it had
  pub same_in_place : (old new : List (Future × FutureState V)) (future : Future) → HasInPlace old new future (state_of old future) → HasTheSame old new
  same_in_place old new future change = λ other. go other (same_future future other) refl
    where
      go : (other : Future) (b : Bool) → same_future future other ≡ b → state_of new other ≡ state_of old other
      go other true same =
          change other ∙ ap (λ b. cond b (state_of old future) (state_of old other)) same ∙ ap (λ f. state_of old f) (same_futures future other same)
      go other false apart = change other ∙ ap (λ b. cond b (state_of old future) (state_of old other)) apart

  -- two changes of one future
  pub changed_again : (old between new : List (Future × FutureState V)) (future : Future) (first second : Option (FutureState V)) → HasInPlace old between future first → HasInPlace between new future second
      → HasInPlace old new future second
  changed_again old between new future first second change again = λ other. go other (same_future future other) refl
    where
      go : (other : Future) (b : Bool) → same_future future other ≡ b → state_of new other ≡ cond (same_future future other) second (state_of old other)
      go other true same = again other ∙ ap (λ b. cond b second (state_of between other)) same ∙ ap (λ b. cond b second (state_of old other)) (sym same)
      go other false apart = again other ∙ ap (λ b. cond b second (state_of between other)) apart ∙ change other ∙ ap (λ b. cond b first (state_of old other)) apart
          ∙ ap (λ b. cond b second (state_of old other)) (sym apart)

  -- a change of what was there before
  pub same_then_changed : (old between new : List (Future × FutureState V)) (future : Future) (state : Option (FutureState V)) → HasTheSame old between → HasInPlace between new future state → HasInPlace old new future state
  same_then_changed old between new future state same change = λ other. change other ∙ ap (λ s. cond (same_future future other) state s) (same other)

  -- looking a future up changes nothing
  pub found_is_same : (old new : List (Future × FutureState V)) (future : Future) → (state_of old future ≡ None → HasTheSame old new) → (IsSome (state_of old future) → HasInPlace old new future (state_of old future)) → HasTheSame old new
  found_is_same old new future unknown known = go (state_of old future) refl
    where
      go : (o : Option (FutureState V)) → state_of old future ≡ o → HasTheSame old new
      go None none = unknown none
      go (Some s) some = same_in_place old new future (known (rw some refl))
