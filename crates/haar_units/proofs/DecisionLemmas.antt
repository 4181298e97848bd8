-- Steps that decide for an action do what their labels allow, and what is planned if they decide for the planned action.
use Rattle.std.proofs.Common.{◌≡◌, ℕ, Bool, true, List, sym, ap, ◌∙◌, subst}
use Rattle.app_core.specs.declared.label.Label.{Label}
use Rattle.app_core.specs.declared.outline.Outline.{Outline}
use Rattle.haar_units.specs.Jobs.{Operation, DistributedJob}
use Rattle.haar_units.specs.Actions.{Action, Allowed, outlines_of}
use Rattle.haar_units.specs.Traversals.{Traversal, plan, plan_if, is_spawned, MayIsPlanned}
use Rattle.haar_units.specs.Laws.{MayIsAllowed}
use Rattle.haar_units.specs.Decisions.{IsDecided, IsByAStep, DecidedStepsAreAllowed, DecidedStepsAreAllowedAnywhere}

module _ {U G : Type 0} (may : Label → List Outline → Type 0) (name : U → Label) (is_unit : U → Type 0) (suits right : U → G → Type 0) (step : U → G → List Outline) (by : IsByAStep may name is_unit right step) where
  module _ (job : DistributedJob) (traversal : Traversal) (sound : ℕ → Bool) (operation : U → Operation) (decide : U → G → Action) (d : IsDecided job traversal sound name is_unit suits right step operation decide) where
    allowed : (u : U) (g : G) → is_unit u → suits u g → Allowed job (name u) (step u g)
    allowed u g is s = record {
      operation = operation u;
      at = d.operations u is;
      action = decide u g;
      fit = (d.actions u g is s).0;
      part = (d.actions u g is s).1;
      key = d.keys u is;
      lists = d.steps u g is s;
    }

    within : MayIsAllowed job may
    within p os m = let a = by p os m in subst (λ (z : List Outline). Allowed job p z) (sym a.5) (subst (λ (z : Label). Allowed job z (step a.0 a.1)) a.3 (allowed a.0 a.1 a.2 (d.right_suits a.0 a.1 a.4)))

    planned : (u : U) (g : G) → is_unit u → right u g → sound (name u).command ≡ true → is_spawned job traversal (name u) ≡ true → step u g ≡ plan job traversal (name u)
    planned u g is r s here =
        d.steps u g is (d.right_suits u g r)
        ∙ ap (λ (a : Action). outlines_of job (operation u) a (name u).command (name u).place) (d.exact u g is r s here)
        ∙ sym (ap (plan_if job traversal (name u)) (d.operations u is))

    exact : (command : ℕ) → sound command ≡ true → MayIsPlanned job traversal may command
    exact command s p os c up_unit m =
        let a = by p os m in
        let here : (name a.0).command ≡ command = ap (λ (l : Label). l.command) a.3 ∙ c in
        a.5 ∙ planned a.0 a.1 a.2 a.4 (ap sound here ∙ s) (ap (is_spawned job traversal) a.3 ∙ up_unit) ∙ ap (plan job traversal) a.3

  pub decided : DecidedStepsAreAllowed may name is_unit suits right step
  decided job traversal sound operation decide d = (allowed job traversal sound operation decide d, within job traversal sound operation decide d, exact job traversal sound operation decide d)

pub decided_anywhere : {U G : Type 0} (name : U → Label) (is_unit : U → Type 0) (suits : U → G → Type 0) (step : U → G → List Outline) → DecidedStepsAreAllowedAnywhere name is_unit suits step
decided_anywhere name is_unit suits step job operation decide operations keys actions steps u g is s = record {
  operation = operation u;
  at = operations u is;
  action = decide u g;
  fit = (actions u g is s).0;
  part = (actions u g is s).1;
  key = keys u is;
  lists = steps u g is s;
}
