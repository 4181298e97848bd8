-- Units of commands that write a tree from two: what is given at an overflow, and what the children's units know.
use Rattle.std.proofs.Common.{◌≡◌, ℕ, ◌<◌, ◌^◌, Bool, true, refl, sym, ap, ◌∙◌, subst}
use Rattle.std.specs.Prelude.{if◌then◌else◌, Option, Some, None, IfSome}
use Rattle.tree_key.specs.Keys.{Key}
use Rattle.tree_model.specs.Totals.{over}
use Rattle.tree_model.specs.Trees.{Tree}
use Rattle.tree_model.specs.Versions.{Version}
use Rattle.haar_node.specs.declared.Node.{Node}
use Rattle.haar_node.specs.declared.Node.TheVariants as node
use Rattle.haar_base.specs.declared.operation.Operation.{Operation}
use Rattle.haar_base.specs.declared.value.Value.{Value}
use Rattle.haar_base.specs.declared.value.Value.TheVariants.{Done, Bad}
use Rattle.haar_base.specs.declared.readings.ChildSides.{ChildSides}
use Rattle.haar_base.specs.Decisions.{bad_visit}
use Rattle.haar_base.specs.Operations.{operation_at}
use Rattle.haar_meaning.specs.PlannedJobs.{PlannedJob, IsPlannedJob, standing, version_of}
use Rattle.haar_meaning.specs.PlannedJobs.Standing.{Before}
use Rattle.haar_meaning.specs.RightValues.{IsMeant, overflows_on, overflow_value}
use Rattle.haar_meaning.specs.RightDecisions.{IsRightGive}
use Rattle.haar_right.proofs.KnownLemmas.{version_is_known}
use Rattle.haar_right.proofs.ReadingLemmas.{child_sides}
use Rattle.haar_right.proofs.DecisionLemmas.{give_right, IsDecision, FirstOf, SecondOf}
use Rattle.haar_right.proofs.WrittenLemmas.{some_of, put_written}
use Rattle.haar_visits.specs.Adding.{split_two}
use Rattle.haar_right.proofs.OverflowLemmas.{no_overflow_on}

pub split_first : (operation : Operation) (t : Tree) (k : Key) (n : Node) (first second : Option ChildSides) → first ≡ Some (child_sides operation t k) → FirstOf operation t k (split_two n first second)
split_first operation t k n first second is = subst (λ (o : Option ChildSides). FirstOf operation t k (split_two n o second)) (sym is) (go second)
  where
    go : (o : Option ChildSides) → FirstOf operation t k (split_two n (Some (child_sides operation t k)) o)
    go None = tt
    go (Some other) = (refl, refl)

pub split_second : (operation : Operation) (t : Tree) (k : Key) (n : Node) (first second : Option ChildSides) → second ≡ Some (child_sides operation t k) → SecondOf operation t k (split_two n first second)
split_second operation t k n first second is = subst (λ (o : Option ChildSides). SecondOf operation t k (split_two n first o)) (sym is) (go first)
  where
    go : (o : Option ChildSides) → SecondOf operation t k (split_two n o (Some (child_sides operation t k)))
    go None = tt
    go (Some other) = (refl, refl)

pub value_over : (t : Tree) (k : Key) (b : Bool) → overflows_on t k ≡ b → (if b then Bad else Done) ≡ overflow_value t k
value_over t k b is = ap (λ (b : Bool). if b then Bad else Done) (sym is)

module _ (job : PlannedJob) (planned : IsPlannedJob job) (command : ℕ) (operation : Operation) (k : Key) (place : k.at < 2 ^ k.level) (at : operation_at job.operations command ≡ Some operation)
    (w : Version) (written : version_of job command ≡ Some w) (meant : (v : Value) → IfSome (version_of job command) (λ version. v ≡ Done) → IsMeant job command operation k v) where
  pub over_not_before : {A : Type 0} → standing job command ≡ Before → overflows_on w.tree k ≡ true → A
  over_not_before before over = absurd (let none = no_overflow_on w.tree k (version_is_known job command w planned.checked before written).values in cc)

  -- a value that tells of the overflow is right before the overflow, too
  pub overflow_given : (v : Value) → v ≡ overflow_value w.tree k → IsRightGive job command k v
  overflow_given v is = give_right job command operation k place at v
      (λ before. meant v (some_of (λ (version : Version). v ≡ Done) (version_of job command) w written
      (is ∙ ap (λ (b : Bool). if b then Bad else Done) (no_overflow_on w.tree k (version_is_known job command w planned.checked before written).values))))
      (λ late. some_of (λ (version : Version). v ≡ overflow_value version.tree k) (version_of job command) w written is)

  pub bad_right : overflows_on w.tree k ≡ true → IsDecision job command operation k place (bad_visit true)
  bad_right over = (
    put_written job command operation k place w node.Bad written (λ before. over_not_before before over),
    overflow_given Bad (value_over w.tree k true over),
  )
