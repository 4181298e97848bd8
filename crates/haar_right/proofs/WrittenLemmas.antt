-- What is stored at a key, what is given by a command that writes a tree, and where the overflow is.
use Rattle.std.proofs.Common.{◌≡◌, ℕ, ◌<◌, ◌^◌, Bool, true, false, refl, sym, ap, ◌∙◌, subst, ℤ, pos}
use Rattle.std.specs.Prelude.{◌&&◌, ◌||◌, ◌==◌, not, if◌then◌else◌, Option, Some, None, IfSome}
use Rattle.tree_key.specs.Keys.{Key, child}
use Rattle.tree_model.specs.Nodes.Form.{Reconstructed, Compressed}
use Rattle.tree_model.specs.Nodes.Node.{Leaf as LeafData, Branch as BranchData, Inner as InnerData, Root as RootData, Bare as BareData}
use Rattle.tree_model.specs.Trees.{Tree, HasValues, box_sum, difference}
use Rattle.tree_model.specs.Versions.{Version}
use Rattle.tree_model.proofs.StoredTreeLemmas.{values_dont_overflow}
use Rattle.haar_node.specs.declared.Node.{Node}
use Rattle.haar_node.specs.declared.Node.TheVariants as node
use Rattle.haar_node.specs.Node.{node_of}
use Rattle.haar_units.proofs.EffectLemmas.{some_is}
use Rattle.haar_base.specs.declared.operation.Operation.{Operation}
use Rattle.haar_base.specs.declared.unit.Up.{Up as UpUnit}
use Rattle.haar_base.specs.declared.value.Value.{Value}
use Rattle.haar_base.specs.declared.value.Value.TheVariants.{Done, Bad}
use Rattle.haar_base.specs.Decisions.{is_done, done}
use Rattle.haar_base.specs.Readings.{sums}
use Rattle.haar_visits.specs.Compressing.{compressed_node, below_node}
use Rattle.haar_meaning.specs.PlannedJobs.{PlannedJob, standing, version_of}
use Rattle.haar_meaning.specs.PlannedJobs.Standing.{Before, At}
use Rattle.haar_meaning.specs.RightValues.{IsMeant, IsOverflow, overflows_on, overflow_value}
use Rattle.haar_meaning.specs.RightCells.{stored_node}
use Rattle.haar_meaning.specs.JobUnits.{IsUpUnit}
use Rattle.haar_meaning.specs.RightDecisions.{IsRightPut, IsRightGive, IsRightCombination}
use Rattle.haar_right.proofs.KnownLemmas.{version_is_over}
use Rattle.haar_right.proofs.PlanLemmas.{version_with}
use Rattle.haar_right.proofs.OverflowLemmas.{halves_overflow}
use Rattle.haar_right.proofs.DecisionLemmas.{fits_of, child_is_key_of, put_right, give_right, given_before, given_over}

pub some_of : {A : Type 0} (P : A → Type 0) (o : Option A) (a : A) → o ≡ Some a → P a → IfSome o P
some_of {A = A} P o a e p = subst (λ (o : Option A). IfSome o P) (sym e) p

-- the node of a key

pub stored_branch : (t : Tree) (k : Key) → t.shape k ≡ true → t.shape (child k false) ≡ true → BranchData ≡ stored_node (version_with Reconstructed t) k
stored_branch t k inside cut = sym (λ i. if inside i then (if inside i && not (cut i) then LeafData (box_sum t k) else BranchData) else LeafData (box_sum t k))

pub stored_leaf : (t : Tree) (k : Key) → t.shape k ≡ true → t.shape (child k false) ≡ false → LeafData (box_sum t k) ≡ stored_node (version_with Reconstructed t) k
stored_leaf t k inside cut = sym (λ i. if inside i then (if inside i && not (cut i) then LeafData (box_sum t k) else BranchData) else LeafData (box_sum t k))

pub stored_sums : (t : Tree) (k : Key) (cut : Bool) → t.shape k ≡ true → t.shape (child k false) ≡ cut
    → node_of (compressed_node k (sums (if k.level == 0 then box_sum t k else pos 0) (if cut then Some (difference t k) else None))) ≡ stored_node (version_with Compressed t) k
stored_sums t k cut inside is =
    go (k.level == 0) cut
    ∙ sym (λ i. if inside i then (if k.level == 0 then RootData (box_sum t k) (if inside i && not (is i) then None else Some (difference t k)) else (if inside i && not (is i) then BareData else InnerData (difference t k))) else LeafData (box_sum t k))
  where
    go : (root cut : Bool)
        → node_of (if root then node.Root (if root then box_sum t k else pos 0) (if cut then Some (difference t k) else None) else below_node (if cut then Some (difference t k) else None))
        ≡ (if root then RootData (box_sum t k) (if not cut then None else Some (difference t k)) else (if not cut then BareData else InnerData (difference t k)))
    go true true = refl
    go true false = refl
    go false true = refl
    go false false = refl

-- only the root's node has the sum
pub same_below : (k : Key) (sum : ℤ) (d : Option ℤ) → compressed_node k (sums sum d) ≡ compressed_node k (sums (if k.level == 0 then sum else pos 0) d)
same_below k sum d = go (k.level == 0)
  where
    go : (root : Bool) → (if root then node.Root sum d else below_node d) ≡ (if root then node.Root (if root then sum else pos 0) d else below_node d)
    go true = refl
    go false = refl

pub stored_compressed : (t : Tree) (k : Key) (cut : Bool) → t.shape k ≡ true → t.shape (child k false) ≡ cut
    → node_of (compressed_node k (sums (box_sum t k) (if cut then Some (difference t k) else None))) ≡ stored_node (version_with Compressed t) k
stored_compressed t k cut inside is = ap node_of (same_below k (box_sum t k) (if cut then Some (difference t k) else None)) ∙ stored_sums t k cut inside is

-- where the command's version is known

pub put_written : (job : PlannedJob) (command : ℕ) (operation : Operation) (k : Key) (at : k.at < 2 ^ k.level) (w : Version) (n : Node) → version_of job command ≡ Some w → (standing job command ≡ Before → node_of n ≡ stored_node w k) → IsRightPut job command k (Some n)
put_written job command operation k at w n written each = put_right job command operation k at n (λ version before is. subst (λ (v : Version). node_of n ≡ stored_node v k) (some_is w version (sym written ∙ is)) (each before))

-- no overflow where the values are ones that a cell may have
pub not_over : {A : Type 0} (job : PlannedJob) (command : ℕ) (w : Version) → version_of job command ≡ Some w → HasValues w.tree → standing job command ≡ At → A
not_over job command w written values at = absurd (let over = version_is_over job command w at written in let none = values_dont_overflow w.tree values in cc)

-- a key is done where both children are, and overflows where one of them does
pub done_overflows : (t : Tree) (k : Key) → k.level < t.depth → (if is_done (overflow_value t (child k false)) && is_done (overflow_value t (child k true)) then Done else Bad) ≡ overflow_value t k
done_overflows t k above = go (overflows_on t (child k false)) (overflows_on t (child k true)) ∙ ap (λ (b : Bool). if b then Bad else Done) (sym (halves_overflow t k above))
  where
    go : (l r : Bool) → (if is_done (if l then Bad else Done) && is_done (if r then Bad else Done) then Done else Bad) ≡ (if l || r then Bad else Done)
    go true r = refl
    go false true = refl
    go false false = refl

-- an up unit of a command whose units are done where the children's are
pub done_right : (job : PlannedJob) (operation : Operation) (u : UpUnit) (left right : Value) (w : Version) → IsUpUnit job operation u → version_of job u.command ≡ Some w → w.tree.depth ≡ job.depth
    → ((k : Key) (v : Value) → IsMeant job u.command operation k v → v ≡ Done) → IsMeant job u.command operation u.key Done
    → IsRightGive job u.command (child u.key false) left → IsRightGive job u.command (child u.key true) right → IsRightCombination job u.command u.key (done left right)
done_right job operation u left right w is written depth_is told tells first second = (tt, give_right job u.command operation u.key at is.command.at (if is_done left && is_done right then Done else Bad) before over)
  where
    at : u.key.at < 2 ^ u.key.level
    at = fits_of job.depth u.key is.key

    before : standing job u.command ≡ Before → IsMeant job u.command operation u.key (if is_done left && is_done right then Done else Bad)
    before early =
        let l : left ≡ Done = told (child u.key false) left (given_before job u.command operation (child u.key false) (fits_of job.depth (child u.key false) (child_is_key_of job.depth u.key false is.key is.above)) is.command.at left early first) in
        let r : right ≡ Done = told (child u.key true) right (given_before job u.command operation (child u.key true) (fits_of job.depth (child u.key true) (child_is_key_of job.depth u.key true is.key is.above)) is.command.at right early second) in
        subst (λ (v : Value). IsMeant job u.command operation u.key v) (sym (λ i. if is_done (l i) && is_done (r i) then Done else Bad)) tells

    over : standing job u.command ≡ At → IsOverflow job u.command u.key (if is_done left && is_done right then Done else Bad)
    over late =
        let l : left ≡ overflow_value w.tree (child u.key false) = from_written (child u.key false) left (given_over job u.command operation (child u.key false) (fits_of job.depth (child u.key false) (child_is_key_of job.depth u.key false is.key is.above)) is.command.at left late first) in
        let r : right ≡ overflow_value w.tree (child u.key true) = from_written (child u.key true) right (given_over job u.command operation (child u.key true) (fits_of job.depth (child u.key true) (child_is_key_of job.depth u.key true is.key is.above)) is.command.at right late second) in
        some_of (λ (version : Version). (if is_done left && is_done right then Done else Bad) ≡ overflow_value version.tree u.key) (version_of job u.command) w written
        ((λ i. if is_done (l i) && is_done (r i) then Done else Bad) ∙ done_overflows w.tree u.key (subst (λ (d : ℕ). u.key.level < d) (sym depth_is) is.above))
      where
        from_written : (k : Key) (v : Value) → IsOverflow job u.command k v → v ≡ overflow_value w.tree k
        from_written k v right = subst (λ (o : Option Version). IfSome o (λ version. v ≡ overflow_value version.tree k)) written right
