-- When a decision is right: by what is put, what is given, and what the units of the children know.
use Rattle.std.proofs.Common.{◌≡◌, ◌⊎◌, inl, inr, ℕ, zero, suc, ◌<◌, ◌^◌, Bool, true, false, refl, sym, ap, ◌∙◌, subst, arith}
use Rattle.std.specs.Prelude.{if◌then◌else◌, Option, Some, None, IfSome, ⊤}
use Rattle.tree_key.specs.Keys.{Key, child, place_of}
use Rattle.tree_key.proofs.FamilyLemmas.{child_fits}
use Rattle.tree_model.specs.Nodes.{Form, node as tree_node}
use Rattle.tree_model.specs.Nodes.Node.{Leaf as LeafData}
use Rattle.tree_model.specs.Shapes.{is_key_of}
use Rattle.tree_model.specs.Totals.{Visits}
use Rattle.tree_model.specs.Trees.{Tree, box_sum}
use Rattle.tree_model.specs.Versions.{Version, tree_in}
use Rattle.tree_model.proofs.BelowLeafLemmas.{key_parts, key_from_parts}
use Rattle.haar_node.specs.declared.Node.{Node}
use Rattle.haar_node.specs.Node.{node_of}
use Rattle.haar_units.specs.ModelJobs.{keys_at}
use Rattle.haar_units.specs.Places.{key_at}
use Rattle.haar_units.proofs.EffectLemmas.{none_is}
use Rattle.haar_units.proofs.PlaceLemmas.{keys_have_places}
use Rattle.haar_base.specs.declared.operation.Operation.{Operation}
use Rattle.haar_base.specs.declared.unit.Side.{Side}
use Rattle.haar_base.specs.declared.unit.Side.TheVariants.{Nothing}
use Rattle.haar_base.specs.declared.value.Value.{Value}
use Rattle.haar_base.specs.declared.decisions.Visit.{Visit}
use Rattle.haar_base.specs.declared.decisions.Visit.TheVariants as visits
use Rattle.haar_base.specs.Operations.{operation_at, word_of, first_source, second_source}
use Rattle.haar_visits.specs.Forms.{IsVisitOf}
use Rattle.haar_meaning.specs.PlannedJobs.{PlannedJob, IsPlannedJob, Standing, standing, IfBefore, version_of}
use Rattle.haar_meaning.specs.PlannedJobs.Standing.{Before, At, After}
use Rattle.haar_meaning.specs.RightValues.{IsMeant, IsOverflow, IsValueAt, IsKeyValue}
use Rattle.haar_meaning.specs.RightCells.{stored_node, IsStored}
use Rattle.haar_meaning.specs.Sides.{form_read, side_of, IsRightSide, IsHeld}
use Rattle.haar_meaning.specs.JobUnits.{IsVisited, IsOnTrees}
use Rattle.haar_meaning.specs.RightDecisions.{IsRightPut, IsRightGive, IsRightVisit}
use Rattle.haar_right.specs.Laws.{IsRightEntry, IsRightRead}
use Rattle.haar_right.proofs.KnownLemmas.{IsKnown, if_before, before_if, if_some, some_if, source_is_before, version_is_known}
use Rattle.haar_right.proofs.PlanLemmas.{version_with, version_in}
use Rattle.haar_right.proofs.ReadingLemmas.{CellAt, HasCell, side_with}

-- what a unit knows of a version

pub side_is : (job : PlannedJob) (operation : Operation) (source : ℕ) (k : Key) (side : Side) (t : Tree) → standing job source ≡ Before → tree_in (form_read operation) (version_of job source) ≡ Some t
    → IsRightSide job operation source k side → side ≡ side_of operation t k
side_is job operation zero k side t before read is = none_is t read
side_is job operation (suc n) k side t before read is = if_some (λ (t : Tree). side ≡ side_of operation t k) (tree_in (form_read operation) (version_of job (suc n))) t read (if_before (standing job (suc n)) before is)

pub side_from : (job : PlannedJob) (operation : Operation) (source : ℕ) (k : Key) (side : Side) → (source ≡ 0 → ⊥)
    → ((t : Tree) → standing job source ≡ Before → tree_in (form_read operation) (version_of job source) ≡ Some t → side ≡ side_of operation t k) → IsRightSide job operation source k side
side_from job operation zero k side some each = absurd (some refl)
side_from job operation (suc n) k side some each =
    before_if (standing job (suc n)) (λ before. some_if (λ (t : Tree). side ≡ side_of operation t k) (tree_in (form_read operation) (version_of job (suc n))) (λ t read. each t before read))

pub read_is_some : (job : PlannedJob) (form : Form) (source : ℕ) (t : Tree) → tree_in form (version_of job source) ≡ Some t → source ≡ 0 → ⊥
read_is_some job form zero t read none = none_is t read
read_is_some job form (suc n) t read none = absurd (cc)

pub cell_is : (job : PlannedJob) (operation : Operation) (form : Form) (source : ℕ) (k : Key) (t : Tree) (cell : Option Node) → standing job source ≡ Before → tree_in form (version_of job source) ≡ Some t
    → IsRightRead job source k (side_of operation t k) cell → HasCell form t k cell
cell_is job operation form source k t cell before read right inside = go cell (subst (λ (s : Side). IsRightRead job source k s cell) (side_with operation t k true inside) right)
  where
    go : (cell : Option Node) → IsRightEntry job source k cell → CellAt form t k cell
    go None none = absurd none
    go (Some c) stored = record {
      node = c;
      is = refl;
      stored = if_some (λ (v : Version). node_of c ≡ stored_node v k) (version_of job source) (version_with form t) (version_in form (version_of job source) t read) (if_before (standing job source) before stored)
          ∙ ap (λ (b : Bool). if b then tree_node form t k else LeafData (box_sum t k)) inside;
    }

-- a tree that is read before the overflow
pub tree_is_known : (job : PlannedJob) (form : Form) (source : ℕ) (t : Tree) → IsPlannedJob job → standing job source ≡ Before → tree_in form (version_of job source) ≡ Some t → IsKnown job.depth t
tree_is_known job form source t planned before read = version_is_known job source (version_with form t) planned.checked before (version_in form (version_of job source) t read)

-- a source is known, or its command comes after the overflow
pub known_or_after : (job : PlannedJob) (command source : ℕ) → source < command → (standing job source ≡ Before) ⊎ (standing job command ≡ After)
known_or_after job command source lt = go (standing job command) refl
  where
    go : (s : Standing) → standing job command ≡ s → (standing job source ≡ Before) ⊎ (standing job command ≡ After)
    go Before is = inl (source_is_before job command source lt (λ late. absurd (cc)))
    go At is = inl (source_is_before job command source lt (λ late. absurd (cc)))
    go After is = inr is

pub fits_of : (depth : ℕ) (k : Key) → is_key_of depth k ≡ true → k.at < 2 ^ k.level
fits_of depth k key = (key_parts depth k key).at

pub child_is_key_of : (depth : ℕ) (k : Key) (right : Bool) → is_key_of depth k ≡ true → k.level < depth → is_key_of depth (child k right) ≡ true
child_is_key_of depth k right key above = key_from_parts depth (child k right) (omega (arith, above)) (child_fits k.level k.at right (fits_of depth k key))

-- a unit of a key
module _ (job : PlannedJob) (command : ℕ) (operation : Operation) (k : Key) (fits : k.at < 2 ^ k.level) where
  place_key : key_at (place_of k) ≡ k
  place_key = keys_have_places k fits

  pub put_right : (n : Node) → ((version : Version) → standing job command ≡ Before → version_of job command ≡ Some version → node_of n ≡ stored_node version k) → IsRightPut job command k (Some n)
  put_right n each = subst (λ (x : Key). IsStored job command x n) (sym place_key)
      (before_if (standing job command) (λ before. some_if (λ (v : Version). node_of n ≡ stored_node v k) (version_of job command) (λ v is. each v before is)))

  pub give_right : operation_at job.operations command ≡ Some operation → (v : Value) → (standing job command ≡ Before → IsMeant job command operation k v) → (standing job command ≡ At → IsOverflow job command k v) → IsRightGive job command k v
  give_right at v before over = subst (λ (o : Option Operation). IsKeyValue job command o (key_at (place_of k)) v) (sym at)
      (subst (λ (x : Key). IsValueAt job (standing job command) command operation x v) (sym place_key) (go (standing job command) before over))
    where
      go : (s : Standing) → (s ≡ Before → IsMeant job command operation k v) → (s ≡ At → IsOverflow job command k v) → IsValueAt job s command operation k v
      go Before before over = before refl
      go At before over = over refl
      go After before over = tt

  given_at : operation_at job.operations command ≡ Some operation → (v : Value) → IsRightGive job command k v → IsValueAt job (standing job command) command operation k v
  given_at at v right = subst (λ (x : Key). IsValueAt job (standing job command) command operation x v) place_key (subst (λ (o : Option Operation). IsKeyValue job command o (key_at (place_of k)) v) at right)

  pub given_before : operation_at job.operations command ≡ Some operation → (v : Value) → standing job command ≡ Before → IsRightGive job command k v → IsMeant job command operation k v
  given_before at v before right = subst (λ (s : Standing). IsValueAt job s command operation k v) before (given_at at v right)

  pub given_over : operation_at job.operations command ≡ Some operation → (v : Value) → standing job command ≡ At → IsRightGive job command k v → IsOverflow job command k v
  given_over at v over right = subst (λ (s : Standing). IsValueAt job s command operation k v) over (given_at at v right)

  pub visited_by : (keys : Visits) → keys_at job.depth job.commands command ≡ Some keys → (standing job command ≡ Before → keys.visited k ≡ true) → IsVisited job command k
  visited_by keys is each = before_if (standing job command) (λ before. subst (λ (o : Option Visits). IfSome o (λ keys. keys.visited k ≡ true)) (sym is) (each before))

  pub is_visited : (keys : Visits) → keys_at job.depth job.commands command ≡ Some keys → standing job command ≡ Before → IsVisited job command k → keys.visited k ≡ true
  is_visited keys is before visited = subst (λ (o : Option Visits). IfSome o (λ keys. keys.visited k ≡ true)) is (if_before (standing job command) before visited)

  -- what the units of the children know
  abbrev pub AreSides : Visit → Type 0
  AreSides (visits.Give n v) = ⊤
  AreSides (visits.Split n left right held) =
      IsRightSide job operation (first_source operation) (child k false) left.first
      × IsRightSide job operation (first_source operation) (child k true) right.first
      × IsRightSide job operation (second_source operation) (child k false) left.second
      × IsRightSide job operation (second_source operation) (child k true) right.second

  -- what is put and given
  abbrev pub IsDecision : Visit → Type 0
  IsDecision (visits.Give n v) = IsRightPut job command k n × IsRightGive job command k v
  IsDecision (visits.Split n left right held) =
      IsRightPut job command k n
      × IsVisited job command (child k false)
      × IsVisited job command (child k true)
      × IfBefore (standing job command) (IsHeld job operation k held)

  pub whole_visit : is_key_of job.depth k ≡ true → IsOnTrees job command operation → (v : Visit) → IsVisitOf job.depth k (word_of operation) v → AreSides v → IsDecision v → IsRightVisit job command k v
  whole_visit key on (visits.Give n v) form sides decision = decision
  whole_visit key on (visits.Split n left right held) form sides decision = (
    decision.0,
    (operation, record { command = on; key = child_is_key_of job.depth k false key form.1; visited = decision.1; first = sides.0; second = sides.2 }),
    (operation, record { command = on; key = child_is_key_of job.depth k true key form.1; visited = decision.2; first = sides.1; second = sides.3 }),
    (operation, record { command = on; key = key; above = form.1; visited = decision.1; held = decision.3 }),
  )

  -- after the overflow
  pub after_put : standing job command ≡ After → (n : Option Node) → IsRightPut job command k n
  after_put late None = tt
  after_put late (Some n) = put_right n (λ version before is. absurd (cc))

  pub after_give : operation_at job.operations command ≡ Some operation → standing job command ≡ After → (v : Value) → IsRightGive job command k v
  after_give at late v = give_right at v (λ before. absurd (cc)) (λ over. absurd (cc))

  pub after_decision : operation_at job.operations command ≡ Some operation → standing job command ≡ After → (v : Visit) → IsDecision v
  after_decision at late (visits.Give n v) = (after_put late n, after_give at late v)
  after_decision at late (visits.Split n left right held) = (
    after_put late n,
    before_if (standing job command) (λ before. absurd (cc)),
    before_if (standing job command) (λ before. absurd (cc)),
    before_if (standing job command) (λ before. absurd (cc)),
  )

-- the children's sides of one tree

abbrev pub FirstOf : Operation → Tree → Key → Visit → Type 0
FirstOf operation t k (visits.Give n v) = ⊤
FirstOf operation t k (visits.Split n left right held) = (left.first ≡ side_of operation t (child k false)) × (right.first ≡ side_of operation t (child k true))

abbrev pub SecondOf : Operation → Tree → Key → Visit → Type 0
SecondOf operation t k (visits.Give n v) = ⊤
SecondOf operation t k (visits.Split n left right held) = (left.second ≡ side_of operation t (child k false)) × (right.second ≡ side_of operation t (child k true))

abbrev pub NothingSecond : Visit → Type 0
NothingSecond (visits.Give n v) = ⊤
NothingSecond (visits.Split n left right held) = (left.second ≡ Nothing) × (right.second ≡ Nothing)

-- for each tree that the first source may be
abbrev pub FirstKnown : PlannedJob → Operation → Key → Visit → Type 0
FirstKnown job operation k v = (t : Tree) → standing job (first_source operation) ≡ Before → tree_in (form_read operation) (version_of job (first_source operation)) ≡ Some t → FirstOf operation t k v

abbrev pub SecondKnown : PlannedJob → Operation → Key → Visit → Type 0
SecondKnown job operation k v = (t : Tree) → standing job (second_source operation) ≡ Before → tree_in (form_read operation) (version_of job (second_source operation)) ≡ Some t → SecondOf operation t k v

pub one_side : (job : PlannedJob) (command : ℕ) (operation : Operation) (k : Key) (fits : k.at < 2 ^ k.level) (v : Visit) → (first_source operation ≡ 0 → ⊥) → second_source operation ≡ 0 → FirstKnown job operation k v → NothingSecond v → AreSides job command operation k fits v
one_side job command operation k fits (visits.Give n v) some lone known nothing = tt
one_side job command operation k fits (visits.Split n left right held) some lone known nothing = (
  side_from job operation (first_source operation) (child k false) left.first some (λ t before read. (known t before read).0),
  side_from job operation (first_source operation) (child k true) right.first some (λ t before read. (known t before read).1),
  subst (λ (source : ℕ). IsRightSide job operation source (child k false) left.second) (sym lone) nothing.0,
  subst (λ (source : ℕ). IsRightSide job operation source (child k true) right.second) (sym lone) nothing.1,
)

pub two_sides : (job : PlannedJob) (command : ℕ) (operation : Operation) (k : Key) (fits : k.at < 2 ^ k.level) (v : Visit) → (first_source operation ≡ 0 → ⊥) → (second_source operation ≡ 0 → ⊥) → FirstKnown job operation k v → SecondKnown job operation k v → AreSides job command operation k fits v
two_sides job command operation k fits (visits.Give n v) some other known too = tt
two_sides job command operation k fits (visits.Split n left right held) some other known too = (
  side_from job operation (first_source operation) (child k false) left.first some (λ t before read. (known t before read).0),
  side_from job operation (first_source operation) (child k true) right.first some (λ t before read. (known t before read).1),
  side_from job operation (second_source operation) (child k false) left.second other (λ t before read. (too t before read).0),
  side_from job operation (second_source operation) (child k true) right.second other (λ t before read. (too t before read).1),
)
