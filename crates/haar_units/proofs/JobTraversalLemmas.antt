-- The commands of a job visit shapes, and what they write is held by the owners of its keys.
use Rattle.std.proofs.Common.{◌≡◌, ℕ, zero, suc, ◌+◌, ◌^◌, Bool, true, false, ◌&&◌, not, List, length, refl, sym, ap, ◌∙◌}
use Rattle.std.specs.Prelude.{if◌then◌else◌, ◌==◌, take, Option, Some, None}
use Rattle.std.specs.Option.{option_map, option_and_then, option_map_or}
use Rattle.std.proofs.lemmas.Bool.{and_parts, and_from, eq-eqb, eqb-true}
use Rattle.std.proofs.lemmas.Option.{slice_get-map}
use Rattle.tree_key.specs.Keys.{Key}
use Rattle.tree_model.specs.Commands.{Command}
use Rattle.tree_model.specs.Nodes.Form.{Reconstructed, Compressed}
use Rattle.tree_model.specs.Operations.{coarsened}
use Rattle.tree_model.specs.Shapes.{key_count}
use Rattle.tree_model.specs.Totals.{Distribution, Visits, over, over_coarsened, visits_of}
use Rattle.tree_model.specs.Trees.{Tree}
use Rattle.tree_model.specs.Versions.{Version, Versions, read, read_two, written}
use Rattle.tree_model.proofs.CoarsenedTreeLemmas.{coarsened_least}
use Rattle.haar_units.specs.Jobs.{operation_at}
use Rattle.haar_units.specs.Jobs.Operation.{Coarsen}
use Rattle.haar_units.specs.Bins.{writes, writer_if, writer_of, holds}
use Rattle.haar_units.specs.Places.{has_place}
use Rattle.haar_units.specs.Distributions.{IsDistributed, IsOverKeys, is_kept, HoldsKeys}
use Rattle.haar_units.specs.ModelJobs.{operation_of, distributed, command_at, versions_before, keys_at, version_at, traversal_of, JobsAreTraversed, HoldsAreTrees, SizesAddUp}
use Rattle.haar_units.proofs.EffectLemmas.{some_is, none_is}
use Rattle.haar_units.proofs.SumLemmas.{sum_ext}
use Rattle.haar_units.proofs.HeldKeyLemmas.{holds_of_keys, counts_add_up}
use Rattle.haar_units.proofs.ShapeLemmas.{traversals_of_keys}
use Rattle.haar_units.proofs.VersionLemmas.{HasTrees, mapped, read_tree, visits_shapes, trees_of_job}

pub is_distributed : (d : Distribution) (commands : List Command) → IsDistributed d (distributed d commands)
is_distributed d commands = record { ranks = refl; owner = λ place. refl }

-- the command that visits keys, or writes a version
pub record CommandAt {A : Type 0} (commands : List Command) (number : ℕ) (f : Command → Option A) (a : A) : Type 0 where
  pub c : Command
  pub at : command_at commands number ≡ Some c
  pub gives : f c ≡ Some a

pub command_of : {A : Type 0} (commands : List Command) (number : ℕ) (f : Command → Option A) (a : A) → option_and_then f (command_at commands number) ≡ Some a → CommandAt commands number f a
command_of commands number f a e = go (command_at commands number) refl e
  where
    go : (o : Option Command) → command_at commands number ≡ o → option_and_then f o ≡ Some a → CommandAt commands number f a
    go None at e = none_is a e
    go (Some c) at e = record { c = c; at = at; gives = e }

pub operation_is : (d : Distribution) (commands : List Command) (number : ℕ) (c : Command) → command_at commands number ≡ Some c → operation_at (distributed d commands) number ≡ Some (operation_of c)
operation_is d commands zero c at = none_is c at
operation_is d commands (suc before) c at = slice_get-map operation_of commands before ∙ ap (option_map operation_of) at

pub over_keys : (depth : ℕ) (commands : List Command) (number : ℕ) (keys : Visits) → keys_at depth commands number ≡ Some keys → IsOverKeys (traversal_of depth commands) number keys
over_keys depth commands number keys at = record {
  visits = λ place. ap (λ (o : Option Visits). option_map_or (λ keys. has_place keys.visited place) o false) at;
  erases = λ place. ap (λ (o : Option Visits). option_map_or (λ keys. has_place keys.erased place) o false) at;
}

-- only `coarsen` erases keys
erases_none : {A : Type 0} (shape : A → Key → Bool) (o : Option A) (keys : Visits) (k : Key) {B : Type 0} → option_map (λ a. over (shape a)) o ≡ Some keys → keys.erased k ≡ true → B
erases_none shape o keys k e gone = mapped (λ a. over (shape a)) o keys e (λ a is same. absurd (let no : false ≡ true = ap (λ (v : Visits). v.erased k) same ∙ gone in cc))

in_coarsen : (depth : ℕ) (versions : Versions) (c : Command) (keys : Visits) (k : Key) → visits_of depth versions c ≡ Some keys → keys.erased k ≡ true → operation_of c ≡ Coarsen
in_coarsen depth versions (Command.Project name projection) keys k e gone = absurd (let no : false ≡ true = ap (λ (v : Visits). v.erased k) (some_is _ keys e) ∙ gone in cc)
in_coarsen depth versions (Command.Refine name level) keys k e gone = erases_none _ (read versions Reconstructed name) keys k e gone
in_coarsen depth versions (Command.Coarsen name) keys k e gone = refl
in_coarsen depth versions (Command.Compress name) keys k e gone = erases_none _ (read versions Reconstructed name) keys k e gone
in_coarsen depth versions (Command.Reconstruct name) keys k e gone = erases_none _ (read versions Compressed name) keys k e gone
in_coarsen depth versions (Command.Add name a left b right) keys k e gone = erases_none _ (read_two versions Compressed left right) keys k e gone
in_coarsen depth versions (Command.Mul name left right) keys k e gone = erases_none _ (read_two versions Reconstructed left right) keys k e gone
in_coarsen depth versions (Command.Inner left right) keys k e gone = erases_none _ (read_two versions Compressed left right) keys k e gone
in_coarsen depth versions (Command.Print name) keys k e gone = erases_none _ (versions name) keys k e gone
in_coarsen depth versions (Command.Size name) keys k e gone = none_is keys e
in_coarsen depth versions Command.Fence keys k e gone = none_is keys e

trees_before : (depth : ℕ) (commands : List Command) (number : ℕ) → HasTrees depth (versions_before depth commands number)
trees_before depth commands zero = λ name version e. none_is version e
trees_before depth commands (suc before) = trees_of_job depth (take before commands)

pub jobs_traversed : JobsAreTraversed
jobs_traversed d depth commands number keys at = (
  over_keys depth commands number keys at,
  traversals_of_keys (distributed d commands) (traversal_of depth commands) depth number keys
      (visits_shapes depth before (trees_before depth commands number) of.c keys of.gives)
      (over_keys depth commands number keys at)
      (λ k gone. operation_is d commands number of.c of.at ∙ ap Some (in_coarsen depth before of.c keys k of.gives gone)),
)
  where
    before : Versions
    before = versions_before depth commands number

    of : CommandAt commands number (visits_of depth before) keys
    of = command_of commands number (visits_of depth before) keys at

-- what a command writes is what it visits and doesn't erase
pub record IsWriting (depth : ℕ) (versions : Versions) (c : Command) (version : Version) : Type 0 where
  pub keys : Visits
  pub visits : visits_of depth versions c ≡ Some keys
  pub kept : (k : Key) → (keys.visited k && not (keys.erased k)) ≡ version.tree.shape k
  pub writing : writes (operation_of c) ≡ true

and_true : (b : Bool) → (b && not false) ≡ b
and_true true = refl
and_true false = refl

module _ (depth : ℕ) (versions : Versions) (has : HasTrees depth versions) where
  is_writing : (c : Command) (version : Version) → written depth versions c ≡ Some version → IsWriting depth versions c version
  is_writing (Command.Project name projection) version e = record { keys = _; visits = refl; kept = λ k. and_true _ ∙ ap (λ (v : Version). v.tree.shape k) (some_is _ version e); writing = refl }
  is_writing (Command.Refine name level) version e = mapped _ (read versions Reconstructed name) version e (λ t is same.
      record { keys = _; visits = ap (option_map _) is; kept = λ k. and_true _ ∙ ap (λ (v : Version). v.tree.shape k) same; writing = refl })
  is_writing (Command.Coarsen name) version e = mapped _ (read versions Reconstructed name) version e (λ t is same.
      record { keys = over_coarsened t; visits = ap (option_map over_coarsened) is; kept = λ k. least t is k (t.shape k) refl ∙ ap (λ (v : Version). v.tree.shape k) same; writing = refl })
    where
      least : (t : Tree) → read versions Reconstructed name ≡ Some t → (k : Key) → (b : Bool) → t.shape k ≡ b → (t.shape k && not (t.shape k && not ((coarsened t).shape k))) ≡ (coarsened t).shape k
      least t is k true in_it = (λ i. in_it i && not (in_it i && not ((coarsened t).shape k))) ∙ twice ((coarsened t).shape k)
        where
          twice : (c : Bool) → not (not c) ≡ c
          twice true = refl
          twice false = refl
      least t is k false out = (λ i. out i && not (t.shape k && not ((coarsened t).shape k))) ∙ sym (go ((coarsened t).shape k) refl)
        where
          go : (c : Bool) → (coarsened t).shape k ≡ c → c ≡ false
          go true s = absurd (let yes = coarsened_least t t k (read_tree depth versions has Reconstructed name t is).tree refl refl s in let no : false ≡ true = sym out ∙ yes in cc)
          go false s = refl
  is_writing (Command.Compress name) version e = mapped _ (read versions Reconstructed name) version e (λ t is same.
      record { keys = _; visits = ap (option_map _) is; kept = λ k. and_true _ ∙ ap (λ (v : Version). v.tree.shape k) same; writing = refl })
  is_writing (Command.Reconstruct name) version e = mapped _ (read versions Compressed name) version e (λ t is same.
      record { keys = _; visits = ap (option_map _) is; kept = λ k. and_true _ ∙ ap (λ (v : Version). v.tree.shape k) same; writing = refl })
  is_writing (Command.Add name a left b right) version e = mapped _ (read_two versions Compressed left right) version e (λ p is same.
      record { keys = _; visits = ap (option_map _) is; kept = λ k. and_true _ ∙ ap (λ (v : Version). v.tree.shape k) same; writing = refl })
  is_writing (Command.Mul name left right) version e = mapped _ (read_two versions Reconstructed left right) version e (λ p is same.
      record { keys = _; visits = ap (option_map _) is; kept = λ k. and_true _ ∙ ap (λ (v : Version). v.tree.shape k) same; writing = refl })
  is_writing (Command.Inner left right) version e = none_is version e
  is_writing (Command.Print name) version e = none_is version e
  is_writing (Command.Size name) version e = none_is version e
  is_writing Command.Fence version e = none_is version e

-- the command that writes a version
pub record VersionAt (d : Distribution) (depth : ℕ) (commands : List Command) (number : ℕ) (version : Version) : Type 0 where
  pub keys : Visits
  pub at : keys_at depth commands number ≡ Some keys
  pub kept : (k : Key) → (keys.visited k && not (keys.erased k)) ≡ version.tree.shape k
  pub writer : writer_of (distributed d commands) number ≡ Some number

pub version_of : (d : Distribution) (depth : ℕ) (commands : List Command) (number : ℕ) (version : Version) → version_at depth commands number ≡ Some version → VersionAt d depth commands number version
version_of d depth commands number version e = record {
  keys = w.keys;
  at = ap (option_and_then (visits_of depth before)) of.at ∙ w.visits;
  kept = w.kept;
  writer = ap (writer_if number) (operation_is d commands number of.c of.at) ∙ ap (λ (b : Bool). if b then Some number else None) w.writing;
}
  where
    before : Versions
    before = versions_before depth commands number

    of : CommandAt commands number (written depth before) version
    of = command_of commands number (written depth before) version e

    w : IsWriting depth before of.c version
    w = is_writing depth before (trees_before depth commands number) of.c version of.gives

-- a key that is owned by a rank and is visited and not erased
kept_is : (d : Distribution) (keys : Visits) (shape : Key → Bool) (rank : ℕ) (k : Key) → (keys.visited k && not (keys.erased k)) ≡ shape k → is_kept d keys rank k ≡ (shape k && (d.owner k == rank))
kept_is d keys shape rank k e = joined (keys.visited k) (not (keys.erased k)) (d.owner k == rank) ∙ ap (λ (b : Bool). b && (d.owner k == rank)) e
  where
    joined : (a b c : Bool) → (a && (b && c)) ≡ ((a && b) && c)
    joined true b c = refl
    joined false b c = refl

pub holds_trees : HoldsAreTrees
holds_trees d depth commands number version rank e = record {
  writer = of.writer;
  keys = λ k within. (
    (λ h. let p = and_parts (version.tree.shape k) (d.owner k == rank) (sym (same k) ∙ (held.keys_held k within).0 h) in (p.0, eqb-true (d.owner k) rank p.1)),
    (λ both. (held.keys_held k within).1 (same k ∙ and_from (version.tree.shape k) (d.owner k == rank) both.0 (eq-eqb (d.owner k) rank both.1))),
  );
  only_keys = held.only_keys;
}
  where
    of : VersionAt d depth commands number version
    of = version_of d depth commands number version e

    held : HoldsKeys d (distributed d commands) (traversal_of depth commands) depth number of.keys rank
    held = holds_of_keys d (distributed d commands) (traversal_of depth commands) depth number of.keys rank (is_distributed d commands) (over_keys depth commands number of.keys of.at)

    same : (k : Key) → is_kept d of.keys rank k ≡ (version.tree.shape k && (d.owner k == rank))
    same k = kept_is d of.keys version.tree.shape rank k (of.kept k)

pub sizes_add_up : SizesAddUp
sizes_add_up d depth commands number version within e =
    sum_ext (λ rank. length (holds (distributed d commands) (traversal_of depth commands) (2 ^ (depth + 1)) rank number)) (λ rank. key_count depth (is_kept d of.keys rank)) d.ranks
    (λ rank lt. (holds_of_keys d (distributed d commands) (traversal_of depth commands) depth number of.keys rank (is_distributed d commands) (over_keys depth commands number of.keys of.at)).number)
    ∙ counts_add_up d depth of.keys within
    ∙ ap (key_count depth) (λ i k. of.kept k i)
  where
    of : VersionAt d depth commands number version
    of = version_of d depth commands number version e
