-- What the commands of a job read and write are trees, and what they visit are shapes.
use Rattle.std.proofs.Common.{◌≡◌, ℕ, Bool, true, false, ◌&&◌, not, List, [], ◌∷◌, refl, sym, ap, ◌∙◌, subst}
use Rattle.std.specs.Prelude.{if◌then◌else◌, fold, Option, Some, None}
use Rattle.std.specs.Option.{option_map}
use Rattle.std.proofs.lemmas.Bool.{and_parts, and_from}
use Rattle.tree_key.specs.Keys.{Key, root, child}
use Rattle.tree_model.specs.Commands.{Command}
use Rattle.tree_model.specs.Commands.Command.{Project, Refine, Coarsen, Compress, Reconstruct, Add, Mul, Inner, Print, Size, Fence}
use Rattle.tree_model.specs.Nodes.{Form}
use Rattle.tree_model.specs.Nodes.Form.{Reconstructed, Compressed}
use Rattle.tree_model.specs.Operations.{refined, coarsened, union, weighted_sum, product}
use Rattle.tree_model.specs.Project.{projected}
use Rattle.tree_model.specs.Shapes.{IsShape}
use Rattle.tree_model.specs.Signatures.{writes}
use Rattle.tree_model.specs.Totals.{Visits, intersection, over, over_coarsened, visits_of}
use Rattle.tree_model.specs.Trees.{Tree, IsTree}
use Rattle.tree_model.specs.Versions.{Version, Versions, no_versions, same_form, tree_in, read, two_trees, read_two, written, newer, after, versions_behind}
use Rattle.tree_model.proofs.CoarsenedTreeLemmas.{coarsened_tree}
use Rattle.tree_model.proofs.CombinedTreeLemmas.{refined_tree, weighted_sum_tree, product_tree}
use Rattle.tree_model.proofs.ProjectedTreeLemmas.{projected_tree}
use Rattle.haar_units.specs.Distributions.{AreVisits}
use Rattle.haar_units.proofs.EffectLemmas.{some_is, none_is}

-- a tree of a depth
pub record TreeOf (depth : ℕ) (t : Tree) : Type 0 where
  pub tree : IsTree t
  pub depth_is : t.depth ≡ depth

-- each name that stands for a version stands for such a tree
abbrev pub HasTrees : ℕ → Versions → Type 0
HasTrees depth versions = (name : List ℕ) (version : Version) → versions name ≡ Some version → TreeOf depth version.tree

-- what an optional value was made of
pub mapped : {A B C : Type 0} (f : A → B) (o : Option A) (b : B) → option_map f o ≡ Some b → ((a : A) → o ≡ Some a → f a ≡ b → C) → C
mapped f None b e go = none_is b e
mapped f (Some a) b e go = go a refl (some_is (f a) b e)

tree_from : (form : Form) (o : Option Version) (t : Tree) (P : Tree → Type 0) → ((version : Version) → o ≡ Some version → P version.tree) → tree_in form o ≡ Some t → P t
tree_from form None t P each e = none_is t e
tree_from form (Some version) t P each e = go (same_form form version.form) e
  where
    go : (b : Bool) → (if b then Some version.tree else None) ≡ Some t → P t
    go true e = subst P (some_is version.tree t e) (each version refl)
    go false e = none_is t e

both_from : (left right : Option Tree) (p : Tree × Tree) (P : Tree → Type 0) → ((t : Tree) → left ≡ Some t → P t) → ((t : Tree) → right ≡ Some t → P t) → two_trees left right ≡ Some p → P p.0 × P p.1
both_from None right p P l r e = none_is p e
both_from (Some f) right p P l r e = mapped (λ (g : Tree). (f, g)) right p e (λ g is same. (subst P (ap (λ (q : Tree × Tree). q.0) same) (l f refl), subst P (ap (λ (q : Tree × Tree). q.1) same) (r g is)))

module _ (depth : ℕ) (versions : Versions) (has : HasTrees depth versions) where
  pub read_tree : (form : Form) (name : List ℕ) (t : Tree) → read versions form name ≡ Some t → TreeOf depth t
  read_tree form name t e = tree_from form (versions name) t (TreeOf depth) (λ version is. has name version is) e

  read_trees : (form : Form) (left right : List ℕ) (p : Tree × Tree) → read_two versions form left right ≡ Some p → TreeOf depth p.0 × TreeOf depth p.1
  read_trees form left right p e = both_from (read versions form left) (read versions form right) p (TreeOf depth) (λ t is. read_tree form left t is) (λ t is. read_tree form right t is) e

  same_depth : (p : Tree × Tree) → TreeOf depth p.0 × TreeOf depth p.1 → p.0.depth ≡ p.1.depth
  same_depth p two = two.0.depth_is ∙ sym two.1.depth_is

  -- what is written

  made : (make : Tree → Tree) (form : Form) → ((t : Tree) → TreeOf depth t → TreeOf depth (make t)) → (o : Option Tree) (version : Version) → ((t : Tree) → o ≡ Some t → TreeOf depth t)
      → option_map (λ t. record { form = form; tree = make t }) o ≡ Some version → TreeOf depth version.tree
  made make form makes o version each e = mapped (λ (t : Tree). record { form = form; tree = make t }) o version e (λ t is same. subst (λ (v : Version). TreeOf depth v.tree) same (makes t (each t is)))

  made_of_two : (make : Tree × Tree → Tree) (form : Form) → ((p : Tree × Tree) → TreeOf depth p.0 × TreeOf depth p.1 → TreeOf depth (make p)) → (o : Option (Tree × Tree)) (version : Version)
      → ((p : Tree × Tree) → o ≡ Some p → TreeOf depth p.0 × TreeOf depth p.1)
      → option_map (λ p. record { form = form; tree = make p }) o ≡ Some version → TreeOf depth version.tree
  made_of_two make form makes o version each e = mapped (λ (p : Tree × Tree). record { form = form; tree = make p }) o version e (λ p is same. subst (λ (v : Version). TreeOf depth v.tree) same (makes p (each p is)))

  pub writes_trees : (c : Command) (version : Version) → written depth versions c ≡ Some version → TreeOf depth version.tree
  writes_trees (Project name projection) version e = subst (λ (v : Version). TreeOf depth v.tree) (some_is _ version e) (record { tree = projected_tree depth projection; depth_is = refl })
  writes_trees (Refine name level) version e = made (refined level) Reconstructed (λ t is. record { tree = refined_tree level t is.tree; depth_is = is.depth_is }) (read versions Reconstructed name) version (read_tree Reconstructed name) e
  writes_trees (Coarsen name) version e = made coarsened Reconstructed (λ t is. record { tree = coarsened_tree t is.tree; depth_is = is.depth_is }) (read versions Reconstructed name) version (read_tree Reconstructed name) e
  writes_trees (Compress name) version e = made (λ t. t) Compressed (λ t is. is) (read versions Reconstructed name) version (read_tree Reconstructed name) e
  writes_trees (Reconstruct name) version e = made (λ t. t) Reconstructed (λ t is. is) (read versions Compressed name) version (read_tree Compressed name) e
  writes_trees (Add name a left b right) version e = made_of_two (λ p. weighted_sum a p.0 b p.1) Compressed
      (λ p two. record { tree = weighted_sum_tree a p.0 b p.1 two.0.tree two.1.tree (same_depth p two); depth_is = two.0.depth_is }) (read_two versions Compressed left right) version (read_trees Compressed left right) e
  writes_trees (Mul name left right) version e = made_of_two (λ p. product p.0 p.1) Reconstructed
      (λ p two. record { tree = product_tree p.0 p.1 two.0.tree two.1.tree (same_depth p two); depth_is = two.0.depth_is }) (read_two versions Reconstructed left right) version (read_trees Reconstructed left right) e
  writes_trees (Inner left right) version e = none_is version e
  writes_trees (Print name) version e = none_is version e
  writes_trees (Size name) version e = none_is version e
  writes_trees Fence version e = none_is version e

  pub after_trees : (c : Command) → HasTrees depth (after depth versions c)
  after_trees c name version e = go (writes name c) e
    where
      newest : (o : Option Version) → ((v : Version) → o ≡ Some v → TreeOf depth v.tree) → newer o (versions name) ≡ Some version → TreeOf depth version.tree
      newest None each e = has name version e
      newest (Some v) each e = subst (λ (v : Version). TreeOf depth v.tree) (some_is v version e) (each v refl)

      go : (b : Bool) → (if b then newer (written depth versions c) (versions name) else versions name) ≡ Some version → TreeOf depth version.tree
      go true e = newest (written depth versions c) (λ v is. writes_trees c v is) e
      go false e = has name version e

  -- what is visited

  shape_of : (t : Tree) → TreeOf depth t → IsShape depth t.shape
  shape_of t is = subst (λ (n : ℕ). IsShape n t.shape) is.depth_is is.tree.shape

  over_shape : (shape : Key → Bool) → IsShape depth shape → AreVisits depth (over shape)
  over_shape shape is = record { shape = is; visited = λ k e. absurd (cc); root = refl; both = λ k. refl }

  of_shape : {A : Type 0} (shape : A → Key → Bool) (o : Option A) (keys : Visits) → ((a : A) → o ≡ Some a → IsShape depth (shape a)) → option_map (λ a. over (shape a)) o ≡ Some keys → AreVisits depth keys
  of_shape shape o keys each e = mapped (λ a. over (shape a)) o keys e (λ a is same. subst (AreVisits depth) same (over_shape (shape a) (each a is)))

  coarsened_visits : (t : Tree) → TreeOf depth t → AreVisits depth (over_coarsened t)
  coarsened_visits t is = record {
    shape = shape_of t is;
    visited = λ k e. (and_parts (t.shape k) (not ((coarsened t).shape k)) e).0;
    root = (λ i. t.shape root && not (least.shape.root i)) ∙ none (t.shape root);
    both = λ k. λ i. is.tree.shape.children k i && not (least.shape.children k i);
  }
    where
      least : IsTree (coarsened t)
      least = coarsened_tree t is.tree

      none : (b : Bool) → (b && false) ≡ false
      none true = refl
      none false = refl

  intersection_shape : (f g : Key → Bool) → IsShape depth f → IsShape depth g → IsShape depth (intersection f g)
  intersection_shape f g l r = record {
    keys = λ k e. l.keys k (and_parts (f k) (g k) e).0;
    root = λ i. l.root i && r.root i;
    parents = λ k right e. let p = and_parts (f (child k right)) (g (child k right)) e in and_from (f k) (g k) (l.parents k right p.0) (r.parents k right p.1);
    children = λ k i. l.children k i && r.children k i;
  }

  union_shape : (p : Tree × Tree) → TreeOf depth p.0 × TreeOf depth p.1 → IsShape depth (union p.0.shape p.1.shape)
  union_shape p two = shape_of (product p.0 p.1) (record { tree = product_tree p.0 p.1 two.0.tree two.1.tree (same_depth p two); depth_is = two.0.depth_is })

  pub visits_shapes : (c : Command) (keys : Visits) → visits_of depth versions c ≡ Some keys → AreVisits depth keys
  visits_shapes (Project name projection) keys e = subst (AreVisits depth) (some_is _ keys e) (over_shape (projected depth projection).shape (projected_tree depth projection).shape)
  visits_shapes (Refine name level) keys e = of_shape (λ t. (refined level t).shape) (read versions Reconstructed name) keys
      (λ t is. let of = read_tree Reconstructed name t is in shape_of (refined level t) (record { tree = refined_tree level t of.tree; depth_is = of.depth_is })) e
  visits_shapes (Coarsen name) keys e = mapped over_coarsened (read versions Reconstructed name) keys e (λ t is same. subst (AreVisits depth) same (coarsened_visits t (read_tree Reconstructed name t is)))
  visits_shapes (Compress name) keys e = of_shape (λ t. t.shape) (read versions Reconstructed name) keys (λ t is. shape_of t (read_tree Reconstructed name t is)) e
  visits_shapes (Reconstruct name) keys e = of_shape (λ t. t.shape) (read versions Compressed name) keys (λ t is. shape_of t (read_tree Compressed name t is)) e
  visits_shapes (Add name a left b right) keys e = of_shape (λ (p : Tree × Tree). union p.0.shape p.1.shape) (read_two versions Compressed left right) keys (λ p is. union_shape p (read_trees Compressed left right p is)) e
  visits_shapes (Mul name left right) keys e = of_shape (λ (p : Tree × Tree). union p.0.shape p.1.shape) (read_two versions Reconstructed left right) keys (λ p is. union_shape p (read_trees Reconstructed left right p is)) e
  visits_shapes (Inner left right) keys e = of_shape (λ (p : Tree × Tree). intersection p.0.shape p.1.shape) (read_two versions Compressed left right) keys
      (λ p is. let two = read_trees Compressed left right p is in intersection_shape p.0.shape p.1.shape (shape_of p.0 two.0) (shape_of p.1 two.1)) e
  visits_shapes (Print name) keys e = of_shape (λ (version : Version). version.tree.shape) (versions name) keys (λ version is. shape_of version.tree (has name version is)) e
  visits_shapes (Size name) keys e = none_is keys e
  visits_shapes Fence keys e = none_is keys e

pub trees_after : (depth : ℕ) (versions : Versions) (commands : List Command) → HasTrees depth versions → HasTrees depth (fold (after depth) versions commands)
trees_after depth versions [] has = has
trees_after depth versions (c ∷ cs) has = trees_after depth (after depth versions c) cs (after_trees depth versions has c)

pub trees_of_job : (depth : ℕ) (commands : List Command) → HasTrees depth (versions_behind depth commands)
trees_of_job depth commands = trees_after depth no_versions commands (λ name version e. none_is version e)
