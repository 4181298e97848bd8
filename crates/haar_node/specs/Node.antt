-- The node of the model that a `Node` is.
use Rattle.tree_model.specs.Nodes.{Node as NodeData}
use Rattle.tree_model.specs.Nodes.Node.{Leaf as LeafData, Branch as BranchData, Inner as InnerData, Root as RootData, Bare as BareData, Bad as BadData}
use Rattle.haar_node.specs.declared.node.Node.{Node}
use Rattle.haar_node.specs.declared.node.Node.TheVariants.{Leaf, Branch, Inner, Root, Bare, Bad}

abbrev pub node_of : Node → NodeData
node_of (Leaf sum) = LeafData sum
node_of Branch = BranchData
node_of (Inner difference) = InnerData difference
node_of (Root sum difference) = RootData sum difference
node_of Bare = BareData
node_of Bad = BadData
