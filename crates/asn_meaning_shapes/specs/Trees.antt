-- The value tree of meaning that a tree of the code stands for.
use Rattle.std.specs.Prelude.{ℕ, List, [], ◌∷◌, map}
use Rattle.std.specs.Str.{chars}
use Rattle.asn_meaning_shapes.specs.declared.trees.Tree.{Tree, Tree-F, fold-Tree}
use Rattle.asn_meaning_shapes.specs.declared.trees.Field.{Field, Field-F, fold-Field}
use Rattle.asn_meaning_shapes.specs.declared.trees.View.{View}
use Rattle.asn_meaning_shapes.specs.declared.trees.View.TheVariants as view
use Rattle.asn_meaning.specs.Rows.{arc_tree}
use Rattle.asn_meaning.specs.ValueTrees.{ValueTree, Fields, no_field, field, ValueTrees, no_tree, tree}

-- a member's name and tree
abbrev pub Named : Type 0
Named = List ℕ × ValueTree

abbrev pub fields : List Named → Fields
fields [] = no_field
fields (f ∷ fs) = field f.0 f.1 (fields fs)

abbrev pub trees : List ValueTree → ValueTrees
trees [] = no_tree
trees (t ∷ ts) = tree t (trees ts)

-- one level of a tree, where its parts stand for these
abbrev pub tree_at : Tree-F ValueTree Named → ValueTree
tree_at Tree-F.Null = ValueTree.NullValue
tree_at (Tree-F.Truth b) = ValueTree.TruthValue b
tree_at (Tree-F.Whole i) = ValueTree.WholeNumber i
tree_at (Tree-F.Item i) = ValueTree.ItemNumber i
tree_at (Tree-F.Real x) = ValueTree.RealNumber x.mantissa x.base x.exponent
tree_at (Tree-F.Bits bits) = ValueTree.Bits bits
tree_at (Tree-F.Octets octets) = ValueTree.Octets octets
tree_at (Tree-F.Texted text) = ValueTree.Characters (chars text)
tree_at (Tree-F.Oid x) = ValueTree.ObjectIdentifierArcs (map arc_tree x.0)
tree_at (Tree-F.Struct fs) = ValueTree.Struct (fields fs)
tree_at (Tree-F.Elements ts) = ValueTree.Elements (trees ts)
tree_at (Tree-F.Alternative name t) = ValueTree.Alternative name t
tree_at Tree-F.Opaque = ValueTree.Opaque

abbrev pub field_at : Field-F ValueTree Named → Named
field_at f = (f.name, f.tree)

unfoldable pub shown_tree : Tree → ValueTree
shown_tree = fold-Tree ValueTree Named tree_at field_at

unfoldable pub shown_field : Field → Named
shown_field = fold-Field ValueTree Named tree_at field_at

abbrev pub shown_fields : List Field → Fields
shown_fields fs = fields (map shown_field fs)

abbrev pub shown_trees : List Tree → ValueTrees
shown_trees ts = trees (map shown_tree ts)

abbrev pub shown_view : View → ValueTree
shown_view view.Null = ValueTree.NullValue
shown_view (view.Truth b) = ValueTree.TruthValue b
shown_view (view.Whole i) = ValueTree.WholeNumber i
shown_view (view.Item i) = ValueTree.ItemNumber i
shown_view (view.Real x) = ValueTree.RealNumber x.mantissa x.base x.exponent
shown_view (view.Bits bits) = ValueTree.Bits bits.now
shown_view (view.Octets octets) = ValueTree.Octets octets.now
shown_view (view.Text text) = ValueTree.Characters (chars text.now)
shown_view (view.Arcs arcs) = ValueTree.ObjectIdentifierArcs (map arc_tree arcs.now)
shown_view (view.Struct fs) = ValueTree.Struct (shown_fields fs.now)
shown_view (view.Elements ts) = ValueTree.Elements (shown_trees ts.now)
shown_view (view.Alternative name t) = ValueTree.Alternative name.now (shown_tree t.now)
shown_view view.Opaque = ValueTree.Opaque
