-- What a tree of the code stands for, by its variant.
use Rattle.std.proofs.Common.{◌≡◌, ℕ, ◌+◌, ◌<◌, List, ◌∷◌, drop, length, get_or, Bool, true, false, refl, sym, ap, ◌∙◌}
use Rattle.std.specs.Prelude.{Option, Some, if◌then◌else◌, map, ℤ}
use Rattle.std.specs.Str.{bytes_eq, chars}
use Rattle.std.proofs.lemmas.List.{drop_more}
use Rattle.asn_meaning_shapes.specs.declared.trees.Tree.{Tree, Tree-F, out-Tree, fold_out-Tree, map-Tree}
use Rattle.asn_meaning_shapes.specs.declared.trees.Tree.TheVariants as own
use Rattle.asn_tree_headers.specs.declared.headers.ObjectIdentifierValue.{ObjectIdentifierValue}
use Rattle.asn_tree_leaves.specs.declared.plain.RealValue.{RealValue}
use Rattle.asn_meaning_shapes.specs.declared.trees.Field.{Field, out-Field, fold_out-Field}
use Rattle.asn_meaning_shapes.specs.Trees.{Named, tree_at, field_at, shown_tree, shown_field, shown_fields, shown_trees}
use Rattle.asn_meaning.specs.Rows.{arc_tree}
use Rattle.asn_meaning.specs.ValueTrees.{ValueTree, field_named}

abbrev pub level : Tree-F Tree Field → ValueTree
level Tree-F.Null = ValueTree.NullValue
level (Tree-F.Truth b) = ValueTree.TruthValue b
level (Tree-F.Whole i) = ValueTree.WholeNumber i
level (Tree-F.Item i) = ValueTree.ItemNumber i
level (Tree-F.Real x) = ValueTree.RealNumber x.mantissa x.base x.exponent
level (Tree-F.Bits bits) = ValueTree.Bits bits
level (Tree-F.Octets octets) = ValueTree.Octets octets
level (Tree-F.Texted text) = ValueTree.Characters (chars text)
level (Tree-F.Oid x) = ValueTree.ObjectIdentifierArcs (map arc_tree x.0)
level (Tree-F.Struct fs) = ValueTree.Struct (shown_fields fs)
level (Tree-F.Elements ts) = ValueTree.Elements (shown_trees ts)
level (Tree-F.Alternative name t) = ValueTree.Alternative name (shown_tree t)
level Tree-F.Opaque = ValueTree.Opaque

pub shown_is : (t : Tree) → shown_tree t ≡ level (out-Tree t)
unfolding shown_tree shown_field
shown_is t = fold_out-Tree ValueTree Named tree_at field_at t ∙ go (out-Tree t)
  where
    go : (x : Tree-F Tree Field) → tree_at (map-Tree Tree Field ValueTree Named shown_tree shown_field x) ≡ level x
    go Tree-F.Null = refl
    go (Tree-F.Truth b) = refl
    go (Tree-F.Whole i) = refl
    go (Tree-F.Item i) = refl
    go (Tree-F.Real x) = refl
    go (Tree-F.Bits bits) = refl
    go (Tree-F.Octets octets) = refl
    go (Tree-F.Texted text) = refl
    go (Tree-F.Oid x) = refl
    go (Tree-F.Struct fs) = refl
    go (Tree-F.Elements ts) = refl
    go (Tree-F.Alternative name t) = refl
    go Tree-F.Opaque = refl

pub field_shown : (f : Field) → shown_field f ≡ ((out-Field f).name, shown_tree (out-Field f).tree)
unfolding shown_tree shown_field
field_shown f = fold_out-Field ValueTree Named tree_at field_at f

named_step : (f : Field) (fs : List Field) (name : List ℕ) →
    field_named (shown_fields (f ∷ fs)) name ≡ (if bytes_eq (out-Field f).name name then Some (shown_tree (out-Field f).tree) else field_named (shown_fields fs) name)
named_step f fs name = ap (λ (x : Named). if bytes_eq x.0 name then Some x.1 else field_named (shown_fields fs) name) (field_shown f)

pub named_first : (fs : List Field) (i : ℕ) (f : Field) (name : List ℕ) → i < length fs → f ≡ get_or fs i f →
    field_named (shown_fields (drop i fs)) name ≡ (if bytes_eq (out-Field f).name name then Some (shown_tree (out-Field f).tree) else field_named (shown_fields (drop (i + 1) fs)) name)
named_first fs i f name lt e =
    ap (λ xs. field_named (shown_fields xs) name) (drop_more fs i f lt)
    ∙ ap (λ x. field_named (shown_fields (x ∷ drop (i + 1) fs)) name) (sym e)
    ∙ named_step f (drop (i + 1) fs) name

here : (b : Bool) (x y : Option ValueTree) → b ≡ true → (if b then x else y) ≡ x
here true x y e = refl
here false x y e = absurd cc

past : (b : Bool) (x y : Option ValueTree) → b ≡ false → (if b then x else y) ≡ y
past false x y e = refl
past true x y e = absurd cc

pub field_found : (fs : List Field) (i : ℕ) (f : Field) (name : List ℕ) → i < length fs → f ≡ get_or fs i f → bytes_eq (out-Field f).name name ≡ true →
    field_named (shown_fields (drop i fs)) name ≡ Some (shown_tree (out-Field f).tree)
field_found fs i f name lt e same = named_first fs i f name lt e ∙ here (bytes_eq (out-Field f).name name) _ _ same

pub field_passed : (fs : List Field) (i : ℕ) (f : Field) (name : List ℕ) → i < length fs → f ≡ get_or fs i f → bytes_eq (out-Field f).name name ≡ false →
    field_named (shown_fields (drop i fs)) name ≡ field_named (shown_fields (drop (i + 1) fs)) name
field_passed fs i f name lt e differ = named_first fs i f name lt e ∙ past (bytes_eq (out-Field f).name name) _ _ differ

-- ---- by the variant

pub null_shown : (t : Tree) → t ≡ own.Null → shown_tree t ≡ level Tree-F.Null
null_shown t e = shown_is t ∙ ap level (ap out-Tree e ∙ own.outs-Null)

pub truth_shown : (t : Tree) (b : Bool) → t ≡ own.Truth b → shown_tree t ≡ level (Tree-F.Truth b)
truth_shown t b e = shown_is t ∙ ap level (ap out-Tree e ∙ own.outs-Truth b)

pub whole_shown : (t : Tree) (i : ℤ) → t ≡ own.Whole i → shown_tree t ≡ level (Tree-F.Whole i)
whole_shown t i e = shown_is t ∙ ap level (ap out-Tree e ∙ own.outs-Whole i)

pub item_shown : (t : Tree) (i : ℤ) → t ≡ own.Item i → shown_tree t ≡ level (Tree-F.Item i)
item_shown t i e = shown_is t ∙ ap level (ap out-Tree e ∙ own.outs-Item i)

pub real_shown : (t : Tree) (x : RealValue) → t ≡ own.Real x → shown_tree t ≡ level (Tree-F.Real x)
real_shown t x e = shown_is t ∙ ap level (ap out-Tree e ∙ own.outs-Real x)

pub bits_shown : (t : Tree) (bits : List Bool) → t ≡ own.Bits bits → shown_tree t ≡ level (Tree-F.Bits bits)
bits_shown t bits e = shown_is t ∙ ap level (ap out-Tree e ∙ own.outs-Bits bits)

pub octets_shown : (t : Tree) (octets : List ℕ) → t ≡ own.Octets octets → shown_tree t ≡ level (Tree-F.Octets octets)
octets_shown t octets e = shown_is t ∙ ap level (ap out-Tree e ∙ own.outs-Octets octets)

pub text_shown : (t : Tree) (text : List ℕ) → t ≡ own.Texted text → shown_tree t ≡ level (Tree-F.Texted text)
text_shown t text e = shown_is t ∙ ap level (ap out-Tree e ∙ own.outs-Texted text)

pub arcs_shown : (t : Tree) (x : ObjectIdentifierValue) → t ≡ own.Oid x → shown_tree t ≡ level (Tree-F.Oid x)
arcs_shown t x e = shown_is t ∙ ap level (ap out-Tree e ∙ own.outs-Oid x)

pub struct_shown : (t : Tree) (fs : List Field) → t ≡ own.Struct fs → shown_tree t ≡ level (Tree-F.Struct fs)
struct_shown t fs e = shown_is t ∙ ap level (ap out-Tree e ∙ own.outs-Struct fs)

pub elements_shown : (t : Tree) (ts : List Tree) → t ≡ own.Elements ts → shown_tree t ≡ level (Tree-F.Elements ts)
elements_shown t ts e = shown_is t ∙ ap level (ap out-Tree e ∙ own.outs-Elements ts)

pub alternative_shown : (t : Tree) (name : List ℕ) (inner : Tree) → t ≡ own.Alternative name inner → shown_tree t ≡ level (Tree-F.Alternative name inner)
alternative_shown t name inner e = shown_is t ∙ ap level (ap out-Tree e ∙ own.outs-Alternative name inner)

pub opaque_shown : (t : Tree) → t ≡ own.Opaque → shown_tree t ≡ level Tree-F.Opaque
opaque_shown t e = shown_is t ∙ ap level (ap out-Tree e ∙ own.outs-Opaque)
