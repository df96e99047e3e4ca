-- What is written of a tree without parts; one with parts is not written.
use Rattle.std.proofs.Common.{◌≡◌, ℕ, List, [], Option, Bool, true, Some, None, if◌then◌else◌, refl, sym, ap, ◌∙◌}
use Rattle.std.specs.Str.{IsUtf8, bytes_eq, chars}
use Rattle.std.proofs.lemmas.Slice.Eq.{bytes_eq-Decides}
use Rattle.std.proofs.lemmas.Str.{encodes-chars}
use Rattle.asn_tree.specs.declared.values.ASN1Value.TheVariants as value
use Rattle.asn_tree_headers.specs.declared.headers.ObjectIdentifierArc.{ObjectIdentifierArc}
use Rattle.asn_meaning_values.specs.Leaves.{leaf}
use Rattle.asn_link_instance.specs.Literals.{text_of, text_tree, written, written_arc, written_by_tree}
use Rattle.asn_meaning.specs.Answers.{Denotation, Denoted, Nothing, Unsure, No, once}
use Rattle.asn_meaning.specs.Kinds.{Kind, NullKind, BooleanKind, IntegerKind, RealKind, BitStringKind, OctetStringKind, CharacterStringKind, TimeKind, EnumeratedKind, ObjectIdentifierKind, OpaqueKind, StructKind, ListKind, ChoiceKind, FieldKind, ReferenceKind, SelectionKind}
use Rattle.asn_meaning.specs.Rows.{arc_tree}
use Rattle.asn_meaning.specs.ValueTrees.{Arc, NumberArc, NameArc, ValueTree, ValueTrees, Fields, NullValue, TruthValue, WholeNumber, ItemNumber, RealNumber, Bits, Octets, Characters, ObjectIdentifierArcs, Struct, Elements, Alternative, Opaque}

no_fields : (k : Kind) (fields : Fields) → written k (Struct fields) ≡ None
no_fields NullKind fields = refl
no_fields BooleanKind fields = refl
no_fields (IntegerKind numbers) fields = refl
no_fields RealKind fields = refl
no_fields (BitStringKind names) fields = refl
no_fields OctetStringKind fields = refl
no_fields (CharacterStringKind ty) fields = refl
no_fields TimeKind fields = refl
no_fields (EnumeratedKind items) fields = refl
no_fields ObjectIdentifierKind fields = refl
no_fields OpaqueKind fields = refl
no_fields (StructKind x) fields = refl
no_fields (ListKind ty) fields = refl
no_fields (ChoiceKind options) fields = refl
no_fields (FieldKind x) fields = refl
no_fields (ReferenceKind x) fields = refl
no_fields (SelectionKind x) fields = refl

no_elements : (k : Kind) (trees : ValueTrees) → written k (Elements trees) ≡ None
no_elements NullKind trees = refl
no_elements BooleanKind trees = refl
no_elements (IntegerKind numbers) trees = refl
no_elements RealKind trees = refl
no_elements (BitStringKind names) trees = refl
no_elements OctetStringKind trees = refl
no_elements (CharacterStringKind ty) trees = refl
no_elements TimeKind trees = refl
no_elements (EnumeratedKind items) trees = refl
no_elements ObjectIdentifierKind trees = refl
no_elements OpaqueKind trees = refl
no_elements (StructKind x) trees = refl
no_elements (ListKind ty) trees = refl
no_elements (ChoiceKind options) trees = refl
no_elements (FieldKind x) trees = refl
no_elements (ReferenceKind x) trees = refl
no_elements (SelectionKind x) trees = refl

no_alternative : (k : Kind) (name : _) (t : ValueTree) → written k (Alternative name t) ≡ None
no_alternative NullKind name t = refl
no_alternative BooleanKind name t = refl
no_alternative (IntegerKind numbers) name t = refl
no_alternative RealKind name t = refl
no_alternative (BitStringKind names) name t = refl
no_alternative OctetStringKind name t = refl
no_alternative (CharacterStringKind ty) name t = refl
no_alternative TimeKind name t = refl
no_alternative (EnumeratedKind items) name t = refl
no_alternative ObjectIdentifierKind name t = refl
no_alternative OpaqueKind name t = refl
no_alternative (StructKind x) name t = refl
no_alternative (ListKind ty) name t = refl
no_alternative (ChoiceKind options) name t = refl
no_alternative (FieldKind x) name t = refl
no_alternative (ReferenceKind x) name t = refl
no_alternative (SelectionKind x) name t = refl

-- what is written is told by the tree without parts
of_leaf : (k : Kind) (d : Denotation ValueTree) → written_by_tree No d k ≡ once None (leaf d) (written k)
of_leaf k Nothing = refl
of_leaf k Unsure = refl
of_leaf k (Denoted NullValue) = refl
of_leaf k (Denoted (TruthValue b)) = refl
of_leaf k (Denoted (WholeNumber i)) = refl
of_leaf k (Denoted (ItemNumber i)) = refl
of_leaf k (Denoted (RealNumber m b e)) = refl
of_leaf k (Denoted (Bits bits)) = refl
of_leaf k (Denoted (Octets octets)) = refl
of_leaf k (Denoted (Characters cs)) = refl
of_leaf k (Denoted (ObjectIdentifierArcs arcs)) = refl
of_leaf k (Denoted Opaque) = refl
of_leaf k (Denoted (Struct fields)) = no_fields k fields
of_leaf k (Denoted (Elements trees)) = no_elements k trees
of_leaf k (Denoted (Alternative name t)) = no_alternative k name t

-- where two denotations have the same tree without parts, the same is written
-- ---- texts

same_text : (cs : List ℕ) → bytes_eq cs cs ≡ true
same_text cs = (bytes_eq-Decides cs cs).1 refl

-- a text is the one of its characters
pub text_again : (text : List ℕ) → IsUtf8 text → text_of (chars text) ≡ Some text
text_again text is = ap (λ x. if bytes_eq (chars x) (chars text) then Some x else None) (encodes-chars text is) ∙ ap (λ b. if b then Some text else None) (same_text (chars text))

pub text_found : (cs text : List ℕ) → text_of cs ≡ Some text → text_tree (Characters cs) ≡ Some (value.String text)
text_found cs text e = ap (λ o. once None o (λ text. Some (value.String text))) e

-- ---- arcs

pub arc_numbered : (arc : ObjectIdentifierArc) (n : ℕ) → arc.number ≡ Some n → written_arc (arc_tree arc) ≡ record { name = None; number = Some n }
arc_numbered arc n e = ap (λ o. written_arc (elim o [ Some n ↦ NumberArc n | None ↦ elim arc.name [ Some name ↦ NameArc name | None ↦ NameArc [] ] ])) e

pub arc_named : (arc : ObjectIdentifierArc) (name : List ℕ) → arc.number ≡ None → name ≡ once [] arc.name (λ name. name) → written_arc (arc_tree arc) ≡ record { name = Some name; number = None }
arc_named arc name e f =
    ap (λ o. written_arc (elim o [ Some n ↦ NumberArc n | None ↦ elim arc.name [ Some name ↦ NameArc name | None ↦ NameArc [] ] ])) e
    ∙ go arc.name
    ∙ ap (λ text. record { name = Some text; number = None }) (sym f)
  where
    go : (o : Option (List ℕ)) → written_arc (elim o [ Some name ↦ NameArc name | None ↦ NameArc [] ]) ≡ record { name = Some (once [] o (λ name. name)); number = None }
    go None = refl
    go (Some name) = refl

-- ---- leaves

pub by_leaf : (k : Kind) (d e : Denotation ValueTree) → leaf d ≡ leaf e → written_by_tree No d k ≡ written_by_tree No e k
by_leaf k d e same = of_leaf k d ∙ ap (λ o. once None o (written k)) same ∙ sym (of_leaf k e)
