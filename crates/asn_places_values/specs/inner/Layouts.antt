-- How a value is written, as far as values stand in it, and the kinds of heads that may give them types.
use Rattle.std.specs.Prelude.{Option, Some, None}
use Rattle.asn_tree.specs.declared.values.ASN1Value.{ASN1Value}
use Rattle.asn_meaning.specs.Kinds.{Kind, BitStringKind, ChoiceKind, ListKind, StructKind}
use Rattle.asn_meaning.specs.Written.{Written, AllWritten, AlternativeWritten, ArcsWritten, BracesWritten, ElementsWritten, FieldsWritten, NestedWritten, explicit_fields}
use Rattle.asn_places_values.specs.declared.layouts.Layout.{Layout}
use Rattle.asn_places_values.specs.declared.layouts.Layout.TheVariants as lent
use Rattle.asn_places_values.specs.declared.layouts.Parting.{Parting}
use Rattle.asn_places_values.specs.declared.layouts.Parting.TheVariants.{ByMember, ByElement, ByOption, ByBit, ByNothing}

-- what is written, where all in which no value stands counts as ALL
abbrev pub plainly : Written → Written
plainly (BracesWritten items) = BracesWritten items
plainly (FieldsWritten fields) = FieldsWritten fields
plainly (ElementsWritten vs) = ElementsWritten vs
plainly (ArcsWritten arcs) = ArcsWritten arcs
plainly (AlternativeWritten name v) = AlternativeWritten name v
plainly (NestedWritten v) = NestedWritten v
plainly _ = AllWritten

abbrev pub shown_layout : Layout → Written
shown_layout (lent.Items items) = BracesWritten items.now
shown_layout (lent.Fields fields) = FieldsWritten (explicit_fields fields.now)
shown_layout (lent.Elements vs) = ElementsWritten vs.now
shown_layout (lent.Arcs arcs) = ArcsWritten arcs.now
shown_layout (lent.Alternative name v) = AlternativeWritten name.now v.now
shown_layout (lent.Nested v) = NestedWritten v.now
shown_layout lent.Plain = AllWritten

-- the value that linking put under the names of its types
abbrev pub nested_in : Written → Option ASN1Value
nested_in (NestedWritten v) = Some v
nested_in _ = None

abbrev pub parting_of : Kind → Parting
parting_of (StructKind x) = ByMember
parting_of (ListKind ty) = ByElement
parting_of (ChoiceKind options) = ByOption
parting_of (BitStringKind bits) = ByBit
parting_of _ = ByNothing
