-- What stands in a value, under the type that governs it.
use Rattle.std.specs.Prelude.{ℕ, List, [], ◌∷◌, map, Option, Some, None, is_some, if◌then◌else◌}
use Rattle.std.specs.List.{list_all}
use Rattle.asn_tree.specs.declared.values.ASN1Value.{ASN1Value}
use Rattle.asn_meaning.specs.Accepts.{place}
use Rattle.asn_meaning.specs.Answers.{once}
use Rattle.asn_meaning.specs.Braces.{elements_written, fields_written}
use Rattle.asn_meaning.specs.Kinds.{Kind, BitStringKind, ChoiceKind, ListKind, StructKind, kind_of}
use Rattle.asn_meaning.specs.Meaning.{Meaning, Member}
use Rattle.asn_meaning.specs.Members.{element_place, member_named, member_place, members_of}
use Rattle.asn_meaning.specs.Names.{option_named, options_of}
use Rattle.asn_meaning.specs.Scopes.{Place}
use Rattle.asn_meaning.specs.Written.{NamedValues, Written, AlternativeWritten, ArcsWritten, BracesWritten, ElementsWritten, FieldsWritten, NestedWritten, as_written}
use Rattle.asn_needs.specs.Dummies.{hangs, is_class_name}
use Rattle.asn_needs.specs.Sites.{Seen, Site, beside, Inside, AValue}

abbrev pub inside : Site → Option Place → ASN1Value → Site
inside s p v = beside s (AValue Inside v p)

-- ---- parts that no type governs

-- the values that stand in it, where the head gives them no type; arcs stay arcs
abbrev pub free_parts : Site → Written → List Site
free_parts s (BracesWritten items) = map (λ item. inside s None item.1) items
free_parts s (FieldsWritten fields) = map (λ f. inside s None f.1) fields
free_parts s (ElementsWritten vs) = map (inside s None) vs
free_parts s (AlternativeWritten name v) = inside s None v ∷ []
free_parts s (NestedWritten v) = inside s None v ∷ []
free_parts s _ = []

-- ---- under a SEQUENCE or SET

abbrev pub member_type : List Member → List ℕ → Option Place
member_type ms name = once None (member_named ms name) (λ m. Some (member_place m))

abbrev pub item_type : List Member → Option (List ℕ) → Option Place
item_type ms name = once None name (member_type ms)

abbrev pub named_parts : Site → List Member → NamedValues → List Site
named_parts s ms fields = map (λ f. inside s (member_type ms f.0) f.1) fields

abbrev pub arcs_parts : Site → List Member → NamedValues → List Site
arcs_parts s ms fields = if list_all (λ f. is_some (member_named ms f.0)) fields then named_parts s ms fields else []

-- An item is governed by the member of its name, as far as there is one; one that was read as arcs only where it fits
-- (X.680 25.18, 27.7).
abbrev pub fields_under : Site → List Member → Written → List Site
fields_under s ms (BracesWritten items) = map (λ item. inside s (item_type ms item.0) item.1) items
fields_under s ms (FieldsWritten fields) = named_parts s ms fields
fields_under s ms (ArcsWritten arcs) = once [] (fields_written (ArcsWritten arcs)) (arcs_parts s ms)
fields_under s ms w = free_parts s w

-- ---- under a head

-- (X.680 26.3, 28.3)
abbrev pub elements_under : Site → Option Place → Written → List Site
elements_under s element w = once (free_parts s w) (elements_written w) (λ vs. map (inside s element) vs)

-- (X.680 29.11)
abbrev pub option_under : Site → Place → Written → List Site
option_under s head (AlternativeWritten name v) = inside s (once None (option_named (options_of head) name) (λ o. Some (place head.scope o.ty))) v ∷ []
option_under s head w = free_parts s w

-- names of bits are no names of values (X.680 22.9)
abbrev pub bits_under : Site → Written → List Site
bits_under s (BracesWritten items) = []
bits_under s w = free_parts s w

abbrev pub struct_under : Meaning → Site → Place → Written → List Site
struct_under M s head w = once (free_parts s w) (members_of M head) (λ ms. fields_under s ms w)

abbrev pub parts_under : Meaning → Site → Place → Written → Kind → List Site
parts_under M s head w (StructKind x) = struct_under M s head w
parts_under M s head w (ListKind ty) = elements_under s (element_place head) w
parts_under M s head w (ChoiceKind options) = option_under s head w
parts_under M s head w (BitStringKind bits) = bits_under s w
parts_under M s head w _ = free_parts s w

-- Where the head hangs on a dummy of a template by itself nothing is judged: the parts may be items of its argument.
abbrev pub headless_parts : Seen → Site → Place → Written → List Site
headless_parts S s p w = if hangs S.defs S.known S.steps p then [] else free_parts s w

-- a value that linking put under the names of its types is read under the same type
abbrev pub governed_parts : Seen → Site → Place → Written → List Site
governed_parts S s p (NestedWritten v) = inside s (Some p) v ∷ []
governed_parts S s p w = once (headless_parts S s p w) (S.known.head p) (λ head. parts_under S.known s head w (kind_of head))

-- The values in a value, each under the type that it has there. A class's name is no type.
abbrev pub value_sites : Seen → Site → Option Place → ASN1Value → List Site
value_sites S s None v = free_parts s (as_written v)
value_sites S s (Some p) v = if is_class_name S.defs p then [] else governed_parts S s p (as_written v)
