-- Words and marks that tell something by standing there.
use Rattle.std.specs.Prelude.{ℕ, Bool, true, false, nat_eq, if◌then◌else◌, Option, Some, None}
use Rattle.asn_tree_kinds.specs.declared.constraints.ComponentPresence.{ComponentPresence}
use Rattle.asn_tree_kinds.specs.declared.constraints.ComponentPresence.TheVariants as presence
use Rattle.asn_tree_kinds.specs.declared.constraints.SetOperator.{SetOperator}
use Rattle.asn_tree_kinds.specs.declared.constraints.SetOperator.TheVariants.{Except, Intersection, Union}
use Rattle.asn_tree_leaves.specs.declared.markers.ExtensionMarker.{ExtensionMarker}
use Rattle.asn_tree_leaves.specs.declared.markers.OptionalMarker.{OptionalMarker}
use Rattle.asn_rules.specs.declared.names.TheConstants.{EXTENSION_MARK, EXTENSION_TAIL, MARK_ABSENT, MARK_BMP_STRING, MARK_EXCEPT, MARK_GENERAL_STRING, MARK_GRAPHIC_STRING, MARK_HIGH_OPEN, MARK_IA5_STRING, MARK_INTERSECTION, MARK_LOW_OPEN, MARK_NUMERIC_STRING, MARK_OPTIONAL, MARK_PARTIAL, MARK_PRESENT, MARK_PRINTABLE_STRING, MARK_TELETEX_STRING, MARK_UNION, MARK_UNIQUE, MARK_UNIVERSAL_STRING, MARK_UTF8_STRING, MARK_VIDEOTEX_STRING, MARK_VISIBLE_STRING}
use Rattle.asn_rules.specs.declared.node.Node.{Node}
use Rattle.asn_rules.specs.declared.node.Node.TheViews.{out-Node}
use Rattle.asn_rules.specs.Nodes.{at_child, child_of, first_child_of, the}
use Rattle.asn_tree_leaves.specs.declared.plain.CharacterStringType.{CharacterStringType}
use Rattle.asn_tree_leaves.specs.declared.plain.CharacterStringType.TheVariants.{BMPString, GeneralString, GraphicString, IA5String, NumericString, PrintableString, TeletexString, UTF8String, UniversalString, VideotexString, VisibleString}

-- the word OPTIONAL, where it stands (X.680 25.1)
abbrev pub optional_of : Node → Option OptionalMarker
optional_of n = at_child (child_of n MARK_OPTIONAL) None (λ word. Some (record {}))

-- `...` among the parts, where it stands (X.680 20.1, 25.1, 29.1)
abbrev pub extension_of : Node → Option ExtensionMarker
extension_of n = at_child (child_of n EXTENSION_MARK) None (λ mark. Some (record {}))

-- whether the word UNIQUE stands behind a class's field (X.681 9.6)
abbrev pub unique_of : Node → Bool
unique_of n = at_child (child_of n MARK_UNIQUE) false (λ word. true)

-- whether `...` stands before the listed components, so that those not listed are free (X.680 51.8.6)
abbrev pub partial_of : Node → Bool
partial_of n = at_child (child_of n MARK_PARTIAL) false (λ mark. true)

-- whether an end of a range is left out, which a mark beside it tells (X.680 51.4)
abbrev pub low_open_of : Node → Bool
low_open_of n = at_child (child_of n MARK_LOW_OPEN) false (λ mark. true)

abbrev pub high_open_of : Node → Bool
high_open_of n = at_child (child_of n MARK_HIGH_OPEN) false (λ mark. true)

-- whether an extension marker stands behind a set of values (X.680 50.1)
abbrev pub extensible_of : Node → Bool
extensible_of n = at_child (child_of n EXTENSION_TAIL) false (λ tail. true)

-- what a listed component's word asks of its presence (X.680 51.8.9)
abbrev pub presence_of : Node → ComponentPresence
presence_of n =
    at_child (child_of n MARK_PRESENT) (at_child (child_of n MARK_ABSENT) (at_child (child_of n MARK_OPTIONAL) presence.Unspecified (λ word. presence.Optional)) (λ word. presence.Absent)) (λ word. presence.Present)

-- what a leaf joins sets of values by: a word, or a mark of the same meaning (X.680 50.1)
abbrev pub operator_by : ℕ → Option SetOperator
operator_by leaf =
    if nat_eq leaf MARK_INTERSECTION then Some Intersection
    else if nat_eq leaf MARK_UNION then Some Union
    else if nat_eq leaf MARK_EXCEPT then Some Except
    else None

abbrev pub operator_of : Node → Option SetOperator
operator_of n = the (first_child_of n) (λ leaf. operator_by (out-Node leaf).rule)

-- the character string type whose word a leaf is (X.680 41.1)
abbrev pub string_type_by : ℕ → Option CharacterStringType
string_type_by leaf =
    if nat_eq leaf MARK_IA5_STRING then Some IA5String
    else if nat_eq leaf MARK_UTF8_STRING then Some UTF8String
    else if nat_eq leaf MARK_NUMERIC_STRING then Some NumericString
    else if nat_eq leaf MARK_VISIBLE_STRING then Some VisibleString
    else if nat_eq leaf MARK_TELETEX_STRING then Some TeletexString
    else if nat_eq leaf MARK_VIDEOTEX_STRING then Some VideotexString
    else if nat_eq leaf MARK_GRAPHIC_STRING then Some GraphicString
    else if nat_eq leaf MARK_GENERAL_STRING then Some GeneralString
    else if nat_eq leaf MARK_UNIVERSAL_STRING then Some UniversalString
    else if nat_eq leaf MARK_BMP_STRING then Some BMPString
    else if nat_eq leaf MARK_PRINTABLE_STRING then Some PrintableString
    else None

-- the character string type that a node begins with the word of
abbrev pub string_type_of : Node → Option CharacterStringType
string_type_of n = the (first_child_of n) (λ leaf. string_type_by (out-Node leaf).rule)
