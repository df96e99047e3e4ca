-- The texts of what holds no tree: words, numbers, tags, names of fields, settings.
use Rattle.std.specs.Prelude.{ℕ, ℤ, zero, suc, ◌+◌, nat_lt, ◌/◌, ◌%◌, List, [], ◌∷◌, ◌++◌, Bool, Option, Some, None, codes, map, nat_eq, if◌then◌else◌}
use Rattle.std.specs.Fmt.{decimal, signed_decimal}
use Rattle.asn_tree_headers.specs.declared.headers.AsnTag.{AsnTag}
use Rattle.asn_tree_headers.specs.declared.headers.ObjectIdentifierArc.{ObjectIdentifierArc}
use Rattle.asn_tree_headers.specs.declared.headers.TagClass.{TagClass}
use Rattle.asn_tree_headers.specs.declared.headers.TagClass.TheVariants as class
use Rattle.asn_tree_headers.specs.declared.headers.TaggingEnvironment.{TaggingEnvironment}
use Rattle.asn_tree_headers.specs.declared.headers.TaggingEnvironment.TheVariants.{Automatic, Implicit, Explicit}
use Rattle.asn_tree_kinds.specs.declared.constraints.ComponentPresence.{ComponentPresence}
use Rattle.asn_tree_kinds.specs.declared.constraints.ComponentPresence.TheVariants as presence
use Rattle.asn_tree_kinds.specs.declared.constraints.RelationalConstraint.{RelationalConstraint}
use Rattle.asn_tree_kinds.specs.declared.constraints.SetOperator.{SetOperator}
use Rattle.asn_tree_kinds.specs.declared.constraints.SetOperator.TheVariants.{Intersection, Union, Except}
use Rattle.asn_tree_kinds.specs.declared.types.DistinguishedValue.{DistinguishedValue}
use Rattle.asn_tree_kinds.specs.declared.types.Enumeral.{Enumeral}
use Rattle.asn_check_listing.specs.Parts.{Letters, around, joined, parted, listed, braced, with_marker}
use Rattle.asn_tree_settings.specs.Settings.{basic_text, clock_text, date_text, interval_text, midnight_text, point_text, property_of, recurrence_text, time_text, year_text}
use Rattle.asn_tree_settings.specs.declared.settings.PropertyAndSettingsPair.{PropertyAndSettingsPair}
use Rattle.asn_tree_settings.specs.declared.settings.PropertyAndSettingsPair.TheVariants as pair
use Rattle.asn_tree_leaves.specs.declared.objects.ObjectFieldIdentifier.{ObjectFieldIdentifier}
use Rattle.asn_tree_leaves.specs.declared.objects.ObjectFieldIdentifier.TheVariants.{SingleValue, MultipleValue}
use Rattle.asn_tree_leaves.specs.declared.plain.RealValue.{RealValue}

-- each double quote twice (X.680 12.14)
abbrev pub doubled : Letters → Letters
doubled [] = []
doubled (c ∷ cs) = if nat_eq c 34 then 34 ∷ 34 ∷ doubled cs else c ∷ doubled cs

abbrev pub quoted : Letters → Letters
quoted text = codes "\"" ++ doubled text ++ codes "\""

abbrev pub class_word : TagClass → Letters
class_word class.Universal = codes "UNIVERSAL "
class_word class.Application = codes "APPLICATION "
class_word class.Private = codes "PRIVATE "
class_word class.ContextSpecific = []

abbrev pub environment_word : TaggingEnvironment → Letters
environment_word Automatic = []
environment_word Implicit = codes "IMPLICIT "
environment_word Explicit = codes "EXPLICIT "

-- a tag with the space behind it (X.680 31.2)
abbrev pub tag_text : Option AsnTag → Letters
tag_text None = []
tag_text (Some t) = codes "[" ++ class_word t.tag_class ++ decimal t.id ++ codes "] " ++ environment_word t.environment

-- a name with its number in parentheses
abbrev pub numbered_name : Letters → ℤ → Letters
numbered_name name number = name ++ codes "(" ++ signed_decimal number ++ codes ")"

abbrev pub number_text : DistinguishedValue → Letters
number_text d = numbered_name d.name d.value

-- named numbers or bits, where braces stand
abbrev pub numbers_text : Option (List DistinguishedValue) → Letters
numbers_text None = []
numbers_text (Some ds) = braced (map number_text ds)

abbrev pub item_text : Enumeral → Letters
item_text e = numbered_name e.name e.index

abbrev pub items_text : Option ℕ → List Enumeral → Letters
items_text marker es = braced (with_marker marker 0 (map item_text es))

abbrev pub real_text : RealValue → Letters
real_text r = codes "{mantissa " ++ signed_decimal r.mantissa ++ codes ", base " ++ decimal r.base ++ codes ", exponent " ++ signed_decimal r.exponent ++ codes "}"

-- an arc of an object identifier: name and number, or one of them (X.680 32.3)
abbrev pub arc_of : Option Letters → Option ℕ → Letters
arc_of (Some name) (Some number) = name ++ codes "(" ++ decimal number ++ codes ")"
arc_of (Some name) None = name
arc_of None (Some number) = decimal number
arc_of None None = []

abbrev pub arc_text : ObjectIdentifierArc → Letters
arc_text a = arc_of a.name a.number

-- an object identifier
abbrev pub arcs_text : List ObjectIdentifierArc → Letters
arcs_text arcs = codes "{" ++ parted (codes " ") (map arc_text arcs) ++ codes "}"

abbrev pub bit_text : Bool → Letters
bit_text bit = if bit then codes "1" else codes "0"

-- a string of bits (X.680 12.10)
abbrev pub bits_text : List Bool → Letters
bits_text bits = codes "'" ++ joined (map bit_text bits) ++ codes "'B"

-- the digit of a number below sixteen: 0 to 9, A to F
abbrev pub hex_digit : ℕ → Letters
hex_digit n = (if nat_lt n 10 then 48 + n else 55 + n) ∷ []

abbrev pub octet_text : ℕ → Letters
octet_text octet = hex_digit (octet / 16) ++ hex_digit (octet % 16)

-- a string of octets (X.680 12.12)
abbrev pub octets_text : List ℕ → Letters
octets_text octets = codes "'" ++ joined (map octet_text octets) ++ codes "'H"

abbrev pub operator_text : SetOperator → Letters
operator_text Intersection = codes " ^ "
operator_text Union = codes " | "
operator_text Except = codes " EXCEPT "

abbrev pub presence_text : ComponentPresence → Letters
presence_text presence.Absent = codes " ABSENT"
presence_text presence.Present = codes " PRESENT"
presence_text presence.Optional = codes " OPTIONAL"
presence_text presence.Unspecified = []

-- so many dots
abbrev pub dots : ℕ → Letters
dots zero = []
dots (suc n) = codes "." ++ dots n

-- a name behind `@`, with a dot for each level (X.682 10.7)
abbrev pub relation_text : RelationalConstraint → Letters
relation_text r = codes "@" ++ dots r.level ++ r.field_name

abbrev pub relations_text : List RelationalConstraint → Letters
relations_text [] = []
relations_text (r ∷ rs) = listed (map relation_text (r ∷ rs))

abbrev pub field_name : ObjectFieldIdentifier → Letters
field_name (SingleValue name) = name
field_name (MultipleValue name) = name

-- names of fields, each behind a dot
abbrev pub path_text : List ObjectFieldIdentifier → Letters
path_text [] = []
path_text (f ∷ fs) = codes "." ++ field_name f ++ path_text fs

-- a name, behind the object or class that it is a field of
abbrev pub name_text : Option Letters → Letters → Letters
name_text parent name = around [] parent (codes ".&") ++ name

abbrev pub setting_text : PropertyAndSettingsPair → Letters
setting_text (pair.Basic s) = basic_text s
setting_text (pair.Date s) = date_text s
setting_text (pair.Year s) = year_text s
setting_text (pair.Time s) = time_text s
setting_text (pair.LocalOrUtc s) = clock_text s
setting_text (pair.IntervalType s) = interval_text s
setting_text (pair.StartEndPoint s) = point_text s
setting_text (pair.Recurrence s) = recurrence_text s
setting_text (pair.Midnight s) = midnight_text s

abbrev pub pair_text : PropertyAndSettingsPair → Letters
pair_text p = property_of p ++ codes "=" ++ setting_text p

abbrev pub settings_text : List PropertyAndSettingsPair → Letters
settings_text ps = codes "SETTINGS \"" ++ parted (codes " ") (map pair_text ps) ++ codes "\""
