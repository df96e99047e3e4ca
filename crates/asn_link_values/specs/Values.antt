-- The value that stands in the place of another, and scopes without dummies.
use Rattle.std.specs.Prelude.{Bool, true, false, None}
use Rattle.asn_tree.specs.declared.values.ASN1Value.{ASN1Value}
use Rattle.asn_tree.specs.declared.values.ASN1Value.TheVariants as value
use Rattle.asn_meaning.specs.Scopes.{Scope, Empty}
use Rattle.asn_link_values.specs.declared.values.PlacedValue.{PlacedValue}
use Rattle.asn_link_values.specs.declared.values.PlacedValue.TheVariants as placed

abbrev pub shown_placed : PlacedValue → ASN1Value
shown_placed (placed.Same v) = v.now
shown_placed placed.All = value.All
shown_placed placed.Null = value.Null
shown_placed (placed.Truth b) = value.Boolean b
shown_placed (placed.Number i) = value.Integer i
shown_placed (placed.Real x) = value.Real x
shown_placed (placed.Bits bits) = value.BitString bits
shown_placed (placed.Octets octets) = value.OctetString octets
shown_placed (placed.Text text) = value.String text
shown_placed (placed.Arcs arcs) = value.ObjectIdentifier (record { 0 = arcs })
shown_placed (placed.Item name) = value.ElsewhereDeclaredValue None name.now

abbrev pub is_outside : Scope → Bool
is_outside Empty = true
is_outside _ = false
