-- Values that are literals of their own type.
use Rattle.std.specs.Prelude.{Bool, true, false, ◌&&◌, is_none}
use Rattle.asn_tree.specs.declared.definitions.ToplevelValueDefinition.{ToplevelValueDefinition}
use Rattle.asn_names.specs.declared.literals.LiteralForm.{LiteralForm}
use Rattle.asn_names.specs.declared.literals.LiteralForm.TheVariants.{Bits, Null, Number, Octets, Other, Text, Truth}
use Rattle.asn_meaning.specs.Kinds.{Kind, BitStringKind, BooleanKind, CharacterStringKind, IntegerKind, NullKind, OctetStringKind, kind_of_type}
use Rattle.asn_meaning.specs.Written.{BitsWritten, NullWritten, NumberWritten, OctetsWritten, TextWritten, TruthWritten, Written, as_written}

-- the form in which a value is written
abbrev pub literal_form : Written → LiteralForm
literal_form NullWritten = Null
literal_form (TruthWritten b) = Truth
literal_form (NumberWritten i) = Number
literal_form (BitsWritten bits) = Bits
literal_form (OctetsWritten octets) = Octets
literal_form (TextWritten text) = Text
literal_form _ = Other

-- whether a type of this kind, which is no name, takes literals of this form
abbrev pub takes : Kind → LiteralForm → Bool
takes NullKind Null = true
takes BooleanKind Truth = true
takes (IntegerKind numbers) Number = true
takes (BitStringKind bits) Bits = true
takes OctetStringKind Octets = true
takes (CharacterStringKind ty) Text = true
takes _ _ = false

-- The value of a definition without parameters is a literal of its type, which is written and no name.
abbrev pub is_own_literal : ToplevelValueDefinition → Bool
is_own_literal d = is_none d.parameterization && takes (kind_of_type d.associated_type) (literal_form (as_written d.value))
