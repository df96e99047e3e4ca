-- The names and types of the members of a SEQUENCE or SET (X.680 25.1) and of the options of a CHOICE (X.680 29.1).
use Rattle.std.specs.Prelude.{ℕ, List, Option, map}
use Rattle.std.specs.Borrow.{Bor}
use Rattle.std.specs.Iterator.{Count, YieldsFirstBy, item_count}
use Rattle.asn_tree.specs.declared.types.ASN1Type.{ASN1Type}
use Rattle.asn_tree.specs.declared.types.Choice.{Choice, out-Choice}
use Rattle.asn_tree.specs.declared.types.ChoiceOption.{ChoiceOption, out-ChoiceOption}
use Rattle.asn_tree.specs.declared.types.SequenceOrSet.{SequenceOrSet, out-SequenceOrSet}
use Rattle.asn_tree.specs.declared.types.SequenceOrSetMember.{SequenceOrSetMember, out-SequenceOrSetMember}

abbrev pub member_pair : SequenceOrSetMember → List ℕ × ASN1Type
member_pair member = ((out-SequenceOrSetMember member).name, (out-SequenceOrSetMember member).ty)

abbrev pub option_pair : ChoiceOption → List ℕ × ASN1Type
option_pair option = ((out-ChoiceOption option).name, (out-ChoiceOption option).ty)

-- the members' names and types in order
abbrev pub member_pairs : SequenceOrSet → List (List ℕ × ASN1Type)
member_pairs struct = map member_pair (out-SequenceOrSet struct).members

-- the options' names and types in order
abbrev pub option_pairs : Choice → List (List ℕ × ASN1Type)
option_pairs choice = map option_pair (out-Choice choice).options

-- a name and a type that are lent
abbrev pub lent_pair : Bor (List ℕ) × Bor ASN1Type → List ℕ × ASN1Type
lent_pair pair = (pair.0.now, pair.1.now)

-- A call gives the first of what is left and leaves the others; None exactly where nothing is left.
abbrev pub NameTypesGive : List (List ℕ × ASN1Type) → Option (Bor (List ℕ) × Bor ASN1Type) → List (List ℕ × ASN1Type) → Type 0
NameTypesGive = YieldsFirstBy lent_pair (λ left. left)

-- as many calls give one as are left
abbrev pub name_types_left : List (List ℕ × ASN1Type) → Count
name_types_left = item_count (λ left. left)
