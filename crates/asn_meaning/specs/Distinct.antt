-- Members that share no name.
use Rattle.std.specs.Prelude.{◌≡◌, ℕ, zero, suc, List, Some, true}
use Rattle.asn_meaning.specs.Definitions.{Definitions}
use Rattle.asn_meaning.specs.Denotes.{are_distinct}
use Rattle.asn_meaning.specs.Judge.{meaning}
use Rattle.asn_meaning.specs.Kinds.{Kind, ChoiceKind, ListKind, StructKind, kind_of}
use Rattle.asn_meaning.specs.Layers.{OptionLayer}
use Rattle.asn_meaning.specs.Meaning.{Meaning, Member}
use Rattle.asn_meaning.specs.Members.{member_named, member_names, member_place}
use Rattle.asn_meaning.specs.Names.{option_named}
use Rattle.asn_meaning.specs.Scopes.{Scope, Place}
use Rattle.asn_meaning.specs.Shapes.{option_place}

-- The members of a SEQUENCE or SET have distinct names, and each part of a type is as `P` says.
abbrev pub PartsDiffer : Meaning → (Place → Type 0) → Scope → Kind → Type 0
PartsDiffer M P scope (StructKind x) =
    (ms : List Member) → M.members scope x ≡ Some ms →
    (are_distinct (member_names ms) ≡ true) × ((name : List ℕ) (m : Member) → member_named ms name ≡ Some m → P (member_place m))
PartsDiffer M P scope (ListKind ty) = P (record { scope = scope; ty = ty })
PartsDiffer M P scope (ChoiceKind options) = (name : List ℕ) (o : OptionLayer) → option_named options name ≡ Some o → P (option_place scope o)
PartsDiffer M P scope _ = Unit {0}

-- No two members share a name in a type, at any depth that so many steps see (X.680 25.11).
unfoldable pub NamesDiffer : Definitions → ℕ → Place → Type 0
NamesDiffer defs zero p = Unit {0}
NamesDiffer defs (suc n) p = (h : Place) → (meaning defs n).head p ≡ Some h → PartsDiffer (meaning defs n) (NamesDiffer defs n) h.scope (kind_of h)
