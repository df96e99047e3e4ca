-- What linking keeps of the meaning of definitions.
use Rattle.std.specs.Prelude.{◌≡◌, ◌↔◌, ℕ, List, map, Some, true}
use Rattle.asn_tree.specs.declared.definitions.ToplevelTypeDefinition.{ToplevelTypeDefinition}
use Rattle.asn_tree.specs.declared.types.ASN1Type.{ASN1Type}
use Rattle.asn_check.specs.Warnings.{AreWarnings, AreWarningsOf, Linkedness, Warning}
use Rattle.asn_meaning.specs.Accepts.{Accepts}
use Rattle.asn_meaning.specs.Definitions.{type_named}
use Rattle.asn_meaning.specs.Plain.{IsPlain}
use Rattle.asn_meaning.specs.Scopes.{Empty}
use Rattle.asn_meaning.specs.ValueTrees.{ValueTree}
use Rattle.asn_names_index.specs.Definitions.{IsStanding, name_of}
use Rattle.asn_names.specs.Definitions.{Definitions, Module, definitions_of}
use Rattle.asn_names.specs.Given.{given_definitions}
use Rattle.asn_link.specs.Linked.{Linking, is_clean, linked_definitions}

-- The second type accepts over its definitions exactly the value trees that the first accepts over its own.
abbrev pub AcceptsAlike : Definitions → ASN1Type → Definitions → ASN1Type → Type 0
AcceptsAlike defs ty others other = (t : ValueTree) → Accepts defs Empty ty t ↔ Accepts others Empty other t

-- A type definition stands for the name among the linked definitions. It is in plain form there, and accepts there exactly the
-- value trees that this type accepts in the reading.
abbrev pub Meant : List Module → Definitions → List ℕ → ASN1Type → Type 0
Meant reading linked name ty =
    (e : ToplevelTypeDefinition) × (type_named linked name ≡ Some e) × IsPlain linked e.ty
    × AcceptsAlike (definitions_of reading) ty linked e.ty

-- So it is with each clean type definition.
abbrev pub KeepsMeaning : (reading : List Module) → Linking (given_definitions reading) → Type 0
KeepsMeaning reading linking =
    (name : List ℕ) (d : ToplevelTypeDefinition) → type_named (definitions_of reading) name ≡ Some d → is_clean linking name ≡ true →
    Meant reading (linked_definitions linking) name d.ty

-- Linking keeps the meaning of a reading.
abbrev pub LinkingKeepsMeaning : Type 0
LinkingKeepsMeaning = (reading : List Module) (linking : Linking (given_definitions reading)) → KeepsMeaning reading linking

-- The warnings name by name, over the definitions that stand, are exactly those that are due, in order.
abbrev pub WarningsAreDue : Type 0
WarningsAreDue =
    (defs standing : Definitions) (linked : Linkedness) (warnings : List Warning) → IsStanding defs standing → AreWarningsOf defs linked (map name_of standing) warnings →
    AreWarnings defs linked warnings

-- No two lists are the warnings over the same definitions.
abbrev pub OneListOfWarnings : Type 0
OneListOfWarnings = (defs : Definitions) (linked : Linkedness) (ws vs : List Warning) → AreWarnings defs linked ws → AreWarnings defs linked vs → ws ≡ vs
