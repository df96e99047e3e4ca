-- What clean definitions mean, and that those are clean which linking leaves as they are.
use Rattle.std.specs.Prelude.{◌≡◌, ◌↔◌, ℕ, List, true, Some, None}
use Rattle.asn_tree.specs.declared.definitions.ToplevelDefinition.TheVariants.{TypeDef}
use Rattle.asn_tree.specs.declared.definitions.ToplevelTypeDefinition.{ToplevelTypeDefinition}
use Rattle.asn_meaning.specs.Accepts.{Accepts, Rejects}
use Rattle.asn_meaning.specs.Definitions.{Definitions, type_named}
use Rattle.asn_meaning.specs.Plain.{IsPlain}
use Rattle.asn_meaning.specs.Scopes.{Empty}
use Rattle.asn_meaning.specs.ValueTrees.{ValueTree}
use Rattle.asn_names.specs.Definitions.{Module, definitions_of}
use Rattle.asn_names.specs.Faults.{IsLeft}
use Rattle.asn_names.specs.Given.{given_definitions}
use Rattle.asn_link.specs.Linked.{Linking, is_clean, linked_definitions}

-- The type that linking made of a clean definition accepts and rejects over the linked definitions the trees that the definition's type
-- accepts and rejects over those that were linked, and is in plain form.
abbrev pub CleanMeanTheSame : Type 0
CleanMeanTheSame =
    (defs : Definitions) (l : Linking defs) (name : List ℕ) (d : ToplevelTypeDefinition) → is_clean l name ≡ true → type_named defs name ≡ Some d →
    (e : ToplevelTypeDefinition) × (type_named (linked_definitions l) name ≡ Some e) × (e.parameterization ≡ None) × IsPlain (linked_definitions l) e.ty
    × ((t : ValueTree) → (Accepts defs Empty d.ty t ↔ Accepts (linked_definitions l) Empty e.ty t) × (Rejects defs Empty d.ty t ↔ Rejects (linked_definitions l) Empty e.ty t))

-- A type definition that linking leaves as it is, and with it each that it reaches, is clean.
abbrev pub LeftAreClean : Type 0
LeftAreClean =
    (reading : List Module) (l : Linking (given_definitions reading)) (name : List ℕ) (d : ToplevelTypeDefinition) →
    type_named (definitions_of reading) name ≡ Some d → IsLeft (definitions_of reading) (TypeDef d) → is_clean l name ≡ true
