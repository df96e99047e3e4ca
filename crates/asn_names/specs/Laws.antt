-- Laws of names and of given definitions.
use Rattle.std.specs.Prelude.{◌≡◌, ◌↔◌, ℕ, Bool, List, Some, true}
use Rattle.std.specs.List.{Contains}
use Rattle.asn_tree.specs.declared.definitions.ToplevelDefinition.{ToplevelDefinition}
use Rattle.asn_tree.specs.declared.types.ASN1Type.{ASN1Type}
use Rattle.asn_meaning.specs.Tags.{DifferInTags}
use Rattle.asn_meaning.specs.ValueTrees.{ValueTree}
use Rattle.asn_needs.specs.Basic.{AreBasic, IsBasicDefinition}
use Rattle.asn_needs.specs.Faults.{Fault, FaultOf}
use Rattle.asn_needs.specs.Occurrences.{Occurrence, OccursIn}
use Rattle.asn_needs.specs.Sites.{seen, ToDefinition}
use Rattle.asn_names.specs.Decided.{HasHeights, IsDecidedIn, steps_of}
use Rattle.asn_names_index.specs.Definitions.{IsStanding}
use Rattle.asn_names.specs.Definitions.{Definitions, Module, definitions_of, last_named, type_of}
use Rattle.asn_names.specs.Faults.{HasFault, HasTypes}
use Rattle.asn_names.specs.declared.faults.Fault.{Fault as Warned}
use Rattle.asn_names.specs.Given.{IsGiven, given_definitions}
use Rattle.asn_names.specs.Standing.{AreGiven}
use Rattle.asn_names.specs.Needed.{IsAcyclic, IsOrdered, stands_as, type_occurrence}
use Rattle.asn_names.specs.Occurrences.{names_of}
use Rattle.asn_meaning_unchanged.specs.Unchanged.{is_unchanged}

-- ---- trees are decided

-- Every tree is decided under the type of a definition in which a type stands for each type reference, and for each that it
-- reaches, where all definitions have basic forms, within steps computed from the tree and the heights of the names that the
-- definition reaches.
abbrev pub EveryTreeDecided : Type 0
EveryTreeDecided =
    (defs : Definitions) → AreBasic defs → (d : ToplevelDefinition) → IsBasicDefinition d → HasTypes defs d →
    (h : ℕ) → HasHeights defs h d → (ty : ASN1Type) → type_of d ≡ Some ty → (t : ValueTree) → IsDecidedIn defs (steps_of h t) ty t

-- ---- names and faults in the relation of needs

-- Where a definition has a basic form, what occurs in it are the names in its type, each as a type reference; whatever the
-- number of steps.
abbrev pub NamesOccur : Type 0
NamesOccur =
    (defs : Definitions) (n : ℕ) (name : List ℕ) (d : ToplevelDefinition) → last_named defs name ≡ Some d → IsBasicDefinition d →
    (o : Occurrence) → OccursIn (seen defs n) (ToDefinition name) o ↔ (x : List ℕ) × (o ≡ type_occurrence x) × Contains (names_of d) x

-- Where all definitions have basic forms, the faults that linking finds are those that stand in the relation, and no other
-- stands: in a definition that linking leaves as it is, that does not need itself and whose ranges are no reversed ones,
-- whether linking made its type or not.
abbrev pub FaultsStand : Type 0
FaultsStand =
    (defs : Definitions) → AreBasic defs → (name : List ℕ) (d : ToplevelDefinition) (linked : Bool) → last_named defs name ≡ Some d →
    is_unchanged d ≡ true → IsAcyclic defs name → IsOrdered defs name →
    (k : Fault) → FaultOf defs (ToDefinition name) k ↔ (f : Warned) × HasFault defs name d linked (Some f) × (k ≡ stands_as f)

-- ---- what linking is given

-- The last definition of a name among the given ones is the last of the name in the reading, as linking gives it.
abbrev pub LastIsGiven : Type 0
LastIsGiven = (reading : List Module) (name : List ℕ) → IsGiven (last_named (definitions_of reading) name) (last_named (given_definitions reading) name)

-- The given definitions of a reading that stand are these, and no other list is.
abbrev pub StandingAreGiven : Type 0
StandingAreGiven = (reading : List Module) (standing : Definitions) → IsStanding (given_definitions reading) standing ↔ AreGiven reading standing

-- A name sees among the given definitions what it sees in the reading, with other tags.
abbrev pub GivenDifferInTags : Type 0
GivenDifferInTags = (reading : List Module) → DifferInTags (definitions_of reading) (given_definitions reading)
