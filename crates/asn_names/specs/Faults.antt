-- What is wrong with a definition.
use Rattle.std.specs.Prelude.{◌≡◌, ◌↔◌, ◌⊎◌, ◌||◌, ◌&&◌, ℕ, List, Option, Some, None, is_none, is_some, if◌then◌else◌, Bool, true, false}
use Rattle.std.specs.List.{list_any}
use Rattle.asn_tree.specs.declared.definitions.ToplevelDefinition.{ToplevelDefinition}
use Rattle.asn_tree.specs.declared.definitions.ToplevelDefinition.TheVariants.{TypeDef, Value, Information}
use Rattle.asn_names.specs.declared.faults.Fault.{Fault}
use Rattle.asn_names.specs.declared.faults.Fault.TheVariants.{Argument, MissingDependency, NotYetInplemented}
use Rattle.asn_names.specs.declared.faults.Judgement.{Judgement}
use Rattle.asn_names.specs.declared.faults.Judgement.TheVariants.{NotJudged, Faultless, Faulty}
use Rattle.asn_meaning.specs.Definitions.{see, type_named}
use Rattle.asn_needs.specs.Arguments.{argument_wrong}
use Rattle.asn_needs.specs.Faults.{IsSomewhere}
use Rattle.asn_needs.specs.Missing.{name_missing, unsupported}
use Rattle.asn_needs.specs.Sites.{Eventually, Seen, seen, Site, ToDefinition}
use Rattle.asn_names_circles.specs.Circles.{FollowsNoCircle, LeadsToNoCircle}
use Rattle.asn_names_index.specs.Definitions.{Definitions, last_named}
use Rattle.asn_names.specs.Literals.{is_own_literal}
use Rattle.asn_names.specs.Occurrences.{names_of, Reaches}
use Rattle.asn_meaning_unchanged.specs.Unchanged.{is_left, is_unchanged, linking}

-- ---- type references

-- whether the name stands for no type
abbrev pub is_missing : Definitions → List ℕ → Bool
is_missing defs name = is_none (type_named defs name)

-- a type reference that occurs in the definition has no definition of a type (X.680 14.1)
abbrev pub lacks_type : Definitions → ToplevelDefinition → Bool
lacks_type defs d = list_any (is_missing defs) (names_of d)

-- A type stands for each type reference in the definition, and in all that it reaches by them.
pub record HasTypes (defs : Definitions) (d : ToplevelDefinition) : Type 0 where
  pub itself : lacks_type defs d ≡ false
  pub reached : (x : List ℕ) (e : ToplevelDefinition) → Reaches defs d x → see defs x ≡ Some e → lacks_type defs e ≡ false

-- ---- the fault of a definition

-- So it is, from some number of steps on, at one of the places of the definition of the name, or at none, as the truth value tells.
abbrev pub IsTold : Definitions → List ℕ → (Seen → Site → Bool) → Bool → Type 0
IsTold defs name f told = Eventually (λ n. IsSomewhere (seen defs n) (ToDefinition name) f ↔ (told ≡ true))

-- Linking judges a definition that leads to no circle of names; of one that it leaves as it is it asks this of the names alone that the
-- definition follows.
abbrev pub IsJudged : Definitions → List ℕ → ToplevelDefinition → Type 0
IsJudged defs name d = ((is_unchanged d ≡ true) × FollowsNoCircle defs name) ⊎ LeadsToNoCircle defs name

-- a template of a type, and a value that is a literal of its type, where linking leaves that type as it is
abbrev pub stays_as_read : ToplevelDefinition → Bool
stays_as_read (TypeDef d) = is_some d.parameterization
stays_as_read (Value d) = is_own_literal d && is_left (linking d.associated_type)
stays_as_read (Information d) = false

-- Nothing is left to be linked in a definition: linking leaves it as it is, it stays as it is read, or linking made its type, as the
-- truth value tells.
abbrev pub is_settled : ToplevelDefinition → Bool → Bool
is_settled d linked = is_unchanged d || (stays_as_read d || linked)

-- a wrong argument before a missing name, and that before a form that is not linked
abbrev pub first_at_places : Bool → Bool → Bool → Judgement
first_at_places wrong missing unlinked =
    if wrong then Faulty Argument else
    if missing then Faulty MissingDependency else
    if unlinked then Faulty NotYetInplemented else Faultless

-- What is told of a definition that stands for the name: of one that is judged, the first fault that stands at its places.
pub data IsJudgement (defs : Definitions) (name : List ℕ) (d : ToplevelDefinition) (judgement : Judgement) : Type 0 where
  for_places : (wrong missing unlinked : Bool) → IsJudged defs name d → IsTold defs name argument_wrong wrong → IsTold defs name name_missing missing →
      IsTold defs name unsupported unlinked → judgement ≡ first_at_places wrong missing unlinked → IsJudgement defs name d judgement
  for_none : (IsJudged defs name d → ⊥) → judgement ≡ NotJudged → IsJudgement defs name d judgement

-- the fault by that: for a time, a definition that is not judged is not linked; where no fault stands at a place, one that is not settled
-- is not linked yet
abbrev pub fault_by : Judgement → Bool → Option Fault
fault_by NotJudged settled = Some NotYetInplemented
fault_by Faultless settled = if settled then None else Some NotYetInplemented
fault_by (Faulty fault) settled = Some fault

-- The fault of a definition that stands for the name, where linking made its type or did not.
pub record HasFault (defs : Definitions) (name : List ℕ) (d : ToplevelDefinition) (linked : Bool) (fault : Option Fault) : Type 0 where
  pub judgement : Judgement
  pub told : IsJudgement defs name d judgement
  pub so : fault ≡ fault_by judgement (is_settled d linked)

-- A fault stands at a place of the definition that stands for the name, and linking judges it.
pub record IsFaulty (defs : Definitions) (name : List ℕ) : Type 0 where
  pub definition : ToplevelDefinition
  pub stands : last_named defs name ≡ Some definition
  pub fault : Fault
  pub told : IsJudgement defs name definition (Faulty fault)

-- ---- what linking leaves as it is

-- Linking leaves the definition as it is, and each that it reaches.
pub record IsLeft (defs : Definitions) (d : ToplevelDefinition) : Type 0 where
  pub itself : is_unchanged d ≡ true
  pub reached : (x : List ℕ) (e : ToplevelDefinition) → Reaches defs d x → see defs x ≡ Some e → is_unchanged e ≡ true
