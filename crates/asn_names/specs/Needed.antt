-- Names and faults as they stand in the relation of needs, where definitions have basic forms.
use Rattle.std.specs.Prelude.{◌≡◌, ℕ, List, false, true, None, Some}
use Rattle.asn_tree.specs.declared.definitions.ToplevelDefinition.{ToplevelDefinition}
use Rattle.asn_meaning.specs.Scopes.{Empty}
use Rattle.asn_needs.specs.Basic.{AreBasic}
use Rattle.asn_needs.specs.Faults.{Fault, Argument, MissingDependency, NotYetInplemented, has_reversed_range}
use Rattle.asn_needs.specs.Needs.{IsCyclic}
use Rattle.asn_needs.specs.Occurrences.{Occurrence, NeedsType}
use Rattle.asn_needs.specs.Sites.{Eventually, seen, ToDefinition}
use Rattle.asn_names.specs.declared.faults.Fault.{Fault as Warned}
use Rattle.asn_names.specs.declared.faults.Fault.TheVariants as warned
use Rattle.asn_names.specs.Definitions.{Definitions, last_named}
use Rattle.asn_meaning_unchanged.specs.Unchanged.{is_unchanged}

-- the name of a type, where no list stands behind it and no dummy is known
abbrev pub type_occurrence : List ℕ → Occurrence
type_occurrence name = record { need = NeedsType; name = name; has_list = false; scope = Empty; governing = None }

-- the fault that linking warns of
abbrev pub stands_as : Warned → Fault
stands_as warned.Argument = Argument
stands_as warned.MissingDependency = MissingDependency
stands_as warned.NotYetInplemented = NotYetInplemented

-- ---- what linking does not warn of yet

-- The definition of the name does not need itself.
abbrev pub IsAcyclic : Definitions → List ℕ → Type 0
IsAcyclic defs name = Eventually (λ n. IsCyclic (seen defs n) (ToDefinition name) → ⊥)

-- No range of the definition of the name has its ends reversed.
abbrev pub IsOrdered : Definitions → List ℕ → Type 0
IsOrdered defs name = Eventually (λ n. has_reversed_range (seen defs n) (ToDefinition name) ≡ false)

-- Linking judges these definitions whole: they have basic forms, it leaves each as it is, none needs itself, and no range is
-- reversed.
pub record AreJudged (defs : Definitions) : Type 0 where
  pub basic : AreBasic defs
  pub unchanged : (name : List ℕ) (d : ToplevelDefinition) → last_named defs name ≡ Some d → is_unchanged d ≡ true
  pub acyclic : (name : List ℕ) (d : ToplevelDefinition) → last_named defs name ≡ Some d → IsAcyclic defs name
  pub ordered : (name : List ℕ) (d : ToplevelDefinition) → last_named defs name ≡ Some d → IsOrdered defs name
