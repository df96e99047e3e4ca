-- Warnings as the relation of needs and faults has them, over the whole notation.
use Rattle.std.specs.Prelude.{◌≡◌, ◌↔◌, ℕ, List, true}
use Rattle.std.specs.List.{Contains}
use Rattle.asn_tree_leaves.specs.declared.errors.GrammarErrorType.TheVariants as grammar
use Rattle.asn_tree_leaves.specs.declared.errors.LinkerErrorType.TheVariants as kind
use Rattle.asn_needs.specs.Faults.{Fault, Cycle, Argument, MissingDependency, NotYetInplemented, SyntaxMismatch, LinkerError, InvalidConstraintsError, IsFaultOn}
use Rattle.asn_names_index.specs.Definitions.{Definitions, is_duplicate}
use Rattle.asn_names.specs.Needed.{AreJudged}
use Rattle.asn_check.specs.Warnings.{IsDue, Linkedness, Warning, refused, warning}

-- the warning that tells a fault
abbrev pub warning_of : List ℕ → Fault → Warning
warning_of name Cycle = warning name kind.Cycle
warning_of name Argument = warning name kind.Argument
warning_of name MissingDependency = warning name kind.MissingDependency
warning_of name NotYetInplemented = refused name grammar.NotYetInplemented
warning_of name SyntaxMismatch = refused name grammar.SyntaxMismatch
warning_of name LinkerError = refused name grammar.LinkerError
warning_of name InvalidConstraintsError = warning name kind.InvalidConstraintsError

-- A warning stands on a name: of the fault of the definition that stands for it, or since several definitions have it.
pub data IsWarned (defs : Definitions) : Warning → Type 0 where
  for_fault : (name : List ℕ) (k : Fault) → IsFaultOn defs name k → IsWarned defs (warning_of name k)
  for_several : (name : List ℕ) → is_duplicate defs name ≡ true → IsWarned defs (warning name kind.Duplicate)

-- Where linking judges all definitions whole, a warning is due exactly where it stands.
abbrev pub DueAreWarned : Type 0
DueAreWarned = (defs : Definitions) (linked : Linkedness) → AreJudged defs → (w : Warning) → IsDue defs linked w ↔ IsWarned defs w

-- The warnings are exactly those that stand, where linking judges all definitions whole.
abbrev pub WarnsOfFaults : Definitions → List Warning → Type 0
WarnsOfFaults defs warnings = AreJudged defs → (w : Warning) → Contains warnings w ↔ IsWarned defs w
