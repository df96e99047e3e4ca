-- The warnings of a linked answer.
use Rattle.std.specs.Prelude.{◌≡◌, ◌↔◌, ◌⊎◌, ℕ, List, [], ◌∷◌, ◌++◌, Option, Some, None, Bool, true, if◌then◌else◌}
use Rattle.std.specs.Cmp.Lexicographic.{slice_cmp}
use Rattle.std.specs.List.{AllPairs, Contains}
use Rattle.std.specs.Ordering.{nat_cmp}
use Rattle.std.specs.declared.cmp.Ordering.TheVariants.{Less}
use Rattle.asn_tree.specs.declared.definitions.ToplevelDefinition.{ToplevelDefinition}
use Rattle.asn_tree_leaves.specs.declared.errors.GrammarErrorType.{GrammarErrorType}
use Rattle.asn_tree_leaves.specs.declared.errors.GrammarErrorType.TheVariants as grammar
use Rattle.asn_tree_leaves.specs.declared.errors.LinkerError.{LinkerError}
use Rattle.asn_tree_leaves.specs.declared.errors.LinkerErrorType.{LinkerErrorType}
use Rattle.asn_tree_leaves.specs.declared.errors.LinkerErrorType.TheVariants as kind
use Rattle.asn_names.specs.declared.faults.Fault.{Fault}
use Rattle.asn_names.specs.declared.faults.Fault.TheVariants.{Argument, MissingDependency, NotYetInplemented}
use Rattle.asn_names_index.specs.Definitions.{Definitions, is_duplicate, last_named}
use Rattle.asn_names.specs.Faults.{HasFault}

-- what a warning says, its words aside
pub record Warning : Type 0 where
  pub name : Option (List ℕ)
  pub kind : LinkerErrorType
  pub grammar : Option GrammarErrorType

abbrev pub said_by : LinkerError → Warning
said_by w = record { name = w.pdu; kind = w.kind; grammar = w.grammar }

abbrev pub warning : List ℕ → LinkerErrorType → Warning
warning name k = record { name = Some name; kind = k; grammar = None }

-- a warning of a refusal of this kind
abbrev pub refused : List ℕ → GrammarErrorType → Warning
refused name k = record { name = Some name; kind = kind.Unknown; grammar = Some k }

-- the warning that tells a fault of the definition that stands for the name
abbrev pub warning_for : List ℕ → Fault → Warning
warning_for name Argument = warning name kind.Argument
warning_for name MissingDependency = warning name kind.MissingDependency
warning_for name NotYetInplemented = refused name grammar.NotYetInplemented

-- ---- which warnings are due

-- of each name, whether linking made the type of its definition
abbrev pub Linkedness : Type 0
Linkedness = List ℕ → Bool

-- A warning is due of the fault that stands in the definition that stands for a name, and of Duplicate where several
-- definitions have the name. No other is.
pub data IsDue (defs : Definitions) (linked : Linkedness) : Warning → Type 0 where
  of_its_fault : (name : List ℕ) (d : ToplevelDefinition) (f : Fault) → last_named defs name ≡ Some d → HasFault defs name d (linked name) (Some f) → IsDue defs linked (warning_for name f)
  of_several : (name : List ℕ) → is_duplicate defs name ≡ true → IsDue defs linked (warning name kind.Duplicate)

-- the first name is below the second in byte order
abbrev pub IsBelow : Option (List ℕ) → Option (List ℕ) → Type 0
IsBelow (Some x) (Some y) = slice_cmp nat_cmp x y ≡ Less
IsBelow _ _ = ⊥

-- by byte order of names, and on one name every fault before Duplicate
abbrev pub Precedes : Warning → Warning → Type 0
Precedes v w = IsBelow v.name w.name ⊎ ((v.name ≡ w.name) × (v.kind ≡ kind.Duplicate → ⊥) × (w.kind ≡ kind.Duplicate))

-- The warnings over definitions: exactly those that are due, each once, in order.
pub record AreWarnings (defs : Definitions) (linked : Linkedness) (warnings : List Warning) : Type 0 where
  pub exact : (w : Warning) → Contains warnings w ↔ IsDue defs linked w
  pub ordered : AllPairs Precedes warnings

-- ---- the same, name by name

-- of the fault of the definition that stands for the name, where there is one
abbrev pub of_fault : List ℕ → Option Fault → List Warning
of_fault name None = []
of_fault name (Some f) = warning_for name f ∷ []

abbrev pub of_duplicate : List ℕ → Bool → List Warning
of_duplicate name several = if several then warning name kind.Duplicate ∷ [] else []

-- the fault of a definition of the name, where there is one
abbrev pub IsFaultOf : Definitions → List ℕ → Bool → Option ToplevelDefinition → Option Fault → Type 0
IsFaultOf defs name linked None fault = fault ≡ None
IsFaultOf defs name linked (Some d) fault = HasFault defs name d linked fault

-- All warnings on a name: the fault of the definition that stands for it, then that others of the name stand before it.
pub record AreWarningsOn (defs : Definitions) (linked : Linkedness) (name : List ℕ) (warnings : List Warning) : Type 0 where
  pub fault : Option Fault
  pub found : IsFaultOf defs name (linked name) (last_named defs name) fault
  pub told : warnings ≡ of_fault name fault ++ of_duplicate name (is_duplicate defs name)

-- all warnings, name by name
pub data AreWarningsOf (defs : Definitions) (linked : Linkedness) : List (List ℕ) → List Warning → Type 0 where
  no_names : AreWarningsOf defs linked [] []
  on_each : {name : List ℕ} {names : List (List ℕ)} {here later : List Warning} → AreWarningsOn defs linked name here → AreWarningsOf defs linked names later →
      AreWarningsOf defs linked (name ∷ names) (here ++ later)
