-- The fault of a definition: the first of seven that stands in it.
use Rattle.std.specs.Prelude.{◌≡◌, ℕ, ◌<◌, List, [], ◌∷◌, Bool, true, false, is_some, is_none, ◌&&◌, if◌then◌else◌}
use Rattle.std.specs.List.{Contains}
use Rattle.asn_tree.specs.declared.definitions.ToplevelDefinition.{ToplevelDefinition}
use Rattle.asn_tree.specs.declared.definitions.ToplevelDefinition.TheVariants.{TypeDef, Value, Information}
use Rattle.asn_meaning.specs.Accepts.{place}
use Rattle.asn_meaning.specs.Answers.{once}
use Rattle.asn_meaning.specs.Definitions.{Definitions, last_named}
use Rattle.asn_meaning.specs.Kinds.{kind_of_type}
use Rattle.asn_meaning.specs.Scopes.{Empty}
use Rattle.asn_needs.specs.Arguments.{argument_wrong}
use Rattle.asn_needs.specs.Judged.{is_reversed, syntax_mismatched, untreed}
use Rattle.asn_needs.specs.Missing.{name_missing, unsupported}
use Rattle.asn_needs.specs.Needs.{IsCyclic, Needs}
use Rattle.asn_needs.specs.Occurrences.{parameters_of}
use Rattle.asn_needs.specs.PartsOfTypes.{instance_at}
use Rattle.asn_needs.specs.Sites.{Eventually, Seen, seen, Site, Form, AType, ComponentsOf, AValue, AConstraint, ASet, AnElement, AListed, LooseList, AnArgument, NoArgument, LooseArgument, ADummy, ClassName, ClassField, AnObject, GivenField, LooseField, AnObjectSet, SetName, Node, ToDefinition, ToField}
use Rattle.asn_needs.specs.Stands.{IsPlaceOf}

-- What may be wrong with a definition, in the order in which it is judged.
pub data Fault : Type 0 where
  Cycle : Fault
  Argument : Fault
  MissingDependency : Fault
  NotYetInplemented : Fault
  SyntaxMismatch : Fault
  LinkerError : Fault
  InvalidConstraintsError : Fault

-- its place in the order
abbrev pub rank : Fault → ℕ
rank Cycle = 1
rank Argument = 2
rank MissingDependency = 3
rank NotYetInplemented = 4
rank SyntaxMismatch = 5
rank LinkerError = 6
rank InvalidConstraintsError = 7

-- ---- cycles

-- the template that a type instantiates; contents and tables instantiate none
abbrev pub template_at : Seen → Site → Form → List (List ℕ)
template_at S s (AType at ty behind) =
    if s.is_opaque then [] else once [] (instance_at S.defs s.scope (kind_of_type ty)) (λ i. i.template.name ∷ [])
template_at S s (ComponentsOf name) = []
template_at S s (AValue at v p) = []
template_at S s (AConstraint c p) = []
template_at S s (ASet asked set p) = []
template_at S s (AnElement asked e p) = []
template_at S s (AListed c p) = []
template_at S s LooseList = []
template_at S s (AnArgument p dummy inner) = []
template_at S s NoArgument = []
template_at S s (LooseArgument p) = []
template_at S s (ADummy dummy) = []
template_at S s (ClassName name) = []
template_at S s (ClassField at f) = []
template_at S s (AnObject c fields) = []
template_at S s (GivenField c f) = []
template_at S s (LooseField f) = []
template_at S s (AnObjectSet c set) = []
template_at S s (SetName name) = []

-- The definition needs itself, or a template that it instantiates does, inside components too.
pub data HasCycle (S : Seen) (x : Node) : Type 0 where
  its_own : IsCyclic S x → HasCycle S x
  of_template : {s : Site} {t : List ℕ} → IsPlaceOf S x s → Contains (template_at S s s.form) t → IsCyclic S (ToDefinition t) → HasCycle S x

-- ---- what stands in it

-- It is so at one of its places.
pub record IsSomewhere (S : Seen) (x : Node) (f : Seen → Site → Bool) : Type 0 where
  pub at : Site
  pub stands : IsPlaceOf S x at
  pub holds : f S at ≡ true

abbrev pub is_template : Definitions → Node → Bool
is_template defs (ToDefinition name) = once false (last_named defs name) (λ d. is_some (parameters_of d))
is_template defs (ToField class name) = false

abbrev pub reversed_in : Seen → ToplevelDefinition → Bool
reversed_in S (TypeDef d) = is_none d.parameterization && is_reversed S (place Empty d.ty)
reversed_in S (Value d) = false
reversed_in S (Information d) = false

abbrev pub has_reversed_range : Seen → Node → Bool
has_reversed_range S (ToDefinition name) = once false (last_named S.defs name) (reversed_in S)
has_reversed_range S (ToField class name) = false

-- Which faults stand in a definition or class's field, whatever else does. A template by itself is judged for the first four.
pub data Stands (S : Seen) (x : Node) : Fault → Type 0 where
  a_cycle : HasCycle S x → Stands S x Cycle
  a_wrong_argument : IsSomewhere S x argument_wrong → Stands S x Argument
  a_missing_name : IsSomewhere S x name_missing → Stands S x MissingDependency
  a_form_not_linked : IsSomewhere S x unsupported → Stands S x NotYetInplemented
  a_syntax_not_followed : is_template S.defs x ≡ false → IsSomewhere S x syntax_mismatched → Stands S x SyntaxMismatch
  a_value_without_tree : is_template S.defs x ≡ false → IsSomewhere S x untreed → Stands S x LinkerError
  a_reversed_range : has_reversed_range S x ≡ true → Stands S x InvalidConstraintsError

-- ---- the first of them

-- Values are judged only where nothing is wrong with what they are read by: the fifth, sixth and seventh fault only where none
-- of the first six stands in what is needed.
abbrev pub IsJudged : Seen → Node → Fault → Type 0
IsJudged S x k = 4 < rank k → (y : Node) → Needs S x y → (j : Fault) → rank j < 7 → Stands S y j → ⊥

-- The fault of a definition or class's field: the first, in their order, that stands in it or, under its arguments, in a
-- template that it instantiates, at any depth of the nest.
pub record IsFault (S : Seen) (x : Node) (k : Fault) : Type 0 where
  pub stands : Stands S x k
  pub is_first : (j : Fault) → rank j < rank k → Stands S x j → ⊥
  pub judged : IsJudged S x k

-- the same from some number of steps on
abbrev pub FaultOf : Definitions → Node → Fault → Type 0
FaultOf defs x k = Eventually (λ n. IsFault (seen defs n) x k)

-- A fault is warned on a name where it is the fault of the definition that stands for the name.
pub record IsFaultOn (defs : Definitions) (name : List ℕ) (k : Fault) : Type 0 where
  pub defined : is_some (last_named defs name) ≡ true
  pub fault : FaultOf defs (ToDefinition name) k
