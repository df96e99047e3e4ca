-- Which definitions lead to no circle of names that counts.
use Rattle.std.specs.Prelude.{◌≡◌, ◌↔◌, ◌⊎◌, ℕ, List, [], ◌∷◌, ◌++◌, Bool, false, true, Contains, IsSome, IsTrue, Option, Some, None, filter, is_some, not, if◌then◌else◌}
use Rattle.std.specs.List.{AllZip, list_any}
use Rattle.std.specs.Str.{bytes_eq}
use Rattle.asn_tree.specs.Layers.{TypeLayer}
use Rattle.asn_tree.specs.declared.definitions.ParameterGovernor.{ParameterGovernor}
use Rattle.asn_tree.specs.declared.definitions.ParameterGovernor.TheVariants as governor
use Rattle.asn_tree.specs.declared.definitions.Parameterization.{Parameterization}
use Rattle.asn_tree.specs.declared.definitions.ParameterizationArgument.{ParameterizationArgument}
use Rattle.asn_tree.specs.declared.definitions.ToplevelDefinition.{ToplevelDefinition}
use Rattle.asn_tree.specs.declared.definitions.ToplevelDefinition.TheVariants.{TypeDef, Value, Information}
use Rattle.asn_tree.specs.declared.objects.ASN1Information.{ASN1Information}
use Rattle.asn_tree.specs.declared.objects.ASN1Information.TheVariants.{ObjectClass, ObjectSet, Object}
use Rattle.asn_tree.specs.declared.types.ASN1Type.{ASN1Type-F, out-ASN1Type}
use Rattle.asn_names_index.specs.Definitions.{Definitions, last_named}
use Rattle.asn_meaning.specs.Definitions.{is_class}
use Rattle.asn_names_references.specs.References.{Names, asked_of, entered_of, followed_of, references_of, selected_of}
use Rattle.asn_meaning_unchanged.specs.Unchanged.{is_unchanged}

-- ---- what leads where

-- from x one comes to y, in one step or more
pub data Leads (Step : List ℕ → List ℕ → Type 0) (x : List ℕ) : List ℕ → Type 0 where
  at_once : {y : List ℕ} → Step x y → Leads Step x y
  further : {y z : List ℕ} → Leads Step x y → Step y z → Leads Step x z

-- neither x nor what one comes to from it is such
pub record LeadsToNone (Step : List ℕ → List ℕ → Type 0) (IsSuch : List ℕ → Type 0) (x : List ℕ) : Type 0 where
  pub itself : IsSuch x → ⊥
  pub others : (y : List ℕ) → Leads Step x y → IsSuch y → ⊥

-- what names stand in a definition, by its name
abbrev pub Told : Type 1
Told = List ℕ → ToplevelDefinition → Names → Type 0

-- from x one comes to y at once: y is among these names of the definition that stands for x, and has a definition itself
pub record Goes (Are : Told) (defs : Definitions) (x y : List ℕ) : Type 0 where
  pub definition : ToplevelDefinition
  pub stands : last_named defs x ≡ Some definition
  pub names : Names
  pub are : Are x definition names
  pub among : Contains names y
  pub defined : IsSome (last_named defs y)

-- for each name in its turn, whether it is such
abbrev pub EachTold : (List ℕ → Type 0) → List (List ℕ) → List Bool → Type 0
EachTold IsSuch = AllZip (λ x told. IsTrue told ↔ IsSuch x)

-- x refers to y
abbrev pub Refers : Definitions → List ℕ → List ℕ → Type 0
Refers = Goes (λ x d names. names ≡ references_of d)

-- ---- templates

abbrev pub parameters_of : ToplevelDefinition → Option Parameterization
parameters_of (TypeDef d) = d.parameterization
parameters_of (Value d) = d.parameterization
parameters_of (Information d) = d.parameterization

abbrev pub is_template : Option ToplevelDefinition → Bool
is_template None = false
is_template (Some d) = is_some (parameters_of d)

-- those of the names that stand for templates
abbrev pub templates_among : Definitions → Names → Names
templates_among defs names = filter (λ name. is_template (last_named defs name)) names

-- x refers to y, which is a template
abbrev pub RefersToTemplate : Definitions → List ℕ → List ℕ → Type 0
RefersToTemplate defs = Goes (λ x d names. names ≡ templates_among defs (references_of d)) defs

-- a name, behind that of its object where it has one
abbrev pub path : Option (List ℕ) → List ℕ → Names
path None name = name ∷ []
path (Some object) name = object ∷ name ∷ []

-- the name that a type is, which tells what it is
abbrev pub own_name : TypeLayer → Names
own_name (ASN1Type-F.ElsewhereDeclaredType x) = path x.parent x.identifier
own_name _ = []

-- The name of a class stands for no type: where the type of a class's field is one, it is not entered, but where it is another field.
abbrev pub but_classes : Definitions → ASN1Information → Names → Names → Names
but_classes defs (ObjectClass c) names asked = filter (λ name. not (is_class defs name)) names ++ asked
but_classes defs (ObjectSet s) names asked = names
but_classes defs (Object o) names asked = names

-- The names that whoever looks for what a definition stands for goes on to: the one that its type is, and those that are asked for in
-- it; of a definition of no type every name that is entered.
abbrev pub gone_to : Definitions → ToplevelDefinition → Names
gone_to defs (TypeDef d) = own_name (out-ASN1Type d.ty) ++ asked_of (TypeDef d)
gone_to defs (Value d) = entered_of (Value d)
gone_to defs (Information d) = but_classes defs d.value (entered_of (Information d)) (asked_of (Information d))

-- Such a dummy has no governor: it stands for a type or a class (X.683 8.3).
abbrev pub is_ungoverned : ParameterGovernor → Bool
is_ungoverned governor.None = true
is_ungoverned (governor.TypeOrClass g) = false
is_ungoverned (governor.Class class) = false

abbrev pub is_gone_to : Names → ParameterizationArgument → Bool
is_gone_to names dummy = if is_ungoverned dummy.param_governor then list_any (bytes_eq dummy.dummy_reference) names else false

-- A template asks for a dummy: it goes on to what the dummy stands for.
abbrev pub asks_for : Names → Option Parameterization → Bool
asks_for names None = false
asks_for names (Some p) = list_any (is_gone_to names) p.parameters

abbrev pub is_asking : Definitions → ToplevelDefinition → Bool
is_asking defs d = asks_for (gone_to defs d) (parameters_of d)

-- x stands for a template that asks for a dummy
pub record Asks (defs : Definitions) (x : List ℕ) : Type 0 where
  pub definition : ToplevelDefinition
  pub stands : last_named defs x ≡ Some definition
  pub asking : is_asking defs definition ≡ true

-- Neither x nor a template that it leads to through templates asks for a dummy: each argument that is a type is merely put in.
abbrev pub IsGentle : Definitions → List ℕ → Type 0
IsGentle defs = LeadsToNone (RefersToTemplate defs) (Asks defs)

-- ---- circles

-- x leads on to y: it goes on to it, or y is a template to which it refers
abbrev pub leading : Definitions → ToplevelDefinition → Names
leading defs d = gone_to defs d ++ templates_among defs (references_of d)

abbrev pub LeadsOn : Definitions → List ℕ → List ℕ → Type 0
LeadsOn defs = Goes (λ x d names. names ≡ leading defs d) defs

-- The names by which one may come to a part of what they stand for, and so to any name in it: those of selections, and, where the
-- definition isn't gentle, those that it follows, names in arguments among them.
abbrev pub opening : Bool → ToplevelDefinition → Names
opening is_gentle d = selected_of d ++ (if is_gentle then [] else followed_of d)

-- x and y are in one circle: they are one name, or each leads to the other
abbrev pub AreOneCircle : Definitions → List ℕ → List ℕ → Type 0
AreOneCircle defs x y = (x ≡ y) ⊎ (Leads (Refers defs) x y × Leads (Refers defs) y x)

-- such a name of the definition of x is in one circle with x
pub record LeadsBack (defs : Definitions) (x : List ℕ) (d : ToplevelDefinition) : Type 0 where
  pub is_gentle : Bool
  pub told : IsTrue is_gentle ↔ IsGentle defs x
  pub name : List ℕ
  pub opens : Contains (opening is_gentle d) name
  pub back : AreOneCircle defs x name

-- x is circular: linking changes the definition that stands for it, and x leads on to itself, or leads back by a name by which one may come
-- to any name
pub record IsCircular (defs : Definitions) (x : List ℕ) : Type 0 where
  pub definition : ToplevelDefinition
  pub stands : last_named defs x ≡ Some definition
  pub changed : is_unchanged definition ≡ false
  pub circle : Leads (LeadsOn defs) x x ⊎ LeadsBack defs x definition

-- neither x nor what it leads to is circular
abbrev pub LeadsToNoCircle : Definitions → List ℕ → Type 0
LeadsToNoCircle defs = LeadsToNone (Refers defs) (IsCircular defs)

-- for each name in its turn, whether it leads to no circle
abbrev pub FreeAre : Definitions → List (List ℕ) → List Bool → Type 0
FreeAre defs = EachTold (LeadsToNoCircle defs)

-- ---- what a definition follows that linking leaves as it is

-- No name that the definition follows leads to a circle.
abbrev pub FollowedAreFree : Definitions → ToplevelDefinition → Type 0
FollowedAreFree defs d = (y : List ℕ) → Contains (followed_of d) y → LeadsToNoCircle defs y

-- so it is with the definition that stands for x
abbrev pub FollowsNoCircle : Definitions → List ℕ → Type 0
FollowsNoCircle defs x = (d : ToplevelDefinition) → last_named defs x ≡ Some d → FollowedAreFree defs d

-- for each name in its turn, whether it follows no circle
abbrev pub FollowersAre : Definitions → List (List ℕ) → List Bool → Type 0
FollowersAre defs = EachTold (FollowsNoCircle defs)
