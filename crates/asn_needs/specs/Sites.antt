-- The places of a definition: what stands at each, the scope that it is read in, and of a value the type that governs it.
use Rattle.std.specs.Prelude.{ℕ, ◌+◌, List, [], ◌∷◌, ◌++◌, Bool, Option}
use Rattle.asn_tree_kinds.specs.declared.objects.ObjectSetOver.{ObjectSetOver}
use Rattle.asn_tree.specs.declared.constraints.Constraint.{Constraint}
use Rattle.asn_tree.specs.declared.constraints.ElementOrSetOperation.{ElementOrSetOperation}
use Rattle.asn_tree.specs.declared.constraints.Parameter.{Parameter}
use Rattle.asn_tree.specs.declared.constraints.SubtypeElement.{SubtypeElement}
use Rattle.asn_tree.specs.declared.definitions.ParameterizationArgument.{ParameterizationArgument}
use Rattle.asn_tree.specs.declared.objects.InformationObjectClass.{InformationObjectClass}
use Rattle.asn_tree.specs.declared.objects.InformationObjectClassField.{InformationObjectClassField}
use Rattle.asn_tree.specs.declared.objects.InformationObjectField.{InformationObjectField}
use Rattle.asn_tree.specs.declared.objects.InformationObjectFields.{InformationObjectFields}
use Rattle.asn_tree.specs.declared.types.ASN1Type.{ASN1Type}
use Rattle.asn_tree.specs.declared.values.ASN1Value.{ASN1Value}
use Rattle.asn_meaning.specs.Definitions.{Definitions}
use Rattle.asn_meaning.specs.Judge.{meaning}
use Rattle.asn_meaning.specs.Layers.{ListedLayer}
use Rattle.asn_meaning.specs.Meaning.{Meaning}
use Rattle.asn_meaning.specs.Scopes.{Scope, Place}

-- the definitions, and what is known of them within a number of steps
pub record Seen : Type 0 where
  pub defs : Definitions
  pub steps : ℕ
  pub known : Meaning

abbrev pub seen : Definitions → ℕ → Seen
seen defs n = record { defs = defs; steps = n; known = meaning defs n }

-- What holds from some number of steps on. A name that is never found to lead anywhere is so told from one that is not
-- found yet.
abbrev pub Eventually : (ℕ → Type 0) → Type 0
Eventually P = (n : ℕ) × ((m : ℕ) → P (n + m))

-- Where a type stands: at the head of a definition's type or of a contained subtype; as the own type of a class's field,
-- where a class stands too, in the class or in the field taken by itself; or in another place.
pub data TypePlace : Type 0 where
  AtHead : TypePlace
  OfField : TypePlace
  AtHeadOfField : TypePlace
  InPlace : TypePlace

-- Where a value stands: as such; as an end of a range of values, or of lengths or characters; as a single value of a
-- constraint; or inside another value.
pub data ValuePlace : Type 0 where
  AsSuch : ValuePlace
  AsEnd : ValuePlace
  AsBound : ValuePlace
  AsSingle : ValuePlace
  Inside : ValuePlace

-- What the elements of a constraint are asked of: values, lengths behind SIZE, characters behind FROM.
pub data Asked : Type 0 where
  OfValues : Asked
  OfLengths : Asked
  OfCharacters : Asked

abbrev pub ObjectSet : Type 0
ObjectSet = ObjectSetOver InformationObjectFields

-- What stands at a place. A type that governs is None where the constrained type has no such part, or is not known.
pub data Form : Type 0 where
  -- a type, and the constraints of its place
  AType : TypePlace → ASN1Type → List Constraint → Form
  -- the name behind COMPONENTS OF
  ComponentsOf : List ℕ → Form
  AValue : ValuePlace → ASN1Value → Option Place → Form
  AConstraint : Constraint → Option Place → Form
  ASet : Asked → ElementOrSetOperation → Option Place → Form
  AnElement : Asked → SubtypeElement → Option Place → Form
  -- a component that WITH COMPONENTS lists, with the constrained type
  AListed : ListedLayer → Option Place → Form
  -- an argument list where no template stands, or a second one
  LooseList : Form
  -- an argument for a dummy of a template, whose governor is read in the scope of the template
  AnArgument : Parameter → ParameterizationArgument → Scope → Form
  -- a dummy for which no argument stands
  NoArgument : Form
  -- an argument beyond the parameters, or in a list on no template
  LooseArgument : Parameter → Form
  -- a dummy of a template with its governor
  ADummy : ParameterizationArgument → Form
  -- the name of the class of an object or a set
  ClassName : List ℕ → Form
  ClassField : TypePlace → InformationObjectClassField → Form
  -- an object of a class, where there is one
  AnObject : Option InformationObjectClass → InformationObjectFields → Form
  -- a field of such an object, or of one whose class is not asked
  GivenField : Option InformationObjectClass → InformationObjectField → Form
  LooseField : InformationObjectField → Form
  AnObjectSet : Option InformationObjectClass → ObjectSet → Form
  -- the name of an object or a set
  SetName : List ℕ → Form

-- A place: what stands there; the scope that it is read in; the templates that were entered on the way; whether it stands
-- in a content or table constraint; and the constrained types whose parts WITH COMPONENT and WITH COMPONENTS led to.
pub record Site : Type 0 where
  pub form : Form
  pub scope : Scope
  pub nest : List (List ℕ)
  pub is_opaque : Bool
  pub way : List Place

-- something else at the same place
abbrev pub beside : Site → Form → Site
beside s form = record s { form = form }

-- what each item gives, one behind the other
abbrev pub each_of : {A B : Type 0} → (A → List B) → List A → List B
each_of f [] = []
each_of f (x ∷ xs) = f x ++ each_of f xs

-- ---- what an edge leads to

-- a definition, by its name, or a field of a class, by the class's name and its own
pub data Node : Type 0 where
  ToDefinition : List ℕ → Node
  ToField : List ℕ → List ℕ → Node
