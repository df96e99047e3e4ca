-- Definitions whose types are instances.
use Rattle.std.specs.Prelude.{◌≡◌, ◌⊎◌, ℕ, ◌+◌, List, [], true, false, Option, Some, None}
use Rattle.asn_tree.specs.declared.types.ASN1Type.{ASN1Type}
use Rattle.asn_meaning.specs.Answers.{once}
use Rattle.asn_meaning.specs.Definitions.{Definitions, type_named}
use Rattle.asn_meaning.specs.Layers.{ClassFieldLayer}
use Rattle.asn_meaning.specs.Names.{Open, class_field_type, field_target}
use Rattle.asn_meaning.specs.Names as names
use Rattle.asn_meaning.specs.Scopes.{Empty, Target, bare}
use Rattle.asn_link_instance.specs.Heads.{Before}
use Rattle.asn_link_instance.specs.Instance.{instance}
use Rattle.asn_link_instance.specs.Subjects.{Choices}

-- what a name with no argument list behind it stands for; a template stands for nothing then
abbrev pub plain_target : Definitions → List ℕ → Option Target
plain_target defs name = once None (type_named defs name) (λ d. names.instance Empty d d.parameterization [])

module _ (C : Choices) (defs others : Definitions) (j : ℕ) where
  -- nothing on both sides, or a type and its instance, found within fewer than so many steps, by levels of its own
  abbrev pub LinkedTarget : Option Target → Option Target → Type 0
  LinkedTarget None y = y ≡ None
  LinkedTarget (Some x) y = (ty uy : ASN1Type) × (x ≡ bare Empty ty) × (y ≡ Some (bare Empty uy)) × ((n i : ℕ) × Before C defs j (n + i) × ((instance C defs n i).of_type false Empty ty ≡ Some uy))

  -- Of the names that may stay each type definition without parameters is the instance of the one of its name, and so is
  -- each type that an object gives; an open type of a class is open still.
  pub record LinkedBy : Type 0 where
    pub types : (name : List ℕ) → C.keeps None name ≡ true → LinkedTarget (plain_target defs name) (plain_target others name)
    pub fields : (object field : List ℕ) → C.keeps (Some object) field ≡ true → LinkedTarget (field_target defs Empty object field) (field_target others Empty object field)
    pub opens : (x : ClassFieldLayer) → C.keeps None x.class ≡ true → class_field_type defs Empty x ≡ Some Open → class_field_type others Empty x ≡ Some Open

  -- the same definitions, or linked ones
  abbrev pub SameOrLinked : Type 0
  SameOrLinked = (others ≡ defs) ⊎ LinkedBy
