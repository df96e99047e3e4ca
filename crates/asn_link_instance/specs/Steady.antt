-- What stays as it is found where more steps tell more, and where more levels are gone down.
use Rattle.std.specs.Prelude.{ℕ, suc, Bool}
use Rattle.asn_tree.specs.declared.constraints.ElementOrSetOperation.{ElementOrSetOperation}
use Rattle.asn_tree.specs.declared.constraints.SubtypeElement.{SubtypeElement}
use Rattle.asn_tree.specs.declared.types.ASN1Type.{ASN1Type}
use Rattle.asn_tree.specs.declared.values.ASN1Value.{ASN1Value}
use Rattle.asn_meaning.specs.Answers.{Within}
use Rattle.asn_meaning.specs.Definitions.{Definitions}
use Rattle.asn_meaning.specs.Judge.{meaning}
use Rattle.asn_meaning.specs.Meaning.{Meaning}
use Rattle.asn_meaning.specs.Scopes.{Scope, Place}
use Rattle.asn_link_instance.specs.Instance.{Instances}
use Rattle.asn_link_instance.specs.Subjects.{Choices, Subject, TableLayer}

-- what is chosen by what the first tells is chosen, the same, by what the second tells
pub record ChosenAgain (C : Choices) (M N : Meaning) : Type 0 where
  pub value : (scope : Scope) (v : ASN1Value) (p : Place) → Within (C.value M scope v p) (C.value N scope v p)
  pub end : (scope : Scope) (v : ASN1Value) (p : Place) → Within (C.end M scope v p) (C.end N scope v p)
  pub default : (scope : Scope) (v : ASN1Value) (p : Place) → Within (C.default M scope v p) (C.default N scope v p)
  pub table : (scope : Scope) (x : TableLayer) → Within (C.table M scope x) (C.table N scope x)

-- What is chosen within some steps is chosen, the same, within one more.
abbrev pub Steady : Choices → Definitions → Type 0
Steady C defs = (i : ℕ) → ChosenAgain C (meaning defs i) (meaning defs (suc i))

-- what the first finds the second finds, the same
pub record FoundAgain (I J : Instances) : Type 0 where
  pub of_type : (down : Bool) (scope : Scope) (ty : ASN1Type) → Within (I.of_type down scope ty) (J.of_type down scope ty)
  pub of_set : (scope : Scope) (s : Subject) (set : ElementOrSetOperation) → Within (I.of_set scope s set) (J.of_set scope s set)
  pub of_element : (scope : Scope) (s : Subject) (e : SubtypeElement) → Within (I.of_element scope s e) (J.of_element scope s e)
  pub of_tag : (scope : Scope) (ty : ASN1Type) → Within (I.of_tag scope ty) (J.of_tag scope ty)
  pub of_contained : (scope : Scope) (ty : ASN1Type) → Within (I.of_contained scope ty) (J.of_contained scope ty)
