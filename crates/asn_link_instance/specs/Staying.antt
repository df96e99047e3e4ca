-- The names that stay in a type: whether each of them may, outside contents and tables.
use Rattle.std.specs.Prelude.{◌≡◌, ℕ, zero, suc, Bool, true, ◌&&◌, List, Option, None}
use Rattle.std.specs.List.{list_all}
use Rattle.asn_tree.specs.declared.constraints.Constraint.{Constraint, Constraint-F, out-Constraint}
use Rattle.asn_tree.specs.declared.constraints.ElementOrSetOperation.{ElementOrSetOperation, ElementOrSetOperation-F, out-ElementOrSetOperation}
use Rattle.asn_tree.specs.declared.constraints.SetOperation.{out-SetOperation}
use Rattle.asn_tree.specs.declared.constraints.SubtypeElement.{SubtypeElement, SubtypeElement-F, out-SubtypeElement}
use Rattle.asn_tree.specs.declared.types.ASN1Type.{ASN1Type, out-ASN1Type}
use Rattle.asn_tree.specs.declared.types.ChoiceOption.{out-ChoiceOption}
use Rattle.asn_tree.specs.declared.types.SequenceOrSetMember.{out-SequenceOrSetMember}
use Rattle.asn_tree_notation.specs.Types.{constraints_at}
use Rattle.asn_meaning.specs.Kinds.{Kind, ChoiceKind, FieldKind, ListKind, ReferenceKind, StructKind, kind_at}
use Rattle.asn_meaning.specs.Layers.{ConstraintLayer, ElementLayer, MemberLayer, OperationLayer, OptionLayer, SetLayer, TypeLayer}
use Rattle.asn_meaning.specs.Placed.{listed}

-- whether a name may stay, behind the name of an object or alone
abbrev pub Names : Type 0
Names = Option (List ℕ) → List ℕ → Bool

-- whether all names may stay that stand within a number of levels
pub record Staying : Type 0 where
  pub of_type : ASN1Type → Bool
  pub of_set : ElementOrSetOperation → Bool
  pub of_element : SubtypeElement → Bool

module _ (keeps : Names) (S : Staying) where
  abbrev pub constraint_stays : ConstraintLayer → Bool
  constraint_stays (Constraint-F.SubtypeConstraint x) = S.of_set x.set
  constraint_stays (Constraint-F.TableConstraint x) = true
  constraint_stays (Constraint-F.Parameter arguments) = true
  constraint_stays (Constraint-F.ContentConstraint x) = true

  abbrev pub constraints_stay : List Constraint → Bool
  constraints_stay cs = list_all (λ c. constraint_stays (out-Constraint c)) cs

  abbrev pub element_stays : ElementLayer → Bool
  element_stays (SubtypeElement-F.ContainedSubtype ty extensible) = S.of_type ty
  element_stays (SubtypeElement-F.TypeConstraint ty) = S.of_type ty
  element_stays (SubtypeElement-F.PermittedAlphabet set) = S.of_set set
  element_stays (SubtypeElement-F.SizeConstraint set) = S.of_set set
  element_stays (SubtypeElement-F.SingleTypeConstraint cs) = constraints_stay cs
  element_stays (SubtypeElement-F.MultipleTypeConstraints inner) = list_all (λ c. constraints_stay c.constraints) inner.constraints
  element_stays _ = true

  abbrev pub operation_stays : OperationLayer → Bool
  operation_stays x = S.of_element x.base && S.of_set x.operant

  abbrev pub set_stays : SetLayer → Bool
  set_stays (ElementOrSetOperation-F.Element e) = S.of_element e
  set_stays (ElementOrSetOperation-F.SetOperation x) = operation_stays (out-SetOperation x)

  abbrev pub member_stays : MemberLayer → Bool
  member_stays m = S.of_type m.ty && constraints_stay m.constraints

  abbrev pub option_stays : OptionLayer → Bool
  option_stays o = S.of_type o.ty && constraints_stay o.constraints

  -- a plain name, an object's field, and the class of an open type
  abbrev pub kind_stays : Kind → Bool
  kind_stays (ReferenceKind x) = keeps x.parent x.identifier
  kind_stays (FieldKind x) = keeps None x.class
  kind_stays (StructKind x) = list_all (λ m. member_stays (out-SequenceOrSetMember m)) x.members
  kind_stays (ListKind ty) = S.of_type ty
  kind_stays (ChoiceKind options) = list_all (λ o. option_stays (out-ChoiceOption o)) options
  kind_stays _ = true

  abbrev pub layer_stays : TypeLayer → Bool
  layer_stays l = kind_stays (kind_at l) && constraints_stay (listed (constraints_at l))

unfoldable pub staying : Names → ℕ → Staying
staying keeps zero = record { of_type = λ ty. true; of_set = λ set. true; of_element = λ e. true }
staying keeps (suc m) =
    record {
      of_type = λ ty. layer_stays keeps (staying keeps m) (out-ASN1Type ty);
      of_set = λ set. set_stays keeps (staying keeps m) (out-ElementOrSetOperation set);
      of_element = λ e. element_stays keeps (staying keeps m) (out-SubtypeElement e);
    }

-- at every depth
abbrev pub NamesStay : Names → ASN1Type → Type 0
NamesStay keeps ty = (m : ℕ) → (staying keeps m).of_type ty ≡ true
