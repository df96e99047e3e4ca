-- A choice by which fewer names may stay finds the same where all names that stay may.
use Rattle.std.proofs.Common.{Bool, List, None, Option, Some, [], ap, false, refl, sym, true, ℕ, ◌&&◌, ◌++◌, ◌∙◌, ◌∷◌, ◌≡◌}
use Rattle.std.specs.List.{list_all}
use Rattle.asn_tree.specs.Layers.{ContentLayer}
use Rattle.asn_tree.specs.declared.constraints.ContentConstraint.{ContentConstraint, ContentConstraint-F, out-ContentConstraint, roll-ContentConstraint}
use Rattle.asn_tree_headers.specs.declared.headers.AsnTag.{AsnTag}
use Rattle.asn_tree.specs.declared.constraints.Constraint.{Constraint, Constraint-F, out-Constraint, out-roll-Constraint, roll-Constraint}
use Rattle.asn_tree.specs.declared.constraints.ElementOrSetOperation.{ElementOrSetOperation, ElementOrSetOperation-F}
use Rattle.asn_tree.specs.declared.constraints.SetOperation.{out-SetOperation, out-roll-SetOperation, roll-SetOperation}
use Rattle.asn_tree.specs.declared.constraints.SubtypeElement.{SubtypeElement, SubtypeElement-F}
use Rattle.asn_tree.specs.declared.types.ASN1Type.{ASN1Type}
use Rattle.asn_meaning.specs.Answers.{once}
use Rattle.asn_meaning.specs.Definitions.{Definitions}
use Rattle.asn_meaning.specs.Kinds.{kind_of}
use Rattle.asn_meaning.specs.Layers.{ConstraintLayer, ElementLayer, InnerLayer, ListedLayer, OperationLayer, ReferenceLayer, SetLayer}
use Rattle.asn_meaning.specs.Meaning.{Meaning}
use Rattle.asn_meaning.specs.Members.{element_place}
use Rattle.asn_meaning.specs.Ranges.{integer_named}
use Rattle.asn_meaning.specs.Scopes.{Place, Scope, Empty, Binds, LeavesOpen}
use Rattle.asn_link_instance.specs.Fewer.{AreFewer, with_names}
use Rattle.asn_link_instance.specs.Instance.{Instances, component_instance, constraint_instance, element_instance, inner_instance, listed_instance, of_constraints, operation_instance, part_named, set_instance, stays_at, content_bound, content_instance}
use Rattle.asn_link_instance.specs.Staying.{Names, constraint_stays, constraints_stay, staying}
use Rattle.asn_link_instance.specs.Subjects.{Choices, OnCharacters, OnValues, Subject, traversed, rules_read}
use Rattle.asn_link_instance.proofs.Holding.{Holds, once_holds, result_holds, result_is, then_holds}
use Rattle.asn_link_instance.proofs.StayingNames.{AllOk, ElementLayerOk, ElementOk, ListedOk, SetLayerOk, SetOk, TypeOk, all_first, all_second, firsts, seconds}

-- fewer names: what may not stay does not, and what is told to stay does
fewer_false : (f c r : Bool) → (f ≡ true → c ≡ true) → (c && r) ≡ false → (f && r) ≡ false
fewer_false false c r h e = refl
fewer_false true c r h e = ap (λ z. z && r) (sym (h refl)) ∙ e

fewer_true : (f c r : Bool) → f ≡ true → (c && r) ≡ true → (f && r) ≡ true
fewer_true f true r e g = ap (λ z. z && r) e ∙ g
fewer_true f false r e g = absurd cc

pub stays_more : (C : Choices) (fewer : Names) (down : Bool) (scope : Scope) (x : ReferenceLayer) (o : Option (List ℕ)) → fewer o x.identifier ≡ true → stays_at C down scope x o ≡ true → stays_at (with_names C fewer) down scope x o ≡ true
stays_more C fewer down scope x None e f = fewer_true (fewer None x.identifier) (C.keeps None x.identifier) _ e f
stays_more C fewer down scope x (Some object) e f = fewer_true (fewer (Some object) x.identifier) (C.keeps (Some object) x.identifier) _ e f

pub stays_less : (C : Choices) (fewer : Names) → AreFewer fewer C → (down : Bool) (scope : Scope) (x : ReferenceLayer) (o : Option (List ℕ)) → stays_at C down scope x o ≡ false → stays_at (with_names C fewer) down scope x o ≡ false
stays_less C fewer less down scope x None f = fewer_false (fewer None x.identifier) (C.keeps None x.identifier) _ (less None x.identifier) f
stays_less C fewer less down scope x (Some object) f = fewer_false (fewer (Some object) x.identifier) (C.keeps (Some object) x.identifier) _ (less (Some object) x.identifier) f

-- what is found by one choice is found by the other, where its names may stay
pub record FoundFewer (fewer : Names) (I J : Instances) : Type 0 where
  pub of_type : (down : Bool) (scope : Scope) (ty uy : ASN1Type) → I.of_type down scope ty ≡ Some uy → TypeOk fewer uy → J.of_type down scope ty ≡ Some uy
  pub of_set : (scope : Scope) (s : Subject) (x y : ElementOrSetOperation) → I.of_set scope s x ≡ Some y → SetOk fewer y → J.of_set scope s x ≡ Some y
  pub of_element : (scope : Scope) (s : Subject) (x y : SubtypeElement) → I.of_element scope s x ≡ Some y → ElementOk fewer y → J.of_element scope s x ≡ Some y
  pub of_tag : (scope : Scope) (ty uy : ASN1Type) (tag : Option AsnTag) → I.of_type false scope ty ≡ Some uy → TypeOk fewer uy → I.of_tag scope ty ≡ Some tag → J.of_tag scope ty ≡ Some tag
  -- contents are the same by both
  pub of_contained : (scope : Scope) (ty : ASN1Type) → J.of_contained scope ty ≡ I.of_contained scope ty

module _ (C : Choices) (fewer : Names) (defs : Definitions) (less : AreFewer fewer C) (M : Meaning) (I J : Instances) (f : FoundFewer fewer I J) where
  abbrev D : Choices
  D = with_names C fewer

  abbrev AllAgain : Scope → Place → List Constraint → List Constraint → Type 0
  AllAgain scope p cs ds = AllOk fewer ds → of_constraints D defs M J scope p cs ≡ Some ds

  -- ---- contents

  bound_again : (scope : Scope) (l : ContentLayer) → content_bound D defs M J scope l ≡ content_bound C defs M I scope l
  bound_again scope (ContentConstraint-F.Containing ty) = ap (λ o. once None o (λ uy. Some (ContentConstraint-F.Containing uy))) (f.of_contained scope ty)
  bound_again scope (ContentConstraint-F.EncodedBy rules) = refl
  bound_again scope (ContentConstraint-F.ContainingEncodedBy ty rules) =
      ap (λ o. once None o (λ uy. once None (C.default M scope rules rules_read) (λ r. Some (ContentConstraint-F.ContainingEncodedBy uy r)))) (f.of_contained scope ty)

  content_again : (scope : Scope) (x : ContentConstraint) → content_instance D defs M J scope x ≡ content_instance C defs M I scope x
  content_again Empty x = refl
  content_again (Binds dummy governor argument scope others) x = ap (λ o. once None o (λ l. Some (roll-ContentConstraint l))) (bound_again (Binds dummy governor argument scope others) (out-ContentConstraint x))
  content_again (LeavesOpen dummy governor others) x = ap (λ o. once None o (λ l. Some (roll-ContentConstraint l))) (bound_again (LeavesOpen dummy governor others) (out-ContentConstraint x))

  -- ---- constraints

  constraint_again : (scope : Scope) (s : Subject) (l : ConstraintLayer) → Holds (constraint_instance C defs M I scope s l) (λ ys. AllOk fewer ys → constraint_instance D defs M J scope s l ≡ Some ys)
  constraint_again scope s (Constraint-F.SubtypeConstraint x) = once_holds (I.of_set scope s x.set) _ _ (λ set e ok.
      ap (λ z. once None z (λ set. Some (roll-Constraint (Constraint-F.SubtypeConstraint (record x { set = set })) ∷ []))) (f.of_set scope s x.set set e (set_ok set ok)))
    where
      set_ok : (set : ElementOrSetOperation) → AllOk fewer (roll-Constraint (Constraint-F.SubtypeConstraint (record x { set = set })) ∷ []) → SetOk fewer set
      set_ok set ok m =
          sym (ap (λ l. constraint_stays fewer (staying fewer m) l) (out-roll-Constraint (Constraint-F.SubtypeConstraint (record x { set = set })))) ∙ firsts (λ m. constraint_stays fewer (staying fewer m) (out-Constraint (roll-Constraint (Constraint-F.SubtypeConstraint (record x { set = set }))))) (λ m. true) ok m
  constraint_again scope s (Constraint-F.TableConstraint x) = once_holds (C.table M scope x) _ _ (λ y e ok. ap (λ z. once None z (λ y. Some (roll-Constraint (Constraint-F.TableConstraint y) ∷ []))) e)
  constraint_again scope s (Constraint-F.ContentConstraint x) = once_holds (content_instance C defs M I scope x) _ _ (λ y e ok. ap (λ z. once None z (λ y. Some (roll-Constraint (Constraint-F.ContentConstraint y) ∷ []))) (content_again scope x ∙ e))
  constraint_again scope s (Constraint-F.Parameter ps) = λ ok. refl

  one_again : (scope : Scope) (p : Place) (c : Constraint) → Holds (once None (M.head p) (λ head. constraint_instance C defs M I scope (OnValues head) (out-Constraint c)))
      (λ ys. AllOk fewer ys → once None (M.head p) (λ head. constraint_instance D defs M J scope (OnValues head) (out-Constraint c)) ≡ Some ys)
  one_again scope p c = at (M.head p)
    where
      at : (h : Option Place) → Holds (once None h (λ head. constraint_instance C defs M I scope (OnValues head) (out-Constraint c))) (λ ys. AllOk fewer ys → once None h (λ head. constraint_instance D defs M J scope (OnValues head) (out-Constraint c)) ≡ Some ys)
      at None = tt
      at (Some head) = constraint_again scope (OnValues head) (out-Constraint c)

  all_again : (scope : Scope) (p : Place) (cs : List Constraint) → Holds (of_constraints C defs M I scope p cs) (AllAgain scope p cs)
  all_again scope p [] = λ ok. refl
  all_again scope p (c ∷ cs) =
      then_holds (once None (M.head p) (λ head. constraint_instance C defs M I scope (OnValues head) (out-Constraint c))) _ _ _ (one_again scope p c) (λ ys e u.
      then_holds (of_constraints C defs M I scope p cs) _ (AllAgain scope p cs) _ (all_again scope p cs) (λ zs g v ok.
      ap (λ z. once None z (λ ys. once None (of_constraints D defs M J scope p cs) (λ zs. Some (ys ++ zs)))) (u (all_first fewer ys zs ok)) ∙ ap (λ z. once None z (λ zs. Some (ys ++ zs))) (v (all_second fewer ys zs ok))))

  pub constraints_again : (scope : Scope) (p : Place) (cs ds : List Constraint) → of_constraints C defs M I scope p cs ≡ Some ds → AllOk fewer ds → of_constraints D defs M J scope p cs ≡ Some ds
  constraints_again scope p cs ds e = result_holds (of_constraints C defs M I scope p cs) (AllAgain scope p cs) ds (all_again scope p cs) e

  -- ---- elements and sets

  listed_again : (scope : Scope) (head : Place) (cs : List ListedLayer) → Holds (traversed (listed_instance C defs M I scope head) cs) (λ ds. ListedOk fewer ds → traversed (listed_instance D defs M J scope head) cs ≡ Some ds)
  listed_again scope head [] = λ ok. refl
  listed_again scope head (c ∷ cs) =
      then_holds (listed_instance C defs M I scope head c) _ (λ d. AllOk fewer d.constraints → listed_instance D defs M J scope head c ≡ Some d) _ one (λ d e u.
      then_holds (traversed (listed_instance C defs M I scope head) cs) _ (λ ds. ListedOk fewer ds → traversed (listed_instance D defs M J scope head) cs ≡ Some ds) _ (listed_again scope head cs) (λ ds g v ok.
      ap (λ z. once None z (λ y. once None (traversed (listed_instance D defs M J scope head) cs) (λ ys. Some (y ∷ ys)))) (u (firsts (λ m. constraints_stay fewer (staying fewer m) d.constraints) (λ m. list_all (λ c. constraints_stay fewer (staying fewer m) c.constraints) ds) ok)) ∙ ap (λ z. once None z (λ ys. Some (d ∷ ys))) (v (seconds (λ m. constraints_stay fewer (staying fewer m) d.constraints) (λ m. list_all (λ c. constraints_stay fewer (staying fewer m) c.constraints) ds) ok))))
    where
      one : Holds (listed_instance C defs M I scope head c) (λ d. AllOk fewer d.constraints → listed_instance D defs M J scope head c ≡ Some d)
      one = once_holds (part_named C defs M I head.scope c.identifier (kind_of head)) _ _ (λ p e. once_holds (of_constraints C defs M I scope p c.constraints) _ _ (λ ds g ok.
          ap (λ z. once None z (λ p. once None (of_constraints D defs M J scope p c.constraints) (λ cs. Some (record c { constraints = cs })))) (part_same p e) ∙ ap (λ z. once None z (λ cs. Some (record c { constraints = cs }))) (constraints_again scope p c.constraints ds g ok)))
        where
          part_same : (p : Place) → part_named C defs M I head.scope c.identifier (kind_of head) ≡ Some p → part_named D defs M J head.scope c.identifier (kind_of head) ≡ Some p
          part_same p e = e

  component_again : (scope : Scope) (s : Subject) (cs : List Constraint) → Holds (component_instance C defs M I scope s cs) (λ r. ElementLayerOk fewer r → component_instance D defs M J scope s cs ≡ Some r)
  component_again scope (OnValues head) cs = once_holds (element_place head) _ _ (λ p e. once_holds (of_constraints C defs M I scope p cs) _ _ (λ ds g ok.
      ap (λ z. once None z (λ p. once None (of_constraints D defs M J scope p cs) (λ ds. Some (SubtypeElement-F.SingleTypeConstraint ds)))) e ∙ ap (λ z. once None z (λ ds. Some (SubtypeElement-F.SingleTypeConstraint ds))) (constraints_again scope p cs ds g ok)))
  component_again scope OnCharacters cs = tt

  inner_again : (scope : Scope) (s : Subject) (inner : InnerLayer) → Holds (inner_instance C defs M I scope s inner) (λ r. ElementLayerOk fewer r → inner_instance D defs M J scope s inner ≡ Some r)
  inner_again scope (OnValues head) inner =
      then_holds (traversed (listed_instance C defs M I scope head) inner.constraints) _ (λ ds. ListedOk fewer ds → traversed (listed_instance D defs M J scope head) inner.constraints ≡ Some ds) _ (listed_again scope head inner.constraints) (λ ds e u ok.
      ap (λ z. once None z (λ cs. Some (SubtypeElement-F.MultipleTypeConstraints (record inner { constraints = cs })))) (u ok))
  inner_again scope OnCharacters inner = tt

  pub element_again : (scope : Scope) (s : Subject) (l : ElementLayer) → Holds (element_instance C defs M I scope s l) (λ r. ElementLayerOk fewer r → element_instance D defs M J scope s l ≡ Some r)
  element_again scope s (SubtypeElement-F.SingleValue v b) =
      result_is (element_instance C defs M I scope s (SubtypeElement-F.SingleValue v b)) (λ r. ElementLayerOk fewer r → element_instance D defs M J scope s (SubtypeElement-F.SingleValue v b) ≡ Some r) (λ r e ok. e)
  element_again scope s (SubtypeElement-F.ContainedSubtype ty b) = once_holds (I.of_type true scope ty) _ _ (λ uy e ok. ap (λ z. once None z (λ uy. Some (SubtypeElement-F.ContainedSubtype uy b))) (f.of_type true scope ty uy e ok))
  element_again scope s (SubtypeElement-F.TypeConstraint ty) = once_holds (I.of_type true scope ty) _ _ (λ uy e ok. ap (λ z. once None z (λ uy. Some (SubtypeElement-F.TypeConstraint uy))) (f.of_type true scope ty uy e ok))
  element_again scope s (SubtypeElement-F.ValueRange low high low_open high_open b) =
      result_is (element_instance C defs M I scope s (SubtypeElement-F.ValueRange low high low_open high_open b)) (λ r. ElementLayerOk fewer r → element_instance D defs M J scope s (SubtypeElement-F.ValueRange low high low_open high_open b) ≡ Some r) (λ r e ok. e)
  element_again scope s (SubtypeElement-F.PermittedAlphabet set) = once_holds (I.of_set scope OnCharacters set) _ _ (λ x e ok. ap (λ z. once None z (λ s. Some (SubtypeElement-F.PermittedAlphabet s))) (f.of_set scope OnCharacters set x e ok))
  element_again scope s (SubtypeElement-F.SizeConstraint set) = once_holds (I.of_set scope (OnValues (integer_named None)) set) _ _ (λ x e ok. ap (λ z. once None z (λ s. Some (SubtypeElement-F.SizeConstraint s))) (f.of_set scope (OnValues (integer_named None)) set x e ok))
  element_again scope s (SubtypeElement-F.SingleTypeConstraint cs) = component_again scope s cs
  element_again scope s (SubtypeElement-F.MultipleTypeConstraints inner) = inner_again scope s inner
  element_again scope s (SubtypeElement-F.PatternConstraint x) = λ ok. refl
  element_again scope s (SubtypeElement-F.UserDefinedConstraint x) = λ ok. refl
  element_again scope s (SubtypeElement-F.PropertySettings x) = λ ok. refl

  operation_again : (scope : Scope) (s : Subject) (x : OperationLayer) → Holds (operation_instance C defs M I scope s x) (λ y. ElementOk fewer y.base → SetOk fewer y.operant → operation_instance D defs M J scope s x ≡ Some y)
  operation_again scope s x = once_holds (I.of_element scope s x.base) _ _ (λ b e. once_holds (I.of_set scope s x.operant) _ _ (λ o g ok os.
      ap (λ z. once None z (λ b. once None (J.of_set scope s x.operant) (λ s. Some (record x { base = b; operant = s })))) (f.of_element scope s x.base b e ok)
      ∙ ap (λ z. once None z (λ s. Some (record x { base = b; operant = s }))) (f.of_set scope s x.operant o g os)))

  pub set_again : (scope : Scope) (s : Subject) (l : SetLayer) → Holds (set_instance C defs M I scope s l) (λ r. SetLayerOk fewer r → set_instance D defs M J scope s l ≡ Some r)
  set_again scope s (ElementOrSetOperation-F.Element e) = once_holds (I.of_element scope s e) _ _ (λ d g ok. ap (λ z. once None z (λ f. Some (ElementOrSetOperation-F.Element f))) (f.of_element scope s e d g ok))
  set_again scope s (ElementOrSetOperation-F.SetOperation x) =
      then_holds (operation_instance C defs M I scope s (out-SetOperation x)) _ (λ y. ElementOk fewer y.base → SetOk fewer y.operant → operation_instance D defs M J scope s (out-SetOperation x) ≡ Some y) _ (operation_again scope s (out-SetOperation x)) (λ y e u ok.
      let both : (m : ℕ) → ((staying fewer m).of_element y.base && (staying fewer m).of_set y.operant) ≡ true = λ m. ap (λ z. (staying fewer m).of_element z.base && (staying fewer m).of_set z.operant) (sym (out-roll-SetOperation y)) ∙ ok m in
      ap (λ z. once None z (λ y. Some (ElementOrSetOperation-F.SetOperation (roll-SetOperation y)))) (u (firsts (λ m. (staying fewer m).of_element y.base) (λ m. (staying fewer m).of_set y.operant) both) (seconds (λ m. (staying fewer m).of_element y.base) (λ m. (staying fewer m).of_set y.operant) both)))
