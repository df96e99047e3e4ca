-- Plain form, where tags differ.
use Rattle.std.specs.Prelude.{is_some, if◌then◌else◌}
use Rattle.std.specs.List.{list_all}
use Rattle.std.specs.Option.{option_map}
use Rattle.std.proofs.Common.{◌≡◌, ◌↔◌, ℕ, zero, suc, Bool, false, ◌&&◌, List, [], ◌∷◌, map, Option, Some, None, refl, sym, subst, ap, ◌∙◌}
use Rattle.asn_tree.specs.Passes.{constraint_parts, element_parts, struct_parts, rewritten_element, rewritten_member, rewritten_option, rewritten_set}
use Rattle.asn_tree.specs.declared.constraints.Constraint.{Constraint, Constraint-F, out-Constraint}
use Rattle.asn_tree.specs.declared.constraints.ElementOrSetOperation.{ElementOrSetOperation}
use Rattle.asn_tree_kinds.specs.declared.constraints.SetOperator.{SetOperator}
use Rattle.asn_tree.specs.declared.constraints.SubtypeElement.{SubtypeElement, SubtypeElement-F, out-SubtypeElement}
use Rattle.asn_tree.specs.declared.types.ASN1Type.{ASN1Type}
use Rattle.asn_tree.specs.declared.types.ChoiceOption.{ChoiceOption, out-ChoiceOption}
use Rattle.asn_tree.specs.declared.types.SequenceOrSetMember.{SequenceOrSetMember, out-SequenceOrSetMember}
use Rattle.asn_tree.specs.declared.values.ASN1Value.{ASN1Value}
use Rattle.asn_tree_notation.specs.Types.{constraints_of}
use Rattle.asn_meaning.specs.Placed.{listed}
use Rattle.asn_meaning.specs.Accepts.{place}
use Rattle.asn_meaning.specs.Answers.{once}
use Rattle.asn_meaning.specs.Braces.{elements_written, fields_written}
use Rattle.asn_meaning.specs.Definitions.{Definitions}
use Rattle.asn_meaning.specs.Everything.{plain_text}
use Rattle.asn_meaning.specs.Judge.{meaning}
use Rattle.asn_meaning.specs.Kinds.{Kind, BitStringKind, ChoiceKind, FieldKind, ListKind, ReferenceKind, StructKind, kind_of, kind_of_type}
use Rattle.asn_meaning.specs.Layers.{ConstraintLayer, ElementLayer, ListedLayer, StructLayer}
use Rattle.asn_meaning.specs.Meaning.{Meaning, Member}
use Rattle.asn_meaning.specs.Members.{member_place}
use Rattle.asn_meaning.specs.Names.{FieldType, Open, Fixed}
use Rattle.asn_meaning.specs.Numbers.{Chain}
use Rattle.asn_meaning.specs.Plain.{IsPlain, Plainness, choice_plain, constraint_plain, constraints_plain, contained_plain, element_plain, end_plain, fields_plain, inner_plain, is_nameless, is_open_field, is_plain_name, list_value_plain, listed_place, member_plain, name_plain, option_plain, parts_of_value_plain, parts_plain, plainness, set_plain, struct_plain, struct_value_plain, type_plain, value_plain, value_plain_at}
use Rattle.asn_meaning.specs.Ranges.{integer_named}
use Rattle.asn_meaning.specs.Scopes.{Scope, Empty, Place}
use Rattle.asn_meaning.specs.Shapes.{option_place}
use Rattle.asn_meaning.specs.Tags.{TagChange, BothAlike, DifferInTags, PlacesAlike, ScopesAlike, tagged, tagged_constraint, tagged_value, tagging}
use Rattle.asn_meaning.specs.Written.{NamedValues, Written, AllWritten, NullWritten, TruthWritten, NumberWritten, RealWritten, TextWritten, BitsWritten, BitNamesWritten, OctetsWritten, ArcsWritten, ItemWritten, NameWritten, BracesWritten, FieldsWritten, ElementsWritten, AlternativeWritten, NestedWritten, as_written}
use Rattle.asn_meaning.proofs.Alike.{AllAlike, kind_alike, once_alike, once_both, once_mapped, scope_alike}
use Rattle.asn_meaning.proofs.AlikeConstraints.{element_alike, listed_kept}
use Rattle.asn_meaning.proofs.AlikeDenotes.{elements_kept, fields_kept, item_in_kept, text_place}
use Rattle.asn_meaning.proofs.AlikeMembers.{AlikeKnown, MembersAlike, OptionLayersAlike, chain_kept, member_place_alike, named_alike, option_alike, option_place_alike}
use Rattle.asn_meaning.proofs.AlikeNames.{FieldTypesAlike, class_field_alike}
use Rattle.asn_meaning.proofs.AlikeRanges.{integer_place}
use Rattle.asn_meaning.proofs.AlikeSteps.{known_alike}
use Rattle.asn_meaning.proofs.Nameless.{nameless_kept}
use Rattle.asn_meaning.proofs.TagLayers.{constraint_out, constraints_kept, each_constraint, element_out, kind_kept, member_out, named_kept, option_out, type_kind_kept, value_written_kept, written_kept}

all_mapped : {A : Type 0} (s : A → A) (p q : A → Bool) → ((x : A) → q (s x) ≡ p x) → (xs : List A) → list_all q (map s xs) ≡ list_all p xs
all_mapped s p q k [] = refl
all_mapped s p q k (x ∷ xs) = ap (λ z. z && list_all q (map s xs)) (k x) ∙ ap (λ z. p x && z) (all_mapped s p q k xs)

open_alike : (o u : Option FieldType) → BothAlike FieldTypesAlike o u → is_open_field u ≡ is_open_field o
open_alike None u e = ap is_open_field e
open_alike (Some Open) u (y, r, e) = ap is_open_field (e ∙ ap Some r)
open_alike (Some (Fixed ty)) u (y, r, e) = ap is_open_field (e ∙ ap Some r.1)

plain_name_kept : (f : TagChange) (k : Kind) → is_plain_name (kind_kept f k) ≡ is_plain_name k
plain_name_kept f (ReferenceKind x) = refl
plain_name_kept f _ = refl

name_plain_kept : (f : TagChange) (parent : Option (List ℕ)) (name : List ℕ) (k : Kind) → name_plain parent name (kind_kept f k) ≡ name_plain parent name k
name_plain_kept f None name k = ap is_some (item_in_kept f name k)
name_plain_kept f (Some parent) name k = refl

empty_place : (f : TagChange) (ty : ASN1Type) → PlacesAlike (place Empty ty) (place Empty (tagged f ty))
empty_place f ty = (f, Empty, refl, refl)

pub record AlikePlain (P Q : Plainness) : Type 0 where
  pub of_type : (f : TagChange) (ty : ASN1Type) → Q.of_type (tagged f ty) ≡ P.of_type ty
  pub of_value : (f : TagChange) (v : ASN1Value) (p q : Place) → PlacesAlike p q → Q.of_value (tagged_value f v) q ≡ P.of_value v p
  pub of_element : (p q : Place) → PlacesAlike p q → (f : TagChange) (e : SubtypeElement) → Q.of_element q (rewritten_element (tagging f) e) ≡ P.of_element p e

abbrev other_kept : TagChange → SetOperator × SubtypeElement → SetOperator × SubtypeElement
other_kept f o = (o.0, rewritten_element (tagging f) o.1)

abbrev other_plain : Plainness → Place → SetOperator × SubtypeElement → Bool
other_plain P p o = P.of_element p o.1

abbrev chain_plain : Plainness → Place → Chain → Bool
chain_plain P p c = P.of_element p c.first && list_all (other_plain P p) c.others

module _ (M N : Meaning) (a : AlikeKnown M N) (P Q : Plainness) (h : AlikePlain P Q) where
  fields_alike : (f : TagChange) (ms ns : List Member) → AllAlike MembersAlike ms ns → (fs : NamedValues) → fields_plain Q ns (map (named_kept f) fs) ≡ fields_plain P ms fs
  fields_alike f ms ns e fs = all_mapped (named_kept f) _ _ (λ x. once_alike MembersAlike false _ _ _ _ (named_alike x.0 ms ns e) (λ m n r. h.of_value f x.1 _ _ (member_place_alike m n r))) fs

  choice_alike : (f : TagChange) (inside outside : Scope) → ScopesAlike inside outside → (g : TagChange) (options : List ChoiceOption) (v : ASN1Value) (w : Written) →
      choice_plain Q outside (map (rewritten_option (tagging g)) options) (tagged_value f v) (written_kept f w) ≡ choice_plain P inside options v w
  choice_alike f inside outside c g options v (AlternativeWritten name u) =
      once_alike (OptionLayersAlike g) false _ _ _ _ (option_alike g options name) (λ o x e. h.of_value f u _ _ (option_place_alike inside outside c g o x e))
  choice_alike f inside outside c g options v _ = nameless_kept f v

  struct_value_alike : (f : TagChange) (x y : Option (List Member)) → BothAlike (AllAlike MembersAlike) x y → (v : ASN1Value) (w : Written) → struct_value_plain Q y (tagged_value f v) (written_kept f w) ≡ struct_value_plain P x v w
  struct_value_alike f x y p v w =
      ap (λ z. once z (fields_written (written_kept f w)) (λ fs. once false y (λ ms. fields_plain Q ms fs))) (nameless_kept f v)
      ∙ ap (λ z. once (is_nameless v) z (λ fs. once false y (λ ms. fields_plain Q ms fs))) (fields_kept f w)
      ∙ once_mapped (map (named_kept f)) (is_nameless v) (fields_written w) _ _ (λ fs. once_alike (AllAlike MembersAlike) false x y _ _ p (λ ms ns e. fields_alike f ms ns e fs))

  list_value_alike : (f : TagChange) (p q : Place) → PlacesAlike p q → (v : ASN1Value) (w : Written) → list_value_plain Q q (tagged_value f v) (written_kept f w) ≡ list_value_plain P p v w
  list_value_alike f p q k v w =
      ap (λ z. once z (elements_written (written_kept f w)) (λ vs. list_all (λ x. Q.of_value x q) vs)) (nameless_kept f v)
      ∙ ap (λ z. once (is_nameless v) z (λ vs. list_all (λ x. Q.of_value x q) vs)) (elements_kept f w)
      ∙ once_mapped (map (tagged_value f)) (is_nameless v) (elements_written w) _ _ (λ vs. all_mapped (tagged_value f) _ _ (λ x. h.of_value f x p q k) vs)

  parts_value_alike : (f : TagChange) (v : ASN1Value) (w : Written) (inside outside : Scope) → ScopesAlike inside outside → (g : TagChange) (k : Kind) →
      parts_of_value_plain N Q (tagged_value f v) (written_kept f w) outside (kind_kept g k) ≡ parts_of_value_plain M P v w inside k
  parts_value_alike f v w inside outside c g (BitStringKind bits) = refl
  parts_value_alike f v w inside outside c g (StructKind x) = struct_value_alike f _ _ (a.members inside outside c g x) v w
  parts_value_alike f v w inside outside c g (ListKind ty) = list_value_alike f _ _ (g, outside, c, refl) v w
  parts_value_alike f v w inside outside c g (ChoiceKind options) = choice_alike f inside outside c g options v w
  parts_value_alike f v w inside outside c g _ = nameless_kept f v

  value_at_alike : (f : TagChange) (v : ASN1Value) (w : Written) (inside outside : Scope) → ScopesAlike inside outside → (g : TagChange) (k : Kind) →
      value_plain_at N Q outside (kind_kept g k) (tagged_value f v) (written_kept f w) ≡ value_plain_at M P inside k v w
  value_at_alike f v (NameWritten parent name) inside outside c g k = name_plain_kept g parent name k
  value_at_alike f v AllWritten inside outside c g k = parts_value_alike f v AllWritten inside outside c g k
  value_at_alike f v NullWritten inside outside c g k = parts_value_alike f v NullWritten inside outside c g k
  value_at_alike f v (TruthWritten x) inside outside c g k = parts_value_alike f v (TruthWritten x) inside outside c g k
  value_at_alike f v (NumberWritten x) inside outside c g k = parts_value_alike f v (NumberWritten x) inside outside c g k
  value_at_alike f v (RealWritten x) inside outside c g k = parts_value_alike f v (RealWritten x) inside outside c g k
  value_at_alike f v (TextWritten x) inside outside c g k = parts_value_alike f v (TextWritten x) inside outside c g k
  value_at_alike f v (BitsWritten x) inside outside c g k = parts_value_alike f v (BitsWritten x) inside outside c g k
  value_at_alike f v (BitNamesWritten x) inside outside c g k = parts_value_alike f v (BitNamesWritten x) inside outside c g k
  value_at_alike f v (OctetsWritten x) inside outside c g k = parts_value_alike f v (OctetsWritten x) inside outside c g k
  value_at_alike f v (ArcsWritten x) inside outside c g k = parts_value_alike f v (ArcsWritten x) inside outside c g k
  value_at_alike f v (ItemWritten x) inside outside c g k = parts_value_alike f v (ItemWritten x) inside outside c g k
  value_at_alike f v (BracesWritten x) inside outside c g k = parts_value_alike f v (BracesWritten x) inside outside c g k
  value_at_alike f v (FieldsWritten x) inside outside c g k = parts_value_alike f v (FieldsWritten x) inside outside c g k
  value_at_alike f v (ElementsWritten x) inside outside c g k = parts_value_alike f v (ElementsWritten x) inside outside c g k
  value_at_alike f v (AlternativeWritten name x) inside outside c g k = parts_value_alike f v (AlternativeWritten name x) inside outside c g k
  value_at_alike f v (NestedWritten x) inside outside c g k = parts_value_alike f v (NestedWritten x) inside outside c g k

  value_plain_alike : (f : TagChange) (v : ASN1Value) (p q : Place) → PlacesAlike p q → value_plain N Q (tagged_value f v) q ≡ value_plain M P v p
  value_plain_alike f v p q k =
      once_alike PlacesAlike false _ _ (λ head. value_plain_at M P head.scope (kind_of head) v (as_written v)) (λ head. value_plain_at N Q head.scope (kind_of head) (tagged_value f v) (as_written (tagged_value f v))) (a.head p q k) (λ x y r.
      ap (value_plain_at N Q y.scope (kind_of y) (tagged_value f v)) (value_written_kept f v)
      ∙ ap (λ z. value_plain_at N Q y.scope z (tagged_value f v) (written_kept f (as_written v))) (kind_alike x y r)
      ∙ value_at_alike f v (as_written v) x.scope y.scope (scope_alike x y r) r.0 (kind_of x))

  chain_alike : (p q : Place) → PlacesAlike p q → (f : TagChange) (c : Chain) → chain_plain Q q (chain_kept f c) ≡ chain_plain P p c
  chain_alike p q k f c =
      ap (λ z. z && list_all (other_plain Q q) (map (other_kept f) c.others)) (h.of_element p q k f c.first)
      ∙ ap (λ z. P.of_element p c.first && z) (all_mapped (other_kept f) (other_plain P p) (other_plain Q q) (λ x. h.of_element p q k f x.1) c.others)

  set_plain_alike : (p q : Place) → PlacesAlike p q → (f : TagChange) (set : ElementOrSetOperation) → set_plain N Q q (rewritten_set (tagging f) set) ≡ set_plain M P p set
  set_plain_alike p q k f set =
      ap (λ (o : Option Chain). once false o (chain_plain Q q)) (a.chain f set)
      ∙ once_mapped (chain_kept f) false (M.chain set) (chain_plain P p) (chain_plain Q q) (chain_alike p q k f)

  constraint_plain_alike : (p q : Place) → PlacesAlike p q → (f : TagChange) (l : ConstraintLayer) → constraint_plain N Q q (constraint_parts (tagging f) l) ≡ constraint_plain M P p l
  constraint_plain_alike p q k f (Constraint-F.SubtypeConstraint s) = set_plain_alike p q k f s.set
  constraint_plain_alike p q k f _ = refl

  constraints_plain_alike : (p q : Place) → PlacesAlike p q → (f : TagChange) (cs : List Constraint) → constraints_plain N Q q (each_constraint f cs) ≡ constraints_plain M P p cs
  constraints_plain_alike p q k f [] = refl
  constraints_plain_alike p q k f (c ∷ cs) =
      once_alike PlacesAlike false _ _ (λ head. list_all (λ d. constraint_plain M P head (out-Constraint d)) (c ∷ cs)) (λ head. list_all (λ d. constraint_plain N Q head (out-Constraint d)) (each_constraint f (c ∷ cs))) (a.head p q k)
      (λ x y r. all_mapped (tagged_constraint f) (λ d. constraint_plain M P x (out-Constraint d)) (λ d. constraint_plain N Q y (out-Constraint d)) (λ d. ap (constraint_plain N Q y) (constraint_out f d) ∙ constraint_plain_alike x y r f (out-Constraint d)) (c ∷ cs))

  contained_alike : (f : TagChange) (ty : ASN1Type) → contained_plain Q (tagged f ty) ≡ contained_plain P ty
  contained_alike f ty =
      ap (λ z. if z then false else Q.of_type (tagged f ty)) (ap is_plain_name (type_kind_kept f ty) ∙ plain_name_kept f (kind_of_type ty))
      ∙ ap (λ z. if is_plain_name (kind_of_type ty) then false else z) (h.of_type f ty)

  listed_alike : (name : List ℕ) (inside outside : Scope) → ScopesAlike inside outside → (g : TagChange) (k : Kind) → BothAlike PlacesAlike (listed_place M name inside k) (listed_place N name outside (kind_kept g k))
  listed_alike name inside outside c g (StructKind x) =
      once_both (AllAlike MembersAlike) PlacesAlike _ _ _ _ (a.members inside outside c g x) (λ ms ns e. once_both MembersAlike PlacesAlike _ _ _ _ (named_alike name ms ns e) (λ m n r. (member_place n, member_place_alike m n r, refl)))
  listed_alike name inside outside c g (ChoiceKind options) = once_both (OptionLayersAlike g) PlacesAlike _ _ _ _ (option_alike g options name) (λ o u e. (option_place outside u, option_place_alike inside outside c g o u e, refl))
  listed_alike name inside outside c g _ = refl

  inner_plain_alike : (p q : Place) → PlacesAlike p q → (f : TagChange) (c : ListedLayer) → inner_plain N Q q (listed_kept f c) ≡ inner_plain M P p c
  inner_plain_alike p q k f c =
      once_alike PlacesAlike false _ _ (λ x. constraints_plain M P x c.constraints) (λ x. constraints_plain N Q x (each_constraint f c.constraints))
      (subst (λ z. BothAlike PlacesAlike (listed_place M c.identifier p.scope (kind_of p)) (listed_place N c.identifier q.scope z)) (sym (kind_alike p q k)) (listed_alike c.identifier p.scope q.scope (scope_alike p q k) k.0 (kind_of p)))
      (λ x y r. constraints_plain_alike x y r f c.constraints)

  ends_alike : (p q : Place) → PlacesAlike p q → (f : TagChange) (o : Option ASN1Value) → end_plain Q q (option_map (tagged_value f) o) ≡ end_plain P p o
  ends_alike p q k f None = refl
  ends_alike p q k f (Some v) = h.of_value f v p q k

  both_ends : (p q : Place) → PlacesAlike p q → (f : TagChange) (low high : Option ASN1Value) → (end_plain Q q (option_map (tagged_value f) low) && end_plain Q q (option_map (tagged_value f) high)) ≡ (end_plain P p low && end_plain P p high)
  both_ends p q k f low high = ap (λ z. z && end_plain Q q (option_map (tagged_value f) high)) (ends_alike p q k f low) ∙ ap (λ z. end_plain P p low && z) (ends_alike p q k f high)

  element_plain_alike : (p q : Place) → PlacesAlike p q → (f : TagChange) (l : ElementLayer) → element_plain N Q q (element_parts (tagging f) l) ≡ element_plain M P p l
  element_plain_alike p q k f (SubtypeElement-F.SingleValue v e) = h.of_value f v p q k
  element_plain_alike p q k f (SubtypeElement-F.ContainedSubtype ty e) = contained_alike f ty
  element_plain_alike p q k f (SubtypeElement-F.ValueRange None None low_open high_open e) = refl
  element_plain_alike p q k f (SubtypeElement-F.ValueRange None (Some v) low_open high_open e) = both_ends p q k f None (Some v)
  element_plain_alike p q k f (SubtypeElement-F.ValueRange (Some u) None low_open high_open e) = both_ends p q k f (Some u) None
  element_plain_alike p q k f (SubtypeElement-F.ValueRange (Some u) (Some v) low_open high_open e) = both_ends p q k f (Some u) (Some v)
  element_plain_alike p q k f (SubtypeElement-F.PermittedAlphabet set) = set_plain_alike plain_text plain_text text_place f set
  element_plain_alike p q k f (SubtypeElement-F.SizeConstraint set) = set_plain_alike (integer_named None) (integer_named None) (integer_place None) f set
  element_plain_alike p q k f (SubtypeElement-F.TypeConstraint ty) = contained_alike f ty
  element_plain_alike p q k f (SubtypeElement-F.SingleTypeConstraint cs) = once_alike PlacesAlike false _ _ (λ x. constraints_plain M P x cs) (λ x. constraints_plain N Q x (each_constraint f cs)) (element_alike p q k) (λ x y r. constraints_plain_alike x y r f cs)
  element_plain_alike p q k f (SubtypeElement-F.MultipleTypeConstraints inner) = all_mapped (listed_kept f) (inner_plain M P p) (inner_plain N Q q) (inner_plain_alike p q k f) inner.constraints
  element_plain_alike p q k f (SubtypeElement-F.PatternConstraint x) = refl
  element_plain_alike p q k f (SubtypeElement-F.UserDefinedConstraint x) = refl
  element_plain_alike p q k f (SubtypeElement-F.PropertySettings x) = refl

  with_constraints : (f : TagChange) (ty : ASN1Type) (cs : List Constraint) → (Q.of_type (tagged f ty) && constraints_plain N Q (place Empty (tagged f ty)) (each_constraint f cs)) ≡ (P.of_type ty && constraints_plain M P (place Empty ty) cs)
  with_constraints f ty cs =
      ap (λ z. z && constraints_plain N Q (place Empty (tagged f ty)) (each_constraint f cs)) (h.of_type f ty)
      ∙ ap (λ z. P.of_type ty && z) (constraints_plain_alike _ _ (empty_place f ty) f cs)

  member_plain_alike : (f : TagChange) (m : SequenceOrSetMember) → member_plain N Q (out-SequenceOrSetMember (rewritten_member (tagging f) m)) ≡ member_plain M P (out-SequenceOrSetMember m)
  member_plain_alike f m = ap (member_plain N Q) (member_out f m) ∙ with_constraints f (out-SequenceOrSetMember m).ty (out-SequenceOrSetMember m).constraints

  option_plain_alike : (f : TagChange) (o : ChoiceOption) → option_plain N Q (out-ChoiceOption (rewritten_option (tagging f) o)) ≡ option_plain M P (out-ChoiceOption o)
  option_plain_alike f o = ap (option_plain N Q) (option_out f o) ∙ with_constraints f (out-ChoiceOption o).ty (out-ChoiceOption o).constraints

  struct_plain_alike : (f : TagChange) (x : StructLayer) → struct_plain N Q (struct_parts (tagging f) x) ≡ struct_plain M P x
  struct_plain_alike f x = go x.components_of
    where
      go : (names : List (List ℕ)) → struct_plain N Q (struct_parts (tagging f) (record x { components_of = names })) ≡ struct_plain M P (record x { components_of = names })
      go [] = all_mapped (rewritten_member (tagging f)) (λ m. member_plain M P (out-SequenceOrSetMember m)) (λ m. member_plain N Q (out-SequenceOrSetMember m)) (member_plain_alike f) x.members
      go (name ∷ others) = refl

  module _ (defs others : Definitions) (seen : DifferInTags defs others) where
    parts_plain_alike : (f : TagChange) (k : Kind) → parts_plain others N Q (kind_kept f k) ≡ parts_plain defs M P k
    parts_plain_alike f (StructKind x) = struct_plain_alike f x
    parts_plain_alike f (ListKind ty) = h.of_type f ty
    parts_plain_alike f (ChoiceKind options) = all_mapped (rewritten_option (tagging f)) (λ o. option_plain M P (out-ChoiceOption o)) (λ o. option_plain N Q (out-ChoiceOption o)) (option_plain_alike f) options
    parts_plain_alike f (FieldKind x) = open_alike _ _ (class_field_alike defs others seen Empty Empty refl f x)
    parts_plain_alike f _ = refl

    type_plain_alike : (f : TagChange) (ty : ASN1Type) → type_plain others N Q (tagged f ty) ≡ type_plain defs M P ty
    type_plain_alike f ty =
        ap (λ z. parts_plain others N Q z && constraints_plain N Q (place Empty (tagged f ty)) (listed (constraints_of (tagged f ty)))) (type_kind_kept f ty)
        ∙ ap (λ z. z && constraints_plain N Q (place Empty (tagged f ty)) (listed (constraints_of (tagged f ty)))) (parts_plain_alike f (kind_of_type ty))
        ∙ ap (λ z. parts_plain defs M P (kind_of_type ty) && constraints_plain N Q (place Empty (tagged f ty)) z) (constraints_kept f ty)
        ∙ ap (λ z. parts_plain defs M P (kind_of_type ty) && z) (constraints_plain_alike _ _ (empty_place f ty) f (listed (constraints_of ty)))

module _ (defs others : Definitions) (seen : DifferInTags defs others) where
  pub plain_alike : (n : ℕ) → AlikePlain (plainness defs n) (plainness others n)
  unfolding plainness
  plain_alike zero = record { of_type = λ f ty. refl; of_value = λ f v p q k. refl; of_element = λ p q k f e. refl }
  plain_alike (suc n) =
      let a = known_alike defs others seen n in
      let h = plain_alike n in
      record {
        of_type = type_plain_alike (meaning defs n) (meaning others n) a (plainness defs n) (plainness others n) h defs others seen;
        of_value = value_plain_alike (meaning defs n) (meaning others n) a (plainness defs n) (plainness others n) h;
        of_element = λ p q k f e. ap (element_plain (meaning others n) (plainness others n) q) (element_out f e) ∙ element_plain_alike (meaning defs n) (meaning others n) a (plainness defs n) (plainness others n) h p q k f (out-SubtypeElement e);
      }

  pub plain_kept : (f : TagChange) (ty : ASN1Type) → IsPlain defs ty ↔ IsPlain others (tagged f ty)
  plain_kept f ty = (λ p. (p.0, (plain_alike p.0).of_type f ty ∙ p.1), λ p. (p.0, sym ((plain_alike p.0).of_type f ty) ∙ p.1))
