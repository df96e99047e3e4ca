-- What values denote, where more is known.
use Rattle.std.specs.Prelude.{is_some}
use Rattle.std.proofs.Common.{ℕ, List, [], ◌∷◌, map, Option, Some, None, refl, sym, subst, ap}
use Rattle.asn_tree.specs.declared.types.ChoiceOption.{ChoiceOption}
use Rattle.asn_tree.specs.declared.values.ASN1Value.{ASN1Value}
use Rattle.asn_meaning.specs.Answers.{No, Denotation, Denoted, Nothing, Unsure, Refines, Settles, Within}
use Rattle.asn_meaning.specs.Definitions.{Definitions, value_named}
use Rattle.asn_meaning.specs.Kinds.{Kind, StructKind, ListKind, ChoiceKind, kind_of}
use Rattle.asn_meaning.specs.Meaning.{Meaning, Member}
use Rattle.asn_meaning.specs.Members.{member_named}
use Rattle.asn_meaning.specs.Names.{FieldType, Open, Fixed, option_named}
use Rattle.asn_meaning.specs.Braces.{elements_written, fields_written}
use Rattle.asn_meaning.specs.Rows.{row}
use Rattle.asn_meaning.specs.Scopes.{Scope, Bound, bound_to, Place}
use Rattle.asn_meaning.specs.Denotes.{may_stand, is_open, member_denoted, fields_denoted, struct_denoted, struct_row, trees_denoted, list_row, choice_row, parts_row, row_or_parts, written_denoted, shaped, own_name, own_or_defined, Read, argument_of, defined_read, path_value, read_denoted, field_denoted, path_denoted, defined_denoted, name_denoted, reference_denoted, value_denoted, denoted_under, denotes_at}
use Rattle.asn_meaning.specs.Everything.{defined_is_all, name_is_all, reference_is_all, is_all_at}
use Rattle.asn_meaning.specs.ValueTrees.{ValueTree, Struct, Opaque}
use Rattle.asn_meaning.specs.Written.{NamedValues, Written, AllWritten, AlternativeWritten, ItemWritten, NameWritten, NestedWritten, as_written}
use Rattle.asn_meaning.proofs.Answering.{same_settles, once_refines, once_settles, given_refines, given_settles, together_settles, made_settles, provided_settles, if_refines, if_settles}
use Rattle.asn_meaning.proofs.More.{More}

module _ (M N : Meaning) (m : More M N) where
  member_more : (scope : Scope) (s : Option Member) (v : ASN1Value) → Settles (member_denoted M scope s v) (member_denoted N scope s v)
  member_more scope None v = refl
  member_more scope (Some s) v = m.denotes scope v _

  fields_more : (scope : Scope) (ms : List Member) (fs : NamedValues) → Settles (fields_denoted M scope ms fs) (fields_denoted N scope ms fs)
  fields_more scope ms [] = refl
  fields_more scope ms ((name, v) ∷ fs) = together_settles _ _ _ _ _ (member_more scope (member_named ms name) v) (fields_more scope ms fs)

  struct_more : (scope : Scope) (fs : NamedValues) (ms : List Member) → Settles (struct_denoted M scope fs ms) (struct_denoted N scope fs ms)
  struct_more scope fs ms = if_settles (may_stand (map (λ f. f.0) fs) ms) _ _ Nothing Nothing (made_settles Struct _ _ (fields_more scope ms fs)) refl

  struct_row_more : (scope : Scope) (a b : Option (List Member)) → Within a b → (w : Written) → Settles (struct_row M scope a w) (struct_row N scope b w)
  struct_row_more scope a b p w = given_settles Nothing (fields_written w) _ _ (λ fs. once_settles a b _ _ p (struct_more scope fs))

  trees_more : (scope : Scope) (p : Place) (vs : List ASN1Value) → Settles (trees_denoted M scope p vs) (trees_denoted N scope p vs)
  trees_more scope p [] = refl
  trees_more scope p (v ∷ vs) = together_settles _ _ _ _ _ (m.denotes scope v p) (trees_more scope p vs)

  list_row_more : (scope : Scope) (p : Place) (w : Written) → Settles (list_row M scope p w) (list_row N scope p w)
  list_row_more scope p w = given_settles Nothing (elements_written w) _ _ (λ vs. made_settles _ _ _ (trees_more scope p vs))

  choice_row_more : (scope inside : Scope) (options : List ChoiceOption) (w : Written) → Settles (choice_row M scope inside options w) (choice_row N scope inside options w)
  choice_row_more scope inside options (AlternativeWritten name v) = given_settles Nothing (option_named options name) _ _ (λ o. made_settles _ _ _ (m.denotes scope v _))
  choice_row_more scope inside options _ = refl

  parts_row_more : (scope : Scope) (w : Written) (inside : Scope) (k : Kind) → Settles (parts_row M scope w inside k) (parts_row N scope w inside k)
  parts_row_more scope w inside (StructKind x) = struct_row_more scope _ _ (m.members inside x) w
  parts_row_more scope w inside (ListKind ty) = list_row_more scope _ w
  parts_row_more scope w inside (ChoiceKind options) = choice_row_more scope inside options w
  parts_row_more scope w inside _ = tt

  row_or_parts_more : (k : Option (Written → Option ValueTree)) (a b : Denotation ValueTree) (w : Written) → Settles a b → Settles (row_or_parts k a w) (row_or_parts k b w)
  row_or_parts_more (Some f) a b w p = same_settles _
  row_or_parts_more None a b w p = p

  written_more : (scope : Scope) (w : Written) (head : Place) → Settles (written_denoted M scope w head) (written_denoted N scope w head)
  written_more scope w head = row_or_parts_more (row (kind_of head)) _ _ w (parts_row_more scope w head.scope (kind_of head))

  shaped_more : (head : Place) (a b : Denotation ValueTree) → Settles a b → Settles (shaped M head a) (shaped N head b)
  shaped_more head (Denoted t) b p = subst (λ z. Settles (shaped M head (Denoted t)) (shaped N head z)) (sym p) (provided_settles _ _ t (m.fits head t))
  shaped_more head Nothing b p = ap (shaped N head) p
  shaped_more head Unsure b p = tt

  read_more : (r : Read) → Settles (read_denoted M r) (read_denoted N r)
  read_more r = m.denotes r.scope r.value r.place

  field_more : (f : ASN1Value × FieldType) → Settles (field_denoted M f) (field_denoted N f)
  field_more (v, Open) = refl
  field_more (v, Fixed ty) = m.denotes _ v _

  path_more : (defs : Definitions) (scope : Scope) (head : Place) (o name : List ℕ) → Settles (path_denoted defs M scope head o name) (path_denoted defs N scope head o name)
  path_more defs scope head o name = given_settles Unsure (path_value defs scope o name) _ _ (λ f. shaped_more head _ _ (field_more f))

  defined_more : (defs : Definitions) (head : Place) (name : List ℕ) → Settles (defined_denoted defs M head name) (defined_denoted defs N head name)
  defined_more defs head name = given_settles Unsure (value_named defs name) _ _ (λ d. shaped_more head _ _ (read_more (defined_read d)))

  own_or_defined_more : (o : Option ValueTree) (a b : Denotation ValueTree) → Settles a b → Settles (own_or_defined o a) (own_or_defined o b)
  own_or_defined_more (Some t) a b p = refl
  own_or_defined_more None a b p = p

  name_more : (defs : Definitions) (scope : Scope) (head : Place) (name : List ℕ) (b : Option Bound) → Settles (name_denoted defs M scope head name b) (name_denoted defs N scope head name b)
  name_more defs scope head name (Some b) = given_settles Unsure (argument_of scope b) _ _ (λ r. shaped_more head _ _ (read_more r))
  name_more defs scope head name None = own_or_defined_more (own_name head name) _ _ (defined_more defs head name)

  reference_more : (defs : Definitions) (scope : Scope) (head : Place) (o : Option (List ℕ)) (name : List ℕ) → Settles (reference_denoted defs M scope head o name) (reference_denoted defs N scope head o name)
  reference_more defs scope head None name = name_more defs scope head name (bound_to scope name)
  reference_more defs scope head (Some o) name = path_more defs scope head o name

  value_more : (defs : Definitions) (scope : Scope) (head : Place) (w : Written) → Settles (value_denoted defs M scope head w) (value_denoted defs N scope head w)
  value_more defs scope head (NameWritten parent name) = reference_more defs scope head parent name
  value_more defs scope head (ItemWritten name) = same_settles _
  value_more defs scope head (NestedWritten v) = m.denotes scope v head
  value_more defs scope head w = written_more scope w head

  under_more : (defs : Definitions) (scope : Scope) (v : ASN1Value) (head : Place) → Settles (denoted_under defs M scope v head) (denoted_under defs N scope v head)
  under_more defs scope v head = if_settles (is_open head) (Denoted Opaque) (Denoted Opaque) _ _ refl (value_more defs scope head (as_written v))

  pub denotes_at_more : (defs : Definitions) (scope : Scope) (v : ASN1Value) (p : Place) → Settles (denotes_at defs M scope v p) (denotes_at defs N scope v p)
  denotes_at_more defs scope v p = once_settles _ _ _ _ (m.head p) (under_more defs scope v)

  -- ---- ALL

  defined_all_more : (defs : Definitions) (name : List ℕ) (head : Place) → Refines (defined_is_all defs M name head) (defined_is_all defs N name head)
  defined_all_more defs name head = if_refines (is_some (own_name head name)) No No _ _ refl (given_refines No (value_named defs name) _ _ (λ d. m.is_all _ _ _))

  name_all_more : (defs : Definitions) (scope : Scope) (p : Place) (name : List ℕ) (b : Option Bound) → Refines (name_is_all defs M scope p name b) (name_is_all defs N scope p name b)
  name_all_more defs scope p name (Some b) = given_refines No (argument_of scope b) _ _ (λ r. m.is_all r.scope r.value r.place)
  name_all_more defs scope p name None = once_refines _ _ _ _ (m.head p) (defined_all_more defs name)

  reference_all_more : (defs : Definitions) (scope : Scope) (p : Place) (o : Option (List ℕ)) (name : List ℕ) → Refines (reference_is_all defs M scope p o name) (reference_is_all defs N scope p o name)
  reference_all_more defs scope p None name = name_all_more defs scope p name (bound_to scope name)
  reference_all_more defs scope p (Some o) name = given_refines No (path_value defs scope o name) _ _ (λ f. m.is_all _ _ _)

  pub is_all_at_more : (defs : Definitions) (scope : Scope) (p : Place) (w : Written) → Refines (is_all_at defs M scope p w) (is_all_at defs N scope p w)
  is_all_at_more defs scope p AllWritten = refl
  is_all_at_more defs scope p (NameWritten parent name) = reference_all_more defs scope p parent name
  is_all_at_more defs scope p (NestedWritten v) = m.is_all scope v p
  is_all_at_more defs scope p _ = refl
