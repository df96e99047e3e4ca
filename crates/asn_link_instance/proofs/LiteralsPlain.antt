-- Literals and the names of items are plain.
use Rattle.std.proofs.Common.{Bool, List, None, Option, Some, ◌||◌, ap, false, inl, inr, refl, subst, sym, true, ℕ, ◌∙◌, ◌≡◌, ◌⊎◌}
use Rattle.std.specs.List.{list_all}
use Rattle.std.specs.Prelude.{is_some}
use Rattle.asn_tree.specs.Folds.{Algebra, constant, value_is, value_read}
use Rattle.asn_tree.specs.declared.types.ChoiceOption.{ChoiceOption}
use Rattle.asn_tree.specs.declared.types.ASN1Type.TheVariants as type_of_kind
use Rattle.asn_tree.specs.declared.values.ASN1Value.{ASN1Value, ASN1Value-F, out-ASN1Value}
use Rattle.asn_tree.specs.declared.values.ASN1Value.TheVariants as value
use Rattle.asn_meaning.specs.Answers.{Yes, once}
use Rattle.asn_meaning.specs.Braces.{elements_written, fields_written}
use Rattle.asn_meaning.specs.Definitions.{Definitions}
use Rattle.asn_meaning.specs.Denotes.{item_in}
use Rattle.asn_meaning.specs.Judge.{meaning}
use Rattle.asn_meaning.specs.Kinds.{BitStringKind, ChoiceKind, Kind, ListKind, ObjectIdentifierKind, StructKind, kind_at, kind_of}
use Rattle.asn_meaning.specs.Layers.{ValueLayer}
use Rattle.asn_meaning.specs.Meaning.{Meaning}
use Rattle.asn_meaning.specs.Plain.{Plainness, choice_plain, fields_plain, is_nameless, linked_nameless, parts_of_value_plain, plainness, value_nameless, value_plain_at}
use Rattle.asn_meaning.specs.Scopes.{Place, Scope}
use Rattle.asn_meaning.specs.ValueTrees.{ValueTree}
use Rattle.asn_meaning.specs.Written.{AllWritten, ArcsWritten, BitNamesWritten, BitsWritten, NameWritten, NullWritten, NumberWritten, OctetsWritten, RealWritten, TextWritten, TruthWritten, Written, as_written, written_at}
use Rattle.asn_link_instance.specs.Literals.{is_literal, is_literal_under, is_own_arcs, is_own_head, literals, single_written, value_written}
use Rattle.asn_link_instance.specs.Plain.{Eventually, PutOn, StandsAsHead, WritesPlain}
use Rattle.asn_link_instance.specs.Subjects.{OnCharacters, OnValues, Subject, ends_read, values_read}
use Rattle.asn_link_instance.proofs.Falling.{step_heads}
use Rattle.asn_link_instance.proofs.Eventually.{always, later}
use Rattle.asn_link_instance.proofs.Forms.{Blind, alike_blind}
use Rattle.asn_link_instance.proofs.Holding.{result_holds}
use Rattle.asn_link_instance.proofs.Literals.{Chosen, Means, all_or_is, chosen, or_is, under_blind}

-- ---- literals hold no name

abbrev naming : Algebra Bool
naming = record (constant true) { at_value = value_nameless; at_linked = linked_nameless }

layer_nameless : (l : ValueLayer) → is_literal (written_at l) ≡ true → value_nameless (value_read naming l) ≡ true
layer_nameless ASN1Value-F.All e = refl
layer_nameless ASN1Value-F.ASN1Value::Null e = refl
layer_nameless (ASN1Value-F.ASN1Value::Boolean b) e = refl
layer_nameless (ASN1Value-F.ASN1Value::Integer i) e = refl
layer_nameless (ASN1Value-F.ASN1Value::Real x) e = refl
layer_nameless (ASN1Value-F.String s) e = refl
layer_nameless (ASN1Value-F.ASN1Value::BitString bits) e = refl
layer_nameless (ASN1Value-F.BitStringNamedBits names) e = refl
layer_nameless (ASN1Value-F.ASN1Value::OctetString octets) e = refl
layer_nameless (ASN1Value-F.ASN1Value::Time s) e = refl
layer_nameless (ASN1Value-F.LinkedIntValue kind i) e = refl
layer_nameless (ASN1Value-F.LinkedCharStringValue kind s) e = refl
layer_nameless _ e = absurd cc

nameless : (v : ASN1Value) → is_literal (as_written v) ≡ true → is_nameless v ≡ true
unfolding is_nameless
nameless v e = value_is naming v ∙ layer_nameless (out-ASN1Value v) e

-- nor do the arcs of an object identifier hold one that is followed
arcs_nameless : (kind : Kind) (l : ValueLayer) → is_own_arcs kind (written_at l) ≡ true → value_nameless (value_read naming l) ≡ true
arcs_nameless ObjectIdentifierKind (ASN1Value-F.ASN1Value::ObjectIdentifier x) e = refl
arcs_nameless ObjectIdentifierKind _ e = absurd cc
arcs_nameless _ l e = absurd cc

identifier_nameless : (kind : Kind) (v : ASN1Value) → is_own_arcs kind (as_written v) ≡ true → is_nameless v ≡ true
unfolding is_nameless
identifier_nameless kind v e = value_is naming v ∙ arcs_nameless kind (out-ASN1Value v) e

identifier_plain : (M : Meaning) (P : Plainness) (inside : Scope) (kind : Kind) (v : ASN1Value) (u : Written) → is_own_arcs kind u ≡ true → value_plain_at M P inside kind v u ≡ is_nameless v
identifier_plain M P inside ObjectIdentifierKind v (ArcsWritten arcs) e = refl
identifier_plain M P inside _ v u e = absurd cc

-- a value without such parts
record NoParts (u : Written) : Type 0 where
  fields : fields_written u ≡ None
  elements : elements_written u ≡ None
  choice : (P : Plainness) (inside : Scope) (os : List ChoiceOption) (v : ASN1Value) → choice_plain P inside os v u ≡ is_nameless v
  at : (M : Meaning) (P : Plainness) (inside : Scope) (kind : Kind) (v : ASN1Value) → value_plain_at M P inside kind v u ≡ parts_of_value_plain M P v u inside kind

no_parts : (u : Written) → is_literal u ≡ true → NoParts u
no_parts AllWritten e = record { fields = refl; elements = refl; choice = λ P i os v. refl; at = λ M P i kind v. refl }
no_parts NullWritten e = record { fields = refl; elements = refl; choice = λ P i os v. refl; at = λ M P i kind v. refl }
no_parts (TruthWritten b) e = record { fields = refl; elements = refl; choice = λ P i os v. refl; at = λ M P i kind v. refl }
no_parts (NumberWritten n) e = record { fields = refl; elements = refl; choice = λ P i os v. refl; at = λ M P i kind v. refl }
no_parts (RealWritten x) e = record { fields = refl; elements = refl; choice = λ P i os v. refl; at = λ M P i kind v. refl }
no_parts (TextWritten s) e = record { fields = refl; elements = refl; choice = λ P i os v. refl; at = λ M P i kind v. refl }
no_parts (BitsWritten bits) e = record { fields = refl; elements = refl; choice = λ P i os v. refl; at = λ M P i kind v. refl }
no_parts (BitNamesWritten names) e = record { fields = refl; elements = refl; choice = λ P i os v. refl; at = λ M P i kind v. refl }
no_parts (OctetsWritten octets) e = record { fields = refl; elements = refl; choice = λ P i os v. refl; at = λ M P i kind v. refl }
no_parts _ e = absurd cc

parts_literal : (M : Meaning) (P : Plainness) (v : ASN1Value) (u : Written) → NoParts u → is_nameless v ≡ true → (inside : Scope) (kind : Kind) → parts_of_value_plain M P v u inside kind ≡ true
parts_literal M P v u k e inside (BitStringKind bits) = refl
parts_literal M P v u k e inside (StructKind x) = ap (λ z. once (is_nameless v) z (λ fs. once false (M.members inside x) (λ ms. fields_plain P ms fs))) k.fields ∙ e
parts_literal M P v u k e inside (ListKind ty) = ap (λ z. once (is_nameless v) z (λ vs. list_all (λ x. P.of_value x (record { scope = inside; ty = ty })) vs)) k.elements ∙ e
parts_literal M P v u k e inside (ChoiceKind os) = k.choice P inside os v ∙ e
parts_literal M P v u k e inside _ = e

-- ---- what is plain under a head

module _ (others : Definitions) where
  abbrev ValuePlain : ASN1Value → Place → Type 0
  ValuePlain w q = Eventually (λ m. (plainness others m).of_value w q ≡ true)

  stands_known : (q : Place) → StandsAsHead others q → Eventually (λ m. (meaning others m).head q ≡ Some q)
  unfolding meaning
  stands_known q stands = later {P = λ m. Unit {0}} (λ m u. step_heads others (meaning others m) q stands) (always (λ m. tt))

  under_head : (w : ASN1Value) (q : Place) → StandsAsHead others q → ((M : Meaning) (P : Plainness) → value_plain_at M P q.scope (kind_of q) w (as_written w) ≡ true) → ValuePlain w q
  unfolding plainness
  under_head w q stands f =
      later (λ m e. ap (λ z. once false z (λ head. value_plain_at (meaning others m) (plainness others m) head.scope (kind_of head) w (as_written w))) e ∙ f (meaning others m) (plainness others m)) (stands_known q stands)

  literal_plain : (w : ASN1Value) (q : Place) → StandsAsHead others q → is_literal_under (kind_of q) (as_written w) ≡ true → ValuePlain w q
  literal_plain w q stands e = at (or_is (is_literal (as_written w)) (is_own_arcs (kind_of q) (as_written w)) e)
    where
      at : (is_literal (as_written w) ≡ true) ⊎ (is_own_arcs (kind_of q) (as_written w) ≡ true) → ValuePlain w q
      at (inl is) =
          let k = no_parts (as_written w) is in
          under_head w q stands (λ M P. k.at M P q.scope (kind_of q) w ∙ parts_literal M P w (as_written w) k (nameless w is) q.scope (kind_of q))
      at (inr is) = under_head w q stands (λ M P. identifier_plain M P q.scope (kind_of q) w (as_written w) is ∙ identifier_nameless (kind_of q) w is)

  item_plain : (w : ASN1Value) (q : Place) (name : List ℕ) (t : ValueTree) → StandsAsHead others q → as_written w ≡ NameWritten None name → item_in name (kind_of q) ≡ Some t → ValuePlain w q
  item_plain w q name t stands e f = under_head w q stands (λ M P. ap (value_plain_at M P q.scope (kind_of q) w) e ∙ ap is_some f)

-- ---- what is chosen

-- a literal, or the name of an item
abbrev WhatIs : Kind → ASN1Value → Type 0
WhatIs kind w = (is_literal_under kind (as_written w) ≡ true) ⊎ ((name : List ℕ) × (t : ValueTree) × (as_written w ≡ NameWritten None name) × (item_in name kind ≡ Some t))

means_is : (kind : Kind) (t : ValueTree) (w : ASN1Value) → Means kind t w → WhatIs kind w
means_is kind t w (inl k) = inl k.is
means_is kind t w (inr k) = inr (k.name, t, k.is, k.item)

what_is : (M : Meaning) (scope : Scope) (v : ASN1Value) (p : Place) (w : ASN1Value) → value_written M scope v p ≡ Some w → WhatIs (kind_of p) w
what_is M scope v p w e = at (result_holds (value_written M scope v p) (λ w. (is_own_head (kind_of p) ≡ true) × Chosen scope (M.is_all scope v p) (M.denotes scope v p) (kind_of p) v w) w (chosen M scope v p) e).1
  where
    at : Chosen scope (M.is_all scope v p) (M.denotes scope v p) (kind_of p) v w → WhatIs (kind_of p) w
    at (inl (is, same)) = inl (ap (λ z. is_literal_under (kind_of p) (as_written z)) same ∙ is)
    at (inr (inl (same, (t, k, unbound)))) = subst (λ z. WhatIs (kind_of p) z) (sym same) (inr (k.name, t, k.is, k.item))
    at (inr (inr (t, a, d, k))) = means_is (kind_of p) t w k

all_literal : (kind : Kind) (w : ASN1Value) → w ≡ value.All → is_literal_under kind (as_written w) ≡ true
all_literal kind w e = ap (λ z. is_literal_under kind (as_written z)) e ∙ ap (λ l. is_literal_under kind (written_at l)) value.outs-All

only_literal : (a c : Bool) → c ≡ false → (a || c) ≡ true → a ≡ true
only_literal true c f e = refl
only_literal false c f e = sym f ∙ e

item_blind : (name : List ℕ) → Blind (item_in name)
item_blind name = record { structs = λ x y. refl; lists = λ x y. refl; choices = λ x y. refl; fields = λ x y. refl }

no_item : {A : Type 0} (t : A) → None ≡ Some t → ⊥
no_item t e = cc

module _ (keeps : Option (List ℕ) → List ℕ → Bool) (defs others : Definitions) (j : ℕ) where
  -- an item of the head is one of the instance's
  item_put : (s : Subject) (q : Place) (name : List ℕ) → PutOn (literals keeps) defs others j s q → item_in name (kind_of q) ≡ item_in name (kind_of (values_read s))
  item_put (OnValues p) q name a = alike_blind (literals keeps) defs others (item_in name) (item_blind name) j p q a
  item_put OnCharacters q name e = ap (λ z. item_in name (kind_of z)) e

  literal_put : (s : Subject) (q : Place) (w : Written) → PutOn (literals keeps) defs others j s q → is_literal_under (kind_of q) w ≡ is_literal_under (kind_of (values_read s)) w
  literal_put (OnValues p) q w a = alike_blind (literals keeps) defs others (λ k. is_literal_under k w) (under_blind w) j p q a
  literal_put OnCharacters q w e = ap (λ z. is_literal_under (kind_of z) w) e

  single_plain : (i : ℕ) (scope : Scope) (v w : ASN1Value) (s : Subject) (q : Place) → single_written (meaning defs i) scope v (values_read s) ≡ Some w → PutOn (literals keeps) defs others j s q → StandsAsHead others q → ValuePlain others w q
  single_plain i scope v w s q e put stands = at (all_or_is keeps defs others j ((meaning defs i).is_all scope v (values_read s)) (value_written (meaning defs i) scope v (values_read s)) w e)
    where
      written_plain : WhatIs (kind_of (values_read s)) w → ValuePlain others w q
      written_plain (inl is) = literal_plain others w q stands (literal_put s q (as_written w) put ∙ is)
      written_plain (inr (name, t, is, item)) = item_plain others w q name t stands is (item_put s q name put ∙ item)

      at : (((meaning defs i).is_all scope v (values_read s) ≡ Yes) × (w ≡ value.All)) ⊎ (value_written (meaning defs i) scope v (values_read s) ≡ Some w) → ValuePlain others w q
      at (inl (sure, all)) = literal_plain others w q stands (all_literal (kind_of q) w all)
      at (inr u) = written_plain (what_is (meaning defs i) scope v (values_read s) w u)

  -- the end of a range is read under a type without items
  no_items : (s : Subject) (name : List ℕ) → item_in name (kind_of (ends_read s)) ≡ None
  no_items (OnValues p) name = ap (λ l. item_in name (kind_at l)) (type_of_kind.outs-Integer _)
  no_items OnCharacters name = ap (λ l. item_in name (kind_at l)) (type_of_kind.outs-CharacterString _)

  -- nor under one of object identifiers
  no_arcs : (s : Subject) (w : Written) → is_own_arcs (kind_of (ends_read s)) w ≡ false
  no_arcs (OnValues p) w = ap (λ l. is_own_arcs (kind_at l) w) (type_of_kind.outs-Integer _)
  no_arcs OnCharacters w = ap (λ l. is_own_arcs (kind_at l) w) (type_of_kind.outs-CharacterString _)

  end_literal : (s : Subject) (w : Written) (kind : Kind) → is_literal_under (kind_of (ends_read s)) w ≡ true → is_literal_under kind w ≡ true
  end_literal s w kind e = ap (λ b. b || is_own_arcs kind w) (only_literal (is_literal w) (is_own_arcs (kind_of (ends_read s)) w) (no_arcs s w) e)

  end_plain : (i : ℕ) (scope : Scope) (v w : ASN1Value) (s : Subject) (q : Place) → value_written (meaning defs i) scope v (ends_read s) ≡ Some w → StandsAsHead others q → ValuePlain others w q
  end_plain i scope v w s q e stands = at (what_is (meaning defs i) scope v (ends_read s) w e)
    where
      at : WhatIs (kind_of (ends_read s)) w → ValuePlain others w q
      at (inl is) = literal_plain others w q stands (end_literal s (as_written w) (kind_of q) is)
      at (inr (name, t, is, item)) = absurd (no_item t (sym (no_items s name) ∙ item))

pub literals_plain : (keeps : Option (List ℕ) → List ℕ → Bool) (defs others : Definitions) (j : ℕ) → WritesPlain (literals keeps) defs others j
literals_plain keeps defs others j = record {
  value = λ i scope v w s q before e put stands. single_plain keeps defs others j i scope v w s q e put stands;
  end = λ i scope v w s q before e put stands. end_plain keeps defs others j i scope v w s q e stands;
}
