-- Literals keep what values mean.
use Rattle.std.proofs.Common.{Bool, List, [], ◌∷◌, map, None, Option, Some, ap, arith, false, inl, inr, refl, subst, suc, sym, true, zero, ℕ, ℤ, ◌&&◌, ◌+◌, ◌||◌, ◌∙◌, ◌≡◌, ◌⊎◌}
use Rattle.std.specs.List.{find}
use Rattle.std.specs.Prelude.{encode_utf8_all, if◌then◌else◌, is_none, is_some}
use Rattle.std.specs.Str.{bytes_eq, chars}
use Rattle.std.proofs.lemmas.Slice.Eq.{bytes_eq-Decides}
use Rattle.asn_tree_kinds.specs.declared.types.Enumeral.{Enumeral}
use Rattle.asn_tree.specs.declared.types.ChoiceOption.{ChoiceOption}
use Rattle.asn_tree.specs.declared.values.ASN1Value.{ASN1Value}
use Rattle.asn_meaning.specs.Answers.{Answer, Denotation, Denoted, No, Nothing, Refines, Settles, Unknown, Unsure, Yes, made_of, once}
use Rattle.asn_meaning.specs.Braces.{elements_written, fields_written}
use Rattle.asn_meaning.specs.Definitions.{Definitions, value_named}
use Rattle.asn_meaning.specs.Denotes.{choice_row, defined_denoted, defined_read, denoted_under, is_open_kind, item_in, name_denoted, own_in, own_or_defined, parts_row, row_or_parts, struct_denoted, trees_denoted, value_denoted, written_denoted}
use Rattle.asn_meaning.specs.Everything.{defined_is_all, is_all_at, name_is_all, read_is_all}
use Rattle.asn_meaning.specs.Judge.{meaning, nothing_known, step}
use Rattle.asn_meaning.specs.Kinds.{BitStringKind, BooleanKind, CharacterStringKind, ChoiceKind, EnumeratedKind, FieldKind, IntegerKind, Kind, ListKind, NullKind, ObjectIdentifierKind, OctetStringKind, RealKind, ReferenceKind, SelectionKind, StructKind, TimeKind, kind_of}
use Rattle.asn_meaning.specs.Meaning.{Meaning}
use Rattle.asn_meaning.specs.Members.{item_named}
use Rattle.asn_meaning.specs.Names.{IsHead, head_from, lead_at}
use Rattle.asn_meaning.specs.Rows.{arc_tree, row}
use Rattle.asn_meaning.specs.Scopes.{Bound, Empty, Place, Scope, bound_to}
use Rattle.asn_meaning.specs.ValueTrees.{Arc, Bits, Characters, Elements, ItemNumber, NameArc, NullValue, NumberArc, ObjectIdentifierArcs, Octets, Opaque, RealNumber, TruthValue, ValueTree, WholeNumber, same_number}
use Rattle.asn_meaning.specs.Written.{AllWritten, ArcsWritten, BitNamesWritten, BitsWritten, NameWritten, NullWritten, NumberWritten, OctetsWritten, RealWritten, TextWritten, TruthWritten, Written, as_written, written_at}
use Rattle.asn_meaning.proofs.Steps.{more_known}
use Rattle.asn_link_instance.specs.Heads.{Alike, Before, KeepsValues, KeepsValuesBack, ValuesKept}
use Rattle.asn_link_instance.specs.Literals.{all_or, is_item_name, is_literal, is_literal_under, is_own_arcs, is_own_head, item_numbered, literals, single_written, value_written, written_by_tree}
use Rattle.asn_link_instance.specs.Ways.{Back, Forth, steps_back}
use Rattle.asn_link_instance.proofs.Forms.{Blind, alike_blind}
use Rattle.asn_link_instance.proofs.Holding.{Holds, once_holds, result_holds, some_same, then_holds, weaker}
use Rattle.asn_link_instance.proofs.Kept.{steps_enough, steps_more}
use Rattle.std.proofs.lemmas.Int.{ints}
use Rattle.asn_link_instance.specs.Literals.{text_tree, written, written_arc}
use Rattle.asn_tree.specs.declared.values.ASN1Value.TheVariants as value

-- ---- literals

-- whether it is ALL
unfoldable pub answer_all : Written → Answer
answer_all AllWritten = Yes
answer_all _ = No

record Literal (w : Written) : Type 0 where
  denoted : (defs : Definitions) (M : Meaning) (s : Scope) (h : Place) → value_denoted defs M s h w ≡ written_denoted M s w h
  fields : fields_written w ≡ None
  elements : elements_written w ≡ None
  choice : (M : Meaning) (s inside : Scope) (os : List ChoiceOption) → choice_row M s inside os w ≡ Nothing
  all : (defs : Definitions) (M : Meaning) (s : Scope) (p : Place) → is_all_at defs M s p w ≡ answer_all w

literal : (w : Written) → is_literal w ≡ true → Literal w
unfolding answer_all
literal AllWritten e = record { denoted = λ defs M s h. refl; fields = refl; elements = refl; choice = λ M s i os. refl; all = λ defs M s p. refl }
literal NullWritten e = record { denoted = λ defs M s h. refl; fields = refl; elements = refl; choice = λ M s i os. refl; all = λ defs M s p. refl }
literal (TruthWritten b) e = record { denoted = λ defs M s h. refl; fields = refl; elements = refl; choice = λ M s i os. refl; all = λ defs M s p. refl }
literal (NumberWritten i) e = record { denoted = λ defs M s h. refl; fields = refl; elements = refl; choice = λ M s i os. refl; all = λ defs M s p. refl }
literal (RealWritten x) e = record { denoted = λ defs M s h. refl; fields = refl; elements = refl; choice = λ M s i os. refl; all = λ defs M s p. refl }
literal (TextWritten x) e = record { denoted = λ defs M s h. refl; fields = refl; elements = refl; choice = λ M s i os. refl; all = λ defs M s p. refl }
literal (BitsWritten x) e = record { denoted = λ defs M s h. refl; fields = refl; elements = refl; choice = λ M s i os. refl; all = λ defs M s p. refl }
literal (BitNamesWritten x) e = record { denoted = λ defs M s h. refl; fields = refl; elements = refl; choice = λ M s i os. refl; all = λ defs M s p. refl }
literal (OctetsWritten x) e = record { denoted = λ defs M s h. refl; fields = refl; elements = refl; choice = λ M s i os. refl; all = λ defs M s p. refl }
literal _ e = absurd cc

-- what a literal denotes under a head, by the head's row alone
unfoldable pub by_row : Option (Written → Option ValueTree) → Written → Denotation ValueTree
by_row k w = row_or_parts k Nothing w

no_parts : (M : Meaning) (s inside : Scope) (w : Written) → Literal w → (kind : Kind) → is_own_head kind ≡ true → row_or_parts (row kind) (parts_row M s w inside kind) w ≡ row_or_parts (row kind) Nothing w
no_parts M s inside w k (StructKind x) e = ap (λ z. once Nothing z (λ fields. once Unsure (M.members inside x) (struct_denoted M s fields))) k.fields
no_parts M s inside w k (ListKind ty) e = ap (λ z. once Nothing z (λ vs. made_of Elements (trees_denoted M s (record { scope = inside; ty = ty }) vs))) k.elements
no_parts M s inside w k (ChoiceKind os) e = k.choice M s inside os
no_parts M s inside w k (ReferenceKind x) e = absurd cc
no_parts M s inside w k (SelectionKind x) e = absurd cc
no_parts M s inside w k _ e = refl

literal_row : (defs : Definitions) (M : Meaning) (s : Scope) (h : Place) (w : Written) → Literal w → is_own_head (kind_of h) ≡ true → value_denoted defs M s h w ≡ by_row (row (kind_of h)) w
unfolding by_row
literal_row defs M s h w k e = k.denoted defs M s h ∙ no_parts M s h.scope w k (kind_of h) e

-- ---- heads that are heads whatever is known

own_leads : (defs : Definitions) (N : Meaning) (s : Scope) (kind : Kind) → is_own_head kind ≡ true → lead_at defs N s kind ≡ IsHead
own_leads defs N s (ReferenceKind x) e = absurd cc
own_leads defs N s (SelectionKind x) e = absurd cc
own_leads defs N s (FieldKind x) e = absurd cc
own_leads defs N s _ e = refl

own_closed : (kind : Kind) → is_own_head kind ≡ true → is_open_kind kind ≡ false
own_closed (FieldKind x) e = absurd cc
own_closed _ e = refl

own_blind : Blind is_own_head
own_blind = record { structs = λ x y. refl; lists = λ x y. refl; choices = λ x y. refl; fields = λ x y. refl }

row_blind : Blind row
row_blind = record { structs = λ x y. refl; lists = λ x y. refl; choices = λ x y. refl; fields = λ x y. refl }

names_blind : (name : List ℕ) → Blind (own_in name)
names_blind name = record { structs = λ x y. refl; lists = λ x y. refl; choices = λ x y. refl; fields = λ x y. refl }

-- ---- literals under a head

pub or_is : (a c : Bool) → (a || c) ≡ true → (a ≡ true) ⊎ (c ≡ true)
or_is true c e = inl refl
or_is false c e = inr e

record LiteralUnder (kind : Kind) (w : Written) : Type 0 where
  denoted : (defs : Definitions) (M : Meaning) (s : Scope) (h : Place) → kind_of h ≡ kind → value_denoted defs M s h w ≡ by_row (row kind) w
  all : (defs : Definitions) (M : Meaning) (s : Scope) (p : Place) → is_all_at defs M s p w ≡ answer_all w

arcs_under : (kind : Kind) (w : Written) → is_own_arcs kind w ≡ true → LiteralUnder kind w
unfolding by_row answer_all
arcs_under ObjectIdentifierKind (ArcsWritten arcs) e =
    record {
      denoted = λ defs M s h f. ap (λ k. row_or_parts (row k) (parts_row M s (ArcsWritten arcs) h.scope k) (ArcsWritten arcs)) f;
      all = λ defs M s p. refl;
    }
arcs_under _ _ e = absurd cc

literal_under : (kind : Kind) (w : Written) → is_own_head kind ≡ true → is_literal_under kind w ≡ true → LiteralUnder kind w
literal_under kind w own e = at (or_is (is_literal w) (is_own_arcs kind w) e)
  where
    at : (is_literal w ≡ true) ⊎ (is_own_arcs kind w ≡ true) → LiteralUnder kind w
    at (inl is) =
        let k = literal w is in
        record { denoted = λ defs M s h f. literal_row defs M s h w k (ap is_own_head f ∙ own) ∙ ap (λ k. by_row (row k) w) f; all = k.all }
    at (inr is) = arcs_under kind w is

pub under_blind : (w : Written) → Blind (λ k. is_literal_under k w)
under_blind w = record { structs = λ x y. refl; lists = λ x y. refl; choices = λ x y. refl; fields = λ x y. refl }

-- ---- from a number of steps on

-- from so many steps on a value denotes this, and this is said of whether it is ALL
abbrev pub From : Definitions → ℕ → Scope → ASN1Value → Place → Denotation ValueTree → Answer → Type 0
From defs k s v p d a = (n : ℕ) → ((meaning defs (k + n)).denotes s v p ≡ d) × ((meaning defs (k + n)).is_all s v p ≡ a)

module _ (defs : Definitions) where
  own_found : (n : ℕ) (p : Place) → is_own_head (kind_of p) ≡ true → (meaning defs (suc n)).head p ≡ Some p
  unfolding meaning step
  own_found n p e = ap (head_from (meaning defs n) p) (own_leads defs (meaning defs n) p.scope (kind_of p) e)

  two : (n : ℕ) → 2 + n ≡ suc (suc n)
  two n = omega arith

  literal_denotes : (n : ℕ) (s : Scope) (v : ASN1Value) (p : Place) → is_own_head (kind_of p) ≡ true → LiteralUnder (kind_of p) (as_written v) → (meaning defs (suc (suc n))).denotes s v p ≡ by_row (row (kind_of p)) (as_written v)
  unfolding meaning step
  literal_denotes n s v p e k =
      ap (λ z. once Unsure z (denoted_under defs (meaning defs (suc n)) s v)) (own_found n p e)
      ∙ ap (λ z. if z then Denoted Opaque else value_denoted defs (meaning defs (suc n)) s p (as_written v)) (own_closed (kind_of p) e)
      ∙ k.denoted defs (meaning defs (suc n)) s p refl

  literal_all : (n : ℕ) (s : Scope) (v : ASN1Value) (p : Place) → LiteralUnder (kind_of p) (as_written v) → (meaning defs (suc n)).is_all s v p ≡ answer_all (as_written v)
  unfolding meaning step
  literal_all n s v p k = k.all defs (meaning defs n) s p

  pub literal_from : (s : Scope) (v : ASN1Value) (p : Place) → is_own_head (kind_of p) ≡ true → is_literal_under (kind_of p) (as_written v) ≡ true → From defs 2 s v p (by_row (row (kind_of p)) (as_written v)) (answer_all (as_written v))
  literal_from s v p e is n =
      let k = literal_under (kind_of p) (as_written v) e is in
      (ap (λ z. (meaning defs z).denotes s v p) (two n) ∙ literal_denotes n s v p e k, ap (λ z. (meaning defs z).is_all s v p) (two n) ∙ literal_all (suc n) s v p k)

  -- an item's name, where it is no dummy
  module _ (s : Scope) (v : ASN1Value) (p : Place) (name : List ℕ) (t : ValueTree) (own : is_own_head (kind_of p) ≡ true) (is : as_written v ≡ NameWritten None name) (unbound : bound_to s name ≡ None) (has : own_in name (kind_of p) ≡ Some t) where
    item_denoted : (M : Meaning) → value_denoted defs M s p (as_written v) ≡ Denoted t
    item_denoted M = ap (value_denoted defs M s p) is ∙ ap (name_denoted defs M s p name) unbound ∙ ap (λ z. own_or_defined z (defined_denoted defs M p name)) has

    item_denotes : (n : ℕ) → (meaning defs (suc (suc n))).denotes s v p ≡ Denoted t
    unfolding meaning step
    item_denotes n =
        ap (λ z. once Unsure z (denoted_under defs (meaning defs (suc n)) s v)) (own_found n p own)
        ∙ ap (λ z. if z then Denoted Opaque else value_denoted defs (meaning defs (suc n)) s p (as_written v)) (own_closed (kind_of p) own)
        ∙ item_denoted (meaning defs (suc n))

    item_all : (n : ℕ) → (meaning defs (suc (suc n))).is_all s v p ≡ No
    unfolding meaning step
    item_all n =
        ap (is_all_at defs (meaning defs (suc n)) s p) is ∙ ap (name_is_all defs (meaning defs (suc n)) s p name) unbound
        ∙ ap (λ z. once Unknown z (defined_is_all defs (meaning defs (suc n)) name)) (own_found n p own)
        ∙ ap (λ z. if is_some z then No else once No (value_named defs name) (λ d. read_is_all (meaning defs (suc n)) (defined_read d))) has

    pub item_from : From defs 2 s v p (Denoted t) No
    item_from n = (ap (λ z. (meaning defs z).denotes s v p) (two n) ∙ item_denotes n, ap (λ z. (meaning defs z).is_all s v p) (two n) ∙ item_all n)

-- ---- the literal of a tree

pub record WrittenOf (kind : Kind) (t : ValueTree) (w : ASN1Value) : Type 0 where
  pub is : is_literal_under kind (as_written w) ≡ true
  pub denotes : by_row (row kind) (as_written w) ≡ Denoted t
  pub not_all : answer_all (as_written w) ≡ No

made_literal : (kind : Kind) (t : ValueTree) (w : ASN1Value) (u : Written) → as_written w ≡ u → is_literal_under kind u ≡ true → by_row (row kind) u ≡ Denoted t → answer_all u ≡ No → WrittenOf kind t w
made_literal kind t w u s e f g = record {
  is = ap (is_literal_under kind) s ∙ e;
  denotes = ap (by_row (row kind)) s ∙ f;
  not_all = ap answer_all s ∙ g;
}

-- the name of an item
pub record NameOf (kind : Kind) (t : ValueTree) (w : ASN1Value) : Type 0 where
  pub name : List ℕ
  pub is : as_written w ≡ NameWritten None name
  pub own : own_in name kind ≡ Some t
  pub item : item_in name kind ≡ Some t

abbrev pub Means : Kind → ValueTree → ASN1Value → Type 0
Means kind t w = WrittenOf kind t w ⊎ NameOf kind t w

same_number_is : (k i : ℤ) → same_number k i ≡ true → k ≡ i
same_number_is k i e = grind (arith, ints)

numbered : (items : List Enumeral) (i : ℤ) → Holds (item_numbered items i) (λ name. once None (item_named items name) (λ k. Some (ItemNumber k)) ≡ Some (ItemNumber i))
numbered items i = once_holds (find (λ item. same_number item.index i) items) _ _ (λ item u. once_holds (item_named items item.name) _ _ (λ k v. at item k v (same_number k i) refl))
  where
    at : (item : Enumeral) (k : ℤ) → item_named items item.name ≡ Some k → (c : Bool) → same_number k i ≡ c → Holds (if c then Some item.name else None) (λ name. once None (item_named items name) (λ k. Some (ItemNumber k)) ≡ Some (ItemNumber i))
    at item k v true e = ap (λ z. once None z (λ k. Some (ItemNumber k))) v ∙ ap (λ z. Some (ItemNumber z)) (same_number_is k i e)
    at item k v false e = tt

arcs_again : (arcs : List Arc) → map arc_tree (map written_arc arcs) ≡ arcs
arcs_again [] = refl
arcs_again (NumberArc n ∷ arcs) = ap (λ xs. NumberArc n ∷ xs) (arcs_again arcs)
arcs_again (NameArc name ∷ arcs) = ap (λ xs. NameArc name ∷ xs) (arcs_again arcs)

text_literal : (kind : Kind) (cs text : List ℕ) → chars text ≡ cs → by_row (row kind) (TextWritten text) ≡ Denoted (Characters (chars text)) → Means kind (Characters cs) (value.String text)
unfolding answer_all
text_literal kind cs text same denoted =
    inl (made_literal kind (Characters cs) (value.String text) (TextWritten text) (ap written_at (value.outs-String text)) refl (denoted ∙ ap (λ z. Denoted (Characters z)) same) refl)

text_made : (kind : Kind) (cs : List ℕ) → ((text : List ℕ) → by_row (row kind) (TextWritten text) ≡ Denoted (Characters (chars text))) → Holds (text_tree (Characters cs)) (Means kind (Characters cs))
text_made kind cs denoted = at (bytes_eq (chars (encode_utf8_all cs)) cs) refl
  where
    at : (b : Bool) → bytes_eq (chars (encode_utf8_all cs)) cs ≡ b → Holds (once None (if b then Some (encode_utf8_all cs) else None) (λ text. Some (value.String text))) (Means kind (Characters cs))
    at true e = text_literal kind cs (encode_utf8_all cs) ((bytes_eq-Decides (chars (encode_utf8_all cs)) cs).0 e) (denoted (encode_utf8_all cs))
    at false e = tt

written_of : (kind : Kind) (t : ValueTree) → Holds (written kind t) (Means kind t)
unfolding by_row answer_all
written_of (EnumeratedKind items) (ItemNumber i) = then_holds (item_numbered items i) _ (λ name. once None (item_named items name) (λ k. Some (ItemNumber k)) ≡ Some (ItemNumber i)) _ (numbered items i) (λ name u e.
    inr (record { name = name; is = ap written_at (value.outs-ElsewhereDeclaredValue None name); own = e; item = e }))
written_of NullKind NullValue = inl (made_literal NullKind NullValue value.Null NullWritten (ap written_at value.outs-Null) refl refl refl)
written_of BooleanKind (TruthValue b) = inl (made_literal BooleanKind (TruthValue b) (value.Boolean b) (TruthWritten b) (ap written_at (value.outs-Boolean b)) refl refl refl)
written_of (IntegerKind names) (WholeNumber i) = inl (made_literal (IntegerKind names) (WholeNumber i) (value.Integer i) (NumberWritten i) (ap written_at (value.outs-Integer i)) refl refl refl)
written_of (BitStringKind names) (Bits bits) = inl (made_literal (BitStringKind names) (Bits bits) (value.BitString bits) (BitsWritten bits) (ap written_at (value.outs-BitString bits)) refl refl refl)
written_of OctetStringKind (Octets octets) = inl (made_literal OctetStringKind (Octets octets) (value.OctetString octets) (OctetsWritten octets) (ap written_at (value.outs-OctetString octets)) refl refl refl)
written_of RealKind (RealNumber m b e) =
    inl (made_literal RealKind (RealNumber m b e) (value.Real (record { mantissa = m; base = b; exponent = e })) (RealWritten (record { mantissa = m; base = b; exponent = e })) (ap written_at (value.outs-Real _)) refl refl refl)
written_of ObjectIdentifierKind (ObjectIdentifierArcs arcs) =
    inl
    (made_literal ObjectIdentifierKind (ObjectIdentifierArcs arcs) (value.ObjectIdentifier (record { 0 = map written_arc arcs })) (ArcsWritten (map written_arc arcs)) (ap written_at (value.outs-ObjectIdentifier _)) refl
    (ap (λ z. Denoted (ObjectIdentifierArcs z)) (arcs_again arcs)) refl)
written_of (CharacterStringKind ty) (Characters cs) = text_made (CharacterStringKind ty) cs (λ text. refl)
written_of TimeKind (Characters cs) = text_made TimeKind cs (λ text. refl)
written_of _ _ = tt

-- ---- what is chosen

abbrev pub Chosen : Scope → Answer → Denotation ValueTree → Kind → ASN1Value → ASN1Value → Type 0
Chosen scope a d kind v w =
    ((is_literal_under kind (as_written v) ≡ true) × (w ≡ v)) ⊎ (((w ≡ v) × ((t : ValueTree) × (k : NameOf kind t v) × (bound_to scope k.name ≡ None))) ⊎ ((t : ValueTree) × (a ≡ No) × (d ≡ Denoted t) × Means kind t w))

by_tree : (scope : Scope) (a : Answer) (d : Denotation ValueTree) (kind : Kind) (v : ASN1Value) → Holds (written_by_tree a d kind) (Chosen scope a d kind v)
by_tree scope No (Denoted t) kind v = at (written kind t) (written_of kind t)
  where
    at : (o : Option ASN1Value) → Holds o (Means kind t) → Holds o (Chosen scope No (Denoted t) kind v)
    at None h = tt
    at (Some w) h = inr (inr (t, refl, refl, h))
by_tree scope No Nothing kind v = tt
by_tree scope No Unsure kind v = tt
by_tree scope Yes d kind v = tt
by_tree scope Unknown d kind v = tt

item_is : (scope : Scope) (kind : Kind) (v : ASN1Value) (u : Written) → as_written v ≡ u → is_item_name scope kind u ≡ true → (t : ValueTree) × (k : NameOf kind t v) × (bound_to scope k.name ≡ None)
item_is scope (EnumeratedKind items) v (NameWritten None name) same e = at (bound_to scope name) refl (item_named items name) refl e
  where
    at : (a : Option Bound) → bound_to scope name ≡ a → (c : Option ℤ) → item_named items name ≡ c → (is_none a && is_some c) ≡ true → (t : ValueTree) × (k : NameOf (EnumeratedKind items) t v) × (bound_to scope k.name ≡ None)
    at None f (Some i) g e = (ItemNumber i, record { name = name; is = same; own = ap (λ z. once None z (λ i. Some (ItemNumber i))) g; item = ap (λ z. once None z (λ i. Some (ItemNumber i))) g }, f)
    at None f None g e = absurd cc
    at (Some a) f c g e = absurd cc
item_is scope kind v u same e = absurd cc

pub chosen : (M : Meaning) (scope : Scope) (v : ASN1Value) (p : Place) → Holds (value_written M scope v p) (λ w. (is_own_head (kind_of p) ≡ true) × Chosen scope (M.is_all scope v p) (M.denotes scope v p) (kind_of p) v w)
chosen M scope v p = at (is_own_head (kind_of p)) refl (is_literal_under (kind_of p) (as_written v) || is_item_name scope (kind_of p) (as_written v)) refl
  where
    stays : (is_literal_under (kind_of p) (as_written v) ≡ true) ⊎ (is_item_name scope (kind_of p) (as_written v) ≡ true) → Chosen scope (M.is_all scope v p) (M.denotes scope v p) (kind_of p) v v
    stays (inl e) = inl (e, refl)
    stays (inr e) = inr (inl (refl, item_is scope (kind_of p) v (as_written v) refl e))

    at : (c : Bool) → is_own_head (kind_of p) ≡ c → (d : Bool) → (is_literal_under (kind_of p) (as_written v) || is_item_name scope (kind_of p) (as_written v)) ≡ d →
        Holds (if c then (if d then Some v else written_by_tree (M.is_all scope v p) (M.denotes scope v p) (kind_of p)) else None) (λ w. (is_own_head (kind_of p) ≡ true) × Chosen scope (M.is_all scope v p) (M.denotes scope v p) (kind_of p) v w)
    at false e d f = tt
    at true e true f = (e, stays (or_is _ _ f))
    at true e false f = weaker (written_by_tree (M.is_all scope v p) (M.denotes scope v p) (kind_of p)) (Chosen scope (M.is_all scope v p) (M.denotes scope v p) (kind_of p) v) _
        (by_tree scope (M.is_all scope v p) (M.denotes scope v p) (kind_of p) v) (λ w h. (e, h))

-- ---- both sides

settles_on : (d x : Denotation ValueTree) (t : Denotation ValueTree) → Settles d x → x ≡ t → Settles d t
settles_on d x t s e = subst (λ z. Settles d z) e s

refines_on : (a x c : Answer) → Refines a x → x ≡ c → Refines a c
refines_on a x c s e = subst (λ z. Refines a z) e s

denoted_on : (d x : Denotation ValueTree) (t : ValueTree) → Settles d x → d ≡ Denoted t → x ≡ Denoted t
denoted_on d x t s e = subst (λ z. Settles z x) e s

no_on : (a x : Answer) → Refines a x → a ≡ No → x ≡ No
no_on a x s e = subst (λ z. Refines z x) e s

yes_on : (a x : Answer) → Refines a x → a ≡ Yes → x ≡ Yes
yes_on a x s e = subst (λ z. Refines z x) e s

-- what is known at a number of steps is known from there on
tree_from : (defs : Definitions) (i : ℕ) (scope : Scope) (v : ASN1Value) (p : Place) (t : ValueTree) → (meaning defs i).is_all scope v p ≡ No → (meaning defs i).denotes scope v p ≡ Denoted t → From defs i scope v p (Denoted t) No
tree_from defs i scope v p t e f n = (denoted_on _ _ t ((more_known defs i n).denotes scope v p) f, no_on _ _ ((more_known defs i n).is_all scope v p) e)

-- any number of steps tells no more than that
module _ (defs : Definitions) (k : ℕ) (s : Scope) (v : ASN1Value) (p : Place) (d : Denotation ValueTree) (a : Answer) (from : From defs k s v p d a) where
  denotes_less : (n : ℕ) → Settles ((meaning defs n).denotes s v p) d
  denotes_less n =
      let same : n + k ≡ k + n = omega arith in
      settles_on _ _ d (subst (λ z. Settles ((meaning defs n).denotes s v p) ((meaning defs z).denotes s v p)) same ((more_known defs n k).denotes s v p)) (from n).0

  pub all_less : (n : ℕ) → Refines ((meaning defs n).is_all s v p) a
  all_less n =
      let same : n + k ≡ k + n = omega arith in
      refines_on _ _ a (subst (λ z. Refines ((meaning defs n).is_all s v p) ((meaning defs z).is_all s v p)) same ((more_known defs n k).is_all s v p)) (from n).1

-- one side tells no more than the other, which has steps enough
both_from : (ds us : Definitions) (n m k l : ℕ) (s u : Scope) (v w : ASN1Value) (p q : Place) (d : Denotation ValueTree) (a : Answer) → From ds k s v p d a → From us l u w q d a → (e : ℕ) → l + e ≡ m →
    Settles ((meaning ds n).denotes s v p) ((meaning us m).denotes u w q) × Refines ((meaning ds n).is_all s v p) ((meaning us m).is_all u w q)
both_from ds us n m k l s u v w p q d a f g e same = (
  settles_on _ _ _ (denotes_less ds k s v p d a f n) (sym (ap (λ z. (meaning us z).denotes u w q) (sym same) ∙ (g e).0)),
  refines_on _ _ _ (all_less ds k s v p d a f n) (sym (ap (λ z. (meaning us z).is_all u w q) (sym same) ∙ (g e).1)),
)

module _ (keeps : Option (List ℕ) → List ℕ → Bool) (defs others : Definitions) (j : ℕ) where
  -- where both lead
  record Meant (i : ℕ) (scope : Scope) (v w : ASN1Value) (p q : Place) : Type 0 where
    start : ℕ
    reached : (start ≡ 2) ⊎ (start ≡ i)
    tree : Denotation ValueTree
    all : Answer
    here : From defs start scope v p tree all
    there : From others 2 Empty w q tree all

  there_means : (p q : Place) → is_own_head (kind_of p) ≡ true → Alike (literals keeps) defs others j p q → (t : ValueTree) (w : ASN1Value) → Means (kind_of p) t w → From others 2 Empty w q (Denoted t) No
  there_means p q own a t w (inl k) n =
      let here : is_own_head (kind_of q) ≡ true = alike_blind (literals keeps) defs others is_own_head own_blind j p q a ∙ own in
      let r = literal_from others Empty w q here (alike_blind (literals keeps) defs others (λ k. is_literal_under k (as_written w)) (under_blind (as_written w)) j p q a ∙ k.is) n in
      (r.0 ∙ ap (λ z. by_row z (as_written w)) (alike_blind (literals keeps) defs others row row_blind j p q a) ∙ k.denotes, r.1 ∙ k.not_all)
  there_means p q own a t w (inr k) n =
      let here : is_own_head (kind_of q) ≡ true = alike_blind (literals keeps) defs others is_own_head own_blind j p q a ∙ own in
      let has : own_in k.name (kind_of q) ≡ Some t = alike_blind (literals keeps) defs others (own_in k.name) (names_blind k.name) j p q a ∙ k.own in
      item_from others Empty w q k.name t here k.is refl has n

  there_literal : (p q : Place) (w : ASN1Value) → is_own_head (kind_of p) ≡ true → Alike (literals keeps) defs others j p q → is_literal_under (kind_of p) (as_written w) ≡ true → From others 2 Empty w q (by_row (row (kind_of p)) (as_written w)) (answer_all (as_written w))
  there_literal p q w own a is n =
      let here : is_own_head (kind_of q) ≡ true = alike_blind (literals keeps) defs others is_own_head own_blind j p q a ∙ own in
      let r = literal_from others Empty w q here (alike_blind (literals keeps) defs others (λ k. is_literal_under k (as_written w)) (under_blind (as_written w)) j p q a ∙ is) n in
      (r.0 ∙ ap (λ z. by_row z (as_written w)) (alike_blind (literals keeps) defs others row row_blind j p q a), r.1)

  chosen_meant : (i : ℕ) (scope : Scope) (v w : ASN1Value) (p q : Place) → is_own_head (kind_of p) ≡ true → Alike (literals keeps) defs others j p q → Chosen scope ((meaning defs i).is_all scope v p) ((meaning defs i).denotes scope v p) (kind_of p) v w → Meant i scope v w p q
  chosen_meant i scope v w p q own a (inl (is, same)) = record {
    start = 2;
    reached = inl refl;
    tree = by_row (row (kind_of p)) (as_written v);
    all = answer_all (as_written v);
    here = literal_from defs scope v p own is;
    there = subst (λ z. From others 2 Empty z q (by_row (row (kind_of p)) (as_written v)) (answer_all (as_written v))) (sym same) (there_literal p q v own a is);
  }
  chosen_meant i scope v w p q own a (inr (inl (same, (t, k, unbound)))) = record {
    start = 2;
    reached = inl refl;
    tree = Denoted t;
    all = No;
    here = item_from defs scope v p k.name t own k.is unbound k.own;
    there = subst (λ z. From others 2 Empty z q (Denoted t) No) (sym same) (there_means p q own a t v (inr k));
  }
  chosen_meant i scope v w p q own a (inr (inr (t, e, f, k))) = record {
    start = i;
    reached = inr refl;
    tree = Denoted t;
    all = No;
    here = tree_from defs i scope v p t e f;
    there = there_means p q own a t w k;
  }

  meant : (i : ℕ) (scope : Scope) (v w : ASN1Value) (p q : Place) → value_written (meaning defs i) scope v p ≡ Some w → Alike (literals keeps) defs others j p q → Meant i scope v w p q
  meant i scope v w p q e a =
      let k = result_holds (value_written (meaning defs i) scope v p) (λ w. (is_own_head (kind_of p) ≡ true) × Chosen scope ((meaning defs i).is_all scope v p) ((meaning defs i).denotes scope v p) (kind_of p) v w) w (chosen (meaning defs i) scope v p) e in
      chosen_meant i scope v w p q k.0 a k.1

  nothing_denotes : (defs : Definitions) (s : Scope) (v : ASN1Value) (p : Place) (d : Denotation ValueTree) → Settles ((meaning defs zero).denotes s v p) d
  unfolding meaning nothing_known
  nothing_denotes defs s v p d = tt

  nothing_all : (defs : Definitions) (s : Scope) (v : ASN1Value) (p : Place) (a : Answer) → Refines ((meaning defs zero).is_all s v p) a
  unfolding meaning nothing_known
  nothing_all defs s v p a = tt

  -- ---- forth and back

  forth_kept : (n i : ℕ) (scope : Scope) (v w : ASN1Value) (p q : Place) → Before (literals keeps) defs j i → Meant i scope v w p q →
      Settles ((meaning defs n).denotes scope v p) ((meaning others (n + j)).denotes Empty w q) × Refines ((meaning defs n).is_all scope v p) ((meaning others (n + j)).is_all Empty w q)
  forth_kept zero i scope v w p q before m = (nothing_denotes defs scope v p _, nothing_all defs scope v p _)
  forth_kept (suc n) i scope v w p q (c, f) m =
      let g : 2 + (n + (i + c)) ≡ suc n + j = omega (arith, f) in
      both_from defs others (suc n) (suc n + j) m.start 2 scope Empty v w p q m.tree m.all m.here m.there (n + (i + c)) g

  started : (n i m : ℕ) → Before (literals keeps) defs j i → (d : ℕ) → d + steps_back j (suc n) ≡ m → (k : ℕ) → (k ≡ 2) ⊎ (k ≡ i) → (e : ℕ) × (k + e ≡ m)
  started n i m (c, f) d g k (inl two) =
      let q = steps_enough j n in
      let h : k + ((i + c) + (d + (q.0 + (i + c)))) ≡ m = omega (arith, f, g, two, q.1, steps_more j n) in
      ((i + c) + (d + (q.0 + (i + c))), h)
  started n i m (c, f) d g k (inr at) =
      let q = steps_enough j n in
      let h : k + (suc c + (d + (q.0 + j))) ≡ m = omega (arith, f, g, at, q.1, steps_more j n) in
      (suc c + (d + (q.0 + j)), h)

  back_kept : (n d i : ℕ) (scope : Scope) (v w : ASN1Value) (p q : Place) → Before (literals keeps) defs j i → Meant i scope v w p q →
      Settles ((meaning others n).denotes Empty w q) ((meaning defs (d + steps_back j n)).denotes scope v p) × Refines ((meaning others n).is_all Empty w q) ((meaning defs (d + steps_back j n)).is_all scope v p)
  back_kept zero d i scope v w p q before m = (nothing_denotes others Empty w q _, nothing_all others Empty w q _)
  back_kept (suc n) d i scope v w p q before m =
      let g = started n i (d + steps_back j (suc n)) before d refl m.start m.reached in
      both_from others defs (suc n) (d + steps_back j (suc n)) 2 m.start Empty scope w v q p m.tree m.all m.there m.here g.0 g.1

  -- ---- ALL

  pub all_or_is : (a : Answer) (o : Option ASN1Value) (w : ASN1Value) → all_or a o ≡ Some w → ((a ≡ Yes) × (w ≡ value.All)) ⊎ (o ≡ Some w)
  all_or_is Yes o w e = inl (refl, sym (some_same value.All w e))
  all_or_is No o w e = inr e
  all_or_is Unknown o w e = inr e

  yes_from : (i : ℕ) (scope : Scope) (v : ASN1Value) (p : Place) → (meaning defs i).is_all scope v p ≡ Yes → (n : ℕ) → (meaning defs (i + n)).is_all scope v p ≡ Yes
  yes_from i scope v p e n = yes_on _ _ ((more_known defs i n).is_all scope v p) e

  yes_less : (i : ℕ) (scope : Scope) (v : ASN1Value) (p : Place) → (meaning defs i).is_all scope v p ≡ Yes → (n : ℕ) → Refines ((meaning defs n).is_all scope v p) Yes
  yes_less i scope v p e n =
      let same : n + i ≡ i + n = omega arith in
      refines_on _ _ Yes (subst (λ z. Refines ((meaning defs n).is_all scope v p) ((meaning defs z).is_all scope v p)) same ((more_known defs n i).is_all scope v p)) (yes_from i scope v p e n)

  all_there : (n : ℕ) (w : ASN1Value) (q : Place) → w ≡ value.All → (meaning others (suc n)).is_all Empty w q ≡ Yes
  unfolding meaning step
  all_there n w q e = ap (is_all_at others (meaning others n) Empty q) (ap as_written e ∙ ap written_at value.outs-All)

  differ : Yes ≡ No → ⊥
  differ e = cc

  no_yes : (a : Answer) → Refines a Yes → a ≡ No → ⊥
  no_yes a r e = differ (subst (λ z. Refines z Yes) e r)

  abbrev Single : ℕ → Scope → ASN1Value → ASN1Value → Place → Place → Type 0
  Single i scope v w p q = (((meaning defs i).is_all scope v p ≡ Yes) × (w ≡ value.All)) ⊎ Meant i scope v w p q

  single_is : (i : ℕ) (scope : Scope) (v w : ASN1Value) (p q : Place) → single_written (meaning defs i) scope v p ≡ Some w → Alike (literals keeps) defs others j p q → Single i scope v w p q
  single_is i scope v w p q e a = at (all_or_is ((meaning defs i).is_all scope v p) (value_written (meaning defs i) scope v p) w e)
    where
      at : (((meaning defs i).is_all scope v p ≡ Yes) × (w ≡ value.All)) ⊎ (value_written (meaning defs i) scope v p ≡ Some w) → Single i scope v w p q
      at (inl s) = inl s
      at (inr u) = inr (meant i scope v w p q u a)

  forth_all : (n i : ℕ) (scope : Scope) (v w : ASN1Value) (p q : Place) → Before (literals keeps) defs j i → Single i scope v w p q → Refines ((meaning defs n).is_all scope v p) ((meaning others (n + j)).is_all Empty w q)
  forth_all n i scope v w p q (c, f) (inl (sure, is)) =
      let g : n + j ≡ suc (n + (i + c)) = omega (arith, f) in
      refines_on _ _ _ (yes_less i scope v p sure n) (sym (ap (λ z. (meaning others z).is_all Empty w q) g ∙ all_there (n + (i + c)) w q is))
  forth_all n i scope v w p q before (inr m) = (forth_kept n i scope v w p q before m).1

  less_all : (n : ℕ) (w : ASN1Value) (q : Place) → w ≡ value.All → Refines ((meaning others n).is_all Empty w q) Yes
  less_all zero w q e = nothing_all others Empty w q Yes
  less_all (suc n) w q e = subst (λ z. Refines z Yes) (sym (all_there n w q e)) refl

  back_all : (n d i : ℕ) (scope : Scope) (v w : ASN1Value) (p q : Place) → Before (literals keeps) defs j i → Single i scope v w p q → Refines ((meaning others n).is_all Empty w q) ((meaning defs (d + steps_back j n)).is_all scope v p)
  back_all n d i scope v w p q (c, f) (inl (sure, is)) =
      let s = steps_enough j n in
      let g : d + steps_back j n ≡ i + (suc c + (d + s.0)) = omega (arith, f, s.1) in
      refines_on _ _ _ (less_all n w q is) (sym (ap (λ z. (meaning defs z).is_all scope v p) g ∙ yes_from i scope v p sure (suc c + (d + s.0))))
  back_all n d i scope v w p q before (inr m) = (back_kept n d i scope v w p q before m).1

  forth_values : (n : ℕ) → ValuesKept (literals keeps) defs others j Forth (meaning defs n) (meaning others (n + j))
  forth_values n = record {
    all = λ i scope v w p q b e a. forth_all n i scope v w p q b (single_is i scope v w p q e a);
    single = λ i scope v w p q b e a f g. at i scope v w p q b f (single_is i scope v w p q e a);
    end = λ i scope v w p q b e a. (forth_kept n i scope v w p q b (meant i scope v w p q e a)).0;
  }
    where
      at : (i : ℕ) (scope : Scope) (v w : ASN1Value) (p q : Place) → Before (literals keeps) defs j i → (meaning defs n).is_all scope v p ≡ No → Single i scope v w p q → Settles ((meaning defs n).denotes scope v p) ((meaning others (n + j)).denotes Empty w q)
      at i scope v w p q b f (inl (sure, is)) = absurd (no_yes _ (yes_less i scope v p sure n) f)
      at i scope v w p q b f (inr m) = (forth_kept n i scope v w p q b m).0

  back_values : (n d : ℕ) → ValuesKept (literals keeps) defs others j Back (meaning defs (d + steps_back j n)) (meaning others n)
  back_values n d = record {
    all = λ i scope v w p q b e a. back_all n d i scope v w p q b (single_is i scope v w p q e a);
    single = λ i scope v w p q b e a f g. at i scope v w p q b f (single_is i scope v w p q e a);
    end = λ i scope v w p q b e a. (back_kept n d i scope v w p q b (meant i scope v w p q e a)).0;
  }
    where
      at : (i : ℕ) (scope : Scope) (v w : ASN1Value) (p q : Place) → Before (literals keeps) defs j i → (meaning defs (d + steps_back j n)).is_all scope v p ≡ No → Single i scope v w p q →
          Settles ((meaning others n).denotes Empty w q) ((meaning defs (d + steps_back j n)).denotes scope v p)
      at i scope v w p q b f (inl (sure, is)) = absurd (no_yes _ (yes_less i scope v p sure (d + steps_back j n)) f)
      at i scope v w p q b f (inr m) = (back_kept n d i scope v w p q b m).0

-- the values that are chosen mean what the others do
pub literals_kept : (keeps : Option (List ℕ) → List ℕ → Bool) (defs others : Definitions) (j : ℕ) → KeepsValues (literals keeps) defs others j × KeepsValuesBack (literals keeps) defs others j
literals_kept keeps defs others j = (forth_values keeps defs others j, back_values keeps defs others j)
