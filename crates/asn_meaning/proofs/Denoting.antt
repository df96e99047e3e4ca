-- What a value denotes fits its type, where no two members share a name.
use Rattle.std.proofs.lemmas.Slice.Eq.{bytes_eq-Decides}
use Rattle.std.specs.Prelude.{cond, not, if◌then◌else◌}
use Rattle.std.specs.List.{find, list_all}
use Rattle.std.specs.Str.{bytes_eq}
use Rattle.std.proofs.Common.{◌≡◌, ℕ, zero, suc, ℤ, Bool, true, false, ◌&&◌, ◌||◌, List, [], ◌∷◌, map, Option, Some, None, refl, sym, subst, ap, ◌∙◌, arith}
use Rattle.std.proofs.lemmas.Int.{ints}
use Rattle.asn_tree_kinds.specs.declared.types.DistinguishedValue.{DistinguishedValue}
use Rattle.asn_tree_kinds.specs.declared.types.Enumeral.{Enumeral}
use Rattle.asn_tree.specs.declared.values.ASN1Value.{ASN1Value}
use Rattle.asn_meaning.specs.Answers.{Answer, Yes, No, Unknown, answer_of, both, each, once, Denotation, Denoted, Nothing, Unsure, together, made_of, if_any, provided, Within}
use Rattle.asn_meaning.specs.Braces.{elements_written, fields_written}
use Rattle.asn_meaning.specs.Definitions.{Definitions, value_named}
use Rattle.asn_meaning.specs.Denotes.{are_distinct, argument_of, defined_denoted, defined_read, denoted_under, denotes_at, field_denoted, fields_denoted, is_open, is_open_kind, item_in, may_stand, member_denoted, name_denoted, own_in, own_name, own_or_defined, parts_row, path_value, read_denoted, reference_denoted, row_or_parts, shaped, struct_denoted, trees_denoted, value_denoted, written_denoted}
use Rattle.asn_meaning.specs.Distinct.{NamesDiffer, PartsDiffer}
use Rattle.asn_meaning.specs.Judge.{meaning, nothing_known, step}
use Rattle.asn_meaning.specs.Kinds.{Kind, BitStringKind, BooleanKind, CharacterStringKind, ChoiceKind, EnumeratedKind, FieldKind, IntegerKind, ListKind, NullKind, ObjectIdentifierKind, OctetStringKind, OpaqueKind, RealKind, ReferenceKind, SelectionKind, StructKind, TimeKind, kind_of}
use Rattle.asn_meaning.specs.Meaning.{Meaning, Member}
use Rattle.asn_meaning.specs.Members.{item_named, may_be_absent, member_named, member_names, member_place, named, number_named}
use Rattle.asn_meaning.specs.Names.{option_named}
use Rattle.asn_meaning.specs.Rows.{arcs_row, bits_row, named_bits, names_written, null_row, number_row, number_written, octets_of, octets_row, real_row, row, string_row, string_written, text_row, text_written, truth_row}
use Rattle.asn_meaning.specs.Scopes.{Scope, Bound, bound_to, Place}
use Rattle.asn_meaning.specs.Shapes.{choice_judged, head_fits, is_bits, is_identifier, is_item, is_null, is_octets, is_of_kind, is_real, is_text, is_truth_value, is_whole_number, kind_or_parts, list_judged, member_judged, option_place, parts_fit, struct_judged, trees_judged}
use Rattle.asn_meaning.specs.ValueTrees.{ValueTree, ItemNumber, WholeNumber, Bits, Octets, Characters, Struct, Elements, Alternative, Opaque, Fields, no_field, field, field_named, field_names, ValueTrees, no_tree, tree, are_among, is_among, same_number}
use Rattle.asn_meaning.specs.Written.{NamedValues, Written, AllWritten, NullWritten, TruthWritten, NumberWritten, RealWritten, TextWritten, BitsWritten, BitNamesWritten, OctetsWritten, ArcsWritten, ItemWritten, NameWritten, BracesWritten, FieldsWritten, ElementsWritten, AlternativeWritten, NestedWritten, as_written}
use Rattle.asn_meaning.proofs.Fits.{fits_unfolds, known_of, later_fits, own_head}
use Rattle.asn_meaning.proofs.Steps.{one_more}
use Rattle.asn_meaning.proofs.Ways.{head_is_head}

-- ---- rows

inside : {A : Type 0} (o : Option A) (g : A → Option ValueTree) (test : ValueTree → Bool) (t : ValueTree) → ((x : A) → g x ≡ Some t → test t ≡ true) → once None o g ≡ Some t → test t ≡ true
inside None g test t k e = absurd cc
inside (Some x) g test t k e = k x e

some_is : {A : Type 0} (x y : A) → Some x ≡ Some y → x ≡ y
some_is x y e = cc

passes : (test : ValueTree → Bool) (u t : ValueTree) → test u ≡ true → Some u ≡ Some t → test t ≡ true
passes test u t k e = subst (λ z. test z ≡ true) (some_is u t e) k

null_fits : (w : Written) (t : ValueTree) → null_row w ≡ Some t → is_null t ≡ true
null_fits NullWritten t e = passes is_null _ t refl e
null_fits _ t e = absurd cc

truth_fits : (w : Written) (t : ValueTree) → truth_row w ≡ Some t → is_truth_value t ≡ true
truth_fits (TruthWritten b) t e = passes is_truth_value _ t refl e
truth_fits _ t e = absurd cc

number_fits : (w : Written) (t : ValueTree) → number_row w ≡ Some t → is_whole_number t ≡ true
number_fits w t e = inside (number_written w) _ is_whole_number t (λ i d. passes is_whole_number (WholeNumber i) t refl d) e

real_fits : (w : Written) (t : ValueTree) → real_row w ≡ Some t → is_real t ≡ true
real_fits (RealWritten x) t e = passes is_real _ t refl e
real_fits (NumberWritten i) t e = passes is_real _ t refl e
real_fits _ t e = absurd cc

bits_by_names : (ds : List DistinguishedValue) (o : Option (List (List ℕ))) (t : ValueTree) → once None o (λ names. once None (named_bits ds names) (λ bits. Some (Bits bits))) ≡ Some t → is_bits t ≡ true
bits_by_names ds o t e = inside o _ is_bits t (λ names d. inside (named_bits ds names) _ is_bits t (λ bits c. passes is_bits (Bits bits) t refl c) d) e

bits_fit : (ds : List DistinguishedValue) (w : Written) (t : ValueTree) → bits_row ds w ≡ Some t → is_bits t ≡ true
bits_fit ds (BitsWritten bits) t e = passes is_bits _ t refl e
bits_fit ds (BitNamesWritten names) t e = bits_by_names ds (Some names) t e
bits_fit ds (BracesWritten items) t e = bits_by_names ds (names_written (BracesWritten items)) t e
bits_fit ds (ArcsWritten arcs) t e = bits_by_names ds (names_written (ArcsWritten arcs)) t e
bits_fit ds (ElementsWritten vs) t e = bits_by_names ds (names_written (ElementsWritten vs)) t e
bits_fit ds _ t e = absurd cc

octets_fit : (w : Written) (t : ValueTree) → octets_row w ≡ Some t → is_octets t ≡ true
octets_fit (BitsWritten bits) t e = inside (octets_of bits) _ is_octets t (λ os d. passes is_octets (Octets os) t refl d) e
octets_fit (OctetsWritten os) t e = passes is_octets _ t refl e
octets_fit _ t e = absurd cc

string_fits : (w : Written) (t : ValueTree) → string_row w ≡ Some t → is_text t ≡ true
string_fits w t e = inside (string_written w) _ is_text t (λ s d. passes is_text (Characters s) t refl d) e

text_fits : (w : Written) (t : ValueTree) → text_row w ≡ Some t → is_text t ≡ true
text_fits w t e = inside (text_written w) _ is_text t (λ s d. passes is_text (Characters s) t refl d) e

arcs_fit : (w : Written) (t : ValueTree) → arcs_row w ≡ Some t → is_identifier t ≡ true
arcs_fit (ArcsWritten arcs) t e = passes is_identifier _ t refl e
arcs_fit _ t e = absurd cc

any_is : {A : Type 0} (o : Option A) (x : A) → if_any o ≡ Denoted x → o ≡ Some x
any_is None x e = absurd cc
any_is (Some y) x e = cc

by_test : (test : ValueTree → Bool) (parts : Answer) (t : ValueTree) → test t ≡ true → kind_or_parts (Some test) parts t ≡ Yes
by_test test parts t e = ap answer_of e

rows_fit : (k : Kind) (a : Denotation ValueTree) (parts : Answer) (w : Written) (t : ValueTree) → (a ≡ Denoted t → parts ≡ Yes) → row_or_parts (row k) a w ≡ Denoted t → kind_or_parts (is_of_kind k) parts t ≡ Yes
rows_fit NullKind a parts w t h e = by_test is_null parts t (null_fits w t (any_is _ t e))
rows_fit BooleanKind a parts w t h e = by_test is_truth_value parts t (truth_fits w t (any_is _ t e))
rows_fit (IntegerKind numbers) a parts w t h e = by_test is_whole_number parts t (number_fits w t (any_is _ t e))
rows_fit RealKind a parts w t h e = by_test is_real parts t (real_fits w t (any_is _ t e))
rows_fit (BitStringKind bits) a parts w t h e = by_test is_bits parts t (bits_fit (named bits) w t (any_is _ t e))
rows_fit OctetStringKind a parts w t h e = by_test is_octets parts t (octets_fit w t (any_is _ t e))
rows_fit (CharacterStringKind ty) a parts w t h e = by_test is_text parts t (string_fits w t (any_is _ t e))
rows_fit TimeKind a parts w t h e = by_test is_text parts t (text_fits w t (any_is _ t e))
rows_fit (EnumeratedKind items) a parts w t h e = absurd cc
rows_fit ObjectIdentifierKind a parts w t h e = by_test is_identifier parts t (arcs_fit w t (any_is _ t e))
rows_fit OpaqueKind a parts w t h e = let same : Opaque ≡ t = some_is Opaque t (any_is _ t e) in subst (λ z. kind_or_parts (is_of_kind OpaqueKind) parts z ≡ Yes) same refl
rows_fit (StructKind x) a parts w t h e = h e
rows_fit (ListKind ty) a parts w t h e = h e
rows_fit (ChoiceKind options) a parts w t h e = h e
rows_fit (FieldKind x) a parts w t h e = refl
rows_fit (ReferenceKind x) a parts w t h e = h e
rows_fit (SelectionKind x) a parts w t h e = h e

-- ---- items and named numbers

same_one : (i : ℤ) → same_number i i ≡ true
same_one i = grind (arith, ints)

item_there : (items : List Enumeral) (name : List ℕ) (i : ℤ) → item_named items name ≡ Some i → is_item items (ItemNumber i) ≡ true
item_there [] name i e = absurd cc
item_there (x ∷ items) name i e = go (bytes_eq x.name name) (item_there items name i) e
  where
    here : (j : ℤ) → Some j ≡ Some i → (same_number j i || is_item items (ItemNumber i)) ≡ true
    here j f = let same : j ≡ i = cc in subst (λ z. (same_number z i || is_item items (ItemNumber i)) ≡ true) (sym same) (ap (λ b. b || is_item items (ItemNumber i)) (same_one i))

    later : (b : Bool) → is_item items (ItemNumber i) ≡ true → (b || is_item items (ItemNumber i)) ≡ true
    later true f = refl
    later false f = f

    go : (b : Bool) → (item_named items name ≡ Some i → is_item items (ItemNumber i) ≡ true) → once None (cond b (Some x) (find (λ item. bytes_eq item.name name) items)) (λ item. Some item.index) ≡ Some i → (same_number x.index i || is_item items (ItemNumber i)) ≡ true
    go true h f = here x.index f
    go false h f = later (same_number x.index i) (h f)

item_fits : (name : List ℕ) (k : Kind) (parts : Answer) (t : ValueTree) → item_in name k ≡ Some t → kind_or_parts (is_of_kind k) parts t ≡ Yes
item_fits name (EnumeratedKind items) parts t e = by_test (is_item items) parts t (go (item_named items name) refl e)
  where
    go : (o : Option ℤ) → item_named items name ≡ o → once None o (λ i. Some (ItemNumber i)) ≡ Some t → is_item items t ≡ true
    go None is f = absurd cc
    go (Some i) is f = subst (λ z. is_item items z ≡ true) (some_is (ItemNumber i) t f) (item_there items name i is)
item_fits name _ parts t e = absurd cc

own_fits : (name : List ℕ) (k : Kind) (parts : Answer) (t : ValueTree) → own_in name k ≡ Some t → kind_or_parts (is_of_kind k) parts t ≡ Yes
own_fits name (IntegerKind numbers) parts t e = by_test is_whole_number parts t (inside (number_named (named numbers) name) _ is_whole_number t (λ i d. passes is_whole_number (WholeNumber i) t refl d) e)
own_fits name (EnumeratedKind items) parts t e = item_fits name (EnumeratedKind items) parts t e
own_fits name _ parts t e = absurd cc

-- ---- parts

known_from : {A B : Type 0} (o : Option A) (f : A → Denotation B) (t : B) → once Unsure o f ≡ Denoted t → (x : A) × (o ≡ Some x) × (f x ≡ Denoted t)
known_from None f t e = absurd cc
known_from (Some x) f t e = (x, refl, e)

written_from : {A B : Type 0} (o : Option A) (f : A → Denotation B) (t : B) → once Nothing o f ≡ Denoted t → (x : A) × (o ≡ Some x) × (f x ≡ Denoted t)
written_from None f t e = absurd cc
written_from (Some x) f t e = (x, refl, e)

made_from : {A B : Type 0} (f : A → B) (d : Denotation A) (t : B) → made_of f d ≡ Denoted t → (x : A) × (d ≡ Denoted x) × (f x ≡ t)
made_from f (Denoted x) t e = (x, refl, cc)
made_from f Nothing t e = absurd cc
made_from f Unsure t e = absurd cc

parts_from : {A B C : Type 0} (f : A → B → C) (a : Denotation A) (b : Denotation B) (t : C) → together f a b ≡ Denoted t → (x : A) × (y : B) × (a ≡ Denoted x) × (b ≡ Denoted y) × (f x y ≡ t)
parts_from f Nothing b t e = absurd cc
parts_from f (Denoted x) (Denoted y) t e = (x, y, refl, refl, cc)
parts_from f (Denoted x) Nothing t e = absurd cc
parts_from f (Denoted x) Unsure t e = absurd cc
parts_from f Unsure Nothing t e = absurd cc
parts_from f Unsure (Denoted y) t e = absurd cc
parts_from f Unsure Unsure t e = absurd cc

provided_from : (a : Answer) (u t : ValueTree) → provided a u ≡ Denoted t → (a ≡ Yes) × (u ≡ t)
provided_from Yes u t e = (refl, cc)
provided_from No u t e = absurd cc
provided_from Unknown u t e = absurd cc

if_from : {A : Type 0} (b : Bool) (d : Denotation A) (t : A) → (if b then d else Nothing) ≡ Denoted t → (b ≡ true) × (d ≡ Denoted t)
if_from true d t e = (refl, e)
if_from false d t e = absurd cc

and_from : (a b : Bool) → (a && b) ≡ true → (a ≡ true) × (b ≡ true)
and_from true true e = (refl, refl)
and_from true false e = absurd cc
and_from false b e = absurd cc

-- a name that is found is among the names
found_among : (ms : List Member) (name : List ℕ) (m : Member) → member_named ms name ≡ Some m → is_among (member_names ms) name ≡ true
found_among [] name m e = absurd cc
found_among (x ∷ ms) name m e = go (bytes_eq x.written.name name) (found_among ms name m) e
  where
    go : (b : Bool) → (member_named ms name ≡ Some m → is_among (member_names ms) name ≡ true) → cond b (Some x) (member_named ms name) ≡ Some m → (b || is_among (member_names ms) name) ≡ true
    go true h f = refl
    go false h f = h f

differs : (b : Bool) → b ≡ true → not b ≡ true → ⊥
differs true e f = cc
differs false e f = cc

-- a member of its name, where no other has it
abbrev Alone : List Member → Member → Type 0
Alone ms m = member_named ms m.written.name ≡ Some m

names_same : (name : List ℕ) → bytes_eq name name ≡ true
names_same name = (bytes_eq-Decides name name).1 refl

each_alone : (all ms : List Member) → are_distinct (member_names ms) ≡ true → ((m : Member) → is_among (member_names ms) m.written.name ≡ true → member_named all m.written.name ≡ member_named ms m.written.name) → (ask : Member → Answer) → ((m : Member) → Alone all m → ask m ≡ Yes) → each ask ms ≡ Yes
each_alone all [] d h ask k = refl
each_alone all (x ∷ ms) d h ask k =
    let both_parts = and_from (not (is_among (member_names ms) x.written.name)) (are_distinct (member_names ms)) d in
    let first : Alone all x = h x (ap (λ b. b || is_among (member_names ms) x.written.name) (names_same x.written.name)) ∙ ap (λ b. cond b (Some x) (member_named ms x.written.name)) (names_same x.written.name) in
    ap (λ z. both z (each ask ms)) (k x first)
    ∙ each_alone all ms both_parts.1 (λ m is. h m (later m is) ∙ passed both_parts.0 m is) ask k
  where
    later : (m : Member) → is_among (member_names ms) m.written.name ≡ true → is_among (member_names (x ∷ ms)) m.written.name ≡ true
    later m is = go (bytes_eq x.written.name m.written.name) is
      where
        go : (b : Bool) → is_among (member_names ms) m.written.name ≡ true → (b || is_among (member_names ms) m.written.name) ≡ true
        go true f = refl
        go false f = f

    -- another name than the first's
    passed : not (is_among (member_names ms) x.written.name) ≡ true → (m : Member) → is_among (member_names ms) m.written.name ≡ true → cond (bytes_eq x.written.name m.written.name) (Some x) (member_named ms m.written.name) ≡ member_named ms m.written.name
    passed new m is = go (bytes_eq x.written.name m.written.name) refl
      where
        go : (b : Bool) → bytes_eq x.written.name m.written.name ≡ b → cond b (Some x) (member_named ms m.written.name) ≡ member_named ms m.written.name
        go false e = refl
        go true e =
            let same : x.written.name ≡ m.written.name = (bytes_eq-Decides x.written.name m.written.name).0 e in
            let there : is_among (member_names ms) x.written.name ≡ true = ap (is_among (member_names ms)) same ∙ is in
            absurd (differs (is_among (member_names ms) x.written.name) there new)

-- ---- values with parts

all_found : {A : Type 0} (p q : A → Bool) (xs : List A) (x : A) → list_all p xs ≡ true → find q xs ≡ Some x → p x ≡ true
all_found p q [] x e f = absurd cc
all_found p q (y ∷ xs) x e f = go (q y) (and_from (p y) (list_all p xs) e) f (all_found p q xs x)
  where
    go : (b : Bool) → (p y ≡ true) × (list_all p xs ≡ true) → cond b (Some y) (find q xs) ≡ Some x → (list_all p xs ≡ true → find q xs ≡ Some x → p x ≡ true) → p x ≡ true
    go true h g k = let same : y ≡ x = cc in subst (λ z. p z ≡ true) same h.0
    go false h g k = k h.1 g

not_named : (fs : Fields) (name : List ℕ) → field_named fs name ≡ None → is_among (field_names fs) name ≡ false
not_named no_field name e = refl
not_named (field n u fs) name e = go (bytes_eq n name) e (not_named fs name)
  where
    go : (b : Bool) → (if b then Some u else field_named fs name) ≡ None → (field_named fs name ≡ None → is_among (field_names fs) name ≡ false) → (b || is_among (field_names fs) name) ≡ false
    go true f k = absurd cc
    go false f k = k f

denoted_is : {A : Type 0} (x y : A) → Denoted x ≡ Denoted y → x ≡ y
denoted_is x y e = cc

open_fits : (k : Kind) (parts : Answer) (t : ValueTree) → is_open_kind k ≡ true → kind_or_parts (is_of_kind k) parts t ≡ Yes
open_fits (FieldKind x) parts t e = refl
open_fits _ parts t e = absurd cc

module _ (M : Meaning) (P : Place → Type 0) (meant : (s : Scope) (v : ASN1Value) (p : Place) (t : ValueTree) → P p → M.denotes s v p ≡ Denoted t → M.fits p t ≡ Yes) where
  abbrev Parts : List Member → Type 0
  Parts ms = (name : List ℕ) (m : Member) → member_named ms name ≡ Some m → P (member_place m)

  member_fits : (s : Scope) (ms : List Member) → Parts ms → (name : List ℕ) (v : ASN1Value) (m : Member) (u : ValueTree) → member_named ms name ≡ Some m → member_denoted M s (member_named ms name) v ≡ Denoted u → M.fits (member_place m) u ≡ Yes
  member_fits s ms parts name v m u is e = meant s v (member_place m) u (parts name m is) (sym (ap (λ o. member_denoted M s o v) is) ∙ e)

  field_fits : (s : Scope) (ms : List Member) → Parts ms → (fields : NamedValues) (fs : Fields) → fields_denoted M s ms fields ≡ Denoted fs → (name : List ℕ) (m : Member) → member_named ms name ≡ Some m → (u : ValueTree) → field_named fs name ≡ Some u → M.fits (member_place m) u ≡ Yes
  field_fits s ms parts [] fs e name m is u f = let same : no_field ≡ fs = denoted_is no_field fs e in absurd (nothing (ap (λ z. field_named z name) same ∙ f))
    where
      nothing : None ≡ Some u → ⊥
      nothing g = cc
  field_fits s ms parts (x ∷ fields) fs e name m is u f =
      let d = parts_from (field x.0) (member_denoted M s (member_named ms x.0) x.1) (fields_denoted M s ms fields) fs e in
      go (bytes_eq x.0 name) refl d.0 d.1 d.2 (ap (λ z. field_named z name) d.4 ∙ f) (field_fits s ms parts fields d.1 d.3 name m is u)
    where
      go : (b : Bool) → bytes_eq x.0 name ≡ b → (y : ValueTree) (ys : Fields) → member_denoted M s (member_named ms x.0) x.1 ≡ Denoted y → (if b then Some y else field_named ys name) ≡ Some u → (field_named ys name ≡ Some u → M.fits (member_place m) u ≡ Yes) → M.fits (member_place m) u ≡ Yes
      go true test y ys d g k =
          let same : x.0 ≡ name = (bytes_eq-Decides x.0 name).0 test in
          let tree : y ≡ u = some_is y u g in
          subst (λ z. M.fits (member_place m) z ≡ Yes) tree (member_fits s ms parts x.0 x.1 m y (ap (member_named ms) same ∙ is) d)
      go false test y ys d g k = k g

  names_denoted : (s : Scope) (ms : List Member) (fields : NamedValues) (fs : Fields) → fields_denoted M s ms fields ≡ Denoted fs → field_names fs ≡ map (λ x. x.0) fields
  names_denoted s ms [] fs e = ap field_names (sym (denoted_is no_field fs e))
  names_denoted s ms (x ∷ fields) fs e =
      let d = parts_from (field x.0) (member_denoted M s (member_named ms x.0) x.1) (fields_denoted M s ms fields) fs e in
      ap field_names (sym d.4) ∙ ap (λ z. x.0 ∷ z) (names_denoted s ms fields d.1 d.3)

  all_among : (s : Scope) (ms : List Member) (fields : NamedValues) (fs : Fields) → fields_denoted M s ms fields ≡ Denoted fs → are_among (member_names ms) fs ≡ true
  all_among s ms [] fs e = ap (are_among (member_names ms)) (sym (denoted_is no_field fs e))
  all_among s ms (x ∷ fields) fs e =
      let d = parts_from (field x.0) (member_denoted M s (member_named ms x.0) x.1) (fields_denoted M s ms fields) fs e in
      ap (are_among (member_names ms)) (sym d.4) ∙ ap (λ b. b && are_among (member_names ms) d.1) (known (member_named ms x.0) refl d.0 d.2) ∙ all_among s ms fields d.1 d.3
    where
      known : (o : Option Member) → member_named ms x.0 ≡ o → (y : ValueTree) → member_denoted M s o x.1 ≡ Denoted y → is_among (member_names ms) x.0 ≡ true
      known None is y g = absurd cc
      known (Some m) is y g = found_among ms x.0 m is

  member_judged_fits : (s : Scope) (ms : List Member) → Parts ms → (fields : NamedValues) (fs : Fields) → fields_denoted M s ms fields ≡ Denoted fs → list_all (λ m. is_among (map (λ x. x.0) fields) m.written.name || may_be_absent m) ms ≡ true → (m : Member) → Alone ms m → member_judged (λ m u. M.fits (member_place m) u) m (field_named fs m.written.name) ≡ Yes
  member_judged_fits s ms parts fields fs e stand m is = go (field_named fs m.written.name) refl
    where
      either : (a b : Bool) → (a || b) ≡ true → a ≡ false → b ≡ true
      either true b f g = absurd cc
      either false b f g = f

      go : (o : Option ValueTree) → field_named fs m.written.name ≡ o → member_judged (λ m u. M.fits (member_place m) u) m o ≡ Yes
      go None none =
          ap answer_of (either (is_among (map (λ x. x.0) fields) m.written.name) (may_be_absent m) (all_found _ _ ms m stand is)
          (ap (λ z. is_among z m.written.name) (sym (names_denoted s ms fields fs e)) ∙ not_named fs m.written.name none))
      go (Some u) some = field_fits s ms parts fields fs e m.written.name m is u some

  struct_fits : (s : Scope) (ms : List Member) → (are_distinct (member_names ms) ≡ true) × Parts ms → (fields : NamedValues) (t : ValueTree) → struct_denoted M s fields ms ≡ Denoted t → struct_judged (λ m u. M.fits (member_place m) u) (Some ms) t ≡ Yes
  struct_fits s ms d fields t e =
      let i = if_from (may_stand (map (λ x. x.0) fields) ms) (made_of Struct (fields_denoted M s ms fields)) t e in
      let m = made_from Struct (fields_denoted M s ms fields) t i.1 in
      let stand = and_from (are_distinct (map (λ x. x.0) fields)) (list_all (λ m. is_among (map (λ x. x.0) fields) m.written.name || may_be_absent m) ms) i.0 in
      subst (λ z. struct_judged (λ m u. M.fits (member_place m) u) (Some ms) z ≡ Yes) m.2
      (ap (λ b. both (answer_of b) (each (λ n. member_judged (λ m u. M.fits (member_place m) u) n (field_named m.0 n.written.name)) ms)) (all_among s ms fields m.0 m.1)
      ∙ each_alone ms ms d.0 (λ n h. refl) (λ n. member_judged (λ m u. M.fits (member_place m) u) n (field_named m.0 n.written.name)) (member_judged_fits s ms d.1 fields m.0 m.1 stand.1))

  trees_fit : (s : Scope) (p : Place) → P p → (vs : List ASN1Value) (ts : ValueTrees) → trees_denoted M s p vs ≡ Denoted ts → trees_judged (M.fits p) ts ≡ Yes
  trees_fit s p h [] ts e = ap (trees_judged (M.fits p)) (sym (denoted_is no_tree ts e))
  trees_fit s p h (v ∷ vs) ts e =
      let d = parts_from tree (M.denotes s v p) (trees_denoted M s p vs) ts e in
      ap (trees_judged (M.fits p)) (sym d.4) ∙ ap (λ z. both z (trees_judged (M.fits p) d.1)) (meant s v p d.0 h d.2) ∙ trees_fit s p h vs d.1 d.3

  parts_row_fits : (s : Scope) (w : Written) (inside : Scope) (k : Kind) (t : ValueTree) → PartsDiffer M P inside k → parts_row M s w inside k ≡ Denoted t → parts_fit M inside t k ≡ Yes
  parts_row_fits s w inside (StructKind x) t h e =
      let f = written_from (fields_written w) (λ fields. once Unsure (M.members inside x) (struct_denoted M s fields)) t e in
      let m = known_from (M.members inside x) (struct_denoted M s f.0) t f.2 in
      ap (λ o. struct_judged (λ m u. M.fits (member_place m) u) o t) m.1 ∙ struct_fits s m.0 (h m.0 m.1) f.0 t m.2
  parts_row_fits s w inside (ListKind ty) t h e =
      let f = written_from (elements_written w) (λ vs. made_of Elements (trees_denoted M s (record { scope = inside; ty = ty }) vs)) t e in
      let m = made_from Elements (trees_denoted M s (record { scope = inside; ty = ty }) f.0) t f.2 in
      ap (list_judged (M.fits (record { scope = inside; ty = ty }))) (sym m.2) ∙ trees_fit s (record { scope = inside; ty = ty }) h f.0 m.0 m.1
  parts_row_fits s (AlternativeWritten name v) inside (ChoiceKind options) t h e =
      let f = written_from (option_named options name) (λ o. made_of (Alternative name) (M.denotes s v (option_place inside o))) t e in
      let m = made_from (Alternative name) (M.denotes s v (option_place inside f.0)) t f.2 in
      ap (choice_judged (λ o u. M.fits (option_place inside o) u) options) (sym m.2)
      ∙ ap (λ o. once No o (λ o. M.fits (option_place inside o) m.0)) f.1 ∙ meant s v (option_place inside f.0) m.0 (h name f.0 f.1) m.1
  parts_row_fits s _ inside (ChoiceKind options) t h e = absurd cc
  parts_row_fits s w inside _ t h e = absurd cc

  module _ (defs : Definitions) (head : Place) (parts : PartsDiffer M P head.scope (kind_of head)) (itself : P head) (own : (t : ValueTree) → M.fits head t ≡ Yes → head_fits M t head ≡ Yes) where
    written_fits : (s : Scope) (w : Written) (t : ValueTree) → written_denoted M s w head ≡ Denoted t → head_fits M t head ≡ Yes
    written_fits s w t e = rows_fit (kind_of head) (parts_row M s w head.scope (kind_of head)) (parts_fit M head.scope t (kind_of head)) w t (parts_row_fits s w head.scope (kind_of head) t parts) e

    shaped_fits : (d : Denotation ValueTree) (t : ValueTree) → shaped M head d ≡ Denoted t → head_fits M t head ≡ Yes
    shaped_fits (Denoted u) t e = let p = provided_from (M.fits head u) u t e in subst (λ z. head_fits M z head ≡ Yes) p.1 (own u p.0)
    shaped_fits Nothing t e = absurd cc
    shaped_fits Unsure t e = absurd cc

    defined_fits : (name : List ℕ) (o : Option ValueTree) (t : ValueTree) → own_name head name ≡ o → own_or_defined o (defined_denoted defs M head name) ≡ Denoted t → head_fits M t head ≡ Yes
    defined_fits name (Some u) t is e = own_fits name (kind_of head) (parts_fit M head.scope t (kind_of head)) t (is ∙ ap Some (denoted_is u t e))
    defined_fits name None t is e = let k = known_from (value_named defs name) (λ d. shaped M head (read_denoted M (defined_read d))) t e in shaped_fits _ t k.2

    name_fits : (s : Scope) (name : List ℕ) (b : Option Bound) (t : ValueTree) → name_denoted defs M s head name b ≡ Denoted t → head_fits M t head ≡ Yes
    name_fits s name (Some b) t e = let k = known_from (argument_of s b) (λ r. shaped M head (read_denoted M r)) t e in shaped_fits _ t k.2
    name_fits s name None t e = defined_fits name (own_name head name) t refl e

    reference_fits : (s : Scope) (o : Option (List ℕ)) (name : List ℕ) (t : ValueTree) → reference_denoted defs M s head o name ≡ Denoted t → head_fits M t head ≡ Yes
    reference_fits s None name t e = name_fits s name (bound_to s name) t e
    reference_fits s (Some o) name t e = let k = known_from (path_value defs s o name) (λ f. shaped M head (field_denoted M f)) t e in shaped_fits _ t k.2

    -- a nested value is read under the head itself
    nested_fits : (s : Scope) (v : ASN1Value) (t : ValueTree) → M.denotes s v head ≡ Denoted t → head_fits M t head ≡ Yes
    nested_fits s v t e = own t (meant s v head t itself e)

    value_fits : (s : Scope) (w : Written) (t : ValueTree) → value_denoted defs M s head w ≡ Denoted t → head_fits M t head ≡ Yes
    value_fits s (NameWritten parent name) t e = reference_fits s parent name t e
    value_fits s (ItemWritten name) t e = item_fits name (kind_of head) (parts_fit M head.scope t (kind_of head)) t (any_is _ t e)
    value_fits s (NestedWritten v) t e = nested_fits s v t e
    value_fits s AllWritten t e = written_fits s AllWritten t e
    value_fits s NullWritten t e = written_fits s NullWritten t e
    value_fits s (TruthWritten x) t e = written_fits s (TruthWritten x) t e
    value_fits s (NumberWritten x) t e = written_fits s (NumberWritten x) t e
    value_fits s (RealWritten x) t e = written_fits s (RealWritten x) t e
    value_fits s (TextWritten x) t e = written_fits s (TextWritten x) t e
    value_fits s (BitsWritten x) t e = written_fits s (BitsWritten x) t e
    value_fits s (BitNamesWritten x) t e = written_fits s (BitNamesWritten x) t e
    value_fits s (OctetsWritten x) t e = written_fits s (OctetsWritten x) t e
    value_fits s (ArcsWritten x) t e = written_fits s (ArcsWritten x) t e
    value_fits s (BracesWritten x) t e = written_fits s (BracesWritten x) t e
    value_fits s (FieldsWritten x) t e = written_fits s (FieldsWritten x) t e
    value_fits s (ElementsWritten x) t e = written_fits s (ElementsWritten x) t e
    value_fits s (AlternativeWritten name v) t e = written_fits s (AlternativeWritten name v) t e

    under_fits : (s : Scope) (v : ASN1Value) (b : Bool) (t : ValueTree) → is_open head ≡ b → (if b then Denoted Opaque else value_denoted defs M s head (as_written v)) ≡ Denoted t → head_fits M t head ≡ Yes
    under_fits s v true t is e = open_fits (kind_of head) _ t is
    under_fits s v false t is e = value_fits s (as_written v) t e

-- ---- steps

module _ (defs : Definitions) where
  kept_known : {A : Type 0} (a b : Option A) (x : A) → Within a b → a ≡ Some x → b ≡ Some x
  kept_known a b x p e = subst (λ z. Within z b) e p

  denotes_unfolds : (n : ℕ) (s : Scope) (v : ASN1Value) (p : Place) → (meaning defs (suc n)).denotes s v p ≡ denotes_at defs (meaning defs n) s v p
  unfolding meaning step
  denotes_unfolds n s v p = refl

  nothing_denoted : (s : Scope) (v : ASN1Value) (p : Place) (t : ValueTree) → (meaning defs zero).denotes s v p ≡ Denoted t → ⊥
  unfolding meaning nothing_known
  nothing_denoted s v p t e = cc

  nothing_fits : (p : Place) (t : ValueTree) → (meaning defs zero).fits p t ≡ Yes → ⊥
  unfolding meaning nothing_known
  nothing_fits p t e = cc

  differ_unfolds : (n : ℕ) (p : Place) → NamesDiffer defs (suc n) p → (h : Place) → (meaning defs n).head p ≡ Some h → PartsDiffer (meaning defs n) (NamesDiffer defs n) h.scope (kind_of h)
  unfolding NamesDiffer
  differ_unfolds n p d = d

  differ_folds : (n : ℕ) (p : Place) → ((h : Place) → (meaning defs n).head p ≡ Some h → PartsDiffer (meaning defs n) (NamesDiffer defs n) h.scope (kind_of h)) → NamesDiffer defs (suc n) p
  unfolding NamesDiffer
  differ_folds n p d = d

  nothing_differs : (p : Place) → NamesDiffer defs zero p
  unfolding NamesDiffer
  nothing_differs p = tt

  parts_fewer : (n : ℕ) → ((p : Place) → NamesDiffer defs (suc n) p → NamesDiffer defs n p) → (s : Scope) (k : Kind) → PartsDiffer (meaning defs (suc n)) (NamesDiffer defs (suc n)) s k → PartsDiffer (meaning defs n) (NamesDiffer defs n) s k
  parts_fewer n f s (StructKind x) d = λ ms e. (let h = d ms (kept_known _ _ ms ((one_more defs n).members s x) e) in (h.0, λ name m is. f (member_place m) (h.1 name m is)))
  parts_fewer n f s (ListKind ty) d = f _ d
  parts_fewer n f s (ChoiceKind options) d = λ name o is. f (option_place s o) (d name o is)
  parts_fewer n f s _ d = tt

  fewer : (n : ℕ) (p : Place) → NamesDiffer defs (suc n) p → NamesDiffer defs n p
  fewer zero p d = nothing_differs p
  fewer (suc n) p d = differ_folds n p (λ h e. parts_fewer n (fewer n) h.scope (kind_of h) (differ_unfolds (suc n) p d h (kept_known _ _ h ((one_more defs n).head p) e)))

  its_head : (n : ℕ) (p head : Place) → (meaning defs n).head p ≡ Some head → PartsDiffer (meaning defs n) (NamesDiffer defs n) head.scope (kind_of head) → NamesDiffer defs n head
  its_head zero p head e d = nothing_differs head
  its_head (suc n) p head e d = differ_folds n head (λ h is.
      let same : head ≡ h = own_head defs (suc n) head h (head_is_head defs (suc n) p head e) (kept_known _ _ h ((one_more defs n).head head) is) in
      subst (λ z. PartsDiffer (meaning defs n) (NamesDiffer defs n) z.scope (kind_of z)) same (parts_fewer n (fewer n) head.scope (kind_of head) d))

  fits_itself : (n : ℕ) (p head : Place) → (meaning defs n).head p ≡ Some head → (t : ValueTree) → (meaning defs n).fits head t ≡ Yes → head_fits (meaning defs n) t head ≡ Yes
  fits_itself zero p head e t f = absurd (nothing_fits head t f)
  fits_itself (suc n) p head e t f =
      let k = known_of ((meaning defs n).head head) (head_fits (meaning defs n) t) (sym (fits_unfolds defs n head t) ∙ f) in
      let same : head ≡ k.0 = own_head defs (suc n) head k.0 (head_is_head defs (suc n) p head e) (kept_known _ _ k.0 ((one_more defs n).head head) k.1) in
      later_fits defs n head t (subst (λ z. head_fits (meaning defs n) t z ≡ Yes) (sym same) k.2)

  pub denoted_fits_at : (n : ℕ) (s : Scope) (v : ASN1Value) (p : Place) (t : ValueTree) → NamesDiffer defs n p → (meaning defs n).denotes s v p ≡ Denoted t → (meaning defs n).fits p t ≡ Yes
  denoted_fits_at zero s v p t d e = absurd (nothing_denoted s v p t e)
  denoted_fits_at (suc n) s v p t d e =
      let k = known_from ((meaning defs n).head p) (denoted_under defs (meaning defs n) s v) t (sym (denotes_unfolds n s v p) ∙ e) in
      let parts = differ_unfolds n p d k.0 k.1 in
      fits_unfolds defs n p t ∙ ap (λ o. once Unknown o (head_fits (meaning defs n) t)) k.1
      ∙ under_fits (meaning defs n) (NamesDiffer defs n) (denoted_fits_at n) defs k.0 parts (its_head n p k.0 k.1 parts) (fits_itself n p k.0 k.1) s v (is_open k.0) t refl k.2
