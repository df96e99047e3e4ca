-- Trees part by part.
use Rattle.std.proofs.Common.{◌≡◌, ◌<◌, ◌≤◌, ℕ, suc, ◌+◌, ◌-◌, List, [], ◌∷◌, ◌++◌, drop, take, length, get_or, Bool, true, false, Option, Some, None, refl, sym, ap, ◌∙◌, arith}
use Rattle.std.specs.Prelude.{ℤ, ◌&&◌, ◌||◌, map}
use Rattle.std.specs.Bool.{Decides}
use Rattle.std.specs.Str.{bytes_eq, chars, IsUtf8}
use Rattle.std.proofs.lemmas.Slice.Eq.{bytes_eq-Decides}
use Rattle.std.proofs.lemmas.Str.{encodes-chars}
use Rattle.std.proofs.Math.Utf8.{encodes}
use Rattle.std.proofs.lemmas.List.{drop_more, drop_all, take_more}
use Rattle.asn_tree_headers.specs.declared.headers.ObjectIdentifierArc.{ObjectIdentifierArc}
use Rattle.asn_tree_headers.specs.declared.headers.ObjectIdentifierValue.{ObjectIdentifierValue}
use Rattle.asn_tree_leaves.specs.declared.plain.RealValue.{RealValue}
use Rattle.asn_meaning_shapes.specs.declared.trees.Field.{Field, out-Field}
use Rattle.asn_meaning_shapes.specs.declared.trees.Tree.{Tree}
use Rattle.asn_meaning_shapes.specs.declared.trees.Tree.TheVariants as own
use Rattle.asn_meaning_shapes.specs.Parts.{alternative_in, elements_in, fields_in}
use Rattle.asn_meaning_shapes.specs.Trees.{Named, shown_fields, shown_tree, shown_trees}
use Rattle.asn_meaning_shapes.proofs.Showing.{field_shown, null_shown, truth_shown, whole_shown, item_shown, real_shown, bits_shown, octets_shown, text_shown, arcs_shown, struct_shown, elements_shown, alternative_shown, opaque_shown}
use Rattle.asn_judge.specs.inner.Trees.{in_pairs, is_same_field, names_behind, seen}
use Rattle.asn_meaning.specs.Rows.{arc_tree}
use Rattle.asn_meaning.specs.Shapes.{is_null, is_opaque}
use Rattle.asn_meaning.specs.ValueTrees.{ValueTree, NullValue, TruthValue, WholeNumber, ItemNumber, RealNumber, Bits, Octets, Characters, ObjectIdentifierArcs, Struct, Elements, Alternative, Opaque, Fields, ValueTrees, are_among, field_named, field_names, is_among, same_arc, same_arcs, same_bits, same_fields, same_tree, same_trees, same_truth, size_of}

-- ---- two lists item by item

pub pairs_uneven : {A B : Type 0} (test : A → B → Bool) (xs : List A) (ys : List B) → (length xs ≡ length ys → ⊥) → in_pairs test xs ys ≡ false
pairs_uneven test [] [] differ = absurd (differ refl)
pairs_uneven test [] (y ∷ ys) differ = refl
pairs_uneven test (x ∷ xs) [] differ = refl
pairs_uneven test (x ∷ xs) (y ∷ ys) differ = ap (λ rest. test x y && rest) (pairs_uneven test xs ys (λ e. differ (ap suc e))) ∙ neither (test x y)
  where
    neither : (b : Bool) → (b && false) ≡ false
    neither true = refl
    neither false = refl

pair_at : {A B : Type 0} (test : A → B → Bool) (xs : List A) (ys : List B) (i : ℕ) (x : A) (y : B) → i < length xs → i < length ys → x ≡ get_or xs i x → y ≡ get_or ys i y →
    in_pairs test (drop i xs) (drop i ys) ≡ (test x y && in_pairs test (drop (i + 1) xs) (drop (i + 1) ys))
pair_at test xs ys i x y lt less e f =
    ap (λ some. in_pairs test some (drop i ys)) (drop_more xs i x lt ∙ ap (λ a. a ∷ drop (i + 1) xs) (sym e))
    ∙ ap (λ others. in_pairs test (x ∷ drop (i + 1) xs) others) (drop_more ys i y less ∙ ap (λ b. b ∷ drop (i + 1) ys) (sym f))

pub pairs_next : {A B : Type 0} (test : A → B → Bool) (xs : List A) (ys : List B) (i : ℕ) (x : A) (y : B) → i < length xs → i < length ys → x ≡ get_or xs i x → y ≡ get_or ys i y → test x y ≡ true →
    in_pairs test (drop i xs) (drop i ys) ≡ in_pairs test (drop (i + 1) xs) (drop (i + 1) ys)
pairs_next test xs ys i x y lt less e f same = pair_at test xs ys i x y lt less e f ∙ ap (λ b. b && in_pairs test (drop (i + 1) xs) (drop (i + 1) ys)) same

pub pairs_differ : {A B : Type 0} (test : A → B → Bool) (xs : List A) (ys : List B) (i : ℕ) (x : A) (y : B) → i < length xs → i < length ys → x ≡ get_or xs i x → y ≡ get_or ys i y → test x y ≡ false →
    in_pairs test (drop i xs) (drop i ys) ≡ false
pairs_differ test xs ys i x y lt less e f differ = pair_at test xs ys i x y lt less e f ∙ ap (λ b. b && in_pairs test (drop (i + 1) xs) (drop (i + 1) ys)) differ

pub pairs_done : {A B : Type 0} (test : A → B → Bool) (xs : List A) (ys : List B) (i : ℕ) → length xs ≤ i → length xs ≡ length ys → in_pairs test (drop i xs) (drop i ys) ≡ true
pairs_done test xs ys i le e =
    ap (λ some. in_pairs test some (drop i ys)) (drop_all i xs le) ∙ ap (λ others. in_pairs test [] others) (drop_all i ys (omega (arith, le, e)))

pub bits_in_pairs : (a b : List Bool) → in_pairs same_truth a b ≡ same_bits a b
bits_in_pairs [] [] = refl
bits_in_pairs [] (y ∷ b) = refl
bits_in_pairs (x ∷ a) [] = refl
bits_in_pairs (x ∷ a) (y ∷ b) = ap (λ same. same_truth x y && same) (bits_in_pairs a b)

pub arcs_in_pairs : (a b : List ObjectIdentifierArc) → in_pairs (λ x y. same_arc (arc_tree x) (arc_tree y)) a b ≡ same_arcs (map arc_tree a) (map arc_tree b)
arcs_in_pairs [] [] = refl
arcs_in_pairs [] (y ∷ b) = refl
arcs_in_pairs (x ∷ a) [] = refl
arcs_in_pairs (x ∷ a) (y ∷ b) = ap (λ same. same_arc (arc_tree x) (arc_tree y) && same) (arcs_in_pairs a b)

trees_in_pairs : (ts us : List Tree) → in_pairs (λ t u. same_tree (shown_tree t) (shown_tree u)) ts us ≡ same_trees (shown_trees ts) (shown_trees us)
trees_in_pairs [] [] = refl
trees_in_pairs [] (u ∷ us) = refl
trees_in_pairs (t ∷ ts) [] = refl
trees_in_pairs (t ∷ ts) (u ∷ us) = ap (λ same. same_tree (shown_tree t) (shown_tree u) && same) (trees_in_pairs ts us)

-- ---- sizes and characters

pub elements_counted : (ts : List Tree) → size_of (shown_trees ts) ≡ length ts
elements_counted [] = refl
elements_counted (t ∷ ts) = ap suc (elements_counted ts)

pub same_characters : (left right : List ℕ) → IsUtf8 left → IsUtf8 right → bytes_eq left right ≡ bytes_eq (chars left) (chars right)
same_characters left right u v =
    go (bytes_eq left right) (bytes_eq (chars left) (chars right)) (λ e. spelled.1 (ap chars (written.0 e)))
    (λ e. written.1 (sym (encodes-chars left u) ∙ ap encodes (spelled.0 e) ∙ encodes-chars right v))
  where
    written : Decides (bytes_eq left right) (left ≡ right)
    written = bytes_eq-Decides left right

    spelled : Decides (bytes_eq (chars left) (chars right)) (chars left ≡ chars right)
    spelled = bytes_eq-Decides (chars left) (chars right)

    go : (a b : Bool) → (a ≡ true → b ≡ true) → (b ≡ true → a ≡ true) → a ≡ b
    go true b f g = sym (f refl)
    go false true f g = g refl
    go false false f g = refl

-- ---- fields

name_first : (fs : List Field) (i : ℕ) (f : Field) (name : List ℕ) → i < length fs → f ≡ get_or fs i f →
    is_among (field_names (shown_fields (drop i fs))) name ≡ (bytes_eq (out-Field f).name name || is_among (field_names (shown_fields (drop (i + 1) fs))) name)
name_first fs i f name lt e =
    ap (λ xs. is_among (field_names (shown_fields xs)) name) (drop_more fs i f lt ∙ ap (λ x. x ∷ drop (i + 1) fs) (sym e))
    ∙ ap (λ (x : Named). bytes_eq x.0 name || is_among (field_names (shown_fields (drop (i + 1) fs))) name) (field_shown f)

pub name_here : (fs : List Field) (i : ℕ) (f : Field) (name : List ℕ) → i < length fs → f ≡ get_or fs i f → bytes_eq (out-Field f).name name ≡ true →
    is_among (field_names (shown_fields (drop i fs))) name ≡ true
name_here fs i f name lt e same = name_first fs i f name lt e ∙ ap (λ b. b || is_among (field_names (shown_fields (drop (i + 1) fs))) name) same

pub name_past : (fs : List Field) (i : ℕ) (f : Field) (name : List ℕ) → i < length fs → f ≡ get_or fs i f → bytes_eq (out-Field f).name name ≡ false →
    is_among (field_names (shown_fields (drop i fs))) name ≡ is_among (field_names (shown_fields (drop (i + 1) fs))) name
name_past fs i f name lt e differ = name_first fs i f name lt e ∙ ap (λ b. b || is_among (field_names (shown_fields (drop (i + 1) fs))) name) differ

named_last : (names : List (List ℕ)) (fs : List Field) (f : Field) → names_behind names (fs ++ f ∷ []) ≡ (out-Field f).name ∷ names_behind names fs
named_last names [] f = refl
named_last names (g ∷ fs) f = named_last ((out-Field g).name ∷ names) fs f

seen_more : (fs : List Field) (i : ℕ) (f : Field) → i < length fs → f ≡ get_or fs i f → seen fs (i + 1) ≡ (out-Field f).name ∷ seen fs i
seen_more fs i f lt e = ap (names_behind []) (take_more fs i f lt ∙ ap (λ x. take i fs ++ x ∷ []) (sym e)) ∙ named_last [] (take i fs) f

seen_last : (fs : List Field) (i : ℕ) (f : Field) (name : List ℕ) → 0 < i → i ≤ length fs → f ≡ get_or fs (i - 1) f →
    is_among (seen fs i) name ≡ (bytes_eq (out-Field f).name name || is_among (seen fs (i - 1)) name)
seen_last fs i f name lt le e =
    let back : i ≡ i - 1 + 1 = omega (arith, lt) in
    ap (λ k. is_among (seen fs k) name) back ∙ ap (λ names. is_among names name) (seen_more fs (i - 1) f (omega (arith, lt, le)) e)

pub seen_here : (fs : List Field) (i : ℕ) (f : Field) (name : List ℕ) → 0 < i → i ≤ length fs → f ≡ get_or fs (i - 1) f → bytes_eq (out-Field f).name name ≡ true → is_among (seen fs i) name ≡ true
seen_here fs i f name lt le e same = seen_last fs i f name lt le e ∙ ap (λ b. b || is_among (seen fs (i - 1)) name) same

pub seen_before : (fs : List Field) (i : ℕ) (f : Field) (name : List ℕ) → 0 < i → i ≤ length fs → f ≡ get_or fs (i - 1) f → bytes_eq (out-Field f).name name ≡ false →
    is_among (seen fs i) name ≡ is_among (seen fs (i - 1)) name
seen_before fs i f name lt le e differ = seen_last fs i f name lt le e ∙ ap (λ b. b || is_among (seen fs (i - 1)) name) differ

field_at : (fs : List Field) (gs : Fields) (i : ℕ) (f : Field) → i < length fs → f ≡ get_or fs i f →
    same_fields (seen fs i) (shown_fields (drop i fs)) gs
    ≡ (is_same_field (is_among (seen fs i) (out-Field f).name) (out-Field f).name (shown_tree (out-Field f).tree) gs && same_fields (seen fs (i + 1)) (shown_fields (drop (i + 1) fs)) gs)
field_at fs gs i f lt e =
    ap (λ xs. same_fields (seen fs i) (shown_fields xs) gs) (drop_more fs i f lt ∙ ap (λ x. x ∷ drop (i + 1) fs) (sym e))
    ∙ ap (λ (x : Named). is_same_field (is_among (seen fs i) x.0) x.0 x.1 gs && same_fields (x.0 ∷ seen fs i) (shown_fields (drop (i + 1) fs)) gs) (field_shown f)
    ∙ ap (λ names. is_same_field (is_among (seen fs i) (out-Field f).name) (out-Field f).name (shown_tree (out-Field f).tree) gs && same_fields names (shown_fields (drop (i + 1) fs)) gs)
    (sym (seen_more fs i f lt e))

pub field_next : (fs : List Field) (gs : Fields) (i : ℕ) (f : Field) → i < length fs → f ≡ get_or fs i f →
    is_same_field (is_among (seen fs i) (out-Field f).name) (out-Field f).name (shown_tree (out-Field f).tree) gs ≡ true →
    same_fields (seen fs i) (shown_fields (drop i fs)) gs ≡ same_fields (seen fs (i + 1)) (shown_fields (drop (i + 1) fs)) gs
field_next fs gs i f lt e same = field_at fs gs i f lt e ∙ ap (λ b. b && same_fields (seen fs (i + 1)) (shown_fields (drop (i + 1) fs)) gs) same

pub field_differs : (fs : List Field) (gs : Fields) (i : ℕ) (f : Field) → i < length fs → f ≡ get_or fs i f →
    is_same_field (is_among (seen fs i) (out-Field f).name) (out-Field f).name (shown_tree (out-Field f).tree) gs ≡ false →
    same_fields (seen fs i) (shown_fields (drop i fs)) gs ≡ false
field_differs fs gs i f lt e differ = field_at fs gs i f lt e ∙ ap (λ b. b && same_fields (seen fs (i + 1)) (shown_fields (drop (i + 1) fs)) gs) differ

pub fields_end : (fs : List Field) (gs : Fields) (i : ℕ) → length fs ≤ i → same_fields (seen fs i) (shown_fields (drop i fs)) gs ≡ true
fields_end fs gs i le = ap (λ xs. same_fields (seen fs i) (shown_fields xs) gs) (drop_all i fs le)

pub is_nowhere : (name : List ℕ) (t : ValueTree) (gs : Fields) → field_named gs name ≡ None → is_same_field false name t gs ≡ false
is_nowhere name t gs e = ap (λ found. elim found [ Some u ↦ same_tree t u | None ↦ false ]) e

pub is_there : (name : List ℕ) (t u : ValueTree) (gs : Fields) → field_named gs name ≡ Some u → is_same_field false name t gs ≡ same_tree t u
is_there name t u gs e = ap (λ found. elim found [ Some u ↦ same_tree t u | None ↦ false ]) e

-- ---- parts

struct_parts : (fs : Fields) (u : ValueTree) → same_tree (Struct fs) u ≡ elim (fields_in u) [ Some gs ↦ same_fields [] fs gs && are_among (field_names fs) gs | None ↦ false ]
struct_parts fs NullValue = refl
struct_parts fs (TruthValue b) = refl
struct_parts fs (WholeNumber i) = refl
struct_parts fs (ItemNumber i) = refl
struct_parts fs (RealNumber m b e) = refl
struct_parts fs (Bits bs) = refl
struct_parts fs (Octets os) = refl
struct_parts fs (Characters cs) = refl
struct_parts fs (ObjectIdentifierArcs arcs) = refl
struct_parts fs (Struct gs) = refl
struct_parts fs (Elements ts) = refl
struct_parts fs (Alternative name t) = refl
struct_parts fs Opaque = refl

pub no_struct : (fs : Fields) (u : ValueTree) → fields_in u ≡ None → same_tree (Struct fs) u ≡ false
no_struct fs u e = struct_parts fs u ∙ ap (λ found. elim found [ Some gs ↦ same_fields [] fs gs && are_among (field_names fs) gs | None ↦ false ]) e

pub struct_is : (fs gs : Fields) (u : ValueTree) → fields_in u ≡ Some gs → same_tree (Struct fs) u ≡ (same_fields [] fs gs && are_among (field_names fs) gs)
struct_is fs gs u e = struct_parts fs u ∙ ap (λ found. elim found [ Some gs ↦ same_fields [] fs gs && are_among (field_names fs) gs | None ↦ false ]) e

list_parts : (ts : ValueTrees) (u : ValueTree) → same_tree (Elements ts) u ≡ elim (elements_in u) [ Some us ↦ same_trees ts us | None ↦ false ]
list_parts ts NullValue = refl
list_parts ts (TruthValue b) = refl
list_parts ts (WholeNumber i) = refl
list_parts ts (ItemNumber i) = refl
list_parts ts (RealNumber m b e) = refl
list_parts ts (Bits bs) = refl
list_parts ts (Octets os) = refl
list_parts ts (Characters cs) = refl
list_parts ts (ObjectIdentifierArcs arcs) = refl
list_parts ts (Struct gs) = refl
list_parts ts (Elements us) = refl
list_parts ts (Alternative name t) = refl
list_parts ts Opaque = refl

pub no_list : (ts : ValueTrees) (u : ValueTree) → elements_in u ≡ None → same_tree (Elements ts) u ≡ false
no_list ts u e = list_parts ts u ∙ ap (λ found. elim found [ Some us ↦ same_trees ts us | None ↦ false ]) e

pub list_is : (ts us : List Tree) (u : ValueTree) → elements_in u ≡ Some (shown_trees us) →
    same_tree (Elements (shown_trees ts)) u ≡ in_pairs (λ t u. same_tree (shown_tree t) (shown_tree u)) ts us
list_is ts us u e =
    list_parts (shown_trees ts) u ∙ ap (λ found. elim found [ Some us ↦ same_trees (shown_trees ts) us | None ↦ false ]) e ∙ sym (trees_in_pairs ts us)

alternative_parts : (name : List ℕ) (t u : ValueTree) → same_tree (Alternative name t) u ≡ elim (alternative_in u) [ Some x ↦ bytes_eq name x.0 && same_tree t x.1 | None ↦ false ]
alternative_parts name t NullValue = refl
alternative_parts name t (TruthValue b) = refl
alternative_parts name t (WholeNumber i) = refl
alternative_parts name t (ItemNumber i) = refl
alternative_parts name t (RealNumber m b e) = refl
alternative_parts name t (Bits bs) = refl
alternative_parts name t (Octets os) = refl
alternative_parts name t (Characters cs) = refl
alternative_parts name t (ObjectIdentifierArcs arcs) = refl
alternative_parts name t (Struct gs) = refl
alternative_parts name t (Elements us) = refl
alternative_parts name t (Alternative other u) = refl
alternative_parts name t Opaque = refl

pub no_alternative : (name : List ℕ) (t u : ValueTree) → alternative_in u ≡ None → same_tree (Alternative name t) u ≡ false
no_alternative name t u e = alternative_parts name t u ∙ ap (λ (found : Option Named). elim found [ Some x ↦ bytes_eq name x.0 && same_tree t x.1 | None ↦ false ]) e

pub alternative_is : (name : List ℕ) (t u : ValueTree) (x : Named) → alternative_in u ≡ Some x → same_tree (Alternative name t) u ≡ (bytes_eq name x.0 && same_tree t x.1)
alternative_is name t u x e = alternative_parts name t u ∙ ap (λ (found : Option Named). elim found [ Some x ↦ bytes_eq name x.0 && same_tree t x.1 | None ↦ false ]) e

-- ---- by the variant

null_is : (u : ValueTree) → same_tree NullValue u ≡ is_null u
null_is NullValue = refl
null_is (TruthValue b) = refl
null_is (WholeNumber i) = refl
null_is (ItemNumber i) = refl
null_is (RealNumber m b e) = refl
null_is (Bits bs) = refl
null_is (Octets os) = refl
null_is (Characters cs) = refl
null_is (ObjectIdentifierArcs arcs) = refl
null_is (Struct gs) = refl
null_is (Elements us) = refl
null_is (Alternative other u) = refl
null_is Opaque = refl

opaque_is : (u : ValueTree) → same_tree Opaque u ≡ is_opaque u
opaque_is NullValue = refl
opaque_is (TruthValue b) = refl
opaque_is (WholeNumber i) = refl
opaque_is (ItemNumber i) = refl
opaque_is (RealNumber m b e) = refl
opaque_is (Bits bs) = refl
opaque_is (Octets os) = refl
opaque_is (Characters cs) = refl
opaque_is (ObjectIdentifierArcs arcs) = refl
opaque_is (Struct gs) = refl
opaque_is (Elements us) = refl
opaque_is (Alternative other u) = refl
opaque_is Opaque = refl

pub null_same : (t : Tree) (u : ValueTree) → t ≡ own.Null → same_tree (shown_tree t) u ≡ is_null u
null_same t u e = ap (λ x. same_tree x u) (null_shown t e) ∙ null_is u

pub truth_same : (t : Tree) (u : ValueTree) (b : Bool) → t ≡ own.Truth b → same_tree (shown_tree t) u ≡ same_tree (TruthValue b) u
truth_same t u b e = ap (λ x. same_tree x u) (truth_shown t b e)

pub whole_same : (t : Tree) (u : ValueTree) (i : ℤ) → t ≡ own.Whole i → same_tree (shown_tree t) u ≡ same_tree (WholeNumber i) u
whole_same t u i e = ap (λ x. same_tree x u) (whole_shown t i e)

pub item_same : (t : Tree) (u : ValueTree) (i : ℤ) → t ≡ own.Item i → same_tree (shown_tree t) u ≡ same_tree (ItemNumber i) u
item_same t u i e = ap (λ x. same_tree x u) (item_shown t i e)

pub real_same : (t : Tree) (u : ValueTree) (x : RealValue) → t ≡ own.Real x → same_tree (shown_tree t) u ≡ same_tree (RealNumber x.mantissa x.base x.exponent) u
real_same t u x e = ap (λ x. same_tree x u) (real_shown t x e)

pub bits_same : (t : Tree) (u : ValueTree) (bits : List Bool) → t ≡ own.Bits bits → same_tree (shown_tree t) u ≡ same_tree (Bits bits) u
bits_same t u bits e = ap (λ x. same_tree x u) (bits_shown t bits e)

pub octets_same : (t : Tree) (u : ValueTree) (octets : List ℕ) → t ≡ own.Octets octets → same_tree (shown_tree t) u ≡ same_tree (Octets octets) u
octets_same t u octets e = ap (λ x. same_tree x u) (octets_shown t octets e)

pub text_same : (t : Tree) (u : ValueTree) (text : List ℕ) → t ≡ own.Texted text → same_tree (shown_tree t) u ≡ same_tree (Characters (chars text)) u
text_same t u text e = ap (λ x. same_tree x u) (text_shown t text e)

pub arcs_same : (t : Tree) (u : ValueTree) (x : ObjectIdentifierValue) → t ≡ own.Oid x → same_tree (shown_tree t) u ≡ same_tree (ObjectIdentifierArcs (map arc_tree x.0)) u
arcs_same t u x e = ap (λ x. same_tree x u) (arcs_shown t x e)

pub struct_same : (t : Tree) (u : ValueTree) (fs : List Field) → t ≡ own.Struct fs → same_tree (shown_tree t) u ≡ same_tree (Struct (shown_fields fs)) u
struct_same t u fs e = ap (λ x. same_tree x u) (struct_shown t fs e)

pub elements_same : (t : Tree) (u : ValueTree) (ts : List Tree) → t ≡ own.Elements ts → same_tree (shown_tree t) u ≡ same_tree (Elements (shown_trees ts)) u
elements_same t u ts e = ap (λ x. same_tree x u) (elements_shown t ts e)

pub alternative_same : (t : Tree) (u : ValueTree) (name : List ℕ) (inner : Tree) → t ≡ own.Alternative name inner → same_tree (shown_tree t) u ≡ same_tree (Alternative name (shown_tree inner)) u
alternative_same t u name inner e = ap (λ x. same_tree x u) (alternative_shown t name inner e)

pub opaque_same : (t : Tree) (u : ValueTree) → t ≡ own.Opaque → same_tree (shown_tree t) u ≡ is_opaque u
opaque_same t u e = ap (λ x. same_tree x u) (opaque_shown t e) ∙ opaque_is u
