-- Trees that are the same: of structs, the same map.
use Rattle.std.specs.Prelude.{nat_eq, if◌then◌else◌}
use Rattle.std.specs.Str.{bytes_eq}
use Rattle.std.proofs.Common.{◌≡◌, ℕ, ℤ, Bool, true, false, ◌&&◌, ◌||◌, List, [], ◌∷◌, Option, Some, None, refl, sym, subst, ap, ◌∙◌, arith}
use Rattle.std.proofs.lemmas.Bool.Decides.{nat_tests}
use Rattle.std.proofs.lemmas.Int.{ints}
use Rattle.std.proofs.lemmas.Slice.Eq.{bytes_eq-Decides}
use Rattle.asn_meaning.specs.ValueTrees.{Arc, NumberArc, NameArc, ValueTree, NullValue, TruthValue, WholeNumber, ItemNumber, RealNumber, Bits, Octets, Characters, ObjectIdentifierArcs, Struct, Elements, Alternative, Opaque, Fields, no_field, field, field_named, field_names, ValueTrees, no_tree, tree, are_among, is_among, same_arc, same_arcs, same_bits, same_fields, same_number, same_tree, same_trees, same_truth}

-- ---- parts without trees

and_true : (a b : Bool) → (a && b) ≡ true → (a ≡ true) × (b ≡ true)
and_true true true e = (refl, refl)
and_true true false e = absurd cc
and_true false b e = absurd cc

both_true : (a b : Bool) → a ≡ true → b ≡ true → (a && b) ≡ true
both_true a b e f = ap (λ z. z && b) e ∙ f

pub number_is : (i j : ℤ) → same_number i j ≡ true → i ≡ j
number_is i j e = grind (arith, ints)

number_same : (i : ℤ) → same_number i i ≡ true
number_same i = grind (arith, ints)

nat_is : (m n : ℕ) → nat_eq m n ≡ true → m ≡ n
nat_is m n e = grind (arith, nat_tests)

nat_same : (n : ℕ) → nat_eq n n ≡ true
nat_same n = grind (arith, nat_tests)

bytes_are : (a b : List ℕ) → bytes_eq a b ≡ true → a ≡ b
bytes_are a b e = (bytes_eq-Decides a b).0 e

bytes_same : (a : List ℕ) → bytes_eq a a ≡ true
bytes_same a = (bytes_eq-Decides a a).1 refl

truth_is : (a b : Bool) → same_truth a b ≡ true → a ≡ b
truth_is true true e = refl
truth_is true false e = absurd cc
truth_is false true e = absurd cc
truth_is false false e = refl

truth_same : (a : Bool) → same_truth a a ≡ true
truth_same true = refl
truth_same false = refl

bits_are : (a b : List Bool) → same_bits a b ≡ true → a ≡ b
bits_are [] [] e = refl
bits_are [] (y ∷ b) e = absurd cc
bits_are (x ∷ a) [] e = absurd cc
bits_are (x ∷ a) (y ∷ b) e = let p = and_true (same_truth x y) (same_bits a b) e in ap (λ z. z ∷ a) (truth_is x y p.0) ∙ ap (λ z. y ∷ z) (bits_are a b p.1)

bits_same : (a : List Bool) → same_bits a a ≡ true
bits_same [] = refl
bits_same (x ∷ a) = both_true _ _ (truth_same x) (bits_same a)

arc_is : (a b : Arc) → same_arc a b ≡ true → a ≡ b
arc_is (NumberArc m) (NumberArc n) e = ap NumberArc (nat_is m n e)
arc_is (NameArc a) (NameArc b) e = ap NameArc (bytes_are a b e)
arc_is (NumberArc m) (NameArc b) e = absurd cc
arc_is (NameArc a) (NumberArc n) e = absurd cc

arc_same : (a : Arc) → same_arc a a ≡ true
arc_same (NumberArc m) = nat_same m
arc_same (NameArc a) = bytes_same a

arcs_are : (a b : List Arc) → same_arcs a b ≡ true → a ≡ b
arcs_are [] [] e = refl
arcs_are [] (y ∷ b) e = absurd cc
arcs_are (x ∷ a) [] e = absurd cc
arcs_are (x ∷ a) (y ∷ b) e = let p = and_true (same_arc x y) (same_arcs a b) e in ap (λ z. z ∷ a) (arc_is x y p.0) ∙ ap (λ z. y ∷ z) (arcs_are a b p.1)

arcs_same : (a : List Arc) → same_arcs a a ≡ true
arcs_same [] = refl
arcs_same (x ∷ a) = both_true _ _ (arc_same x) (arcs_same a)

-- ---- structs as maps

-- both are absent, or both are there and the same
abbrev pub BothSame : Option ValueTree → Option ValueTree → Type 0
BothSame None b = b ≡ None
BothSame (Some t) b = (u : ValueTree) × (b ≡ Some u) × (same_tree t u ≡ true)

abbrev pub SameMaps : Fields → Fields → Type 0
SameMaps fs gs = (name : List ℕ) → BothSame (field_named fs name) (field_named gs name)

or_false : (a b : Bool) → (a || b) ≡ false → (a ≡ false) × (b ≡ false)
or_false false false e = (refl, refl)
or_false true b e = absurd cc
or_false false true e = absurd cc

or_right : (a b : Bool) → a ≡ false → (a || b) ≡ true → b ≡ true
or_right true b e f = absurd cc
or_right false b e f = f

abbrev there : ValueTree → Option ValueTree → Bool
there t o = elim o [ Some u ↦ same_tree t u | None ↦ false ]

found_there : (t : ValueTree) (o : Option ValueTree) → there t o ≡ true → (u : ValueTree) × (o ≡ Some u) × (same_tree t u ≡ true)
found_there t None e = absurd cc
found_there t (Some u) e = (u, refl, e)

-- what stands in the first stands in the second, and is the same there
maps_on : (seen : List (List ℕ)) (fs gs : Fields) → same_fields seen fs gs ≡ true → (name : List ℕ) → is_among seen name ≡ false → (t : ValueTree) → field_named fs name ≡ Some t → (u : ValueTree) × (field_named gs name ≡ Some u) × (same_tree t u ≡ true)
maps_on seen no_field gs e name new t f = absurd cc
maps_on seen (field n x fs) gs e name new t f =
    let p = and_true (is_among seen n || there x (field_named gs n)) (same_fields (n ∷ seen) fs gs) e in
    go (bytes_eq n name) refl f p.0 (λ b. maps_on (n ∷ seen) fs gs p.1 name b t)
  where
    go : (b : Bool) → bytes_eq n name ≡ b → (if b then Some x else field_named fs name) ≡ Some t → (is_among seen n || there x (field_named gs n)) ≡ true →
        ((bytes_eq n name || is_among seen name) ≡ false → field_named fs name ≡ Some t → (u : ValueTree) × (field_named gs name ≡ Some u) × (same_tree t u ≡ true)) → (u : ValueTree) × (field_named gs name ≡ Some u) × (same_tree t u ≡ true)
    go true test g h k =
        let same : n ≡ name = bytes_are n name test in
        let here : there x (field_named gs n) ≡ true = or_right (is_among seen n) _ (ap (is_among seen) same ∙ new) h in
        let y = found_there x (field_named gs n) here in
        let is : x ≡ t = cc in
        (y.0, ap (field_named gs) (sym same) ∙ y.1, subst (λ z. same_tree z y.0 ≡ true) is y.2)
    go false test g h k = k (ap (λ b. b || is_among seen name) test ∙ new) g

pub named_is_among : (gs : Fields) (name : List ℕ) (u : ValueTree) → field_named gs name ≡ Some u → (names : List (List ℕ)) → are_among names gs ≡ true → is_among names name ≡ true
named_is_among no_field name u e names h = absurd cc
named_is_among (field n x gs) name u e names h =
    let p = and_true (is_among names n) (are_among names gs) h in
    go (bytes_eq n name) refl e p.0 (λ f. named_is_among gs name u f names p.1)
  where
    go : (b : Bool) → bytes_eq n name ≡ b → (if b then Some x else field_named gs name) ≡ Some u → is_among names n ≡ true → (field_named gs name ≡ Some u → is_among names name ≡ true) → is_among names name ≡ true
    go true test f g k = ap (is_among names) (sym (bytes_are n name test)) ∙ g
    go false test f g k = k f

among_named : (fs : Fields) (name : List ℕ) → is_among (field_names fs) name ≡ true → field_named fs name ≡ None → ⊥
among_named no_field name e f = cc
among_named (field n x fs) name e f = go (bytes_eq n name) e f (among_named fs name)
  where
    go : (b : Bool) → (b || is_among (field_names fs) name) ≡ true → (if b then Some x else field_named fs name) ≡ None → (is_among (field_names fs) name ≡ true → field_named fs name ≡ None → ⊥) → ⊥
    go true g h k = cc
    go false g h k = k g h

pub same_maps : (fs gs : Fields) → same_tree (Struct fs) (Struct gs) ≡ true → SameMaps fs gs
same_maps fs gs e name = go (field_named fs name) refl
  where
    p : (same_fields [] fs gs ≡ true) × (are_among (field_names fs) gs ≡ true)
    p = and_true (same_fields [] fs gs) (are_among (field_names fs) gs) e

    none : (o : Option ValueTree) → field_named gs name ≡ o → field_named fs name ≡ None → o ≡ None
    none None is f = refl
    none (Some u) is f = absurd (among_named fs name (named_is_among gs name u is (field_names fs) p.1) f)

    go : (o : Option ValueTree) → field_named fs name ≡ o → BothSame o (field_named gs name)
    go None is = none (field_named gs name) refl is
    go (Some t) is = maps_on [] fs gs p.0 name refl t is

maps_back : (seen : List (List ℕ)) (fs gs : Fields) → ((name : List ℕ) → is_among seen name ≡ false → BothSame (field_named fs name) (field_named gs name)) → same_fields seen fs gs ≡ true
maps_back seen no_field gs h = refl
maps_back seen (field n x fs) gs h = both_true _ _ (here (is_among seen n) refl) (maps_back (n ∷ seen) fs gs later)
  where
    here : (b : Bool) → is_among seen n ≡ b → (is_among seen n || there x (field_named gs n)) ≡ true
    here true is = ap (λ b. b || there x (field_named gs n)) is
    here false is =
        let s : BothSame (Some x) (field_named gs n) = subst (λ b. BothSame (if b then Some x else field_named fs n) (field_named gs n)) (bytes_same n) (h n is) in
        ap (λ b. b || there x (field_named gs n)) is ∙ ap (there x) s.1 ∙ s.2

    later : (name : List ℕ) → is_among (n ∷ seen) name ≡ false → BothSame (field_named fs name) (field_named gs name)
    later name new = let q = or_false (bytes_eq n name) (is_among seen name) new in subst (λ b. BothSame (if b then Some x else field_named fs name) (field_named gs name)) q.0 (h name q.1)

pub among_by : (names : List (List ℕ)) (hs : Fields) → ((name : List ℕ) → is_among (field_names hs) name ≡ true → is_among names name ≡ true) → are_among names hs ≡ true
among_by names no_field k = refl
among_by names (field n x hs) k =
    both_true _ _ (k n (ap (λ b. b || is_among (field_names hs) n) (bytes_same n))) (among_by names hs (λ name e. k name (longer (bytes_eq n name) (is_among (field_names hs) name) e)))
  where
    longer : (a b : Bool) → b ≡ true → (a || b) ≡ true
    longer true b e = refl
    longer false b e = e

pub in_names : (fs : Fields) (name : List ℕ) (t : ValueTree) → field_named fs name ≡ Some t → is_among (field_names fs) name ≡ true
in_names no_field name t e = absurd cc
in_names (field n x fs) name t e = go (bytes_eq n name) e (in_names fs name t)
  where
    go : (b : Bool) → (if b then Some x else field_named fs name) ≡ Some t → (field_named fs name ≡ Some t → is_among (field_names fs) name ≡ true) → (b || is_among (field_names fs) name) ≡ true
    go true f k = refl
    go false f k = k f

pub out_names : (fs : Fields) (name : List ℕ) → is_among (field_names fs) name ≡ true → (t : ValueTree) × (field_named fs name ≡ Some t)
out_names fs name e = go (field_named fs name) refl
  where
    go : (o : Option ValueTree) → field_named fs name ≡ o → (t : ValueTree) × (o ≡ Some t)
    go None is = absurd (among_named fs name e is)
    go (Some t) is = (t, refl)

same_structs : (fs gs : Fields) → SameMaps fs gs → same_tree (Struct fs) (Struct gs) ≡ true
same_structs fs gs h = both_true _ _ (maps_back [] fs gs (λ name new. h name)) (among_by (field_names fs) gs (λ name e. (let u = out_names gs name e in back name u.0 u.1)))
  where
    back : (name : List ℕ) (u : ValueTree) → field_named gs name ≡ Some u → is_among (field_names fs) name ≡ true
    back name u is = go (field_named fs name) refl (h name)
      where
        go : (o : Option ValueTree) → field_named fs name ≡ o → BothSame o (field_named gs name) → is_among (field_names fs) name ≡ true
        go None e k = let no : None ≡ Some u = sym k ∙ is in absurd cc
        go (Some t) e k = in_names fs name t e

-- ---- a tree that is the same as two others

-- the same tree, where it has no parts
abbrev Flat : ValueTree → ValueTree → Type 0
Flat t u = same_tree t u ≡ true → t ≡ u

-- what is so of each tree of a struct
abbrev EachField : (ValueTree → Type 0) → Fields → Type 0
EachField Q fs = (name : List ℕ) (t : ValueTree) → field_named fs name ≡ Some t → Q t

chosen : (Q : ValueTree → Type 0) (b : Bool) (t u : ValueTree) (o : Option ValueTree) → Q t → (o ≡ Some u → Q u) → (if b then Some t else o) ≡ Some u → Q u
chosen Q true t u o here later h = let same : t ≡ u = cc in subst Q same here
chosen Q false t u o here later h = later h

-- Euclid's: two trees that are the same as a third are the same
abbrev pub Through : ValueTree → Type 0
Through t = (u w : ValueTree) → same_tree t u ≡ true → same_tree t w ≡ true → same_tree u w ≡ true

maps_through : (fs gs hs : Fields) → EachField Through fs → SameMaps fs gs → SameMaps fs hs → SameMaps gs hs
maps_through fs gs hs k p q name = go (field_named fs name) refl (p name) (q name)
  where
    go : (o : Option ValueTree) → field_named fs name ≡ o → BothSame o (field_named gs name) → BothSame o (field_named hs name) → BothSame (field_named gs name) (field_named hs name)
    go None is a b = subst (λ z. BothSame z (field_named hs name)) (sym a) b
    go (Some t) is a b = subst (λ z. BothSame z (field_named hs name)) (sym a.1) (b.0, b.1, k name t is a.0 b.0 a.2 b.2)

null_view : (u : ValueTree) → same_tree NullValue u ≡ true → u ≡ NullValue
null_view NullValue e = refl
null_view _ e = absurd cc

truth_view : (b : Bool) (u : ValueTree) → same_tree (TruthValue b) u ≡ true → u ≡ TruthValue b
truth_view b (TruthValue c) e = ap TruthValue (sym (truth_is b c e))
truth_view b _ e = absurd cc

whole_view : (i : ℤ) (u : ValueTree) → same_tree (WholeNumber i) u ≡ true → u ≡ WholeNumber i
whole_view i (WholeNumber j) e = ap WholeNumber (sym (number_is i j e))
whole_view i _ e = absurd cc

item_view : (i : ℤ) (u : ValueTree) → same_tree (ItemNumber i) u ≡ true → u ≡ ItemNumber i
item_view i (ItemNumber j) e = ap ItemNumber (sym (number_is i j e))
item_view i _ e = absurd cc

real_view : (m : ℤ) (b : ℕ) (x : ℤ) (u : ValueTree) → same_tree (RealNumber m b x) u ≡ true → u ≡ RealNumber m b x
real_view m b x (RealNumber n c y) e =
    let p = and_true (same_number m n && nat_eq b c) (same_number x y) e in
    let q = and_true (same_number m n) (nat_eq b c) p.0 in
    sym (ap (λ z. RealNumber z b x) (number_is m n q.0) ∙ ap (λ z. RealNumber n z x) (nat_is b c q.1) ∙ ap (RealNumber n c) (number_is x y p.1))
real_view m b x _ e = absurd cc

bits_view : (a : List Bool) (u : ValueTree) → same_tree (Bits a) u ≡ true → u ≡ Bits a
bits_view a (Bits b) e = ap Bits (sym (bits_are a b e))
bits_view a _ e = absurd cc

octets_view : (a : List ℕ) (u : ValueTree) → same_tree (Octets a) u ≡ true → u ≡ Octets a
octets_view a (Octets b) e = ap Octets (sym (bytes_are a b e))
octets_view a _ e = absurd cc

text_view : (a : List ℕ) (u : ValueTree) → same_tree (Characters a) u ≡ true → u ≡ Characters a
text_view a (Characters b) e = ap Characters (sym (bytes_are a b e))
text_view a _ e = absurd cc

arcs_view : (a : List Arc) (u : ValueTree) → same_tree (ObjectIdentifierArcs a) u ≡ true → u ≡ ObjectIdentifierArcs a
arcs_view a (ObjectIdentifierArcs b) e = ap ObjectIdentifierArcs (sym (arcs_are a b e))
arcs_view a _ e = absurd cc

opaque_view : (u : ValueTree) → same_tree Opaque u ≡ true → u ≡ Opaque
opaque_view Opaque e = refl
opaque_view _ e = absurd cc

struct_view : (fs : Fields) (u : ValueTree) → same_tree (Struct fs) u ≡ true → (gs : Fields) × (u ≡ Struct gs) × SameMaps fs gs
struct_view fs (Struct gs) e = (gs, refl, same_maps fs gs e)
struct_view fs _ e = absurd cc

elements_view : (ts : ValueTrees) (u : ValueTree) → same_tree (Elements ts) u ≡ true → (us : ValueTrees) × (u ≡ Elements us) × (same_trees ts us ≡ true)
elements_view ts (Elements us) e = (us, refl, e)
elements_view ts _ e = absurd cc

alternative_view : (name : List ℕ) (t u : ValueTree) → same_tree (Alternative name t) u ≡ true → (v : ValueTree) × (u ≡ Alternative name v) × (same_tree t v ≡ true)
alternative_view name t (Alternative other v) e =
    let p = and_true (bytes_eq name other) (same_tree t v) e in
    (v, ap (λ z. Alternative z v) (sym (bytes_are name other p.0)), p.1)
alternative_view name t _ e = absurd cc

pub trees_view : (t : ValueTree) (ts us : ValueTrees) → same_trees (tree t ts) us ≡ true → (u : ValueTree) × (vs : ValueTrees) × (us ≡ tree u vs) × (same_tree t u ≡ true) × (same_trees ts vs ≡ true)
trees_view t ts no_tree e = absurd cc
trees_view t ts (tree u vs) e = let p = and_true (same_tree t u) (same_trees ts vs) e in (u, vs, refl, p.0, p.1)

pub no_view : (us : ValueTrees) → same_trees no_tree us ≡ true → us ≡ no_tree
no_view no_tree e = refl
no_view (tree u us) e = absurd cc

-- two trees, of which the second is the same as the first, by their form
pub by_view : (P : ValueTree → ValueTree → Type 0) → ((t : ValueTree) → P t t) → ((fs gs : Fields) → SameMaps fs gs → P (Struct fs) (Struct gs)) → ((ts us : ValueTrees) → same_trees ts us ≡ true → P (Elements ts) (Elements us)) → ((name : List ℕ) (t u : ValueTree) → same_tree t u ≡ true → P (Alternative name t) (Alternative name u)) → (t u : ValueTree) → same_tree t u ≡ true → P t u
by_view P one maps lists named NullValue u e = subst (P NullValue) (sym (null_view u e)) (one NullValue)
by_view P one maps lists named (TruthValue b) u e = subst (P (TruthValue b)) (sym (truth_view b u e)) (one (TruthValue b))
by_view P one maps lists named (WholeNumber i) u e = subst (P (WholeNumber i)) (sym (whole_view i u e)) (one (WholeNumber i))
by_view P one maps lists named (ItemNumber i) u e = subst (P (ItemNumber i)) (sym (item_view i u e)) (one (ItemNumber i))
by_view P one maps lists named (RealNumber m b x) u e = subst (P (RealNumber m b x)) (sym (real_view m b x u e)) (one (RealNumber m b x))
by_view P one maps lists named (Bits a) u e = subst (P (Bits a)) (sym (bits_view a u e)) (one (Bits a))
by_view P one maps lists named (Octets a) u e = subst (P (Octets a)) (sym (octets_view a u e)) (one (Octets a))
by_view P one maps lists named (Characters a) u e = subst (P (Characters a)) (sym (text_view a u e)) (one (Characters a))
by_view P one maps lists named (ObjectIdentifierArcs a) u e = subst (P (ObjectIdentifierArcs a)) (sym (arcs_view a u e)) (one (ObjectIdentifierArcs a))
by_view P one maps lists named (Struct fs) u e = let v = struct_view fs u e in subst (P (Struct fs)) (sym v.1) (maps fs v.0 v.2)
by_view P one maps lists named (Elements ts) u e = let v = elements_view ts u e in subst (P (Elements ts)) (sym v.1) (lists ts v.0 v.2)
by_view P one maps lists named (Alternative name t) u e = let v = alternative_view name t u e in subst (P (Alternative name t)) (sym v.1) (named name t v.0 v.2)
by_view P one maps lists named Opaque u e = subst (P Opaque) (sym (opaque_view u e)) (one Opaque)

abbrev Itself : ValueTree → Type 0
Itself t = same_tree t t ≡ true

maps_itself : (fs : Fields) → EachField Itself fs → SameMaps fs fs
maps_itself fs k name = go (field_named fs name) refl
  where
    go : (o : Option ValueTree) → field_named fs name ≡ o → BothSame o (field_named fs name)
    go None is = is
    go (Some t) is = (t, is, k name t is)

mutual
  pub tree_itself : (t : ValueTree) → Itself t
  tree_itself NullValue = refl
  tree_itself (TruthValue b) = truth_same b
  tree_itself (WholeNumber i) = number_same i
  tree_itself (ItemNumber i) = number_same i
  tree_itself (RealNumber m b x) = both_true _ _ (both_true _ _ (number_same m) (nat_same b)) (number_same x)
  tree_itself (Bits a) = bits_same a
  tree_itself (Octets a) = bytes_same a
  tree_itself (Characters a) = bytes_same a
  tree_itself (ObjectIdentifierArcs a) = arcs_same a
  tree_itself (Struct fs) = same_structs fs fs (maps_itself fs (fields_itself fs))
  tree_itself (Elements ts) = trees_itself ts
  tree_itself (Alternative name t) = both_true _ _ (bytes_same name) (tree_itself t)
  tree_itself Opaque = refl

  fields_itself : (fs : Fields) → EachField Itself fs
  fields_itself no_field name t e = absurd cc
  fields_itself (field n x fs) name t e = chosen Itself (bytes_eq n name) x t (field_named fs name) (tree_itself x) (fields_itself fs name t) e

  trees_itself : (ts : ValueTrees) → same_trees ts ts ≡ true
  trees_itself no_tree = refl
  trees_itself (tree t ts) = both_true _ _ (tree_itself t) (trees_itself ts)

-- trees that equal one tree are the same
flat_through : (t u w : ValueTree) → u ≡ t → w ≡ t → same_tree u w ≡ true
flat_through t u w e f = ap (λ z. same_tree z w) e ∙ ap (same_tree t) f ∙ tree_itself t

mutual
  tree_through : (t : ValueTree) → Through t
  tree_through NullValue u w e f = flat_through NullValue u w (null_view u e) (null_view w f)
  tree_through (TruthValue b) u w e f = flat_through (TruthValue b) u w (truth_view b u e) (truth_view b w f)
  tree_through (WholeNumber i) u w e f = flat_through (WholeNumber i) u w (whole_view i u e) (whole_view i w f)
  tree_through (ItemNumber i) u w e f = flat_through (ItemNumber i) u w (item_view i u e) (item_view i w f)
  tree_through (RealNumber m b x) u w e f = flat_through (RealNumber m b x) u w (real_view m b x u e) (real_view m b x w f)
  tree_through (Bits a) u w e f = flat_through (Bits a) u w (bits_view a u e) (bits_view a w f)
  tree_through (Octets a) u w e f = flat_through (Octets a) u w (octets_view a u e) (octets_view a w f)
  tree_through (Characters a) u w e f = flat_through (Characters a) u w (text_view a u e) (text_view a w f)
  tree_through (ObjectIdentifierArcs a) u w e f = flat_through (ObjectIdentifierArcs a) u w (arcs_view a u e) (arcs_view a w f)
  tree_through (Struct fs) u w e f =
      let p = struct_view fs u e in
      let q = struct_view fs w f in
      ap (λ z. same_tree z w) p.1 ∙ ap (same_tree (Struct p.0)) q.1 ∙ same_structs p.0 q.0 (maps_through fs p.0 q.0 (fields_through fs) p.2 q.2)
  tree_through (Elements ts) u w e f =
      let p = elements_view ts u e in
      let q = elements_view ts w f in
      ap (λ z. same_tree z w) p.1 ∙ ap (same_tree (Elements p.0)) q.1 ∙ trees_through ts p.0 q.0 p.2 q.2
  tree_through (Alternative name t) u w e f =
      let p = alternative_view name t u e in
      let q = alternative_view name t w f in
      ap (λ z. same_tree z w) p.1 ∙ ap (same_tree (Alternative name p.0)) q.1 ∙ both_true _ _ (bytes_same name) (tree_through t p.0 q.0 p.2 q.2)
  tree_through Opaque u w e f = flat_through Opaque u w (opaque_view u e) (opaque_view w f)

  fields_through : (fs : Fields) → EachField Through fs
  fields_through no_field name t e = absurd cc
  fields_through (field n x fs) name t e = chosen Through (bytes_eq n name) x t (field_named fs name) (tree_through x) (fields_through fs name t) e

  trees_through : (ts us ws : ValueTrees) → same_trees ts us ≡ true → same_trees ts ws ≡ true → same_trees us ws ≡ true
  trees_through no_tree us ws e f = ap (λ z. same_trees z ws) (no_view us e) ∙ ap (same_trees no_tree) (no_view ws f)
  trees_through (tree t ts) us ws e f =
      let p = trees_view t ts us e in
      let q = trees_view t ts ws f in
      ap (λ z. same_trees z ws) p.2 ∙ ap (same_trees (tree p.0 p.1)) q.2 ∙ both_true _ _ (tree_through t p.0 q.0 p.3 q.3) (trees_through ts p.1 q.1 p.4 q.4)

pub turned : (t u : ValueTree) → same_tree t u ≡ true → same_tree u t ≡ true
turned t u e = tree_through t u t e (tree_itself t)

pub same_to : (t u w : ValueTree) → same_tree t u ≡ true → same_tree u w ≡ same_tree t w
same_to t u w e = go (same_tree t w) (same_tree u w) refl refl
  where
    go : (b c : Bool) → same_tree t w ≡ b → same_tree u w ≡ c → same_tree u w ≡ same_tree t w
    go true c is has = tree_through t u w e is ∙ sym is
    go false true is has = let f : same_tree t w ≡ true = tree_through u t w (turned t u e) has in absurd cc
    go false false is has = has ∙ sym is

pub maps_turned : (fs gs : Fields) → SameMaps fs gs → SameMaps gs fs
maps_turned fs gs h name = go (field_named fs name) refl (h name)
  where
    go : (o : Option ValueTree) → field_named fs name ≡ o → BothSame o (field_named gs name) → BothSame (field_named gs name) (field_named fs name)
    go None is k = subst (λ z. BothSame z (field_named fs name)) (sym k) is
    go (Some t) is k = subst (λ z. BothSame z (field_named fs name)) (sym k.1) (t, is, turned t k.0 k.2)
