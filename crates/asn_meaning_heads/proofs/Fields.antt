-- The fields of classes, one by one and along a path.
use Rattle.std.proofs.Common.{◌≡◌, ℕ, ◌+◌, ◌<◌, List, [], ◌∷◌, drop, length, get_or, Bool, true, false, if◌then◌else◌, Option, Some, None, refl, sym, ap, ◌∙◌, codes}
use Rattle.std.specs.Prelude.{is_some}
use Rattle.std.specs.List.{find}
use Rattle.std.specs.Option.{option_map}
use Rattle.std.specs.Str.{bytes_eq}
use Rattle.std.proofs.lemmas.List.{drop_more}
use Rattle.asn_tree_leaves.specs.declared.objects.ObjectFieldIdentifier.{ObjectFieldIdentifier}
use Rattle.asn_tree.specs.declared.objects.InformationObjectClass.{InformationObjectClass}
use Rattle.asn_tree.specs.declared.objects.InformationObjectClassField.{InformationObjectClassField}
use Rattle.asn_tree.specs.declared.types.ASN1Type.{ASN1Type}
use Rattle.asn_tree_notation.specs.Paths.{field_name}
use Rattle.asn_meaning_heads.specs.Classes.{field_ty, kind_names_class, path_type, type_in_class}
use Rattle.asn_meaning.specs.Answers.{once}
use Rattle.asn_meaning.specs.Definitions.{Definitions, class_named, plain_identifier, type_identifier}
use Rattle.asn_meaning.specs.Kinds.{Kind, NullKind, ReferenceKind}
use Rattle.asn_meaning.specs.Layers.{ClassFieldLayer}
use Rattle.asn_meaning.specs.Names.{FieldType, Fixed, class_field_type, fixed_at, fixed_or_open}
use Rattle.asn_meaning.specs.Objects.{field_at_path, field_of}
use Rattle.asn_meaning.specs.Scopes.{Scope, bound_to}

abbrev pub found_in : List InformationObjectClassField → List ℕ → Option InformationObjectClassField
found_in fs name = find (λ f. bytes_eq (field_name f.identifier) name) fs

pub find_first : (fs : List InformationObjectClassField) (i : ℕ) (f : InformationObjectClassField) (name : List ℕ) → i < length fs → f ≡ get_or fs i f →
    found_in (drop i fs) name ≡ (if bytes_eq (field_name f.identifier) name then Some f else found_in (drop (i + 1) fs) name)
find_first fs i f name lt e =
    ap (λ xs. found_in xs name) (drop_more fs i f lt)
    ∙ ap (λ x. found_in (x ∷ drop (i + 1) fs) name) (sym e)

-- ---- the built-in class

pub first_of : {A : Type 0} (b c : Bool) (x y : A) → b ≡ true → (if b then Some x else if c then Some y else None) ≡ Some x
first_of true c x y e = refl
first_of false c x y e = absurd cc

pub second_of : {A : Type 0} (b c : Bool) (x y : A) → b ≡ false → c ≡ true → (if b then Some x else if c then Some y else None) ≡ Some y
second_of true c x y e f = absurd cc
second_of false true x y e f = refl
second_of false false x y e f = absurd cc

pub none_of : {A : Type 0} (b c : Bool) (x y : A) → b ≡ false → c ≡ false → (if b then Some x else if c then Some y else None) ≡ None
none_of true c x y e f = absurd cc
none_of false true x y e f = absurd cc
none_of false false x y e f = refl

pub built_in_value : (name : List ℕ) → bytes_eq (codes "&id") name ≡ true → option_map field_ty (field_of type_identifier name) ≡ Some (Some plain_identifier)
built_in_value name e = ap (option_map field_ty) (first_of (bytes_eq (codes "&id") name) (bytes_eq (codes "&Type") name) _ _ e)

pub built_in_type : (name : List ℕ) → bytes_eq (codes "&id") name ≡ false → bytes_eq (codes "&Type") name ≡ true → option_map field_ty (field_of type_identifier name) ≡ Some None
built_in_type name e f = ap (option_map field_ty) (second_of (bytes_eq (codes "&id") name) (bytes_eq (codes "&Type") name) _ _ e f)

pub built_in_none : (name : List ℕ) → bytes_eq (codes "&id") name ≡ false → bytes_eq (codes "&Type") name ≡ false → option_map field_ty (field_of type_identifier name) ≡ None
built_in_none name e f = ap (option_map field_ty) (none_of (bytes_eq (codes "&id") name) (bytes_eq (codes "&Type") name) _ _ e f)

-- ---- a field's type

pub fixed_by_kind : (defs : Definitions) (ty : ASN1Type) (k : Kind) → fixed_at defs ty k ≡ (if kind_names_class defs k then None else Some (Fixed ty))
fixed_by_kind defs ty NullKind = refl
fixed_by_kind defs ty (ReferenceKind x) = refl
fixed_by_kind defs ty _ = refl

by_field : (defs : Definitions) (f : Option InformationObjectClassField) → once None f (λ g. fixed_or_open defs g.ty) ≡ once None (option_map field_ty f) (fixed_or_open defs)
by_field defs None = refl
by_field defs (Some f) = refl

pub no_such_field : (defs : Definitions) (c : InformationObjectClass) (name : List ℕ) → option_map field_ty (field_of c name) ≡ None → type_in_class defs c name ≡ None
no_such_field defs c name e = by_field defs (field_of c name) ∙ ap (λ t. once None t (fixed_or_open defs)) e

pub such_field : (defs : Definitions) (c : InformationObjectClass) (name : List ℕ) (ty : Option ASN1Type) → option_map field_ty (field_of c name) ≡ Some ty →
    type_in_class defs c name ≡ fixed_or_open defs ty
such_field defs c name ty e = by_field defs (field_of c name) ∙ ap (λ t. once None t (fixed_or_open defs)) e

-- ---- paths

pub path_next : (c : InformationObjectClass) (path : List ObjectFieldIdentifier) (i : ℕ) (f : ObjectFieldIdentifier) (so_far : Option (Option ASN1Type)) → i < length path → f ≡ get_or path i f →
    path_type c so_far (drop i path) ≡ once None (option_map field_ty (field_of c (field_name f))) (λ ty. path_type c (Some ty) (drop (i + 1) path))
path_next c path i f so_far lt e =
    ap (λ xs. path_type c so_far xs) (drop_more path i f lt)
    ∙ ap (λ x. path_type c so_far (x ∷ drop (i + 1) path)) (sym e)

path_ends : (c : InformationObjectClass) (so_far : Option (Option ASN1Type)) (name : ObjectFieldIdentifier) (names : List ObjectFieldIdentifier) →
    path_type c so_far (name ∷ names) ≡ option_map field_ty (field_at_path c (name ∷ names))
path_ends c so_far name [] = go (field_of c (field_name name))
  where
    go : (f : Option InformationObjectClassField) → once None (option_map field_ty f) (λ ty. Some ty) ≡ option_map field_ty f
    go None = refl
    go (Some f) = refl
path_ends c so_far name (next ∷ names) = go (λ ty. path_ends c (Some ty) next names) (field_of c (field_name name))
  where
    go : ((ty : Option ASN1Type) → path_type c (Some ty) (next ∷ names) ≡ option_map field_ty (field_at_path c (next ∷ names))) → (f : Option InformationObjectClassField) →
        once None (option_map field_ty f) (λ ty. path_type c (Some ty) (next ∷ names)) ≡ option_map field_ty (once None f (λ g. field_at_path c (next ∷ names)))
    go each None = refl
    go each (Some f) = each f.ty

path_is : (c : InformationObjectClass) (path : List ObjectFieldIdentifier) → path_type c None path ≡ option_map field_ty (field_at_path c path)
path_is c [] = refl
path_is c (name ∷ names) = path_ends c None name names

-- ---- `C.&f`

chosen : (defs : Definitions) (b : Bool) (c : Option InformationObjectClass) (path : List ObjectFieldIdentifier) → Option FieldType
chosen defs b c path = if b then None else once None c (λ k. once None (field_at_path k path) (λ f. fixed_or_open defs f.ty))

pub dummy_class : (defs : Definitions) (scope : Scope) (x : ClassFieldLayer) → is_some (bound_to scope x.class) ≡ true → class_field_type defs scope x ≡ None
unfolding chosen
dummy_class defs scope x e = ap (λ b. chosen defs b (class_named defs x.class) x.field_path) e

pub missing_class : (defs : Definitions) (scope : Scope) (x : ClassFieldLayer) → class_named defs x.class ≡ None → class_field_type defs scope x ≡ None
unfolding chosen
missing_class defs scope x e = ap (λ c. chosen defs (is_some (bound_to scope x.class)) c x.field_path) e ∙ go (is_some (bound_to scope x.class))
  where
    go : (b : Bool) → chosen defs b None x.field_path ≡ None
    go true = refl
    go false = refl

free_class : (defs : Definitions) (scope : Scope) (x : ClassFieldLayer) (c : InformationObjectClass) → is_some (bound_to scope x.class) ≡ false → class_named defs x.class ≡ Some c →
    class_field_type defs scope x ≡ once None (path_type c None x.field_path) (fixed_or_open defs)
unfolding chosen
free_class defs scope x c free e =
    ap (λ b. chosen defs b (class_named defs x.class) x.field_path) free
    ∙ ap (λ k. chosen defs false k x.field_path) e
    ∙ by_field defs (field_at_path c x.field_path)
    ∙ ap (λ t. once None t (fixed_or_open defs)) (sym (path_is c x.field_path))

pub missing_path : (defs : Definitions) (scope : Scope) (x : ClassFieldLayer) (c : InformationObjectClass) → is_some (bound_to scope x.class) ≡ false → class_named defs x.class ≡ Some c →
    path_type c None x.field_path ≡ None → class_field_type defs scope x ≡ None
missing_path defs scope x c free e f = free_class defs scope x c free e ∙ ap (λ t. once None t (fixed_or_open defs)) f

pub path_found : (defs : Definitions) (scope : Scope) (x : ClassFieldLayer) (c : InformationObjectClass) (ty : Option ASN1Type) → is_some (bound_to scope x.class) ≡ false → class_named defs x.class ≡ Some c →
    path_type c None x.field_path ≡ Some ty → class_field_type defs scope x ≡ fixed_or_open defs ty
path_found defs scope x c ty free e f = free_class defs scope x c free e ∙ ap (λ t. once None t (fixed_or_open defs)) f
