-- Forms at one place, one behind the other.
use Rattle.std.proofs.Common.{◌≡◌, ℕ, List, [], ◌∷◌, ◌++◌, map, true, false, Option, Some, None, refl, sym, ap, ◌∙◌, codes}
use Rattle.std.proofs.lemmas.List.{map-append}
use Rattle.std.specs.Str.{bytes_eq}
use Rattle.asn_tree.specs.declared.definitions.Parameterization.{Parameterization}
use Rattle.asn_tree.specs.declared.definitions.ParameterizationArgument.{ParameterizationArgument}
use Rattle.asn_tree.specs.declared.definitions.ToplevelDefinition.{ToplevelDefinition}
use Rattle.asn_tree.specs.declared.definitions.ToplevelValueDefinition.{ToplevelValueDefinition}
use Rattle.asn_tree.specs.declared.objects.ASN1Information.{ASN1Information}
use Rattle.asn_tree.specs.declared.objects.ASN1Information.TheVariants.{ObjectSet}
use Rattle.asn_tree.specs.declared.objects.InformationObjectClass.{InformationObjectClass}
use Rattle.asn_tree.specs.declared.objects.InformationObjectClassField.{InformationObjectClassField}
use Rattle.asn_tree.specs.declared.objects.ClassLink.{ClassLink}
use Rattle.asn_meaning_heads.proofs.Fields.{first_of, none_of, second_of}
use Rattle.asn_meaning.specs.Answers.{once}
use Rattle.asn_meaning.specs.Definitions.{Definitions, class_named, last_named, type_identifier}
use Rattle.asn_meaning.specs.Objects.{field_of}
use Rattle.asn_meaning.specs.Scopes.{Scope, Empty}
use Rattle.asn_needs.specs.Dummies.{class_in_scope, filled}
use Rattle.asn_needs.specs.Sites.{ADummy, AnObjectSet, AtHeadOfField, ClassField, ClassName, Form, LooseList, ObjectSet as ObjectSetTree, OfField, Site, ToDefinition, ToField, beside, each_of}
use Rattle.asn_needs.specs.Stands.{class_link_name, dummies_of, dummy_forms, first_sites, information_forms, node_sites, outermost, own_scope}
use Rattle.asn_places_types.specs.Forms.{shown_field}
use Rattle.asn_places_types.specs.declared.forms.ClassFieldForm.TheVariants as field
use Rattle.asn_places_objects.specs.inner.Beginning.{all_beside, around_own, begun_with, value_forms}
use Rattle.asn_places_types.proofs.Adding.{nothing_more}

-- ---- forms and dummies

twice : {A B C : Type 0} (f : A → B) (g : B → C) (xs : List A) → map g (map f xs) ≡ map (λ x. g (f x)) xs
twice f g [] = refl
twice f g (x ∷ xs) = ap (λ ys. g (f x) ∷ ys) (twice f g xs)

-- the fields of a class
pub fields_beside : (s : Site) (fs : List InformationObjectClassField) (all xs : List Site) → all ≡ xs ++ map (λ f. beside s (ClassField OfField f)) fs →
    all ≡ xs ++ all_beside s (map (ClassField OfField) fs)
fields_beside s fs all xs e = e ∙ ap (λ ys. xs ++ ys) (sym (twice (ClassField OfField) (beside s) fs))

-- what a definition itself is, and then its dummies
pub begun_done : (t : Option Parameterization) (s : Site) (ds : List ParameterizationArgument) (forms : List Form) (all some : List Site) → s ≡ around_own t → ds ≡ dummies_of t →
    some ≡ [] ++ all_beside s forms → all ≡ some ++ map (λ d. beside s (ADummy d)) ds → all ≡ begun_with t forms
begun_done t s ds forms all some e d f g =
    g ∙ ap (λ ys. ys ++ map (λ d. beside s (ADummy d)) ds) f
    ∙ ap (λ z. map (beside z) forms ++ map (λ d. beside z (ADummy d)) ds) e
    ∙ ap (λ z. map (outermost t) forms ++ map (λ d. outermost t (ADummy d)) z) d
    ∙ ap (λ ys. map (outermost t) forms ++ ys) (sym (twice ADummy (outermost t) (dummies_of t)))
    ∙ sym (map-append (outermost t) forms (dummy_forms t))

-- the same where the forms are read in the scope of the surroundings
pub begun_in : (t : Option Parameterization) (s : Site) (ds : List ParameterizationArgument) (forms : Site → List Form) (all some : List Site) → s ≡ around_own t → ds ≡ dummies_of t →
    some ≡ [] ++ all_beside s (forms s) → all ≡ some ++ map (λ d. beside s (ADummy d)) ds → all ≡ begun_with t (forms (around_own t))
begun_in t s ds forms all some e d f g = begun_done t s ds (forms s) all some e d f g ∙ ap (λ z. begun_with t (forms z)) e

pub value_begun : (t : Option Parameterization) (s : Site) (ds : List ParameterizationArgument) (d : ToplevelValueDefinition) (all some : List Site) → s ≡ around_own t → ds ≡ dummies_of t →
    some ≡ [] ++ all_beside s (value_forms s.scope d) → all ≡ some ++ map (λ d. beside s (ADummy d)) ds → all ≡ begun_with t (value_forms (own_scope t) d)
value_begun t s ds d all some e f g h = begun_in t s ds (λ z. value_forms z.scope d) all some e f g h

pub information_begun : (defs : Definitions) (t : Option Parameterization) (s : Site) (ds : List ParameterizationArgument) (link : Option ClassLink) (x : ASN1Information) (all some : List Site) → s ≡ around_own t →
    ds ≡ dummies_of t → some ≡ [] ++ all_beside s (information_forms defs s.scope link x) → all ≡ some ++ map (λ d. beside s (ADummy d)) ds → all ≡ begun_with t (information_forms defs (own_scope t) link x)
information_begun defs t s ds link x all some e f g h = begun_in t s ds (λ z. information_forms defs z.scope link x) all some e f g h

-- ---- what surrounds a definition

abbrev pub around_at : Scope → Site
around_at scope = record { form = LooseList; scope = scope; nest = []; is_opaque = false; way = [] }

pub own_made : (t : Option Parameterization) (ds : List ParameterizationArgument) (outer scope : Scope) (s : Site) → outer ≡ Empty → ds ≡ dummies_of t → scope ≡ filled outer ds [] →
    s ≡ around_at scope → s ≡ around_own t
own_made t ds outer scope s e f g h = h ∙ ap around_at (g ∙ ap (λ o. filled o ds []) e ∙ ap (λ d. filled Empty d []) f)

pub field_begun : (f : InformationObjectClassField) (outer : Scope) (s : Site) (xs : List Site) → outer ≡ Empty → s ≡ around_at outer → xs ≡ beside s (ClassField AtHeadOfField f) ∷ [] →
    xs ≡ outermost None (ClassField AtHeadOfField f) ∷ []
field_begun f outer s xs e g h = h ∙ ap (λ z. beside z (ClassField AtHeadOfField f) ∷ []) (g ∙ ap around_at e)

-- ---- object sets

pub set_unnamed : (defs : Definitions) (s : Site) (link : Option ClassLink) (set : ObjectSetTree) (xs : List Site) → [] ≡ class_link_name link → xs ≡ xs ++ all_beside s (information_forms defs s.scope link (ObjectSet set))
set_unnamed defs s link set xs e = nothing_more xs ∙ ap (λ names. xs ++ all_beside s (each_of (λ name. ClassName name ∷ AnObjectSet (class_in_scope defs s.scope name) set ∷ []) names)) e

pub set_named : (defs : Definitions) (s : Site) (link : Option ClassLink) (set : ObjectSetTree) (name : List ℕ) (all xs : List Site) → name ∷ [] ≡ class_link_name link →
    all ≡ xs ++ all_beside s (ClassName name ∷ AnObjectSet (class_in_scope defs s.scope name) set ∷ []) → all ≡ xs ++ all_beside s (information_forms defs s.scope link (ObjectSet set))
set_named defs s link set name all xs e f = f ∙ ap (λ names. xs ++ all_beside s (each_of (λ name. ClassName name ∷ AnObjectSet (class_in_scope defs s.scope name) set ∷ []) names)) e

-- ---- fields of the built-in class

pub field_value : (name : List ℕ) → bytes_eq (codes "&id") name ≡ true → field_of type_identifier name ≡ Some (shown_field field.Identifier)
field_value name e = first_of (bytes_eq (codes "&id") name) (bytes_eq (codes "&Type") name) _ _ e

pub field_type : (name : List ℕ) → bytes_eq (codes "&id") name ≡ false → bytes_eq (codes "&Type") name ≡ true → field_of type_identifier name ≡ Some (shown_field field.IdentifiedType)
field_type name e f = second_of (bytes_eq (codes "&id") name) (bytes_eq (codes "&Type") name) _ _ e f

pub field_none : (name : List ℕ) → bytes_eq (codes "&id") name ≡ false → bytes_eq (codes "&Type") name ≡ false → field_of type_identifier name ≡ None
field_none name e f = none_of (bytes_eq (codes "&id") name) (bytes_eq (codes "&Type") name) _ _ e f

-- ---- nodes

pub no_definition : (defs : Definitions) (name : List ℕ) → last_named defs name ≡ None → node_sites defs (ToDefinition name) ≡ []
no_definition defs name e = ap (λ o. once [] o (first_sites defs)) e

pub some_definition : (defs : Definitions) (name : List ℕ) (d : ToplevelDefinition) → last_named defs name ≡ Some d → node_sites defs (ToDefinition name) ≡ first_sites defs d
some_definition defs name d e = ap (λ o. once [] o (first_sites defs)) e

pub no_class : (defs : Definitions) (class name : List ℕ) → class_named defs class ≡ None → node_sites defs (ToField class name) ≡ []
no_class defs class name e = ap (λ o. once [] o (λ c. once [] (field_of c name) (λ f. outermost None (ClassField AtHeadOfField f) ∷ []))) e

pub no_field : (defs : Definitions) (class name : List ℕ) (c : InformationObjectClass) → class_named defs class ≡ Some c → field_of c name ≡ None → node_sites defs (ToField class name) ≡ []
no_field defs class name c e f =
    ap (λ o. once [] o (λ c. once [] (field_of c name) (λ f. outermost None (ClassField AtHeadOfField f) ∷ []))) e
    ∙ ap (λ o. once [] o (λ f. outermost None (ClassField AtHeadOfField f) ∷ [])) f

pub some_field : (defs : Definitions) (class name : List ℕ) (c : InformationObjectClass) (x : InformationObjectClassField) → class_named defs class ≡ Some c → field_of c name ≡ Some x →
    node_sites defs (ToField class name) ≡ outermost None (ClassField AtHeadOfField x) ∷ []
some_field defs class name c x e f =
    ap (λ o. once [] o (λ c. once [] (field_of c name) (λ f. outermost None (ClassField AtHeadOfField f) ∷ []))) e
    ∙ ap (λ o. once [] o (λ f. outermost None (ClassField AtHeadOfField f) ∷ [])) f
