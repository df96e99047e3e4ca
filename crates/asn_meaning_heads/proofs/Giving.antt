-- What an object gives, field by field.
use Rattle.std.proofs.Common.{◌≡◌, ℕ, ◌+◌, ◌<◌, List, ◌∷◌, drop, length, get_or, Bool, true, false, if◌then◌else◌, Option, Some, None, sym, ap, ◌∙◌}
use Rattle.std.specs.Prelude.{is_some}
use Rattle.std.specs.List.{find}
use Rattle.std.specs.Str.{bytes_eq}
use Rattle.std.proofs.lemmas.List.{drop_more}
use Rattle.asn_tree_notation.specs.Syntax.{given_name}
use Rattle.asn_tree.specs.declared.objects.InformationObject.{InformationObject}
use Rattle.asn_tree.specs.declared.objects.InformationObjectClass.{InformationObjectClass}
use Rattle.asn_tree.specs.declared.objects.SyntaxApplication.{SyntaxApplication}
use Rattle.asn_tree.specs.declared.objects.InformationObjectField.{InformationObjectField, out-InformationObjectField}
use Rattle.asn_tree.specs.declared.objects.InformationObjectFields.{out-InformationObjectFields}
use Rattle.asn_tree.specs.declared.objects.InformationObjectFields.TheVariants as fields
use Rattle.asn_meaning.specs.Answers.{once}
use Rattle.asn_meaning.specs.Definitions.{Definitions, class_named, object_named}
use Rattle.asn_meaning.specs.Names.{field_target, marked, object_field, object_field_type, type_of_field}
use Rattle.asn_meaning.specs.Objects.{applied, given, given_at}
use Rattle.asn_meaning_heads.specs.Classes.{type_in_class}
use Rattle.asn_meaning_heads.specs.Following.{named}
use Rattle.asn_meaning.specs.Scopes.{Scope, bound_to}

abbrev pub named_in : List InformationObjectField → List ℕ → Option InformationObjectField
named_in fs name = find (λ f. bytes_eq (given_name f) name) fs

pub given_first : (fs : List InformationObjectField) (i : ℕ) (f : InformationObjectField) (name : List ℕ) → i < length fs → f ≡ get_or fs i f →
    named_in (drop i fs) name ≡ (if bytes_eq (given_name f) name then Some f else named_in (drop (i + 1) fs) name)
given_first fs i f name lt e =
    ap (λ xs. named_in xs name) (drop_more fs i f lt) ∙ ap (λ x. named_in (x ∷ drop (i + 1) fs) name) (sym e)

pub given_default : (defs : Definitions) (o : InformationObject) (name : List ℕ) (xs : List InformationObjectField) → o.fields ≡ fields.DefaultSyntax xs →
    given defs o name ≡ named_in xs name
given_default defs o name xs e =
    ap (λ x. once None (given_at (class_named defs o.class_name) x) (find (λ f. bytes_eq (given_name f) name))) (ap out-InformationObjectFields e ∙ fields.outs-DefaultSyntax xs)

customs : (defs : Definitions) (o : InformationObject) (name : List ℕ) (items : List SyntaxApplication) → o.fields ≡ fields.CustomSyntax items →
    given defs o name ≡ once None (once None (class_named defs o.class_name) (λ k. applied k.syntax items)) (find (λ f. bytes_eq (given_name f) name))
customs defs o name items e =
    ap (λ x. once None (given_at (class_named defs o.class_name) x) (find (λ f. bytes_eq (given_name f) name))) (ap out-InformationObjectFields e ∙ fields.outs-CustomSyntax items)

pub given_classless : (defs : Definitions) (o : InformationObject) (name : List ℕ) (items : List SyntaxApplication) → o.fields ≡ fields.CustomSyntax items → class_named defs o.class_name ≡ None →
    given defs o name ≡ None
given_classless defs o name items e f =
    customs defs o name items e ∙ ap (λ c. once None (once None c (λ k. applied k.syntax items)) (find (λ f. bytes_eq (given_name f) name))) f

pub given_applied : (defs : Definitions) (o : InformationObject) (name : List ℕ) (items : List SyntaxApplication) (c : InformationObjectClass) → o.fields ≡ fields.CustomSyntax items →
    class_named defs o.class_name ≡ Some c → given defs o name ≡ once None (applied c.syntax items) (named name)
given_applied defs o name items c e f =
    customs defs o name items e ∙ ap (λ c. once None (once None c (λ k. applied k.syntax items)) (find (λ f. bytes_eq (given_name f) name))) f

-- ---- the field of an object

held : Definitions → Bool → Option InformationObject → List ℕ → Option InformationObjectField
held defs b o field = if b then None else once None o (λ x. given defs x (marked field))

pub field_of_dummy : (defs : Definitions) (scope : Scope) (name field : List ℕ) → is_some (bound_to scope name) ≡ true → object_field defs scope name field ≡ None
unfolding held
field_of_dummy defs scope name field e = ap (λ b. held defs b (object_named defs name) field) e

pub field_of_none : (defs : Definitions) (scope : Scope) (name field : List ℕ) → is_some (bound_to scope name) ≡ false → object_named defs name ≡ None →
    object_field defs scope name field ≡ None
unfolding held
field_of_none defs scope name field free e = ap (λ b. held defs b (object_named defs name) field) free ∙ ap (λ o. held defs false o field) e

pub field_of_object : (defs : Definitions) (scope : Scope) (name field : List ℕ) (o : InformationObject) → is_some (bound_to scope name) ≡ false → object_named defs name ≡ Some o →
    object_field defs scope name field ≡ given defs o (marked field)
unfolding held
field_of_object defs scope name field o free e = ap (λ b. held defs b (object_named defs name) field) free ∙ ap (λ x. held defs false x field) e

pub target_of_none : (defs : Definitions) (scope : Scope) (name field : List ℕ) → object_field defs scope name field ≡ None → field_target defs scope name field ≡ None
target_of_none defs scope name field e = ap (λ f. once None f (λ x. type_of_field (out-InformationObjectField x))) e

pub target_of_some : (defs : Definitions) (scope : Scope) (name field : List ℕ) (f : InformationObjectField) → object_field defs scope name field ≡ Some f →
    field_target defs scope name field ≡ type_of_field (out-InformationObjectField f)
target_of_some defs scope name field f e = ap (λ f. once None f (λ x. type_of_field (out-InformationObjectField x))) e

-- ---- the type of a field

pub type_of_classless : (defs : Definitions) (o : InformationObject) (field : List ℕ) → class_named defs o.class_name ≡ None → object_field_type defs o field ≡ None
type_of_classless defs o field e = ap (λ c. once None c (λ k. type_in_class defs k (marked field))) e

pub type_of_classed : (defs : Definitions) (o : InformationObject) (field : List ℕ) (c : InformationObjectClass) → class_named defs o.class_name ≡ Some c →
    object_field_type defs o field ≡ type_in_class defs c (marked field)
type_of_classed defs o field c e = ap (λ c. once None c (λ k. type_in_class defs k (marked field))) e
