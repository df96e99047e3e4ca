-- What an object gives, and the set that it becomes where its items do not follow their class's syntax.
use Rattle.std.proofs.Common.{◌≡◌, ℕ, ◌<◌, Bool, true, false, List, [], ◌∷◌, ◌++◌, map, length, get_or, Option, Some, None, refl, sym, ap, ◌∙◌, arith, if◌then◌else◌}
use Rattle.std.specs.Prelude.{codes, is_none}
use Rattle.std.specs.Str.{bytes_eq}
use Rattle.asn_tree.specs.declared.objects.InformationObjectClass.{InformationObjectClass}
use Rattle.asn_tree.specs.declared.objects.SyntaxApplication.{SyntaxApplication}
use Rattle.asn_meaning_fields.specs.Given.{shown_given_fields}
use Rattle.asn_meaning_heads.specs.declared.objects.GivenField.{GivenField as LentGivenField}
use Rattle.asn_names_index.specs.Definitions.{last_named, seen}
use Rattle.asn_meaning.specs.Answers.{once}
use Rattle.asn_meaning.specs.Definitions.{Definitions, built_in, class_in, information_in}
use Rattle.asn_meaning.specs.Layers.{FieldsLayer}
use Rattle.asn_meaning.specs.Objects.{given_at}
use Rattle.asn_needs.specs.PartsOfObjects.{becomes, first_name, is_object_or_set, object_parts}
use Rattle.asn_needs.specs.Sites.{GivenField, SetName, Site, beside}
use Rattle.asn_places_objects.specs.inner.Fields.{given_site}
use Rattle.asn_places_objects.specs.inner.Items.{set_named}

pub is_seen : (defs : Definitions) (name : List ℕ) →
    is_object_or_set defs name ≡ once false (once None (seen defs name) information_in) (λ d. is_none (class_in d.value))
unfolding built_in
is_seen defs name = go (bytes_eq name (codes "TYPE-IDENTIFIER"))
  where
    go : (b : Bool) →
        once false (once None (if b then Some built_in else last_named defs name) information_in) (λ d. is_none (class_in d.value))
        ≡ once false (once None (if b then None else last_named defs name) information_in) (λ d. is_none (class_in d.value))
    go true = refl
    go false = refl

pub first_is : (defs : Definitions) (items : List SyntaxApplication) (item : SyntaxApplication) → 0 < length items → item ≡ get_or items 0 item → first_name defs items ≡ set_named defs item
first_is defs [] item lt e = absurd (omega arith)
first_is defs (x ∷ items) item lt e = ap (set_named defs) (sym e)

-- ---- objects

given_shown : (s : Site) (c : Option InformationObjectClass) (given : List LentGivenField) →
    map (given_site s c) given ≡ map (λ f. beside s (GivenField c f)) (shown_given_fields given)
given_shown s c [] = refl
given_shown s c (f ∷ given) = ap (λ ys. given_site s c f ∷ ys) (given_shown s c given)

pub object_given : (defs : Definitions) (s : Site) (c : Option InformationObjectClass) (fs : FieldsLayer) (given : List LentGivenField) (xs all : List Site) →
    given_at c fs ≡ Some (shown_given_fields given) → all ≡ xs ++ map (given_site s c) given → all ≡ xs ++ object_parts defs s c fs
object_given defs s c fs given xs all e is =
    is ∙ ap (λ ys. xs ++ ys) (given_shown s c given ∙ sym (ap (λ o. once (map (λ name. beside s (SetName name)) (becomes defs c fs)) o (λ given. map (λ f. beside s (GivenField c f)) given)) e))

pub object_becomes : (defs : Definitions) (s : Site) (c : Option InformationObjectClass) (fs : FieldsLayer) (xs all : List Site) →
    given_at c fs ≡ None → all ≡ xs ++ map (λ name. beside s (SetName name)) (becomes defs c fs) → all ≡ xs ++ object_parts defs s c fs
object_becomes defs s c fs xs all e is =
    is ∙ ap (λ ys. xs ++ ys) (sym (ap (λ o. once (map (λ name. beside s (SetName name)) (becomes defs c fs)) o (λ given. map (λ f. beside s (GivenField c f)) given)) e))
