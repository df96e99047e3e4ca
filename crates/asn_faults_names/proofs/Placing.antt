-- What is missing and what is not linked at a place: by its form, or by a name in it.
use Rattle.std.proofs.Common.{◌≡◌, Bool, true, false, List, refl, sym, ap, ◌∙◌}
use Rattle.std.specs.Prelude.{◌||◌}
use Rattle.std.specs.List.{list_any}
use Rattle.asn_needs.specs.Missing.{form_lacks, name_missing, unsupported, unsupported_form}
use Rattle.asn_needs.specs.Occurrences.{Occurrence, lacks_definition, names_at}
use Rattle.asn_needs.specs.Sites.{Seen, Site, beside, Form, AType, ComponentsOf, AValue, AConstraint, ASet, AnElement, AListed, LooseList, AnArgument, NoArgument, LooseArgument, ADummy, ClassName, ClassField, AnObject, GivenField, LooseField, AnObjectSet, SetName}

-- the form of a place does not count for what a form lacks
form_beside : (S : Seen) (s : Site) (f : Form) → form_lacks S s f ≡ form_lacks S (beside s f) f
form_beside S s (AType at ty behind) = refl
form_beside S s (ComponentsOf name) = refl
form_beside S s (AValue at v p) = refl
form_beside S s (AConstraint c p) = refl
form_beside S s (ASet asked x p) = refl
form_beside S s (AnElement asked e p) = refl
form_beside S s (AListed c p) = refl
form_beside S s LooseList = refl
form_beside S s (AnArgument p dummy inner) = refl
form_beside S s NoArgument = refl
form_beside S s (LooseArgument p) = refl
form_beside S s (ADummy dummy) = refl
form_beside S s (ClassName name) = refl
form_beside S s (ClassField at f) = refl
form_beside S s (AnObject c fields) = refl
form_beside S s (GivenField c f) = refl
form_beside S s (LooseField f) = refl
form_beside S s (AnObjectSet c set) = refl
form_beside S s (SetName name) = refl

-- nor for whether it is linked
unlinked_beside : (S : Seen) (s : Site) (f : Form) → unsupported_form S s f ≡ unsupported_form S (beside s f) f
unlinked_beside S s (AType at ty behind) = refl
unlinked_beside S s (ComponentsOf name) = refl
unlinked_beside S s (AValue at v p) = refl
unlinked_beside S s (AConstraint c p) = refl
unlinked_beside S s (ASet asked x p) = refl
unlinked_beside S s (AnElement asked e p) = refl
unlinked_beside S s (AListed c p) = refl
unlinked_beside S s LooseList = refl
unlinked_beside S s (AnArgument p dummy inner) = refl
unlinked_beside S s NoArgument = refl
unlinked_beside S s (LooseArgument p) = refl
unlinked_beside S s (ADummy dummy) = refl
unlinked_beside S s (ClassName name) = refl
unlinked_beside S s (ClassField at f) = refl
unlinked_beside S s (AnObject c fields) = refl
unlinked_beside S s (GivenField c f) = refl
unlinked_beside S s (LooseField f) = refl
unlinked_beside S s (AnObjectSet c set) = refl
unlinked_beside S s (SetName name) = refl

pub missing_by_form : (S : Seen) (s : Site) (f : Form) (b : Bool) → b ≡ form_lacks S s f → b ≡ true → true ≡ name_missing S (beside s f)
missing_by_form S s f b e is = sym (ap (λ c. c || list_any (lacks_definition S.defs) (names_at S (beside s f) f)) (sym (form_beside S s f) ∙ sym e ∙ is))

pub missing_by_name : (S : Seen) (s : Site) (f : Form) (b lacks : Bool) → b ≡ form_lacks S s f → b ≡ false →
    lacks ≡ list_any (lacks_definition S.defs) (names_at S (beside s f) f) → lacks ≡ name_missing S (beside s f)
missing_by_name S s f b lacks e is l = l ∙ sym (ap (λ c. c || list_any (lacks_definition S.defs) (names_at S (beside s f) f)) (sym (form_beside S s f) ∙ sym e ∙ is))

pub definitions_lacked : (S : Seen) (s : Site) (found : List Occurrence) (b : Bool) → found ≡ names_at S s s.form → b ≡ list_any (lacks_definition S.defs) found →
    b ≡ list_any (lacks_definition S.defs) (names_at S s s.form)
definitions_lacked S s found b e is = is ∙ ap (list_any (lacks_definition S.defs)) e

pub unlinked_there : (S : Seen) (s : Site) (f : Form) (b : Bool) → b ≡ unsupported_form S s f → b ≡ unsupported S (beside s f)
unlinked_there S s f b e = e ∙ unlinked_beside S s f
