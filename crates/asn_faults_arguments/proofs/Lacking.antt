-- What is wrong at a place: by its form, or by a name in it.
use Rattle.std.proofs.Common.{◌≡◌, Bool, true, false, List, refl, sym, ap, ◌∙◌}
use Rattle.std.specs.Prelude.{◌||◌}
use Rattle.std.specs.List.{list_any}
use Rattle.asn_needs.specs.Arguments.{argument_wrong, form_wrong}
use Rattle.asn_needs.specs.Occurrences.{Occurrence, lacks_list, names_at}
use Rattle.asn_needs.specs.Sites.{Seen, Site, beside, Form, AType, ComponentsOf, AValue, AConstraint, ASet, AnElement, AListed, LooseList, AnArgument, NoArgument, LooseArgument, ADummy, ClassName, ClassField, AnObject, GivenField, LooseField, AnObjectSet, SetName}

-- the form of a place does not count for what is wrong by a form
pub form_beside : (S : Seen) (s : Site) (f : Form) → form_wrong S s f ≡ form_wrong S (beside s f) f
form_beside S s (AType at ty behind) = refl
form_beside S s (ComponentsOf name) = refl
form_beside S s (AValue at v p) = refl
form_beside S s (AConstraint c p) = refl
form_beside S s (ASet asked x p) = refl
form_beside S s (AnElement asked e p) = refl
form_beside S s (AListed c p) = refl
form_beside S s LooseList = refl
form_beside S s (AnArgument p dummy inner) = refl
form_beside S s NoArgument = refl
form_beside S s (LooseArgument p) = refl
form_beside S s (ADummy dummy) = refl
form_beside S s (ClassName name) = refl
form_beside S s (ClassField at f) = refl
form_beside S s (AnObject c fields) = refl
form_beside S s (GivenField c f) = refl
form_beside S s (LooseField f) = refl
form_beside S s (AnObjectSet c set) = refl
form_beside S s (SetName name) = refl

pub wrong_by_form : (S : Seen) (s : Site) (f : Form) (b : Bool) → b ≡ form_wrong S s f → b ≡ true → true ≡ argument_wrong S (beside s f)
wrong_by_form S s f b e is = sym (ap (λ c. c || list_any (lacks_list S.defs) (names_at S (beside s f) f)) (sym (form_beside S s f) ∙ sym e ∙ is))

pub wrong_by_name : (S : Seen) (s : Site) (f : Form) (b lacks : Bool) → b ≡ form_wrong S s f → b ≡ false → lacks ≡ list_any (lacks_list S.defs) (names_at S (beside s f) f) → lacks ≡ argument_wrong S (beside s f)
wrong_by_name S s f b lacks e is l = l ∙ sym (ap (λ c. c || list_any (lacks_list S.defs) (names_at S (beside s f) f)) (sym (form_beside S s f) ∙ sym e ∙ is))

pub lists_lacked : (S : Seen) (s : Site) (found : List Occurrence) (b : Bool) → found ≡ names_at S s s.form → b ≡ list_any (lacks_list S.defs) found → b ≡ list_any (lacks_list S.defs) (names_at S s s.form)
lists_lacked S s found b e is = is ∙ ap (list_any (lacks_list S.defs)) e
