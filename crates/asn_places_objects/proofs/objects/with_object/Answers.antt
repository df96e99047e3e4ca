use Rattle.std.proofs.Common.{◌++◌, map, sym, ap, ◌∙◌}
use Rattle.std.specs.Option.{option_map}
use Rattle.asn_meaning_fields.specs.Given.{shown_given_fields}
use Rattle.asn_places_types.specs.Forms.{shown_of_class}
use Rattle.asn_places_types.specs.Sites.{shown_around, shown_sites}
use Rattle.asn_tree.specs.declared.objects.InformationObjectFields.{out-InformationObjectFields}
use Rattle.asn_places_objects.specs.inner.Fields.{given_site}
use Rattle.asn_places_objects.proofs.Becoming.{object_given}
use Rattle.asn_places_objects.proofs.objects.with_object.Goals as goal

pub returns-in_ok-sites-in-Some : goal.returns-in_ok-sites-in-Some
returns-in_ok-sites-in-Some c =
    object_given c.args.names.now.definitions.now (shown_around c.args.around.now.value) (shown_of_class c.args.class) (out-InformationObjectFields c.args.fields.now) c.in-Some.given
    (shown_sites c.args.sites) (shown_sites c.in_ok-sites-in-Some.sites)
    (sym c.in_ok-given_fields.ensures ∙ ap (option_map shown_given_fields) c.in-Some.is)
    (c.in_ok-sites-in-Some.ensures ∙ ap (λ ys. shown_sites c.args.sites ++ map (given_site (shown_around c.args.around.now.value) (shown_of_class c.args.class)) ys) c.as_slice.ensures)
