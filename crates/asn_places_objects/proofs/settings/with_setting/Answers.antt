use Rattle.std.proofs.Common.{◌++◌, sym, ap, ◌∙◌}
use Rattle.asn_places_types.specs.Forms.{shown_of_class}
use Rattle.asn_places_types.specs.Sites.{shown_around, shown_sites}
use Rattle.asn_places_objects.proofs.Settling.{set_given}
use Rattle.asn_places_objects.proofs.settings.with_setting.Goals as goal

pub returns-in_ok-sites-in-Set : goal.returns-in_ok-sites-in-Set
returns-in_ok-sites-in-Set c =
    c.in_ok-sites-in-Set.ensures
    ∙ ap (λ ys. shown_sites c.args.sites ++ ys)
    (sym (set_given (shown_around c.args.around.now.value) (shown_of_class c.args.class) c.args.field.name.now c.args.field.gives c.in-Set.set c.in-Set.is))
