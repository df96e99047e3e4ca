use Rattle.std.proofs.Common.{◌+◌, ap}
use Rattle.std.specs.Option.{option_map}
use Rattle.asn_meaning_heads.specs.Places.{shown_place}
use Rattle.asn_needs.specs.Sites.{seen}
use Rattle.asn_places_types.specs.Sites.{shown_around, shown_sites}
use Rattle.asn_places_values.specs.inner.Layouts.{shown_layout}
use Rattle.asn_places_values.proofs.Governing.{headed_some}
use Rattle.asn_places_values.proofs.governed.with_headed.Goals as goal

pub returns-in_ok-sites-in-Some : goal.returns-in_ok-sites-in-Some
returns-in_ok-sites-in-Some c = λ m.
    headed_some (seen c.args.names.now.definitions.now (c.args.steps + m)) (shown_around c.args.around.now.value) (shown_place c.args.place.now) (shown_place c.in-Some.head)
    (shown_layout c.args.layout) (option_map shown_place c.in_ok-head.field-0) (shown_sites c.args.sites) (shown_sites c.in_ok-sites-in-Some.sites) (c.in_ok-head.ensures m)
    (ap (option_map shown_place) c.in-Some.is) (c.in_ok-sites-in-Some.ensures m)
