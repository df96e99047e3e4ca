use Rattle.std.proofs.Common.{◌+◌, ap}
use Rattle.std.specs.Option.{option_map}
use Rattle.asn_meaning_heads.specs.Places.{shown_place}
use Rattle.asn_meaning_heads.specs.Values.{shown_value}
use Rattle.asn_needs.specs.Sites.{seen}
use Rattle.asn_places_types.specs.Sites.{shown_around, shown_sites}
use Rattle.asn_places_values.specs.inner.Layouts.{shown_layout}
use Rattle.asn_places_values.proofs.Governing.{placed_laid, typed_laid}
use Rattle.asn_places_values.proofs.governed.with_value.Goals as goal

pub returns-in_ok-sites-in-Some : goal.returns-in_ok-sites-in-Some
returns-in_ok-sites-in-Some c = λ m.
    placed_laid (seen c.args.names.now.definitions.now (c.args.steps + m)) (shown_around c.args.around.now.value) (option_map (λ p. shown_place p.now) c.args.place) (shown_place c.in-Some.place.now)
    (shown_value c.args.value) (shown_sites c.args.sites) (shown_sites c.in_ok-sites-in-Some.sites) (ap (option_map (λ p. shown_place p.now)) c.in-Some.is)
    (typed_laid (seen c.args.names.now.definitions.now (c.args.steps + m)) (shown_around c.args.around.now.value) (shown_place c.in-Some.place.now) (shown_value c.args.value)
    (shown_layout c.layout_of-layout.result) (shown_sites c.args.sites) (shown_sites c.in_ok-sites-in-Some.sites) c.layout_of-layout.ensures (c.in_ok-sites-in-Some.ensures m))
