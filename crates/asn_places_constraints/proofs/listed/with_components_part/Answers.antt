use Rattle.std.specs.Option.{option_map}
use Rattle.asn_meaning_heads.specs.Places.{shown_place}
use Rattle.asn_places_types.specs.Sites.{shown_around, shown_sites}
use Rattle.asn_places_constraints.proofs.Passing.{components_done}
use Rattle.asn_places_constraints.proofs.listed.with_components_part.Goals as goal

pub returns : goal.returns
returns c =
    components_done (shown_around c.args.around.now.value) (shown_around c.in_ok-inner.inner.value) (option_map (λ p. shown_place p.now) c.args.place) c.args.components.now
    (shown_sites c.args.sites) (shown_sites c.in_ok-sites.sites) c.in_ok-inner.ensures c.in_ok-sites.ensures
