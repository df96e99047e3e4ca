use Rattle.std.specs.Option.{option_map}
use Rattle.asn_meaning_heads.specs.Places.{shown_place}
use Rattle.asn_places_types.specs.Forms.{shown_asked, shown_governor, shown_value_at}
use Rattle.asn_places_types.specs.Sites.{shown_around, shown_sites}
use Rattle.asn_places_constraints.proofs.Passing.{value_done}
use Rattle.asn_places_constraints.proofs.values.with_asked_value.Goals as goal

pub returns : goal.returns
returns c =
    value_done (shown_around c.args.around.now.value) (shown_around c.in_ok-inner.inner.value) (shown_asked c.args.asked) (shown_value_at c.args.at) (option_map (λ p. shown_place p.now) c.args.place)
    (shown_governor c.in_ok-governor.governor) c.args.value.now (shown_sites c.args.sites) (shown_sites c.in_ok-sites.sites) c.in_ok-inner.ensures c.in_ok-governor.ensures c.in_ok-sites.ensures
