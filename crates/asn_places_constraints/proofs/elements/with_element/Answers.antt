use Rattle.std.proofs.Common.{◌+◌}
use Rattle.std.specs.Option.{option_map}
use Rattle.asn_meaning_heads.specs.Places.{shown_place}
use Rattle.asn_needs.specs.Sites.{seen}
use Rattle.asn_places_types.specs.Forms.{shown_asked}
use Rattle.asn_places_types.specs.Sites.{shown_around, shown_sites}
use Rattle.asn_places_constraints.proofs.Passing.{elements_part}
use Rattle.asn_places_constraints.proofs.elements.with_element.Goals as goal

pub returns-in_ok-sites-in-SingleTypeConstraint : goal.returns-in_ok-sites-in-SingleTypeConstraint
returns-in_ok-sites-in-SingleTypeConstraint c = λ m.
    elements_part (seen c.args.names.now.definitions.now (c.args.steps + m)) (shown_around c.args.around.now.value) (shown_asked c.args.asked) (option_map (λ p. shown_place p.now) c.args.place)
    c.args.element.now _ c.as_slice-cs.result.now (shown_sites c.args.sites) (shown_sites c.in_ok-sites-in-SingleTypeConstraint.sites) c.in-SingleTypeConstraint.is c.as_slice-cs.ensures
    (c.in_ok-sites-in-SingleTypeConstraint.ensures m)
