use Rattle.std.proofs.Common.{rules, ◌≡◌, ◌+◌, ◌++◌, [], ap, ◌∙◌}
use Rattle.std.specs.Option.{option_map}
use Rattle.asn_meaning_heads.specs.Places.{shown_place}
use Rattle.asn_needs.specs.PartsOfConstraints.{listed_parts}
use Rattle.asn_needs.specs.Sites.{seen}
use Rattle.asn_places_types.specs.Sites.{shown_around, shown_sites}
use Rattle.asn_places.proofs.below.in_listed.Goals as goal

pub returns : goal.returns
returns c = λ m.
    let e : shown_sites c.new-none.result ≡ [] = search rules in
    c.in_ok-sites.ensures m
    ∙ ap (λ ns. ns ++ listed_parts (seen c.args.names.now.definitions.now (c.args.steps + m)) (shown_around c.args.around.now.value) (option_map (λ p. shown_place p.now) c.unboxed-place.result) c.args.component.now) e
    ∙ ap (λ p. listed_parts (seen c.args.names.now.definitions.now (c.args.steps + m)) (shown_around c.args.around.now.value) p c.args.component.now) c.unboxed-place.ensures
