use Rattle.std.proofs.Common.{◌+◌}
use Rattle.asn_meaning_heads.specs.Places.{shown_place}
use Rattle.asn_needs.specs.Sites.{seen}
use Rattle.asn_places_objects.proofs.Owning.{value_own}
use Rattle.asn_places_objects.proofs.aside.is_own_at.Goals as goal

pub returns-in_ok-own-in-ValueParameter : goal.returns-in_ok-own-in-ValueParameter
returns-in_ok-own-in-ValueParameter c = λ m.
    value_own (seen c.args.names.now.definitions.now (c.args.steps + m)) (shown_place c.args.place.now) c.args.argument.now _ c.in_ok-own-in-ValueParameter.own c.in-ValueParameter.is
    (c.in_ok-own-in-ValueParameter.ensures m)
