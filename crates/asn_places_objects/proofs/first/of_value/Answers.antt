use Rattle.std.proofs.Common.{rules, ◌≡◌, ◌++◌, []}
use Rattle.asn_places_objects.specs.inner.Beginning.{all_beside, value_forms}
use Rattle.asn_places_types.specs.Sites.{shown_around, shown_sites}
use Rattle.asn_places_objects.proofs.Beginning.{value_begun}
use Rattle.asn_places_objects.proofs.first.of_value.Goals as goal

pub returns : goal.returns
returns c =
    let e : shown_sites c.in_ok-sites.sites
    ≡ [] ++ all_beside (shown_around c.in_ok-around.around.value) (value_forms (shown_around c.in_ok-around.around.value).scope c.args.definition.now) = search rules in
    value_begun c.args.definition.now.parameterization (shown_around c.in_ok-around.around.value) c.dummies_of.result.now c.args.definition.now
    (shown_sites c.in_ok-sites-2.sites) (shown_sites c.in_ok-sites.sites) c.in_ok-around.ensures c.dummies_of.ensures e c.in_ok-sites-2.ensures
