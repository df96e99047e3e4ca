use Rattle.std.proofs.Common.{None}
use Rattle.asn_needs.specs.PartsOfConstraints.{made_opaque}
use Rattle.asn_needs.specs.Sites.{AnObjectSet}
use Rattle.asn_places_types.specs.Sites.{shown_around, shown_sites}
use Rattle.asn_places_constraints.proofs.Passing.{moved}
use Rattle.asn_places_constraints.proofs.contents.with_table.Goals as goal

pub returns : goal.returns
returns c =
    moved (AnObjectSet None c.args.table.now.object_set) (shown_sites c.args.sites) (shown_sites c.in_ok-sites.sites) (shown_around c.in_ok-inner.inner.value) (made_opaque (shown_around c.args.around.now.value))
    c.in_ok-inner.ensures c.in_ok-sites.ensures
