use Rattle.std.proofs.Common.{◌<◌, arith, length}
use Rattle.asn_meaning_heads.specs.Scopes.{shown}
use Rattle.asn_places_types.specs.Sites.{shown_around, shown_sites}
use Rattle.asn_places_types.proofs.Filling.{arguments_next}
use Rattle.asn_places_types.proofs.instances.with_arguments.Goals as goal

pub loop-i-preserved : goal.loop-i-preserved
loop-i-preserved c =
    let lt : c.loop-i.i < length c.args.dummies.now = omega arith in
    arguments_next (shown_around c.args.around.now.value) (shown c.args.inner.now) c.args.dummies.now c.args.arguments.now c.loop-i.i c.index-dummies-i.result
    (shown_sites c.loop-i.sites) lt c.index-dummies-i.is c.loop-i.invariant c.in_ok-sites.ensures
