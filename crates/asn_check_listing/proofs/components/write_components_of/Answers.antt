use Rattle.std.proofs.Common.{rules, ◌≡◌, drop, Some}
use Rattle.std.specs.List.{zip}
use Rattle.asn_check_listing.specs.inner.Cursor.{name_here}
use Rattle.asn_check_listing.proofs.Here.{turn}
use Rattle.asn_check_listing.proofs.components.write_components_of.Goals as goal

pub loop-name-preserved : goal.loop-name-preserved
loop-name-preserved c =
    let e : name_here c.args.additional c.args.number (drop c.loop-name.cursor (zip c.args.names.now c.args.places.now)) ≡ Some c.in-Some.name.now = search rules in
    turn c.args.additional c.args.number (zip c.args.names.now c.args.places.now) c.args.from c.args.out.now c.args.first c.loop-name.cursor c.loop-name.out c.write_component.new.out c.loop-name.none c.in-Some.name.now c.loop-name.invariant e c.in_ok-write_component.ensures
