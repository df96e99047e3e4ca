use Rattle.std.proofs.Common.{◌<◌, ◌≤◌, arith, length}
use Rattle.asn_meaning_values.specs.Braces.{shown_named}
use Rattle.asn_needs.specs.PartsOfValues.{inside, member_type}
use Rattle.asn_meaning_shapes.specs.Members.{shown_members}
use Rattle.asn_places_types.proofs.Adding.{map_next, map_done}
use Rattle.asn_places_types.specs.Sites.{shown_around, shown_sites}
use Rattle.asn_places_values.proofs.Running.{run_done}
use Rattle.asn_places_values.proofs.runs.with_named.Goals as goal

pub loop-field-preserved : goal.loop-field-preserved
loop-field-preserved c =
    let lt : c.loop-field.field-index < length c.args.fields.now = omega arith in
    map_next (λ x. inside (shown_around c.args.around.now.value) (member_type (shown_members c.args.members.now) (shown_named x).0) (shown_named x).1) c.args.fields.now c.loop-field.field-index
    c.field-item.result (shown_sites c.loop-field.sites) lt c.field-item.is c.loop-field.invariant c.in_ok-sites.ensures

pub returns : goal.returns
returns c =
    let le : length c.args.fields.now ≤ c.loop-field.field-index = omega arith in
    run_done (λ f. inside (shown_around c.args.around.now.value) (member_type (shown_members c.args.members.now) f.0) f.1) shown_named c.args.fields.now (shown_sites c.loop-field.sites) (shown_sites c.args.sites)
    (map_done (λ x. inside (shown_around c.args.around.now.value) (member_type (shown_members c.args.members.now) (shown_named x).0) (shown_named x).1) c.args.fields.now c.loop-field.field-index le
    c.loop-field.invariant)
