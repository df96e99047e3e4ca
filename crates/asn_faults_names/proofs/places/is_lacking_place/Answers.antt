use Rattle.std.proofs.Common.{◌+◌}
use Rattle.asn_needs.specs.Sites.{seen}
use Rattle.asn_places_types.specs.Forms.{shown_form}
use Rattle.asn_places_types.specs.Sites.{shown_around}
use Rattle.asn_faults_names.proofs.Placing.{missing_by_form, missing_by_name}
use Rattle.asn_faults_names.proofs.places.is_lacking_place.Goals as goal

pub returns-then-branch : goal.returns-then-branch
returns-then-branch c = λ m.
    missing_by_form (seen c.args.names.now.definitions.now (c.args.steps + m)) (shown_around c.args.site.now.around.value) (shown_form c.args.site.now.form) c.in_ok-is_lacking_form.field-0
    (c.in_ok-is_lacking_form.ensures m) c.if-branch.true

pub returns-in_ok-lacks : goal.returns-in_ok-lacks
returns-in_ok-lacks c = λ m.
    missing_by_name (seen c.args.names.now.definitions.now (c.args.steps + m)) (shown_around c.args.site.now.around.value) (shown_form c.args.site.now.form) c.in_ok-is_lacking_form.field-0
    c.in_ok-lacks.lacks (c.in_ok-is_lacking_form.ensures m) c.if-branch.false (c.in_ok-lacks.ensures m)
