use Rattle.std.proofs.Common.{◌+◌, ◌∙◌}
use Rattle.asn_needs.specs.Sites.{seen}
use Rattle.asn_places_types.specs.Forms.{shown_form}
use Rattle.asn_places_types.specs.Sites.{shown_around}
use Rattle.asn_places.proofs.Beside.{parts_beside}
use Rattle.asn_places.proofs.below.parts.Goals as goal

pub returns : goal.returns
returns c = λ m.
    c.in_ok-sites.ensures m
    ∙ parts_beside (seen c.args.names.now.definitions.now (c.args.steps + m)) (shown_around c.args.site.now.around.value) (shown_form c.args.site.now.form)
