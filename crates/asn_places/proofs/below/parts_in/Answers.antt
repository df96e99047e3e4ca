use Rattle.std.proofs.Common.{◌+◌, sym, ap, ◌∙◌}
use Rattle.asn_needs.specs.Sites.{seen}
use Rattle.asn_places_types.specs.Sites.{shown_around}
use Rattle.asn_needs.specs.Stands.{parts_at}
use Rattle.asn_places_types.specs.Forms.{shown_form}
use Rattle.asn_places.proofs.below.parts_in.Goals as goal

pub returns-in_ok-in_type-in-AType : goal.returns-in_ok-in_type-in-AType
returns-in_ok-in_type-in-AType c = λ m.
    c.in_ok-in_type-in-AType.ensures (c.args.steps + m)
    ∙ ap (λ f. parts_at (seen c.args.names.now.definitions.now (c.args.steps + m)) (shown_around c.args.around.now.value) (shown_form f)) (sym c.in-AType.is)

pub returns-in_ok-in_listed-in-AListed : goal.returns-in_ok-in_listed-in-AListed
returns-in_ok-in_listed-in-AListed c = λ m.
    c.in_ok-in_listed-in-AListed.ensures m
    ∙ ap (λ f. parts_at (seen c.args.names.now.definitions.now (c.args.steps + m)) (shown_around c.args.around.now.value) (shown_form f)) (sym c.in-AListed.is)
