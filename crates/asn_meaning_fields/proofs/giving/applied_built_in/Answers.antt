use Rattle.std.proofs.Common.{sym, ap, ◌∙◌}
use Rattle.std.specs.Option.{option_map}
use Rattle.asn_meaning_fields.specs.Given.{shown_given_fields}
use Rattle.asn_meaning_fields.specs.inner.Walks.{shown_walk}
use Rattle.asn_meaning_fields.proofs.Applying.{built_in_followed}
use Rattle.asn_meaning_fields.proofs.giving.applied_built_in.Goals as goal

pub returns : goal.returns
returns c =
    c.if_ended.ensures
    ∙ sym (built_in_followed c.args.items.now c.begun.result.left.now (shown_given_fields c.begun.result.fields) (shown_walk c.in-Some.walk) c.begun.ensures.fields c.begun.ensures.left
    (sym c.in_ok-walk.ensures ∙ ap (option_map shown_walk) c.in-Some.is))
