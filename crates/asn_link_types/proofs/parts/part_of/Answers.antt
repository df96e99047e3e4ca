use Rattle.std.proofs.Common.{◌∙◌, ap}
use Rattle.asn_meaning_heads.specs.Places.{shown_place}
use Rattle.asn_link_instance.specs.Instance.{part_named}
use Rattle.asn_meaning.specs.Judge.{meaning}
use Rattle.asn_meaning.specs.Kinds.{kind_of}
use Rattle.asn_link_values.specs.Choosing.{chosen, instances}
use Rattle.asn_link_types.proofs.parts.part_of.Goals as goal

pub returns : goal.returns
returns c =
    c.in_ok-found.ensures c.args.levels
    ∙ ap (λ name. part_named chosen c.args.names.now.definitions.now (meaning c.args.names.now.definitions.now c.args.steps) (instances c.args.names.now.definitions.now c.args.steps c.args.levels)
    (shown_place c.args.head.now).scope name (kind_of (shown_place c.args.head.now))) c.as_str.ensures
