use Rattle.std.proofs.Common.{ap, ◌∙◌}
use Rattle.asn_meaning_values.specs.Denotation.{shown_denotation}
use Rattle.asn_meaning_heads.specs.Places.{shown_place}
use Rattle.asn_meaning_heads.specs.Scopes.{shown}
use Rattle.asn_link_instance.specs.Literals.{written_by_tree}
use Rattle.asn_meaning.specs.Answers.{No}
use Rattle.asn_meaning.specs.Judge.{meaning}
use Rattle.asn_meaning.specs.Kinds.{kind_of}
use Rattle.asn_link_values.proofs.Writing.{by_leaf}
use Rattle.asn_link_values.proofs.denoted.denoted_written.Goals as goal

pub returns : goal.returns
returns c =
    c.in_ok-found.ensures
    ∙ ap (written_by_tree No (shown_denotation c.in_ok-denoted.denoted)) c.kind_of.ensures
    ∙ by_leaf (kind_of (shown_place c.args.place.now)) (shown_denotation c.in_ok-denoted.denoted) ((meaning c.args.names.now.definitions.now c.args.steps).denotes (shown c.args.scope.now) c.args.value.now (shown_place c.args.place.now))
    c.in_ok-denoted.ensures
