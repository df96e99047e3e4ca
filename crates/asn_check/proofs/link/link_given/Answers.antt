use Rattle.std.proofs.Common.{ap, length, map, ◌∙◌}
use Rattle.std.proofs.lemmas.List.{length-map}
use Rattle.asn_link.specs.Linked.{is_told}
use Rattle.asn_names_index.specs.Definitions.{name_of}
use Rattle.asn_check.proofs.OfGiven.{linked_given}
use Rattle.asn_check.proofs.link.link_given.Goals as goal

pub link_definitions-requires-clause-long : goal.link_definitions-requires-clause-long
link_definitions-requires-clause-long c =
    ap length (c.as_slice.ensures ∙ c.in_ok-told.ensures) ∙ length-map c.as_slice-ones.result.now (λ d. is_told (map (λ n. n.now) c.args.all.now) c.args.withheld.now (name_of d.now))

pub returns : goal.returns
returns c =
    linked_given c.args.reading.now (map (λ n. n.now) c.args.all.now) c.args.withheld.now c.in_ok-names.names.definitions.now c.as_slice-ones.result.now c.as_slice.result.now
    c.in_ok-linked.linked.definitions c.in_ok-linked.linked.made c.in_ok-linked.linked.closed (c.in_ok-names.ensures ∙ c.in_ok-given.ensures) (c.as_slice.ensures ∙ c.in_ok-told.ensures) c.in_ok-linked.ensures
