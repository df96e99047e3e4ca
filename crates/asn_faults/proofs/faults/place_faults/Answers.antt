use Rattle.std.proofs.Common.{◌+◌, ap, ◌∙◌}
use Rattle.std.specs.List.{list_any}
use Rattle.asn_needs.specs.Arguments.{argument_wrong}
use Rattle.asn_needs.specs.Missing.{name_missing, unsupported}
use Rattle.asn_needs.specs.Sites.{seen}
use Rattle.asn_places_objects.specs.Nodes.{shown_node}
use Rattle.asn_places_types.specs.Sites.{shown_sites}
use Rattle.asn_faults.proofs.Looking.{told_somewhere}
use Rattle.asn_faults.proofs.faults.place_faults.Goals as goal

pub returns-clause-argument : goal.returns-clause-argument
returns-clause-argument c = λ m.
    let S = seen c.args.names.now.definitions.now (c.args.steps + m) in
    told_somewhere S (shown_node c.args.node) argument_wrong (shown_sites c.in_ok-places.places) c.in_ok-wrong_argument.wrong_argument (c.in_ok-places.ensures m)
    (c.in_ok-wrong_argument.ensures m ∙ ap (λ sites. list_any (argument_wrong S) (shown_sites sites)) c.as_slice.ensures)

pub returns-clause-missing : goal.returns-clause-missing
returns-clause-missing c = λ m.
    let S = seen c.args.names.now.definitions.now (c.args.steps + m) in
    told_somewhere S (shown_node c.args.node) name_missing (shown_sites c.in_ok-places.places) c.in_ok-missing_name.missing_name (c.in_ok-places.ensures m)
    (c.in_ok-missing_name.ensures m ∙ ap (λ sites. list_any (name_missing S) (shown_sites sites)) c.as_slice-2.ensures)

pub returns-clause-unlinked : goal.returns-clause-unlinked
returns-clause-unlinked c = λ m.
    let S = seen c.args.names.now.definitions.now (c.args.steps + m) in
    told_somewhere S (shown_node c.args.node) unsupported (shown_sites c.in_ok-places.places) c.in_ok-unlinked_form.unlinked_form (c.in_ok-places.ensures m)
    (c.in_ok-unlinked_form.ensures m ∙ ap (λ sites. list_any (unsupported S) (shown_sites sites)) c.as_slice-3.ensures)
