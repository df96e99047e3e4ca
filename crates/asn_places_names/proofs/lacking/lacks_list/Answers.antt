use Rattle.std.proofs.Common.{◌≡◌, None, sym, ap, ◌∙◌}
use Rattle.std.specs.Option.{option_copied}
use Rattle.asn_names_index.specs.Definitions.{seen}
use Rattle.asn_places_names.specs.Occurrences.{shown_occurrence}
use Rattle.asn_places_names.proofs.Missing.{list_unseen}
use Rattle.asn_places_names.proofs.lacking.lacks_list.Goals as goal

pub returns-in-None : goal.returns-in-None
returns-in-None c =
    let unseen : seen c.args.names.now.definitions.now c.args.occurrence.now.name.now ≡ None = ap (seen c.args.names.now.definitions.now) (sym c.as_str.ensures) ∙ sym c.see.ensures ∙ ap option_copied c.in-None.is in
    sym (list_unseen c.args.names.now.definitions.now (shown_occurrence c.args.occurrence.now) unseen)
