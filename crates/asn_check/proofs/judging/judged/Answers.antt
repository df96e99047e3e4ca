use Rattle.asn_names.specs.Faults.{for_places}
use Rattle.asn_check.proofs.judging.judged.Goals as goal

pub returns : goal.returns
returns c =
    for_places c.in_ok-found.found.wrong_argument c.in_ok-found.found.missing_name c.in_ok-found.found.unlinked_form c.requires (c.args.steps, c.in_ok-found.ensures.argument) (c.args.steps, c.in_ok-found.ensures.missing)
    (c.args.steps, c.in_ok-found.ensures.unlinked) c.first_at_places.ensures
