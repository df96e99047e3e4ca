use Rattle.asn_names_index.specs.Definitions.{IsStanding}
use Rattle.asn_names_index.proofs.Standing.{is_standing, if_ok}
use Rattle.asn_names_index.proofs.names.Names.standing.Goals as goal

pub returns : goal.returns
returns c =
    let defs = c.args.self.now.definitions.now in
    let all = is_standing defs c.args.self.now.index c.args.self.now.is_index c.definitions_at.ensures.ordered c.definitions_at.ensures.entries in
    if_ok c.definitions_at.result (IsStanding defs) _ _ all c.definitions_at.ensures.found
