use Rattle.asn_text.proofs.Parts.{rest_of_range, range_reach}
use Rattle.asn_text.proofs.input.Input.slice_from.Goals as goal

pub returns-clause-rest : goal.returns-clause-rest
returns-clause-rest c =
    let self = c.args.self.now in
    rest_of_range self.source.now self.offset c.args.n self.end (range_reach self.source.now self.offset c.args.n self.end self.ordered c.requires.0)
