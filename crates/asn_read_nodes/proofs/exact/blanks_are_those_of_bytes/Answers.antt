use Rattle.asn_read_nodes.proofs.Blanks.{blanks}
use Rattle.asn_read_nodes.proofs.exact.blanks_are_those_of_bytes.Goals as goal

pub returns : goal.returns
returns c text i j h run = blanks text run
