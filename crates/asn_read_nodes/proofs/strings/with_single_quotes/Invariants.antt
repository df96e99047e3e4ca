use Rattle.std.proofs.Common.{◌≡◌, ◌++◌, drop}
use Rattle.asn_read_nodes.specs.Strings.{single, single_from}
use Rattle.asn_read_nodes.proofs.strings.with_single_quotes.Given as goal

abbrev pub invariant-loop-byte : goal.invariant-loop-byte
invariant-loop-byte l = l.made ++ single_from l.held (drop l.byte-index l.bytes) ≡ single l.bytes
