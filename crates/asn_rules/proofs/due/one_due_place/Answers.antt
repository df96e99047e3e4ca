use Rattle.std.proofs.Common.{arith}
use Rattle.asn_rules.specs.Due.{pieces_of}
use Rattle.asn_rules.specs.Grammar.{rules_of}
use Rattle.asn_rules.proofs.Walks.{one_place}
use Rattle.asn_rules.proofs.due.one_due_place.Goals as goal

pub returns : goal.returns
returns c grammar text depth p p' f f' q q' a b = one_place (rules_of grammar) text depth (pieces_of grammar) 0 p p' f f' q q' (omega arith) a b
