use Rattle.asn_rules.specs.Due.{header_pieces, body_pieces}
use Rattle.asn_rules.specs.Grammar.{rules_of}
use Rattle.asn_rules.proofs.Modules.{fails_due}
use Rattle.asn_rules.proofs.Shapes.{shape_of}
use Rattle.asn_rules.proofs.due.due_where_it_fails.Goals as goal

pub returns : goal.returns
returns c grammar text depth fails = fails_due (rules_of grammar) (header_pieces grammar) body_pieces (shape_of grammar) text depth fails
