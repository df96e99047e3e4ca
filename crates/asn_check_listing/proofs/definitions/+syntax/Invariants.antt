use Rattle.std.proofs.Common.{◌≡◌, ◌++◌, drop, map}
use Rattle.asn_check_listing.specs.Definitions.{expression_text, spaced}
use Rattle.asn_check_listing.proofs.definitions.+syntax.Given as goal

abbrev pub invariant-write_expressions-loop-expression : goal.invariant-write_expressions-loop-expression
invariant-write_expressions-loop-expression l = l.out ++ spaced (map expression_text (drop l.expression-index l.expressions)) ≡ l.initial.out ++ spaced (map expression_text l.expressions)
