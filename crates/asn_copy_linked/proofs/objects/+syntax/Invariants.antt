use Rattle.std.proofs.Common.{◌≡◌, take}
use Rattle.asn_copy_linked.proofs.objects.+syntax.Given as goal

abbrev pub invariant-copy_syntax_expressions-loop-expression : goal.invariant-copy_syntax_expressions-loop-expression
invariant-copy_syntax_expressions-loop-expression l = l.copies ≡ take l.expression-index l.expression-items
