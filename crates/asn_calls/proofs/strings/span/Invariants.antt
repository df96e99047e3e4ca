use Rattle.std.proofs.Common.{◌≡◌, ◌++◌}
use Rattle.asn_tree_notation.specs.Strings.{span}
use Rattle.asn_calls.proofs.strings.span.Given as goal

abbrev pub invariant-loop-code : goal.invariant-loop-code
invariant-loop-code l = l.list ++ span l.code l.end ≡ span l.first l.end
