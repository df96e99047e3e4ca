use Rattle.std.proofs.Common.{◌≡◌, ◌++◌, drop}
use Rattle.asn_tree_notation.specs.Syntax.{flattened}
use Rattle.asn_calls.proofs.syntax.flattening.InformationObjectSyntaxInformationObjectSyntaxCalls.flatten.Given as goal

abbrev pub invariant-loop-part : goal.invariant-loop-part
invariant-loop-part l = l.tokens ++ flattened (drop l.part-index l.part-items) ≡ flattened l.part-items
