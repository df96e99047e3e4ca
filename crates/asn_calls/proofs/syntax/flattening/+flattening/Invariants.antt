use Rattle.std.proofs.Common.{◌≡◌, ◌++◌, drop, map}
use Rattle.asn_tree_notation.specs.Syntax.{marked_optional, tokens_of}
use Rattle.asn_calls.proofs.syntax.flattening.+flattening.Given as goal

abbrev pub invariant-add_group-loop-part : goal.invariant-add_group-loop-part
invariant-add_group-loop-part l = l.tokens ++ map marked_optional (tokens_of (drop l.part-index l.part-items)) ≡ l.initial.tokens ++ map marked_optional (tokens_of l.part-items)
