use Rattle.std.proofs.Common.{◌≡◌, drop}
use Rattle.std.specs.List.{list_any}
use Rattle.asn_tree_notation.specs.Syntax.{is_text_of, up_to_required}
use Rattle.asn_calls.proofs.syntax.matching.is_due.Given as goal

abbrev pub invariant-loop-required : goal.invariant-loop-required
invariant-loop-required l = list_any (is_text_of l.text) (up_to_required (drop l.required-index l.tokens)) ≡ list_any (is_text_of l.text) (up_to_required l.tokens)
