-- The chain of meaning that one of the code stands for.
use Rattle.std.specs.Prelude.{map}
use Rattle.asn_tree_kinds.specs.declared.constraints.SetOperator.{SetOperator}
use Rattle.asn_tree.specs.declared.constraints.SubtypeElement.{SubtypeElement}
use Rattle.asn_meaning_ranges.specs.declared.chains.Chain.{Chain as LentChain}
use Rattle.asn_meaning_ranges.specs.declared.chains.Joined.{Joined}
use Rattle.asn_meaning.specs.Numbers.{Chain}

abbrev pub shown_joined : Joined → SetOperator × SubtypeElement
shown_joined x = (x.operator, x.element.now)

abbrev pub shown_chain : LentChain → Chain
shown_chain c = record { first = c.first.now; others = map shown_joined c.others }
