use Rattle.std.proofs.Common.{rules}
use Rattle.asn_tree.proofs.EqualByParts.{choice_is, sequence_is}
use Rattle.asn_tree.proofs.equality.+comparing.Goals as goal

pub types::same_choice-returns-then-same_options : goal.types::same_choice-returns-then-same_options
types::same_choice-returns-then-same_options t c = search (rules, choice_is)

pub types::same_sequence_or_set-returns-then-same_constraints : goal.types::same_sequence_or_set-returns-then-same_constraints
types::same_sequence_or_set-returns-then-same_constraints t c = search (rules, sequence_is)
