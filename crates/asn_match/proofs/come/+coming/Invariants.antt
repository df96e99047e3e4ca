use Rattle.std.proofs.Common.{◌≤◌, ◌+◌, ◌-◌, ◌*◌, length}
use Rattle.asn_rules.specs.Expression.{expression, many, weight}
use Rattle.asn_rules.specs.Grammar.{rules_of}
use Rattle.asn_match.specs.inner.Given.{Enters}
use Rattle.asn_match.proofs.Comes.{Turning}
use Rattle.asn_match.proofs.come.+coming.Given as goal

abbrev pub invariant-come_many-loop-end : goal.invariant-come_many-loop-end
invariant-come_many-loop-end l =
    record {
      ahead : l.offset ≤ l.at;
      within : l.at ≤ length l.text;
      enters : Enters (rules_of l.grammar) l.text l.table (many (expression l.turn)) l.at;
      turning : Turning (rules_of l.grammar) l.text (expression l.turn) l.offset l.at l.highest;
    }

abbrev pub decreases-come_many-loop-end : goal.decreases-come_many-loop-end
decreases-come_many-loop-end l = length l.text - l.at

abbrev pub decreases-come : goal.decreases-come
decreases-come l = 2 * weight (expression l.expr.now)

abbrev pub decreases-come_sequence : goal.decreases-come_sequence
decreases-come_sequence l = 2 * (weight (expression l.left.now) + weight (expression l.right.now)) + 1

abbrev pub decreases-come_choice : goal.decreases-come_choice
decreases-come_choice l = 2 * (weight (expression l.left.now) + weight (expression l.right.now)) + 1

abbrev pub decreases-come_not : goal.decreases-come_not
decreases-come_not l = 2 * weight (expression l.inner.now) + 1

abbrev pub decreases-come_guarded : goal.decreases-come_guarded
decreases-come_guarded l = 2 * weight (expression l.inner.now) + 1

abbrev pub decreases-come_many : goal.decreases-come_many
decreases-come_many l = 2 * weight (expression l.turn.now) + 1
