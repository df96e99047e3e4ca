use Rattle.std.proofs.Common.{◌≤◌, ◌+◌, ◌-◌, ◌*◌, length}
use Rattle.asn_rules.specs.Expression.{expression, many, weight}
use Rattle.asn_rules.specs.Grammar.{rules_of}
use Rattle.asn_match.specs.inner.Given.{EndsWithin, Enters}
use Rattle.asn_match.proofs.Grows.{Fronts}
use Rattle.asn_match.proofs.grow.+growing.Given as goal

abbrev pub invariant-grow_many-loop-next : goal.invariant-grow_many-loop-next
invariant-grow_many-loop-next l =
    record {
      ahead : l.offset ≤ l.at;
      within : l.at ≤ length l.text;
      enters : Enters (rules_of l.grammar) l.text l.table (many (expression l.turn)) l.at;
      left : EndsWithin (rules_of l.grammar) l.text l.height (many (expression l.turn)) l.at l.end;
      fronts : Fronts (rules_of l.grammar) l.text l.height (expression l.turn) l.offset l.at l.end l.all;
    }

abbrev pub decreases-grow_many-loop-next : goal.decreases-grow_many-loop-next
decreases-grow_many-loop-next l = length l.text - l.at

abbrev pub decreases-grow : goal.decreases-grow
decreases-grow l = l.height * 2000 + 2 * weight (expression l.expr.now)

abbrev pub decreases-grow_rule : goal.decreases-grow_rule
decreases-grow_rule l = l.height * 2000 + 1

abbrev pub decreases-grow_sequence : goal.decreases-grow_sequence
decreases-grow_sequence l = l.height * 2000 + 2 * (weight (expression l.left.now) + weight (expression l.right.now)) + 1

abbrev pub decreases-grow_guarded : goal.decreases-grow_guarded
decreases-grow_guarded l = l.height * 2000 + 2 * weight (expression l.inner.now) + 1

abbrev pub decreases-grow_many : goal.decreases-grow_many
decreases-grow_many l = l.height * 2000 + 2 * weight (expression l.turn.now) + 1
