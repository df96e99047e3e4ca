use Rattle.std.proofs.Common.{◌≡◌, ◌≤◌, ◌+◌, ◌-◌, ◌*◌, length}
use Rattle.asn_rules.specs.Expression.{expression, many, weight}
use Rattle.asn_rules.specs.inner.Answer.{answer, raise}
use Rattle.asn_rules.specs.Grammar.{rules_of}
use Rattle.asn_rules.proofs.run.+matching.Given as goal

abbrev pub invariant-run_many-loop-end : goal.invariant-run_many-loop-end
invariant-run_many-loop-end l =
    record {
      after : l.offset ≤ l.at;
      within : l.at ≤ length l.text;
      low : l.highest ≤ l.depth;
      rest : answer (rules_of l.grammar) l.text l.depth (many (expression l.turn)) l.offset ≡ raise l.highest (answer (rules_of l.grammar) l.text l.depth (many (expression l.turn)) l.at);
    }

abbrev pub decreases-run_many-loop-end : goal.decreases-run_many-loop-end
decreases-run_many-loop-end l = length l.text - l.at

abbrev pub decreases-run : goal.decreases-run
decreases-run l = l.depth * 2000 + 2 * weight (expression l.expr.now)

abbrev pub decreases-run_rule : goal.decreases-run_rule
decreases-run_rule l = l.depth * 2000 + 1

abbrev pub decreases-run_sequence : goal.decreases-run_sequence
decreases-run_sequence l = l.depth * 2000 + 2 * (weight (expression l.left.now) + weight (expression l.right.now)) + 1

abbrev pub decreases-run_choice : goal.decreases-run_choice
decreases-run_choice l = l.depth * 2000 + 2 * (weight (expression l.left.now) + weight (expression l.right.now)) + 1

abbrev pub decreases-run_not : goal.decreases-run_not
decreases-run_not l = l.depth * 2000 + 2 * weight (expression l.inner.now) + 1

abbrev pub decreases-run_guarded : goal.decreases-run_guarded
decreases-run_guarded l = l.depth * 2000 + 2 * weight (expression l.inner.now) + 1

abbrev pub decreases-run_many : goal.decreases-run_many
decreases-run_many l = l.depth * 2000 + 2 * weight (expression l.turn.now) + 1
