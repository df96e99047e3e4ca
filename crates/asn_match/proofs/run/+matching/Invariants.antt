use Rattle.std.proofs.Common.{◌≡◌, ◌≤◌, ◌+◌, ◌-◌, ◌*◌, length}
use Rattle.asn_rules.specs.Expression.{expression, many, weight}
use Rattle.asn_rules.specs.inner.Answer.{answer, raise}
use Rattle.asn_rules.specs.Grammar.{rules_of}
use Rattle.asn_match.specs.Table.{Holds, Adds}
use Rattle.asn_match.specs.declared.chains.MatchTable.{MatchTable}
use Rattle.asn_match.proofs.Counts.{Turned}
use Rattle.asn_match.proofs.run.+matching.Given as goal

abbrev pub invariant-run_many-loop-end : goal.invariant-run_many-loop-end
invariant-run_many-loop-end g l =
    record {
      after : l.offset ≤ l.at;
      within : l.at ≤ length l.text;
      low : l.highest ≤ l.depth;
      holds : Holds (rules_of l.grammar) l.text l.table;
      adds : (t : MatchTable) → Adds (rules_of l.grammar) l.text (many (expression l.turn)) l.at l.table t → Adds (rules_of l.grammar) l.text (many (expression l.turn)) l.offset l.fn.table t;
      turned : Turned (rules_of l.grammar) l.text (expression l.turn) l.offset l.at l.fn.table l.table l.fn.steps l.steps;
      rest : answer (rules_of l.grammar) l.text l.depth (many (expression l.turn)) l.offset ≡ raise l.highest (answer (rules_of l.grammar) l.text l.depth (many (expression l.turn)) l.at);
    }

abbrev pub decreases-run_many-loop-end : goal.decreases-run_many-loop-end
decreases-run_many-loop-end g l = length l.text - l.at

abbrev pub decreases-run : goal.decreases-run
decreases-run g l = l.depth * 2000 + 2 * weight (expression l.expr.now)

abbrev pub decreases-run_rule : goal.decreases-run_rule
decreases-run_rule g l = l.depth * 2000

abbrev pub decreases-run_skipped : goal.decreases-run_skipped
decreases-run_skipped g l = l.depth * 2000 + 1

abbrev pub decreases-run_many : goal.decreases-run_many
decreases-run_many g l = l.depth * 2000 + 2 * weight (expression l.turn.now) + 1

abbrev pub decreases-run_sequence : goal.decreases-run_sequence
decreases-run_sequence g l = l.depth * 2000 + 2 * (weight (expression l.left.now) + weight (expression l.right.now)) + 1

abbrev pub decreases-run_choice : goal.decreases-run_choice
decreases-run_choice g l = l.depth * 2000 + 2 * (weight (expression l.left.now) + weight (expression l.right.now)) + 1

abbrev pub decreases-run_not : goal.decreases-run_not
decreases-run_not g l = l.depth * 2000 + 2 * weight (expression l.inner.now) + 1

abbrev pub decreases-run_guarded : goal.decreases-run_guarded
decreases-run_guarded g l = l.depth * 2000 + 2 * weight (expression l.inner.now) + 1
