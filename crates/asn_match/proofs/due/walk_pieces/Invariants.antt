use Rattle.std.proofs.Common.{◌≤◌, length, drop, map}
use Rattle.asn_rules.specs.Grammar.{rules_of}
use Rattle.asn_rules.specs.Due.{Stop, Through, piece}
use Rattle.asn_match.specs.Table.{Holds}
use Rattle.asn_match.proofs.due.walk_pieces.Given as goal

abbrev pub invariant-loop-one : goal.invariant-loop-one
invariant-loop-one g l = record {
  on : (s : Stop) → Through (rules_of l.grammar) l.text l.depth (map piece (drop l.one-index l.wanted)) l.at s → Through (rules_of l.grammar) l.text l.depth (map piece l.wanted) l.initial.at s;
  back : (s : Stop) → Through (rules_of l.grammar) l.text l.depth (map piece l.wanted) l.initial.at s → Through (rules_of l.grammar) l.text l.depth (map piece (drop l.one-index l.wanted)) l.at s;
  ordered : l.initial.at ≤ l.at;
  within : l.at ≤ length l.text;
  holds : Holds (rules_of l.grammar) l.text l.table;
}
