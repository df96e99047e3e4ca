use Rattle.std.proofs.Common.{◌≤◌, ◌-◌, ℕ, length}
use Rattle.asn_rules.specs.Due.{IsDue, pieces_of}
use Rattle.asn_rules.specs.Grammar.{rules_of}
use Rattle.asn_rules.specs.declared.due.ModulePart.{ModulePart}
use Rattle.asn_match.specs.Table.{Holds}
use Rattle.asn_match.proofs.due.due_place.Given as goal

abbrev pub invariant-loop-end : goal.invariant-loop-end
invariant-loop-end g l = record {
  on : (p : ModulePart) (f q : ℕ) → IsDue (rules_of l.grammar) l.text l.depth (pieces_of l.grammar) l.at p f q → IsDue (rules_of l.grammar) l.text l.depth (pieces_of l.grammar) 0 p f q;
  back : (p : ModulePart) (f q : ℕ) → IsDue (rules_of l.grammar) l.text l.depth (pieces_of l.grammar) 0 p f q → IsDue (rules_of l.grammar) l.text l.depth (pieces_of l.grammar) l.at p f q;
  within : l.at ≤ length l.text;
  holds : Holds (rules_of l.grammar) l.text l.table;
}

abbrev pub decreases-loop-end : goal.decreases-loop-end
decreases-loop-end g l = length l.text - l.at
