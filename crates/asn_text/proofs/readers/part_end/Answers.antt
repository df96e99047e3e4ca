use Rattle.asn_rules.specs.Runs.{Runs, ExactlyOne, ends, fails}
use Rattle.asn_rules.specs.Expression.{rule}
use Rattle.asn_rules.specs.Whole.{whole_rules}
use Rattle.asn_rules.specs.declared.grammar.Grammar.TheVariants.{Whole}
use Rattle.asn_text.proofs.Gaps.{same_end, no_failure}
use Rattle.asn_text.proofs.readers.part_end.Goals as goal

run : (c : goal.In-Ok-End) → Runs whole_rules c.args.text.now (rule c.args.rule) c.args.offset (ends c.in-Ok-End.place) c.in-Ok-End.field-0-1
run c = rw c.new.ensures at (rw c.in-Ok-End.field-0-is at c.in-Ok-End.ensures).0

one : (c : goal.In-Ok-End) → ExactlyOne whole_rules c.args.text.now (rule c.args.rule) c.args.offset
one c = c.one_outcome.ensures Whole c.args.text.now c.args.rule c.args.offset c.requires.boundary.0

pub returns-in-Ok-End-clause-from : goal.returns-in-Ok-End-clause-from
returns-in-Ok-End-clause-from c = (same_end c.args.text.now (one c) c.requires.part (run c)).0

pub returns-in-Ok-End-clause-before : goal.returns-in-Ok-End-clause-before
returns-in-Ok-End-clause-before c = (same_end c.args.text.now (one c) c.requires.part (run c)).1

pub returns-in-Ok-End-clause-boundary : goal.returns-in-Ok-End-clause-boundary
returns-in-Ok-End-clause-boundary c =
    c.ends_at_characters.ensures Whole c.args.text.now c.args.rule c.args.offset c.in-Ok-End.place _ c.utf8.text c.requires.boundary (run c)

failed : (c : goal.In-Ok-Fail) → Runs whole_rules c.args.text.now (rule c.args.rule) c.args.offset fails c.in-Ok-Fail.field-0-0
failed c = rw c.new.ensures at (rw c.in-Ok-Fail.field-0-is at c.in-Ok-Fail.ensures).0

pub returns-in-Ok-Fail-clause-ends_there : goal.returns-in-Ok-Fail-clause-ends_there
returns-in-Ok-Fail-clause-ends_there c =
    absurd (no_failure c.args.text.now (c.one_outcome.ensures Whole c.args.text.now c.args.rule c.args.offset c.requires.boundary.0) c.requires.part (failed c))
