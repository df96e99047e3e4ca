use Rattle.asn_rules.specs.Expression.{expression}
use Rattle.asn_rules.specs.Grammar.{rules_of}
use Rattle.asn_match.proofs.Dues.{came_end, came_fail, came_deep}
use Rattle.asn_match.proofs.due.come_to.Goals as goal

pub returns-in-Ok-End-clause-came : goal.returns-in-Ok-End-clause-came
returns-in-Ok-End-clause-came g c = came_end (rules_of c.args.grammar) c.args.text.now c.args.depth (expression c.args.expr.now) c.args.offset c.in-Ok-End.end c.in-Ok-End.field-0-1 c.in-Ok-End.field-0 c.requires.start c.in-Ok-End.field-0-is c.in-Ok-End.ensures.value c.in-Ok-End.ensures.within

pub returns-in-Ok-Fail-clause-came : goal.returns-in-Ok-Fail-clause-came
returns-in-Ok-Fail-clause-came g c = came_fail (rules_of c.args.grammar) c.args.text.now c.args.depth (expression c.args.expr.now) c.args.offset c.in-Ok-Fail.field-0-0 c.in-Ok-Fail.field-0 c.requires.start c.in-Ok-Fail.field-0-is c.in-Ok-Fail.ensures.value c.in-Ok-Fail.ensures.within

pub returns-in-Err-clause-never : goal.returns-in-Err-clause-never
returns-in-Err-clause-never g c = λ same o comes. came_deep (rules_of c.args.grammar) c.args.text.now c.args.depth (expression c.args.expr.now) c.args.offset c.in-Err.fault c.requires.start c.in-Err.ensures.value same o comes
