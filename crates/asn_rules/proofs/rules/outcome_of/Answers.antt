use Rattle.std.proofs.Common.{Ok}
use Rattle.asn_rules.specs.Expression.{rule}
use Rattle.asn_rules.specs.Grammar.{rules_of}
use Rattle.asn_rules.proofs.Theory.{tries, deeper}
use Rattle.asn_rules.proofs.rules.outcome_of.Goals as goal

pub returns-in-Ok : goal.returns-in-Ok
returns-in-Ok c =
    let within = rw c.as_bytes.ensures.value at c.in-Ok.ensures.within in
    let value = rw c.as_bytes.ensures.value at c.in-Ok.ensures.value in
    tries (rules_of c.args.grammar) c.args.text.now c.args.depth (rule c.args.rule.number) c.args.offset (Ok c.in-Ok.outcome) c.requires value within

pub returns-in-Err : goal.returns-in-Err
returns-in-Err c =
    let value = rw c.as_bytes.ensures.value at c.run_rule.ensures.value in
    deeper (rules_of c.args.grammar) c.args.text.now c.args.depth (rule c.args.rule.number) c.args.offset c.run_rule.result c.in-Err.field-0 c.requires value c.in-Err.is
