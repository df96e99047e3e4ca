use Rattle.std.proofs.Common.{arith}
use Rattle.asn_rules.specs.Expression.{rule}
use Rattle.asn_rules.specs.Grammar.{rules_of}
use Rattle.asn_match.proofs.Bound.{all_looks, looks_paid}
use Rattle.asn_match.proofs.Tables.{deep_of, flat_of}
use Rattle.asn_match.proofs.tries.filled.Goals as goal

pub returns-in-Ok-clause-flat : goal.returns-in-Ok-clause-flat
returns-in-Ok-clause-flat g c =
    λ _ o h p. flat_of (rules_of c.args.grammar) c.args.text.now c.args.depth c.args.rule.number 0 c.in-Ok.field-0 (omega arith) c.in-Ok.ensures.value c.in-Ok.ensures.within o h p

pub returns-in-Err-clause-deep : goal.returns-in-Err-clause-deep
returns-in-Err-clause-deep g c =
    λ same o h p. deep_of (rules_of c.args.grammar) c.args.text.now c.args.depth (rule c.args.rule.number) 0 c.in-Err.fault (omega arith) c.in-Err.ensures.value same o h p

pub returns-in-Ok-clause-looks : goal.returns-in-Ok-clause-looks
returns-in-Ok-clause-looks g c = all_looks c.args.grammar c.args.text.now c.args.rule.number 0 _ _ _ c.in-Ok.ensures.spent

pub returns-in-Err-clause-looks : goal.returns-in-Err-clause-looks
returns-in-Err-clause-looks g c = all_looks c.args.grammar c.args.text.now c.args.rule.number 0 _ _ _ c.in-Err.ensures.spent

pub returns-in-Ok-clause-paid : goal.returns-in-Ok-clause-paid
returns-in-Ok-clause-paid g c = looks_paid (rules_of c.args.grammar) c.args.text.now c.args.rule.number 0 _ _ _ _ c.in-Ok.ensures.kept c.in-Ok.ensures.spent

pub returns-in-Ok-clause-kept : goal.returns-in-Ok-clause-kept
returns-in-Ok-clause-kept g c = (c.in-Ok.ensures.kept.holds, record { all = c.in-Ok.ensures.kept.tried })
