use Rattle.std.proofs.Common.{◌≡◌, ◌<◌, max, sym, ap, ◌∙◌, arith, Ok}
use Rattle.asn_rules.specs.Expression.{expression, many, sight}
use Rattle.asn_rules.specs.inner.Answer.{answer, raise}
use Rattle.asn_rules.specs.Grammar.{rules_of}
use Rattle.asn_rules.specs.declared.run.Outcome.TheVariants.{End, Fail}
use Rattle.asn_rules.proofs.Theory.{called, many_answer, raise_raise, max_is, seen_within}
use Rattle.asn_rules.proofs.run.+matching.Goals as goal

pub run-returns-in-See-clause-within : goal.run-returns-in-See-clause-within
run-returns-in-See-clause-within t c = seen_within c.args.text.now (sight c.in-See.look) c.args.offset c.args.depth c.see_at.result (omega arith) c.see_at.ensures

pub run-returns-in-Marked-clause-within : goal.run-returns-in-Marked-clause-within
run-returns-in-Marked-clause-within t c = seen_within c.args.text.now (sight c.in-Marked.look) c.args.offset c.args.depth c.see_at-in-Marked.result (omega arith) c.see_at-in-Marked.ensures

pub run_rule-returns-in-End-clause-value : goal.run_rule-returns-in-End-clause-value
run_rule-returns-in-End-clause-value t c =
    called (rules_of c.args.grammar) c.args.text.now c.args.depth c.args.id c.args.offset (expression c.rule_expression.result.now) (End c.in-End.end c.in-End.height) (omega arith) c.rule_expression.ensures.value (sym c.in_ok-end.ensures.value ∙ ap Ok c.in-End.is)

pub run_rule-returns-in-Fail-clause-value : goal.run_rule-returns-in-Fail-clause-value
run_rule-returns-in-Fail-clause-value t c =
    called (rules_of c.args.grammar) c.args.text.now c.args.depth c.args.id c.args.offset (expression c.rule_expression.result.now) (Fail c.in-Fail.height) (omega arith) c.rule_expression.ensures.value (sym c.in_ok-end.ensures.value ∙ ap Ok c.in-Fail.is)

pub run_many-loop-end-preserved : goal.run_many-loop-end-preserved
run_many-loop-end-preserved t c =
    let turned = rw c.in-End.is at c.in_ok-end.ensures.within in
    let value = sym c.in_ok-end.ensures.value ∙ ap Ok c.in-End.is in
    let top : c.max-highest.result ≡ max c.loop-end.highest c.in-End.height = c.max-highest.ensures ∙ max_is c.loop-end.highest c.in-End.height in
    let on : c.loop-end.at < c.in-End.end = omega (arith, turned.0, c.if-end-at.false) in
    record {
      after = omega (arith, turned.0);
      within = turned.1;
      low = omega (arith, turned.2, top);
      rest =
          c.loop-end.invariant.rest
          ∙ ap (raise c.loop-end.highest) (many_answer (rules_of c.args.grammar) c.args.text.now c.args.depth (expression c.args.turn.now) c.loop-end.at c.in-End.end c.in-End.height c.loop-end.invariant.within on value)
          ∙ raise_raise c.loop-end.highest c.in-End.height (answer (rules_of c.args.grammar) c.args.text.now c.args.depth (many (expression c.args.turn.now)) c.in-End.end)
          ∙ ap (λ k. raise k (answer (rules_of c.args.grammar) c.args.text.now c.args.depth (many (expression c.args.turn.now)) c.in-End.end)) (sym top);
    }
