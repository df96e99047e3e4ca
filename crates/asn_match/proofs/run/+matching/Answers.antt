use Rattle.std.proofs.Common.{◌≡◌, ◌-◌, ◌<◌, max, sym, ap, ◌∙◌, arith, Ok, length, subst}
use Rattle.asn_rules.specs.Expression.{expression, see, marked, sight, many, rule}
use Rattle.asn_rules.specs.inner.Answer.{answer, raise, IsWithinOutcome}
use Rattle.asn_rules.specs.Grammar.{rules_of}
use Rattle.asn_rules.proofs.Theory.{called, many_answer, raise_raise, max_is}
use Rattle.asn_match.proofs.Tables.{seq_on, seq_off, choice_on, choice_off, never_adds, guarded_adds, many_off, many_idles, many_on, entered, hit_value, hit_within, hit_deep, body_runs, entry, skip_adds}
use Rattle.asn_match.proofs.Counts.{idles, seq_part, seq_parts, choice_part, choice_parts, never_part, guarded_part, one_turned, last_turned, called_rule, see_within, skipped}
use Rattle.asn_match.proofs.Tables.{End-runs, Fail-runs}
use Rattle.asn_match.proofs.Bound.{rules_run}
use Rattle.asn_match.proofs.run.+matching.Goals as goal

pub run_sequence-returns-in_ok-run-in-End-clause-kept : goal.run_sequence-returns-in_ok-run-in-End-clause-kept
run_sequence-returns-in_ok-run-in-End-clause-kept g t c =
    seq_on (rules_of c.args.grammar) c.args.text.now c.args.depth c.args.offset c.requires.start _ _ (expression c.args.left.now) (expression c.args.right.now) c.in-End.middle c.in-End.height _ (sym (ap Ok c.in-End.is) ∙ c.in_ok-middle.ensures.value) c.in_ok-middle.ensures.kept c.in_ok-run-in-End.ensures.kept

pub run_sequence-returns-in-Fail-clause-kept : goal.run_sequence-returns-in-Fail-clause-kept
run_sequence-returns-in-Fail-clause-kept g t c =
    seq_off (rules_of c.args.grammar) c.args.text.now c.args.depth c.args.offset c.requires.start _ _ (expression c.args.left.now) (expression c.args.right.now) c.in-Fail.height (sym (ap Ok c.in-Fail.is) ∙ c.in_ok-middle.ensures.value) c.in_ok-middle.ensures.kept

pub run_choice-returns-in-End-clause-kept : goal.run_choice-returns-in-End-clause-kept
run_choice-returns-in-End-clause-kept g t c =
    choice_on (rules_of c.args.grammar) c.args.text.now c.args.depth c.args.offset c.requires.start _ _ (expression c.args.left.now) (expression c.args.right.now) c.in-End.end c.in-End.height (sym (ap Ok c.in-End.is) ∙ c.in_ok-end.ensures.value) c.in_ok-end.ensures.kept

pub run_choice-returns-in_ok-run-in-Fail-clause-kept : goal.run_choice-returns-in_ok-run-in-Fail-clause-kept
run_choice-returns-in_ok-run-in-Fail-clause-kept g t c =
    choice_off (rules_of c.args.grammar) c.args.text.now c.args.depth c.args.offset c.requires.start _ _ (expression c.args.left.now) (expression c.args.right.now) c.in-Fail.height _ (sym (ap Ok c.in-Fail.is) ∙ c.in_ok-end.ensures.value) c.in_ok-end.ensures.kept c.in_ok-run-in-Fail.ensures.kept

pub run_not-returns-in-End-clause-kept : goal.run_not-returns-in-End-clause-kept
run_not-returns-in-End-clause-kept g t c = never_adds (rules_of c.args.grammar) c.args.text.now c.args.depth c.args.offset c.requires.start _ _ (expression c.args.inner.now) c.in_ok-height.ensures.kept

pub run_not-returns-in-Fail-clause-kept : goal.run_not-returns-in-Fail-clause-kept
run_not-returns-in-Fail-clause-kept g t c = never_adds (rules_of c.args.grammar) c.args.text.now c.args.depth c.args.offset c.requires.start _ _ (expression c.args.inner.now) c.in_ok-height.ensures.kept

pub run_guarded-returns-then-branch-clause-kept : goal.run_guarded-returns-then-branch-clause-kept
run_guarded-returns-then-branch-clause-kept g t c = guarded_adds (rules_of c.args.grammar) c.args.text.now c.args.depth c.args.offset c.requires.start _ _ (expression c.args.inner.now) c.args.guard c.in_ok-end.ensures.kept

pub run_guarded-returns-else-branch-clause-kept : goal.run_guarded-returns-else-branch-clause-kept
run_guarded-returns-else-branch-clause-kept g t c = guarded_adds (rules_of c.args.grammar) c.args.text.now c.args.depth c.args.offset c.requires.start _ _ (expression c.args.inner.now) c.args.guard c.in_ok-end.ensures.kept

pub run_guarded-returns-in-Fail-clause-kept : goal.run_guarded-returns-in-Fail-clause-kept
run_guarded-returns-in-Fail-clause-kept g t c = guarded_adds (rules_of c.args.grammar) c.args.text.now c.args.depth c.args.offset c.requires.start _ _ (expression c.args.inner.now) c.args.guard c.in_ok-end.ensures.kept

pub run_many-returns-then-end-at-clause-kept : goal.run_many-returns-then-end-at-clause-kept
run_many-returns-then-end-at-clause-kept g t c =
    c.loop-end.invariant.adds _ (many_idles (rules_of c.args.grammar) c.args.text.now c.args.depth c.loop-end.at c.loop-end.invariant.within _ _ (expression c.args.turn.now) c.in-End.end c.in-End.height c.if-end-at.true (sym (ap Ok c.in-End.is) ∙ c.in_ok-end.ensures.value) c.in_ok-end.ensures.kept)

pub run_many-returns-in-Fail-clause-kept : goal.run_many-returns-in-Fail-clause-kept
run_many-returns-in-Fail-clause-kept g t c =
    c.loop-end.invariant.adds _ (many_off (rules_of c.args.grammar) c.args.text.now c.args.depth c.loop-end.at c.loop-end.invariant.within _ _ (expression c.args.turn.now) c.in-Fail.height (sym (ap Ok c.in-Fail.is) ∙ c.in_ok-end.ensures.value) c.in_ok-end.ensures.kept)

pub run_many-loop-end-preserved : goal.run_many-loop-end-preserved
run_many-loop-end-preserved g t c =
    let turned = rw c.in-End.is at c.in_ok-end.ensures.within in
    let value = sym c.in_ok-end.ensures.value ∙ ap Ok c.in-End.is in
    let top : c.max-highest.result ≡ max c.loop-end.highest c.in-End.height = c.max-highest.ensures ∙ max_is c.loop-end.highest c.in-End.height in
    let on : c.loop-end.at < c.in-End.end = omega (arith, turned.0, c.if-end-at.false) in
    record {
      after = omega (arith, turned.0);
      within = turned.1;
      low = omega (arith, turned.2, top);
      holds = c.in_ok-end.ensures.kept.holds;
      adds = λ u x. c.loop-end.invariant.adds u (many_on (rules_of c.args.grammar) c.args.text.now c.args.depth c.loop-end.at c.loop-end.invariant.within _ _ (expression c.args.turn.now) c.in-End.end c.in-End.height u on (sym value) c.in_ok-end.ensures.kept x);
      turned = one_turned (rules_of c.args.grammar) c.args.text.now (expression c.args.turn.now) c.args.offset c.loop-end.at c.in-End.end c.in-End.height _ _ _ _ _ _ c.loop-end.invariant.after on (End-runs (rules_of c.args.grammar) c.args.text.now c.args.depth (expression c.args.turn.now) c.loop-end.at c.in-End.end c.in-End.height c.loop-end.invariant.within (sym value)) c.in_ok-end.ensures.kept c.in_ok-end.ensures.spent c.loop-end.invariant.turned;
      rest =
          c.loop-end.invariant.rest
          ∙ ap (raise c.loop-end.highest) (many_answer (rules_of c.args.grammar) c.args.text.now c.args.depth (expression c.args.turn.now) c.loop-end.at c.in-End.end c.in-End.height c.loop-end.invariant.within on value)
          ∙ raise_raise c.loop-end.highest c.in-End.height (answer (rules_of c.args.grammar) c.args.text.now c.args.depth (many (expression c.args.turn.now)) c.in-End.end)
          ∙ ap (λ k. raise k (answer (rules_of c.args.grammar) c.args.text.now c.args.depth (many (expression c.args.turn.now)) c.in-End.end)) (sym top);
    }

pub run_rule-returns-then-height-depth-clause-value : goal.run_rule-returns-then-height-depth-clause-value
run_rule-returns-then-height-depth-clause-value g t c =
    hit_value (rules_of c.args.grammar) c.args.text.now c.args.depth c.args.id c.args.offset c.in-Some.outcome c.requires.start (entry (rules_of c.args.grammar) c.args.text.now c.args.table.now c.args.id c.args.offset c.in-Some.outcome c.requires.holds c.in-Some.ensures) (omega (arith, c.height.ensures))

pub run_rule-returns-then-height-depth-clause-within : goal.run_rule-returns-then-height-depth-clause-within
run_rule-returns-then-height-depth-clause-within g t c =
    hit_within (rules_of c.args.grammar) c.args.text.now c.args.depth c.args.id c.args.offset c.in-Some.outcome c.requires.start (entry (rules_of c.args.grammar) c.args.text.now c.args.table.now c.args.id c.args.offset c.in-Some.outcome c.requires.holds c.in-Some.ensures) (omega (arith, c.height.ensures))

pub run_rule-returns-else-height-depth-clause-value : goal.run_rule-returns-else-height-depth-clause-value
run_rule-returns-else-height-depth-clause-value g t c =
    hit_deep (rules_of c.args.grammar) c.args.text.now c.args.depth c.args.id c.args.offset c.in-Some.outcome c.requires.start (entry (rules_of c.args.grammar) c.args.text.now c.args.table.now c.args.id c.args.offset c.in-Some.outcome c.requires.holds c.in-Some.ensures) (omega (arith, c.height.ensures))

pub run_rule-returns-in-Ok-clause-value : goal.run_rule-returns-in-Ok-clause-value
run_rule-returns-in-Ok-clause-value g t c =
    ap Ok c.one_more-outcome.ensures ∙ called (rules_of c.args.grammar) c.args.text.now c.args.depth c.args.id c.args.offset (expression c.rule_expression.result.now) c.in_ok-run.field-0 (omega arith) c.rule_expression.ensures.value (sym c.in_ok-run.ensures.value)

pub run_rule-returns-in-Ok-clause-kept : goal.run_rule-returns-in-Ok-clause-kept
run_rule-returns-in-Ok-clause-kept g t c =
    let kept = rw c.rule_expression.ensures.value at c.in_ok-run.ensures.kept in
    let runs = body_runs (rules_of c.args.grammar) c.args.text.now (c.args.depth - 1) c.args.id c.args.offset (expression c.rule_expression.result.now) c.in_ok-run.field-0 c.requires.start c.rule_expression.ensures.value c.in_ok-run.ensures.value in
    let runs' = rw (← c.one_more-outcome.ensures) at runs in
    entered (rules_of c.args.grammar) c.args.text.now c.args.id c.args.offset c.one_more-outcome.result _ _ _ c.requires.start kept c.in-Ok.ensures.sets runs'

pub run-returns-in-See-clause-within : goal.run-returns-in-See-clause-within
run-returns-in-See-clause-within g t c =
    subst (IsWithinOutcome (length c.args.text.now) c.args.depth c.args.offset) (sym c.see_at.ensures.value) (see_within (rules_of c.args.grammar) c.args.text.now (sight c.in-See.look) c.args.offset c.args.depth c.requires.start)

pub run-returns-in-See-clause-spent : goal.run-returns-in-See-clause-spent
run-returns-in-See-clause-spent g t c =
    rw c.in-See.is (idles (rules_of c.args.grammar) c.args.text.now (see (sight c.in-See.look)) c.args.offset _ _ _ c.see_at.ensures.cost)

pub run_sequence-returns-in_err-middle-clause-spent : goal.run_sequence-returns-in_err-middle-clause-spent
run_sequence-returns-in_err-middle-clause-spent g t c =
    seq_part (rules_of c.args.grammar) c.args.text.now c.args.offset _ _ _ (expression c.args.left.now) (expression c.args.right.now) c.in_err-middle.ensures.spent

pub run_sequence-returns-in-Fail-clause-spent : goal.run_sequence-returns-in-Fail-clause-spent
run_sequence-returns-in-Fail-clause-spent g t c =
    seq_part (rules_of c.args.grammar) c.args.text.now c.args.offset _ _ _ (expression c.args.left.now) (expression c.args.right.now) c.in_ok-middle.ensures.spent

pub run_sequence-returns-in_err-run-in-End-clause-spent : goal.run_sequence-returns-in_err-run-in-End-clause-spent
run_sequence-returns-in_err-run-in-End-clause-spent g t c =
    seq_parts (rules_of c.args.grammar) c.args.text.now c.args.offset _ _ _ (expression c.args.left.now) (expression c.args.right.now) c.in-End.middle c.in-End.height _ _ (End-runs (rules_of c.args.grammar) c.args.text.now c.args.depth (expression c.args.left.now) c.args.offset c.in-End.middle c.in-End.height c.requires.start (sym (ap Ok c.in-End.is) ∙ c.in_ok-middle.ensures.value)) c.in_ok-middle.ensures.kept c.in_ok-middle.ensures.spent c.in_err-run-in-End.ensures.spent

pub run_sequence-returns-in_ok-run-in-End-clause-spent : goal.run_sequence-returns-in_ok-run-in-End-clause-spent
run_sequence-returns-in_ok-run-in-End-clause-spent g t c =
    seq_parts (rules_of c.args.grammar) c.args.text.now c.args.offset _ _ _ (expression c.args.left.now) (expression c.args.right.now) c.in-End.middle c.in-End.height _ _ (End-runs (rules_of c.args.grammar) c.args.text.now c.args.depth (expression c.args.left.now) c.args.offset c.in-End.middle c.in-End.height c.requires.start (sym (ap Ok c.in-End.is) ∙ c.in_ok-middle.ensures.value)) c.in_ok-middle.ensures.kept c.in_ok-middle.ensures.spent c.in_ok-run-in-End.ensures.spent

pub run_choice-returns-in_err-end-clause-spent : goal.run_choice-returns-in_err-end-clause-spent
run_choice-returns-in_err-end-clause-spent g t c =
    choice_part (rules_of c.args.grammar) c.args.text.now c.args.offset _ _ _ (expression c.args.left.now) (expression c.args.right.now) c.in_err-end.ensures.spent

pub run_choice-returns-in-End-clause-spent : goal.run_choice-returns-in-End-clause-spent
run_choice-returns-in-End-clause-spent g t c =
    choice_part (rules_of c.args.grammar) c.args.text.now c.args.offset _ _ _ (expression c.args.left.now) (expression c.args.right.now) c.in_ok-end.ensures.spent

pub run_choice-returns-in_err-run-in-Fail-clause-spent : goal.run_choice-returns-in_err-run-in-Fail-clause-spent
run_choice-returns-in_err-run-in-Fail-clause-spent g t c =
    choice_parts (rules_of c.args.grammar) c.args.text.now c.args.offset _ _ _ (expression c.args.left.now) (expression c.args.right.now) c.in-Fail.height _ _ (Fail-runs (rules_of c.args.grammar) c.args.text.now c.args.depth (expression c.args.left.now) c.args.offset c.in-Fail.height c.requires.start (sym (ap Ok c.in-Fail.is) ∙ c.in_ok-end.ensures.value)) c.in_ok-end.ensures.kept c.in_ok-end.ensures.spent c.in_err-run-in-Fail.ensures.spent

pub run_choice-returns-in_ok-run-in-Fail-clause-spent : goal.run_choice-returns-in_ok-run-in-Fail-clause-spent
run_choice-returns-in_ok-run-in-Fail-clause-spent g t c =
    choice_parts (rules_of c.args.grammar) c.args.text.now c.args.offset _ _ _ (expression c.args.left.now) (expression c.args.right.now) c.in-Fail.height _ _ (Fail-runs (rules_of c.args.grammar) c.args.text.now c.args.depth (expression c.args.left.now) c.args.offset c.in-Fail.height c.requires.start (sym (ap Ok c.in-Fail.is) ∙ c.in_ok-end.ensures.value)) c.in_ok-end.ensures.kept c.in_ok-end.ensures.spent c.in_ok-run-in-Fail.ensures.spent

pub run_not-returns-in_err-height-clause-spent : goal.run_not-returns-in_err-height-clause-spent
run_not-returns-in_err-height-clause-spent g t c =
    never_part (rules_of c.args.grammar) c.args.text.now c.args.offset _ _ _ (expression c.args.inner.now) c.in_err-height.ensures.spent

pub run_not-returns-in-End-clause-spent : goal.run_not-returns-in-End-clause-spent
run_not-returns-in-End-clause-spent g t c =
    never_part (rules_of c.args.grammar) c.args.text.now c.args.offset _ _ _ (expression c.args.inner.now) c.in_ok-height.ensures.spent

pub run_not-returns-in-Fail-clause-spent : goal.run_not-returns-in-Fail-clause-spent
run_not-returns-in-Fail-clause-spent g t c =
    never_part (rules_of c.args.grammar) c.args.text.now c.args.offset _ _ _ (expression c.args.inner.now) c.in_ok-height.ensures.spent

pub run_guarded-returns-in_err-end-clause-spent : goal.run_guarded-returns-in_err-end-clause-spent
run_guarded-returns-in_err-end-clause-spent g t c =
    guarded_part (rules_of c.args.grammar) c.args.text.now c.args.offset _ _ _ (expression c.args.inner.now) c.args.guard _ (omega arith) c.in_err-end.ensures.spent

pub run_guarded-returns-in-Fail-clause-spent : goal.run_guarded-returns-in-Fail-clause-spent
run_guarded-returns-in-Fail-clause-spent g t c =
    guarded_part (rules_of c.args.grammar) c.args.text.now c.args.offset _ _ _ (expression c.args.inner.now) c.args.guard _ (omega arith) c.in_ok-end.ensures.spent

pub run_guarded-returns-then-branch-clause-spent : goal.run_guarded-returns-then-branch-clause-spent
run_guarded-returns-then-branch-clause-spent g t c =
    guarded_part (rules_of c.args.grammar) c.args.text.now c.args.offset _ _ _ (expression c.args.inner.now) c.args.guard _ c.is_allowed_at.ensures.cost c.in_ok-end.ensures.spent

pub run_guarded-returns-else-branch-clause-spent : goal.run_guarded-returns-else-branch-clause-spent
run_guarded-returns-else-branch-clause-spent g t c =
    guarded_part (rules_of c.args.grammar) c.args.text.now c.args.offset _ _ _ (expression c.args.inner.now) c.args.guard _ c.is_allowed_at.ensures.cost c.in_ok-end.ensures.spent

pub run_many-returns-in_err-end-clause-spent : goal.run_many-returns-in_err-end-clause-spent
run_many-returns-in_err-end-clause-spent g t c =
    last_turned (rules_of c.args.grammar) c.args.text.now (expression c.args.turn.now) c.args.offset c.loop-end.at _ _ _ _ _ c.loop-end.invariant.within c.in_err-end.ensures.spent c.loop-end.invariant.turned

pub run_many-returns-then-end-at-clause-spent : goal.run_many-returns-then-end-at-clause-spent
run_many-returns-then-end-at-clause-spent g t c =
    last_turned (rules_of c.args.grammar) c.args.text.now (expression c.args.turn.now) c.args.offset c.loop-end.at _ _ _ _ _ c.loop-end.invariant.within c.in_ok-end.ensures.spent c.loop-end.invariant.turned

pub run_many-returns-in-Fail-clause-spent : goal.run_many-returns-in-Fail-clause-spent
run_many-returns-in-Fail-clause-spent g t c =
    last_turned (rules_of c.args.grammar) c.args.text.now (expression c.args.turn.now) c.args.offset c.loop-end.at _ _ _ _ _ c.loop-end.invariant.within c.in_ok-end.ensures.spent c.loop-end.invariant.turned

pub run_rule-returns-then-height-depth-clause-spent : goal.run_rule-returns-then-height-depth-clause-spent
run_rule-returns-then-height-depth-clause-spent g t c =
    idles (rules_of c.args.grammar) c.args.text.now (rule c.args.id) c.args.offset _ _ _ (omega arith)

pub run_rule-returns-else-height-depth-clause-spent : goal.run_rule-returns-else-height-depth-clause-spent
run_rule-returns-else-height-depth-clause-spent g t c =
    idles (rules_of c.args.grammar) c.args.text.now (rule c.args.id) c.args.offset _ _ _ (omega arith)

pub run_rule-returns-then-depth-eq0-clause-spent : goal.run_rule-returns-then-depth-eq0-clause-spent
run_rule-returns-then-depth-eq0-clause-spent g t c =
    idles (rules_of c.args.grammar) c.args.text.now (rule c.args.id) c.args.offset _ _ _ (omega arith)

pub run_rule-returns-in_err-run-clause-spent : goal.run_rule-returns-in_err-run-clause-spent
run_rule-returns-in_err-run-clause-spent g t c =
    called_rule (rules_of c.args.grammar) c.args.text.now c.args.id c.args.offset (expression c.rule_expression.result.now) _ _ _ c.requires.start (sym c.find.ensures ∙ c.in_default.is) c.rule_expression.ensures.value (rules_run c.args.grammar c.args.text.now c.args.id c.args.offset c.requires.start) c.in_err-run.ensures.spent

pub run_rule-returns-in-Ok-clause-spent : goal.run_rule-returns-in-Ok-clause-spent
run_rule-returns-in-Ok-clause-spent g t c =
    called_rule (rules_of c.args.grammar) c.args.text.now c.args.id c.args.offset (expression c.rule_expression.result.now) _ _ _ c.requires.start (sym c.find.ensures ∙ c.in_default.is) c.rule_expression.ensures.value (rules_run c.args.grammar c.args.text.now c.args.id c.args.offset c.requires.start) c.in_ok-run.ensures.spent

pub run_rule-returns-in-Err-clause-spent : goal.run_rule-returns-in-Err-clause-spent
run_rule-returns-in-Err-clause-spent g t c =
    called_rule (rules_of c.args.grammar) c.args.text.now c.args.id c.args.offset (expression c.rule_expression.result.now) _ _ _ c.requires.start (sym c.find.ensures ∙ c.in_default.is) c.rule_expression.ensures.value (rules_run c.args.grammar c.args.text.now c.args.id c.args.offset c.requires.start) c.in_ok-run.ensures.spent

pub run-returns-in-Marked-clause-within : goal.run-returns-in-Marked-clause-within
run-returns-in-Marked-clause-within g t c =
    subst (IsWithinOutcome (length c.args.text.now) c.args.depth c.args.offset) (sym c.see_at-in-Marked.ensures.value) (see_within (rules_of c.args.grammar) c.args.text.now (sight c.in-Marked.look) c.args.offset c.args.depth c.requires.start)

pub run-returns-in-Marked-clause-spent : goal.run-returns-in-Marked-clause-spent
run-returns-in-Marked-clause-spent g t c =
    rw c.in-Marked.is (idles (rules_of c.args.grammar) c.args.text.now (marked c.in-Marked.field-0 (sight c.in-Marked.look)) c.args.offset _ _ _ c.see_at-in-Marked.ensures.cost)

pub run_guarded-returns-in_err-is_allowed_at-in-End-clause-spent : goal.run_guarded-returns-in_err-is_allowed_at-in-End-clause-spent
run_guarded-returns-in_err-is_allowed_at-in-End-clause-spent g t c =
    guarded_part (rules_of c.args.grammar) c.args.text.now c.args.offset _ _ _ (expression c.args.inner.now) c.args.guard _ c.is_allowed_at.ensures.cost c.in_ok-end.ensures.spent

pub run_skipped-returns-in-Ok-clause-kept : goal.run_skipped-returns-in-Ok-clause-kept
run_skipped-returns-in-Ok-clause-kept g t c = skip_adds (rules_of c.args.grammar) c.args.text.now c.args.id c.args.offset _ _ c.in-Ok.ensures.kept

pub run_skipped-returns-in-Ok-clause-spent : goal.run_skipped-returns-in-Ok-clause-spent
run_skipped-returns-in-Ok-clause-spent g t c = skipped (rules_of c.args.grammar) c.args.text.now c.args.id c.args.offset _ _ _ c.in-Ok.ensures.spent

pub run_skipped-returns-in-Err-clause-spent : goal.run_skipped-returns-in-Err-clause-spent
run_skipped-returns-in-Err-clause-spent g t c = skipped (rules_of c.args.grammar) c.args.text.now c.args.id c.args.offset _ _ _ c.in-Err.ensures.spent
