use Rattle.std.proofs.Common.{sym, subst}
use Rattle.asn_match.proofs.Grows.{guard_derives, idle_derives, mark_derives, never_derives, see_derives, seq_not_fails, skip_derives, stop_derives, whole_front}
use Rattle.asn_match.specs.inner.Given.{EndsWithin}
use Rattle.asn_rules.specs.Derives.{Derives}
use Rattle.asn_rules.specs.Expression.{expression, sight}
use Rattle.asn_rules.specs.Grammar.{rules_of}
use Rattle.asn_match.proofs.grow.+growing.Goals as goal

pub grow-returns-in-See : goal.grow-returns-in-See
grow-returns-in-See t c =
    let ends = subst (λ e. EndsWithin (rules_of c.args.grammar) c.args.text.now c.args.height (expression e) c.args.offset c.args.end) c.in-See.is c.requires.ends in
    subst (λ e. Derives (rules_of c.args.grammar) c.args.text.now (expression e) c.args.offset c.args.end c.new.result) (sym c.in-See.is) (see_derives (rules_of c.args.grammar) c.args.text.now c.args.height (sight c.in-See.field-0) c.args.offset c.args.end c.new.result ends c.new.ensures)

pub grow-returns-in_ok-leaf-in-Marked : goal.grow-returns-in_ok-leaf-in-Marked
grow-returns-in_ok-leaf-in-Marked t c =
    let ends = subst (λ e. EndsWithin (rules_of c.args.grammar) c.args.text.now c.args.height (expression e) c.args.offset c.args.end) c.in-Marked.is c.requires.ends in
    subst (λ e. Derives (rules_of c.args.grammar) c.args.text.now (expression e) c.args.offset c.args.end c.in_ok-leaf-in-Marked.field-0) (sym c.in-Marked.is) (mark_derives (rules_of c.args.grammar) c.args.text.now c.args.height c.in-Marked.mark (sight c.in-Marked.field-1) c.args.offset c.args.end c.in_ok-leaf-in-Marked.field-0 ends c.in_ok-leaf-in-Marked.ensures)

pub grow-returns-in-Skip : goal.grow-returns-in-Skip
grow-returns-in-Skip t c =
    let ends = subst (λ e. EndsWithin (rules_of c.args.grammar) c.args.text.now c.args.height (expression e) c.args.offset c.args.end) c.in-Skip.is c.requires.ends in
    subst (λ e. Derives (rules_of c.args.grammar) c.args.text.now (expression e) c.args.offset c.args.end c.new-in-Skip.result) (sym c.in-Skip.is) (skip_derives (rules_of c.args.grammar) c.args.text.now c.args.height c.in-Skip.field-0 c.args.offset c.args.end c.new-in-Skip.result ends c.new-in-Skip.ensures)

pub grow-returns-in-Not : goal.grow-returns-in-Not
grow-returns-in-Not t c =
    let ends = subst (λ e. EndsWithin (rules_of c.args.grammar) c.args.text.now c.args.height (expression e) c.args.offset c.args.end) c.in-Not.is c.requires.ends in
    subst (λ e. Derives (rules_of c.args.grammar) c.args.text.now (expression e) c.args.offset c.args.end c.new-in-Not.result) (sym c.in-Not.is) (never_derives (rules_of c.args.grammar) c.args.text.now c.args.height (expression c.in-Not.field-0.now) c.args.offset c.args.end c.new-in-Not.result ends c.new-in-Not.ensures)

pub grow_guarded-returns : goal.grow_guarded-returns
grow_guarded-returns t c =
    guard_derives (rules_of c.args.grammar) c.args.text.now c.args.height (expression c.args.inner.now) c.args.guard c.args.offset c.args.end c.in_ok-grow.field-0 c.requires.ends c.in_ok-grow.ensures

pub grow_many-returns-then-next-at : goal.grow_many-returns-then-next-at
grow_many-returns-then-next-at t c =
    whole_front (rules_of c.args.grammar) c.args.text.now c.args.height (expression c.args.turn.now) c.args.offset c.loop-next.at c.args.end c.loop-next.all c.loop-next.invariant.fronts
    (idle_derives (rules_of c.args.grammar) c.args.text.now c.args.height (expression c.args.turn.now) c.loop-next.at c.args.end c.in-End.next _ c.loop-next.invariant.within c.loop-next.invariant.left c.in-End.ensures.runs c.if-next-at.true)

pub grow_many-returns-in-Fail : goal.grow_many-returns-in-Fail
grow_many-returns-in-Fail t c =
    whole_front (rules_of c.args.grammar) c.args.text.now c.args.height (expression c.args.turn.now) c.args.offset c.loop-next.at c.args.end c.loop-next.all c.loop-next.invariant.fronts
    (stop_derives (rules_of c.args.grammar) c.args.text.now c.args.height (expression c.args.turn.now) c.loop-next.at c.args.end _ c.loop-next.invariant.within c.loop-next.invariant.left c.in-Fail.ensures.runs)

pub grow_sequence-unreachable-requires : goal.grow_sequence-unreachable-requires
grow_sequence-unreachable-requires t c =
    seq_not_fails (rules_of c.args.grammar) c.args.text.now c.args.height (expression c.args.left.now) (expression c.args.right.now) c.args.offset c.args.end _ c.requires.start c.requires.ends c.in-Fail.ensures.runs
