use Rattle.std.proofs.Common.{◌≡◌, ℕ, List, ◌≤◌, Err, Option, Some, None, length, refl, sym, ap, ◌∙◌}
use Rattle.std.specs.Prelude.{IfSome, IsSome}
use Rattle.asn_match.specs.Table.{at, itself, Ended, RunsTo}
use Rattle.asn_rules.specs.Due.{header_pieces, body_pieces}
use Rattle.asn_rules.specs.Expression.{Expression, rule}
use Rattle.asn_rules.specs.Grammar.{rules_of}
use Rattle.asn_rules.specs.Runs.{Ending, Runs, ends}
use Rattle.asn_rules.specs.Valid.{Fails, IsValid}
use Rattle.asn_rules.specs.declared.names.TheConstants.{ASN_SPEC}
use Rattle.asn_rules.specs.declared.run.Outcome.{Outcome}
use Rattle.asn_rules.specs.declared.run.Outcome.TheVariants.{End, Fail}
use Rattle.asn_rules.proofs.Modules.{fails_due}
use Rattle.asn_rules.proofs.Shapes.{shape_of}
use Rattle.asn_match.proofs.whole.counted.Goals as goal

gone : (o : Option Outcome) → IsSome o → o ≡ None → ⊥
gone None s e = absurd cc
gone (Some x) s e = absurd cc

module _ (rules : List Expression) (text : List ℕ) (depth : ℕ) (flat : (o : Ending) (h : ℕ) → Runs rules text (rule ASN_SPEC) 0 o h → h ≤ depth) where
  -- what the table has of the rule of whole texts
  fails : (o : Option Outcome) (h : ℕ) → IfSome o (λ o. (0 ≤ length text) × RunsTo rules text (rule ASN_SPEC) 0 o) → o ≡ Some (Fail h) → Fails rules text depth
  fails None h right same = absurd cc
  fails (Some (End j k)) h right same = absurd cc
  fails (Some (Fail k)) h right same = (k, right.1, flat _ k right.1)

  valid : (o : Option Outcome) (j h : ℕ) → IfSome o (λ o. (0 ≤ length text) × RunsTo rules text (rule ASN_SPEC) 0 o) → o ≡ Some (End j h) → Ended o × IsValid rules text depth
  valid None j h right same = absurd cc
  valid (Some (End i k)) j h right same = (tt, (i, k, right.1, flat (ends i) k right.1))
  valid (Some (Fail k)) j h right same = absurd cc

pub unreachable-requires : goal.unreachable-requires
unreachable-requires g c =
    let flat = rw c.new-rule.ensures at c.in-Ok.ensures.flat in
    let failed = fails (rules_of c.args.grammar) c.args.text.now c.args.depth (flat refl) (at c.in-Ok.table ASN_SPEC 0) _ (c.in-Ok.ensures.kept.0.right ASN_SPEC 0) (sym c.find.ensures ∙ c.in-Some-Fail.is ∙ ap Some c.in-Some-Fail.field-0-is) in
    let due = fails_due (rules_of c.args.grammar) (header_pieces c.args.grammar) body_pieces (shape_of c.args.grammar) c.args.text.now c.args.depth failed in
    c.in-Err-TooDeep.ensures.never (ap Err c.in-Err-TooDeep.field-0-is) due.0 due.1 due.2 due.3

pub unreachable-requires-in-None : goal.unreachable-requires-in-None
unreachable-requires-in-None g c =
    let kept = rw c.new-rule.ensures at c.in-Ok.ensures.kept in
    gone (at c.in-Ok.table ASN_SPEC 0) (kept.1.all ASN_SPEC 0 itself) (sym c.find.ensures ∙ c.in-None.is)
