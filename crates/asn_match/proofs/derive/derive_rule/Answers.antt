use Rattle.std.proofs.Common.{◌≡◌, Option, Some, None, sym, ◌∙◌}
use Rattle.std.specs.Prelude.{IsSome}
use Rattle.asn_match.specs.Table.{at, itself}
use Rattle.asn_rules.specs.declared.run.Outcome.{Outcome}
use Rattle.asn_match.proofs.derive.derive_rule.Goals as goal

gone : (o : Option Outcome) → IsSome o → o ≡ None → ⊥
gone None s e = absurd cc
gone (Some x) s e = absurd cc

pub unreachable-requires : goal.unreachable-requires
unreachable-requires c =
    gone (at c.in-Ok.table c.args.rule.number 0) (c.in-Ok.ensures.kept.1.all c.args.rule.number 0 itself) (sym c.find.ensures ∙ c.in-None.is)
