use Rattle.std.proofs.Common.{◌≤◌, ℕ, List, length}
use Rattle.asn_rules.specs.Expression.{rule}
use Rattle.asn_rules.specs.Whole.{whole_rules}
use Rattle.asn_rules.specs.Grammar.{rules_of}
use Rattle.asn_rules.specs.Runs.{ExactlyOne}
use Rattle.asn_rules.specs.declared.grammar.Grammar.{Grammar}
use Rattle.asn_rules.specs.declared.grammar.Grammar.TheVariants.{Whole}
use Rattle.asn_rules.proofs.Ranks.{whole_takes, whole_ranks}
use Rattle.asn_rules.proofs.Right.{whole_checked}
use Rattle.asn_rules.proofs.Total.{exactly_one}
use Rattle.asn_rules.proofs.rules.one_outcome.Goals as goal

of_each : (grammar : Grammar) (text : List ℕ) (number offset : ℕ) → offset ≤ length text → ExactlyOne (rules_of grammar) text (rule number) offset
of_each Whole text number offset le = exactly_one whole_rules text whole_takes whole_ranks whole_checked (rule number) offset le

pub returns : goal.returns
returns c = of_each
