use Rattle.std.proofs.Common.{ℕ, List}
use Rattle.std.specs.Str.{IsUtf8, IsCharBoundary}
use Rattle.asn_rules.specs.Expression.{rule}
use Rattle.asn_rules.specs.Whole.{whole_rules}
use Rattle.asn_rules.specs.Grammar.{rules_of}
use Rattle.asn_rules.specs.Runs.{Runs, ends}
use Rattle.asn_rules.specs.declared.grammar.Grammar.{Grammar}
use Rattle.asn_rules.specs.declared.grammar.Grammar.TheVariants.{Whole}
use Rattle.asn_rules.proofs.Ranks.{whole_takes, whole_ranks}
use Rattle.asn_rules.proofs.Right.{whole_checked}
use Rattle.asn_rules.proofs.Characters.{ends_between}
use Rattle.asn_rules.proofs.CleanRows.{whole_clean, whole_right}
use Rattle.asn_rules.proofs.rules.ends_at_characters.Goals as goal

of_each : (grammar : Grammar) (text : List ℕ) (number i j h : ℕ) → IsUtf8 text → IsCharBoundary text i → Runs (rules_of grammar) text (rule number) i (ends j) h → IsCharBoundary text j
of_each Whole text number i j h u b p = ends_between whole_rules text whole_takes whole_ranks whole_checked whole_clean whole_right u number i j h b p

pub returns : goal.returns
returns c = of_each
