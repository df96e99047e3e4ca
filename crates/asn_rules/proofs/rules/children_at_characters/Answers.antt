use Rattle.std.proofs.Common.{ℕ, List}
use Rattle.std.specs.Str.{IsUtf8, IsCharBoundary}
use Rattle.asn_rules.specs.Children.{AtCharacters, StandsBy}
use Rattle.asn_rules.specs.Whole.{whole_rules}
use Rattle.asn_rules.specs.Grammar.{rules_of}
use Rattle.asn_rules.specs.declared.grammar.Grammar.{Grammar}
use Rattle.asn_rules.specs.declared.grammar.Grammar.TheVariants.{Whole}
use Rattle.asn_rules.specs.declared.node.Node.{Node}
use Rattle.asn_rules.specs.declared.node.Node.TheViews.{out-Node}
use Rattle.asn_rules.proofs.Ranks.{whole_takes, whole_ranks}
use Rattle.asn_rules.proofs.Right.{whole_checked}
use Rattle.asn_rules.proofs.CleanRows.{whole_clean, whole_right, whole_sound}
use Rattle.asn_rules.proofs.NodeEnds.{children_at}
use Rattle.asn_rules.proofs.rules.children_at_characters.Goals as goal

of_each : (grammar : Grammar) (text : List ℕ) (n : Node) → IsUtf8 text → StandsBy (rules_of grammar) text n → IsCharBoundary text (out-Node n).start → AtCharacters text (out-Node n).children
of_each Whole text n u is b = children_at whole_rules text whole_takes whole_ranks whole_checked whole_clean whole_right u whole_sound n is b

pub returns : goal.returns
returns c = of_each
