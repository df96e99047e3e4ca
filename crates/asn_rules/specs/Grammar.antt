-- The rules of each grammar.
use Rattle.std.specs.Prelude.{List}
use Rattle.asn_rules.specs.Expression.{Expression}
use Rattle.asn_rules.specs.Whole.{whole_rules}
use Rattle.asn_rules.specs.declared.grammar.Grammar.{Grammar}
use Rattle.asn_rules.specs.declared.grammar.Grammar.TheVariants.{Whole}

abbrev pub rules_of : Grammar → List Expression
rules_of Whole = whole_rules
