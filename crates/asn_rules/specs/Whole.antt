-- The table of the whole of ASN.1: at each number its rule.
use Rattle.std.specs.Prelude.{List, []}
use Rattle.asn_rules.specs.Expression.{Expression}
use Rattle.asn_rules.specs.LexicalRules.{lexical_rules_before}
use Rattle.asn_rules.specs.ValueRules.{value_rules_before}
use Rattle.asn_rules.specs.TypeRules.{type_rules_before}
use Rattle.asn_rules.specs.ConstraintRules.{constraint_rules_before}
use Rattle.asn_rules.specs.ObjectRules.{object_rules_before}
use Rattle.asn_rules.specs.HeaderRules.{header_rules_before}
use Rattle.asn_rules.specs.DefinitionRules.{definition_rules_before}

unfoldable pub whole_rules : List Expression
whole_rules = lexical_rules_before (value_rules_before (type_rules_before (constraint_rules_before (object_rules_before (header_rules_before (definition_rules_before []))))))
