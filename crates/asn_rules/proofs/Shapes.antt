-- The table is made of modules: computed.
use Rattle.std.proofs.Common.{refl}
use Rattle.asn_rules.specs.LexicalRules.{lexical_rules_before}
use Rattle.asn_rules.specs.ValueRules.{value_rules_before}
use Rattle.asn_rules.specs.TypeRules.{type_rules_before}
use Rattle.asn_rules.specs.ConstraintRules.{constraint_rules_before}
use Rattle.asn_rules.specs.ObjectRules.{object_rules_before}
use Rattle.asn_rules.specs.HeaderRules.{header_rules_before}
use Rattle.asn_rules.specs.DefinitionRules.{definition_rules_before}
use Rattle.asn_rules.specs.Whole.{whole_rules}
use Rattle.asn_rules.specs.Grammar.{rules_of}
use Rattle.asn_rules.specs.Due.{header_pieces, body_pieces}
use Rattle.asn_rules.specs.declared.grammar.Grammar.{Grammar}
use Rattle.asn_rules.specs.declared.grammar.Grammar.TheVariants.{Whole}
use Rattle.asn_rules.proofs.Ranks.{whole_takes, whole_ranks}
use Rattle.asn_rules.proofs.Right.{whole_checked}
use Rattle.asn_rules.proofs.Shape.{IsOfModules}

whole_shape : IsOfModules whole_rules (header_pieces Whole) body_pieces
unfolding whole_rules lexical_rules_before value_rules_before type_rules_before constraint_rules_before object_rules_before header_rules_before definition_rules_before
whole_shape = record {
  takes = whole_takes;
  ranks = whole_ranks;
  ranked = whole_checked;
  header_row = refl;
  module_row = refl;
  text_row = refl;
  blanks_end = refl;
  module_takes = refl;
  fit = refl;
  first_is_part = refl;
}

pub shape_of : (grammar : Grammar) → IsOfModules (rules_of grammar) (header_pieces grammar) body_pieces
shape_of Whole = whole_shape
