-- The rows end between characters, and so do the nodes that they leave: computed.
use Rattle.std.proofs.Common.{◌≡◌, refl, true}
use Rattle.std.specs.List.{list_all}
use Rattle.asn_rules.specs.LexicalRules.{lexical_rules_before}
use Rattle.asn_rules.specs.ValueRules.{value_rules_before}
use Rattle.asn_rules.specs.TypeRules.{type_rules_before}
use Rattle.asn_rules.specs.ConstraintRules.{constraint_rules_before}
use Rattle.asn_rules.specs.ObjectRules.{object_rules_before}
use Rattle.asn_rules.specs.HeaderRules.{header_rules_before}
use Rattle.asn_rules.specs.DefinitionRules.{definition_rules_before}
use Rattle.asn_rules.specs.Whole.{whole_rules}
use Rattle.asn_rules.proofs.Ranks.{whole_takes}
use Rattle.asn_rules.proofs.Characters.{clean, are_right}
use Rattle.asn_rules.proofs.NodeEnds.{sound}

pub whole_clean : list_all (clean whole_takes) whole_rules ≡ true
unfolding whole_rules lexical_rules_before value_rules_before type_rules_before constraint_rules_before object_rules_before header_rules_before definition_rules_before
whole_clean = refl

pub whole_right : are_right whole_rules ≡ true
unfolding whole_rules lexical_rules_before
whole_right = refl

pub whole_sound : list_all (sound whole_rules whole_takes) whole_rules ≡ true
unfolding whole_rules lexical_rules_before value_rules_before type_rules_before constraint_rules_before object_rules_before header_rules_before definition_rules_before
whole_sound = refl
