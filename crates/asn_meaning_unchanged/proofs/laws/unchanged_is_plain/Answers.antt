use Rattle.std.proofs.Common.{◌≡◌, true}
use Rattle.std.specs.Prelude.{is_none}
use Rattle.std.proofs.lemmas.Bool.{and_parts}
use Rattle.asn_tree.specs.declared.definitions.ToplevelDefinition.TheVariants.{TypeDef}
use Rattle.asn_tree.specs.declared.definitions.ToplevelTypeDefinition.{ToplevelTypeDefinition}
use Rattle.asn_meaning.specs.Definitions.{Definitions}
use Rattle.asn_meaning.specs.Plain.{IsPlain}
use Rattle.asn_meaning_unchanged.specs.Unchanged.{is_left, is_unchanged, linking}
use Rattle.asn_meaning_unchanged.proofs.Stays.{stays_plain}
use Rattle.asn_meaning_unchanged.proofs.Steady.{is_plain}
use Rattle.asn_meaning_unchanged.proofs.laws.unchanged_is_plain.Goals as goal

of_definition : (defs : Definitions) (d : ToplevelTypeDefinition) → is_unchanged (TypeDef d) ≡ true → IsPlain defs d.ty
unfolding is_unchanged
of_definition defs d h = is_plain defs d.ty (stays_plain defs d.ty (and_parts (is_none d.parameterization) (is_left (linking d.ty)) h).1)

pub returns : goal.returns
returns c = of_definition
