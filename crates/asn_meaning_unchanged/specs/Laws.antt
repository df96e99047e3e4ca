-- Laws of what linking leaves as it is.
use Rattle.std.specs.Prelude.{◌≡◌, true}
use Rattle.asn_tree.specs.declared.definitions.ToplevelDefinition.TheVariants.{TypeDef}
use Rattle.asn_tree.specs.declared.definitions.ToplevelTypeDefinition.{ToplevelTypeDefinition}
use Rattle.asn_meaning.specs.Definitions.{Definitions}
use Rattle.asn_meaning.specs.Plain.{IsPlain}
use Rattle.asn_meaning_unchanged.specs.Unchanged.{is_unchanged}

-- A type that linking leaves as it is is in plain form, over any definitions.
abbrev pub UnchangedIsPlain : Type 0
UnchangedIsPlain = (defs : Definitions) (d : ToplevelTypeDefinition) → is_unchanged (TypeDef d) ≡ true → IsPlain defs d.ty
