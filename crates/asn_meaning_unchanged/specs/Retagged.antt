-- Laws of what does not look at tags: it reads the same of a definition with its module's tagging environment added to each tag.
use Rattle.std.specs.Prelude.{◌≡◌}
use Rattle.asn_tree_headers.specs.declared.headers.TaggingEnvironment.{TaggingEnvironment}
use Rattle.asn_tree.specs.Tagging.{retagged_definition}
use Rattle.asn_tree.specs.declared.definitions.ToplevelDefinition.{ToplevelDefinition}
use Rattle.asn_meaning_unchanged.specs.References.{names_of}
use Rattle.asn_meaning_unchanged.specs.Unchanged.{is_unchanged}

-- Whether linking leaves a definition as it is does not go by tags, nor do the type references in it.
abbrev pub RetaggedStay : Type 0
RetaggedStay = (e : TaggingEnvironment) (d : ToplevelDefinition) → is_unchanged (retagged_definition e d) ≡ is_unchanged d

abbrev pub RetaggedNamesAreTheSame : Type 0
RetaggedNamesAreTheSame = (e : TaggingEnvironment) (d : ToplevelDefinition) → names_of (retagged_definition e d) ≡ names_of d
