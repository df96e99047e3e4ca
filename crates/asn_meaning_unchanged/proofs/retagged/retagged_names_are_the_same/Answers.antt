use Rattle.std.proofs.Common.{◌≡◌, refl}
use Rattle.asn_tree_headers.specs.declared.headers.TaggingEnvironment.{TaggingEnvironment}
use Rattle.asn_tree.specs.Tagging.{retagged_definition}
use Rattle.asn_tree.specs.declared.definitions.ToplevelDefinition.{ToplevelDefinition}
use Rattle.asn_tree.specs.declared.definitions.ToplevelDefinition.TheVariants.{TypeDef, Value, Information}
use Rattle.asn_meaning_unchanged.specs.References.{names_of, naming}
use Rattle.asn_meaning_unchanged.proofs.SameTrees.{Blind, type_reads_same}
use Rattle.asn_meaning_unchanged.proofs.retagged.retagged_names_are_the_same.Goals as goal

blind : Blind naming
blind = record { at_members = λ m t. refl; at_options = λ o t. refl }

of_definition : (e : TaggingEnvironment) (d : ToplevelDefinition) → names_of (retagged_definition e d) ≡ names_of d
unfolding names_of
of_definition e (TypeDef d) = type_reads_same naming blind e d.ty
of_definition e (Value d) = refl
of_definition e (Information d) = refl

pub returns : goal.returns
returns c = of_definition
