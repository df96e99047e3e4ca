use Rattle.std.proofs.Common.{◌≡◌, Option, None, Some, refl, ap}
use Rattle.asn_tree_headers.specs.declared.headers.TaggingEnvironment.{TaggingEnvironment}
use Rattle.asn_tree.specs.Tagging.{retagged_definition}
use Rattle.asn_tree.specs.declared.definitions.Parameterization.{Parameterization}
use Rattle.asn_tree.specs.declared.definitions.ToplevelDefinition.{ToplevelDefinition}
use Rattle.asn_tree.specs.declared.definitions.ToplevelDefinition.TheVariants.{TypeDef, Value, Information}
use Rattle.asn_meaning_unchanged.specs.Unchanged.{is_left, is_unchanged, telling}
use Rattle.asn_meaning_unchanged.proofs.SameTrees.{Blind, type_reads_same}
use Rattle.asn_meaning_unchanged.proofs.retagged.retagged_stay.Goals as goal

blind : Blind telling
blind = record { at_members = λ m t. refl; at_options = λ o t. refl }

of_definition : (e : TaggingEnvironment) (d : ToplevelDefinition) → is_unchanged (retagged_definition e d) ≡ is_unchanged d
unfolding is_unchanged
of_definition e (TypeDef d) = go d.parameterization
  where
    go : (p : Option Parameterization) →
        is_unchanged (retagged_definition e (TypeDef (record d { parameterization = p }))) ≡ is_unchanged (TypeDef (record d { parameterization = p }))
    go None = ap is_left (type_reads_same telling blind e d.ty)
    go (Some p) = refl
of_definition e (Value d) = refl
of_definition e (Information d) = refl

pub returns : goal.returns
returns c = of_definition
