use Rattle.std.proofs.Common.{◌≡◌, ℕ, suc, Some, false, true}
use Rattle.std.specs.Prelude.{is_none}
use Rattle.std.proofs.lemmas.Bool.{and_parts}
use Rattle.asn_tree.specs.declared.definitions.ToplevelDefinition.TheVariants.{TypeDef}
use Rattle.asn_tree.specs.declared.definitions.ToplevelTypeDefinition.{ToplevelTypeDefinition}
use Rattle.asn_meaning.specs.Definitions.{Definitions}
use Rattle.asn_meaning.specs.Scopes.{Empty}
use Rattle.asn_link_instance.specs.Closed.{every_name}
use Rattle.asn_link_instance.specs.Instance.{instance}
use Rattle.asn_link_instance.specs.Literals.{literals}
use Rattle.asn_meaning_unchanged.specs.Unchanged.{is_left, is_unchanged, linking}
use Rattle.asn_link_closed.specs.OwnInstances.{Eventually}
use Rattle.asn_link_closed.proofs.Itself.{own_instance}
use Rattle.asn_link_closed.proofs.Levels.{mapped}
use Rattle.asn_link_closed.proofs.own_instances.unchanged_are_own_instances.Goals as goal

of_definition : (defs : Definitions) (d : ToplevelTypeDefinition) → is_unchanged (TypeDef d) ≡ true →
    Eventually (λ k. (n : ℕ) → (instance (literals every_name) defs (suc n) k).of_type false Empty d.ty ≡ Some d.ty)
unfolding is_unchanged
of_definition defs d h = mapped (λ k same n. same n false (λ e. absurd cc))
    (own_instance defs d.ty (and_parts (is_none d.parameterization) (is_left (linking d.ty)) h).1)

pub returns : goal.returns
returns c = of_definition
