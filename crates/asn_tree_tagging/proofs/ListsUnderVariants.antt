-- What rewriting tags gives of a tree that is one list of constraints under its variant.
use Rattle.std.proofs.Common.{rules, ◌≡◌, List, map}
use Rattle.asn_tree.specs.declared.constraints.Constraint.{Constraint}
use Rattle.asn_tree.specs.declared.constraints.SubtypeElement.{fold_out-SubtypeElement}
use Rattle.asn_tree.specs.declared.constraints.SubtypeElement.TheVariants.{SingleTypeConstraint, outs-SingleTypeConstraint, rolls-SingleTypeConstraint}
use Rattle.asn_tree_headers.specs.declared.headers.TaggingEnvironment.{TaggingEnvironment}
use Rattle.asn_tree.specs.declared.objects.SyntaxApplication.{fold_out-SyntaxApplication}
use Rattle.asn_tree.specs.declared.objects.SyntaxApplication.TheVariants.{LiteralOrTypeReference, outs-LiteralOrTypeReference, rolls-LiteralOrTypeReference}
use Rattle.asn_tree_kinds.specs.declared.types.DeclarationElsewhereOver.{DeclarationElsewhereOver}
use Rattle.asn_tree.specs.Passes.{rewritten_constraint, rewritten_element, rewritten_item}
use Rattle.asn_tree.specs.Tagging.{retagging}

pub elements_retagged : (e : TaggingEnvironment) (cs : List Constraint) → rewritten_element (retagging e) (SingleTypeConstraint cs) ≡ SingleTypeConstraint (map (rewritten_constraint (retagging e)) cs)
elements_retagged e cs = search (rules, fold_out-SubtypeElement, outs-SingleTypeConstraint, rolls-SingleTypeConstraint)

pub reference_retagged : (e : TaggingEnvironment) (d : DeclarationElsewhereOver Constraint) → rewritten_item (retagging e) (LiteralOrTypeReference d) ≡ LiteralOrTypeReference (record d { constraints = map (rewritten_constraint (retagging e)) d.constraints })
reference_retagged e d = search (rules, fold_out-SyntaxApplication, outs-LiteralOrTypeReference, rolls-LiteralOrTypeReference)
