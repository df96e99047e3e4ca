-- Tags (X.680 31.2).
use Rattle.std.specs.Prelude.{ℕ, List, Option, Some}
use Rattle.asn_tree_headers.specs.declared.headers.AsnTag.{AsnTag}
use Rattle.asn_tree_headers.specs.declared.headers.TagClass.{TagClass}
use Rattle.asn_tree_headers.specs.declared.headers.TagClass.TheVariants.{Application, ContextSpecific, Private, Universal}
use Rattle.asn_tree_headers.specs.declared.headers.TaggingEnvironment.{TaggingEnvironment}
use Rattle.asn_tree_headers.specs.declared.headers.TaggingEnvironment.TheVariants.{Automatic, Explicit, Implicit}
use Rattle.asn_rules.specs.declared.names.TheConstants.{MARK_APPLICATION, MARK_EXPLICIT, MARK_IMPLICIT, MARK_PRIVATE, MARK_UNIVERSAL, NUMBER_U64}
use Rattle.asn_rules.specs.declared.node.Node.{Node}
use Rattle.asn_rules.specs.Nodes.{at_child, child_of, the}
use Rattle.asn_read_nodes.specs.Parts.{natural_of, of_some}

-- The class that the word in the brackets names; without a word the tag is context-specific.
abbrev pub class_of : Node → TagClass
class_of n =
    at_child (child_of n MARK_PRIVATE) (at_child (child_of n MARK_APPLICATION) (at_child (child_of n MARK_UNIVERSAL) ContextSpecific (λ word. Universal)) (λ word. Application)) (λ word. Private)

-- How the tag is told by the word behind the brackets; without a word the module's environment decides.
abbrev pub environment_of : Node → TaggingEnvironment
environment_of n = at_child (child_of n MARK_EXPLICIT) (at_child (child_of n MARK_IMPLICIT) Automatic (λ word. Implicit)) (λ word. Explicit)

-- a tag: class, number and environment
abbrev pub tag_of : List ℕ → Node → Option AsnTag
tag_of text n =
    of_some (the (child_of n NUMBER_U64) (natural_of 64 text)) (λ number. Some (record { environment = environment_of n; tag_class = class_of n; id = number }))
