-- Definitions of types (X.680 16.1).
use Rattle.std.specs.Prelude.{ℕ, List, Option, Some, None}
use Rattle.asn_tree_headers.specs.declared.headers.AsnTag.{AsnTag}
use Rattle.asn_rules.specs.declared.names.TheConstants.{ASN1_TYPE, ASN_TAG, TITLE_CASE_IDENTIFIER}
use Rattle.asn_rules.specs.declared.node.Node.{Node}
use Rattle.asn_rules.specs.Nodes.{child_of, the}
use Rattle.asn_tree.specs.declared.definitions.ToplevelTypeDefinition.{ToplevelTypeDefinition}
use Rattle.asn_tree.specs.declared.types.ASN1Type.{ASN1Type}
use Rattle.asn_read_nodes.specs.Parts.{if_there, of_some}
use Rattle.asn_read_pieces.specs.Tags.{tag_of}
use Rattle.asn_types.specs.Reading.{type_of}
use Rattle.asn_modules.specs.Headings.{Heading, heading_of}

-- the definition of these parts
abbrev pub a_type_definition : Heading → Option AsnTag → ASN1Type → ToplevelTypeDefinition
a_type_definition heading tag type =
    record { comments = heading.0; tag = tag; name = heading.1; ty = type; parameterization = heading.2; index = None }

-- comments, a name, parameters; behind the assignment a tag, where one stands, and a type
abbrev pub type_definition_of : List ℕ → Node → Option ToplevelTypeDefinition
type_definition_of text n =
    of_some (the (child_of n TITLE_CASE_IDENTIFIER) (heading_of text n)) (λ heading. of_some (if_there (child_of n ASN_TAG) (tag_of text)) (λ tag. of_some (the (child_of n ASN1_TYPE) (type_of text)) (λ type.
    Some (a_type_definition heading tag type))))
