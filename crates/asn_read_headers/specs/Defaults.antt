-- What a module takes for granted: its encoding reference, how its tags are read, and whether it implies extension markers
-- (X.680 13.1).
use Rattle.std.specs.Prelude.{ℕ, List, nat_eq, if◌then◌else◌, Option, Some, None}
use Rattle.asn_tree_headers.specs.MakingHeaders.{Environments}
use Rattle.asn_tree_headers.specs.declared.headers.EncodingReferenceDefault.{EncodingReferenceDefault}
use Rattle.asn_tree_headers.specs.declared.headers.ExtensibilityEnvironment.{ExtensibilityEnvironment}
use Rattle.asn_tree_headers.specs.declared.headers.ExtensibilityEnvironment.TheVariants as extensibility
use Rattle.asn_tree_headers.specs.declared.headers.TaggingEnvironment.{TaggingEnvironment}
use Rattle.asn_tree_headers.specs.declared.headers.TaggingEnvironment.TheVariants.{Automatic, Explicit, Implicit}
use Rattle.asn_rules.specs.declared.names.TheConstants.{ENCODING_REFERENCE, IDENTIFIER, MARK_AUTOMATIC, MARK_EXPLICIT, MARK_EXTENSIBILITY, MARK_IMPLICIT, TAG_DEFAULT}
use Rattle.asn_rules.specs.declared.node.Node.{Node}
use Rattle.asn_rules.specs.declared.node.Node.TheViews.{out-Node}
use Rattle.asn_rules.specs.Nodes.{at_child, child_of, first_child_of, the}
use Rattle.asn_read_nodes.specs.Parts.{if_there, name_of, of_some}

-- the name before INSTRUCTIONS
abbrev pub encoding_of : List ℕ → Node → Option EncodingReferenceDefault
encoding_of text n = of_some (the (child_of n IDENTIFIER) (name_of text)) (λ name. Some (record { 0 = name }))

-- the environment whose word a leaf is
abbrev pub tagging_by : ℕ → Option TaggingEnvironment
tagging_by leaf =
    if nat_eq leaf MARK_AUTOMATIC then Some Automatic
    else if nat_eq leaf MARK_IMPLICIT then Some Implicit
    else if nat_eq leaf MARK_EXPLICIT then Some Explicit
    else None

-- the word before TAGS
abbrev pub tagging_of : Node → Option TaggingEnvironment
tagging_of n = the (first_child_of n) (λ leaf. tagging_by (out-Node leaf).rule)

-- Without a word the tags of a module are explicit (X.680 13.2).
abbrev pub tagging_in : Node → Option TaggingEnvironment
tagging_in n = at_child (child_of n TAG_DEFAULT) (Some Explicit) tagging_of

-- Extension markers are implied where the words say so (X.680 13.4).
abbrev pub extensibility_in : Node → ExtensibilityEnvironment
extensibility_in n = at_child (child_of n MARK_EXTENSIBILITY) extensibility.Explicit (λ word. extensibility.Implied)

-- the three of them
abbrev pub environments_of : List ℕ → Node → Option Environments
environments_of text n =
    of_some (if_there (child_of n ENCODING_REFERENCE) (encoding_of text)) (λ encoding. of_some (tagging_in n) (λ tagging. Some (encoding, tagging, extensibility_in n)))
