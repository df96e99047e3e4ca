-- The node of a whole text stands, and so do its children.
use Rattle.std.proofs.Common.{ℕ, List, [], ◌∷◌, arith}
use Rattle.std.specs.List.{All}
use Rattle.asn_rules.specs.Children.{Is, StandsBy}
use Rattle.asn_rules.specs.Derives.{Derives}
use Rattle.asn_rules.specs.Expression.{Expression, rule}
use Rattle.asn_rules.specs.declared.names.TheConstants.{ASN_SPEC}
use Rattle.asn_rules.specs.declared.node.Node.{Node}
use Rattle.asn_rules.specs.declared.node.Node.TheViews.{out-Node}
use Rattle.asn_rules.proofs.Children.{each_stands, is_of}
use Rattle.asn_read_nodes.specs.Derivation.{IsNodeBy}

module _ (rules : List Expression) (text : List ℕ) where
  whole_is : (j : ℕ) (n : Node) → Derives rules text (rule ASN_SPEC) 0 j (n ∷ []) → Is rules text ASN_SPEC n
  whole_is j n d = is_of rules text ASN_SPEC 0 j n d (omega arith)

  pub whole_stands : (n : Node) → IsNodeBy rules text n → All (StandsBy rules text) (out-Node n).children
  whole_stands n by = each_stands rules text n (whole_is by.0 n by.1).stands_by
