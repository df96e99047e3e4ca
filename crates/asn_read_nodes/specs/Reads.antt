-- What the readers of trees read: a rule of the whole of ASN.1 is tried where the input begins, and its node is read.
use Rattle.std.specs.Prelude.{◌≡◌, ℕ, ◌≤◌, List, [], ◌∷◌}
use Rattle.asn_match.specs.Table.{Ended, Holds, at}
use Rattle.asn_match.specs.declared.chains.MatchTable.{MatchTable}
use Rattle.asn_rules.specs.Derives.{Derives}
use Rattle.asn_rules.specs.Expression.{rule}
use Rattle.asn_rules.specs.Runs.{ends, Runs}
use Rattle.asn_rules.specs.Whole.{whole_rules}
use Rattle.asn_rules.specs.declared.node.Node.{Node}
use Rattle.asn_rules.specs.declared.node.Node.TheViews.{out-Node}
use Rattle.asn_text.specs.Fault.{IsNamedLeaf}
use Rattle.asn_text.specs.Input.{part_of}
use Rattle.asn_text.specs.Part.{Part, shown, part_from}
use Rattle.asn_text.specs.Reads.{FailsIn, IsTooDeep}
use Rattle.asn_text.specs.declared.errors.ErrorTree.{out-ErrorTree}
use Rattle.asn_text.specs.declared.fault.ParseFault.{ParseFault}
use Rattle.asn_text.specs.declared.fault.ParseFault.TheVariants.{Fail, TooDeep, OutOfMemory}
use Rattle.asn_text.specs.declared.input.Input.{Input}

-- The rule ends in what the part shows, with a height that is at most the depth, by way of this node, and the rest
-- begins where the node ends.
pub record StandsAt (number depth : ℕ) (part rest : Part) (node : Node) : Type 0 where
  pub height : ℕ
  pub runs : Runs whole_rules (shown part) (rule number) 0 (ends (out-Node node).end) height
  pub in_depth : height ≤ depth
  pub derives : Derives whole_rules (shown part) (rule number) 0 (out-Node node).end (node ∷ [])
  pub rest_is : rest ≡ part_from (out-Node node).end part

-- A reader of the rule over the part: its node stands there, the rest begins behind it, and what is read is made of it.
pub record ReadsNode (number depth : ℕ) (part rest : Part) (made : Node → Type 0) : Type 0 where
  pub node : Node
  pub stands_at : StandsAt number depth part rest node
  pub made_is : made node

-- What is made of the node by way of which the rule ends that begins at the offset.
pub record BuiltAt (number : ℕ) (text : List ℕ) (offset : ℕ) (made : Node → Type 0) : Type 0 where
  pub node : Node
  pub derives : Derives whole_rules text (rule number) offset (out-Node node).end (node ∷ [])
  pub made_is : made node

-- The table is one of the text, each entry is right and all that was tried for it has one; and the rule has ended at the
-- offset.
abbrev pub Offers : List ℕ → MatchTable → ℕ → ℕ → Type 0
Offers text table number offset = Holds whole_rules text table × Ended (at table number offset)

-- A fault of the reader of this rule: too deep exactly where the height exceeds the depth, a failure exactly where the
-- height is at most the depth and the rule fails; want of memory is free.
abbrev pub IsFaultAt : ℕ → List ℕ → Input → ℕ → ParseFault → Type 0
IsFaultAt number name input depth (Fail tree) = FailsIn (shown (part_of input)) number depth × IsNamedLeaf input name (out-ErrorTree tree)
IsFaultAt number name input depth TooDeep = IsTooDeep (shown (part_of input)) number depth
IsFaultAt number name input depth OutOfMemory = Unit {0}
