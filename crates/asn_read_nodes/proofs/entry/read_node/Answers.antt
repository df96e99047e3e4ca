use Rattle.std.proofs.Common.{rules, List, ℕ, subst}
use Rattle.std.proofs.lemmas.Str.{IsCharBoundary-start}
use Rattle.std.specs.Str.{IsCharBoundary}
use Rattle.asn_rules.specs.Children.{Is}
use Rattle.asn_rules.specs.Whole.{whole_rules}
use Rattle.asn_rules.specs.declared.grammar.Grammar.TheVariants.{Whole}
use Rattle.asn_rules.specs.declared.node.Node.TheViews.{out-Node}
use Rattle.asn_read_nodes.proofs.Views.{node_is, node_stands}
use Rattle.asn_read_nodes.proofs.entry.read_node.Goals as goal

pub slice_from-requires : goal.slice_from-requires
slice_from-requires c =
    let text = c.inner-text.result.now in
    let stood = node_stands text c.args.rule c.new.result.number c.args.depth _ c.in-Ok-Some.node c.in-Ok-Some.ensures (search rules) c.new.ensures in
    let Bounds : List ℕ → Type 0 = λ bytes. IsCharBoundary bytes (out-Node c.in-Ok-Some.node).end in
    subst Bounds c.inner-text.ensures
    (c.ends_at_characters.ensures Whole text c.args.rule 0 (out-Node c.in-Ok-Some.node).end stood.0 c.inner-text.utf8 (IsCharBoundary-start text c.inner-text.utf8) stood.1)

pub returns-in-Ok-Some-clause-is : goal.returns-in-Ok-Some-clause-is
returns-in-Ok-Some-clause-is c =
    let text = c.inner-text.result.now in
    let stood = node_stands text c.args.rule c.new.result.number c.args.depth _ c.in-Ok-Some.node c.in-Ok-Some.ensures (search rules) c.new.ensures in
    let Node_is : List ℕ → Type 0 = λ text. Is whole_rules text c.args.rule c.in-Ok-Some.node in
    subst Node_is c.inner-text.ensures (node_is text c.args.rule _ c.in-Ok-Some.node stood.3)
