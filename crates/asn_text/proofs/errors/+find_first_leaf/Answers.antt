use Rattle.std.proofs.Common.{Option, sym, ◌∙◌, ap}
use Rattle.asn_text.proofs.Failures.{at_leaf, at_branch, at_fork, first_is, first_made}
use Rattle.asn_text.specs.Errors.{first_leaf, first_leaf_step, first_of}
use Rattle.asn_text.specs.declared.errors.ErrorLeaf.{ErrorLeaf}
use Rattle.asn_text.proofs.errors.+find_first_leaf.Goals as goal

pub returns-in-Leaf : goal.returns-in-Leaf
unfolding first_leaf
returns-in-Leaf t c = sym (at_leaf (Option ErrorLeaf) first_leaf_step c.args.tree.now c.in-Leaf.input c.in-Leaf.kind c.in-Leaf.is)

pub returns-in-Branch : goal.returns-in-Branch
unfolding first_leaf
returns-in-Branch t c =
    c.find_first_leaf.ensures ∙ ap first_leaf c.get.ensures
    ∙ sym (at_branch (Option ErrorLeaf) first_leaf_step c.args.tree.now c.in-Branch.tip c.in-Branch.links c.in-Branch.is)

pub returns-in-Fork : goal.returns-in-Fork
unfolding first_leaf
returns-in-Fork t c =
    let branches = c.in-Fork.branches in
    let first = first_is c.as_slice.result.now c.index-as_slice-0.result c.as_slice.ensures.at_least_one c.index-as_slice-0.is in
    sym (at_fork (Option ErrorLeaf) first_leaf_step c.args.tree.now branches c.in-Fork.is
    ∙ first_made first_leaf branches c.index-as_slice-0.result _ (ap first_of (sym c.as_slice.ensures.items) ∙ first) (sym c.find_first_leaf-in-Fork.ensures))
