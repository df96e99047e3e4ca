use Rattle.std.proofs.Common.{Option, sym, ◌∙◌, ap}
use Rattle.asn_text.proofs.Failures.{at_leaf, at_branch, at_fork, last_is, last_made}
use Rattle.asn_text.specs.Errors.{last_leaf, last_leaf_step, last_of}
use Rattle.asn_text.specs.declared.errors.ErrorLeaf.{ErrorLeaf}
use Rattle.asn_text.proofs.errors.+find_last_leaf.Goals as goal

pub returns-in-Leaf : goal.returns-in-Leaf
unfolding last_leaf
returns-in-Leaf t c = sym (at_leaf (Option ErrorLeaf) last_leaf_step c.args.tree.now c.in-Leaf.input c.in-Leaf.kind c.in-Leaf.is)

pub returns-in-Branch : goal.returns-in-Branch
unfolding last_leaf
returns-in-Branch t c =
    c.find_last_leaf.ensures ∙ ap last_leaf c.get.ensures
    ∙ sym (at_branch (Option ErrorLeaf) last_leaf_step c.args.tree.now c.in-Branch.tip c.in-Branch.links c.in-Branch.is)

pub returns-in-Fork : goal.returns-in-Fork
unfolding last_leaf
returns-in-Fork t c =
    let branches = c.in-Fork.branches in
    let last = last_is c.as_slice-branches.result.now c.index-branches-branches.result c.as_slice-branches.ensures.at_least_one c.index-branches-branches.is in
    sym (at_fork (Option ErrorLeaf) last_leaf_step c.args.tree.now branches c.in-Fork.is
    ∙ last_made last_leaf branches c.index-branches-branches.result _ (ap last_of (sym c.as_slice-branches.ensures.items) ∙ last) (sym c.find_last_leaf-in-Fork.ensures))
