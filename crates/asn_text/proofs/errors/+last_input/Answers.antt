use Rattle.std.proofs.Common.{Some, Option, option_map, sym, ◌∙◌, ap}
use Rattle.asn_text.proofs.Failures.{at_leaf, at_branch, at_fork, last_is, last_made}
use Rattle.asn_text.specs.Errors.{input_of, input_step, last_of}
use Rattle.asn_text.specs.declared.input.Input.{Input}
use Rattle.asn_text.proofs.errors.+last_input.Goals as goal

pub returns-in-Leaf : goal.returns-in-Leaf
unfolding input_of
returns-in-Leaf t c = sym (at_leaf (Option Input) input_step c.args.tree.now c.in-Leaf.input c.in-Leaf.kind c.in-Leaf.is)

pub returns-in-Branch : goal.returns-in-Branch
unfolding input_of
returns-in-Branch t c =
    let here = c.index-links-links.is in
    let last = last_is c.as_slice-links.result.now c.index-links-links.result c.as_slice-links.ensures.at_least_one here in
    ap (λ link. Some link.input) (sym here)
    ∙ sym (at_branch (Option Input) input_step c.args.tree.now c.in-Branch.tip c.in-Branch.links c.in-Branch.is
    ∙ ap (λ items. option_map (λ link. link.input) (last_of items)) (sym c.as_slice-links.ensures.items)
    ∙ ap (option_map (λ link. link.input)) last)

pub returns-in-Fork : goal.returns-in-Fork
unfolding input_of
returns-in-Fork t c =
    let branches = c.in-Fork.branches in
    let last = last_is c.as_slice-branches.result.now c.index-branches-branches.result c.as_slice-branches.ensures.at_least_one c.index-branches-branches.is in
    sym (at_fork (Option Input) input_step c.args.tree.now branches c.in-Fork.is
    ∙ last_made input_of branches c.index-branches-branches.result _ (ap last_of (sym c.as_slice-branches.ensures.items) ∙ last) (sym c.last_input.ensures))
