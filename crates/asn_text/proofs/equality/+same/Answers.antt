use Rattle.std.proofs.Common.{false, map, refl, sym, ap, ◌∙◌}
use Rattle.std.specs.Prelude.{◌&&◌}
use Rattle.std.specs.Cmp.Lexicographic.{pointwise}
use Rattle.asn_text.specs.Input.{part_of}
use Rattle.asn_text.specs.Seen.{forked, tree_seen, trees_eq, kind_seen, link_seen, kinds_eq, links_eq, link_eq}
use Rattle.asn_text.proofs.Sameness.{all_differ, by_forms, seen_leaf, seen_branch, seen_fork, leaf_fork, fork_leaf, branch_fork, fork_branch, links_seen}
use Rattle.asn_text.proofs.equality.+same.Goals as goal

pub same_tree-returns-then-eq : goal.same_tree-returns-then-eq
same_tree-returns-then-eq t c =
    let kinds = kinds_eq (kind_seen c.in-Leaf.kind) (kind_seen c.in-Leaf-another.reason) in
    by_forms c.args.one.now c.args.another.now _ _ c.eq-then-eq.result
    (seen_leaf _ c.in-Leaf.input c.in-Leaf.kind c.in-Leaf.is)
    (seen_leaf _ c.in-Leaf-another.place c.in-Leaf-another.reason c.in-Leaf-another.is)
    (c.eq-then-eq.ensures ∙ ap (λ same. same && kinds) (sym (sym c.eq.ensures ∙ c.if-eq.true)))

pub same_tree-returns-else-eq : goal.same_tree-returns-else-eq
same_tree-returns-else-eq t c =
    let kinds = kinds_eq (kind_seen c.in-Leaf.kind) (kind_seen c.in-Leaf-another.reason) in
    by_forms c.args.one.now c.args.another.now _ _ c.eq.result
    (seen_leaf _ c.in-Leaf.input c.in-Leaf.kind c.in-Leaf.is)
    (seen_leaf _ c.in-Leaf-another.place c.in-Leaf-another.reason c.in-Leaf-another.is)
    (c.if-eq.false ∙ ap (λ same. same && kinds) (sym (sym c.eq.ensures ∙ c.if-eq.false)))

pub same_tree-returns-in-Branch-another : goal.same_tree-returns-in-Branch-another
same_tree-returns-in-Branch-another t c =
    by_forms c.args.one.now c.args.another.now _ _ false
    (seen_leaf _ c.in-Leaf.input c.in-Leaf.kind c.in-Leaf.is)
    (seen_branch _ c.in-Branch-another.tip c.in-Branch-another.links c.in-Branch-another.is)
    refl

pub same_tree-returns-in-Fork-another : goal.same_tree-returns-in-Fork-another
same_tree-returns-in-Fork-another t c =
    by_forms c.args.one.now c.args.another.now _ _ false
    (seen_leaf _ c.in-Leaf.input c.in-Leaf.kind c.in-Leaf.is)
    (seen_fork _ c.in-Fork-another.branches c.in-Fork-another.is)
    (leaf_fork (part_of c.in-Leaf.input) (kind_seen c.in-Leaf.kind) (map tree_seen c.in-Fork-another.branches))

pub same_tree-returns-in-Leaf-another-2 : goal.same_tree-returns-in-Leaf-another-2
same_tree-returns-in-Leaf-another-2 t c =
    by_forms c.args.one.now c.args.another.now _ _ false
    (seen_branch _ c.in-Branch.tip c.in-Branch.links c.in-Branch.is)
    (seen_leaf _ c.in-Leaf-another-2.input c.in-Leaf-another-2.kind c.in-Leaf-another-2.is)
    refl

pub same_tree-returns-then-same_tree : goal.same_tree-returns-then-same_tree
same_tree-returns-then-same_tree t c =
    let links = c.in-Branch.links in
    let others = c.in-Branch-another-2.others in
    let same_links = pointwise links_eq (map link_seen links) (map link_seen others) in
    let tips =
    c.same_tree.ensures
    ∙ ap (λ tip. trees_eq (tree_seen tip) (tree_seen c.get-in-Branch-another-2.result.now)) c.get.ensures
    ∙ ap (λ tip. trees_eq (tree_seen c.in-Branch.tip) (tree_seen tip)) c.get-in-Branch-another-2.ensures in
    let compared =
    c.eq-then-same_tree.ensures
    ∙ ap (λ items. pointwise link_eq items c.as_slice-then-same_tree.result.now) c.as_slice.ensures.items
    ∙ ap (λ items. pointwise link_eq links items) c.as_slice-then-same_tree.ensures.items
    ∙ links_seen links others in
    by_forms c.args.one.now c.args.another.now _ _ c.eq-then-same_tree.result
    (seen_branch _ c.in-Branch.tip links c.in-Branch.is)
    (seen_branch _ c.in-Branch-another-2.root others c.in-Branch-another-2.is)
    (compared ∙ ap (λ same. same && same_links) (sym (sym tips ∙ c.if-same_tree.true)))

pub same_tree-returns-else-same_tree : goal.same_tree-returns-else-same_tree
same_tree-returns-else-same_tree t c =
    let links = c.in-Branch.links in
    let others = c.in-Branch-another-2.others in
    let same_links = pointwise links_eq (map link_seen links) (map link_seen others) in
    let tips =
    c.same_tree.ensures
    ∙ ap (λ tip. trees_eq (tree_seen tip) (tree_seen c.get-in-Branch-another-2.result.now)) c.get.ensures
    ∙ ap (λ tip. trees_eq (tree_seen c.in-Branch.tip) (tree_seen tip)) c.get-in-Branch-another-2.ensures in
    by_forms c.args.one.now c.args.another.now _ _ c.same_tree.result
    (seen_branch _ c.in-Branch.tip links c.in-Branch.is)
    (seen_branch _ c.in-Branch-another-2.root others c.in-Branch-another-2.is)
    (c.if-same_tree.false ∙ ap (λ same. same && same_links) (sym (sym tips ∙ c.if-same_tree.false)))

pub same_tree-returns-in-Fork-another-2 : goal.same_tree-returns-in-Fork-another-2
same_tree-returns-in-Fork-another-2 t c =
    by_forms c.args.one.now c.args.another.now _ _ false
    (seen_branch _ c.in-Branch.tip c.in-Branch.links c.in-Branch.is)
    (seen_fork _ c.in-Fork-another-2.branches c.in-Fork-another-2.is)
    (branch_fork (tree_seen c.in-Branch.tip) (map link_seen c.in-Branch.links) (map tree_seen c.in-Fork-another-2.branches))

pub same_tree-returns-in-Leaf-another-3 : goal.same_tree-returns-in-Leaf-another-3
same_tree-returns-in-Leaf-another-3 t c =
    by_forms c.args.one.now c.args.another.now _ _ false
    (seen_fork _ c.in-Fork.branches c.in-Fork.is)
    (seen_leaf _ c.in-Leaf-another-3.input c.in-Leaf-another-3.kind c.in-Leaf-another-3.is)
    (fork_leaf (part_of c.in-Leaf-another-3.input) (kind_seen c.in-Leaf-another-3.kind) (map tree_seen c.in-Fork.branches))

pub same_tree-returns-in-Branch-another-3 : goal.same_tree-returns-in-Branch-another-3
same_tree-returns-in-Branch-another-3 t c =
    by_forms c.args.one.now c.args.another.now _ _ false
    (seen_fork _ c.in-Fork.branches c.in-Fork.is)
    (seen_branch _ c.in-Branch-another-3.tip c.in-Branch-another-3.links c.in-Branch-another-3.is)
    (fork_branch (tree_seen c.in-Branch-another-3.tip) (map link_seen c.in-Branch-another-3.links) (map tree_seen c.in-Fork.branches))

pub same_tree-returns-in-Fork-another-3 : goal.same_tree-returns-in-Fork-another-3
same_tree-returns-in-Fork-another-3 t c =
    let branches = c.in-Fork.branches in
    let others = c.in-Fork-another-3.others in
    by_forms c.args.one.now c.args.another.now _ _ c.same_trees.result
    (seen_fork _ branches c.in-Fork.is)
    (seen_fork _ others c.in-Fork-another-3.is)
    (c.same_trees.ensures
    ∙ ap (λ items. trees_eq (forked (map tree_seen items)) (forked (map tree_seen c.as_slice-in-Fork-another-3-2.result.now))) c.as_slice-in-Fork-another-3.ensures.items
    ∙ ap (λ items. trees_eq (forked (map tree_seen branches)) (forked (map tree_seen items))) c.as_slice-in-Fork-another-3-2.ensures.items)

pub same_trees-returns-then-some-others : goal.same_trees-returns-then-some-others
same_trees-returns-then-some-others t c = sym (all_differ c.args.some.now c.args.others.now c.if-some-others.true)
