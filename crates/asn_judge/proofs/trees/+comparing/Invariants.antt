use Rattle.std.proofs.Common.{◌≡◌, drop}
use Rattle.std.specs.Prelude.{[]}
use Rattle.asn_judge.specs.inner.Trees.{in_pairs, seen}
use Rattle.asn_meaning_shapes.specs.Trees.{shown_fields, shown_tree}
use Rattle.asn_meaning.specs.ValueTrees.{same_fields, same_tree}
use Rattle.asn_judge.proofs.trees.+comparing.Given as goal

abbrev pub invariant-same_fields-loop-number : goal.invariant-same_fields-loop-number
invariant-same_fields-loop-number l = same_fields (seen l.fields l.number) (shown_fields (drop l.number l.fields)) (shown_fields l.others) ≡ same_fields [] (shown_fields l.fields) (shown_fields l.others)

abbrev pub invariant-same_elements-loop-number : goal.invariant-same_elements-loop-number
invariant-same_elements-loop-number l =
    in_pairs (λ t u. same_tree (shown_tree t) (shown_tree u)) (drop l.number l.elements) (drop l.number l.others) ≡ in_pairs (λ t u. same_tree (shown_tree t) (shown_tree u)) l.elements l.others
