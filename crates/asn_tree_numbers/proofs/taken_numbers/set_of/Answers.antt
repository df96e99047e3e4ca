use Rattle.std.proofs.Common.{rules, SFits, pos, get_or, to_z, of_z}
use Rattle.std.specs.Int.{w128}
use Rattle.std.specs.BTreeSet.{contains}
use Rattle.std.specs.Ordering.{int_cmp}
use Rattle.std.proofs.lemmas.Int.{to_z-of_z}
use Rattle.asn_tree_numbers.proofs.Filling.{set_more}
use Rattle.asn_tree_numbers.proofs.taken_numbers.set_of.Goals as goal

pub loop-number-preserved : goal.loop-number-preserved
loop-number-preserved c =
    let xs = c.args.numbers.now in
    let i = c.loop-number.number-index in
    let n = get_or xs i (pos 0) in
    let fits : SFits w128 n = search rules in
    set_more xs i (to_z w128 (of_z w128 n)) (contains int_cmp c.loop-number.set) (contains int_cmp c.insert.new.self) c.loop-number-test.true (to_z-of_z w128 n fits) c.loop-number.invariant c.in_ok-insert.ensures.updates.0
