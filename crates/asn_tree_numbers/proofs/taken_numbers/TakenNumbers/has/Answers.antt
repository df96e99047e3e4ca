use Rattle.std.proofs.Common.{◌∙◌, ap}
use Rattle.std.specs.BTreeSet.{contains}
use Rattle.std.specs.Int.{w128}
use Rattle.std.specs.Ordering.{int_cmp}
use Rattle.std.proofs.lemmas.Int.{to_z-of_z}
use Rattle.asn_tree_numbers.proofs.taken_numbers.TakenNumbers.has.Goals as goal

pub returns : goal.returns
returns c =
    let same = to_z-of_z w128 c.args.number c.ranges.number in
    c.contains.ensures ∙ ap (contains int_cmp c.args.self.now.set) same ∙ c.args.self.now.agrees c.args.number
