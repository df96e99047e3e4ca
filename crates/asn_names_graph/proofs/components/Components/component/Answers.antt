use Rattle.std.proofs.Common.{◌≡◌, ◌≤◌, length, get_or, subst, arith}
use Rattle.std.proofs.lemmas.Grind.{get_or_default_zero}
use Rattle.asn_names_graph.specs.Graphs.{HasEdge, IsNode}
use Rattle.asn_names_graph.proofs.components.Components.component.Goals as goal

pub returns-clause-lower : goal.returns-clause-lower
returns-clause-lower c other edge =
    subst (λ v. IsNode v.edges c.args.node → HasEdge v.edges c.args.node other → get_or v.numbers other 0 ≤ c.index.result.now) c.self.view_is
    (λ node e.
    let falls : get_or c.self.inside.numbers.items other 0 ≤ get_or c.self.inside.numbers.items c.args.node 0 = c.self.invariant.falls c.args.node other e in
    let long : length c.self.inside.numbers.items ≡ length c.self.inside.graph.starts = c.self.invariant.numbers_long in
    let same : get_or c.self.inside.numbers.items c.args.node c.index.result.now ≡ get_or c.self.inside.numbers.items c.args.node 0 = get_or_default_zero c.self.inside.numbers.items c.args.node c.index.result.now (omega arith) in
    omega (arith, c.index.ensures))
    c.requires edge
