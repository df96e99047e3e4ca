use Rattle.std.proofs.Common.{◌≡◌, ℕ, ◌+◌, ◌-◌, ◌<◌, ◌⊎◌, ◌↔◌, ◌++◌, ◌∷◌, [], length, subst, arith}
use Rattle.std.proofs.Math.ListN.{set}
use Rattle.std.specs.Vec.{with_item}
use Rattle.std.proofs.lemmas.Grind.{common_steps}
use Rattle.asn_names_graph.specs.Graphs.{edges_of, HasEdge}
use Rattle.asn_names_graph.proofs.Builds.{edge_added}
use Rattle.asn_names_graph.proofs.builder.GraphBuilder.add_edge.Goals as goal

pub returns-clause-edges : goal.returns-clause-edges
returns-clause-edges c =
    let starts_are : (with_item c.self.inside.starts (c.len-last.result - 1) c.len.result).items ≡ set c.self.inside.starts.items (length c.self.inside.starts.items - 1) (length c.self.inside.targets.items + 1) = grind (arith, common_steps) in
    let targets_are : c.push.new.self.items ≡ c.self.inside.targets.items ++ c.args.target ∷ [] = c.in_ok-push.ensures.items in
    subst
    (λ g. 1 < length g.starts → (x y : ℕ) → HasEdge (edges_of (with_item c.self.inside.starts (c.len-last.result - 1) c.len.result).items c.push.new.self.items) x y ↔ (HasEdge g x y ⊎ ((x + 2 ≡ length g.starts) × (y ≡ c.args.target))))
    c.self.view_is
    (λ some_node. edge_added c.self.inside.starts.items c.self.inside.targets.items (with_item c.self.inside.starts (c.len-last.result - 1) c.len.result).items c.push.new.self.items c.args.target c.self.invariant some_node starts_are targets_are)
    c.requires
