use Rattle.std.proofs.Common.{◌≡◌, ◌++◌, drop, get_or, false}
use Rattle.std.specs.Prelude.{filter}
use Rattle.asn_names_graph.proofs.tables.free_order.Given as goal

abbrev pub invariant-loop-node : goal.invariant-loop-node
invariant-loop-node l = l.nodes.items ++ filter (λ x. get_or l.free x false) (drop l.node-index l.order) ≡ filter (λ x. get_or l.free x false) l.order
