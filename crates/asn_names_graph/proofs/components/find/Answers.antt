use Rattle.std.proofs.Common.{map, ap, ◌∙◌}
use Rattle.asn_names_graph.specs.Graphs.{edges_of}
use Rattle.asn_names_graph.specs.inner.Numbered.{number_in}
use Rattle.asn_names_graph.specs.inner.Shown.{shown}
use Rattle.asn_names_graph.proofs.Needs.{numbered}
use Rattle.asn_names_graph.proofs.components.find.Goals as goal

pub returns : goal.returns
returns c =
    numbered (edges_of c.args.starts.now c.args.targets.now) (shown c.in_ok-search.search) c.in_ok-search.ensures c.requires c.in_ok-numbers.numbers.items (c.in_ok-numbers.ensures ∙ ap (λ ms. map number_in ms) c.as_slice.ensures.value)
