-- What a search shows of its lists.
use Rattle.asn_names_graph.specs.declared.search.Search.{Search}
use Rattle.asn_names_graph.specs.inner.State.{State}

abbrev pub shown : Search → State
shown s = record { marks = s.marks.items; next = s.next.items; path = s.path.items; order = s.order.items; calls = s.calls; bounds = s.bounds }
