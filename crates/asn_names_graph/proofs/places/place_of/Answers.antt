use Rattle.asn_names_graph.proofs.Ascending.{absent, found}
use Rattle.asn_names_graph.proofs.places.place_of.Goals as goal

pub returns-in-Ok-clause-found : goal.returns-in-Ok-clause-found
returns-in-Ok-clause-found c = found (λ n. n.now) c.args.name.now c.args.names.now c.in-Ok.place c.in-Ok.ensures.bound c.in-Ok.ensures.ok

pub returns-in-Err-clause-absent : goal.returns-in-Err-clause-absent
returns-in-Err-clause-absent c = absent (λ n. n.now) c.args.name.now c.args.names.now c.in-Err.field-0 c.requires c.in-Err.ensures.position
