use Rattle.asn_names_graph.proofs.Builds.{refused_of}
use Rattle.asn_names_graph.proofs.builder.GraphBuilder.finish.Goals as goal

pub returns-clause-refused : goal.returns-clause-refused
returns-clause-refused c = refused_of c.new.result c.self.inside.starts.items c.self.inside.targets.items c.args.self c.self.invariant c.self.view_is c.new.ensures.refused
