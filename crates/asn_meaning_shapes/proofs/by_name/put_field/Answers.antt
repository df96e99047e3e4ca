use Rattle.asn_meaning_shapes.specs.ByName.{name_of_field}
use Rattle.asn_meaning_shapes.proofs.Naming.{one_put}
use Rattle.asn_meaning_shapes.proofs.by_name.put_field.Goals as goal

pub returns : goal.returns
returns c = one_put c.args.found.now c.insert.new.self c.as_str.result.now (name_of_field c.args.field.now) c.args.field c.as_str.ensures c.in_ok-insert.ensures.updates
