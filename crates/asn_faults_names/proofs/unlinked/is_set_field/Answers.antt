use Rattle.std.proofs.Common.{sym}
use Rattle.asn_needs.specs.Missing.{is_set_field}
use Rattle.asn_faults_names.proofs.Giving.{given_type, given_value, given_set}
use Rattle.asn_faults_names.proofs.unlinked.is_set_field.Goals as goal

pub returns-in-Type : goal.returns-in-Type
returns-in-Type c = sym (given_type is_set_field c.args.field c.in-Type.field-0 c.in-Type.is)

pub returns-in-Value : goal.returns-in-Value
returns-in-Value c = sym (given_value is_set_field c.args.field c.in-Value.field-0 c.in-Value.is)

pub returns-in-Set : goal.returns-in-Set
returns-in-Set c = sym (given_set is_set_field c.args.field c.in-Set.field-0 c.in-Set.is)
