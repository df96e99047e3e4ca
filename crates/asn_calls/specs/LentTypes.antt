-- Types that a `&mut` lends, as the logic names them, for the clauses on what is written back.
use denote.RattleType.{RattleType}
use Rattle.asn_memory.specs.contracts.list.List as list
use Rattle.asn_tree.specs.contracts.constraints.Constraint as constraint
use Rattle.asn_tree.specs.contracts.values.ASN1Value as value

-- a list of constraints
abbrev pub constraints_row : RattleType
constraints_row = list.the_row constraint.the_row

abbrev pub value_row : RattleType
value_row = value.the_row
