-- Constraints that are made of parts.
use Rattle.asn_tree.specs.declared.constraints.ElementOrSetOperation.{ElementOrSetOperation}
use Rattle.asn_tree.specs.declared.constraints.SetOperation.{SetOperation, roll-SetOperation}
use Rattle.asn_tree_kinds.specs.declared.constraints.SetOperator.{SetOperator}
use Rattle.asn_tree.specs.declared.constraints.SubtypeElement.{SubtypeElement}

-- an element, an operator, and what stands behind it (X.680 50.1)
abbrev pub operation_of : SubtypeElement → SetOperator → ElementOrSetOperation → SetOperation
operation_of base operator operant =
    roll-SetOperation (record {
      base = base;
      operator = operator;
      operant = operant;
    })
