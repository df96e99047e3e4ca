-- The instances of templates that those of the code stand for, and the argument list that a constraint is.
use Rattle.std.specs.Prelude.{List, Option, Some, None}
use Rattle.asn_tree.specs.declared.constraints.Constraint.{Constraint-F}
use Rattle.asn_tree.specs.declared.constraints.Parameter.{Parameter}
use Rattle.asn_meaning.specs.Layers.{ConstraintLayer}
use Rattle.asn_meaning.specs.Names.{lists_in}
use Rattle.asn_needs.specs.PartsOfTypes.{Instance}
use Rattle.asn_places_types.specs.declared.instances.Instance.{Instance as LentInstance}

abbrev pub shown_instance : LentInstance → Instance
shown_instance i = record { template = i.template.now; dummies = i.dummies.now; arguments = i.arguments.now; others = lists_in i.behind.now }

-- the argument list that a constraint is
abbrev pub list_in : ConstraintLayer → Option (List Parameter)
list_in (Constraint-F.SubtypeConstraint x) = None
list_in (Constraint-F.TableConstraint x) = None
list_in (Constraint-F.Parameter arguments) = Some arguments
list_in (Constraint-F.ContentConstraint x) = None
