-- The node of asn_needs that one of the code stands for.
use Rattle.asn_needs.specs.Sites.{Node, ToDefinition, ToField}
use Rattle.asn_places_objects.specs.declared.first.Node.{Node as LentNode}
use Rattle.asn_places_objects.specs.declared.first.Node.TheVariants as lent

abbrev pub shown_node : LentNode → Node
shown_node (lent.ToDefinition name) = ToDefinition name.now
shown_node (lent.ToField class name) = ToField class.now name.now
