use Rattle.std.proofs.Common.{◌≡◌, drop}
use Rattle.asn_rules.specs.Nodes.{at_children}
use Rattle.asn_rules.specs.declared.names.TheConstants.{CONSTRAINT_ITEM, CUSTOM_ITEM, DEFAULT_FIELD, OBJECT_ITEM, PARAMETER, SUBSET_MEMBER}
use Rattle.asn_read_nodes.proofs.Equations.{behind}
use Rattle.asn_read_nodes.specs.Parts.{all_some}
use Rattle.asn_types.specs.Children.{components_in, options_in}
use Rattle.asn_types.specs.Reading.{constraint_of, custom_item_of, default_field_of, listed_one_of, object_item_of, parameter_of}
use Rattle.asn_types.proofs.+reading.Given as goal

-- ---- types

abbrev pub invariant-members::read_component_list-loop-node : goal.invariant-members::read_component_list-loop-node
invariant-members::read_component_list-loop-node l = behind l.components (components_in l.text (drop l.node-index l.nodes)) ≡ components_in l.text l.nodes

abbrev pub invariant-choices::read_option_list-loop-node : goal.invariant-choices::read_option_list-loop-node
invariant-choices::read_option_list-loop-node l = behind l.options (options_in l.text (drop l.node-index l.nodes)) ≡ options_in l.text l.nodes

-- ---- constraints

abbrev pub invariant-arguments::read_each-loop-node : goal.invariant-arguments::read_each-loop-node
invariant-arguments::read_each-loop-node l = behind l.arguments (all_some (at_children (drop l.node-index l.nodes) PARAMETER (parameter_of l.text))) ≡ all_some (at_children l.nodes PARAMETER (parameter_of l.text))

abbrev pub invariant-constraints::read_each-loop-node : goal.invariant-constraints::read_each-loop-node
invariant-constraints::read_each-loop-node l = behind l.constraints (all_some (at_children (drop l.node-index l.nodes) CONSTRAINT_ITEM (constraint_of l.text))) ≡ all_some (at_children l.nodes CONSTRAINT_ITEM (constraint_of l.text))

abbrev pub invariant-elements::read_each-loop-node : goal.invariant-elements::read_each-loop-node
invariant-elements::read_each-loop-node l = behind l.listed (all_some (at_children (drop l.node-index l.nodes) SUBSET_MEMBER (listed_one_of l.text))) ≡ all_some (at_children l.nodes SUBSET_MEMBER (listed_one_of l.text))

-- ---- objects

abbrev pub invariant-objects::read_default_fields-loop-node : goal.invariant-objects::read_default_fields-loop-node
invariant-objects::read_default_fields-loop-node l = behind l.fields (all_some (at_children (drop l.node-index l.nodes) DEFAULT_FIELD (default_field_of l.text))) ≡ all_some (at_children l.nodes DEFAULT_FIELD (default_field_of l.text))

abbrev pub invariant-objects::read_custom_items-loop-node : goal.invariant-objects::read_custom_items-loop-node
invariant-objects::read_custom_items-loop-node l = behind l.items (all_some (at_children (drop l.node-index l.nodes) CUSTOM_ITEM (custom_item_of l.text))) ≡ all_some (at_children l.nodes CUSTOM_ITEM (custom_item_of l.text))

abbrev pub invariant-objects::read_object_items-loop-node : goal.invariant-objects::read_object_items-loop-node
invariant-objects::read_object_items-loop-node l = behind l.items (all_some (at_children (drop l.node-index l.nodes) OBJECT_ITEM (object_item_of l.text))) ≡ all_some (at_children l.nodes OBJECT_ITEM (object_item_of l.text))
