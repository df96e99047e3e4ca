use Rattle.std.proofs.Common.{rules, ◌≡◌, IfOk, Option, Some, sym, subst}
use Rattle.asn_tree.specs.declared.types.ASN1Type.{ASN1Type}
use Rattle.asn_types.proofs.Equations.{passes_component, passes_option, takes_component, takes_group, takes_option, takes_options}
use Rattle.asn_types.proofs.LeftOver.{left_over_is}
use Rattle.asn_types.proofs.+reading.Goals as goal
use Rattle.asn_types.proofs.+reading.Goals.{choices::read_option_list-then-node-eq-CHOICE_OPTION+in_ok-read_option+in_ok-add, choices::read_option_list-else-node-eq-CHOICE_OPTION+then-node-eq-OPTION_GROUP+in_ok-read_options+in_ok-append, choices::read_option_list-else-node-eq-CHOICE_OPTION+else-node-eq-OPTION_GROUP}
use Rattle.asn_types.proofs.+reading.Goals.{members::read_component_list-then-node-eq-SEQUENCE_COMPONENT+in_ok-read_component+in_ok-add, members::read_component_list-else-node-eq-SEQUENCE_COMPONENT+then-node-eq-EXTENSION_GROUP+in_ok-read_group+in_ok-add-2, members::read_component_list-else-node-eq-SEQUENCE_COMPONENT+else-node-eq-EXTENSION_GROUP}

pub choices::read_option_list-loop-node-preserved : goal.choices::read_option_list-loop-node-preserved
choices::read_option_list-loop-node-preserved t c =
    let text = c.args.text.now in
    let ns = c.args.nodes.now in
    let i = c.loop-node.node-index in
    let n = c.node-item.result in
    let before = c.loop-node.options in
    let after = c.if-node-eq-CHOICE_OPTION.options in
    elim c.if-node-eq-CHOICE_OPTION.branch [
      | choices::read_option_list-then-node-eq-CHOICE_OPTION+in_ok-read_option+in_ok-add w ↦ takes_option text ns i n _ before after _ c.loop-node-test.true c.node-item.is (search rules) w.in_ok-read_option.ensures (search rules) c.loop-node.invariant
      | choices::read_option_list-else-node-eq-CHOICE_OPTION+then-node-eq-OPTION_GROUP+in_ok-read_options+in_ok-append w ↦ takes_options text ns i n _ before after _ c.loop-node-test.true c.node-item.is (search rules) w.in_ok-read_options.ensures (search rules) c.loop-node.invariant
      | choices::read_option_list-else-node-eq-CHOICE_OPTION+else-node-eq-OPTION_GROUP w ↦ passes_option text ns i n before after _ c.loop-node-test.true c.node-item.is (search rules) (search rules) w.options-is c.loop-node.invariant
    ]

pub members::read_component_list-loop-node-preserved : goal.members::read_component_list-loop-node-preserved
members::read_component_list-loop-node-preserved t c =
    let text = c.args.text.now in
    let ns = c.args.nodes.now in
    let i = c.loop-node.node-index in
    let n = c.node-item.result in
    let before = c.loop-node.components in
    let after = c.if-node-eq-SEQUENCE_COMPONENT.components in
    elim c.if-node-eq-SEQUENCE_COMPONENT.branch [
      | members::read_component_list-then-node-eq-SEQUENCE_COMPONENT+in_ok-read_component+in_ok-add w ↦ takes_component text ns i n _ before after _ c.loop-node-test.true c.node-item.is (search rules) w.in_ok-read_component.ensures (search rules) c.loop-node.invariant
      | members::read_component_list-else-node-eq-SEQUENCE_COMPONENT+then-node-eq-EXTENSION_GROUP+in_ok-read_group+in_ok-add-2 w ↦ takes_group text ns i n _ before after _ c.loop-node-test.true c.node-item.is (search rules) w.in_ok-read_group.ensures (search rules) c.loop-node.invariant
      | members::read_component_list-else-node-eq-SEQUENCE_COMPONENT+else-node-eq-EXTENSION_GROUP w ↦ passes_component text ns i n before after _ c.loop-node-test.true c.node-item.is (search rules) (search rules) w.components-is c.loop-node.invariant
    ]

pub types::read_form-returns-in_default : goal.types::read_form-returns-in_default
types::read_form-returns-in_default t c =
    let text = c.args.text.now in
    let n = c.args.node.now in
    let IsRead : Option ASN1Type → Type 0 = λ o. IfOk c.read_constrained.result (λ ty. o ≡ Some ty) in
    let is = left_over_is text n (search rules) (search rules) (search rules) (search rules) (search rules) (search rules) (search rules) (search rules) (search rules) (search rules) in
    subst IsRead (sym is) c.read_constrained.ensures
