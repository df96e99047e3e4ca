use Rattle.std.proofs.Common.{◌+◌, ◌≤◌, ap, arith, length, sym, ◌∙◌}
use Rattle.std.specs.Option.{option_map}
use Rattle.asn_meaning_heads.specs.Kinds.{shown_kind}
use Rattle.asn_meaning_heads.specs.Scopes.{shown}
use Rattle.asn_meaning_heads.specs.Spans.{further}
use Rattle.asn_meaning_shapes.specs.Answers.{known}
use Rattle.asn_meaning_shapes.specs.inner.Fitting.{member_fits, type_fits}
use Rattle.asn_meaning_shapes.specs.Members.{shown_members}
use Rattle.asn_meaning_shapes.specs.Trees.{shown_fields, shown_tree, shown_trees}
use Rattle.asn_meaning_shapes.proofs.Judging.{from, list_known, members_done}
use Rattle.asn_meaning.specs.Answers.{answer_of, both}
use Rattle.asn_meaning.specs.Judge.{meaning}
use Rattle.asn_meaning.specs.Members.{member_names}
use Rattle.asn_meaning.specs.Shapes.{parts_fit, trees_judged}
use Rattle.asn_meaning.specs.ValueTrees.{are_among}
use Rattle.asn_meaning_shapes.proofs.fitting.+fitting.Goals as goal

pub parts_fit-returns-in_ok-answer-in-List : goal.parts_fit-returns-in_ok-answer-in-List
parts_fit-returns-in_ok-answer-in-List t c = λ m.
    c.in_ok-answer-in-List.ensures m
    ∙ sym (ap (λ k. parts_fit (meaning c.args.names.now.definitions.now (c.args.steps + further c.args.span m)) (shown c.args.scope.now) (shown_tree c.args.tree.now) (shown_kind k)) c.in-List.is)

pub fields_fit-returns : goal.fields_fit-returns
fields_fit-returns t c = λ m.
    c.and.ensures
    ∙ ap (λ x. both x (known c.in_ok-answer.answer))
    (c.of-named.ensures ∙ ap answer_of (c.has_members_for.ensures ∙ ap (λ ms. are_among (member_names (shown_members ms)) (shown_fields c.args.fields.now)) c.in_ok-members_by_name.ensures))
    ∙ ap (both (answer_of (are_among (member_names (shown_members c.args.members.now)) (shown_fields c.args.fields.now))))
    (c.in_ok-answer.ensures m ∙ ap (λ fs. from (member_fits (meaning c.args.names.now.definitions.now (c.args.steps + further c.args.span m))) (shown_fields fs) c.args.members.now) c.in_ok-fields_by_name.ensures)

pub members_fit-returns : goal.members_fit-returns
members_fit-returns t c = λ m.
    let le : length c.args.members.now ≤ c.loop-member.member-index = omega arith in
    sym (members_done (member_fits (meaning c.args.names.now.definitions.now (c.args.steps + further c.args.span m))) (shown_fields c.args.fields.now.fields.now) c.args.members.now c.loop-member.member-index (known c.loop-member.answer) le)
    ∙ c.loop-member.invariant m

pub list_fits-returns-in_ok-answer-in-Some : goal.list_fits-returns-in_ok-answer-in-Some
list_fits-returns-in_ok-answer-in-Some t c = λ m.
    c.in_ok-answer-in-Some.ensures m
    ∙ ap (λ s. trees_judged (type_fits (meaning c.args.names.now.definitions.now (c.args.steps + further c.args.span m)) s c.args.ty.now) (shown_trees c.in-Some.elements.now)) c.in_ok-scope-in-Some.ensures
    ∙ sym (list_known (type_fits (meaning c.args.names.now.definitions.now (c.args.steps + further c.args.span m)) (shown c.args.scope.now) c.args.ty.now) (shown_tree c.args.tree.now) (shown_trees c.in-Some.elements.now)
    (sym c.elements_of.ensures ∙ ap (option_map (λ elements. shown_trees elements.now)) c.in-Some.is))
