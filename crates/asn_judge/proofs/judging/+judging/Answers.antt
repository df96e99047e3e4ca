use Rattle.std.proofs.Common.{◌≡◌, ◌+◌, ◌-◌, ◌<◌, ◌≤◌, ◌∙◌, Option, Some, length, sym, ap, arith}
use Rattle.std.proofs.lemmas.List.{length-map}
use Rattle.std.specs.Option.{option_map}
use Rattle.std.specs.Str.{chars}
use Rattle.asn_meaning_heads.specs.Kinds.{shown_kind}
use Rattle.asn_meaning_heads.specs.Places.{shown_place, shown_target}
use Rattle.asn_meaning_heads.specs.Scopes.{shown}
use Rattle.asn_meaning_heads.specs.Trails.{place_at, shown_targets}
use Rattle.asn_judge.proofs.Holding.{held_of_all, left_of_all, some_alphabet}
use Rattle.asn_judge.proofs.Passed.{accepted_all, lost_at_all, stands_at_head, stands_before_these}
use Rattle.asn_judge.proofs.judging.+judging.Goals as goal
use Rattle.asn_meaning_ranges.proofs.Passed.{numbers_at_the_head, numbers_before_these}
use Rattle.asn_meaning_ranges.specs.Parents.{shown_parent}
use Rattle.asn_meaning_ranges.specs.Sets.{shown_numbers}
use Rattle.asn_judge.specs.inner.Judging.{characters_hold}
use Rattle.asn_meaning_shapes.specs.Answers.{known}
use Rattle.asn_meaning_shapes.specs.Members.{shown_members}
use Rattle.asn_meaning_shapes.specs.Trees.{shown_fields, shown_tree}
use Rattle.asn_meaning_shapes.proofs.Judging.{from, members_done}
use Rattle.asn_meaning.specs.Answers.{answer_of, both}
use Rattle.asn_meaning.specs.Judge.{meaning, member_accepts, parts_accepted}
use Rattle.asn_meaning.specs.Members.{member_names}
use Rattle.asn_meaning.specs.ValueTrees.{are_among}

pub accepting::accepts_at-returns-in-None : goal.accepting::accepts_at-returns-in-None
accepting::accepts_at-returns-in-None t c =
    λ m.
    sym (lost_at_all c.args.names.now.definitions.now c.args.steps (shown_place c.args.place.now) c.args.constraints.now (shown_tree c.args.tree.now)
    (λ k. sym (c.in_ok-trail.ensures k) ∙ ap (option_map shown_targets) c.in-None.is) m)

pub accepting::accepts_on-loop-number-init : goal.accepting::accepts_on-loop-number-init
accepting::accepts_on-loop-number-init t c = (
  λ m.
      stands_at_head c.args.names.now.definitions.now c.args.steps (shown_place c.args.place.now) (shown_targets c.args.targets.now) (shown_tree c.args.tree.now) c.requires.passes
      c.saturating_sub-left.result (length c.args.targets.now) (shown_place c.place_at-head.result.now) (sym (length-map c.args.targets.now shown_target)) c.saturating_sub-left.ensures c.place_at-head.ensures m
      (known c.in_ok-answer.answer) (c.in_ok-answer.ensures m),
  λ m.
      ap Some c.numbers_at_head.ensures
      ∙ numbers_at_the_head c.args.names.now.definitions.now c.args.steps (shown_place c.args.place.now) (shown_targets c.args.targets.now) c.requires.passes
      (length c.args.targets.now) (shown_place c.place_at-head.result.now) (sym (length-map c.args.targets.now shown_target)) c.place_at-head.ensures m,
)

pub accepting::accepts_on-loop-number-preserved : goal.accepting::accepts_on-loop-number-preserved
accepting::accepts_on-loop-number-preserved t c = (
  λ m.
      stands_before_these c.args.names.now.definitions.now c.args.steps (shown_place c.args.place.now) (shown_targets c.args.targets.now) (shown_tree c.args.tree.now) c.requires.passes
      c.loop-number.number c.saturating_sub-left-in-loop-number.result (length c.args.targets.now) (shown_place c.place_at-here.result.now) (shown_place c.place_at-head.result.now) c.constraints_at-behind.result.now
      (omega arith) (omega arith) (sym (length-map c.args.targets.now shown_target)) c.saturating_sub-left-in-loop-number.ensures c.place_at-here.ensures c.place_at-head.ensures c.constraints_at-behind.ensures m
      (known c.loop-number.held.answer) (known c.in_ok-held.held.answer) (option_map shown_numbers c.loop-number.held.numbers) (c.loop-number.invariant.0 m) (c.loop-number.invariant.1 m)
      (c.in_ok-held.ensures.answer m),
  λ m.
      numbers_before_these c.args.names.now.definitions.now c.args.steps (shown_place c.args.place.now) (shown_targets c.args.targets.now) c.requires.passes
      c.loop-number.number c.saturating_sub-left-in-loop-number.result (length c.args.targets.now) (shown_place c.place_at-here.result.now) (shown_place c.place_at-head.result.now) c.constraints_at-behind.result.now
      (omega arith) (omega arith) (sym (length-map c.args.targets.now shown_target)) c.saturating_sub-left-in-loop-number.ensures c.place_at-here.ensures c.place_at-head.ensures c.constraints_at-behind.ensures m
      (option_map shown_numbers c.loop-number.held.numbers) (option_map shown_numbers c.in_ok-held.held.numbers) (c.loop-number.invariant.1 m) (c.in_ok-held.ensures.numbers m),
)

pub accepting::accepts_on-returns : goal.accepting::accepts_on-returns
accepting::accepts_on-returns t c =
    λ m.
    accepted_all c.args.names.now.definitions.now c.args.steps (shown_place c.args.place.now) (shown_targets c.args.targets.now) c.args.constraints.now (shown_tree c.args.tree.now) c.requires.passes
    c.loop-number.number (length c.args.targets.now) (shown_place c.place_at-head.result.now) (omega arith) (sym (length-map c.args.targets.now shown_target)) c.place_at-head.ensures m
    (known c.loop-number.held.answer) (known c.in_ok-held-2.held.answer) (option_map shown_numbers c.loop-number.held.numbers) (c.loop-number.invariant.0 m) (c.loop-number.invariant.1 m)
    (c.in_ok-held-2.ensures.answer m)

pub accepting::parts_accepted-returns-in_ok-answer-in-List : goal.accepting::parts_accepted-returns-in_ok-answer-in-List
accepting::parts_accepted-returns-in_ok-answer-in-List t c = λ m.
    c.in_ok-answer-in-List.ensures m
    ∙ sym (ap (λ k. parts_accepted (meaning c.args.names.now.definitions.now (c.args.steps + m)) (shown c.args.scope.now) (shown_tree c.args.tree.now) (shown_kind k)) c.in-List.is)

pub accepting::fields_accepted-returns : goal.accepting::fields_accepted-returns
accepting::fields_accepted-returns t c = λ m.
    c.and.ensures
    ∙ ap (λ x. both x (known c.in_ok-answer.answer))
    (c.of-named.ensures ∙ ap answer_of (c.has_members_for.ensures ∙ ap (λ ms. are_among (member_names (shown_members ms)) (shown_fields c.args.fields.now)) c.in_ok-members_by_name.ensures))
    ∙ ap (both (answer_of (are_among (member_names (shown_members c.args.members.now)) (shown_fields c.args.fields.now))))
    (c.in_ok-answer.ensures m ∙ ap (λ fs. from (member_accepts (meaning c.args.names.now.definitions.now (c.args.steps + m))) (shown_fields fs) c.args.members.now) c.in_ok-fields_by_name.ensures)

pub accepting::members_accept-returns : goal.accepting::members_accept-returns
accepting::members_accept-returns t c = λ m.
    let le : length c.args.members.now ≤ c.loop-member.member-index = omega arith in
    sym (members_done (member_accepts (meaning c.args.names.now.definitions.now (c.args.steps + m))) (shown_fields c.args.fields.now.fields.now) c.args.members.now c.loop-member.member-index (known c.loop-member.answer) le)
    ∙ c.loop-member.invariant m

pub constraints::held_with-returns-clause-answer : goal.constraints::held_with-returns-clause-answer
constraints::held_with-returns-clause-answer t c = λ m.
    c.and-answer.ensures ∙ ap (both (known c.args.before.answer)) c.and.ensures
    ∙ held_of_all (meaning c.args.names.now.definitions.now (c.args.steps + m)) (shown_place c.args.head.now) (shown_place c.args.place.now) (option_map shown_numbers c.args.before.numbers)
    (option_map shown_numbers c.in_ok-first.first.numbers) c.constraints_in-own.result.now c.args.constraints.now (shown_tree c.args.tree.now)
    (known c.args.before.answer) (known c.in_ok-first.first.answer) (known c.in_ok-further.further.answer)
    c.constraints_in-own.ensures (c.in_ok-first.ensures.answer m) (c.in_ok-first.ensures.numbers m) (c.in_ok-further.ensures.answer m)

pub constraints::held_with-returns-clause-numbers : goal.constraints::held_with-returns-clause-numbers
constraints::held_with-returns-clause-numbers t c = λ m.
    left_of_all (meaning c.args.names.now.definitions.now (c.args.steps + m)) (shown_place c.args.head.now) (shown_place c.args.place.now) (option_map shown_numbers c.args.before.numbers)
    (option_map shown_numbers c.in_ok-first.first.numbers) (option_map shown_numbers c.in_ok-further.further.numbers) c.constraints_in-own.result.now c.args.constraints.now
    c.constraints_in-own.ensures (c.in_ok-first.ensures.numbers m) (c.in_ok-further.ensures.numbers m)

pub elements::alphabet_holds-returns-in_ok-answer-in-Some : goal.elements::alphabet_holds-returns-in_ok-answer-in-Some
elements::alphabet_holds-returns-in_ok-answer-in-Some t c = λ m.
    c.in_ok-answer-in-Some.ensures m
    ∙ ap (characters_hold (meaning c.args.names.now.definitions.now (c.args.steps + m)) (shown c.args.scope.now) (shown_numbers c.in_ok-codes-in-Some.codes) c.args.set.now)
    (c.deref.ensures.value ∙ c.in_ok-characters-in-Some.ensures ∙ ap chars c.as_str.ensures)
    ∙ sym (some_alphabet (meaning c.args.names.now.definitions.now (c.args.steps + m)) (shown c.args.scope.now) (shown_parent c.args.parent) c.args.set.now (shown_tree c.args.tree.now)
    (chars c.in-Some.text.now) (shown_numbers c.in_ok-codes-in-Some.codes) (sym c.text_of.ensures ∙ ap (option_map (λ text. chars text.now)) c.in-Some.is) c.in_ok-codes-in-Some.ensures)
