use Rattle.std.proofs.Common.{◌≡◌, ◌+◌, ◌-◌, ◌∙◌, Some, length, refl, sym, ap, arith}
use Rattle.std.proofs.lemmas.List.{length-map}
use Rattle.std.specs.Option.{option_map}
use Rattle.asn_meaning_heads.specs.Places.{shown_place, shown_target}
use Rattle.asn_meaning_heads.specs.Trails.{place_at, shown_targets}
use Rattle.asn_meaning_ranges.specs.Sets.{shown_numbers}
use Rattle.asn_meaning_ranges.proofs.Narrowing.{own_first}
use Rattle.asn_meaning_ranges.proofs.Passed.{numbers_before_these, numbers_end, numbers_first, numbers_of_all, numbers_of_none}
use Rattle.asn_meaning.specs.Judge.{meaning}
use Rattle.asn_meaning.specs.Kinds.{kind_of}
use Rattle.asn_meaning.specs.Ranges.{numbers_at_head, numbers_before}
use Rattle.asn_meaning_ranges.proofs.leaving.+leaving.Goals as goal

pub numbers_under-returns : goal.numbers_under-returns
numbers_under-returns t c =
    λ m.
    c.in_ok-left-2.ensures m
    ∙ own_first (meaning c.args.names.now.definitions.now (c.args.steps + m)) (shown_place c.args.head.now) (shown_place c.args.place.now) c.constraints_in-own.result.now c.args.constraints.now
    (option_map shown_numbers c.args.before) (option_map shown_numbers c.args.before) (option_map shown_numbers c.in_ok-left.left)
    refl c.constraints_in-own.ensures (c.in_ok-left.ensures m)

pub numbers_at-returns-in-None : goal.numbers_at-returns-in-None
numbers_at-returns-in-None t c =
    λ m.
    sym (numbers_of_none c.args.names.now.definitions.now (c.args.steps + m) (shown_place c.args.place.now) c.args.constraints.now
    (sym (c.in_ok-trail.ensures m) ∙ ap (option_map shown_targets) c.in-None.is))

pub numbers_at-returns-in_ok-found-in-Some : goal.numbers_at-returns-in_ok-found-in-Some
numbers_at-returns-in_ok-found-in-Some t c =
    λ m.
    numbers_of_all c.args.names.now.definitions.now c.args.steps (shown_place c.args.place.now) (shown_targets c.as_slice-targets.result.now) c.args.constraints.now
    (record { at = λ k. sym (c.in_ok-trail.ensures k) ∙ ap (option_map shown_targets) c.in-Some.is ∙ ap (λ xs. Some (shown_targets xs)) (sym c.as_slice-targets.ensures) })
    (length c.as_slice-targets.result.now) (shown_place c.place_at-head.result.now) (sym (length-map c.as_slice-targets.result.now shown_target)) c.place_at-head.ensures m
    (option_map shown_numbers c.in_ok-before-in-Some.before) (option_map shown_numbers c.in_ok-found-in-Some.found) (c.in_ok-before-in-Some.ensures m) (c.in_ok-found-in-Some.ensures m)

pub numbers_on-loop-number-init : goal.numbers_on-loop-number-init
numbers_on-loop-number-init t c =
    λ m.
    let same : length (shown_targets c.args.targets.now) ≡ length c.args.targets.now = length-map c.args.targets.now shown_target in
    ap Some (c.numbers_at_head.ensures ∙ ap (λ h. numbers_at_head (kind_of h)) (c.place_at-head.ensures ∙ ap (λ k. place_at (shown_place c.args.place.now) (shown_targets c.args.targets.now) k) (sym same)))
    ∙ numbers_end c.args.names.now.definitions.now c.args.steps (shown_place c.args.place.now) (shown_targets c.args.targets.now) c.requires.passes m
    ∙ ap (λ k. numbers_before c.args.names.now.definitions.now (meaning c.args.names.now.definitions.now (c.args.steps - k + m)) (place_at (shown_place c.args.place.now) (shown_targets c.args.targets.now) k)) same

pub numbers_on-loop-number-preserved : goal.numbers_on-loop-number-preserved
numbers_on-loop-number-preserved t c =
    λ m.
    numbers_before_these c.args.names.now.definitions.now c.args.steps (shown_place c.args.place.now) (shown_targets c.args.targets.now) c.requires.passes
    c.loop-number.number c.saturating_sub-left.result (length c.args.targets.now) (shown_place c.place_at-here.result.now) (shown_place c.place_at-head.result.now) c.constraints_at-behind.result.now
    (omega arith) (omega arith) (sym (length-map c.args.targets.now shown_target)) c.saturating_sub-left.ensures c.place_at-here.ensures c.place_at-head.ensures c.constraints_at-behind.ensures m
    (option_map shown_numbers c.loop-number.numbers) (option_map shown_numbers c.in_ok-numbers.numbers) (c.loop-number.invariant m) (c.in_ok-numbers.ensures m)

pub numbers_on-returns : goal.numbers_on-returns
numbers_on-returns t c =
    λ m.
    numbers_first c.args.names.now.definitions.now c.args.steps (shown_place c.args.place.now) (shown_targets c.args.targets.now) c.loop-number.number m
    (option_map shown_numbers c.loop-number.numbers) (omega arith) (c.loop-number.invariant m)
