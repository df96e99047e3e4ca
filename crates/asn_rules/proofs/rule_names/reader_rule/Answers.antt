use Rattle.std.proofs.Common.{sym, ap, ◌∙◌, arith, Some, None}
use Rattle.asn_rules.proofs.Places.{how_many_in, named}
use Rattle.asn_rules.proofs.rule_names.reader_rule.Goals as goal

pub overflow_cast-result : goal.overflow_cast-result
overflow_cast-result c =
    let all = how_many_in (λ known. known.now) c.all_names.result.now c.all_names.ensures in
    omega (arith, all, c.in-Some.ensures.below)

pub overflow_add-result : goal.overflow_add-result
overflow_add-result c =
    let all = how_many_in (λ known. known.now) c.all_names.result.now c.all_names.ensures in
    omega (arith, all, c.in-Some.ensures.below)

pub invariant_of-result : goal.invariant_of-result
invariant_of-result c =
    let all = how_many_in (λ known. known.now) c.all_names.result.now c.all_names.ensures in
    record { in_range = omega arith; in_table = omega (arith, all, c.in-Some.ensures.below) }

pub returns-in-Some : goal.returns-in-Some
returns-in-Some c =
    let place = sym c.in-Some.is ∙ c.index_of.ensures.place in
    ap Some (omega arith) ∙ named (λ known. known.now) c.all_names.result.now c.args.name.now (Some c.in-Some.index) place c.all_names.ensures

pub returns-in-None : goal.returns-in-None
returns-in-None c = named (λ known. known.now) c.all_names.result.now c.args.name.now None (sym c.in-None.is ∙ c.index_of.ensures.place) c.all_names.ensures
