use Rattle.std.proofs.Common.{sym, ap, ◌∙◌, ◌<◌, ◌^◌, length, arith}
use Rattle.std.specs.List.{list_all}
use Rattle.asn_rules_guards.specs.Enumerations.{items}
use Rattle.asn_rules_guards.specs.inner.Sizes.{is_far}
use Rattle.asn_rules_guards.proofs.FarNumbers.{far_fit}
use Rattle.asn_rules_guards.proofs.enumerations.numbers_fit.Goals as goal

pub returns-then-are_far : goal.returns-then-are_far
returns-then-are_far c =
    let short : length c.args.taken.now < 2 ^ 64 = omega arith in
    sym (far_fit c.args.taken.now short (ap (λ m. list_all is_far (items m)) (sym c.behind_marker.ensures) ∙ sym c.are_far.ensures ∙ c.if-are_far.true))
