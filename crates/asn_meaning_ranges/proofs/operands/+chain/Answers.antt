use Rattle.std.proofs.Common.{rules, ◌+◌, ◌-◌, ◌<◌, Some, sym, ap, ◌∙◌}
use Rattle.asn_meaning_ranges.specs.Chains.{shown_chain}
use Rattle.asn_meaning_ranges.proofs.Chaining.{more_elements}
use Rattle.asn_meaning_ranges.proofs.operands.+chain.Goals as goal
use Rattle.asn_meaning.specs.Judge.{meaning}

pub returns-in_ok-found-in-SetOperation : goal.returns-in_ok-found-in-SetOperation
returns-in_ok-found-in-SetOperation t c =
    λ defs m.
    let lt : 0 < c.args.steps = search rules in
    ap Some c.in_ok-found-in-SetOperation.ensures
    ∙ sym (more_elements defs c.args.steps m c.args.set.now _ (shown_chain c.in_ok-behind-in-SetOperation.behind) lt c.in-SetOperation.is
    (ap (λ s. (meaning defs (c.args.steps - 1 + m)).chain s) (sym c.get.ensures) ∙ sym (c.in_ok-behind-in-SetOperation.ensures defs m)))
