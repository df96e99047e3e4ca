use Rattle.std.proofs.Common.{◌≡◌, ◌<◌, Some, sym, ap, ◌∙◌, arith}
use Rattle.std.specs.Option.{option_map}
use Rattle.asn_meaning_heads.specs.Scopes.{shown_argument, shown_bound}
use Rattle.asn_meaning_dummies.proofs.Handing.{ends, goes}
use Rattle.asn_meaning_dummies.specs.inner.Handing.{dummy_of}
use Rattle.asn_meaning_dummies.proofs.names.handed_on.Goals as goal

pub returns-in-None-argument : goal.returns-in-None-argument
returns-in-None-argument c = λ m.
    let lt : 0 < c.loop-left._left = omega arith in
    let bound : dummy_of (shown_argument c.loop-left.at) ≡ Some (shown_bound c.in-Some.bound) = sym c.dummy_of.ensures ∙ ap (option_map shown_bound) c.in-Some.is in
    sym (ends c.loop-left._left m (shown_argument c.loop-left.at) (shown_bound c.in-Some.bound) lt bound (ap (option_map shown_argument) c.in-None-argument.is)) ∙ c.loop-left.invariant m

pub loop-left-preserved : goal.loop-left-preserved
loop-left-preserved c = λ m.
    let lt : 0 < c.loop-left._left = omega arith in
    let bound : dummy_of (shown_argument c.loop-left.at) ≡ Some (shown_bound c.in-Some.bound) = sym c.dummy_of.ensures ∙ ap (option_map shown_bound) c.in-Some.is in
    sym (goes c.loop-left._left m (shown_argument c.loop-left.at) (shown_argument c.in-Some-argument.next) (shown_bound c.in-Some.bound) lt bound (ap (option_map shown_argument) c.in-Some-argument.is))
    ∙ c.loop-left.invariant m
