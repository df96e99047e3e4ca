use Rattle.std.proofs.Common.{sym, ap, ◌∙◌}
use Rattle.std.specs.Option.{option_map}
use Rattle.asn_meaning_heads.specs.Scopes.{shown, shown_argument, shown_bound}
use Rattle.asn_link_values.proofs.Opening.{bound_deeper}
use Rattle.asn_link_values.proofs.tables.argument_bound.Goals as goal

pub returns-in-Some-argument-clause-within : goal.returns-in-Some-argument-clause-within
returns-in-Some-argument-clause-within c =
    bound_deeper (shown c.args.scope.now) c.args.name.now (shown_bound c.in-Some.bound) (shown_argument c.in-Some-argument.argument)
    (sym c.bound_to.ensures ∙ ap (option_map shown_bound) c.in-Some.is) (ap (option_map shown_argument) c.in-Some-argument.is)
