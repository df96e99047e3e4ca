use Rattle.std.proofs.Common.{ap, sym, ◌∙◌}
use Rattle.std.specs.Option.{option_map}
use Rattle.asn_meaning_heads.specs.inner.Dummies.{shown_held}
use Rattle.asn_meaning_heads.specs.Scopes.{shown_argument}
use Rattle.asn_meaning_heads.proofs.Scoping.{bound_inside}
use Rattle.asn_meaning_heads.proofs.scopes.Scope.bound_to.Goals as goal

pub returns-in-Some : goal.returns-in-Some
returns-in-Some c =
    sym (bound_inside c.args.self.now c.in-Entered.dummies c.in-Entered.arguments c.in-Entered.scope c.args.name.now (shown_held c.in-Some.held) c.as_ref-scope.result.now
    (option_map shown_argument c.read_in-argument.result) c.in-Entered.is c.as_ref-scope.ensures (sym c.dummy_of.ensures ∙ ap (option_map shown_held) c.in-Some.is) c.read_in-argument.ensures)
