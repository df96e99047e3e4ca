use Rattle.std.proofs.Common.{refl}
use Rattle.asn_meaning_heads.proofs.Scoping.{same_entered}
use Rattle.asn_meaning_heads.proofs.scopes.Scope.copy.Goals as goal

pub returns-in_ok-scope-in-Entered : goal.returns-in_ok-scope-in-Entered
returns-in_ok-scope-in-Entered c =
    same_entered c.args.self.now _ c.in-Entered.dummies c.in-Entered.arguments c.in-Entered.scope c.in_ok-scope-in-Entered.scope c.in-Entered.is refl c.in_ok-scope-in-Entered.ensures
