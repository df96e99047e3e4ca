use Rattle.asn_meaning_heads.proofs.Scoping.{shown_nothing}
use Rattle.asn_meaning_heads.specs.Scopes.{shown}
use Rattle.asn_meaning_heads.specs.declared.scopes.Scope.TheVariants as own
use Rattle.asn_places_types.specs.Sites.{shown_around}
use Rattle.asn_places_objects.proofs.Beginning.{own_made}
use Rattle.asn_places_objects.proofs.first.around_own.Goals as goal

pub returns : goal.returns
returns c =
    own_made c.args.template.now c.dummies_of.result.now (shown own.Empty) (shown c.in_ok-scope.scope) (shown_around c.in_ok-around.around.value) shown_nothing c.dummies_of.ensures
    c.in_ok-scope.ensures c.in_ok-around.ensures
