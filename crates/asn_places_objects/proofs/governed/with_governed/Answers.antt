use Rattle.asn_meaning_heads.specs.Scopes.{shown}
use Rattle.asn_needs.specs.Sites.{seen}
use Rattle.asn_places_types.specs.Sites.{shown_around, shown_sites}
use Rattle.asn_places_objects.proofs.Governing.{typed_governed}
use Rattle.asn_places_objects.proofs.governed.with_governed.Goals as goal

pub returns-in_ok-sites-in-TypeOrClass : goal.returns-in_ok-sites-in-TypeOrClass
returns-in_ok-sites-in-TypeOrClass c = λ n.
    typed_governed (seen c.args.names.now.definitions.now n) (shown_around c.args.around.now.value) c.args.argument.now (shown c.args.inner.now) c.args.governor.now _
    (shown_sites c.args.sites) (shown_sites c.in_ok-sites-in-TypeOrClass.sites) c.in-TypeOrClass.is (c.in_ok-sites-in-TypeOrClass.ensures n)
