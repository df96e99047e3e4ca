use Rattle.asn_meaning_heads.specs.Kinds.{shown_type}
use Rattle.asn_needs.specs.Sites.{seen}
use Rattle.asn_places_types.specs.Forms.{shown_at}
use Rattle.asn_places_types.specs.Sites.{shown_around, shown_sites}
use Rattle.asn_places_types.proofs.Typing.{type_inside}
use Rattle.asn_places_types.proofs.types.with_type.Goals as goal

pub returns : goal.returns
returns c = λ n.
    type_inside (seen c.args.names.now.definitions.now n) (shown_around c.args.around.now.value) (shown_around c.in_ok-inner.inner.value) (shown_at c.args.at) (shown_type c.args.ty)
    c.args.behind.now (shown_sites c.args.sites) (shown_sites c.in_ok-sites.sites) c.in_ok-inner.ensures (c.in_ok-sites.ensures n)
