use Rattle.std.proofs.Common.{rules, ◌≡◌, ◌++◌, [], ap, ◌∙◌}
use Rattle.asn_meaning_heads.specs.Kinds.{shown_type}
use Rattle.asn_needs.specs.PartsOfTypes.{type_sites}
use Rattle.asn_needs.specs.Sites.{seen}
use Rattle.asn_places_types.specs.Sites.{shown_around, shown_sites}
use Rattle.asn_places_types.specs.Forms.{shown_at}
use Rattle.asn_places.proofs.below.in_type.Goals as goal

pub returns : goal.returns
returns c = λ n.
    let e : shown_sites c.new-none.result ≡ [] = search rules in
    c.in_ok-sites.ensures n
    ∙ ap (λ ns. ns ++ type_sites (seen c.args.names.now.definitions.now n) (shown_around c.args.around.now.value) (shown_at c.args.at) (shown_type c.args.ty) c.constraints_behind-behind.result.now) e
    ∙ ap (λ behind. type_sites (seen c.args.names.now.definitions.now n) (shown_around c.args.around.now.value) (shown_at c.args.at) (shown_type c.args.ty) behind) c.constraints_behind-behind.ensures
