use Rattle.std.proofs.Common.{rules, ◌≡◌, ◌∷◌, []}
use Rattle.asn_meaning_heads.proofs.Scoping.{shown_nothing}
use Rattle.asn_meaning_heads.specs.Scopes.{shown}
use Rattle.asn_meaning_heads.specs.declared.scopes.Scope.TheVariants as own
use Rattle.asn_needs.specs.Sites.{AtHeadOfField, ClassField, beside}
use Rattle.asn_places_types.specs.Forms.{shown_field}
use Rattle.asn_places_types.specs.Sites.{shown_around, shown_sites}
use Rattle.asn_places_objects.proofs.Beginning.{field_begun}
use Rattle.asn_places_objects.proofs.first.of_field.Goals as goal

pub returns : goal.returns
returns c =
    let e : shown_sites c.in_ok-sites.sites ≡ beside (shown_around c.in_ok-around.around.value) (ClassField AtHeadOfField (shown_field c.args.field)) ∷ [] = search rules in
    field_begun (shown_field c.args.field) (shown own.Empty) (shown_around c.in_ok-around.around.value) (shown_sites c.in_ok-sites.sites) shown_nothing c.in_ok-around.ensures e
