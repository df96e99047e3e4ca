-- What linking gives, put together.
use Rattle.std.proofs.Common.{◌≡◌, List, Bool, Option, length, map, refl, sym, ap, ◌∙◌}
use Rattle.std.specs.Prelude.{is_some}
use Rattle.std.proofs.lemmas.List.{length-map}
use Rattle.asn_tree_headers.specs.declared.headers.AsnTag.{AsnTag}
use Rattle.asn_tree.specs.declared.types.ASN1Type.{ASN1Type}
use Rattle.asn_names_index.specs.Definitions.{Definitions, IsStanding, name_of}
use Rattle.asn_link_all.specs.Linked.{AreLinkedTypes}
use Rattle.asn_link.specs.Linked.{IsLinking, linked_each, Linking, most_in_circles, most_levels, most_steps}
use Rattle.asn_link.proofs.Given.{linked_long, names_kept}
use Rattle.asn_link.proofs.Long.{types_long}

module _ (defs ds : Definitions) (stand : IsStanding defs ds) (withheld : List Bool) (made : List (Option ASN1Type)) (tags : List (Option AsnTag)) (closed : List Bool)
    (types : AreLinkedTypes defs most_steps most_levels most_in_circles ds withheld made tags closed) where
  abbrev made_linking : Linking defs
  made_linking = record { standing = ds; stand = stand; withheld = withheld; made = made; tags = tags; closed = closed; types = types }

  pub is_linking : (definitions : Definitions) (told closed_ones : List Bool) → definitions ≡ linked_each ds tags made → told ≡ map is_some made → closed_ones ≡ closed →
      IsLinking defs ds withheld definitions told closed_ones
  is_linking definitions told closed_ones linked said same =
      let long = types_long types in
      record {
        linking = made_linking;
        stands = refl;
        held = refl;
        linked = linked;
        named = ap (map name_of) linked ∙ names_kept ds tags made long;
        long = ap length said ∙ length-map made is_some ∙ long.of_made ∙ sym (ap length linked ∙ linked_long ds tags made long);
        made_so = said;
        closed_so = same;
      }
