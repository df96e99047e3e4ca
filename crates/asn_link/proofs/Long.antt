-- What is told of the definitions that stand is as long as they are.
use Rattle.std.proofs.Common.{◌≡◌, ℕ, suc, List, [], ◌∷◌, Bool, Option, length, map, refl, sym, ap, ◌∙◌, arith}
use Rattle.asn_tree_headers.specs.declared.headers.AsnTag.{AsnTag}
use Rattle.asn_tree.specs.declared.types.ASN1Type.{ASN1Type}
use Rattle.asn_names_circles.specs.Circles.{FreeAre}
use Rattle.asn_names_index.specs.Definitions.{Definitions, name_of}
use Rattle.asn_link_all.specs.Linked.{AreLinkedTypes}
use Rattle.asn_link_all.specs.Made.{tag_each}
use Rattle.asn_link_all.specs.Ways.{ways_of}
use Rattle.asn_link_all.specs.declared.ways.Way.{Way}
use Rattle.asn_link_all.proofs.Instances.{made_long, ways_long}
use Rattle.asn_link.proofs.Given.{AsLong}

-- as many are told of as there are names
pub free_long : (defs ds : Definitions) (free : List Bool) → FreeAre defs (map name_of ds) free → length free ≡ length ds
free_long defs [] [] all = refl
free_long defs [] (b ∷ free) all = absurd all
free_long defs (x ∷ ds) [] all = absurd all
free_long defs (x ∷ ds) (b ∷ free) all = ap suc (free_long defs ds free all.1)

pub tags_long : (defs : Definitions) (n k c : ℕ) (ds : Definitions) (ways : List Way) → length ways ≡ length ds → length (tag_each defs n k c ds ways) ≡ length ds
tags_long defs n k c [] ways e = refl
tags_long defs n k c (d ∷ ds) [] e = absurd cc
tags_long defs n k c (d ∷ ds) (way ∷ ways) e = ap suc (tags_long defs n k c ds ways (omega (arith, e)))

module _ {defs : Definitions} {n k c : ℕ} {ds : Definitions} {withheld : List Bool} {made : List (Option ASN1Type)} {tags : List (Option AsnTag)} {closed : List Bool}
    (t : AreLinkedTypes defs n k c ds withheld made tags closed) where
  -- as many ways as definitions
  pub all_ways : length (ways_of t.free withheld) ≡ length ds
  all_ways =
      let l = free_long defs ds t.free t.are_free in
      ways_long t.free withheld (t.long ∙ sym l) ∙ l

  pub types_long : AsLong ds tags made
  types_long = record { of_tags = ap length t.tagged_so ∙ tags_long defs n k c ds (ways_of t.free withheld) all_ways; of_made = ap length t.made_so ∙ made_long defs n k c ds (ways_of t.free withheld) all_ways }
