-- What linking makes of the definitions that stand, and which of them are closed.
use Rattle.std.specs.Prelude.{◌≡◌, ℕ, List, Bool, Option, length, map}
use Rattle.asn_tree_headers.specs.declared.headers.AsnTag.{AsnTag}
use Rattle.asn_tree.specs.declared.types.ASN1Type.{ASN1Type}
use Rattle.asn_names_circles.specs.Circles.{FreeAre}
use Rattle.asn_link_closed.specs.Closed.{AreClosed}
use Rattle.asn_names_index.specs.Definitions.{Definitions, name_of}
use Rattle.asn_link_all.specs.Made.{made_each, tag_each}
use Rattle.asn_link_all.specs.Ways.{ways_of}

-- `withheld` tells of each whether it is given as read.
pub record AreLinkedTypes (defs : Definitions) (n k c : ℕ) (ds : Definitions) (withheld : List Bool) (made : List (Option ASN1Type)) (tags : List (Option AsnTag)) (closed : List Bool) : Type 0 where
  -- which of them lead to no circle
  pub free : List Bool
  pub are_free : FreeAre defs (map name_of ds) free
  -- each is told of
  pub long : length withheld ≡ length ds
  -- what was made of each
  pub made_so : made ≡ made_each defs n k c ds (ways_of free withheld)
  -- the tag that stands before that
  pub tagged_so : tags ≡ tag_each defs n k c ds (ways_of free withheld)
  -- whether it is closed by that
  pub closed_so : AreClosed ds made closed
