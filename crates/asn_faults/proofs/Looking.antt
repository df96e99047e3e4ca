-- What stands at one of the places of a definition.
use Rattle.std.proofs.Common.{◌≡◌, List, Bool, true, sym, ◌∙◌}
use Rattle.std.specs.Prelude.{◌↔◌}
use Rattle.std.specs.List.{list_any}
use Rattle.asn_needs.specs.Faults.{IsSomewhere}
use Rattle.asn_needs.specs.Sites.{Node, Seen, Site}
use Rattle.asn_needs.proofs.Passing.{passes, some_passes}
use Rattle.asn_places.specs.Places.{ArePlacesOf}

pub told_somewhere : (S : Seen) (x : Node) (f : Seen → Site → Bool) (all : List Site) (b : Bool) → ArePlacesOf S x all → b ≡ list_any (f S) all → IsSomewhere S x f ↔ (b ≡ true)
told_somewhere S x f all b places e = (to, from)
  where
    to : IsSomewhere S x f → b ≡ true
    to h = e ∙ passes (f S) all h.at ((places h.at).0 h.stands) h.holds

    from : b ≡ true → IsSomewhere S x f
    from is = let some = some_passes (f S) all (sym e ∙ is) in record { at = some.0; stands = (places some.0).1 some.1; holds = some.2 }
