-- Lists of places.
use Rattle.std.specs.Prelude.{◌↔◌, List}
use Rattle.std.specs.List.{Contains}
use Rattle.asn_needs.specs.Sites.{Node, Seen, Site}
use Rattle.asn_needs.specs.Stands.{IsPlaceOf, StandsIn}

-- The list has a place exactly where it is one of the first ones or stands in one at some depth.
abbrev pub AreBelow : Seen → List Site → List Site → Type 0
AreBelow S first all = (s : Site) → StandsIn S first s ↔ Contains all s

-- The list has exactly the places of a definition or a class's field.
abbrev pub ArePlacesOf : Seen → Node → List Site → Type 0
ArePlacesOf S x all = (s : Site) → IsPlaceOf S x s ↔ Contains all s
