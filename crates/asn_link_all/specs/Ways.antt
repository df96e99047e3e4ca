-- How each definition is linked.
use Rattle.std.specs.Prelude.{List, [], ◌∷◌, Bool, if◌then◌else◌}
use Rattle.asn_link_all.specs.declared.ways.Way.{Way}
use Rattle.asn_link_all.specs.declared.ways.Way.TheVariants.{Whole, InCircles, AsRead}

-- one that is withheld as it is read; any other whole where it leads to no circle
abbrev pub way_of : Bool → Bool → Way
way_of is_free withheld = if withheld then AsRead else if is_free then Whole else InCircles

-- of each in its turn
abbrev pub ways_of : List Bool → List Bool → List Way
ways_of [] withheld = []
ways_of (b ∷ free) [] = []
ways_of (b ∷ free) (w ∷ withheld) = way_of b w ∷ ways_of free withheld
