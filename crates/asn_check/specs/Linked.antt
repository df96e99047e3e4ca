-- What a linked answer of a reading is.
use Rattle.std.specs.Prelude.{◌≡◌, ℕ, List, Bool, map}
use Rattle.asn_check.specs.declared.linked.Linked.{Linked}
use Rattle.asn_check.specs.Judged.{AreWithheld}
use Rattle.asn_check.specs.KeptMeaning.{KeepsMeaning}
use Rattle.asn_check.specs.Needed.{WarnsOfFaults}
use Rattle.asn_check.specs.Warnings.{AreWarnings, said_by}
use Rattle.asn_link.specs.Linked.{IsLinking, Linking, is_linked, is_told, linked_definitions}
use Rattle.asn_names.specs.Definitions.{Definitions, Module, definitions_of}
use Rattle.asn_names.specs.Given.{given_definitions}
use Rattle.asn_names_index.specs.Definitions.{name_of}

-- What linking gives of the definitions of a reading, with their numbers and their modules' environments, where of names it is told
-- whether to give the definition as it is read.
pub record AreLinkedOf (reading : List Module) (names : List (List ℕ)) (withheld : List Bool) (definitions : Definitions) (made closed : List Bool) : Type 0 where
  pub standing : Definitions
  pub linking : IsLinking (given_definitions reading) standing (map (λ d. is_told names withheld (name_of d)) standing) definitions made closed

pub record IsLinkedOf (reading : List Module) (linked : Linked) : Type 0 where
  -- the headers, in order
  pub modules : linked.modules ≡ map (λ m. m.0) reading
  -- what linking makes of the definitions, with their numbers and their modules' tagging environments
  pub linking : Linking (given_definitions reading)
  -- one in which a fault stands at a place, as far as it is judged, is given as it is read, and no other is for that
  pub withheld : AreWithheld (definitions_of reading) linking.standing linking.withheld
  -- one definition for each name, the last of that name, in byte order, with the type that linking made of it, where it made one
  pub definitions : linked.definitions ≡ linked_definitions linking
  -- a warning for each fault, and for each name that is defined more than once; no other
  pub warnings : AreWarnings (definitions_of reading) (is_linked linking) (map said_by linked.warnings)
  -- where linking judges all definitions whole, the warnings are the faults that stand, and Duplicate
  pub faults : WarnsOfFaults (definitions_of reading) (map said_by linked.warnings)
  -- each clean definition accepts what it accepts in the reading
  pub meaning : KeepsMeaning reading linking
