-- The components of a SEQUENCE or SET, sorted into members and names after `COMPONENTS OF` (X.680 25.1).
use Rattle.std.specs.Prelude.{ℕ, ◌+◌, List, [], ◌∷◌, ◌++◌, length, Bool}
use Rattle.asn_tree.specs.declared.making.components.Part.{Part}
use Rattle.asn_tree.specs.declared.making.components.Part.TheVariants as part
use Rattle.asn_tree.specs.declared.making.components.Sorted.{Sorted}
use Rattle.asn_tree.specs.declared.types.SequenceComponent.{SequenceComponent}
use Rattle.asn_tree.specs.declared.types.SequenceComponent.TheVariants.{Member, ComponentsOf}
use Rattle.asn_tree.specs.declared.types.SequenceOrSetMember.{SequenceOrSetMember}

-- the members among the components
abbrev pub members_in : List SequenceComponent → List SequenceOrSetMember
members_in [] = []
members_in (Member member ∷ components) = member ∷ members_in components
members_in (ComponentsOf name ∷ components) = members_in components

-- the names after `COMPONENTS OF`
abbrev pub names_in : List SequenceComponent → List (List ℕ)
names_in [] = []
names_in (Member member ∷ components) = names_in components
names_in (ComponentsOf name ∷ components) = name ∷ names_in components

-- for each such name how many members stand before it, counted from a number on, and whether these are the additions
abbrev pub places_in : Bool → ℕ → List SequenceComponent → List (ℕ × Bool)
places_in additions before [] = []
places_in additions before (Member member ∷ components) = places_in additions (before + 1) components
places_in additions before (ComponentsOf name ∷ components) = (before, additions) ∷ places_in additions before components

abbrev pub nothing : {M : Type 0} → Sorted M
nothing = record { members = []; names = []; places = [] }

-- what has been sorted and, behind it, these components
abbrev pub with_components : Bool → Sorted SequenceOrSetMember → List SequenceComponent → Sorted SequenceOrSetMember
with_components additions sorted components =
    record {
      members = sorted.members ++ members_in components;
      names = sorted.names ++ names_in components;
      places = sorted.places ++ places_in additions (length sorted.members) components;
    }

abbrev pub part_of : SequenceComponent → Part SequenceOrSetMember
part_of (Member member) = part.Member member
part_of (ComponentsOf name) = part.Name name

abbrev pub with_part : {M : Type 0} → Bool → Sorted M → Part M → Sorted M
with_part additions sorted (part.Member member) = record sorted { members = sorted.members ++ member ∷ [] }
with_part additions sorted (part.Name name) =
    record sorted {
      names = sorted.names ++ name ∷ [];
      places = sorted.places ++ (length sorted.members, additions) ∷ [];
    }

abbrev pub with_parts : {M : Type 0} → Bool → Sorted M → List (Part M) → Sorted M
with_parts additions sorted [] = sorted
with_parts additions sorted (p ∷ ps) = with_parts additions (with_part additions sorted p) ps
