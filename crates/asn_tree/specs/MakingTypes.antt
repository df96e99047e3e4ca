-- Types that are made of parts.
use Rattle.std.specs.Prelude.{ℕ, ℤ, ◌<◌, ◌≤◌, List, [], ◌∷◌, ◌++◌, length, Option, None, Bool, false, true, ◌||◌, is_some, IsSomeAnd}
use Rattle.std.specs.Option.{option_map}
use Rattle.asn_tree_leaves.specs.declared.markers.ExtensionMarker.{ExtensionMarker}
use Rattle.asn_tree_leaves.specs.declared.markers.OptionalMarker.{OptionalMarker}
use Rattle.asn_tree.specs.declared.constraints.Constraint.{Constraint}
use Rattle.asn_tree.specs.declared.constraints.Constraint.TheVariants as constraint
use Rattle.asn_tree.specs.declared.constraints.ElementOrSetOperation.TheVariants as set
use Rattle.asn_tree.specs.declared.constraints.SubtypeElement.TheVariants as element
use Rattle.asn_tree_headers.specs.declared.headers.AsnTag.{AsnTag}
use Rattle.asn_tree.specs.declared.types.ASN1Type.{ASN1Type}
use Rattle.asn_tree.specs.declared.types.Choice.{Choice, roll-Choice}
use Rattle.asn_tree.specs.declared.types.ChoiceOption.{ChoiceOption, roll-ChoiceOption}
use Rattle.asn_tree.specs.declared.types.IntegerOver.{IntegerOver}
use Rattle.asn_tree.specs.declared.types.SequenceComponent.{SequenceComponent}
use Rattle.asn_tree.specs.declared.types.SequenceOrSet.{SequenceOrSet, out-SequenceOrSet, roll-SequenceOrSet}
use Rattle.asn_tree.specs.declared.types.SequenceOrSetMember.{SequenceOrSetMember, roll-SequenceOrSetMember}
use Rattle.asn_tree.specs.declared.types.SequenceOrSetOf.{SequenceOrSetOf, roll-SequenceOrSetOf}
use Rattle.asn_tree.specs.declared.values.ASN1Value.{ASN1Value}
use Rattle.asn_tree.specs.declared.values.ASN1Value.TheVariants as value
use Rattle.asn_tree_equality.specs.Making.{listed, marked}
use Rattle.asn_tree.specs.MakingComponents.{members_in, names_in, places_in}

-- an INTEGER between two numbers, each within; an absent one is MIN or MAX (X.680 51.4)
abbrev pub bounded : Option ℤ → Option ℤ → Bool → IntegerOver Constraint
bounded min max extensible =
    record {
      constraints =
          constraint.SubtypeConstraint (record {
            set = set.Element (element.ValueRange (option_map value.Integer min) (option_map value.Integer max) false false extensible);
            extensible = extensible;
          }) ∷ [];
      distinguished_values = None;
    }

-- a SEQUENCE OF or SET OF (X.680 26.1, 28.1)
abbrev pub list_of : Option (List Constraint) → ASN1Type → SequenceOrSetOf
list_of constraints element_type =
    roll-SequenceOrSetOf (record {
      constraints = listed constraints;
      element_type = element_type;
      is_recursive = false;
    })

-- a SEQUENCE or SET of these components, those of the second list as additions (X.680 25.1); its members are numbered
-- over both lists, and the extension marker stands behind the members of the first
abbrev pub sequence_of : List SequenceComponent → Option ExtensionMarker → Option (List SequenceComponent) → Option (List Constraint) → SequenceOrSet
sequence_of components marker additions constraints =
    roll-SequenceOrSet (record {
      components_of = names_in components ++ names_in (listed additions);
      components_at = places_in false 0 components ++ places_in true (length (members_in components)) (listed additions);
      extensible = marked marker (length (members_in components));
      constraints = listed constraints;
      members = members_in components ++ members_in (listed additions);
    })

-- a SEQUENCE or SET of these members, those of the second list as additions (X.680 25.1)
abbrev pub sequence_of_members : List SequenceOrSetMember → Option ExtensionMarker → Option (List SequenceOrSetMember) → Option (List Constraint) → SequenceOrSet
sequence_of_members members marker additions constraints =
    roll-SequenceOrSet (record {
      components_of = [];
      components_at = [];
      extensible = marked marker (length members);
      constraints = listed constraints;
      members = members ++ listed additions;
    })

-- the member at this index, counted from 0, stands behind the extension marker (X.680 25.1)
abbrev pub IsAddition : SequenceOrSet → ℕ → Type 0
IsAddition sequence index =
    let s = out-SequenceOrSet sequence in
    IsSomeAnd s.extensible (λ first. (first ≤ index) × (index < length s.members))

-- a member of a SEQUENCE or SET (X.680 25.1), which OPTIONAL or DEFAULT makes optional
abbrev pub member_of : List ℕ → Option AsnTag → ASN1Type → Option (List Constraint) → Option OptionalMarker → Option ASN1Value → SequenceOrSetMember
member_of name tag ty constraints optional default =
    roll-SequenceOrSetMember (record {
      name = name;
      tag = tag;
      ty = ty;
      default_value = default;
      is_optional = is_some optional || is_some default;
      is_recursive = false;
      constraints = listed constraints;
    })

-- a CHOICE of these options, those of the second list as additions (X.680 29.1)
abbrev pub choice_of : List ChoiceOption → Option ExtensionMarker → Option (List ChoiceOption) → Choice
choice_of options marker additions =
    roll-Choice (record {
      extensible = marked marker (length options);
      options = options ++ listed additions;
      constraints = [];
    })

-- an option of a CHOICE (X.680 29.1)
abbrev pub option_of : List ℕ → Option AsnTag → ASN1Type → Option (List Constraint) → ChoiceOption
option_of name tag ty constraints =
    roll-ChoiceOption (record {
      name = name;
      tag = tag;
      ty = ty;
      constraints = listed constraints;
      is_recursive = false;
    })
