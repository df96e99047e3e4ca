-- What is found of the tag that a type brings, one name on.
use Rattle.std.specs.Prelude.{ℕ, List, Option, Some, None, false, is_some, if◌then◌else◌}
use Rattle.asn_tree_headers.specs.declared.headers.AsnTag.{AsnTag}
use Rattle.asn_tree_kinds.specs.declared.types.ChoiceSelectionType.{ChoiceSelectionType}
use Rattle.asn_meaning.specs.Answers.{once}
use Rattle.asn_meaning.specs.Definitions.{Definitions, type_named}
use Rattle.asn_meaning.specs.Kinds.{Kind, ReferenceKind, SelectionKind}
use Rattle.asn_meaning.specs.Layers.{OptionLayer, ReferenceLayer}
use Rattle.asn_meaning.specs.Meaning.{Meaning}
use Rattle.asn_meaning.specs.Names.{head_named, option_named, options_of, reference_target}
use Rattle.asn_meaning.specs.Scopes.{Place, Scope, Target, bound_to}
use Rattle.asn_meaning.specs.Shapes.{option_place}
use Rattle.asn_meaning_heads.specs.Places.{shown_place}
use Rattle.asn_link_instance.specs.Instance.{Instances, stays}
use Rattle.asn_link_values.specs.Choosing.{chosen}
use Rattle.asn_link_values.specs.declared.tags.Brought.{Brought as LentBrought}
use Rattle.asn_link_values.specs.declared.tags.Brought.TheVariants as lent

-- the tag is told, or it is the one that the type of another place brings
pub data Brought : Type 0 where
  Told : Option (Option AsnTag) → Brought
  AsPlace : Place → Brought

abbrev pub shown_brought : LentBrought → Brought
shown_brought (lent.Told tag) = Told tag
shown_brought (lent.AsPlace p) = AsPlace (shown_place p)

-- what is told, by instances within some levels
abbrev pub told : Instances → Brought → Option (Option AsnTag)
told I (Told tag) = tag
told I (AsPlace p) = I.of_tag p.scope p.ty

-- the tag of the definition that a plain name stands for
abbrev pub definition_tag : Definitions → Scope → List ℕ → Option AsnTag
definition_tag defs scope name = if is_some (bound_to scope name) then None else once None (type_named defs name) (λ d. d.tag)

-- what a target brings, where the name that leads to it has this tag of its own
abbrev pub target_brings : Option Target → Option AsnTag → Brought
target_brings None own = Told None
target_brings (Some x) (Some tag) = Told (Some (Some tag))
target_brings (Some x) None = AsPlace x.place

-- what an option brings
abbrev pub option_brings : Scope → Option OptionLayer → Brought
option_brings scope None = Told None
option_brings scope (Some o) = once (AsPlace (option_place scope o)) o.tag (λ tag. Told (Some (Some tag)))

-- what the option of a head brings
abbrev pub head_brings : List ℕ → Option Place → Brought
head_brings name None = Told None
head_brings name (Some h) = option_brings h.scope (option_named (options_of h) name)

-- what a reference brings: one that stays has no tag
abbrev pub reference_brings : Definitions → Scope → ReferenceLayer → Brought
reference_brings defs scope x =
    if stays chosen false scope x then Told (Some None) else target_brings (reference_target defs scope x) (definition_tag defs scope x.identifier)

-- what a selection brings
abbrev pub selection_brings : Meaning → Scope → ChoiceSelectionType → Brought
selection_brings M scope x = head_brings x.selected_option (head_named M scope x.choice_name)

-- what a type of the kind brings
abbrev pub brings : Definitions → Meaning → Scope → Kind → Brought
brings defs M scope (ReferenceKind x) = reference_brings defs scope x
brings defs M scope (SelectionKind x) = selection_brings M scope x
brings defs M scope _ = Told (Some None)
