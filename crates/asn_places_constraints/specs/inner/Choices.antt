-- The options of a head that is a CHOICE.
use Rattle.std.specs.Prelude.{List, Option, Some, None}
use Rattle.asn_tree.specs.declared.types.ChoiceOption.{ChoiceOption}
use Rattle.asn_meaning.specs.Kinds.{Kind, ChoiceKind}

-- the options of a CHOICE
abbrev pub choice_in : Kind → Option (List ChoiceOption)
choice_in (ChoiceKind options) = Some options
choice_in _ = None
