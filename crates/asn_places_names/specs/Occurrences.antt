-- The occurrences of asn_needs that those of the code stand for.
use Rattle.std.specs.Prelude.{List, map}
use Rattle.asn_meaning_heads.specs.Scopes.{shown}
use Rattle.asn_needs.specs.Occurrences.{Need, NeedsType, NeedsTypeOrClass, NeedsChoice, NeedsComponents, NeedsValue, NeedsClass, NeedsObject, NeedsObjectOrSet, NeedsValueOrObject, NeedsAny, Occurrence}
use Rattle.asn_places_types.specs.Forms.{shown_governor}
use Rattle.asn_places_names.specs.declared.needs.Need.{Need as LentNeed}
use Rattle.asn_places_names.specs.declared.needs.Need.TheVariants as lent
use Rattle.asn_places_names.specs.declared.occurrences.Occurrence.{Occurrence as LentOccurrence}

abbrev pub shown_need : LentNeed → Need
shown_need lent.NeedsType = NeedsType
shown_need lent.NeedsTypeOrClass = NeedsTypeOrClass
shown_need lent.NeedsChoice = NeedsChoice
shown_need lent.NeedsComponents = NeedsComponents
shown_need lent.NeedsValue = NeedsValue
shown_need lent.NeedsClass = NeedsClass
shown_need lent.NeedsObject = NeedsObject
shown_need lent.NeedsObjectOrSet = NeedsObjectOrSet
shown_need lent.NeedsValueOrObject = NeedsValueOrObject
shown_need lent.NeedsAny = NeedsAny

abbrev pub shown_occurrence : LentOccurrence → Occurrence
shown_occurrence o = record { need = shown_need o.need; name = o.name.now; has_list = o.has_list; scope = shown o.scope; governing = shown_governor o.governing }

abbrev pub shown_occurrences : List LentOccurrence → List Occurrence
shown_occurrences os = map shown_occurrence os
