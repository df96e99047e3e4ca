-- The kinds of definitions of asn_needs that those of the code stand for.
use Rattle.asn_needs.specs.Occurrences.{Sort, OfTypes, OfValues, OfClasses, OfObjects, OfSets}
use Rattle.asn_places_names.specs.declared.sorts.Sort.{Sort as LentSort}
use Rattle.asn_places_names.specs.declared.sorts.Sort.TheVariants as lent

abbrev pub shown_sort : LentSort → Sort
shown_sort lent.Types = OfTypes
shown_sort lent.Values = OfValues
shown_sort lent.Classes = OfClasses
shown_sort lent.Objects = OfObjects
shown_sort lent.Sets = OfSets
