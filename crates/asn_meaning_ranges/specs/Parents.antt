-- What of meaning a parent of the code stands for.
use Rattle.std.specs.Option.{option_map}
use Rattle.asn_meaning_heads.specs.Places.{shown_place}
use Rattle.asn_meaning_ranges.specs.declared.parents.Parent.{Parent as LentParent}
use Rattle.asn_meaning_ranges.specs.declared.parents.Parent.TheVariants as lent
use Rattle.asn_meaning_ranges.specs.Sets.{shown_numbers}
use Rattle.asn_meaning.specs.Meaning.{Parent, ValuesOf, CharactersOf}

abbrev pub shown_parent : LentParent → Parent
shown_parent (lent.Values head numbers) = ValuesOf (shown_place head.now) (option_map shown_numbers numbers.now)
shown_parent (lent.Characters codes) = CharactersOf (shown_numbers codes.now)
