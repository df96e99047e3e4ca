-- What a place takes, by the words of the code.
use Rattle.asn_needs.specs.Dummies.{Wanted, WantsType, WantsSet, WantsNone}
use Rattle.asn_meaning_dummies.specs.declared.places.Wanted.{Wanted as LentWanted}
use Rattle.asn_meaning_dummies.specs.declared.places.Wanted.TheVariants as lent

abbrev pub shown_wanted : LentWanted → Wanted
shown_wanted lent.Type = WantsType
shown_wanted lent.Set = WantsSet
shown_wanted lent.Nothing = WantsNone
