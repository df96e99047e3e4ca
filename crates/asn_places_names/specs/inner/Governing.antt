-- A type that governs, where there is one.
use Rattle.std.specs.Prelude.{Option}
use Rattle.std.specs.Borrow.{Bor}
use Rattle.std.specs.Option.{option_map}
use Rattle.asn_meaning_heads.specs.declared.places.Place.{Place as LentPlace}
use Rattle.asn_meaning_heads.specs.Places.{shown_place}
use Rattle.asn_meaning.specs.Scopes.{Place}

abbrev pub lent_place : Option (Bor LentPlace) → Option Place
lent_place p = option_map (λ q. shown_place q.now) p
