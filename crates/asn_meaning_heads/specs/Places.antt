-- The places and targets of meaning that those of the code stand for.
use Rattle.std.specs.Option.{option_copied}
use Rattle.asn_meaning_heads.specs.declared.places.Place.{Place as LentPlace}
use Rattle.asn_meaning_heads.specs.declared.places.Target.{Target as LentTarget}
use Rattle.asn_meaning_heads.specs.Kinds.{shown_type}
use Rattle.asn_meaning_heads.specs.Scopes.{shown}
use Rattle.asn_meaning.specs.Placed.{listed}
use Rattle.asn_meaning.specs.Scopes.{Place, Target}

abbrev pub shown_place : LentPlace → Place
shown_place p = record { scope = shown p.scope; ty = shown_type p.ty }

abbrev pub shown_target : LentTarget → Target
shown_target t = record { place = shown_place t.place; constraints = listed (option_copied t.constraints) }
