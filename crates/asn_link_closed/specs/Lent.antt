-- The names that those of the code stand for.
use Rattle.std.specs.Prelude.{List, map}
use Rattle.std.specs.Option.{option_copied}
use Rattle.asn_link_closed.specs.StayingNames.{StayingName}
use Rattle.asn_link_closed.specs.declared.names.StayingName.{StayingName as LentName}

abbrev pub shown_staying_name : LentName → StayingName
shown_staying_name n = (option_copied n.object, n.name.now)

abbrev pub shown_staying_names : List LentName → List StayingName
shown_staying_names ns = map shown_staying_name ns
