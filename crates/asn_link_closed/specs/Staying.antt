-- What the names that stay in a type tell.
use Rattle.std.specs.Prelude.{◌≡◌, true, ◌↔◌, List}
use Rattle.std.specs.List.{list_all}
use Rattle.asn_tree.specs.declared.types.ASN1Type.{ASN1Type}
use Rattle.asn_link_instance.specs.Staying.{Names, NamesStay}
use Rattle.asn_link_closed.specs.StayingNames.{StayingName, may_stay, staying_names}

-- All names may stay in a type exactly if each of these may.
abbrev pub StayBy : ASN1Type → List StayingName → Type 0
StayBy ty names = (keeps : Names) → NamesStay keeps ty ↔ (list_all (may_stay keeps) names ≡ true)

-- They are the names that stay in it.
abbrev pub NamesThatStay : Type 0
NamesThatStay = (ty : ASN1Type) → StayBy ty (staying_names ty)
