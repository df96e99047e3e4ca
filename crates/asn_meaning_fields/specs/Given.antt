-- The fields of meaning that a list of fields stands for.
use Rattle.std.specs.Prelude.{List, map}
use Rattle.asn_tree.specs.declared.objects.InformationObjectField.{InformationObjectField}
use Rattle.asn_meaning_heads.specs.declared.objects.GivenField.{GivenField}
use Rattle.asn_meaning_heads.specs.Objects.{shown_given}

abbrev pub shown_given_fields : List GivenField → List InformationObjectField
shown_given_fields fields = map shown_given fields
