-- The place of a field that an object of a class gives.
use Rattle.std.specs.Prelude.{Option}
use Rattle.asn_meaning_heads.specs.declared.objects.GivenField.{GivenField as LentGivenField}
use Rattle.asn_meaning_heads.specs.Objects.{shown_given}
use Rattle.asn_needs.specs.Sites.{GivenField, Site, beside}
use Rattle.asn_tree.specs.declared.objects.InformationObjectClass.{InformationObjectClass}

abbrev pub given_site : Site → Option InformationObjectClass → LentGivenField → Site
given_site s c f = beside s (GivenField c (shown_given f))
