-- The field of meaning that a field which an object gives stands for.
use Rattle.std.specs.Prelude.{ℕ, List}
use Rattle.asn_tree.specs.declared.objects.InformationObjectField.{InformationObjectField}
use Rattle.asn_tree.specs.declared.objects.InformationObjectField.TheVariants as field
use Rattle.asn_meaning_heads.specs.declared.objects.GivenField.{GivenField}
use Rattle.asn_meaning_heads.specs.declared.objects.Gives.{Gives}
use Rattle.asn_meaning_heads.specs.declared.objects.Gives.TheVariants as lent
use Rattle.asn_meaning_heads.specs.Kinds.{shown_type}
use Rattle.asn_meaning_heads.specs.Values.{shown_value}

abbrev pub shown_gives : List ℕ → Gives → InformationObjectField
shown_gives name (lent.Type ty) = field.TypeField (record { identifier = name; ty = shown_type ty })
shown_gives name (lent.Value v) = field.FixedValueField (record { identifier = name; value = shown_value v })
shown_gives name (lent.Set s) = field.ObjectSetField (record { identifier = name; value = s.now })

abbrev pub shown_given : GivenField → InformationObjectField
shown_given f = shown_gives f.name.now f.gives
