-- The class of meaning that a class of the code stands for.
use Rattle.asn_tree.specs.declared.objects.InformationObjectClass.{InformationObjectClass}
use Rattle.asn_names_index.specs.declared.classes.Class.{Class}
use Rattle.asn_names_index.specs.declared.classes.Class.TheVariants.{Written, TypeIdentifier}
use Rattle.asn_meaning.specs.Definitions.{type_identifier}

abbrev pub shown_class : Class → InformationObjectClass
shown_class (Written c) = c.now
shown_class TypeIdentifier = type_identifier
