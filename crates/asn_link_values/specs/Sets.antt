-- The member of an object set that one of the code stands for.
use Rattle.asn_tree_kinds.specs.declared.objects.ObjectSetValueOver.TheVariants.{Reference, Inline}
use Rattle.asn_link_instance.specs.Tables.{SetMember}
use Rattle.asn_link_values.specs.declared.tables.SetMember.{SetMember as LentMember}
use Rattle.asn_link_values.specs.declared.tables.SetMember.TheVariants as lent

abbrev pub shown_set_member : LentMember → SetMember
shown_set_member (lent.Reference name) = Reference name.now
shown_set_member (lent.Inline fields) = Inline fields.now
