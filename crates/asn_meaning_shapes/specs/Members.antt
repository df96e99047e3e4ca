-- The members of meaning that those of the code stand for.
use Rattle.std.specs.Prelude.{List, map}
use Rattle.asn_tree.specs.declared.types.SequenceOrSetMember.{out-SequenceOrSetMember}
use Rattle.asn_meaning_shapes.specs.declared.members.Member.{Member as LentMember}
use Rattle.asn_meaning_heads.specs.Scopes.{shown}
use Rattle.asn_meaning.specs.Meaning.{Member}

abbrev pub shown_member : LentMember → Member
shown_member m = record { scope = shown m.scope; written = out-SequenceOrSetMember m.written.now; is_addition = m.is_addition }

abbrev pub shown_members : List LentMember → List Member
shown_members ms = map shown_member ms
