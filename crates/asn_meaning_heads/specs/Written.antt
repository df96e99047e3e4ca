-- The written form of meaning that one of the code stands for.
use Rattle.std.specs.Option.{option_copied}
use Rattle.asn_meaning_heads.specs.declared.written.Written.{Written as LentWritten}
use Rattle.asn_meaning_heads.specs.declared.written.Written.TheVariants as lent
use Rattle.asn_meaning.specs.Written.{Written, AllWritten, NullWritten, TruthWritten, NumberWritten, RealWritten, TextWritten, BitsWritten, BitNamesWritten, OctetsWritten, ArcsWritten, ItemWritten, NameWritten, BracesWritten, FieldsWritten, ElementsWritten, AlternativeWritten, NestedWritten, explicit_fields}

abbrev pub shown_written : LentWritten → Written
shown_written lent.All = AllWritten
shown_written lent.Null = NullWritten
shown_written (lent.Truth b) = TruthWritten b
shown_written (lent.Number i) = NumberWritten i
shown_written (lent.Real x) = RealWritten x
shown_written (lent.Text s) = TextWritten s.now
shown_written (lent.Bits bits) = BitsWritten bits.now
shown_written (lent.BitNames names) = BitNamesWritten names.now
shown_written (lent.Octets octets) = OctetsWritten octets.now
shown_written (lent.Arcs arcs) = ArcsWritten arcs.now
shown_written (lent.Item name) = ItemWritten name.now
shown_written (lent.Name parent name) = NameWritten (option_copied parent) name.now
shown_written (lent.Braces items) = BracesWritten items.now
shown_written (lent.Fields fields) = FieldsWritten (explicit_fields fields.now)
shown_written (lent.Elements vs) = ElementsWritten vs.now
shown_written (lent.Alternative name v) = AlternativeWritten name.now v.now
shown_written (lent.Nested v) = NestedWritten v.now
