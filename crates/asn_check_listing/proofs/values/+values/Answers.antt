use Rattle.asn_check_listing.proofs.Forms.{value_of_parts}
use Rattle.asn_check_listing.proofs.values.+values.Goals as goal

pub write_value-returns-in-SequenceOrSet : goal.write_value-returns-in-SequenceOrSet
write_value-returns-in-SequenceOrSet h c = rw (value_of_parts c.args.value.now _ c.in-SequenceOrSet.is, ← c.as_slice.ensures) c.write_parts.ensures
