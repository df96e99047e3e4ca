use Rattle.asn_meaning_unchanged.proofs.Parts.{literal_of_parts}
use Rattle.asn_meaning_unchanged.proofs.literals.+literals.Goals as goal

pub literal_of-returns-in-SequenceOrSet : goal.literal_of-returns-in-SequenceOrSet
literal_of-returns-in-SequenceOrSet h c = rw (literal_of_parts c.args.value.now _ c.in-SequenceOrSet.is, ← c.as_slice.ensures) c.items.ensures
