use Rattle.asn_rules.specs.Whole.{whole_rules}
use Rattle.asn_read_pieces.proofs.enumerations.read_part.Goals as goal

pub bytes_of-requires : goal.bytes_of-requires
bytes_of-requires c = (c.the_child.ensures.stands whole_rules c.args.text.now c.requires.stands).stands_by
