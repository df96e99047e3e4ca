use Rattle.std.proofs.Common.{sym}
use Rattle.asn_text.proofs.Positions.{line_at_start, column_at_start}
use Rattle.asn_text.proofs.place.place_of.Goals as goal

pub place_after-requires-clause-line : goal.place_after-requires-clause-line
place_after-requires-clause-line c = sym (line_at_start c.args.text.now)

pub place_after-requires-clause-column : goal.place_after-requires-clause-column
place_after-requires-clause-column c = sym (column_at_start c.args.text.now)
