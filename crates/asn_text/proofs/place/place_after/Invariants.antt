use Rattle.std.proofs.Common.{◌≡◌, ◌+◌}
use Rattle.asn_text.specs.Position.{line_at, column_at}
use Rattle.asn_text.proofs.place.place_after.Given as goal

abbrev pub invariant-loop-byte : goal.invariant-loop-byte
invariant-loop-byte l = record {
  line : l.line ≡ line_at l.text (l.start + l.byte-index);
  column : l.column ≡ column_at l.text (l.start + l.byte-index);
}
