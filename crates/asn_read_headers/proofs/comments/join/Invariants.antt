use Rattle.std.proofs.Common.{◌≡◌, drop}
use Rattle.std.specs.Prelude.{fold}
use Rattle.asn_read_headers.specs.Comments.{joined_lines, with_line}
use Rattle.asn_read_headers.proofs.comments.join.Given as goal

abbrev pub invariant-loop-line : goal.invariant-loop-line
invariant-loop-line l = fold with_line l.joined (drop l.line-index l.lines) ≡ joined_lines l.lines
