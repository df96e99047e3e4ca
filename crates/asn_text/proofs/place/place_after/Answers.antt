use Rattle.std.proofs.Common.{◌≡◌, ◌≢◌, ◌+◌, get_or, ap, sym, ◌∙◌, arith}
use Rattle.asn_text.proofs.Parts.{range_within, range_byte, range_length}
use Rattle.asn_text.proofs.Positions.{line_after_feed, line_after_other, column_after_feed, column_after_other, line_bound, column_bound}
use Rattle.asn_text.specs.Position.{line_at, column_at}
use Rattle.asn_text.proofs.place.place_after.Goals as goal
use Rattle.asn_text.proofs.place.place_after.Goals.{then-byte-eq10, else-byte-eq10}

pub loop-byte-preserved : goal.loop-byte-preserved
loop-byte-preserved c =
    let text = c.args.text.now in
    let start = c.args.start in
    let i = c.loop-byte.byte-index in
    let at = start + i in
    let next : start + (i + 1) ≡ at + 1 = omega arith in
    let read = range_byte text start c.args.end i c.loop-byte-test.true in
    let within = (range_within text start c.args.end i c.loop-byte-test.true).1 in
    elim c.if-byte-eq10.branch [
      | then-byte-eq10 w ↦
          let feed = sym read ∙ w.if-byte-eq10.true in
          record {
            line = rw next (omega (arith, line_after_feed text at within feed));
            column = rw next (omega (arith, column_after_feed text at within feed));
          }
      | else-byte-eq10 w ↦
          let other : get_or text at 0 ≢ 10 = λ feed. w.if-byte-eq10.false (read ∙ feed) in
          record {
            line = rw next (omega (arith, line_after_other text at within other));
            column = rw next (omega (arith, column_after_other text at within other));
          }
    ]

pub returns-clause-line : goal.returns-clause-line
returns-clause-line c =
    let all : c.args.start + c.loop-byte.byte-index ≡ c.args.end = omega (arith, range_length c.args.text.now c.args.start c.args.end c.requires.within) in
    c.loop-byte.invariant.line ∙ ap (line_at c.args.text.now) all

pub returns-clause-column : goal.returns-clause-column
returns-clause-column c =
    let all : c.args.start + c.loop-byte.byte-index ≡ c.args.end = omega (arith, range_length c.args.text.now c.args.start c.args.end c.requires.within) in
    c.loop-byte.invariant.column ∙ ap (column_at c.args.text.now) all

-- the line is at most the number of bytes before it, and 1
pub overflow_add-line : goal.overflow_add-line
overflow_add-line c =
    let within = (range_within c.args.text.now c.args.start c.args.end c.loop-byte.byte-index c.loop-byte-test.true).1 in
    omega (arith, line_bound c.args.text.now (c.args.start + c.loop-byte.byte-index))

-- and so is the column
pub overflow_add-column : goal.overflow_add-column
overflow_add-column c =
    let within = (range_within c.args.text.now c.args.start c.args.end c.loop-byte.byte-index c.loop-byte-test.true).1 in
    omega (arith, column_bound c.args.text.now (c.args.start + c.loop-byte.byte-index))
