use Rattle.std.proofs.Common.{sym}
use Rattle.asn_tool.specs.inner.Output.{bytes_of}
use Rattle.asn_tool.proofs.Judged.{judged_course}
use Rattle.asn_tool.proofs.running.course.Goals as goal

pub returns-in-Ok-clause-course : goal.returns-in-Ok-clause-course
returns-in-Ok-clause-course g c =
    let j = rw c.as_slice.ensures at c.judge.ensures in
    judged_course c.args.words.now _ _ c.judge.result.status c.judge.result.reading c.judge.result.linked (bytes_of c.judge.result) c.in-Some.depth c.in-Ok.text (sym c.in-Some.ensures) (record { given = c.in-Ok.ensures.taken; bounded = c.in-Ok.ensures.bounded; end = c.in-Ok.ensures.end; front = c.in-Ok.ensures.first; no_fault = c.in-Ok.ensures.no_fault (λ (e : _). cc) }) j
