use Rattle.std.proofs.Common.{sym}
use Rattle.std.proofs.lemmas.Str.{IsCharBoundary-start}
use Rattle.asn_text.proofs.Positions.{line_at_start, column_at_start}
use Rattle.asn_text.proofs.input.InputFromRefStr.from.Goals as goal

pub invariant_of-result-clause-start_on_boundary : goal.invariant_of-result-clause-start_on_boundary
invariant_of-result-clause-start_on_boundary c = IsCharBoundary-start _ c.utf8.source

pub invariant_of-result-clause-line_counted : goal.invariant_of-result-clause-line_counted
invariant_of-result-clause-line_counted c = sym (line_at_start c.args.source.now)

pub invariant_of-result-clause-column_counted : goal.invariant_of-result-clause-column_counted
invariant_of-result-clause-column_counted c = sym (column_at_start c.args.source.now)
