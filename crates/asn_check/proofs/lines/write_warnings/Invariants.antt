use Rattle.std.proofs.Common.{◌≡◌, ◌++◌, drop}
use Rattle.asn_check.specs.Listing.{warning_lines}
use Rattle.asn_check.proofs.lines.write_warnings.Given as goal

abbrev pub invariant-loop-warning : goal.invariant-loop-warning
invariant-loop-warning l = l.out ++ warning_lines (drop l.warning-index l.warnings) ≡ l.initial.out ++ warning_lines l.warnings
