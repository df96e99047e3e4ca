use Rattle.std.proofs.Common.{◌≡◌, ◌++◌, drop}
use Rattle.asn_names.specs.Given.{given_since}
use Rattle.asn_check.proofs.given.give_reading.Given as goal

abbrev pub invariant-loop-home : goal.invariant-loop-home
invariant-loop-home l = l.all ++ given_since l.home (drop l.home l.reading) ≡ given_since 0 l.reading
