use Rattle.std.proofs.Common.{◌≡◌, ◌++◌, drop}
use Rattle.asn_names.specs.Given.{given_from}
use Rattle.asn_check.proofs.given.give_module.Given as goal

abbrev pub invariant-loop-item : goal.invariant-loop-item
invariant-loop-item l = l.all ++ given_from l.environment l.home l.item (drop l.item l.definitions) ≡ l.initial.all ++ given_from l.environment l.home 0 l.definitions
