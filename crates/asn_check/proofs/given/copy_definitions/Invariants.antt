use Rattle.std.proofs.Common.{◌≡◌, ◌++◌, drop}
use Rattle.asn_names.specs.Definitions.{definitions_of}
use Rattle.asn_check.proofs.given.copy_definitions.Given as goal

abbrev pub invariant-loop-module : goal.invariant-loop-module
invariant-loop-module l = l.all ++ definitions_of (drop l.module-index l.module-items) ≡ definitions_of l.module-items
