use Rattle.std.proofs.Common.{◌≡◌, drop}
use Rattle.std.specs.Prelude.{fold}
use Rattle.asn_read_nodes.specs.Paths.{joined, with_step}
use Rattle.asn_read_nodes.proofs.paths.join_steps.Given as goal

abbrev pub invariant-loop-step : goal.invariant-loop-step
invariant-loop-step l = fold with_step l.path (drop l.step-index l.steps) ≡ joined l.steps
