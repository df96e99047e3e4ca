use Rattle.std.proofs.Common.{◌≡◌, drop}
use Rattle.asn_meaning.specs.Constraints.{is_listed}
use Rattle.asn_judge.proofs.presence.is_listed.Given as goal

abbrev pub invariant-loop-component : goal.invariant-loop-component
invariant-loop-component l = is_listed (drop l.component-index l.listed) l.name ≡ is_listed l.listed l.name
