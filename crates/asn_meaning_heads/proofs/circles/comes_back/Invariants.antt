use Rattle.std.proofs.Common.{◌≡◌}
use Rattle.asn_meaning_heads.specs.Circles.{arrives}
use Rattle.asn_meaning_heads.proofs.circles.comes_back.Given as goal

abbrev pub invariant-loop-left : goal.invariant-loop-left
invariant-loop-left l = arrives l.names.definitions.now l.name l.left l.at ≡ arrives l.names.definitions.now l.name l.turns l.name
