use Rattle.std.proofs.Common.{◌≡◌, ◌++◌, drop, map}
use Rattle.asn_check.specs.Judged.{is_withheld}
use Rattle.asn_check.proofs.judging.withheld_of.Given as goal

abbrev pub invariant-loop-judgement : goal.invariant-loop-judgement
invariant-loop-judgement l = l.withheld ++ map is_withheld (drop l.judgement-index l.judgements) ≡ map is_withheld l.judgements
